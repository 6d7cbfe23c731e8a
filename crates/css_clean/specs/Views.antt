-- What contracts see of policies, of places and of what is dropped.
use Rattle.std.specs.Prelude.{map}
use Rattle.std.specs.Cow.{cow_str_bytes}
use Rattle.clean_values.specs.Views.{changes_of, limits_of}
use Rattle.css_syntax.specs.DeclarationLists.{DeclarationText}
use Rattle.css_syntax.specs.Views.{block_of}
use Rattle.css_clean.specs.declared.policy.Policy.{Policy}
use Rattle.css_clean.specs.declared.policy.ValuePlace.{ValuePlace}
use Rattle.css_clean.specs.declared.written.Written.{Written}
use Rattle.css_clean.specs.declared.policy.Place.{Place}
use Rattle.css_clean.specs.declared.policy.Place.TheVariants as places
use Rattle.css_clean.specs.declared.selectors.SheetPolicy.{SheetPolicy}
use Rattle.css_clean.specs.declared.dropped.Dropped.{Dropped}
use Rattle.css_clean.specs.declared.fronts.Inner.{Inner}
use Rattle.css_clean.specs.declared.sheet.Part.{Part}
use Rattle.css_clean.specs.declared.sheet.GroupRule.{GroupRule}
use Rattle.css_clean.specs.Policies.{PolicyText, ValuePlace as ValuePlaceText, PlaceText, in_value, in_selector, in_media, in_supports, in_name, in_frames, in_scope, in_sheet}
use Rattle.css_clean.specs.Cleaning.{DroppedText}
use Rattle.css_clean.specs.Selectors.{SheetPolicyText}
use Rattle.css_clean.specs.Fronts.{InnerText}
use Rattle.css_clean.specs.DroppedSheets.{StatementPlace}
use Rattle.css_clean.specs.KeptSheets.{GroupText}

abbrev pub policy_of : Policy → PolicyText
policy_of p = record {
  properties = map (λ name. name.now) p.properties.now;
  functions = map (λ name. name.now) p.functions.now;
  strings = map (λ name. name.now) p.strings.now;
  important = p.important;
  limits = limits_of p.limits;
  longest = p.longest;
  changes = changes_of p.changes;
}

abbrev pub written_of : Written → DeclarationText
written_of w = record {
  name = cow_str_bytes w.name;
  value = cow_str_bytes w.value;
  important = w.important;
  closed = w.closed;
}

abbrev pub value_place_of : ValuePlace → ValuePlaceText
value_place_of p = record {
  functions = map (λ name. name.now) p.functions.now;
  strings = p.strings;
  sources = p.sources;
  loads = p.loads;
  named = p.named;
  changes = changes_of p.changes;
}

abbrev pub sheet_policy_of : SheetPolicy → SheetPolicyText
sheet_policy_of p = record {
  declarations = policy_of p.declarations;
  scope = p.scope.now;
  itself = p.itself;
  pseudos = map (λ name. name.now) p.pseudos.now;
  media = map (λ name. name.now) p.media.now;
}

abbrev pub place_of : Place → PlaceText
place_of (places.Value place) = in_value (value_place_of place)
place_of (places.Selector pseudos) = in_selector (map (λ name. name.now) pseudos.now)
place_of (places.Media words) = in_media (map (λ name. name.now) words.now)
place_of places.Supports = in_supports
place_of places.Name = in_name
place_of places.Frames = in_frames
place_of places.Scope = in_scope
place_of (places.Sheet functions pseudos media) =
    in_sheet (map (λ name. name.now) functions.now) (map (λ name. name.now) pseudos.now)
    (map (λ name. name.now) media.now)

abbrev pub dropped_of : Dropped → DroppedText
dropped_of d = record { start = d.start; after = d.end; reason = d.reason }

abbrev pub inner_view : Inner → InnerText
inner_view i = record { text = i.text.now; is_child = i.is_child }

abbrev pub place_of_part : Part → StatementPlace
place_of_part p = record {
  stop = p.stop;
  from = p.found.from.now;
  inside = p.found.inside.now;
  text = p.found.part.text.now;
}

abbrev pub group_text_of : GroupRule → GroupText
group_text_of g = record {
  group = g.group;
  prelude = cow_str_bytes g.prelude;
  block = block_of g.block;
}
