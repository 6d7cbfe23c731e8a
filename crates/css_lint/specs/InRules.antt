-- What is wrong within the rules that an item of a sheet is or has: what is wrong within their blocks, and a
-- selector that is in its list again.
use Rattle.std.specs.Prelude.{ℕ, ◌-◌, Bool, if◌then◌else◌, List, [], ◌++◌, length, map, nat_eq, None, Result, Ok, Err}
use Rattle.std.specs.List.{flat_map, list_any}
use Rattle.css_text.specs.AsciiBytes.{comma}
use Rattle.css_syntax.specs.declared.quality.Fault.{Fault}
use Rattle.css_syntax.specs.Parts.{Stated}
use Rattle.css_syntax.specs.Statements.{StatementText}
use Rattle.css_selector_text.specs.Components.{Placed}
use Rattle.css_selector_text.specs.Names.{Names}
use Rattle.css_sheet.specs.Places.{PlacesText}
use Rattle.css_sheet.specs.RuleSelectors.{context, listed_under, text_between}
use Rattle.css_sheet.specs.SheetItems.{SheetItemText}
use Rattle.css_lint.specs.declared.kinds.Kind.TheVariants.{RepeatedSelector}
use Rattle.css_lint.specs.InBlocks.{keyframe_places, repeated_in_block}
use Rattle.css_lint.specs.Keys.{KeyedText, repeated, spaced}
use Rattle.css_lint.specs.Places.{PlaceText, sized}
use Rattle.css_lint.specs.PlacedRules.{RuleAt, keyframes, offset_after, style_rules}

-- ---- selectors

-- a selector of a list that ends at an offset, with what it says
abbrev pub keyed_selector : (end : ℕ) → Placed → KeyedText
keyed_selector end one = record {
  key = spaced (text_between one.from one.to);
  place = sized RepeatedSelector (end - length one.from) (length one.from - length one.to);
}

-- those that say the same as one before them, if the list is valid
abbrev pub repeated_in : (end : ℕ) → Result (List Placed) Fault → List PlaceText
repeated_in end (Ok all) = repeated (map (keyed_selector end) all)
repeated_in end (Err fault) = []

abbrev pub has_comma : List ℕ → Bool
has_comma text = list_any (λ byte. nat_eq byte comma) text

-- the selectors of a rule that are in its list again, where a sheet declares these names: those of a list
-- with a comma
abbrev pub repeated_selectors : Names → (start : ℕ) → Stated → List PlaceText
repeated_selectors names start prelude =
    if has_comma prelude.text
    then repeated_in (offset_after start (length prelude.text)) (listed_under (context None names) prelude)
    else []

-- ---- rules

-- what is wrong within a style rule, where these names are declared
abbrev pub style_rule_places : Names → RuleAt → List PlaceText
style_rule_places names rule =
    repeated_selectors names rule.start rule.prelude ++ repeated_in_block rule.end rule.text

abbrev pub statement_places : Names → PlacesText → StatementText → List PlaceText
statement_places names places statement =
    flat_map (style_rule_places names) (style_rules places.prelude places.block_end statement)
    ++ flat_map keyframe_places (keyframes places.block_end statement)

-- what is wrong within the rules of an item, where these names are declared
abbrev pub item_places : Names → SheetItemText → List PlaceText
item_places names item = statement_places names item.places item.part.statement
