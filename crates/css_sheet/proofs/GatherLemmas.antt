-- What the parts of sheets give.
-- Serves `open_layers::mention_names`, `ReadRules::push_sheet` and `sheet_order::gather`.
use Rattle.std.specs.Prelude.{IfErr}
use Rattle.std.specs.Result.{IsErrAnd}
use Rattle.css_cascade.specs.declared.layers.LayersError.{LayersError}
use Rattle.css_cascade.specs.declared.layers.LayersError.TheVariants as of_layer
use Rattle.css_sheet.specs.SheetMessages.{of_layers}
use Rattle.std.proofs.Common.{◌≡◌, ℕ, zero, suc, ◌+◌, ◌-◌, ◌<◌, ◌≤◌, ◌==◌, Bool, true, false, not, if◌then◌else◌, List, [], ◌∷◌, ◌++◌, Option, None, Some, Result, Ok, Err, length, map, drop, get_or, take, slice_get, refl, sym, ap, ◌∙◌, subst, append-nil, arith}
use Rattle.std.proofs.lemmas.Grind.{flat_map-append}
use Rattle.std.proofs.lemmas.List.{append_assoc, take_all}
use Rattle.css_syntax.specs.Statements.{BlockText}
use Rattle.css_syntax.specs.DeclarationLists.{ItemText, declared, at_rule_item, skipped_item}
use Rattle.css_cascade.specs.Layers.{LayerPart, LayerText, number_at, or_outermost, outermost_layers, with_name}
use Rattle.css_syntax.specs.declared.quality.Fault.{Fault}
use Rattle.css_selector_text.specs.Components.{Placed}
use Rattle.css_selector_text.specs.Names.{Names}
use Rattle.css_sheet.specs.RuleSelectors.{all_read, is_listed, listed_under}
use Rattle.css_cascade.specs.LayerNames.{layer_names}
use Rattle.css_cascade.proofs.NameLemmas.{Keeps, grows-name, keeps-then, keeps-itself, keeps-name, keeps-at, name-known, name-there}
use Rattle.css_sheet.specs.declared.gathering.Gathered.{Gathered}
use Rattle.css_sheet.specs.declared.parts.Part.{Part}
use Rattle.css_sheet.specs.declared.parts.SheetParts.{SheetParts}
use Rattle.css_sheet.specs.declared.sheet_error.SheetError.{SheetError}
use Rattle.css_sheet.specs.declared.sheet_error.SheetError.TheVariants.{TooManyDeclarations, TooManyLayers}
use Rattle.css_sheet.specs.declared.sheet_order.ReadRules.{ReadRules}
use Rattle.css_sheet.specs.ContentViews.{part_of}
use Rattle.css_sheet.specs.internal.PartViews.{given_in, open_in, left_in, parts_to_come, placed_last, source_of, GivesPart}
use Rattle.css_sheet.specs.SheetParts.{OpenText, SheetPart, states, begins, ends, stands, PlacedPart, Source, all_parts_from, applies_at, applies_in, from_part, next_in, given_kind, given_place, nesting_at, nesting_in, nesting_of, opened, open_after, part_then, parts_from, parts_given, place_at, placed_part, sheet_parts}
use Rattle.css_sheet.specs.SheetLayers.{if_applies, kind_name, layer_parts, layered_parts, mentioned, number_in_all, open_name, or_none, sheet_layers, with_item, with_layers, with_list, with_names, with_part, with_parts}
use Rattle.css_sheet.specs.SheetItems.{is_layer}
use Rattle.css_sheet.specs.declared.parents.OpenParents.{OpenParents}
use Rattle.css_sheet.specs.OpenParents.{Parent, ParentsText, no_rule, dropped, style, unread, valid, numbered, after_part, after_part_of, after_parts, begun, is_dropped, left_innermost, none_open}
use Rattle.css_sheet.specs.ParentViews.{parent_of, parents_of}
use Rattle.css_sheet.specs.SheetOrder.{RunText, SheetRuleText, declaration_count, declarations_in, nested_lists, numbered_rules, part_rules, placed_rules, rules_if_stated, rules_of_parts, run_at, stated_rules, unless_invalid}
use Rattle.css_sheet.specs.Sheets.{GroupRuleText, SheetText, outermost_at}
use Rattle.css_sheet.specs.SheetRuleViews.{gathered_rules, sheet_of}
use Rattle.css_sheet.specs.declared.sheet_rules.Sheet.{Sheet}
use Rattle.css_sheet.specs.internal.GatherViews.{Awaits, AwaitsStill, GathersAll, GoesOn, NestsOn, counts_after, rules_now}
use Rattle.css_sheet.specs.internal.OpenViews.{known_in, numbers_in, outermost_in, innermost_of, AreMany, EntersLast, Goes, GoesOver, Tracks, counted_name, is_known_dropped}
use Rattle.css_sheet.proofs.LevelLemmas.{Begins, Stacked, fresh, fresh-before, fresh-more, rule-begins, stacked-keeps, stacked-left, stacked-more, stacked-none, stacked-outside, stacked-right, stacked-tracks}
use Rattle.css_sheet.proofs.OpenLemmas.{tracks-number, tracks-keeps, tracks-more, last-append}
use Rattle.css_sheet.proofs.PartNesting.{FoundOutside, StandsOutside, found-outside}
use Rattle.css_sheet.proofs.SheetRuleLemmas.{declarations-append}

-- ---- what holds of layers before and after a name holds before and after all parts

module _ (Stays : List LayerText → List LayerText → Type 0)
    (itself : (known : List LayerText) → Stays known known)
    (joined : (a b c : List LayerText) → Stays a b → Stays b c → Stays a c)
    (named : (known : List LayerText) (outer : ℕ) (parts : List LayerPart)
    → Stays known (with_name known outer parts)) where
  stays-names : (outer : ℕ) (known : List LayerText) (names : List (List LayerPart))
      → Stays known (with_names outer known names)
  stays-names outer known [] = itself known
  stays-names outer known (name ∷ names) =
      joined known (with_name known outer name) (with_names outer (with_name known outer name) names)
      (named known outer name) (stays-names outer (with_name known outer name) names)

  stays-list : (outer : ℕ) (prelude : List ℕ) (known : List LayerText) (block : Option BlockText)
      → Stays known (with_list outer prelude known block)
  stays-list outer prelude known None = stays-names outer known (or_none (layer_names prelude))
  stays-list outer prelude known (Some block) = itself known

  stays-if : (known after : List LayerText) (t : Bool) → Stays known after
      → Stays known (if t then after else known)
  stays-if known after true k = k
  stays-if known after false k = itself known

  stays-item : (outer : ℕ) (known : List LayerText) (item : ItemText)
      → Stays known (with_item outer known item)
  stays-item outer known (declared one) = itself known
  stays-item outer known (at_rule_item rule) =
      stays-if known (with_list outer rule.prelude.text known rule.block) (is_layer rule.name)
      (stays-list outer rule.prelude.text known rule.block)
  stays-item outer known (skipped_item fault) = itself known

  stays-unless : (known after : List LayerText) (t : Bool) → Stays known after
      → Stays known (if t then known else after)
  stays-unless known after true k = itself known
  stays-unless known after false k = k

  stays-mentioned : (outer : ℕ) (known : List LayerText) (parent : Parent) (around : List OpenText)
      (part : SheetPart) → Stays known (mentioned outer known parent around part)
  stays-mentioned outer known parent around (states text) = itself known
  stays-mentioned outer known parent around (begins kind) =
      stays-unless known (with_name known outer (layer_parts around)) (is_dropped parent)
      (named known outer (layer_parts around))
  stays-mentioned outer known parent around ends = itself known
  stays-mentioned outer known parent around (stands item) =
      let number = number_in_all outer around known in
      stays-if known (with_item number known item) (applies_in around) (stays-item number known item)

  stays-parts : (outer : ℕ → ℕ) (known : List LayerText) (parents : ParentsText)
      (parts : List PlacedPart) → Stays known (with_parts outer known parents parts)
  stays-parts outer known parents [] = itself known
  stays-parts outer known parents (placed ∷ parts) =
      let nest = after_part parents placed in
      let next = with_part outer known nest.innermost placed in
      joined known next (with_parts outer next nest parts)
      (stays-mentioned (outer placed.sheet) known nest.innermost placed.around placed.part)
      (stays-parts outer next nest parts)

-- layers stay known
keeps-mentioned : (outer : ℕ) (known : List LayerText) (parent : Parent) (around : List OpenText)
    (part : SheetPart) → Keeps known (mentioned outer known parent around part)
keeps-mentioned = stays-mentioned Keeps keeps-itself keeps-then keeps-name

keeps-parts : (outer : ℕ → ℕ) (known : List LayerText) (parents : ParentsText) (parts : List PlacedPart)
    → Keeps known (with_parts outer known parents parts)
keeps-parts = stays-parts Keeps keeps-itself keeps-then keeps-name

-- there are as many or more
abbrev Grows : List LayerText → List LayerText → Type 0
Grows before after = length before ≤ length after

grows-then : (a b c : List LayerText) → Grows a b → Grows b c → Grows a c
grows-then a b c h k = omega (arith, h, k)

pub grows-names : (outer : ℕ) (known : List LayerText) (names : List (List LayerPart))
    → Grows known (with_names outer known names)
grows-names = stays-names Grows (λ known. omega arith) grows-then grows-name

grows-parts : (outer : ℕ → ℕ) (known : List LayerText) (parents : ParentsText) (parts : List PlacedPart)
    → Grows known (with_parts outer known parents parts)
grows-parts = stays-parts Grows (λ known. omega arith) grows-then grows-name

-- a further name is one layer too many, and so are all
pub many-names : (outer : ℕ) (known whole : List LayerText) (name : List LayerPart)
    (names : List (List LayerPart)) → with_names outer known (name ∷ names) ≡ whole
    → AreMany (with_name known outer name) → AreMany whole
many-names outer known whole name names same many =
    let more = grows-names outer (with_name known outer name) names in
    let all = ap length same in
    omega (arith, many, more, all)

-- an error of layers that is handed on
pub from-layers : {V : Type 0} (P : Type 0) (r : Result V SheetError) (error : LayersError)
    → IsErrAnd r (λ reported. reported ≡ of_layers error)
    → (error ≡ of_layer.TooManyLayers → P) → IfErr r (λ reported. reported ≡ TooManyLayers → P)
from-layers P (Ok x) error is due = tt
from-layers P (Err reported) of_layer.TooManyLayers is due = λ same. due refl
from-layers P (Err reported) of_layer.Memory is due = λ same. absurd (cc)

-- ---- what is open after a part

first-then : (holds : List ℕ → List ℕ → Bool) (source : Source)
    (more : List OpenText → List ℕ → List PlacedPart) (around : List OpenText) (from : List ℕ)
    (next : Option (SheetPart × List ℕ)) (one : PlacedPart) (parts : List PlacedPart)
    → FoundOutside next (nesting_of around) → part_then holds source more around from next ≡ one ∷ parts
    → (place : List ℕ) × (one.around ≡ open_after holds around one.part place)
    × (one.sheet ≡ source.sheet) × StandsOutside one.part around
first-then holds source more around from None one parts out e = absurd (cc)
first-then holds source more around from (Some found) one parts out e =
    let place = place_at source found.1 in
    let same : one ≡ placed_part source from found.0 (open_after holds around found.0 place) found.1 = cc in (
      place,
      ap (λ (p : PlacedPart). p.around) same
          ∙ sym (ap (λ (p : PlacedPart). open_after holds around p.part place) same),
      ap (λ (p : PlacedPart). p.sheet) same,
      subst (λ (p : SheetPart). StandsOutside p around) (sym (ap (λ (p : PlacedPart). p.part) same)) out,
    )

first-from : (holds : List ℕ → List ℕ → Bool) (source : Source) (n : ℕ) (around : List OpenText) (text : List ℕ)
    (one : PlacedPart) (parts : List PlacedPart)
    → parts_from holds source n around text ≡ one ∷ parts
    → (place : List ℕ) × (one.around ≡ open_after holds around one.part place)
    × (one.sheet ≡ source.sheet) × StandsOutside one.part around
unfolding parts_from
first-from holds source zero around text one parts e = absurd (cc)
first-from holds source (suc n) around text one parts e =
    first-then holds source (parts_from holds source n) around (from_part source.depth around text)
    (next_in source.depth around text) one parts
    (found-outside source.depth around text) e

first-given : (holds : List ℕ → List ℕ → Bool) (source : Source) (around : List OpenText)
    (rules : List GroupRuleText) (text : List ℕ) (one : PlacedPart) (parts : List PlacedPart)
    → parts_given holds source around rules text ≡ one ∷ parts
    → (place : List ℕ) × (one.around ≡ open_after holds around one.part place)
    × (one.sheet ≡ source.sheet) × StandsOutside one.part around
first-given holds source around [] text one parts e =
    first-from holds source (length text) around text one parts e
first-given holds source around (rule ∷ rules) text one parts e =
    let kind = given_kind rule in
    let place = given_place rule in
    let same : one ≡ placed_part source text (begins kind) (open_after holds around (begins kind) place) text =
    cc in (
      place,
      ap (λ (p : PlacedPart). p.around) same
          ∙ sym (ap (λ (p : PlacedPart). open_after holds around p.part place) same),
      ap (λ (p : PlacedPart). p.sheet) same,
      subst (λ (p : SheetPart). StandsOutside p around) (sym (ap (λ (p : PlacedPart). p.part) same)) tt,
    )

-- ---- the layers that are open

-- the layers and the numbers of those that are open are right for these rules
abbrev Follows : (outer : ℕ) → List LayerText → ParentsText → List OpenText → SheetPart → List LayerText
    → List ℕ → Type 0
Follows outer known parents around part after now =
    (after ≡ mentioned outer known parents.innermost around part)
    × Stacked after outer now around (fresh around parents)

-- a name that is no layer, or one in a rule that is not dropped
no-count : (rule : OpenText) (kept : Bool) → open_name rule ≡ [] → counted_name kept rule ≡ []
no-count rule true e = e
no-count rule false e = refl

uncounted : (rule : OpenText) (parent : Parent) (known : Bool) → is_known_dropped parent ≡ known
    → (known ≡ false → open_name rule ≡ []) → counted_name (not (is_known_dropped parent)) rule ≡ []
uncounted rule parent true e f = ap (λ (b : Bool). counted_name (not b) rule) e
uncounted rule parent false e f = no-count rule (not (is_known_dropped parent)) (f refl)

known-if : (parent : Parent) → is_dropped parent ≡ false → is_known_dropped parent ≡ false
known-if no_rule e = refl
known-if dropped e = absurd (cc)
known-if (style prelude under own) e = refl

module _ (holds : List ℕ → List ℕ → Bool) (outer : ℕ) (known after : List LayerText) (numbers now : List ℕ)
    (before : List OpenText) (parents : ParentsText)
    (s : Stacked known outer numbers before (fresh before parents)) where
  stay : (around : List OpenText) → around ≡ before → Keeps known after → now ≡ numbers
      → Stacked after outer now around (fresh around parents)
  stay around e keeps f =
      subst (λ (ns : List ℕ). Stacked after outer ns around (fresh around parents)) (sym f)
      (subst (λ (rs : List OpenText). Stacked after outer numbers rs (fresh rs parents)) (sym e)
      (stacked-keeps known after keeps outer numbers before (fresh before parents) s))

  same : after ≡ known → Keeps known after
  same e = subst (Keeps known) (sym e) (keeps-itself known)

  enters : Tracks known outer numbers before → (r : OpenText)
      → after ≡ with_name known (innermost_of outer numbers) (open_name r)
      → now ≡ numbers ++ or_outermost (number_at (innermost_of outer numbers) (open_name r) after) ∷ []
      → (after ≡ with_name known outer (layer_parts (before ++ r ∷ [])))
      × Tracks after outer now (before ++ r ∷ [])
  enters t r e f =
      let n = innermost_of outer numbers in
      let name = open_name r in
      let parts : layer_parts (before ++ r ∷ []) ≡ layer_parts before ++ name =
      flat_map-append open_name before (r ∷ [])
      ∙ ap (λ (ps : List LayerPart). layer_parts before ++ ps) (append-nil name) in
      let keeps : Keeps known after = subst (Keeps known) (sym e) (keeps-name known n name) in
      let found : number_at n name after ≡ Some (or_outermost (number_at n name after)) =
      subst (λ (k : List LayerText). number_at n name k ≡ Some (or_outermost (number_at n name k)))
      (sym e) (name-known known n name) in (
        e ∙ sym (name-there known outer (layer_parts before) name n
            (tracks-number known outer numbers before t))
            ∙ ap (with_name known outer) (sym parts),
        subst (λ (ns : List ℕ). Tracks after outer ns (before ++ r ∷ [])) (sym f)
            (tracks-more after outer numbers before r (or_outermost (number_at n name after))
            (tracks-keeps known after keeps outer numbers before t) found),
      )

  module _ (r : OpenText) (applies : Bool) (next : ParentsText)
      (b : Begins (fresh before parents) next r.kind applies)
      (is : r.applies ≡ applies)
      (inside : nesting_of (before ++ r ∷ []) ≡ nesting_in r.kind (nesting_of before))
      (e : after ≡ with_name known (innermost_of outer numbers)
      (counted_name (not (is_known_dropped next.innermost)) r))
      (f : now ≡ numbers ++ or_outermost (number_at (innermost_of outer numbers)
      (counted_name (not (is_known_dropped next.innermost)) r) after) ∷ []) where
    number_now : ℕ
    number_now =
        or_outermost (number_at (innermost_of outer numbers)
        (counted_name (not (is_known_dropped next.innermost)) r) after)

    counted : is_dropped next.innermost ≡ false
        → counted_name (not (is_known_dropped next.innermost)) r ≡ open_name r
    counted kept = ap (λ (d : Bool). counted_name (not d) r) (known-if next.innermost kept)

    -- in a style rule that is not dropped
    enters-kept : is_dropped next.innermost ≡ false
        → (after ≡ with_name known outer (layer_parts (before ++ r ∷ [])))
        × Tracks after outer now (before ++ r ∷ [])
    enters-kept kept =
        enters ((stacked-right known outer numbers before (fresh before parents) s).0 (b.kept kept)) r
        (e ∙ ap (with_name known (innermost_of outer numbers)) (counted kept))
        (f ∙ ap (λ (name : List LayerPart).
        numbers ++ or_outermost (number_at (innermost_of outer numbers) name after) ∷ []) (counted kept))

    -- in one that is
    enters-dropped : is_dropped next.innermost ≡ true → after ≡ known
    enters-dropped gone =
        e ∙ ap (with_name known (innermost_of outer numbers))
        (uncounted r next.innermost (is_known_dropped next.innermost) refl
        (λ unknown. ap (λ (t : Bool). if t then kind_name r.kind r.place else []) is
        ∙ b.unnamed gone unknown r.place))

    enters-as : (gone : Bool) → is_dropped next.innermost ≡ gone
        → after ≡ (if is_dropped next.innermost then known else with_name known outer (layer_parts (before ++ r ∷ [])))
    enters-as true d =
        enters-dropped d ∙ sym (ap (λ (t : Bool). if t then known else with_name known outer (layer_parts (before ++ r ∷ []))) d)
    enters-as false d =
        (enters-kept d).0 ∙ sym (ap (λ (t : Bool). if t then known else with_name known outer (layer_parts (before ++ r ∷ []))) d)

    enters-keeps : Keeps known after
    enters-keeps =
        subst (Keeps known) (sym e) (keeps-name known (innermost_of outer numbers) (counted_name (not (is_known_dropped next.innermost)) r))

    enters-stacked : Stacked after outer now (before ++ r ∷ []) next
    unfolding number_now
    enters-stacked =
        subst (λ (ns : List ℕ). Stacked after outer ns (before ++ r ∷ []) next) (sym f)
        (stacked-more after outer numbers before (fresh before parents) next applies r number_now
        (stacked-keeps known after enters-keeps outer numbers before (fresh before parents) s) b inside
        (λ kept. subst (λ (ns : List ℕ). Tracks after outer ns (before ++ r ∷ [])) f (enters-kept kept).1))

  follows : (names : Names) (part : SheetPart) (around : List OpenText) (place : List ℕ)
      → around ≡ open_after holds before part place → StandsOutside part before
      → Goes outer known numbers (not (is_known_dropped (after_part_of names parents part around).innermost))
      part around after now
      → Follows outer known (after_part_of names parents part around) around part after now
  follows names (states text) around place e out g = (g.0, stay around e (same g.0) g.1)
  follows names (begins kind) around place e out g =
      let r = opened holds before kind place in
      let next = begun names (applies_in (before ++ r ∷ [])) kind (fresh before parents) in
      let last : slice_get (before ++ r ∷ []) (length (before ++ r ∷ []) - 1) ≡ Some r = last-append before r in
      let nest : after_part_of names parents (begins kind) around ≡ next =
      ap (after_part_of names parents (begins kind)) e
      ∙ ap (begun names (applies_in (before ++ r ∷ [])) kind) (fresh-before before r parents) in
      let h = subst (λ (o : Option OpenText). EntersLast outer known numbers (not (is_known_dropped next.innermost)) o after now) last
      (subst (λ (rs : List OpenText). EntersLast outer known numbers (not (is_known_dropped next.innermost)) (slice_get rs (length rs - 1)) after now) e
      (subst (λ (p : ParentsText). EntersLast outer known numbers (not (is_known_dropped p.innermost)) (slice_get around (length around - 1)) after now) nest g)) in
      let honest = (stacked-right known outer numbers before (fresh before parents) s).2 in
      let b = rule-begins names kind (applies_in (before ++ r ∷ [])) (fresh before parents) honest in
      let is : r.applies ≡ applies_in (before ++ r ∷ []) = sym (ap applies_at last) in
      let inside : nesting_of (before ++ r ∷ []) ≡ nesting_in kind (nesting_of before) = ap nesting_at last in
      let layers_are = enters-as r (applies_in (before ++ r ∷ [])) next b is inside h.0 h.1 (is_dropped next.innermost) refl in
      let stack = enters-stacked r (applies_in (before ++ r ∷ [])) next b is inside h.0 h.1 in (
        layers_are ∙ ap (λ (rs : List OpenText). if is_dropped next.innermost then known else with_name known outer (layer_parts rs)) (sym e)
            ∙ ap (λ (p : ParentsText). if is_dropped p.innermost then known else with_name known outer (layer_parts around)) (sym nest),
        subst (λ (p : ParentsText). Stacked after outer now around (fresh around p)) (sym nest)
            (subst (λ (rs : List OpenText). Stacked after outer now rs (fresh rs next)) (sym e)
            (subst (Stacked after outer now (before ++ r ∷ [])) (sym (fresh-more before r next)) stack)),
      )
  follows names ends around place e out g = (
    g.0,
    subst (λ (k : List LayerText). Stacked k outer now around (fresh around (left_innermost parents))) (sym g.0)
        (subst (λ (ns : List ℕ). Stacked known outer ns around (fresh around (left_innermost parents))) (sym g.1)
        (subst (λ (rs : List OpenText). Stacked known outer (take (length numbers - 1) numbers) rs (fresh rs (left_innermost parents))) (sym e)
        (stacked-left known outer numbers before parents s))),
  )
  follows names (stands item) around place e out g =
      let number = tracks-number known outer numbers before
      (stacked-outside known outer numbers before (fresh before parents) s out) in
      let here : number_in_all outer around known ≡ innermost_of outer numbers =
      ap (λ (rs : List OpenText). number_in_all outer rs known) e ∙ ap or_outermost number in
      let is : after ≡ mentioned outer known parents.innermost around (stands item) =
      g.0 ∙ ap (λ (n : ℕ). if_applies (applies_in around) n known item) (sym here) in
      (is, stay around e (subst (Keeps known) (sym is) (keeps-mentioned outer known parents.innermost around (stands item))) g.1)

-- ---- a style rule that is dropped

unread-none : (run : RunText) (read : Result (List Placed) Fault) → not (is_listed read) ≡ true
    → unless_invalid run (all_read read) ≡ []
unread-none run (Ok all) e = absurd (cc)
unread-none run (Err fault) e = refl

set-none : (run : RunText) (read : Result (List Placed) Fault) (empty : Bool) → not (is_listed read) ≡ true
    → (if empty then [] else unless_invalid run (all_read read)) ≡ []
set-none run read true e = refl
set-none run read false e = unread-none run read e

stated-none : (parent : Parent) (run : RunText) → is_dropped parent ≡ true → stated_rules parent run ≡ []
stated-none no_rule run e = refl
stated-none dropped run e = refl
stated-none (style prelude under unread) run e =
    set-none run (listed_under under prelude) (declaration_count run.text == 0) e
stated-none (style prelude under valid) run e = absurd (cc)
stated-none (style prelude under (numbered own)) run e = absurd (cc)

if-none : (applies : Bool) (rules : List SheetRuleText) → rules ≡ [] → (if applies then rules else []) ≡ []
if-none true rules e = e
if-none false rules e = refl

dropped-part : (layer : ℕ) (parent : Parent) (placed : PlacedPart) (part : SheetPart)
    → is_dropped parent ≡ true → rules_if_stated layer parent placed part ≡ []
dropped-part layer parent placed (states text) e =
    if-none (applies_in placed.around) (stated_rules parent (run_at layer placed text))
    (stated-none parent (run_at layer placed text) e)
dropped-part layer parent placed (begins kind) e = refl
dropped-part layer parent placed ends e = refl
dropped-part layer parent placed (stands item) e = refl

dropped-none : (layer : ℕ) (parent : Parent) (placed : PlacedPart) → is_dropped parent ≡ true
    → part_rules layer parent placed ≡ []
dropped-none layer parent placed e = dropped-part layer parent placed placed.part e

-- ---- a part leads somewhere

enters-to : (outer : ℕ) (known : List LayerText) (numbers : List ℕ) (counts : Bool) (last : Option OpenText)
    → (after : List LayerText) × (now : List ℕ) × EntersLast outer known numbers counts last after now
enters-to outer known numbers counts None = (known, numbers, (refl, refl))
enters-to outer known numbers counts (Some rule) =
    let n = innermost_of outer numbers in
    let name = counted_name counts rule in
    let after = with_name known n name in
    (after, numbers ++ or_outermost (number_at n name after) ∷ [], (refl, refl))

goes-to : (outer : ℕ) (known : List LayerText) (numbers : List ℕ) (counts : Bool) (part : SheetPart)
    (around : List OpenText)
    → (after : List LayerText) × (now : List ℕ) × Goes outer known numbers counts part around after now
goes-to outer known numbers counts (states text) around = (known, numbers, (refl, refl))
goes-to outer known numbers counts (begins kind) around =
    enters-to outer known numbers counts (slice_get around (length around - 1))
goes-to outer known numbers counts ends around = (known, take (length numbers - 1) numbers, (refl, refl))
goes-to outer known numbers counts (stands item) around =
    (if_applies (applies_in around) (innermost_of outer numbers) known item, numbers, (refl, refl))

-- ---- steps

-- The parts that are to come of a sheet, and these after them, give the rules and the layers of the
-- sheets that are not gathered yet.
pub record Reads (holds : List ℕ → List ℕ → Bool) (sheets : List SheetText) (most : ℕ)
    (read : ReadRules) (reader : SheetParts) (more : List PlacedPart) : Type 0 where
  pub outer : outermost_in read.opened ≡ outermost_at sheets (source_of reader).sheet
  pub tracks : Stacked (known_in read.opened) (outermost_in read.opened) (numbers_in read.opened)
      (open_in reader) (fresh (open_in reader) (parents_of read.parents))
  pub awaits : Awaits holds sheets most read (parts_to_come (with_layers holds) reader ++ more)

module _ (holds : List ℕ → List ℕ → Bool) (sheets : List SheetText) (most : ℕ)
    (later : List PlacedPart) where
  abbrev final : List LayerText
  final = sheet_layers holds sheets

  abbrev at : ℕ → ℕ
  at = outermost_at sheets

  pub reads-none : (before read : ReadRules) (reader : SheetParts) (parts : List PlacedPart)
      → outermost_in read.opened ≡ outermost_at sheets (source_of reader).sheet
      → known_in read.opened ≡ known_in before.opened → numbers_in read.opened ≡ []
      → read.gathered ≡ before.gathered → read.parents ≡ before.parents → open_in reader ≡ []
      → parts_to_come (with_layers holds) reader ≡ parts
      → Awaits holds sheets most before (parts ++ later) → Reads holds sheets most read reader later
  reads-none before read reader parts outer e f g same none come awaits = record {
    outer = outer;
    tracks =
        stacked-none (known_in read.opened) (outermost_in read.opened) (numbers_in read.opened)
        (open_in reader) (parents_of read.parents) f none;
    awaits =
        subst (λ (ps : List PlacedPart). Awaits holds sheets most read (ps ++ later)) (sym come)
        (record {
          layers =
              ap (λ (ls : List LayerText). with_parts at ls (parents_of read.parents) (parts ++ later)) e
              ∙ ap (λ (nest : OpenParents).
              with_parts at (known_in before.opened) (parents_of nest) (parts ++ later)) same
              ∙ awaits.layers;
          rules =
              ap (λ (all : Gathered).
              gathered_rules all ++ rules_of_parts at final (parents_of read.parents) (parts ++ later)) g
              ∙ ap (λ (nest : OpenParents). gathered_rules before.gathered
              ++ rules_of_parts at final (parents_of nest) (parts ++ later)) same
              ∙ awaits.rules;
          lists =
              ap (λ (nest : OpenParents). (after_parts (parents_of nest) (parts ++ later)).lists) same
              ∙ awaits.lists;
          room =
              ap (λ (nest : OpenParents). most
              + declarations_in (rules_of_parts at final (parents_of nest) (parts ++ later))) same
              ∙ awaits.room
              ∙ sym (ap (λ (all : Gathered). all.left + declarations_in (numbered_rules holds sheets)) g);
        });
  }

  module _ (read : ReadRules) (before after : SheetParts) (part : Part)
      (h : Reads holds sheets most read before later)
      (gives : GivesPart (with_layers holds) before (Some part) after) where
    come : List PlacedPart
    come = parts_to_come (with_layers holds) after ++ later

    gives-all : parts_to_come (with_layers holds) before ++ later
        ≡ placed_last after (part_of part) ∷ come
    unfolding come
    gives-all = ap (λ (ps : List PlacedPart). ps ++ later) gives

    open_is : (place : List ℕ)
        × (open_in after ≡ open_after (with_layers holds) (open_in before) (part_of part) place)
        × ((source_of after).sheet ≡ (source_of before).sheet)
        × StandsOutside (part_of part) (open_in before)
    open_is =
        first-given (with_layers holds) (source_of before) (open_in before) (given_in before)
        (left_in before) (placed_last after (part_of part)) (parts_to_come (with_layers holds) after)
        gives

    -- the style rules that are open then
    abbrev nest : ParentsText
    nest = after_part (parents_of read.parents) (placed_last after (part_of part))

    follow-to : (known : List LayerText) (numbers : List ℕ)
        → Goes (outermost_in read.opened) (known_in read.opened) (numbers_in read.opened)
        (counts_after read (part_of part) after) (part_of part) (open_in after) known numbers
        → Follows (outermost_in read.opened) (known_in read.opened) nest (open_in after) (part_of part) known
        numbers
    follow-to known numbers goes =
        follows (with_layers holds) (outermost_in read.opened) (known_in read.opened) known
        (numbers_in read.opened) numbers (open_in before) (parents_of read.parents) h.tracks
        (source_of after).names (part_of part)
        (open_in after) open_is.0 open_is.1 open_is.3 goes

    -- all of the sheet is in the layer that is the outermost one now
    outer_is : outermost_in read.opened ≡ at (source_of after).sheet
    outer_is = h.outer ∙ sym (ap at open_is.2)

    layers_from : (known : List LayerText)
        → known ≡ mentioned (outermost_in read.opened) (known_in read.opened) nest.innermost (open_in after)
        (part_of part)
        → with_parts at known nest come ≡ final
    layers_from known is =
        ap (λ (k : List LayerText). with_parts at k nest come)
        (is ∙ ap (λ (n : ℕ). mentioned n (known_in read.opened) nest.innermost (open_in after) (part_of part)) outer_is)
        ∙ sym (ap (with_parts at (known_in read.opened) (parents_of read.parents)) gives-all) ∙ h.awaits.layers

    -- too many layers would be known then
    pub reads-many : GoesOver (outermost_in read.opened) (known_in read.opened) (numbers_in read.opened)
        (counts_after read (part_of part) after) (part_of part) (open_in after)
        → AreMany (sheet_layers holds sheets)
    reads-many over =
        let there =
        goes-to (outermost_in read.opened) (known_in read.opened) (numbers_in read.opened)
        (counts_after read (part_of part) after) (part_of part) (open_in after) in
        let many = over there.0 there.1 there.2 in
        let more = grows-parts at there.0 nest come in
        let all = ap length (layers_from there.0 (follow-to there.0 there.1 there.2).0) in
        omega (arith, many, more, all)

  module _ (read now : ReadRules) (before after : SheetParts) (part : Part)
      (h : Reads holds sheets most read before later)
      (gives : GivesPart (with_layers holds) before (Some part) after)
      (goes : GoesOn read now (part_of part) after)
      (nests : NestsOn read now (part_of part) after) where
    abbrev to_come : List PlacedPart
    to_come = come read before after part h gives

    outer_now : outermost_in now.opened ≡ at (source_of after).sheet
    outer_now = goes.1 ∙ outer_is read before after part h gives

    follow : Follows (outermost_in read.opened) (known_in read.opened) (nest read before after part h gives)
        (open_in after) (part_of part) (known_in now.opened) (numbers_in now.opened)
    follow =
        follow-to read before after part h gives (known_in now.opened) (numbers_in now.opened) goes.0

    tracks_now : Stacked (known_in now.opened) (outermost_in now.opened) (numbers_in now.opened)
        (open_in after) (fresh (open_in after) (parents_of now.parents))
    tracks_now =
        subst (λ (p : ParentsText). Stacked (known_in now.opened) (outermost_in now.opened) (numbers_in now.opened) (open_in after) (fresh (open_in after) p)) (sym nests)
        (subst (λ (n : ℕ). Stacked (known_in now.opened) n (numbers_in now.opened) (open_in after)
        (fresh (open_in after) (nest read before after part h gives)))
        (sym goes.1) follow.1)

    layers_now : with_parts at (known_in now.opened) (parents_of now.parents) to_come ≡ final
    layers_now =
        ap (λ (p : ParentsText). with_parts at (known_in now.opened) p to_come) nests
        ∙ layers_from read before after part h gives (known_in now.opened) follow.0

    -- the number of the layer in a style rule that is not dropped
    number_is : is_dropped (parent_of now.parents.innermost) ≡ false
        → number_in_all (at (source_of after).sheet) (open_in after) final
        ≡ innermost_of (outermost_in now.opened) (numbers_in now.opened)
    number_is kept =
        let outer = outermost_in now.opened in
        ap (λ (n : ℕ). number_in_all n (open_in after) final) (sym outer_now)
        ∙ ap or_outermost
        (keeps-at (known_in now.opened) final
        (subst (Keeps (known_in now.opened)) layers_now
        (keeps-parts at (known_in now.opened) (parents_of now.parents) to_come))
        outer (layer_parts (open_in after)) (innermost_of outer (numbers_in now.opened))
        (tracks-number (known_in now.opened) outer (numbers_in now.opened) (open_in after)
        (stacked-tracks (known_in now.opened) outer (numbers_in now.opened) (open_in after)
        (parents_of now.parents) tracks_now kept)))

    -- one that is dropped has no rules
    rules_are : (gone : Bool) → is_dropped (parent_of now.parents.innermost) ≡ gone
        → part_rules (number_in_all (at (source_of after).sheet) (open_in after) final)
        (parent_of now.parents.innermost) (placed_last after (part_of part))
        ≡ rules_now now (part_of part) after
    rules_are true gone =
        dropped-none (number_in_all (at (source_of after).sheet) (open_in after) final)
        (parent_of now.parents.innermost) (placed_last after (part_of part)) gone
        ∙ sym (dropped-none (innermost_of (outermost_in now.opened) (numbers_in now.opened))
        (parent_of now.parents.innermost) (placed_last after (part_of part)) gone)
    rules_are false kept =
        ap (λ (n : ℕ). part_rules n (parent_of now.parents.innermost) (placed_last after (part_of part)))
        (number_is kept)

    more : List SheetRuleText
    more = rules_now now (part_of part) after

    first_rules : rules_of_parts at final (parents_of read.parents)
        (parts_to_come (with_layers holds) before ++ later)
        ≡ more ++ rules_of_parts at final (parents_of now.parents) to_come
    unfolding more
    first_rules =
        ap (rules_of_parts at final (parents_of read.parents)) (gives-all read before after part h gives)
        ∙ ap (λ (nest : ParentsText).
        placed_rules at final nest.innermost (placed_last after (part_of part))
        ++ rules_of_parts at final nest to_come) (sym nests)
        ∙ ap (λ (rs : List SheetRuleText). rs ++ rules_of_parts at final (parents_of now.parents) to_come)
        (rules_are (is_dropped (parent_of now.parents.innermost)) refl)

    sums : declarations_in (rules_of_parts at final (parents_of read.parents)
        (parts_to_come (with_layers holds) before ++ later))
        ≡ declarations_in more + declarations_in (rules_of_parts at final (parents_of now.parents) to_come)
    sums =
        ap declarations_in first_rules
        ∙ declarations-append more (rules_of_parts at final (parents_of now.parents) to_come)

    lists_now : (after_parts (parents_of now.parents) to_come).lists ≡ nested_lists holds sheets
    lists_now =
        ap (λ (nest : ParentsText). (after_parts nest to_come).lists) nests
        ∙ sym (ap (λ (ps : List PlacedPart). (after_parts (parents_of read.parents) ps).lists) (gives-all read before after part h gives))
        ∙ h.awaits.lists

    pub reads-part :
        gathered_rules now.gathered ≡ gathered_rules read.gathered ++ rules_now now (part_of part) after
        → now.gathered.left + declarations_in (rules_now now (part_of part) after) ≡ read.gathered.left
        → Reads holds sheets most now after later
    unfolding come more
    reads-part f g =
        let room = h.awaits.room in
        let parted = sums in
        record {
          outer = outer_now;
          tracks = tracks_now;
          awaits = record {
            layers = layers_now;
            lists = lists_now;
            rules =
                ap (λ (rs : List SheetRuleText).
                rs ++ rules_of_parts at final (parents_of now.parents) to_come) f
                ∙ append_assoc (gathered_rules read.gathered) more
                (rules_of_parts at final (parents_of now.parents) to_come)
                ∙ sym (ap (λ (rs : List SheetRuleText). gathered_rules read.gathered ++ rs) first_rules)
                ∙ h.awaits.rules;
            room = omega (arith, room, parted, g);
          };
        }

    pub reads-over : read.gathered.left < declarations_in (rules_now now (part_of part) after)
        → most < declarations_in (numbered_rules holds sheets)
    unfolding come more
    reads-over less =
        let room = h.awaits.room in let parted = sums in omega (arith, room, parted, less)

  -- nothing of the sheet is to come
  pub reads-all : (read : ReadRules) (reader : SheetParts) → Reads holds sheets most read reader later
      → parts_to_come (with_layers holds) reader ≡ [] → Awaits holds sheets most read later
  reads-all read reader h none =
      subst (λ (ps : List PlacedPart). Awaits holds sheets most read (ps ++ later)) none h.awaits

-- ---- all sheets

-- at the start
pub awaits-none : (holds : List ℕ → List ℕ → Bool) (sheets : List SheetText) (most : ℕ)
    (read : ReadRules) → known_in read.opened ≡ outermost_layers
    → gathered_rules read.gathered ≡ [] → parents_of read.parents ≡ none_open []
    → read.gathered.left ≡ most
    → Awaits holds sheets most read (layered_parts holds sheets)
awaits-none holds sheets most read known rules none left = record {
  layers =
      ap (λ (ls : List LayerText). with_parts (outermost_at sheets) ls (parents_of read.parents)
      (layered_parts holds sheets)) known
      ∙ ap (λ (nest : ParentsText). with_parts (outermost_at sheets) outermost_layers nest
      (layered_parts holds sheets)) none;
  rules =
      ap (λ (nest : ParentsText). gathered_rules read.gathered
      ++ rules_of_parts (outermost_at sheets) (sheet_layers holds sheets) nest (layered_parts holds sheets)) none
      ∙ ap (λ (rs : List SheetRuleText). rs ++ numbered_rules holds sheets) rules;
  lists = ap (λ (nest : ParentsText). (after_parts nest (layered_parts holds sheets)).lists) none;
  room =
      ap (λ (nest : ParentsText). most
      + declarations_in (rules_of_parts (outermost_at sheets) (sheet_layers holds sheets) nest (layered_parts holds sheets)))
      none
      ∙ sym (ap (λ (n : ℕ). n + declarations_in (numbered_rules holds sheets)) left);
}

-- nothing is to come
pub awaits-all : (holds : List ℕ → List ℕ → Bool) (sheets : List SheetText) (most : ℕ)
    (read : ReadRules) → Awaits holds sheets most read [] → GathersAll most (Ok read) holds sheets
awaits-all holds sheets most read h =
    let room = h.room in (
      h.layers,
      sym (append-nil (gathered_rules read.gathered)) ∙ h.rules,
      h.lists,
      omega (arith, room),
    )

-- what stopped at the limit
pub stopped-all : (most : ℕ) (holds : List ℕ → List ℕ → Bool) (sheets : List SheetText)
    (result : Result ReadRules SheetError) (error : SheetError) → result ≡ Err error
    → (error ≡ TooManyDeclarations → most < declarations_in (numbered_rules holds sheets))
    → GathersAll most result holds sheets
stopped-all most holds sheets result error e over =
    subst (λ r. GathersAll most r holds sheets) (sym e) over

pub stopped-sheet : (holds : List ℕ → List ℕ → Bool) (sheets : List SheetText) (most : ℕ)
    (result : Result (Unit {0}) SheetError) (error : SheetError) (read : ReadRules)
    (more : List PlacedPart) → result ≡ Err error
    → (error ≡ TooManyDeclarations → most < declarations_in (numbered_rules holds sheets))
    → AwaitsStill holds sheets most result read more
stopped-sheet holds sheets most result error read more e over =
    subst (λ r. AwaitsStill holds sheets most r read more) (sym e) over

-- an error that is handed on
pub handed-error : {V : Type 0} (P : Type 0) (result : Result V SheetError) (error : SheetError)
    → result ≡ Err error → (error ≡ TooManyLayers → P)
    → IfErr result (λ reported. reported ≡ TooManyLayers → P)
handed-error P result error e due =
    subst (λ r. IfErr r (λ reported. reported ≡ TooManyLayers → P)) (sym e) due

-- the parts of the sheets that are left, of which the first has this number
abbrev pub sheets_left : (List ℕ → List ℕ → Bool) → (number : ℕ) → List Sheet → List PlacedPart
sheets_left holds number rest =
    all_parts_from (with_layers holds) number (map sheet_of rest)

-- `number` sheets were read, and the first of those that were left
pub counted-next : (number n : ℕ) (rest : List Sheet) → 1 ≤ length rest
    → number + length rest ≡ n → number + 1 + length (take (length rest - 1) (drop 1 rest)) ≡ n
counted-next number n [] l e = absurd (omega (arith, l))
counted-next number n (sheet ∷ later) l e =
    let same : length (take (length (sheet ∷ later) - 1) later) ≡ length later =
    ap length (take_all (length (sheet ∷ later) - 1) later (omega arith)) in
    omega (arith, e, same)

-- the first of the sheets that are left, and then the others
pub sheets-first : (holds : List ℕ → List ℕ → Bool) (sheets : List SheetText) (most : ℕ)
    (read : ReadRules) (number : ℕ) (rest : List Sheet) (d : Sheet) → 1 ≤ length rest
    → Awaits holds sheets most read (sheets_left holds number rest)
    → Awaits holds sheets most read
    (sheet_parts (with_layers holds) number (sheet_of (get_or rest 0 d))
    ++ sheets_left holds (number + 1) (take (length rest - 1) (drop 1 rest)))
sheets-first holds sheets most read number [] d l awaits = absurd (omega (arith, l))
sheets-first holds sheets most read number (sheet ∷ later) d l awaits =
    let same : take (length (sheet ∷ later) - 1) later ≡ later =
    take_all (length (sheet ∷ later) - 1) later (omega arith) in
    subst (λ (ss : List Sheet). Awaits holds sheets most read
    (sheet_parts (with_layers holds) number (sheet_of sheet) ++ sheets_left holds (number + 1) ss)) (sym same)
    awaits
