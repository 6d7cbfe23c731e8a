-- Sheets are the same to two answers to which group rules hold, if these agree on the group rules of the sheets.
-- Serves `conditions_law` and `device_law`.
use Rattle.std.proofs.Common.{◌≡◌, ℕ, zero, suc, ◌+◌, ◌-◌, Bool, true, false, if◌then◌else◌, List, [], ◌∷◌, ◌++◌, length, length-append, take, Option, None, Some, refl, ap, ◌∙◌, arith}
use Rattle.std.specs.Prelude.{◌&&◌}
use Rattle.std.specs.List.{All}
use Rattle.std.specs.Option.{is_some}
use Rattle.std.proofs.lemmas.List.{take-append-le, take_all}
use Rattle.std.proofs.lemmas.List.Elements.{All-cons, All-head, All-nil, All-tail}
use Rattle.css_cascade.specs.LayerNames.{block_name}
use Rattle.css_sheet.specs.SheetItems.{is_layer}
use Rattle.css_sheet.specs.SheetLayers.{layered_parts, with_layers}
use Rattle.css_sheet.specs.SheetParts.{OpenText, PlacedPart, RuleKind, SheetPart, Source, all_parts_from, applies_in, begins, ends, from_part, given_kind, given_place, group_rule, kind_holds, nesting_in, nesting_of, next_in, open_after, open_given, opened, part_then, parts_from, parts_given, place_at, placed_part, sheet_parts, sheet_source, stands, states, style_rule}
use Rattle.css_sheet.specs.Sheets.{GroupRuleText, SheetText}
use Rattle.css_laws.specs.Conditions.{OfCondition, OfConditions, OfPart, outer}

-- what the rule is in that was opened last
outer-last : (around : List OpenText) (last : OpenText) → outer (around ++ last ∷ []) ≡ around
outer-last around last =
    let l = length-append around (last ∷ []) in
    let e : length (around ++ last ∷ []) - 1 ≡ length around = omega (arith, l) in
    ap (λ n. take n (around ++ last ∷ [])) e
    ∙ take-append-le (length around) around (last ∷ []) (omega arith)
    ∙ take_all (length around) around (omega arith)

all-split : {X : Type 0} (P : X → Type 0) (xs ys : List X) → All P (xs ++ ys) → All P xs × All P ys
all-split P [] ys all = (All-nil P, all)
all-split P (x ∷ xs) ys all =
    let rest = all-split P xs ys (All-tail P x (xs ++ ys) all) in
    (All-cons P x xs (All-head P x (xs ++ ys) all) rest.0, rest.1)

module _ (said holds : List ℕ → List ℕ → Bool) where
  -- both say the same
  abbrev pub Agree : (keyword prelude : List ℕ) → Type 0
  Agree keyword prelude = said keyword prelude ≡ holds keyword prelude

  abbrev At : PlacedPart → Type 0
  At placed = OfPart Agree placed.part placed.around

  abbrev one : List ℕ → List ℕ → Bool
  one = with_layers said

  abbrev two : List ℕ → List ℕ → Bool
  two = with_layers holds

  group-same : (keyword prelude : List ℕ) → (is_layer keyword ≡ false → Agree keyword prelude)
      → one keyword prelude ≡ two keyword prelude
  group-same keyword prelude agree = by (is_layer keyword) refl
    where
      by : (t : Bool) → is_layer keyword ≡ t
          → (if t then is_some (block_name prelude (0 ∷ 0 ∷ [])) else said keyword prelude)
          ≡ (if t then is_some (block_name prelude (0 ∷ 0 ∷ [])) else holds keyword prelude)
      by true e = refl
      by false e = agree e

  kind-same : (kind : RuleKind) → OfCondition Agree kind → kind_holds one kind ≡ kind_holds two kind
  kind-same (style_rule prelude) agree = refl
  kind-same (group_rule keyword prelude) agree = group-same keyword prelude agree

  opened-same : (around : List OpenText) (kind : RuleKind) (place : List ℕ)
      → (applies_in around ≡ true → OfCondition Agree kind)
      → opened one around kind place ≡ opened two around kind place
  opened-same around kind place agree =
      ap (λ (applies : Bool). record {
        kind = kind;
        nesting = nesting_in kind (nesting_of around);
        applies = applies;
        place = place;
      }) (by (applies_in around) refl)
    where
      by : (t : Bool) → applies_in around ≡ t → (t && kind_holds one kind) ≡ (t && kind_holds two kind)
      by true e = kind-same kind (agree e)
      by false e = refl

  open-same : (around : List OpenText) (part : SheetPart) (place : List ℕ)
      → OfPart Agree part (open_after one around part place)
      → open_after one around part place ≡ open_after two around part place
  open-same around (states text) place agree = refl
  open-same around (begins kind) place agree =
      ap (λ (rule : OpenText). around ++ rule ∷ [])
      (opened-same around kind place
      (λ applies. agree (ap applies_in (outer-last around (opened one around kind place)) ∙ applies)))
  open-same around ends place agree = refl
  open-same around (stands item) place agree = refl

  -- ---- the parts one after another

  module _ (source : Source) where
    abbrev SameFrom : ℕ → Type 0
    SameFrom n =
        (around : List OpenText) (text : List ℕ) → All At (parts_from one source n around text)
        → parts_from one source n around text ≡ parts_from two source n around text

    then-same : (n : ℕ) → SameFrom n → (around : List OpenText) (from : List ℕ) (o : Option (SheetPart × List ℕ))
        → All At (part_then one source (parts_from one source n) around from o)
        → part_then one source (parts_from one source n) around from o
        ≡ part_then two source (parts_from two source n) around from o
    then-same n more around from None all = refl
    then-same n more around from (Some found) all =
        let place = place_at source found.1 in
        let after = open_after one around found.0 place in
        let first = placed_part source from found.0 after found.1 in
        let later = parts_from one source n after found.1 in
        ap (λ (parts : List PlacedPart). first ∷ parts) (more after found.1 (All-tail At first later all))
        ∙ ap (λ (os : List OpenText). placed_part source from found.0 os found.1 ∷ parts_from two source n os found.1)
        (open-same around found.0 place (All-head At first later all))

    from-same : (n : ℕ) → SameFrom n
    unfolding parts_from
    from-same zero around text all = refl
    from-same (suc n) around text all =
        then-same n (from-same n) around (from_part source.depth around text) (next_in source.depth around text) all

    given-same : (around : List OpenText) (rules : List GroupRuleText) (text : List ℕ)
        → All At (parts_given one source around rules text)
        → parts_given one source around rules text ≡ parts_given two source around rules text
    given-same around [] text all = from-same (length text) around text all
    given-same around (rule ∷ rules) text all =
        let after = open_given one around rule in
        let first = placed_part source text (begins (given_kind rule)) after text in
        let later = parts_given one source after rules text in
        ap (λ (parts : List PlacedPart). first ∷ parts) (given-same after rules text (All-tail At first later all))
        ∙ ap (λ (os : List OpenText). placed_part source text (begins (given_kind rule)) os text
        ∷ parts_given two source os rules text)
        (open-same around (begins (given_kind rule)) (given_place rule) (All-head At first later all))

  all-same : (number : ℕ) (sheets : List SheetText) → All At (all_parts_from one number sheets)
      → all_parts_from one number sheets ≡ all_parts_from two number sheets
  all-same number [] all = refl
  all-same number (sheet ∷ sheets) all =
      let both =
      all-split At (sheet_parts one number sheet) (all_parts_from one (number + 1) sheets) all in
      ap (λ (parts : List PlacedPart). parts ++ all_parts_from one (number + 1) sheets)
      (given-same (sheet_source number sheet) [] sheet.around sheet.text both.0)
      ∙ ap (λ (parts : List PlacedPart). sheet_parts two number sheet ++ parts)
      (all-same (number + 1) sheets both.1)

  -- the parts of sheets are the same to both
  pub parts-same : (sheets : List SheetText) → OfConditions Agree said sheets
      → layered_parts said sheets ≡ layered_parts holds sheets
  parts-same sheets agree = all-same 0 sheets agree
