-- No rule of the sheets of a call is of the origin of presentational hints.
-- Serves `winners_law` and `styles_law`.
use Rattle.std.proofs.Common.{◌≡◌, ℕ, Bool, true, false, if◌then◌else◌, List, [], ◌∷◌, get_or, Option, None, Some, refl, sym, subst}
use Rattle.std.specs.Prelude.{◌==◌, drop, map, take}
use Rattle.std.specs.List.{All, Contains, slice_get}
use Rattle.std.proofs.lemmas.Cmp.{nat_list_cmp_total}
use Rattle.std.proofs.lemmas.List.Elements.{All-cons, All-contains, All-contains_itself, All-map, All-nil, All-weaker}
use Rattle.std.proofs.lemmas.List.Sorted.{Contains-permutation, IsPermutation-sym, ranks_by}
use Rattle.css_text.proofs.order.RankLemmas.{ordered_keeps}
use Rattle.css_cascade.specs.declared.weights.Origin.TheVariants as origins
use Rattle.css_sheet.specs.SheetLayers.{sheet_layers}
use Rattle.css_sheet.specs.SheetOrder.{SheetRuleText, cascade_rules, is_before, numbered_rules as source_numbered, ranked, rule_key, source_rules}
use Rattle.css_sheet.specs.Sheets.{GroupRuleText, SheetText, origin_at, origin_if}
use Rattle.css_styles.specs.Winners.{HaveNoHints}
use Rattle.css_styles.proofs.DistinctLemmas.{all-at}
use Rattle.simplecss_calls.specs.WinnerNumbers.{AreSheets, PassedSheets, first_number, group_rule_at, is_held, later_numbers, origin_of, sheets_with}

no-hint-origin : (number : ℕ) → origin_of number ≡ origins.Hint → ⊥
no-hint-origin number e = by (number == 1) (number == 2) e
  where
    by : (s t : Bool)
        → (if s then origins.User else if t then origins.UserAgent else origins.Author) ≡ origins.Hint → ⊥
    by true t e = cc
    by false true e = cc
    by false false e = cc

abbrev pub IsNoHint : SheetText → Type 0
IsNoHint sheet = sheet.origin ≡ origins.Hint → ⊥

no-hint-sheets : (numbers depths : List ℕ) (rules : List GroupRuleText) (namespaces texts : List (List ℕ))
    → All IsNoHint (sheets_with numbers depths rules namespaces texts)
no-hint-sheets numbers depths rules namespaces [] = All-nil IsNoHint
no-hint-sheets numbers depths rules namespaces (text ∷ texts) =
    All-cons IsNoHint
    (record {
      text = text;
      origin = origin_of (first_number numbers);
      around = take (first_number depths) rules;
      namespaces = namespaces;
    })
    (sheets_with (later_numbers numbers) (later_numbers depths) (drop (first_number depths) rules) namespaces texts)
    (no-hint-origin (first_number numbers))
    (no-hint-sheets (later_numbers numbers) (later_numbers depths) (drop (first_number depths) rules) namespaces texts)

no-hint-at : (sheets : List SheetText) → All IsNoHint sheets → (number : ℕ)
    → origin_at sheets number ≡ origins.Hint → ⊥
no-hint-at sheets all number = by (slice_get sheets number) refl
  where
    by : (o : Option SheetText) → slice_get sheets number ≡ o → origin_if o ≡ origins.Hint → ⊥
    by None at e = cc
    by (Some sheet) at e = all-at IsNoHint sheets number sheet all at e

abbrev OfNoHint : SheetRuleText → Type 0
OfNoHint rule = rule.origin ≡ origins.Hint → ⊥

no-hint-source : (holds : List ℕ → List ℕ → Bool) (sheets : List SheetText) → All IsNoHint sheets
    → All OfNoHint (source_rules holds sheets)
no-hint-source holds sheets all =
    All-map OfNoHint (ranked (sheet_layers holds sheets) sheets) (source_numbered holds sheets)
    (λ k d l. no-hint-at sheets all (get_or (source_numbered holds sheets) k d).sheet)

pub no-hint-cascade : (holds : List ℕ → List ℕ → Bool) (sheets : List SheetText) → All IsNoHint sheets
    → All OfNoHint (cascade_rules holds sheets)
no-hint-cascade holds sheets all =
    let source = source_rules holds sheets in
    let rules = cascade_rules holds sheets in
    let keeps =
    ordered_keeps is_before (ranks_by nat_list_cmp_total (λ (rule : SheetRuleText). rule_key rule)) source in
    All-weaker (Contains rules) OfNoHint
    (λ rule c.
    All-contains OfNoHint source rule (no-hint-source holds sheets all)
    (Contains-permutation rules source rule (IsPermutation-sym source rules keeps) c)) rules
    (All-contains_itself rules)

-- no rule of the sheets that are passed is of this origin
pub no-hints : (passed : PassedSheets) (sheets : List SheetText) (groups : List (List ℕ))
    → AreSheets passed sheets groups → HaveNoHints (cascade_rules (is_held groups) sheets)
no-hints passed sheets groups are =
    no-hint-cascade (is_held groups) sheets
    (subst (All IsNoHint) (sym are.3)
    (no-hint-sheets passed.origins passed.depths (map (group_rule_at groups) passed.around) are.1 are.0))
