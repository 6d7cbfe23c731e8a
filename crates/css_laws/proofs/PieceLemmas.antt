-- The rules of sheets stand in the order of the sheets.
-- Serves `pieces_law`.
use Rattle.std.proofs.Common.{◌≡◌, ℕ, zero, suc, ◌+◌, ◌<◌, ◌≤◌, Bool, true, false, ◌==◌, if◌then◌else◌, List, [], ◌∷◌, ◌++◌, length, get_or, map, Option, None, Some, Result, Ok, Err, refl, subst, sym, arith}
use Rattle.std.specs.List.{All, cons_option, filter_map}
use Rattle.std.specs.List.Sorted.{IsNonDecreasingBy}
use Rattle.std.specs.Option.{option_map}
use Rattle.std.proofs.lemmas.List.Elements.{All-cons, All-head, All-nil, All-tail}
use Rattle.css_cascade.specs.Layers.{LayerText}
use Rattle.css_cascade.specs.declared.weights.Origin.TheVariants.{Author}
use Rattle.css_selector_text.specs.Components.{Selector}
use Rattle.css_syntax.specs.declared.quality.Fault.{Fault}
use Rattle.css_sheet.specs.OpenParents.{Parent, ParentsText, after_part, dropped, no_rule, none_open, style}
use Rattle.css_sheet.specs.RuleSelectors.{SelectorRead, selectors_under}
use Rattle.css_sheet.specs.SheetLayers.{layered_parts, number_in_all, sheet_layers, with_layers}
use Rattle.css_sheet.specs.SheetOrder.{RunText, SheetRuleText, declaration_count, numbered_rules, placed_rules, ranked, rule_with, rules_if_stated, rules_of_parts, run_at, source_rules, stated_rules, unless_invalid}
use Rattle.css_sheet.specs.SheetParts.{OpenText, PlacedPart, SheetPart, Source, all_parts_from, applies_in, begins, ends, from_part, next_in, open_after, open_given, part_then, parts_from, parts_given, place_at, sheet_parts, sheet_source, stands, states}
use Rattle.css_sheet.specs.Sheets.{GroupRuleText, SheetText, outermost_at}

-- ---- lists that rise

module _ {X : Type 0} (f : X → ℕ) where
  -- no number is less than this one, nor than one before it
  abbrev Rising : ℕ → List X → Type 0
  Rising n [] = Unit {0}
  Rising n (x ∷ xs) = (n ≤ f x) × Rising (f x) xs

  rising-more : (m n : ℕ) (xs : List X) → m ≤ n → Rising n xs → Rising m xs
  rising-more m n [] l r = tt
  rising-more m n (x ∷ xs) l r = let h = r.0 in (omega (arith, l, h), r.1)

  -- those of one number, and then others
  rising-append : (n : ℕ) (xs ys : List X) → All (λ x. f x ≡ n) xs → Rising n ys → Rising n (xs ++ ys)
  rising-append n [] ys all r = r
  rising-append n (x ∷ xs) ys all r =
      let e : f x ≡ n = All-head (λ z. f z ≡ n) x xs all in (
        omega (arith, e),
        subst (λ m. Rising m (xs ++ ys)) (sym e)
            (rising-append n xs ys (All-tail (λ z. f z ≡ n) x xs all) r),
      )

  rising-at : (n : ℕ) (xs : List X) → Rising n xs → (j : ℕ) (d : X) → j < length xs → n ≤ f (get_or xs j d)
  rising-at n [] r j d l = absurd (omega (arith, l))
  rising-at n (x ∷ xs) r zero d l = r.0
  rising-at n (x ∷ xs) r (suc j) d l =
      let h = r.0 in
      let k = rising-at (f x) xs r.1 j d (omega (arith, l)) in
      omega (arith, h, k)

  rising-is : (n : ℕ) (xs : List X) → Rising n xs → IsNonDecreasingBy f xs
  rising-is n [] r = λ i j d le l. absurd (omega (arith, l))
  rising-is n (x ∷ xs) r = at (rising-is (f x) xs r.1)
    where
      at : IsNonDecreasingBy f xs → (i j : ℕ) (d : X) → i ≤ j → j < suc (length xs)
          → f (get_or (x ∷ xs) i d) ≤ f (get_or (x ∷ xs) j d)
      at more zero zero d le l = omega arith
      at more zero (suc j) d le l = rising-at (f x) xs r.1 j d (omega (arith, l))
      at more (suc i) zero d le l = absurd (omega (arith, le))
      at more (suc i) (suc j) d le l = more i j d (omega (arith, le)) (omega (arith, l))

-- ---- the parts of sheets

abbrev sheet_of_part : PlacedPart → ℕ
sheet_of_part placed = placed.sheet

module _ (holds : List ℕ → List ℕ → Bool) (source : Source) where
  abbrev pub Of : PlacedPart → Type 0
  Of placed = placed.sheet ≡ source.sheet

  then-of : (n : ℕ) → ((around : List OpenText) (text : List ℕ) → All Of (parts_from holds source n around text))
      → (around : List OpenText) (from : List ℕ) (o : Option (SheetPart × List ℕ))
      → All Of (part_then holds source (parts_from holds source n) around from o)
  then-of n more around from None = All-nil Of
  then-of n more around from (Some found) =
      let after = open_after holds around found.0 (place_at source found.1) in
      All-cons Of _ (parts_from holds source n after found.1) refl (more after found.1)

  from-of : (n : ℕ) (around : List OpenText) (text : List ℕ) → All Of (parts_from holds source n around text)
  unfolding parts_from
  from-of zero around text = All-nil Of
  from-of (suc n) around text =
      then-of n (from-of n) around (from_part source.depth around text) (next_in source.depth around text)

  pub given-of : (around : List OpenText) (rules : List GroupRuleText) (text : List ℕ)
      → All Of (parts_given holds source around rules text)
  given-of around [] text = from-of (length text) around text
  given-of around (rule ∷ rules) text =
      let after = open_given holds around rule in
      All-cons Of _ (parts_given holds source after rules text) refl (given-of after rules text)

parts-rise : (holds : List ℕ → List ℕ → Bool) (number : ℕ) (sheets : List SheetText)
    → Rising sheet_of_part number (all_parts_from holds number sheets)
parts-rise holds number [] = tt
parts-rise holds number (sheet ∷ sheets) =
    rising-append sheet_of_part number (sheet_parts holds number sheet) (all_parts_from holds (number + 1) sheets)
    (given-of holds (sheet_source number sheet) [] sheet.around sheet.text)
    (rising-more sheet_of_part number (number + 1) (all_parts_from holds (number + 1) sheets) (omega arith)
    (parts-rise holds (number + 1) sheets))

-- ---- the rules of parts

abbrev sheet_of_rule : SheetRuleText → ℕ
sheet_of_rule rule = rule.sheet

module _ (number : ℕ) where
  abbrev IsIn : SheetRuleText → Type 0
  IsIn rule = rule.sheet ≡ number

  with-in : (run : RunText) → run.sheet ≡ number → (reads : List SelectorRead)
      → All IsIn (filter_map (rule_with run) reads)
  with-in run e [] = All-nil IsIn
  with-in run e (read ∷ reads) = by read.selector (with-in run e reads)
    where
      made : Selector → SheetRuleText
      made s = record {
        origin = Author;
        layer = run.layer;
        sheet = run.sheet;
        start = run.start;
        text = read.text;
        selector = s;
        pseudo_element = read.pseudo_element;
        block = run.text;
      }

      by : (o : Option Selector) → All IsIn (filter_map (rule_with run) reads)
          → All IsIn (cons_option (option_map made o) (filter_map (rule_with run) reads))
      by None more = more
      by (Some s) more = All-cons IsIn (made s) (filter_map (rule_with run) reads) e more

  stated-in : (parent : Parent) (run : RunText) → run.sheet ≡ number → All IsIn (stated_rules parent run)
  stated-in no_rule run e = All-nil IsIn
  stated-in dropped run e = All-nil IsIn
  stated-in (style prelude under own) run e = by (declaration_count run.text == 0) (selectors_under under prelude)
    where
      by : (t : Bool) (r : Result (List SelectorRead) Fault) → All IsIn (if t then [] else unless_invalid run r)
      by true r = All-nil IsIn
      by false (Err fault) = All-nil IsIn
      by false (Ok reads) = with-in run e reads

  part-in : (layer : ℕ) (parent : Parent) (placed : PlacedPart) (part : SheetPart) → placed.sheet ≡ number
      → All IsIn (rules_if_stated layer parent placed part)
  part-in layer parent placed (states text) e = by (applies_in placed.around)
    where
      by : (t : Bool) → All IsIn (if t then stated_rules parent (run_at layer placed text) else [])
      by true = stated-in parent (run_at layer placed text) e
      by false = All-nil IsIn
  part-in layer parent placed (begins kind) e = All-nil IsIn
  part-in layer parent placed ends e = All-nil IsIn
  part-in layer parent placed (stands item) e = All-nil IsIn

rules-rise : (outermost : ℕ → ℕ) (known : List LayerText) (parents : ParentsText) (n : ℕ) (parts : List PlacedPart)
    → Rising sheet_of_part n parts → Rising sheet_of_rule n (rules_of_parts outermost known parents parts)
rules-rise outermost known parents n [] r = tt
rules-rise outermost known parents n (placed ∷ more) r =
    let after = after_part parents placed in
    let layer = number_in_all (outermost placed.sheet) placed.around known in
    rising-more sheet_of_rule n placed.sheet
    (placed_rules outermost known after.innermost placed ++ rules_of_parts outermost known after more) r.0
    (rising-append sheet_of_rule placed.sheet (placed_rules outermost known after.innermost placed)
    (rules_of_parts outermost known after more)
    (part-in placed.sheet layer after.innermost placed placed.part refl)
    (rules-rise outermost known after placed.sheet more r.1))

ranked-rise : (known : List LayerText) (sheets : List SheetText) (n : ℕ) (rules : List SheetRuleText)
    → Rising sheet_of_rule n rules → Rising sheet_of_rule n (map (ranked known sheets) rules)
ranked-rise known sheets n [] r = tt
ranked-rise known sheets n (rule ∷ rules) r = (r.0, ranked-rise known sheets rule.sheet rules r.1)

pub sheets-rise : (holds : List ℕ → List ℕ → Bool) (sheets : List SheetText)
    → IsNonDecreasingBy (λ (rule : SheetRuleText). rule.sheet) (source_rules holds sheets)
sheets-rise holds sheets =
    rising-is sheet_of_rule 0 (source_rules holds sheets)
    (ranked-rise (sheet_layers holds sheets) sheets 0 (numbered_rules holds sheets)
    (rules-rise (outermost_at sheets) (sheet_layers holds sheets) (none_open []) 0 (layered_parts holds sheets)
    (parts-rise (with_layers holds) 0 sheets)))
