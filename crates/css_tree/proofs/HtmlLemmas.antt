-- Lists of components as an HTML document reads them, one after another, and names without a capital.
-- Serves `html`.
use Rattle.std.proofs.Common.{◌≡◌, ℕ, ◌+◌, ◌<◌, ◌≤◌, Bool, true, false, List, [], ◌∷◌, ◌++◌, length, map, get_or, take, Vec, Global, refl, ap, sym, ◌∙◌, arith}
use Rattle.std.specs.Prelude.{◌||◌}
use Rattle.std.specs.Char.{to_ascii_lowercase, is_ascii_uppercase}
use Rattle.std.specs.List.{list_any}
use Rattle.std.proofs.lemmas.Bool.Decides.{nat_tests}
use Rattle.std.proofs.lemmas.List.{map_more, map-append, take_all}
use Rattle.css_selector_text.specs.declared.components.Complex.{Complex}
use Rattle.css_selector_text.specs.declared.components.Condition.{Condition as ConditionOf, Not, Is, Where, Tested}
use Rattle.css_selector_text.specs.declared.components.ListTest.{ListTest}
use Rattle.css_selector_text.specs.Components.{Condition, Part, conditions_from, parts_from, selectors_from}
use Rattle.css_selector_text.specs.Components.Condition.{negation, any_of, where_any, tested}
use Rattle.css_selector_text.specs.Components.Conditions.{with_condition}
use Rattle.css_selector_text.specs.Components.Parts.{with_part}
use Rattle.css_selector_text.specs.Components.Selectors.{with_selector}
use Rattle.css_selector_text.specs.Views.{complex_of, condition_of, list_test_of}
use Rattle.css_selector_text.proofs.ConditionViews.{condition_not, condition_is, condition_where, condition_tested}
use Rattle.css_tree.specs.Html.{condition_in, compound_in, complex_in, selectors_in, part_in}
use Rattle.css_tree.specs.declared.html.HtmlMode.{HtmlMode}

-- one component more
pub read-more : {A B C D : Type 0} (view : A → D) (of : B → C) (read : C → D) (done : List A)
    (items : List B) (i : ℕ) (d : B) (a : A) (all : List A) → i < length items
    → map view done ≡ map read (map of (take i items)) → view a ≡ read (of (get_or items i d))
    → all ≡ done ++ a ∷ [] → map view all ≡ map read (map of (take (i + 1) items))
read-more view of read done items i d a all within so_far one are =
    ap (map view) are ∙ map-append view done (a ∷ [])
    ∙ ap (λ t. t ++ view a ∷ []) so_far
    ∙ ap (λ x. map read (map of (take i items)) ++ x ∷ []) one
    ∙ sym (ap (map read) (map_more of items i d within)
    ∙ map-append read (map of (take i items)) (of (get_or items i d) ∷ []))

either-false : (a b : Bool) → (a || b) ≡ false → (a ≡ false) × (b ≡ false)
either-false true b h = absurd (cc)
either-false false b h = (refl, h)

no-capital : (b : ℕ) → is_ascii_uppercase b ≡ false → to_ascii_lowercase b ≡ b
no-capital b none = grind (arith, nat_tests, none)

-- a name without a capital
pub lower-same : (name : List ℕ) → list_any is_ascii_uppercase name ≡ false
    → name ≡ map to_ascii_lowercase name
lower-same [] none = refl
lower-same (b ∷ name) none =
    let both = either-false (is_ascii_uppercase b) (list_any is_ascii_uppercase name) none in
    ap (λ c. c ∷ name) (sym (no-capital b both.0))
    ∙ ap (λ t. to_ascii_lowercase b ∷ t) (lower-same name both.1)

-- all components
pub read-all : {A B C D : Type 0} (view : A → D) (of : B → C) (read : C → D) (done : List A)
    (items all : List B) (i : ℕ) → length items ≤ i → items ≡ all
    → map view done ≡ map read (map of (take i items)) → map view done ≡ map read (map of all)
read-all view of read done items all i within are so_far =
    so_far ∙ ap (λ xs. map read (map of xs)) (take_all i items within ∙ are)

-- ---- lists of complex selectors

compound_in-from : (mode : HtmlMode) (cs : List Condition)
    → compound_in mode (conditions_from cs) ≡ conditions_from (map (condition_in mode) cs)
compound_in-from mode [] = refl
compound_in-from mode (c ∷ cs) = ap (with_condition (condition_in mode c)) (compound_in-from mode cs)

complex_in-from : (mode : HtmlMode) (ps : List Part)
    → complex_in mode (parts_from ps) ≡ parts_from (map (part_in mode) ps)
complex_in-from mode [] = refl
complex_in-from mode (p ∷ ps) =
    ap (λ x. with_part p.combinator x (complex_in mode (parts_from ps)))
    (compound_in-from mode p.conditions)
    ∙ ap (with_part p.combinator (conditions_from (map (condition_in mode) p.conditions)))
    (complex_in-from mode ps)

selectors_in-from : (mode : HtmlMode) (ss : List (List Part))
    → selectors_in mode (selectors_from ss) ≡ selectors_from (map (map (part_in mode)) ss)
selectors_in-from mode [] = refl
selectors_in-from mode (s ∷ ss) =
    ap (λ x. with_selector x (selectors_in mode (selectors_from ss))) (complex_in-from mode s)
    ∙ ap (with_selector (parts_from (map (part_in mode) s))) (selectors_in-from mode ss)

-- a condition with a list, of which the lists are read
module _ (mode : HtmlMode) (c : ConditionOf) (old new : Vec Complex Global) (xs : List Complex)
    (same : xs ≡ old.items)
    (are : map complex_of new.items ≡ map (map (part_in mode)) (map complex_of xs)) where
  pub lists : selectors_from (map complex_of new.items)
      ≡ selectors_in mode (selectors_from (map complex_of old.items))
  lists =
      ap selectors_from are ∙ sym (selectors_in-from mode (map complex_of xs))
      ∙ ap (λ ys. selectors_in mode (selectors_from (map complex_of ys))) same

  pub read-not : c ≡ Not old → condition_of (Not new) ≡ condition_in mode (condition_of c)
  read-not is =
      condition_not new ∙ ap negation lists
      ∙ sym (ap (λ x. condition_in mode (condition_of x)) is ∙ ap (condition_in mode) (condition_not old))

  pub read-is : c ≡ Is old → condition_of (Is new) ≡ condition_in mode (condition_of c)
  read-is is =
      condition_is new ∙ ap any_of lists
      ∙ sym (ap (λ x. condition_in mode (condition_of x)) is ∙ ap (condition_in mode) (condition_is old))

  pub read-where : c ≡ Where old → condition_of (Where new) ≡ condition_in mode (condition_of c)
  read-where is =
      condition_where new ∙ ap where_any lists
      ∙ sym (ap (λ x. condition_in mode (condition_of x)) is ∙ ap (condition_in mode) (condition_where old))

  pub read-tested : (k : ListTest) → c ≡ Tested k old
      → condition_of (Tested k new) ≡ condition_in mode (condition_of c)
  read-tested k is =
      condition_tested k new ∙ ap (tested (list_test_of k)) lists
      ∙ sym (ap (λ x. condition_in mode (condition_of x)) is
      ∙ ap (condition_in mode) (condition_tested k old))
