-- Selectors of which each simple selector is another, as the definitions see them and as the code goes
-- through them.
-- Serves `nesting` and `nesting_laws`.
use Rattle.std.proofs.Common.{◌≡◌, List, [], ◌∷◌, map, Vec, Global, refl, ap, sym, ◌∙◌}
use Rattle.css_selector_text.specs.declared.components.Complex.{Complex}
use Rattle.css_selector_text.specs.declared.components.Condition.{Condition as ConditionOf, Not, Is, Where, Tested}
use Rattle.css_selector_text.specs.declared.components.ListTest.{ListTest as ListTestOf}
use Rattle.css_selector_text.specs.Components.{Simple, Condition, Part, conditions_from, parts_from, selectors_from}
use Rattle.css_selector_text.specs.Components.Condition.{negation, any_of, where_any, tested}
use Rattle.css_selector_text.specs.Components.Conditions.{with_condition}
use Rattle.css_selector_text.specs.Components.Parts.{with_part}
use Rattle.css_selector_text.specs.Components.Selectors.{with_selector}
use Rattle.css_selector_text.specs.Simples.{condition_with, compound_with, complex_with, selectors_with, part_with}
use Rattle.css_selector_text.specs.Views.{complex_of, condition_of, list_test_of}
use Rattle.css_selector_text.proofs.ConditionViews.{condition_not, condition_is, condition_where, condition_tested}

module _ (change : Simple → Simple) where
  pub compound_with-from : (cs : List Condition)
      → compound_with change (conditions_from cs) ≡ conditions_from (map (condition_with change) cs)
  compound_with-from [] = refl
  compound_with-from (c ∷ cs) =
      ap (with_condition (condition_with change c)) (compound_with-from cs)

  pub complex_with-from : (ps : List Part)
      → complex_with change (parts_from ps) ≡ parts_from (map (part_with change) ps)
  complex_with-from [] = refl
  complex_with-from (p ∷ ps) =
      ap (λ x. with_part p.combinator x (complex_with change (parts_from ps)))
      (compound_with-from p.conditions)
      ∙ ap (with_part p.combinator (conditions_from (map (condition_with change) p.conditions)))
      (complex_with-from ps)

  selectors_with-from : (ss : List (List Part))
      → selectors_with change (selectors_from ss) ≡ selectors_from (map (map (part_with change)) ss)
  selectors_with-from [] = refl
  selectors_with-from (s ∷ ss) =
      ap (λ x. with_selector x (selectors_with change (selectors_from ss))) (complex_with-from s)
      ∙ ap (with_selector (parts_from (map (part_with change) s))) (selectors_with-from ss)

  -- a condition with a list, whose selectors are changed
  module _ (c : ConditionOf) (old new : Vec Complex Global) (xs : List Complex)
      (same : xs ≡ old.items)
      (are : map complex_of new.items ≡ map (map (part_with change)) (map complex_of xs)) where
    lists : selectors_from (map complex_of new.items)
        ≡ selectors_with change (selectors_from (map complex_of old.items))
    lists =
        ap selectors_from are ∙ sym (selectors_with-from (map complex_of xs))
        ∙ ap (λ ys. selectors_with change (selectors_from (map complex_of ys))) same

    pub not_with : c ≡ Not old → condition_of (Not new) ≡ condition_with change (condition_of c)
    not_with is =
        condition_not new ∙ ap negation lists
        ∙ sym (ap (λ x. condition_with change (condition_of x)) is
        ∙ ap (condition_with change) (condition_not old))

    pub is_with : c ≡ Is old → condition_of (Is new) ≡ condition_with change (condition_of c)
    is_with is =
        condition_is new ∙ ap any_of lists
        ∙ sym (ap (λ x. condition_with change (condition_of x)) is
        ∙ ap (condition_with change) (condition_is old))

    pub where_with : c ≡ Where old → condition_of (Where new) ≡ condition_with change (condition_of c)
    where_with is =
        condition_where new ∙ ap where_any lists
        ∙ sym (ap (λ x. condition_with change (condition_of x)) is
        ∙ ap (condition_with change) (condition_where old))

    pub tested_with : (t : ListTestOf) → c ≡ Tested t old
        → condition_of (Tested t new) ≡ condition_with change (condition_of c)
    tested_with t is =
        condition_tested t new ∙ ap (tested (list_test_of t)) lists
        ∙ sym (ap (λ x. condition_with change (condition_of x)) is
        ∙ ap (condition_with change) (condition_tested t old))
