-- Selectors in the default namespace, as the definitions see them and as the code goes through them.
-- Serves `defaults`.
use Rattle.std.proofs.Common.{◌≡◌, ℕ, suc, ◌<◌, ◌==◌, ◌++◌, Bool, true, false, not, ◌&&◌, ◌||◌, List, [], ◌∷◌, length, map, Result, Ok, Err, Vec, Global, refl, ap, sym, ◌∙◌, append_assoc, arith}
use Rattle.std.proofs.lemmas.Bool.Decides.{nat_tests}
use Rattle.std.proofs.lemmas.List.{length-map, map-append}
use Rattle.std.specs.Prelude.{if◌then◌else◌, IfOk}
use Rattle.css_selector_text.specs.declared.components.Complex.{Complex}
use Rattle.css_selector_text.specs.declared.components.Condition.{Condition as ConditionOf, Not, Is, Where, Tested}
use Rattle.css_selector_text.specs.declared.components.ListTest.{ListTest as ListTestOf}
use Rattle.css_selector_text.specs.Components.{Condition, Part, conditions_from, parts_from, selectors_from}
use Rattle.css_selector_text.specs.Components.Condition.{negation, any_of, where_any, tested}
use Rattle.css_selector_text.specs.Components.Conditions.{with_condition}
use Rattle.css_selector_text.specs.Components.Parts.{with_part}
use Rattle.css_selector_text.specs.Components.Selectors.{with_selector}
use Rattle.css_selector_text.specs.reading.Defaults.{implied_in, is_exempting, with_implied, begins_typed, is_end, condition_in, compound_in, complex_in, selectors_in, is_typed, part_in, is_last_part, parts_in}
use Rattle.css_selector_text.specs.declared.components.Part.{Part as PartOf}
use Rattle.css_selector_text.specs.Views.{complex_of, condition_of, part_of, list_test_of}
use Rattle.css_selector_text.proofs.ConditionViews.{condition_not, condition_is, condition_where, condition_tested}

module _ (number : ℕ) where
  compound_in-from : (exempting : Bool) (cs : List Condition)
      → compound_in number exempting (conditions_from cs)
      ≡ conditions_from (map (condition_in number exempting) cs)
  compound_in-from exempting [] = refl
  compound_in-from exempting (c ∷ cs) =
      ap (with_condition (condition_in number exempting c)) (compound_in-from exempting cs)

  begins_typed-from : (cs : List Condition) → begins_typed (conditions_from cs) ≡ is_typed cs
  begins_typed-from [] = refl
  begins_typed-from (c ∷ cs) = refl

  is_end-from : (ps : List Part) → is_end (parts_from ps) ≡ is_last_part ps
  is_end-from [] = refl
  is_end-from (p ∷ ps) = refl

  implied-from : (b : Bool) (cs : List Condition)
      → with_implied number b (conditions_from cs)
      ≡ conditions_from (if b then implied_in number ∷ cs else cs)
  implied-from true cs = refl
  implied-from false cs = refl

  pub complex_in-from : (exempting : Bool) (ps : List Part)
      → complex_in number exempting (parts_from ps) ≡ parts_from (parts_in number exempting ps)
  complex_in-from exempting [] = refl
  complex_in-from exempting (p ∷ ps) =
      let cs : List Condition = p.conditions in
      rw (begins_typed-from cs, is_end-from ps, compound_in-from exempting cs, complex_in-from exempting ps)
      (ap (λ c. with_part p.combinator c (parts_from (parts_in number exempting ps)))
      (implied-from (not (is_typed cs || exempting && is_last_part ps)) (map (condition_in number exempting) cs)))

  selectors_in-from : (exempting : Bool) (ss : List (List Part))
      → selectors_in number exempting (selectors_from ss)
      ≡ selectors_from (map (parts_in number exempting) ss)
  selectors_in-from exempting [] = refl
  selectors_in-from exempting (s ∷ ss) =
      ap (λ x. with_selector x (selectors_in number exempting (selectors_from ss)))
      (complex_in-from exempting s)
      ∙ ap (with_selector (parts_from (parts_in number exempting s))) (selectors_in-from exempting ss)

  -- a condition with a list
  module _ (within : Bool) (c : ConditionOf) (old new : Vec Complex Global) (exempting : Bool)
      (are : map complex_of new.items ≡ map (parts_in number exempting) (map complex_of old.items)) where
    lists : selectors_from (map complex_of new.items)
        ≡ selectors_in number exempting (selectors_from (map complex_of old.items))
    lists =
        ap selectors_from are ∙ sym (selectors_in-from exempting (map complex_of old.items))

    pub not_in : true ≡ exempting → c ≡ Not old
        → condition_of (Not new) ≡ condition_in number within (condition_of c)
    not_in e is =
        condition_not new
        ∙ ap negation (lists ∙ ap (λ x. selectors_in number x (selectors_from (map complex_of old.items))) (sym e))
        ∙ sym (ap (λ x. condition_in number within (condition_of x)) is
        ∙ ap (condition_in number within) (condition_not old))

    pub is_in : true ≡ exempting → c ≡ Is old
        → condition_of (Is new) ≡ condition_in number within (condition_of c)
    is_in e is =
        condition_is new
        ∙ ap any_of (lists ∙ ap (λ x. selectors_in number x (selectors_from (map complex_of old.items))) (sym e))
        ∙ sym (ap (λ x. condition_in number within (condition_of x)) is
        ∙ ap (condition_in number within) (condition_is old))

    pub where_in : true ≡ exempting → c ≡ Where old
        → condition_of (Where new) ≡ condition_in number within (condition_of c)
    where_in e is =
        condition_where new
        ∙ ap where_any (lists ∙ ap (λ x. selectors_in number x (selectors_from (map complex_of old.items))) (sym e))
        ∙ sym (ap (λ x. condition_in number within (condition_of x)) is
        ∙ ap (condition_in number within) (condition_where old))

    pub tested_in : (t : ListTestOf) → exempting ≡ (within || is_exempting (list_test_of t)) → c ≡ Tested t old
        → condition_of (Tested t new) ≡ condition_in number within (condition_of c)
    tested_in t e is =
        condition_tested t new
        ∙ ap (tested (list_test_of t))
        (lists ∙ ap (λ x. selectors_in number x (selectors_from (map complex_of old.items))) e)
        ∙ sym (ap (λ x. condition_in number within (condition_of x)) is
        ∙ ap (condition_in number within) (condition_tested t old))

last_part : (xs : List PartOf) → is_last_part (map part_of xs) ≡ (length xs == 0)
last_part [] = refl
last_part (x ∷ xs) = grind (arith, nat_tests)

-- one more compound selector
module _ (number : ℕ) (exempting : Bool) (x : PartOf) (rest : List PartOf) where
  pub part_step : (done : List PartOf) (new : PartOf) (left : ℕ) (all : List Part)
      → left ≡ length rest → part_of new ≡ part_in number exempting (left == 0) (part_of x)
      → map part_of done ++ parts_in number exempting (map part_of (x ∷ rest)) ≡ all
      → map part_of (done ++ (new ∷ [])) ++ parts_in number exempting (map part_of rest) ≡ all
  part_step done new left all is made before =
      let others : List Part = parts_in number exempting (map part_of rest) in
      ap (λ t. t ++ others) (map-append part_of done (new ∷ []))
      ∙ append_assoc (map part_of done) (part_of new ∷ []) others
      ∙ ap (λ p. map part_of done ++ (p ∷ others))
      (made ∙ ap (λ (b : Bool). part_in number exempting b (part_of x))
      (ap (λ k. k == 0) is ∙ sym (last_part rest)))
      ∙ before

-- as many as were written
parts_in-length : (number : ℕ) (exempting : Bool) (ps : List Part)
    → length (parts_in number exempting ps) ≡ length ps
parts_in-length number exempting [] = refl
parts_in-length number exempting (p ∷ ps) = ap suc (parts_in-length number exempting ps)

some_in : (number : ℕ) (exempting : Bool) (old new : List PartOf)
    → map part_of new ≡ parts_in number exempting (map part_of old) → 0 < length old → 0 < length new
some_in number exempting old new are some =
    omega (
      arith,
      some,
      sym (length-map new part_of) ∙ ap length are
          ∙ parts_in-length number exempting (map part_of old) ∙ length-map old part_of,
    )

pub some_in_ok : {E : Type 0} (number : ℕ) (exempting : Bool) (old : List PartOf)
    (r : Result (Vec PartOf Global) E)
    → IfOk r (λ all. map part_of all.items ≡ parts_in number exempting (map part_of old))
    → IfOk r (λ all. 0 < length old → 0 < length all.items)
some_in_ok number exempting old (Ok all) are = some_in number exempting old all.items are
some_in_ok number exempting old (Err e) are = tt
