-- Selectors with numbers in place of pseudo-classes with lists, as the definitions see them and as the
-- code goes through them.
-- Serves `numbering`.
use Rattle.std.proofs.Common.{◌≡◌, ℕ, ◌+◌, ◌<◌, List, [], ◌∷◌, ◌++◌, length, map, Vec, Global, refl, sym, ap, ◌∙◌, append-nil, append_assoc, arith}
use Rattle.std.proofs.lemmas.List.{length-map, length-append, map-append}
use Rattle.css_selector_text.specs.declared.components.Complex.{Complex}
use Rattle.css_selector_text.specs.declared.components.Condition.{Condition as ConditionOf, Simple as SimpleIs, Not, Is, Where, Tested}
use Rattle.css_selector_text.specs.declared.components.ListTest.{ListTest as ListTestOf}
use Rattle.css_selector_text.specs.declared.components.Simple.TheVariants.{Nesting as NestingIs}
use Rattle.css_selectors.specs.declared.marked_list.MarkedList.{MarkedList}
use Rattle.css_selectors.specs.declared.marked_list.MarkedList.TheVariants.{Tested as TestedList}
use Rattle.css_selector_text.specs.declared.specificity.Specificity.{Specificity}
use Rattle.css_selector_text.specs.Components.{Condition, Part, Selectors, conditions_from, parts_from, selectors_from}
use Rattle.css_selector_text.specs.Components.Simple.{nesting}
use Rattle.css_selector_text.specs.Components.Condition.{simple, negation, any_of, where_any}
use Rattle.css_selector_text.specs.Components.Conditions.{with_condition}
use Rattle.css_selector_text.specs.Components.Parts.{with_part}
use Rattle.css_selector_text.specs.Components.Selectors.{with_selector}
use Rattle.css_selectors.specs.MarkedLists.{ListText, list_of}
use Rattle.css_selectors.specs.Numberings.{Numbered, one_then, made_of, numbered_test, numbered_condition, numbered_compound, numbered_complex, numbered_list, numbered_each, numbered_conditions, numbered_parts, specificity_of}
use Rattle.css_selector_text.specs.Specificities.{Counts, nothing, of_test, greatest}
use Rattle.css_selector_text.specs.SpecificityViews.{counts_of}
use Rattle.css_selector_text.specs.Views.{complex_of, condition_of, list_test_of}
use Rattle.css_selector_text.proofs.ConditionViews.{condition_not, condition_is, condition_where, condition_tested}
use Rattle.css_selector_text.proofs.NestLemmas.{condition_simple}

module _ (numbers : List ℕ) where
  pub compound-from : (lists : List ListText) (cs : List Condition)
      → numbered_compound numbers lists (conditions_from cs)
      ≡ made_of conditions_from (numbered_conditions numbers lists cs)
  compound-from lists [] = refl
  compound-from lists (c ∷ cs) =
      let one = numbered_condition numbers lists c in
      ap (λ m. (with_condition one.0 m.0, m.1)) (compound-from one.1 cs)

  pub complex-from : (lists : List ListText) (ps : List Part)
      → numbered_complex numbers lists (parts_from ps)
      ≡ made_of parts_from (numbered_parts numbers lists ps)
  complex-from lists [] = refl
  complex-from lists (p ∷ ps) =
      let one = numbered_conditions numbers lists p.conditions in
      ap (λ m. one_then (with_part p.combinator) m
      (λ more. numbered_complex numbers more (parts_from ps))) (compound-from lists p.conditions)
      ∙ ap (λ m. (with_part p.combinator (conditions_from one.0) m.0, m.1)) (complex-from one.1 ps)

  list-from : (lists : List ListText) (ss : List (List Part))
      → numbered_list numbers lists (selectors_from ss)
      ≡ made_of selectors_from (numbered_each (numbered_parts numbers) lists ss)
  list-from lists [] = refl
  list-from lists (s ∷ ss) =
      let one = numbered_parts numbers lists s in
      ap (λ m. one_then with_selector m
      (λ more. numbered_list numbers more (selectors_from ss))) (complex-from lists s)
      ∙ ap (λ m. (with_selector (parts_from one.0) m.0, m.1)) (list-from one.1 ss)

  -- a condition with a list
  module _ (lists : List ListText) (mid : List MarkedList) (c : ConditionOf)
      (old new : Vec Complex Global)
      (are : numbered_each (numbered_parts numbers) lists (map complex_of old.items)
      ≡ (map complex_of new.items, map list_of mid)) where
    abbrev list_in : Vec Complex Global → Selectors
    list_in v = selectors_from (map complex_of v.items)

    listed : numbered_list numbers lists (list_in old) ≡ (list_in new, map list_of mid)
    listed = list-from lists (map complex_of old.items) ∙ ap (made_of selectors_from) are

    pub not_numbered : c ≡ Not old
        → numbered_condition numbers lists (condition_of c) ≡ (condition_of (Not new), map list_of mid)
    not_numbered is =
        ap (numbered_condition numbers lists) (ap condition_of is ∙ condition_not old)
        ∙ ap (made_of negation) listed ∙ ap (λ x. (x, map list_of mid)) (sym (condition_not new))

    pub is_numbered : c ≡ Is old
        → numbered_condition numbers lists (condition_of c) ≡ (condition_of (Is new), map list_of mid)
    is_numbered is =
        ap (numbered_condition numbers lists) (ap condition_of is ∙ condition_is old)
        ∙ ap (made_of any_of) listed ∙ ap (λ x. (x, map list_of mid)) (sym (condition_is new))

    pub where_numbered : c ≡ Where old
        → numbered_condition numbers lists (condition_of c)
        ≡ (condition_of (Where new), map list_of mid)
    where_numbered is =
        ap (numbered_condition numbers lists) (ap condition_of is ∙ condition_where old)
        ∙ ap (made_of where_any) listed ∙ ap (λ x. (x, map list_of mid)) (sym (condition_where new))

    pub tested_numbered : (t : ListTestOf) (s : Specificity) (n : ℕ) (after : List MarkedList)
        → c ≡ Tested t old
        → counts_of s ≡ of_test (list_test_of t) (greatest nothing (list_in old))
        → after ≡ mid ++ (TestedList t new ∷ []) → n ≡ length after
        → numbered_condition numbers lists (condition_of c)
        ≡ (
          condition_of (SimpleIs (NestingIs (record { number = n; specificity = s }))),
          map list_of after,
        )
    tested_numbered t s n after is counts pushed number =
        let most : Counts = of_test (list_test_of t) (greatest nothing (list_in old)) in
        let one : List ListText = list_of (TestedList t new) ∷ [] in
        let a = length-map mid list_of in
        let b = length-append mid (TestedList t new ∷ []) in
        let c' = ap length pushed in
        let next : length (map list_of mid) + 1 ≡ n = omega (arith, a, b, c', number) in
        ap (numbered_condition numbers lists) (ap condition_of is ∙ condition_tested t old)
        ∙ ap (numbered_test most (list_test_of t)) listed
        ∙ ap (λ k. (
          simple (nesting (record { number = k; specificity = specificity_of most })),
          map list_of mid ++ one,
        )) next
        ∙ ap (λ x. (
          simple (nesting (record { number = n; specificity = specificity_of x })),
          map list_of mid ++ one,
        )) (sym counts)
        ∙ ap (λ l. (simple (nesting (record { number = n; specificity = s })), l))
        (sym (ap (map list_of) pushed ∙ map-append list_of mid (TestedList t new ∷ [])))
        ∙ ap (λ x. (x, map list_of after))
        (sym (condition_simple (NestingIs (record { number = n; specificity = s }))))

-- ---- as the code goes through a list

-- what was made so far, and what is made of those that are left
abbrev pub before : {A : Type 0} → List A → Numbered (List A) → Numbered (List A)
before ys made = (ys ++ made.0, made.1)

module _ {A : Type 0} (one : List ListText → A → Numbered A) where
  pub each_step : (lists more : List ListText) (x y : A) (xs ys : List A) → one lists x ≡ (y, more)
      → before ys (numbered_each one lists (x ∷ xs))
      ≡ before (ys ++ (y ∷ [])) (numbered_each one more xs)
  each_step lists more x y xs ys e =
      let others = numbered_each one more xs in
      ap (λ m. before ys (one_then (λ z zs. z ∷ zs) m (λ l. numbered_each one l xs))) e
      ∙ ap (λ zs. (zs, others.1)) (sym (append_assoc ys (y ∷ []) others.0))

  pub each_over : (lists : List ListText) (ys : List A)
      → before ys (numbered_each one lists []) ≡ (ys, lists)
  each_over lists ys = ap (λ zs. (zs, lists)) (append-nil ys)

  pub each_length : (lists : List ListText) (xs : List A)
      → length (numbered_each one lists xs).0 ≡ length xs
  each_length lists [] = refl
  each_length lists (x ∷ xs) = let h = each_length (one lists x).1 xs in omega (arith, h)

  -- of some there are some
  pub some_left : {B : Type 0} (view : B → A) (lists more : List ListText) (old new : List B)
      → numbered_each one lists (map view old) ≡ (map view new, more) → 0 < length old
      → 0 < length new
  some_left view lists more old new e some =
      let a = ap (λ m. length m.0) e in
      let b = each_length lists (map view old) in
      let c = length-map old view in
      let d = length-map new view in
      omega (arith, a, b, c, d, some)
