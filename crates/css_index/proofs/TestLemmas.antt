-- The least and the greatest number of tests of a selector that is tried.
-- Serves `IndexedSelector::passes`.
use Rattle.std.proofs.Common.{◌≡◌, ℕ, ◌+◌, ◌<◌, ◌≤◌, ◌&&◌, Bool, true, false, IsTrue, Option, None, Some, refl, sym, ap, subst, arith}
use Rattle.std.specs.Prelude.{not, is_none, is_some, if◌then◌else◌}
use Rattle.css_selectors.specs.AncestorKeys.{is_only_keys}
use Rattle.css_selector_text.specs.Components.{Selector, parts_from}
use Rattle.css_selectors.specs.Costs.{most_tests}
use Rattle.css_selectors.specs.Documents.{Document}
use Rattle.css_index.specs.Tested.{has_test, least_of, most_of}

some_of : {A : Type 0} (r : Option A) → is_none r ≡ false → IsTrue (is_some r)
some_of None e = absurd (cc)
some_of (Some x) e = refl

and_not : (b only : Bool) → only ≡ true → (b && not only) ≡ false
and_not true only is = ap not is
and_not false only is = refl

and_all : (b only : Bool) → only ≡ false → (b && not only) ≡ b
and_all true only is = ap not is
and_all false only is = refl

module _ {Node : Type 0} (document : Document Node) (n : Node) (s : Selector) where
  -- one that requires nothing but its keys has no test
  pub no_tests : is_only_keys s ≡ true
      → (least_of (Some s) ≡ 0) × (most_of document n (Some s) ≡ 0)
  no_tests is =
      let none = and_not (is_none s.pseudo_element) (is_only_keys s) is in (
        ap (λ b. if b then 1 else 0) none,
        ap (λ b. if b then most_tests document (parts_from s.parts) n else 0) none,
      )

  module _ (old new : ℕ) (more : is_only_keys s ≡ false)
      (untested : IsTrue (is_some s.pseudo_element) → new ≡ old)
      (tested : IsTrue (is_none s.pseudo_element) → old < new)
      (most : new ≤ old + most_tests document (parts_from s.parts) n) where
    test : has_test s ≡ is_none s.pseudo_element
    test = and_all (is_none s.pseudo_element) (is_only_keys s) more

    -- any other has at least one, unless it has a pseudo-element
    pub least_counted : old + least_of (Some s) ≤ new
    least_counted = subst (λ b. old + (if b then 1 else 0) ≤ new) (sym test)
        (at (is_none s.pseudo_element) refl)
      where
        at : (b : Bool) → is_none s.pseudo_element ≡ b → old + (if b then 1 else 0) ≤ new
        at true e = let lt = tested e in omega (arith, lt)
        at false e = let same = untested (some_of s.pseudo_element e) in omega (arith, same)

    pub most_counted : new ≤ old + most_of document n (Some s)
    most_counted =
        subst (λ b. new ≤ old + (if b then most_tests document (parts_from s.parts) n else 0))
        (sym test) (at (is_none s.pseudo_element) refl)
      where
        at : (b : Bool) → is_none s.pseudo_element ≡ b
            → new ≤ old + (if b then most_tests document (parts_from s.parts) n else 0)
        at true e = most
        at false e = let same = untested (some_of s.pseudo_element e) in omega (arith, same)
