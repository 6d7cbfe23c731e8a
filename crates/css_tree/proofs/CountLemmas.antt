-- There is one number of an element among those siblings that are of a kind.
-- Serves `nth_marks` and `marking_laws`.
use Rattle.std.proofs.Common.{◌≡◌, ℕ, suc, ◌+◌, ◌↔◌, Bool, Option, None, Some, IsTrue, refl, ap, sym, ◌∙◌, subst}
use Rattle.std.specs.Option.{option_map}
use Rattle.css_matching.specs.ListTrees.{spot}
use Rattle.css_selector_text.specs.Components.{Progression}
use Rattle.css_selector_text.specs.reading.Numbers.{is_numbered}
use Rattle.css_tree.specs.Pages.{Page}
use Rattle.css_tree.specs.SiblingCounts.{HasCount, IsNumberedAmong}
use Rattle.css_tree.specs.SiblingCounts.HasCount.{no_node, one_more, another}

module _ {Node : Type 0} (next : Node → Option Node) where
  -- there is one count
  count_same : (Is : Node → Type 0) (o : Option Node) (k l : ℕ) → HasCount next Is o k
      → HasCount next Is o l → k ≡ l
  count_same Is None _ _ no_node no_node = refl
  count_same Is (Some m) (suc k) (suc l) (one_more a x) (one_more b y) =
      ap suc (count_same Is (next m) k l x y)
  count_same Is (Some m) (suc k) l (one_more a x) (another b y) = absurd (b a)
  count_same Is (Some m) k (suc l) (another a x) (one_more b y) = absurd (a b)
  count_same Is (Some m) k l (another a x) (another b y) = count_same Is (next m) k l x y

  -- the number is what was counted, plus one
  pub numbered_by_count : (Is : Node → Type 0) (p : Progression) (n : Node) (k : ℕ) (r : Bool)
      → HasCount next Is (next n) k → r ≡ is_numbered p (k + 1)
      → IsTrue r ↔ IsNumberedAmong next Is p n
  numbered_by_count Is p n k r counted is = (
    λ t. (k, counted, sym is ∙ t),
    λ h. is ∙ ap (λ j. is_numbered p (j + 1)) (count_same Is (next n) k h.0 counted h.1) ∙ h.2,
  )

-- Of two pages with the same siblings, where the same elements are of the kind, the numbers are the same.
module _ (p q : Page) (next : Page × ℕ → Option (Page × ℕ)) (of : ℕ → Option ℕ)
    (on_p : (j : ℕ) → next (spot p j) ≡ option_map (spot p) (of j))
    (on_q : (j : ℕ) → next (spot q j) ≡ option_map (spot q) (of j)) (Is : Page × ℕ → Type 0)
    (same : (j : ℕ) → Is (spot p j) ↔ Is (spot q j)) where
  count_moved : (x : Option (Page × ℕ)) (k : ℕ) → HasCount next Is x k → (o : Option ℕ)
      → x ≡ option_map (spot p) o → HasCount next Is (option_map (spot q) o) k
  count_moved None _ no_node None e = no_node
  count_moved None _ no_node (Some j) e = absurd (cc)
  count_moved (Some x) (suc k) (one_more here more) None e = absurd (cc)
  count_moved (Some x) (suc k) (one_more here more) (Some j) e =
      let is : x ≡ spot p j = cc in
      one_more ((same j).0 (subst Is is here))
      (subst (λ y. HasCount next Is y k) (sym (on_q j))
      (count_moved (next x) k more (of j) (ap next is ∙ on_p j)))
  count_moved (Some x) k (another not_here more) None e = absurd (cc)
  count_moved (Some x) k (another not_here more) (Some j) e =
      let is : x ≡ spot p j = cc in
      another (λ h. not_here (subst Is (sym is) ((same j).1 h)))
      (subst (λ y. HasCount next Is y k) (sym (on_q j))
      (count_moved (next x) k more (of j) (ap next is ∙ on_p j)))

  pub numbered_moved : (progression : Progression) (i : ℕ)
      → IsNumberedAmong next Is progression (spot p i) → IsNumberedAmong next Is progression (spot q i)
  numbered_moved progression i h = (
    h.0,
    subst (λ y. HasCount next Is y h.0) (sym (on_q i))
        (count_moved (next (spot p i)) h.0 h.1 (of i) (on_p i)),
    h.2,
  )
