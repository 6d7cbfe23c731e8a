-- Values by their texts, sorted and each text once.
-- Serves `words`.
use Rattle.std.proofs.Common.{◌≡◌, ℕ, ◌↔◌, List, [], ◌∷◌, map, nat_eq, sym, ap, ◌∙◌, subst, arith}
use Rattle.std.specs.Ordering.{on, nat_cmp}
use Rattle.std.specs.declared.cmp.Ordering.TheVariants.{Less}
use Rattle.std.specs.Cmp.Lexicographic.{pointwise, slice_cmp, on_texts, on_texts_equal, texts_ties, same_text}
use Rattle.std.specs.List.{All, Contains, dedup}
use Rattle.std.specs.List.Sorted.{IsPermutation, IsSorted, IsStrictlySortedBy}
use Rattle.std.proofs.lemmas.List.{get_or-map, length-map}
use Rattle.std.proofs.lemmas.List.Elements.{All-contains, All-contains_itself, All-from_recursion, All-map, All-weaker, recursion_from_All}
use Rattle.std.proofs.lemmas.List.Filters.{All-dedup}
use Rattle.std.proofs.lemmas.List.Kept.{Any-dedup, IsStrictlySortedBy-dedup}
use Rattle.std.proofs.lemmas.List.Sorted.{All-permutation, Contains-permutation}

module _ {V : Type 0} (f : V → List ℕ) where
  Contains-map : (vs : List V) (v : V) → Contains vs v → Contains (map f vs) (f v)
  Contains-map vs v c =
      (c.0, omega (arith, length-map vs f, c.1), get_or-map f vs c.0 v (f v) c.1 ∙ ap f c.2)

  All-from_map : (P : List ℕ → Type 0) (vs : List V) → All P (map f vs) → All (λ v. P (f v)) vs
  All-from_map P vs all i d lt =
      subst P (get_or-map f vs i d (f d) lt) (all i (f d) (omega (arith, length-map vs f, lt)))

  module _ (old between new : List V) (moved : IsPermutation old between)
      (is : new ≡ dedup (on f (pointwise nat_eq)) between) where
    -- each text is there still
    text_kept : (v : V) → Contains old v → Contains (map f new) (f v)
    text_kept v c =
        let a = Any-dedup (on_texts_equal f) between v (Contains-permutation old between v moved c) in
        let one = dedup (on f (pointwise nat_eq)) between in
        subst (λ ws. Contains (map f ws) (f v)) (sym is)
        (subst (Contains (map f one)) (sym (same_text (f v) (f a.1) (sym a.4)))
        (Contains-map one a.1 (a.0, a.2, a.3)))

    -- no text is new
    texts_old : (P : List ℕ → Type 0) → All P (map f old) → All P (map f new)
    texts_old P all =
        All-map P f new (subst (All (λ v. P (f v))) (sym is)
        (All-dedup (on f (pointwise nat_eq)) (λ v. P (f v)) between
        (All-permutation (λ v. P (f v)) old between moved (All-from_map P old all))))

    -- what is said of each text that is there
    pub texts_same : (P : List ℕ → Type 0) → ((text : List ℕ) → P text ↔ Contains (map f old) text)
        → (text : List ℕ) → P text ↔ Contains (map f new) text
    texts_same P known text = (
      λ h. All-contains (Contains (map f new)) (map f old) text
          (All-map (Contains (map f new)) f old
          (All-weaker (Contains old) (λ v. Contains (map f new) (f v)) text_kept old
          (All-contains_itself old))) ((known text).0 h),
      All-contains P (map f new) text (texts_old P
          (All-weaker (Contains (map f old)) P (λ t. (known t).1) (map f old)
          (All-contains_itself (map f old)))),
    )

  sorted_texts : (vs : List V) → IsStrictlySortedBy (on f (slice_cmp nat_cmp)) vs
      → IsStrictlySortedBy (slice_cmp nat_cmp) (map f vs)
  unfolding IsStrictlySortedBy
  sorted_texts [] h = h
  sorted_texts (v ∷ vs) h = (
    recursion_from_All (λ t. slice_cmp nat_cmp (f v) t ≡ Less) (map f vs)
        (All-map (λ t. slice_cmp nat_cmp (f v) t ≡ Less) f vs
        (All-from_recursion (λ w. slice_cmp nat_cmp (f v) (f w) ≡ Less) vs h.0)),
    sorted_texts vs h.1,
  )

  -- each text is there once, in order
  pub texts_once : (between new : List V) → IsSorted (on f (slice_cmp nat_cmp)) between
      → new ≡ dedup (on f (pointwise nat_eq)) between
      → IsStrictlySortedBy (slice_cmp nat_cmp) (map f new)
  texts_once between new sorted is =
      subst (λ ws. IsStrictlySortedBy (slice_cmp nat_cmp) (map f ws)) (sym is)
      (sorted_texts (dedup (on f (pointwise nat_eq)) between)
      (IsStrictlySortedBy-dedup (on_texts f) (λ v w. texts_ties (f v) (f w)) between sorted))
