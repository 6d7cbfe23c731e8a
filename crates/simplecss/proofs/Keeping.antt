-- The indices that are kept of a list.
-- Serves `RuleIndex::matching_counted` (the indices of the rules that match, and the tests made).
use Rattle.std.proofs.Common.{◌≡◌, ◌≢◌, ℕ, ◌+◌, ◌<◌, ◌≤◌, ◌↔◌, ◌⊎◌, inl, inr, List, [], ◌∷◌, ◌++◌, length, map, take, drop, get_or, set, refl, sym, ap, ◌∙◌, subst, arith, length-append, get_or-set_other}
use Rattle.std.specs.List.{All, Contains, sum_by}
use Rattle.std.specs.List.Sorted.{IsStrictlyIncreasing}
use Rattle.std.proofs.Math.Seq.{get_or-append_seam, take-append_seam}
use Rattle.std.proofs.lemmas.Grind.{common_steps}
use Rattle.std.proofs.lemmas.List.{get_or-map, get_or_read, take_more, take_more_set, take_all, length-take, get_or-take, get_or_append_left}
use Rattle.std.proofs.lemmas.List.Elements.{Contains-get_or, Contains-append_left, Contains-push, Contains-push_cases}
use Rattle.std.proofs.lemmas.List.Sums.{sum_by_more}
use Rattle.std.proofs.lemmas.List.Kept.{AllPairs-from_increasing}
use Rattle.simplecss.proofs.Adding.{contains_none}

increasing_push : (indices : List ℕ) (index : ℕ) → IsStrictlyIncreasing indices
    → ((x : ℕ) → Contains indices x → x < index) → IsStrictlyIncreasing (indices ++ index ∷ [])
increasing_push indices index up below k h = at (order (k + 2) (length indices))
  where
    order : (m n : ℕ) → (m ≤ n) ⊎ (n < m)
    order m n = grind arith

    at : (k + 2 ≤ length indices) ⊎ (length indices < k + 2)
        → get_or (indices ++ index ∷ []) k 0 < get_or (indices ++ index ∷ []) (k + 1) 0
    at (inl le) =
        let a : k < length indices = omega arith in
        let b : k + 1 < length indices = omega arith in
        rw (
          get_or_append_left indices (index ∷ []) 0 k a,
          get_or_append_left indices (index ∷ []) 0 (k + 1) b,
        ) (up k b)
    at (inr gt) =
        let l : length (indices ++ index ∷ []) ≡ length indices + 1 =
        length-append indices (index ∷ []) in
        let e : length indices ≡ k + 1 = omega (arith, l, h, gt) in
        let a : k < length indices = omega (arith, e) in
        let s : get_or (indices ++ index ∷ []) (k + 1) 0 ≡ index = subst (λ n.
        get_or (indices ++ index ∷ []) n 0 ≡ index) e (get_or-append_seam indices index [] 0) in
        rw (get_or_append_left indices (index ∷ []) 0 k a, s)
        (below (get_or indices k 0) (Contains-get_or indices k 0 a))

-- of the first i of the indices those that are as wanted were kept, at the front, and the others
-- are still there
pub record Keeps (IsWanted : ℕ → Type 0) (indices now : List ℕ) (kept i : ℕ) : Type 0 where
  pub few : kept ≤ i
  pub ascending : IsStrictlyIncreasing (take kept now)
  pub exactly : (index : ℕ)
      → Contains (take kept now) index ↔ (Contains (take i indices) index × IsWanted index)
  pub rest : (j d : ℕ) → i ≤ j → get_or now j d ≡ get_or indices j d

-- what is before an index is below it
before_below : (indices : List ℕ) (i index x : ℕ) → IsStrictlyIncreasing indices
    → i < length indices → index ≡ get_or indices i index → Contains (take i indices) x → x < index
before_below indices i index x up lt read (k, within, is) =
    let k_lt : k < i = omega (arith, within, length-take i indices) in
    let x_is : x ≡ get_or indices k x = sym is ∙ get_or-take i indices k x k_lt in
    let below : get_or indices k 0 < get_or indices i 0 =
    AllPairs-from_increasing indices up k i 0 k_lt lt in
    let a : get_or indices k 0 ≡ x = same_read indices k x 0 (omega (arith, k_lt, lt)) (sym x_is) in
    let b : get_or indices i 0 ≡ index = same_read indices i index 0 lt (sym read) in
    omega (arith, below, a, b)
  where
    same_read : (xs : List ℕ) (j y d : ℕ) → j < length xs → get_or xs j y ≡ y → get_or xs j d ≡ y
    same_read xs j y d l e = sym (get_or_read xs j y l (sym e) d)

module _ (IsWanted : ℕ → Type 0) where
  pub keep_none : (indices : List ℕ) → Keeps IsWanted indices indices 0 0
  keep_none indices = record {
    few = omega arith;
    ascending = λ k h. absurd (omega arith);
    exactly = λ index. (λ c. absurd (contains_none index c), λ h. absurd (contains_none index h.0));
    rest = λ j d le. refl;
  }

  module _ (indices now : List ℕ) (kept i index : ℕ) (before : Keeps IsWanted indices now kept i)
      (lt : i < length indices) (read : index ≡ get_or indices i index) where
    taken : take (i + 1) indices ≡ take i indices ++ index ∷ []
    taken = take_more indices i index lt ∙ ap (λ p. take i indices ++ p ∷ []) (sym read)

    pub keep_yes : IsStrictlyIncreasing indices → IsWanted index → length now ≡ length indices
        → Keeps IsWanted indices (set now kept index) (kept + 1) (i + 1)
    keep_yes up bucket same = record {
      few = omega (arith, before.few);
      ascending = subst IsStrictlyIncreasing (sym front)
          (increasing_push (take kept now) index before.ascending
          (λ x c. before_below indices i index x up lt read ((before.exactly x).0 c).0));
      exactly = λ p. subst (λ xs. Contains xs p ↔ (Contains (take (i + 1) indices) p × IsWanted p))
          (sym front) (subst (λ xs. Contains (take kept now ++ index ∷ []) p
          ↔ (Contains xs p × IsWanted p)) (sym taken) (there p, back p));
      rest = rest;
    }
      where
        front : take (kept + 1) (set now kept index) ≡ take kept now ++ index ∷ []
        front = take_more_set now kept index (omega (arith, before.few, lt, same))

        there : (p : ℕ) → Contains (take kept now ++ index ∷ []) p
            → Contains (take i indices ++ index ∷ []) p × IsWanted p
        there p c =
            elim (Contains-push_cases (take kept now) index p c) [
              | inl x ↦
                  let h = (before.exactly p).0 x in
                  (Contains-append_left (take i indices) (index ∷ []) p h.0, h.1)
              | inr e ↦ (
                subst (Contains (take i indices ++ index ∷ [])) e
                    (Contains-push (take i indices) index),
                subst IsWanted e bucket,
              )
            ]

        back : (p : ℕ) → Contains (take i indices ++ index ∷ []) p × IsWanted p
            → Contains (take kept now ++ index ∷ []) p
        back p h =
            elim (Contains-push_cases (take i indices) index p h.0) [
              | inl x ↦ Contains-append_left (take kept now) (index ∷ []) p
                  ((before.exactly p).1 (x, h.1))
              | inr e ↦ subst (Contains (take kept now ++ index ∷ [])) e
                  (Contains-push (take kept now) index)
            ]

        rest : (j d : ℕ) → i + 1 ≤ j → get_or (set now kept index) j d ≡ get_or indices j d
        rest j d le =
            let ne : j ≢ kept = omega (arith, le, before.few) in
            rw get_or-set_other (before.rest j d (omega (arith, le)))

    pub keep_no : (IsWanted index → ⊥) → Keeps IsWanted indices now kept (i + 1)
    keep_no unwanted = record {
      few = omega (arith, before.few);
      ascending = before.ascending;
      exactly = λ p. subst (λ xs. Contains (take kept now) p ↔ (Contains xs p × IsWanted p))
          (sym taken) (there p, back p);
      rest = λ j d le. before.rest j d (omega (arith, le));
    }
      where
        there : (p : ℕ) → Contains (take kept now) p
            → Contains (take i indices ++ index ∷ []) p × IsWanted p
        there p c =
            let h = (before.exactly p).0 c in
            (Contains-append_left (take i indices) (index ∷ []) p h.0, h.1)

        back : (p : ℕ) → Contains (take i indices ++ index ∷ []) p × IsWanted p
            → Contains (take kept now) p
        back p h =
            elim (Contains-push_cases (take i indices) index p h.0) [
              | inl x ↦ (before.exactly p).1 (x, h.1)
              | inr e ↦ absurd (unwanted (subst IsWanted (sym e) h.1))
            ]

  pub keep_all : (indices now : List ℕ) (kept i : ℕ) → length indices ≤ i
      → Keeps IsWanted indices now kept i → (index : ℕ)
      → Contains (take kept now) index ↔ (Contains indices index × IsWanted index)
  keep_all indices now kept i le keeps index =
      subst (λ xs. Contains (take kept now) index ↔ (Contains xs index × IsWanted index))
      (take_all i indices le) (keeps.exactly index)

module _ {V S : Type 0} (f : V → List S) (IsMet : List S → Type 0) (vs : List V) where
  abbrev pub Met : ℕ → Type 0
  Met index = IsMet (get_or (map f vs) index [])

  module _ (indices now : List ℕ) (kept i : ℕ) (v : V) (before : Keeps Met indices now kept i)
      (lt : i < length indices) (within : All (λ index. index < length vs) indices) where
    here : get_or now i 0 ≡ get_or indices i 0
    here = before.rest i 0 (omega arith)

    still : get_or now i 0 ≡ get_or indices i (get_or now i 0)
    still = here ∙ default indices i 0 (get_or now i 0) lt
      where
        default : (xs : List ℕ) (j d e : ℕ) → j < length xs → get_or xs j d ≡ get_or xs j e
        default xs j d e l = grind (arith, common_steps)

    -- what is at the index that is read
    pub at : get_or (map f vs) (get_or now i 0) [] ≡ f (get_or vs (get_or now i 0) v)
    at = get_or-map f vs (get_or now i 0) v []
        (subst (λ index. index < length vs) (sym here) (within i 0 lt))

    -- the index that is read is kept, or it is not
    pub keeps_met : IsStrictlyIncreasing indices → length now ≡ length indices
        → IsMet (f (get_or vs (get_or now i 0) v))
        → Keeps Met indices (set now kept (get_or now i 0)) (kept + 1) (i + 1)
    keeps_met up same h = keep_yes Met indices now kept i (get_or now i 0) before lt still up
        (subst IsMet (sym at) h) same

    pub keeps_unmet : (IsMet (f (get_or vs (get_or now i 0) v)) → ⊥)
        → Keeps Met indices now kept (i + 1)
    keeps_unmet h =
        keep_no Met indices now kept i (get_or now i 0) before lt still (λ x. h (subst IsMet at x))

    -- what is so of each index of the list is so of the one that is read
    pub read_met : (IsKnown : ℕ → Type 0)
        → ((index : ℕ) → Contains indices index → IsKnown index → Met index)
        → IsKnown (get_or now i 0) → IsMet (f (get_or vs (get_or now i 0) v))
    read_met IsKnown all known =
        subst IsMet at (all (get_or now i 0)
        (subst (Contains indices) (sym here) (Contains-get_or indices i 0 lt)) known)

    -- what a cost is of the index that is read, and with it of the indices before
    total : (cost : List S → ℕ)
        → sum_by (λ index. cost (get_or (map f vs) index [])) (take (i + 1) indices)
        ≡ sum_by (λ index. cost (get_or (map f vs) index [])) (take i indices)
        + cost (f (get_or vs (get_or now i 0) v))
    total cost =
        sum_by_more (λ index. cost (get_or (map f vs) index [])) indices i 0 lt
        ∙ ap (λ n. sum_by (λ index. cost (get_or (map f vs) index [])) (take i indices) + n)
        (ap (λ index. cost (get_or (map f vs) index [])) (sym here) ∙ ap cost at)

    -- and it was tested, at most so often
    pub tested_more : (cost : List S → ℕ) (old tests new : ℕ)
        → tests ≤ old + sum_by (λ index. cost (get_or (map f vs) index [])) (take i indices)
        → new ≤ tests + cost (f (get_or vs (get_or now i 0) v))
        → new ≤ old + sum_by (λ index. cost (get_or (map f vs) index [])) (take (i + 1) indices)
    tested_more cost old tests new so_far one = omega (arith, so_far, one, total cost)

    -- and at least so often
    pub tested_least : (cost : List S → ℕ) (old tests new : ℕ)
        → old + sum_by (λ index. cost (get_or (map f vs) index [])) (take i indices) ≤ tests
        → tests + cost (f (get_or vs (get_or now i 0) v)) ≤ new
        → old + sum_by (λ index. cost (get_or (map f vs) index [])) (take (i + 1) indices) ≤ new
    tested_least cost old tests new so_far one = omega (arith, so_far, one, total cost)

-- what a slice of a vector's items left there, if its length is unchanged
pub written_back : {V : Type 0} (old new : List V) (n : ℕ) → n ≡ length old
    → length new ≡ length old → take n (new ++ drop (length new) old) ≡ new
written_back old new n e same = subst (λ k. take k (new ++ drop (length new) old) ≡ new)
    (same ∙ sym e) (take-append_seam new (drop (length new) old))
