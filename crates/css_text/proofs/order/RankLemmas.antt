-- Each element at its rank is what a stable sort yields.
-- Serves `order::{sort_rules, merge}` and `laws::{order_laws, index_in_sheet_law, sheet_law}` (the
-- order of rules).
use Rattle.std.proofs.Common.{◌≡◌, ℕ, ◌+◌, ◌<◌, suc, zero, Bool, true, false, cond, not, ◌&&◌, List, [], ◌∷◌, ◌++◌, length, length-append, get_or, take, map, filter, count_by, Some, eqb, eq-eqb, ap, ◌∙◌, sym, subst, refl, arith}
use Rattle.std.proofs.lemmas.List.{length-map}
use Rattle.std.specs.List.{enumerate_from, filter_map, range_with_len, AllByRecursion}
use Rattle.std.specs.List.Sorted.{ties, IsSortedBy, IsStableBy, IsPermutation}
use Rattle.std.specs.Cmp.{IsStrictWeakOrder, unsigned_Decides}
use Rattle.std.proofs.lemmas.List.Elements.{filter-append, filter_agree}
use Rattle.std.proofs.lemmas.List.Sums.{length-filter}
use Rattle.std.proofs.lemmas.List.Sorted.{sorted_far, sum_by-IsPermutation, length_permutation, IsPermutation-refl, IsPermutation-trans, IsPermutation-cons, IsPermutation-sym, IsPermutation-middle}
use Rattle.std.proofs.lemmas.List.FromFn.{get_or-enumerate_from, length-enumerate_from}
use Rattle.css_text.proofs.order.ListFacts.{all-map, all_at, all_filter, all_map, filter-map, filter_and, filter_head, filter_swap, found, gathered, head_fails, head_passes, none_pass, passes, passing, passing-map, occurs}
use Rattle.css_text.specs.Ranks.{rank_by, of_rank, ordered_by}

-- ---- tests

never_true : (b : Bool) → (b ≡ true → b ≡ false) → b ≡ false
never_true true h = h refl
never_true false h = refl

both_not : (a b : Bool) → (not a && not b) ≡ true → (a ≡ false) × (b ≡ false)
both_not true b h = absurd (cc)
both_not false true h = absurd (cc)
both_not false false h = (refl, refl)

neither : (a b : Bool) → a ≡ false → b ≡ false → (not a && not b) ≡ true
neither a b p q = rw (p, q)

-- ---- stable sorts, by recursion

-- no element is less than an earlier one
abbrev pub Rises : {X : Type 0} → (X → X → Bool) → List X → Type 0
Rises lt [] = Unit {0}
Rises lt (x ∷ xs) = AllByRecursion (λ y. lt y x ≡ false) xs × Rises lt xs

-- ys is xs, sorted stably
pub record Arranges {X : Type 0} (lt : X → X → Bool) (xs ys : List X) : Type 0 where
  pub rises : Rises lt ys
  pub stable : (x : X) → filter (ties lt x) ys ≡ filter (ties lt x) xs
  pub counts : (p : X → Bool) → passing p ys ≡ passing p xs
  pub long : length ys ≡ length xs

-- the rank, by the parts
abbrev index : {X : Type 0} → (X → X → Bool) → List X → ℕ → X → ℕ
index lt xs i x = passing (λ y. lt y x) xs + passing (ties lt x) (take i xs)

rank_is_index : {X : Type 0} (lt : X → X → Bool) (xs : List X) (i : ℕ) (x : X)
    → rank_by lt xs i x ≡ index lt xs i x
rank_is_index lt xs i x =
    ap (λ n. n + count_by (ties lt x) (take i xs)) (sym (length-filter (λ y. lt y x) xs))
    ∙ ap (λ n. passing (λ y. lt y x) xs + n) (sym (length-filter (ties lt x) (take i xs)))

module _ {X : Type 0} (lt : X → X → Bool) (o : IsStrictWeakOrder lt) where
  itself : (x : X) → lt x x ≡ false
  itself x = never_true (lt x x) (o.one_way x x)

  ties_itself : (x : X) → ties lt x x ≡ true
  ties_itself x = neither (lt x x) (lt x x) (itself x) (itself x)

  -- the elements that tie with the one at i have the same index in both lists
  record Carried (xs ys : List X) (i : ℕ) (d : X) : Type 0 where
    at : ℕ
    within : at < length ys
    same : get_or ys at d ≡ get_or xs i d
    indexed : index lt ys at (get_or ys at d) ≡ index lt xs i (get_or xs i d)

  carried : (xs ys : List X) → ((x : X) → filter (ties lt x) ys ≡ filter (ties lt x) xs)
      → ((x : X) → passing (λ y. lt y x) ys ≡ passing (λ y. lt y x) xs) → (i : ℕ) (d : X)
      → i < length xs → Carried xs ys i d
  carried xs ys stable less i d h =
      let x : X = get_or xs i d in
      let s = passes (ties lt x) xs i d h (ties_itself x) in
      let t =
      occurs (ties lt x) ys (passing (ties lt x) (take i xs)) d
      (subst (λ (l : List X). passing (ties lt x) (take i xs) < length l) (sym (stable x))
      s.short) in
      let same : get_or ys t.at d ≡ x =
      t.same ∙ ap (λ (l : List X). get_or l (passing (ties lt x) (take i xs)) d) (stable x)
      ∙ s.there in
      record {
        at = t.at;
        within = t.within;
        same = same;
        indexed =
            ap (index lt ys t.at) same ∙ ap (λ n. n + passing (ties lt x) (take t.at ys)) (less x)
            ∙ ap (λ n. passing (λ y. lt y x) xs + n) t.before;
      }

  -- in a list that rises each element is at its rank
  self_at : (z : X) (zs : List X) (k : ℕ) (y : X) (b : Bool) → lt z y ≡ b → lt y z ≡ false
      → index lt zs k y ≡ k → index lt (z ∷ zs) (suc k) y ≡ suc k
  self_at z zs k y true e f h =
      let less : passing (λ w. lt w y) (z ∷ zs) ≡ suc (passing (λ w. lt w y) zs) =
      ap length (head_passes (λ w. lt w y) z zs e) in
      let tied : passing (ties lt y) (z ∷ take k zs) ≡ passing (ties lt y) (take k zs) =
      ap length (head_fails (ties lt y) z (take k zs) (rw (e, f))) in
      omega arith
  self_at z zs k y false e f h =
      let less : passing (λ w. lt w y) (z ∷ zs) ≡ passing (λ w. lt w y) zs =
      ap length (head_fails (λ w. lt w y) z zs e) in
      let tied : passing (ties lt y) (z ∷ take k zs) ≡ suc (passing (ties lt y) (take k zs)) =
      ap length (head_passes (ties lt y) z (take k zs) (neither (lt y z) (lt z y) f e)) in
      omega arith

  self : (ys : List X) (k : ℕ) (d : X) → Rises lt ys → k < length ys
      → index lt ys k (get_or ys k d) ≡ k
  self [] k d r h = absurd (omega arith)
  self (z ∷ zs) zero d r h =
      rw (head_fails (λ w. lt w z) z zs (itself z), none_pass (λ w. lt w z) zs r.0)
  self (z ∷ zs) (suc k) d r h =
      let short : k < length zs = omega arith in
      let y : X = get_or zs k d in
      self_at z zs k y (lt z y) refl (all_at (λ w. lt w z ≡ false) zs k d r.0 short)
      (self zs k d r.1 short)

-- ---- the list in the order of the ranks

module _ {X : Type 0} (lt : X → X → Bool) (o : IsStrictWeakOrder lt) where
  -- the element of rank k is the one at k of the sorted list
  of_rank_is : (xs ys : List X) → Arranges lt xs ys → (k : ℕ) (d : X) → k < length ys
      → of_rank lt xs k ≡ Some (get_or ys k d)
  of_rank_is xs ys a k d h =
      let back =
      carried lt o ys xs (λ x. sym (a.stable x)) (λ x. sym (a.counts (λ y. lt y x))) k d h in
      let test : ℕ × X → Bool = λ p. eqb (rank_by lt xs p.0 p.1) k in
      let entry : (i : ℕ) → i < length xs
      → get_or (enumerate_from 0 xs) i (0, d) ≡ (0 + i, get_or xs i d) = λ i
      w. get_or-enumerate_from 0 xs i (0, d) w in
      found test (λ p. p.1) (get_or ys k d) (enumerate_from 0 xs) back.at (0, d)
      (subst (λ n. back.at < n) (sym (length-enumerate_from 0 xs)) back.within)
      (ap test (entry back.at back.within)
      ∙ eq-eqb _ _ (ap (λ i. rank_by lt xs i (get_or xs back.at d)) (omega arith)
      ∙ rank_is_index lt xs back.at (get_or xs back.at d) ∙ back.indexed
      ∙ self lt o ys k d a.rises h))
      (λ j w hit.
      let short : j < length xs = subst (λ n. j < n) (length-enumerate_from 0 xs) w in
      let forth = carried lt o xs ys a.stable (λ x. a.counts (λ y. lt y x)) j d short in
      let ranked : rank_by lt xs j (get_or xs j d) ≡ k =
      ap (λ i. rank_by lt xs i (get_or xs j d)) (omega arith)
      ∙ (unsigned_Decides _ _).0 (sym (ap test (entry j short)) ∙ hit) in
      let here : forth.at ≡ k =
      sym (self lt o ys forth.at d a.rises forth.within) ∙ forth.indexed
      ∙ sym (rank_is_index lt xs j (get_or xs j d)) ∙ ranked in
      ap (λ (p : ℕ × X). p.1) (entry j short) ∙ sym forth.same ∙ ap (λ i. get_or ys i d) here)

  -- a stable sort yields each element its rank
  pub ordered_is : (xs ys : List X) → Arranges lt xs ys → ordered_by lt xs ≡ ys
  ordered_is xs ys a =
      ap (λ n. filter_map (of_rank lt xs) (range_with_len 0 n)) (sym a.long)
      ∙ gathered (of_rank lt xs) 0 ys (λ k d w. ap (of_rank lt xs) (omega arith)
      ∙ of_rank_is xs ys a k d w)

-- ---- what std's sort ensures

rises_from_all : {X : Type 0} (P : X → Type 0) (xs : List X)
    → ((k : ℕ) (d : X) → k < length xs → P (get_or xs k d)) → AllByRecursion P xs
rises_from_all P [] h = tt
rises_from_all P (x ∷ xs) h =
    (h 0 x (omega arith), rises_from_all P xs (λ k d w. h (suc k) d (omega arith)))

rises_from_sorted : {X : Type 0} (lt : X → X → Bool) (o : IsStrictWeakOrder lt) (ys : List X)
    → IsSortedBy lt ys → Rises lt ys
rises_from_sorted lt o [] s = tt
rises_from_sorted lt o (y ∷ ys) s = (
  rises_from_all (λ x. lt x y ≡ false) ys
      (λ k d w. sorted_far lt o (y ∷ ys) s 0 (suc k) d (omega arith) (omega arith)),
  rises_from_sorted lt o ys
      (λ k d l h. let e : suc k + 1 ≡ suc (k + 1) = omega arith in subst
      (λ n. lt (get_or (y ∷ ys) n d) (get_or ys k d) ≡ false) e
      (s (suc k) d (omega arith) (omega arith))),
)

pub sorted_from_rises : {X : Type 0} (lt : X → X → Bool) (ys : List X) → Rises lt ys
    → IsSortedBy lt ys
sorted_from_rises lt [] r k d l h = absurd (omega arith)
sorted_from_rises lt (y ∷ ys) r zero d l h =
    let e : suc zero ≡ zero + 1 = omega arith in
    subst (λ n. lt (get_or (y ∷ ys) n d) y ≡ false) e
    (all_at (λ x. lt x y ≡ false) ys 0 d r.0 (omega arith))
sorted_from_rises lt (y ∷ ys) r (suc k) d l h =
    let e : suc (k + 1) ≡ suc k + 1 = omega arith in
    subst (λ n. lt (get_or (y ∷ ys) n d) (get_or ys k d) ≡ false) e
    (sorted_from_rises lt ys r.1 k d (omega arith) (omega arith))

pub arranges_from_sort : {X : Type 0} (lt : X → X → Bool) (o : IsStrictWeakOrder lt)
    (xs ys : List X) → IsPermutation xs ys → IsSortedBy lt ys → IsStableBy lt xs ys
    → Arranges lt xs ys
arranges_from_sort lt o xs ys moved up stable = record {
  rises = rises_from_sorted lt o ys up;
  stable = stable;
  counts =
      λ p. length-filter p ys ∙ sum_by-IsPermutation (λ x. cond (p x) 1 0) xs ys moved
      ∙ sym (length-filter p xs);
  long = length_permutation xs ys moved;
}

-- ---- a stable sort exists: by insertion

-- x before the first element that is not less
abbrev put : {X : Type 0} → (X → X → Bool) → X → List X → List X
put lt x [] = x ∷ []
put lt x (y ∷ ys) = cond (lt y x) (y ∷ put lt x ys) (x ∷ y ∷ ys)

abbrev inserted : {X : Type 0} → (X → X → Bool) → List X → List X
inserted lt [] = []
inserted lt (x ∷ xs) = put lt x (inserted lt xs)

-- a claim on put, by whether the first element is less
put_by : {X : Type 0} (lt : X → X → Bool) (P : List X → Type 0) (x y : X) (ys : List X) (b : Bool)
    → lt y x ≡ b → (lt y x ≡ true → P (y ∷ put lt x ys)) → (lt y x ≡ false → P (x ∷ y ∷ ys))
    → P (put lt x (y ∷ ys))
put_by lt P x y ys true e t f = subst (λ c. P (cond c (y ∷ put lt x ys) (x ∷ y ∷ ys))) (sym e) (t e)
put_by lt P x y ys false e t f =
    subst (λ c. P (cond c (y ∷ put lt x ys) (x ∷ y ∷ ys))) (sym e) (f e)

put_all : {X : Type 0} (lt : X → X → Bool) (P : X → Type 0) (x : X) (ys : List X) → P x
    → AllByRecursion P ys → AllByRecursion P (put lt x ys)
put_all lt P x [] h a = (h, tt)
put_all lt P x (y ∷ ys) h a =
    put_by lt (AllByRecursion P) x y ys (lt y x) refl (λ e. (a.0, put_all lt P x ys h a.1))
    (λ e. (h, a))

put_moves : {X : Type 0} (lt : X → X → Bool) (x : X) (ys : List X)
    → IsPermutation (x ∷ ys) (put lt x ys)
put_moves lt x [] = IsPermutation-refl (x ∷ [])
put_moves lt x (y ∷ ys) = put_by lt (λ l. IsPermutation (x ∷ y ∷ ys) l) x y ys (lt y x) refl
    (λ e. IsPermutation-trans (x ∷ y ∷ ys) (y ∷ x ∷ ys) (y ∷ put lt x ys)
    (IsPermutation-sym (y ∷ x ∷ ys) (x ∷ y ∷ ys) (IsPermutation-middle (y ∷ []) x ys))
    (IsPermutation-cons y (x ∷ ys) (put lt x ys) (put_moves lt x ys)))
    (λ e. IsPermutation-refl (x ∷ y ∷ ys))

inserted_moves : {X : Type 0} (lt : X → X → Bool) (xs : List X) → IsPermutation xs (inserted lt xs)
inserted_moves lt [] = IsPermutation-refl []
inserted_moves lt (x ∷ xs) =
    IsPermutation-trans (x ∷ xs) (x ∷ inserted lt xs) (put lt x (inserted lt xs))
    (IsPermutation-cons x xs (inserted lt xs) (inserted_moves lt xs))
    (put_moves lt x (inserted lt xs))

module _ {X : Type 0} (lt : X → X → Bool) (o : IsStrictWeakOrder lt) where
  put_rises : (x : X) (ys : List X) → Rises lt ys → Rises lt (put lt x ys)
  put_rises x [] r = (tt, tt)
  put_rises x (y ∷ ys) r = put_by lt (Rises lt) x y ys (lt y x) refl
      (λ e. (put_all lt (λ z. lt z y ≡ false) x ys (o.one_way y x e) r.0, put_rises x ys r.1))
      (λ e. (
        (
          e,
          all_map (λ z. lt z y ≡ false) (λ z. lt z x ≡ false) (λ z h. o.chain z y x h e) ys
              r.0,
        ),
        r,
      ))

  -- two that differ in order do not both tie with w
  not_both : (w x y : X) → lt y x ≡ true → ties lt w x ≡ true → ties lt w y ≡ true → ⊥
  not_both w x y less t u =
      let p = both_not (lt w x) (lt x w) t in
      let q = both_not (lt w y) (lt y w) u in
      let r : lt y x ≡ false = o.chain y w x q.1 p.0 in
      absurd (cc)

  swapped : (w x y : X) (zs : List X) (b c : Bool) → ties lt w x ≡ b → ties lt w y ≡ c
      → lt y x ≡ true → cond c (y ∷ cond b (x ∷ zs) zs) (cond b (x ∷ zs) zs)
      ≡ cond b (x ∷ cond c (y ∷ zs) zs) (cond c (y ∷ zs) zs)
  swapped w x y zs true true p q less = absurd (not_both w x y less p q)
  swapped w x y zs true false p q less = refl
  swapped w x y zs false true p q less = refl
  swapped w x y zs false false p q less = refl

  put_stable : (x : X) (ys : List X) (w : X)
      → filter (ties lt w) (put lt x ys) ≡ filter (ties lt w) (x ∷ ys)
  put_stable x [] w = refl
  put_stable x (y ∷ ys) w =
      put_by lt (λ l. filter (ties lt w) l ≡ filter (ties lt w) (x ∷ y ∷ ys)) x y ys (lt y x) refl
      (λ e. ap (λ l. cond (ties lt w y) (y ∷ l) l) (put_stable x ys w)
      ∙ swapped w x y (filter (ties lt w) ys) (ties lt w x) (ties lt w y) refl refl e)
      (λ e. refl)

  inserted_rises : (xs : List X) → Rises lt (inserted lt xs)
  inserted_rises [] = tt
  inserted_rises (x ∷ xs) = put_rises x (inserted lt xs) (inserted_rises xs)

  inserted_stable : (xs : List X) (w : X)
      → filter (ties lt w) (inserted lt xs) ≡ filter (ties lt w) xs
  inserted_stable [] w = refl
  inserted_stable (x ∷ xs) w =
      put_stable x (inserted lt xs) w
      ∙ ap (λ l. cond (ties lt w x) (x ∷ l) l) (inserted_stable xs w)

  arranged : (xs : List X) → Arranges lt xs (inserted lt xs)
  arranged xs = record {
    rises = inserted_rises xs;
    stable = inserted_stable xs;
    counts =
        λ p. length-filter p (inserted lt xs)
        ∙ sum_by-IsPermutation (λ x. cond (p x) 1 0) xs (inserted lt xs) (inserted_moves lt xs)
        ∙ sym (length-filter p xs);
    long = length_permutation xs (inserted lt xs) (inserted_moves lt xs);
  }

  ordered_is_inserted : (xs : List X) → ordered_by lt xs ≡ inserted lt xs
  ordered_is_inserted xs = ordered_is lt o xs (inserted lt xs) (arranged xs)

  -- ---- laws of the order

  -- it is a stable sort of the list
  pub ordered_arranges : (xs : List X) → Arranges lt xs (ordered_by lt xs)
  ordered_arranges xs = subst (λ l. Arranges lt xs l) (sym (ordered_is_inserted xs)) (arranged xs)

  -- it keeps every element
  pub ordered_keeps : (xs : List X) → IsPermutation xs (ordered_by lt xs)
  ordered_keeps xs =
      subst (λ l. IsPermutation xs l) (sym (ordered_is_inserted xs)) (inserted_moves lt xs)

  -- each element is at its rank
  pub ordered_at_rank : (xs : List X) (i : ℕ) (x : X) → i < length xs → get_or xs i x ≡ x
      → get_or (ordered_by lt xs) (rank_by lt xs i x) x ≡ x
  ordered_at_rank xs i x h e =
      let a = ordered_arranges xs in
      let c = carried lt o xs (ordered_by lt xs) a.stable (λ y. a.counts (λ z. lt z y)) i x h in
      let at : rank_by lt xs i x ≡ c.at =
      rank_is_index lt xs i x ∙ ap (index lt xs i) (sym e) ∙ sym c.indexed
      ∙ self lt o (ordered_by lt xs) c.at x a.rises c.within in
      ap (λ k. get_or (ordered_by lt xs) k x) at ∙ c.same ∙ e

  -- what rises stays
  pub ordered_same : (xs : List X) → Rises lt xs → ordered_by lt xs ≡ xs
  ordered_same xs r =
      ordered_is lt o xs xs
      (record { rises = r; stable = λ x. refl; counts = λ p. refl; long = refl })

  pub ordered_twice : (xs : List X) → ordered_by lt (ordered_by lt xs) ≡ ordered_by lt xs
  ordered_twice xs = ordered_same (ordered_by lt xs) (ordered_arranges xs).rises

  -- to order a part first changes nothing
  pub ordered_front : (xs zs : List X) → ordered_by lt (ordered_by lt xs ++ zs)
      ≡ ordered_by lt (xs ++ zs)
  ordered_front xs zs =
      let a = ordered_arranges xs in
      let b = ordered_arranges (ordered_by lt xs ++ zs) in
      sym (ordered_is lt o (xs ++ zs) (ordered_by lt (ordered_by lt xs ++ zs)) (record {
        rises = b.rises;
        stable =
            λ x. b.stable x ∙ filter-append (ties lt x) (ordered_by lt xs) zs
            ∙ ap (λ l. l ++ filter (ties lt x) zs) (a.stable x)
            ∙ sym (filter-append (ties lt x) xs zs);
        counts =
            λ p. b.counts p ∙ ap length (filter-append p (ordered_by lt xs) zs)
            ∙ length-append (filter p (ordered_by lt xs)) (filter p zs)
            ∙ ap (λ n. n + passing p zs) (a.counts p)
            ∙ sym (length-append (filter p xs) (filter p zs))
            ∙ sym (ap length (filter-append p xs zs));
        long =
            b.long ∙ length-append (ordered_by lt xs) zs ∙ ap (λ n. n + length zs) a.long
            ∙ sym (length-append xs zs);
      }))

rises_filter_at : {X : Type 0} (lt : X → X → Bool) (x : X) (xs : List X) (b : Bool)
    → AllByRecursion (λ y. lt y x ≡ false) xs → Rises lt xs → Rises lt (cond b (x ∷ xs) xs)
rises_filter_at lt x xs true h r = (h, r)
rises_filter_at lt x xs false h r = r

rises_filter : {X : Type 0} (lt : X → X → Bool) (p : X → Bool) (xs : List X) → Rises lt xs
    → Rises lt (filter p xs)
rises_filter lt p [] r = tt
rises_filter lt p (x ∷ xs) r =
    rises_filter_at lt x (filter p xs) (p x) (all_filter (λ y. lt y x ≡ false) p xs r.0)
    (rises_filter lt p xs r.1)

-- to leave elements out before or after is the same
pub ordered_filter : {X : Type 0} (lt : X → X → Bool) (o : IsStrictWeakOrder lt) (p : X → Bool)
    (xs : List X) → ordered_by lt (filter p xs) ≡ filter p (ordered_by lt xs)
ordered_filter lt o p xs =
    let a = ordered_arranges lt o xs in
    let counts : (q : _ → Bool)
    → passing q (filter p (ordered_by lt xs)) ≡ passing q (filter p xs) = λ q. ap length
    (filter_and p q (ordered_by lt xs)) ∙ a.counts (λ x. p x && q x)
    ∙ sym (ap length (filter_and p q xs)) in
    ordered_is lt o (filter p xs) (filter p (ordered_by lt xs)) (record {
      rises = rises_filter lt p (ordered_by lt xs) a.rises;
      stable =
          λ x. filter_swap p (ties lt x) (ordered_by lt xs) ∙ ap (filter p) (a.stable x)
          ∙ sym (filter_swap p (ties lt x) xs);
      counts = counts;
      long = a.counts p;
    })

rises-map : {X Y : Type 0} (f : X → Y) (lt : Y → Y → Bool) (xs : List X)
    → Rises (λ a b. lt (f a) (f b)) xs → Rises lt (map f xs)
rises-map f lt [] r = tt
rises-map f lt (x ∷ xs) r = (all-map f (λ y. lt y (f x) ≡ false) xs r.0, rises-map f lt xs r.1)

same_test : (a b : Bool) → (a ≡ false → b ≡ false) → (b ≡ false → a ≡ false) → a ≡ b
same_test true true h k = refl
same_test true false h k = k refl
same_test false true h k = sym (h refl)
same_test false false h k = refl

-- of two that tie, each ties with what the other ties with
ties_alike : {X : Type 0} (lt : X → X → Bool) (o : IsStrictWeakOrder lt) (y x : X)
    → ties lt y x ≡ true → (z : X) → ties lt y z ≡ ties lt x z
ties_alike lt o y x tied z =
    let apart = both_not (lt y x) (lt x y) tied in
    let under : lt y z ≡ lt x z =
    same_test (lt y z) (lt x z) (o.chain x y z apart.1) (o.chain y x z apart.0) in
    let over : lt z y ≡ lt z x =
    same_test (lt z y) (lt z x) (λ h. o.chain z y x h apart.0) (λ h. o.chain z x y h apart.1) in
    λ i. not (under i) && not (over i)

-- The elements that tie with y are the same in both lists, where that holds of each y that the
-- function yields: there are as many of them, and if there is one, y ties with what it yields.
stable_at : {X Y : Type 0} (f : X → Y) (lt : Y → Y → Bool) (o : IsStrictWeakOrder lt)
    (xs ys : List X)
    → ((x : X) → filter (λ z. ties lt (f x) (f z)) ys ≡ filter (λ z. ties lt (f x) (f z)) xs)
    → (y : Y) (l m : List X) → filter (λ z. ties lt y (f z)) xs ≡ l
    → filter (λ z. ties lt y (f z)) ys ≡ m → length m ≡ length l
    → filter (λ z. ties lt y (f z)) ys ≡ filter (λ z. ties lt y (f z)) xs
stable_at f lt o xs ys stable y [] [] e g n = g ∙ sym e
stable_at f lt o xs ys stable y [] (x ∷ m) e g n = absurd (omega arith)
stable_at f lt o xs ys stable y (x ∷ l) m e g n =
    let tied = ties_alike lt o y (f x) (filter_head (λ z. ties lt y (f z)) xs x l e) in
    filter_agree (λ z. ties lt y (f z)) (λ z. ties lt (f x) (f z)) (λ z. tied (f z)) ys ∙ stable x
    ∙ sym (filter_agree (λ z. ties lt y (f z)) (λ z. ties lt (f x) (f z)) (λ z. tied (f z)) xs)

-- a stable sort by what a function shows sorts what it shows
pub arranges-map : {X Y : Type 0} (f : X → Y) (lt : Y → Y → Bool) (o : IsStrictWeakOrder lt)
    (xs ys : List X) → Arranges (λ a b. lt (f a) (f b)) xs ys → Arranges lt (map f xs) (map f ys)
arranges-map f lt o xs ys a = record {
  rises = rises-map f lt ys a.rises;
  stable = λ y.
      filter-map f (ties lt y) ys
      ∙ ap (map f)
      (stable_at f lt o xs ys a.stable y _ _ refl refl (a.counts (λ z. ties lt y (f z))))
      ∙ sym (filter-map f (ties lt y) xs);
  counts = λ p. passing-map f p ys ∙ a.counts (λ x. p (f x)) ∙ sym (passing-map f p xs);
  long = length-map ys f ∙ a.long ∙ sym (length-map xs f);
}
