-- What declarations are rolled back to, as those that win are gone through from the best on.
use Rattle.std.proofs.Common.{◌≡◌, ℕ, zero, suc, ◌+◌, ◌<◌, ◌≤◌, min, Bool, true, false, ◌&&◌, ◌||◌, ◌==◌, cond, if◌then◌else◌, List, [], ◌∷◌, ◌++◌, length, map, Option, None, Some, refl, sym, ap, ◌∙◌, arith, eqb-true}
use Rattle.std.specs.Prelude.{filter, option_map}
use Rattle.std.specs.List.{All}
use Rattle.std.specs.Cmp.{IsTotalOrder, bool_cmp_total}
use Rattle.std.specs.declared.cmp.Ordering.{Ordering}
use Rattle.std.specs.declared.cmp.Ordering.TheVariants.{Less, Equal, Greater}
use Rattle.std.specs.Ordering.{MatchOrdering, bool_cmp, is_lt, nat_cmp, ordering_then}
use Rattle.std.proofs.lemmas.Bool.{cases_eq}
use Rattle.std.proofs.lemmas.Cmp.{nat_cmp_total, on_total, ranked, then_total, tied_itself}
use Rattle.std.proofs.lemmas.List.Elements.{All-contains, All-filter, All-head, All-push, All-tail, All-nil, All-weaker, filter-append, filter_agree, filter_passes}
use Rattle.std.proofs.lemmas.List.{append_assoc, length-map}
use mathlib.Core.Logic.{⊎_elim}
use Rattle.css_cascade.specs.Cascade.{Weighed, origin_rank, winner_from}
use Rattle.css_cascade.specs.Rollbacks.{best_of, is_left, is_left_by, is_left_under, left, left_after, left_once, level_cmp, revert_rank, rolls_back, rolls_back_by}
use Rattle.css_cascade.specs.declared.rollback.Rollback.{Rollback}
use Rattle.css_cascade.specs.declared.rollback.Rollback.TheVariants.{Nowhere, ToLayer, ToOrigin}
use Rattle.css_cascade.specs.declared.weights.Origin.{Origin}
use Rattle.css_cascade.specs.declared.weights.Origin.TheVariants.{UserAgent, User, Hint, Author}
use Rattle.css_cascade.proofs.RollbackLemmas.{all-left, winner-mapped}
use Rattle.css_cascade.proofs.WinnerLemmas.{wins}
use Rattle.css_styles.proofs.RankLemmas.{filters-commute}
use Rattle.css_styles.specs.internal.Floors.{Ranks, first_of, floor_from}

-- ---- what is left where a later one wins is left where an earlier one does

lt-of : (m n : ℕ) → is_lt (nat_cmp m n) ≡ true → m < n
lt-of m n e = by (nat_cmp m n) (ranked m n (nat_cmp m n) refl) e
  where
    by : (r : Ordering) → MatchOrdering r (m < n) (m ≡ n) (n < m) → is_lt r ≡ true → m < n
    by Less l e = l
    by Equal l e = absurd (cc)
    by Greater l e = absurd (cc)

of-lt : (m n : ℕ) → m < n → is_lt (nat_cmp m n) ≡ true
of-lt m n l = by (nat_cmp m n) (ranked m n (nat_cmp m n) refl)
  where
    by : (r : Ordering) → MatchOrdering r (m < n) (m ≡ n) (n < m) → is_lt r ≡ true
    by Less h = refl
    by Equal h = absurd (omega (arith, l, h))
    by Greater h = absurd (omega (arith, l, h))

less-is : (r : Ordering) → is_lt r ≡ true → r ≡ Less
less-is Less e = refl
less-is Equal e = absurd (cc)
less-is Greater e = absurd (cc)

rank-is : (o : Origin) → revert_rank o ≡ min (origin_rank o) 2
rank-is UserAgent = refl
rank-is User = refl
rank-is Hint = refl
rank-is Author = refl

level_total : IsTotalOrder level_cmp
level_total =
    then_total (on_total (λ (d : Weighed). origin_rank d.origin) nat_cmp_total)
    (then_total (on_total (λ (d : Weighed). d.attached) bool_cmp_total)
    (on_total (λ (d : Weighed). d.layer) nat_cmp_total))

level-trans : (x w f : Weighed) → is_lt (level_cmp x w) ≡ true → is_lt (level_cmp w f) ≡ true
    → is_lt (level_cmp x f) ≡ true
level-trans x w f a b =
    ap is_lt (level_total.trans x w f (less-is (level_cmp x w) a) (less-is (level_cmp w f) b))

-- those of an earlier origin are in an earlier layer
level-less : (x w : Weighed) → origin_rank x.origin < origin_rank w.origin
    → is_lt (level_cmp x w) ≡ true
level-less x w l =
    ap (λ r. is_lt (ordering_then r
    (ordering_then (bool_cmp x.attached w.attached) (nat_cmp x.layer w.layer))))
    (less-is (nat_cmp (origin_rank x.origin) (origin_rank w.origin))
    (of-lt (origin_rank x.origin) (origin_rank w.origin) l))

-- those in an earlier layer are of no later origin
origin-upto : (x w : Weighed) → is_lt (level_cmp x w) ≡ true
    → origin_rank x.origin ≤ origin_rank w.origin
origin-upto x w e =
    by (nat_cmp (origin_rank x.origin) (origin_rank w.origin))
    (ranked (origin_rank x.origin) (origin_rank w.origin) _ refl) _ e
  where
    by : (r : Ordering)
        → MatchOrdering r (origin_rank x.origin < origin_rank w.origin)
        (origin_rank x.origin ≡ origin_rank w.origin) (origin_rank w.origin < origin_rank x.origin)
        → (s : Ordering) → is_lt (ordering_then r s) ≡ true
        → origin_rank x.origin ≤ origin_rank w.origin
    by Less l s e = omega (arith, l)
    by Equal l s e = omega (arith, l)
    by Greater l s e = absurd (cc)

before-origin : (x w : Weighed) → is_lt (nat_cmp 0 (revert_rank w.origin)) ≡ true
    → (revert_rank w.origin == 0 || is_lt (nat_cmp (revert_rank x.origin) (revert_rank w.origin))) ≡ true
    → revert_rank x.origin < revert_rank w.origin
before-origin x w e f = by (revert_rank w.origin == 0) refl f
  where
    by : (t : Bool) → (revert_rank w.origin == 0) ≡ t
        → (t || is_lt (nat_cmp (revert_rank x.origin) (revert_rank w.origin))) ≡ true
        → revert_rank x.origin < revert_rank w.origin
    by true z h =
        let none = eqb-true (revert_rank w.origin) 0 z in
        let some = lt-of 0 (revert_rank w.origin) e in absurd (omega (arith, none, some))
    by false z h = lt-of (revert_rank x.origin) (revert_rank w.origin) h

or-right : (s t : Bool) → t ≡ true → (s || t) ≡ true
or-right true t e = refl
or-right false t e = e

-- where a later one wins that is rolled back, what is left is left where the earlier one won
left-before : (x w f : Weighed) → rolls_back f ≡ true → is_left w f ≡ true → rolls_back w ≡ true
    → is_left x w ≡ true → is_left x f ≡ true
left-before x w f = by f.rollback w.rollback
  where
    ranks : (d : Weighed) → revert_rank d.origin ≡ min (origin_rank d.origin) 2
    ranks d = rank-is d.origin

    left : revert_rank x.origin < revert_rank f.origin
        → (revert_rank f.origin == 0 || is_lt (nat_cmp (revert_rank x.origin) (revert_rank f.origin))) ≡ true
    left l = or-right (revert_rank f.origin == 0) _ (of-lt (revert_rank x.origin) (revert_rank f.origin) l)

    by : (r s : Rollback) → rolls_back_by r f ≡ true → is_left_by r w f ≡ true
        → rolls_back_by s w ≡ true → is_left_by s x w ≡ true → is_left_by r x f ≡ true
    by Nowhere s a b c d = absurd (cc)
    by ToLayer Nowhere a b c d = absurd (cc)
    by ToOrigin Nowhere a b c d = absurd (cc)
    by ToLayer ToLayer a b c d = level-trans x w f d b
    by ToLayer ToOrigin a b c d =
        let l = before-origin x w c d in
        let p = ranks x in
        let q = ranks w in
        level-trans x w f (level-less x w (omega (arith, l, p, q))) b
    by ToOrigin ToLayer a b c d =
        let l = before-origin w f a b in
        let m = origin-upto x w d in
        let p = ranks x in
        let q = ranks w in
        left (omega (arith, l, m, p, q))
    by ToOrigin ToOrigin a b c d =
        let l = before-origin w f a b in
        let m = before-origin x w c d in left (omega (arith, l, m))

-- what is rolled back is not left where it wins
pub not-itself : (w : Weighed) → rolls_back w ≡ true → is_left w w ≡ false
not-itself w = by w.rollback
  where
    same : (n : ℕ) → is_lt (nat_cmp n n) ≡ false
    same n = ap is_lt (tied_itself nat_cmp_total n)

    at : (t : Bool) → (revert_rank w.origin == 0) ≡ t → is_lt (nat_cmp 0 (revert_rank w.origin)) ≡ true
        → (t || is_lt (nat_cmp (revert_rank w.origin) (revert_rank w.origin))) ≡ false
    at true z e =
        let none = eqb-true (revert_rank w.origin) 0 z in
        let some = lt-of 0 (revert_rank w.origin) e in absurd (omega (arith, none, some))
    at false z e = same (revert_rank w.origin)

    by : (r : Rollback) → rolls_back_by r w ≡ true → is_left_by r w w ≡ false
    by Nowhere e = absurd (cc)
    by ToLayer e = ap is_lt (tied_itself level_total w)
    by ToOrigin e = at (revert_rank w.origin == 0) refl e

-- ---- the rounds

abbrev pub itself : Weighed → Weighed
itself w = w

-- what is rolled back to, where this one wins of what was left
abbrev pub lowered : Option Weighed → Option Weighed → Option Weighed
lowered floor None = floor
lowered floor (Some best) = if rolls_back best then Some best else floor

-- the one that wins of those that are left
abbrev pub best_under : Option Weighed → List Weighed → Option Weighed
best_under floor found = winner_from itself None (filter (is_left_under floor) found)

-- what is rolled back to after so many rounds
abbrev pub floor_after : (times : ℕ) → List Weighed → Option Weighed
floor_after zero found = None
floor_after (suc times) found =
    lowered (floor_after times found) (best_under (floor_after times found) found)

-- it is nothing, or one that is rolled back where it wins
abbrev pub IsFloor : Option Weighed → Type 0
IsFloor None = Unit {0}
IsFloor (Some floor) = rolls_back floor ≡ true

lowered-floor : (floor best : Option Weighed) → IsFloor floor → IsFloor (lowered floor best)
lowered-floor floor None h = h
lowered-floor floor (Some best) h = by (rolls_back best) refl
  where
    by : (t : Bool) → rolls_back best ≡ t → IsFloor (if t then Some best else floor)
    by true e = e
    by false e = h

floor-after : (times : ℕ) (found : List Weighed) → IsFloor (floor_after times found)
floor-after zero found = tt
floor-after (suc times) found =
    lowered-floor (floor_after times found) (best_under (floor_after times found) found)
    (floor-after times found)

under-before : (floor : Option Weighed) (x w : Weighed) → IsFloor floor
    → is_left_under floor w ≡ true → rolls_back w ≡ true → is_left x w ≡ true
    → is_left_under floor x ≡ true
under-before None x w h a b c = refl
under-before (Some floor) x w h a b c = left-before x w floor h a b c

is-false : (s t : Bool) → (s ≡ true → t ≡ true) → t ≡ false → s ≡ false
is-false true t h e = absurd (let no : true ≡ false = sym (h refl) ∙ e in cc)
is-false false t h e = refl

-- ---- the same from the best on

module _ (found best : List Weighed)
    (ranks : (floor : Option Weighed)
    → best_under floor found ≡ first_of (filter (is_left_under floor) best)) where
  still : (n k : ℕ) → floor_after (suc k) found ≡ floor_after k found → k ≤ n
      → floor_after n found ≡ floor_after k found
  still zero k e l =
      let same : 0 ≡ k = omega (arith, l) in ap (λ m. floor_after m found) same
  still (suc n) k e l =
      ⊎_elim
      (λ same. sym (ap (λ m. floor_after m found) same))
      (λ other.
      let under : k ≤ n = omega (arith, l, other) in
      ap (λ floor. lowered floor (best_under floor found)) (still n k e under) ∙ e)
      (cases_eq k (suc n))

  filter-none : (p : Weighed → Bool) (xs : List Weighed) → All (λ w. p w ≡ false) xs → filter p xs ≡ []
  filter-none p [] none = refl
  filter-none p (x ∷ xs) none =
      ap (λ t. cond t (x ∷ filter p xs) (filter p xs)) (All-head (λ w. p w ≡ false) x xs none)
      ∙ filter-none p xs (All-tail (λ w. p w ≡ false) x xs none)

  -- none of those before is left
  abbrev NoneLeft : ℕ → List Weighed → Type 0
  NoneLeft k before = All (λ w. is_left_under (floor_after k found) w ≡ false) before

  best-of-rest : (k : ℕ) (before rest : List Weighed) → best ≡ before ++ rest → NoneLeft k before
      → best_under (floor_after k found) found
      ≡ first_of (filter (is_left_under (floor_after k found)) rest)
  best-of-rest k before rest whole none =
      let p : Weighed → Bool = is_left_under (floor_after k found) in
      ranks (floor_after k found)
      ∙ ap (λ ws. first_of (filter p ws)) whole
      ∙ ap first_of (filter-append p before rest ∙ ap (λ ws. ws ++ filter p rest) (filter-none p before none))

  from-best : (rest before : List Weighed) (k n : ℕ) → best ≡ before ++ rest → NoneLeft k before
      → k + length rest ≤ n → floor_after n found ≡ floor_from (floor_after k found) rest
  from-best [] before k n whole none l =
      still n k (ap (lowered (floor_after k found)) (best-of-rest k before [] whole none)) (omega (arith, l))
  from-best (w ∷ rest) before k n whole none l =
      by (λ b k m. from-best rest b k n m) (is_left_under floor w) refl (rolls_back w) refl
    where
      floor : Option Weighed
      floor = floor_after k found

      longer : best ≡ (before ++ w ∷ []) ++ rest
      longer = whole ∙ sym (append_assoc before (w ∷ []) rest)

      found-it : is_left_under floor w ≡ true → best_under floor found ≡ Some w
      found-it e =
          best-of-rest k before (w ∷ rest) whole none
          ∙ ap (λ t. first_of (cond t (w ∷ filter (is_left_under floor) rest)
          (filter (is_left_under floor) rest))) e

      next : is_left_under floor w ≡ true → (t : Bool) → rolls_back w ≡ t
          → floor_after (suc k) found ≡ (if t then Some w else floor)
      next e t f = ap (lowered floor) (found-it e) ∙ ap (λ s. if s then Some w else floor) f

      by : ((b : List Weighed) (k : ℕ) → best ≡ b ++ rest → NoneLeft k b → k + length rest ≤ n
          → floor_after n found ≡ floor_from (floor_after k found) rest)
          → (t : Bool) → is_left_under floor w ≡ t → (s : Bool) → rolls_back w ≡ s
          → floor_after n found
          ≡ (if t then (if s then floor_from (Some w) rest else floor) else floor_from floor rest)
      by on false e s f =
          on (before ++ w ∷ []) k longer
          (All-push (λ w. is_left_under (floor_after k found) w ≡ false) before w none e)
          (omega (arith, l))
      by on true e false f = still n k (next e false f) (omega (arith, l))
      by on true e true f =
          let lower = next e true f in
          let Gone : Weighed → Type 0 = λ x. is_left_under (floor_after (suc k) found) x ≡ false in
          let gone : All Gone before =
          All-weaker (λ x. is_left_under floor x ≡ false) Gone
          (λ x no. ap (λ b. is_left_under b x) lower
          ∙ is-false (is_left x w) (is_left_under floor x)
          (under-before floor x w (floor-after k found) e f) no) before none in
          on (before ++ w ∷ []) (suc k) longer
          (All-push Gone before w gone (ap (λ b. is_left_under b w) lower ∙ not-itself w f))
          (omega (arith, l))
          ∙ ap (λ b. floor_from b rest) lower

  pub floor-of-best : (n : ℕ) → length best ≤ n → floor_after n found ≡ floor_from None best
  floor-of-best n l =
      from-best best [] 0 n refl (All-nil (λ w. is_left_under (floor_after 0 found) w ≡ false))
      (omega (arith, l))

-- ---- what is left of declarations of several properties

pub filter-all : {X : Type 0} (test : X → Bool) (xs : List X) → All (λ x. test x ≡ true) xs
    → filter test xs ≡ xs
filter-all test [] all = refl
filter-all test (x ∷ xs) all =
    ap (λ t. cond t (x ∷ filter test xs) (filter test xs)) (All-head (λ x. test x ≡ true) x xs all)
    ∙ ap (λ ys. x ∷ ys) (filter-all test xs (All-tail (λ x. test x ≡ true) x xs all))

filter-filter : {X : Type 0} (p q : X → Bool) (xs : List X)
    → filter p (filter q xs) ≡ filter (λ x. q x && p x) xs
filter-filter p q [] = refl
filter-filter p q (x ∷ xs) = by (filter-filter p q xs) (q x)
  where
    by : filter p (filter q xs) ≡ filter (λ x. q x && p x) xs → (t : Bool)
        → filter p (cond t (x ∷ filter q xs) (filter q xs))
        ≡ cond (t && p x) (x ∷ filter (λ x. q x && p x) xs) (filter (λ x. q x && p x) xs)
    by rest true = ap (λ ys. cond (p x) (x ∷ ys) ys) rest
    by rest false = rest

-- two tests that agree on these keep the same of them
pub filter-alike : {X : Type 0} (p q : X → Bool) (xs : List X) → All (λ x. p x ≡ q x) xs
    → filter p xs ≡ filter q xs
filter-alike p q [] same = refl
filter-alike p q (x ∷ xs) same =
    ap (λ t. cond t (x ∷ filter p xs) (filter p xs)) (All-head (λ x. p x ≡ q x) x xs same)
    ∙ ap (λ ys. cond (q x) (x ∷ ys) ys) (filter-alike p q xs (All-tail (λ x. p x ≡ q x) x xs same))

pub filter-map : {X Y : Type 0} (h : Y → X) (p : X → Bool) (ys : List Y)
    → map h (filter (λ y. p (h y)) ys) ≡ filter p (map h ys)
filter-map h p [] = refl
filter-map h p (y ∷ ys) = by (filter-map h p ys) (p (h y))
  where
    by : map h (filter (λ y. p (h y)) ys) ≡ filter p (map h ys) → (t : Bool)
        → map h (cond t (y ∷ filter (λ y. p (h y)) ys) (filter (λ y. p (h y)) ys))
        ≡ cond t (h y ∷ filter p (map h ys)) (filter p (map h ys))
    by rest true = ap (λ xs. h y ∷ xs) rest
    by rest false = rest

first-mapped : {X Y : Type 0} (h : Y → X) (ys : List Y)
    → option_map h (first_of ys) ≡ first_of (map h ys)
first-mapped h [] = refl
first-mapped h (y ∷ ys) = refl

-- what of two tests that imply each other where one holds
both-left : (floor best : Option Weighed) (x : Weighed) → IsFloor floor
    → ((w : Weighed) → best ≡ Some w → is_left_under floor w ≡ true)
    → (is_left_under floor x && is_left_under best x) ≡ is_left_under (lowered floor best) x
both-left floor None x h there = and-true (is_left_under floor x)
  where
    and-true : (t : Bool) → (t && true) ≡ t
    and-true true = refl
    and-true false = refl
both-left floor (Some w) x h there = by (rolls_back w) refl
  where
    and-true : (s t : Bool) → t ≡ true → (s && t) ≡ s
    and-true true t e = e
    and-true false t e = refl

    and-upto : (s t : Bool) → (t ≡ true → s ≡ true) → (s && t) ≡ t
    and-upto true t e = refl
    and-upto false true e = e refl
    and-upto false false e = refl

    by : (t : Bool) → rolls_back w ≡ t
        → (is_left_under floor x && is_left x w) ≡ is_left_under (if t then Some w else floor) x
    by true e =
        and-upto (is_left_under floor x) (is_left x w)
        (under-before floor x w h (there w refl) e)
    by false e = and-true (is_left_under floor x) (is_left x w) (all-left x w e)

module _ {Y : Type 0} (weight : Y → Weighed) (property : Y → ℕ) where
  -- those with the number of its property
  abbrev pub by_property : List Y → Y → List Y
  by_property all one = filter (λ y. property y == property one) all

  -- what the cascade sees of those with this number
  abbrev pub weights_of : ℕ → List Y → List Weighed
  weights_of number all = map weight (filter (λ y. property y == number) all)

  -- one of these is left where each property is rolled back to this
  abbrev pub is_over : (ℕ → Option Weighed) → Y → Bool
  is_over floors y = is_left_under (floors (property y)) (weight y)

  -- of those with one number those are left that are, whatever is left of others
  weights-left : (floors : ℕ → Option Weighed) (number : ℕ) (all : List Y)
      → weights_of number (filter (is_over floors) all)
      ≡ filter (is_left_under (floors number)) (weights_of number all)
  weights-left floors number all =
      let here : Y → Bool = λ y. property y == number in
      ap (map weight)
      (filters-commute here (is_over floors) all
      ∙ filter-alike (is_over floors) (λ y. is_left_under (floors number) (weight y)) (filter here all)
      (All-weaker (λ y. here y ≡ true)
      (λ y. is_over floors y ≡ is_left_under (floors number) (weight y))
      (λ y e. ap (λ n. is_left_under (floors n) (weight y)) (eqb-true (property y) number e))
      (filter here all) (filter_passes here all)))
      ∙ filter-map weight (is_left_under (floors number)) (filter here all)

  -- what each property is rolled back to after so many rounds
  abbrev floors_after : (times : ℕ) → List Y → ℕ → Option Weighed
  floors_after times all number = floor_after times (weights_of number all)

  pub left-after : (times : ℕ) (all : List Y)
      → left_after weight by_property times all ≡ filter (is_over (floors_after times all)) all
  left-after zero all = sym (filter-all (λ y. true) all (λ k d l. refl))
  left-after (suc times) all =
      ap (left_once weight by_property) (left-after times all)
      ∙ filter-filter counts over all
      ∙ filter_agree (λ y. over y && counts y) (is_over (floors_after (suc times) all)) same all
    where
      over : Y → Bool
      over = is_over (floors_after times all)

      counts : Y → Bool
      counts y = is_left_under (best_of weight (by_property (filter over all) y)) (weight y)

      same : (y : Y) → (over y && counts y) ≡ is_over (floors_after (suc times) all) y
      same y =
          let found = weights_of (property y) all in
          let floor = floor_after times found in
          ap (λ ws. over y && is_left_under (winner_from itself None ws) (weight y))
          (weights-left (floors_after times all) (property y) all)
          ∙ both-left floor (best_under floor found) (weight y) (floor-after times found)
          (λ w e. All-contains (λ w. is_left_under floor w ≡ true) (filter (is_left_under floor) found) w
          (filter_passes (is_left_under floor) found)
          (wins itself (filter (is_left_under floor) found) w e).found_there)

  -- What is left in the end, where the weights of each property are ranked: what is left over the last that
  -- is rolled back.
  pub left-over : (all : List Y) (ranked_of : ℕ → List Weighed)
      → ((number : ℕ) → length (ranked_of number) ≤ length all)
      → ((number : ℕ) (floor : Option Weighed) → best_under floor (weights_of number all)
      ≡ first_of (filter (is_left_under floor) (ranked_of number)))
      → left weight by_property all ≡ filter (is_over (λ number. floor_from None (ranked_of number))) all
  left-over all ranked_of short ranks =
      left-after (length all) all
      ∙ filter_agree (is_over (floors_after (length all) all))
      (is_over (λ number. floor_from None (ranked_of number)))
      (λ y. ap (λ floor. is_left_under floor (weight y))
      (floor-of-best (weights_of (property y) all) (ranked_of (property y)) (ranks (property y))
      (length all) (short (property y)))) all

  -- where all are ranked, those of each property are
  pub ranked-weights : (all ranked : List Y) → Ranks weight all ranked → (number : ℕ)
      → (floor : Option Weighed)
      → best_under floor (weights_of number all)
      ≡ first_of (filter (is_left_under floor) (weights_of number ranked))
  ranked-weights all ranked ranks number floor =
      sym (ap (winner_from itself None) (here all))
      ∙ sym (winner-mapped weight None (filter test all))
      ∙ ap (option_map weight) (ranks test)
      ∙ first-mapped weight (filter test ranked)
      ∙ ap first_of (here ranked)
    where
      test : Y → Bool
      test y = (property y == number) && is_left_under floor (weight y)

      here : (ys : List Y) → map weight (filter test ys)
          ≡ filter (is_left_under floor) (weights_of number ys)
      here ys =
          ap (map weight)
          (sym (filter-filter (λ y. is_left_under floor (weight y)) (λ y. property y == number) ys))
          ∙ filter-map weight (is_left_under floor) (filter (λ y. property y == number) ys)

-- ---- the same of what is made of others

module _ {X Y : Type 0} (weight : X → Weighed) (h : Y → X) (ofX : List X → X → List X)
    (ofY : List Y → Y → List Y) (P : Y → Type 0)
    (alike : (ys : List Y) (one : Y) → All P ys → P one
    → map weight (ofX (map h ys) (h one)) ≡ map (λ y. weight (h y)) (ofY ys one)) where
  abbrev counts : List Y → Y → Bool
  counts all y = is_left_under (best_of (λ y. weight (h y)) (ofY all y)) (weight (h y))

  once-mapped : (all : List Y) → All P all
      → map h (left_once (λ y. weight (h y)) ofY all) ≡ left_once weight ofX (map h all)
  once-mapped all good =
      ap (map h)
      (filter-alike (counts all)
      (λ y. is_left_under (best_of weight (ofX (map h all) (h y))) (weight (h y))) all
      (All-weaker P (λ y. counts all y ≡ is_left_under (best_of weight (ofX (map h all) (h y))) (weight (h y)))
      (λ y of-y. ap (λ ws. is_left_under (winner_from itself None ws) (weight (h y)))
      (sym (alike all y good of-y))) all good))
      ∙ filter-map h (λ x. is_left_under (best_of weight (ofX (map h all) x)) (weight x)) all

  after-good : (times : ℕ) (all : List Y) → All P all
      → All P (left_after (λ y. weight (h y)) ofY times all)
  after-good zero all good = good
  after-good (suc times) all good =
      All-filter (counts (left_after (λ y. weight (h y)) ofY times all)) P
      (left_after (λ y. weight (h y)) ofY times all) (after-good times all good)

  after-mapped : (times : ℕ) (all : List Y) → All P all
      → map h (left_after (λ y. weight (h y)) ofY times all) ≡ left_after weight ofX times (map h all)
  after-mapped zero all good = refl
  after-mapped (suc times) all good =
      once-mapped (left_after (λ y. weight (h y)) ofY times all) (after-good times all good)
      ∙ ap (left_once weight ofX) (after-mapped times all good)

  pub left-mapped : (all : List Y) → All P all
      → map h (left (λ y. weight (h y)) ofY all) ≡ left weight ofX (map h all)
  left-mapped all good =
      after-mapped (length all) all good
      ∙ ap (λ n. left_after weight ofX n (map h all)) (sym (length-map all h))
