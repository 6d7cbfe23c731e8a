-- Declarations that nothing is before.
-- Serves the functions of `settling`.
use Rattle.std.proofs.Common.{◌≡◌, Bool, true, false, not, ◌||◌, ◌==◌, List, [], ◌∷◌, ◌++◌, map, Option, refl, sym, ap, ◌∙◌}
use Rattle.std.specs.Prelude.{if◌then◌else◌}
use Rattle.std.specs.BTreeMap.Comparable.{le_lt_trans}
use Rattle.std.specs.List.{All, list_any}
use Rattle.std.proofs.lemmas.List.Elements.{All-head, All-tail}
use Rattle.std.proofs.lemmas.Cmp.{then_total, on_total, nat_cmp_total}
use Rattle.std.specs.Cmp.{IsTotalOrder, bool_cmp_total}
use Rattle.std.specs.Ordering.{is_lt, is_le, nat_cmp, ordering_reverse, ordering_then}
use Rattle.std.specs.declared.cmp.Ordering.{Ordering}
use Rattle.std.specs.declared.cmp.Ordering.TheVariants.{Less, Equal, Greater}
use Rattle.css_cascade.specs.Cascade.{Weighed, origin_rank}
use Rattle.css_cascade.specs.Rollbacks.{is_left, is_left_by, level_cmp, revert_rank}
use Rattle.css_cascade.specs.declared.rollback.Rollback.{Rollback}
use Rattle.css_cascade.specs.declared.rollback.Rollback.TheVariants.{Nowhere, ToLayer, ToOrigin}
use Rattle.css_cascade.specs.declared.weights.Origin.{Origin}
use Rattle.css_cascade.specs.declared.weights.Origin.TheVariants.{UserAgent, User, Hint, Author}
use Rattle.css_styles.specs.declared.contest.Numbered.{Numbered}
use Rattle.css_styles.specs.Contenders.{Contender}
use Rattle.css_styles.specs.Winners.{as_value, is_first, settled_in, with_weight}
use Rattle.css_styles.specs.internal.Numbered.{is_reached, numbered_of, settled_by, weight_of}

pub level_total : IsTotalOrder level_cmp
level_total =
    then_total (on_total (λ (d : Weighed). origin_rank d.origin) nat_cmp_total)
    (then_total (on_total (λ (d : Weighed). d.attached) bool_cmp_total)
    (on_total (λ (d : Weighed). d.layer) nat_cmp_total))

-- ---- what is in an earlier origin or layer counts where something later does

-- the origins say so
later-origin : (o a b : Origin) → is_lt (nat_cmp (origin_rank b) (origin_rank a)) ≡ false
    → (revert_rank o == 0 || is_lt (nat_cmp (revert_rank b) (revert_rank o))) ≡ true
    → (revert_rank o == 0 || is_lt (nat_cmp (revert_rank a) (revert_rank o))) ≡ true
later-origin UserAgent a b under left = refl
later-origin User UserAgent b under left = refl
later-origin User User UserAgent under left = absurd (cc)
later-origin User User User under left = absurd (cc)
later-origin User User Hint under left = absurd (cc)
later-origin User User Author under left = absurd (cc)
later-origin User Hint UserAgent under left = absurd (cc)
later-origin User Hint User under left = absurd (cc)
later-origin User Hint Hint under left = absurd (cc)
later-origin User Hint Author under left = absurd (cc)
later-origin User Author UserAgent under left = absurd (cc)
later-origin User Author User under left = absurd (cc)
later-origin User Author Hint under left = absurd (cc)
later-origin User Author Author under left = absurd (cc)
later-origin Hint UserAgent b under left = refl
later-origin Hint User b under left = refl
later-origin Hint Hint UserAgent under left = absurd (cc)
later-origin Hint Hint User under left = absurd (cc)
later-origin Hint Hint Hint under left = absurd (cc)
later-origin Hint Hint Author under left = absurd (cc)
later-origin Hint Author UserAgent under left = absurd (cc)
later-origin Hint Author User under left = absurd (cc)
later-origin Hint Author Hint under left = absurd (cc)
later-origin Hint Author Author under left = absurd (cc)
later-origin Author UserAgent b under left = refl
later-origin Author User b under left = refl
later-origin Author Hint UserAgent under left = absurd (cc)
later-origin Author Hint User under left = absurd (cc)
later-origin Author Hint Hint under left = absurd (cc)
later-origin Author Hint Author under left = absurd (cc)
later-origin Author Author UserAgent under left = absurd (cc)
later-origin Author Author User under left = absurd (cc)
later-origin Author Author Hint under left = absurd (cc)
later-origin Author Author Author under left = absurd (cc)

first-under : (r s : Ordering) → is_lt (ordering_then r s) ≡ false → is_lt r ≡ false
first-under Less s e = e
first-under Equal s e = refl
first-under Greater s e = refl

less-is : (r : Ordering) → is_lt r ≡ true → r ≡ Less
less-is Less e = refl
less-is Equal e = absurd (cc)
less-is Greater e = absurd (cc)

not-under : (r : Ordering) → is_lt r ≡ false → is_le (ordering_reverse r) ≡ true
not-under Less e = absurd (cc)
not-under Equal e = refl
not-under Greater e = refl

turned : (r : Ordering) → is_lt r ≡ true → is_lt (ordering_reverse r) ≡ false
turned Less e = refl
turned Equal e = absurd (cc)
turned Greater e = absurd (cc)

later-left : (a b winner : Weighed) → is_lt (level_cmp b a) ≡ false → is_left b winner ≡ true
    → is_left a winner ≡ true
later-left a b winner under = by winner.rollback
  where
    by : (r : Rollback) → is_left_by r b winner ≡ true → is_left_by r a winner ≡ true
    by Nowhere left = refl
    by ToLayer left =
        ap is_lt (le_lt_trans level_total a b winner
        (ap is_le (level_total.antisymm a b) ∙ not-under (level_cmp b a) under)
        (less-is (level_cmp b winner) left))
    by ToOrigin left =
        later-origin winner.origin a.origin b.origin
        (first-under (nat_cmp (origin_rank b.origin) (origin_rank a.origin)) _ under) left

or-first : (p q : Bool) → (q ≡ true → p ≡ true) → p ≡ (p || q)
or-first true q h = refl
or-first false true h = h refl
or-first false false h = refl

or-second : (p q : Bool) → (p ≡ true → q ≡ true) → q ≡ (p || q)
or-second true q h = h refl
or-second false q h = refl

-- of two the one that is not later
pub earlier-kept : (a b winner : Weighed) → is_lt (level_cmp b a) ≡ false
    → is_left a winner ≡ (is_left a winner || is_left b winner)
earlier-kept a b winner under = or-first _ _ (later-left a b winner under)

pub earlier-taken : (a b winner : Weighed) → is_lt (level_cmp b a) ≡ true
    → is_left b winner ≡ (is_left a winner || is_left b winner)
earlier-taken a b winner under =
    or-second _ _ (later-left b a winner
    (ap is_lt (level_total.antisymm a b) ∙ turned (level_cmp b a) under))

-- ---- of several

any-append : {X : Type 0} (test : X → Bool) (xs ys : List X)
    → list_any test (xs ++ ys) ≡ (list_any test xs || list_any test ys)
any-append test [] ys = refl
any-append test (x ∷ xs) ys = ap (λ b. test x || b) (any-append test xs ys) ∙ by (test x)
  where
    by : (t : Bool) → (t || (list_any test xs || list_any test ys)) ≡ ((t || list_any test xs) || list_any test ys)
    by true = refl
    by false = refl

any-more : {X : Type 0} (test : X → Bool) (xs : List X) (x : X)
    → list_any test (xs ++ x ∷ []) ≡ (list_any test xs || test x)
any-more test xs x = any-append test xs (x ∷ []) ∙ ap (λ b. list_any test xs || b) (by (test x))
  where
    by : (t : Bool) → (t || false) ≡ t
    by true = refl
    by false = refl

-- the earliest of those so far and of one more
pub earliest-more : (before : Option Weighed) (front more : List Numbered) (x : Numbered) (next : Weighed)
    → ((winner : Weighed) → is_left next winner ≡ (is_reached before winner || is_left (weight_of x) winner))
    → ((winner : Weighed) → is_reached before winner
    ≡ list_any (λ (n : Numbered). is_left (weight_of n) winner) front)
    → more ≡ front ++ x ∷ [] → (winner : Weighed)
    → is_left next winner ≡ list_any (λ (n : Numbered). is_left (weight_of n) winner) more
earliest-more before front more x next found so-far grown winner =
    let test : Numbered → Bool = λ n. is_left (weight_of n) winner in
    found winner ∙ ap (λ b. b || test x) (so-far winner)
    ∙ sym (ap (list_any test) grown ∙ any-more test front x)

any-map : {X Y : Type 0} (f : X → Y) (test : Y → Bool) (xs : List X)
    → list_any test (map f xs) ≡ list_any (λ x. test (f x)) xs
any-map f test [] = refl
any-map f test (x ∷ xs) = ap (λ b. test (f x) || b) (any-map f test xs)

-- ---- what is settled

-- where a value does not roll back, the declaration stays
settled-stays : (all : List Contender) (one : Contender) → one.weight.rollback ≡ Nowhere
    → settled_in all one ≡ one
settled-stays all one e = by (is_first all one.weight)
  where
    by : (t : Bool) → with_weight (if t then as_value one.weight else one.weight) one ≡ one
    by true = ap (λ r. with_weight (record one.weight { rollback = r }) one) (sym e)
    by false = refl

pub none-settled : (all : List Contender) (xs : List Numbered)
    → All (λ (n : Numbered). n.contender.weight.rollback ≡ Nowhere) xs
    → map numbered_of xs ≡ map (settled_in all) (map numbered_of xs)
none-settled all [] stay = refl
none-settled all (n ∷ xs) stay =
    let Stays : Numbered → Type 0 = λ m. m.contender.weight.rollback ≡ Nowhere in
    ap (λ c. c ∷ map numbered_of xs) (sym (settled-stays all (numbered_of n) (All-head Stays n xs stay)))
    ∙ ap (λ cs. settled_in all (numbered_of n) ∷ cs) (none-settled all xs (All-tail Stays n xs stay))

-- by the one in the earliest origin and layer
pub settled-by : (xs : List Numbered) (first : Option Weighed) (one : Weighed)
    → is_reached first one ≡ list_any (λ (n : Numbered). is_left (weight_of n) one) xs
    → settled_by first one
    ≡ (if is_first (map numbered_of xs) one then as_value one else one)
settled-by xs first one e =
    ap (λ t. if not t then as_value one else one)
    (e ∙ sym (any-map numbered_of (λ (other : Contender). is_left other.weight one) xs))
