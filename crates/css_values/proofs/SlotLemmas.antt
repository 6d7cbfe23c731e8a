-- Slots, what is known by them, and how more becomes known.
use Rattle.std.proofs.Common.{◌≡◌, ◌∙◌, ℕ, zero, suc, ◌<◌, ◌≤◌, ◌==◌, ◌||◌, Bool, true, false, List, [], ◌∷◌, Option, None, length, option_map, set, nat_le, arith, refl, sym, ap, if◌then◌else◌}
use Rattle.std.proofs.lemmas.List.{length-map, length-set, get_or-set_same, get_or-set_other}
use Rattle.css_values.specs.Substitution.{Value}
use Rattle.css_values.specs.Resolution.{Known, not_yet, computed, known_at, is_among, supposing, Becomes, IsComputed}
use Rattle.css_values.specs.declared.table.Slot.{Slot}
use Rattle.css_values.specs.declared.table.Slot.TheVariants as slots
use Rattle.css_values.specs.declared.drafts.Value.{Value as StoredValue}
use Rattle.css_values.specs.Views.{slot_of, slot_from, stage_of, stage_from, value_of}
use Rattle.css_values.specs.internal.Readings.{Extends}
use Rattle.css_values.specs.internal.Paths.{is_open, is_unread, place_of, slot_at, unread}

-- ---- numbers

pub eq_same : (n : ℕ) → (n == n) ≡ true
eq_same n = grind arith

pub eq_true : (n k : ℕ) → (n == k) ≡ true → n ≡ k
eq_true n k e = grind arith

pub eq_false : (n k : ℕ) → (n == k) ≡ false → n ≡ k → ⊥
eq_false n k e h = grind arith

pub right-true : (a b : Bool) → b ≡ true → (a || b) ≡ true
right-true true b e = refl
right-true false b e = e

-- ---- slots

pub stage-at : (all : List Slot) (n : ℕ) → known_at (stage_of all) n ≡ slot_of (slot_at all n)
stage-at [] n = refl
stage-at (s ∷ all) zero = refl
stage-at (s ∷ all) (suc n) = stage-at all n

pub set-at : (all : List Slot) (k n : ℕ) (v : Slot) → k < length all
    → slot_at (set all k v) n ≡ (if n == k then v else slot_at all n)
set-at all k n v l = by (n == k) refl
  where
    by : (t : Bool) → (n == k) ≡ t
        → slot_at (set all k v) n ≡ (if t then v else slot_at all n)
    by true e =
        let same : n ≡ k = eq_true n k e in
        ap (slot_at (set all k v)) same ∙ get_or-set_same all k v slots.Unread l
    by false e = get_or-set_other all k n v slots.Unread (eq_false n k e)

pub open-not_yet : (s : Slot) → is_open s ≡ true → slot_of s ≡ not_yet
open-not_yet slots.Unread h = refl
open-not_yet (slots.Open p) h = refl
open-not_yet (slots.Computed v) h = absurd (cc)

pub unread-not_yet : (s : Slot) → is_unread s ≡ true → slot_of s ≡ not_yet
unread-not_yet slots.Unread h = refl
unread-not_yet (slots.Open p) h = absurd (cc)
unread-not_yet (slots.Computed v) h = absurd (cc)

pub not_yet-unread : (s : Slot) → slot_of s ≡ not_yet → is_open s ≡ false → is_unread s ≡ true
not_yet-unread slots.Unread h e = refl
not_yet-unread (slots.Open p) h e = absurd (cc)
not_yet-unread (slots.Computed v) h e = absurd (cc)

pub closed-computed : (s : Slot) → is_open s ≡ false → is_unread s ≡ false → IsComputed (slot_of s)
closed-computed slots.Unread h e = absurd (cc)
closed-computed (slots.Open p) h e = absurd (cc)
closed-computed (slots.Computed v) h e = tt

pub unread-less : (all : List Slot) (k : ℕ) (v : Slot) → k < length all
    → is_unread (slot_at all k) ≡ true → is_unread v ≡ false → unread (set all k v) < unread all
unread-less [] k v l h e = absurd (omega arith)
unread-less (s ∷ all) zero v l h e = rw e (rw h (omega arith))
unread-less (s ∷ all) (suc k) v l h e = by (is_unread s) (unread-less all k v (omega arith) h e)
  where
    by : (t : Bool) → unread (set all k v) < unread all
        → (if t then suc (unread (set all k v)) else unread (set all k v))
        < (if t then suc (unread all) else unread all)
    by true g = omega arith
    by false g = g

-- fewer are unread, if none is that was not
pub unread-within : (all after : List Slot) → length after ≡ length all
    → ((n : ℕ) → is_unread (slot_at all n) ≡ false → is_unread (slot_at after n) ≡ false)
    → unread after ≤ unread all
unread-within [] [] l h = omega arith
unread-within [] (t ∷ after) l h = absurd (omega arith)
unread-within (s ∷ all) [] l h = omega arith
unread-within (s ∷ all) (t ∷ after) l h =
    by (is_unread s) (is_unread t) (h 0) (unread-within all after (omega arith) (λ n. h (suc n)))
  where
    true_is_false : true ≡ false → ⊥
    true_is_false e = cc

    by : (a b : Bool) → (a ≡ false → b ≡ false) → unread after ≤ unread all
        → (if b then suc (unread after) else unread after)
        ≤ (if a then suc (unread all) else unread all)
    by true true g m = omega arith
    by true false g m = omega arith
    by false true g m = absurd (true_is_false (g refl))
    by false false g m = m

-- ---- what becomes known

pub extends-same : (s : List Known) → Extends s s
extends-same s = λ n v e. e

pub extends-then : (s t u : List Known) → Extends s t → Extends t u → Extends s u
extends-then s t u a b = λ n v e. b n v (a n v e)

pub extends-becomes : (s t : List Known) (numbers : List ℕ) (value : Option Value)
    → Becomes s numbers value t
    → ((n : ℕ) → is_among numbers n ≡ true → known_at s n ≡ not_yet) → Extends s t
extends-becomes s t numbers value b h = λ n v e. by n v e (is_among numbers n) refl (b.1 n)
  where
    not_both : {k : Known} {v : Option Value} → k ≡ not_yet → k ≡ computed v → ⊥
    not_both a b = cc

    by : (n : ℕ) (v : Option Value) → known_at s n ≡ computed v → (a : Bool) → is_among numbers n ≡ a
        → known_at t n ≡ (if a then computed value else known_at s n) → known_at t n ≡ computed v
    by n v e true q g = absurd (not_both (h n q) e)
    by n v e false q g = g ∙ e

-- slots of which only these change
abbrev pub OnlyThese : List Slot → List ℕ → Slot → List Slot → Type 0
OnlyThese all numbers v after =
    (length after ≡ length all)
    × ((n : ℕ) → slot_at after n ≡ (if is_among numbers n then v else slot_at all n))

pub only-set : (all : List Slot) (k : ℕ) (v : Slot) → k < length all → OnlyThese all (k ∷ []) v (set all k v)
only-set all k v l = (length-set all k v, λ n. set-at all k n v l ∙ by n (n == k))
  where
    by : (n : ℕ) (t : Bool) → (if t then v else slot_at all n) ≡ (if t || false then v else slot_at all n)
    by n true = refl
    by n false = refl

pub only-becomes : (all after : List Slot) (numbers : List ℕ) (w : Option StoredValue)
    → OnlyThese all numbers (slots.Computed w) after
    → Becomes (stage_of all) numbers (option_map value_of w) (stage_of after)
only-becomes all after numbers w h = (
  length-map after slot_of ∙ h.0 ∙ sym (length-map all slot_of),
  λ n. stage-at after n ∙ ap slot_of (h.1 n) ∙ by n (is_among numbers n),
)
  where
    by : (n : ℕ) (t : Bool) → slot_of (if t then slots.Computed w else slot_at all n)
        ≡ (if t then computed (option_map value_of w) else known_at (stage_of all) n)
    by n true = refl
    by n false = sym (stage-at all n)

-- ---- what a circle sees

pub seen-at : (from : ℕ) (all : List Slot) (n : ℕ)
    → known_at (stage_from from all) n ≡ slot_from from (slot_at all n)
seen-at from [] n = refl
seen-at from (s ∷ all) zero = refl
seen-at from (s ∷ all) (suc n) = seen-at from all n

pub unread-seen : (from : ℕ) (s : Slot) → slot_from from s ≡ not_yet → slot_of s ≡ not_yet
unread-seen from slots.Unread h = refl
unread-seen from (slots.Open p) h = refl
unread-seen from (slots.Computed v) h = absurd (cc)

-- an open slot that is not hidden was begun before
pub seen-before : (from : ℕ) (s : Slot) → slot_from from s ≡ not_yet → is_open s ≡ true → place_of s < from
seen-before from slots.Unread h e = absurd (cc)
seen-before from (slots.Open p) h e = by (nat_le from p) refl h
  where
    by : (b : Bool) → nat_le from p ≡ b → (if b then computed None else not_yet) ≡ not_yet → p < from
    by true q g = absurd (cc)
    by false q g = grind arith
seen-before from (slots.Computed v) h e = absurd (cc)

-- what is seen is known, or is hidden
pub seen-known : (from : ℕ) (s : Slot) (v : Option Value) → slot_from from s ≡ computed v
    → (k : Known) → (slot_of s ≡ computed v → k ≡ computed v)
    → (is_open s ≡ true → from ≤ place_of s → k ≡ computed None) → k ≡ computed v
seen-known from slots.Unread v h k f g = absurd (cc)
seen-known from (slots.Open p) v h k f g = by (nat_le from p) refl h
  where
    by : (b : Bool) → nat_le from p ≡ b → (if b then computed None else not_yet) ≡ computed v
        → k ≡ computed v
    by true q e = let l : from ≤ p = grind arith in g refl l ∙ e
    by false q e = absurd (cc)
seen-known from (slots.Computed w) v h k f g = f h

-- ---- what is supposed

pub length-supposing : (s : List Known) (numbers : List ℕ) → length (supposing s numbers) ≡ length s
length-supposing s [] = refl
length-supposing s (n ∷ more) =
    length-set (supposing s more) n (computed None) ∙ length-supposing s more

pub supposing-at : (s : List Known) (numbers : List ℕ) (n : ℕ)
    → ((m : ℕ) → is_among numbers m ≡ true → m < length s)
    → known_at (supposing s numbers) n ≡ (if is_among numbers n then computed None else known_at s n)
supposing-at s [] n h = refl
supposing-at s (m ∷ more) n h =
    by (n == m) refl (supposing-at s more n (λ k q. h k (right-true (k == m) (is_among more k) q)))
  where
    within : m < length (supposing s more)
    within =
        let l : m < length s = h m (ap (λ (b : Bool). b || is_among more m) (eq_same m)) in
        omega (arith, length-supposing s more)

    by : (t : Bool) → (n == m) ≡ t
        → known_at (supposing s more) n ≡ (if is_among more n then computed None else known_at s n)
        → known_at (set (supposing s more) m (computed None)) n
        ≡ (if t || is_among more n then computed None else known_at s n)
    by true e g =
        ap (known_at (set (supposing s more) m (computed None))) (eq_true n m e)
        ∙ get_or-set_same (supposing s more) m (computed None) not_yet within
    by false e g =
        get_or-set_other (supposing s more) m n (computed None) not_yet (eq_false n m e) ∙ g

pub supposing-invalid : (s : List Known) (numbers : List ℕ) (n : ℕ)
    → ((m : ℕ) → is_among numbers m ≡ true → m < length s)
    → is_among numbers n ≡ true → known_at (supposing s numbers) n ≡ computed None
supposing-invalid s numbers n h e =
    supposing-at s numbers n h ∙ ap (λ (b : Bool). if b then computed None else known_at s n) e

pub supposing-other : (s : List Known) (numbers : List ℕ) (n : ℕ)
    → ((m : ℕ) → is_among numbers m ≡ true → m < length s)
    → is_among numbers n ≡ false → known_at (supposing s numbers) n ≡ known_at s n
supposing-other s numbers n h e =
    supposing-at s numbers n h ∙ ap (λ (b : Bool). if b then computed None else known_at s n) e

pub extends-supposing : (s : List Known) (numbers : List ℕ)
    → ((m : ℕ) → is_among numbers m ≡ true → m < length s)
    → ((m : ℕ) → is_among numbers m ≡ true → known_at s m ≡ not_yet)
    → Extends s (supposing s numbers)
extends-supposing s numbers h u = λ n v e. by n v e (is_among numbers n) refl
  where
    not_both : {k : Known} {v : Option Value} → k ≡ not_yet → k ≡ computed v → ⊥
    not_both a b = cc

    by : (n : ℕ) (v : Option Value) → known_at s n ≡ computed v → (b : Bool) → is_among numbers n ≡ b
        → known_at (supposing s numbers) n ≡ computed v
    by n v e true q = absurd (not_both (u n q) e)
    by n v e false q = supposing-other s numbers n h q ∙ e

-- an open slot is one of the list
pub open-within : (all : List Slot) (n : ℕ) → is_open (slot_at all n) ≡ true → n < length all
open-within [] n h = absurd (cc)
open-within (s ∷ all) zero h = omega arith
open-within (s ∷ all) (suc n) h = let l : n < length all = open-within all n h in omega arith
