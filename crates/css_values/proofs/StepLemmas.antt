-- How a path goes on, by what one step of reading leads to.
use Rattle.std.proofs.Common.{◌≡◌, ◌∙◌, ℕ, zero, suc, ◌<◌, ◌≤◌, ◌+◌, ◌*◌, ◌++◌, ◌==◌, ◌||◌, inl, inr, Bool, true, false, List, [], ◌∷◌, Option, Some, None, length, set, get_or, drop, arith, refl, sym, ap, subst, if◌then◌else◌}
use Rattle.std.proofs.lemmas.List.{append-nil, append_assoc, length-set, drop_more}
use Rattle.css_values.specs.Resolution.{Property, not_yet, is_among, IsDone}
use Rattle.css_values.specs.declared.table.Slot.{Slot}
use Rattle.css_values.specs.declared.table.Slot.TheVariants as slots
use Rattle.css_values.specs.Views.{slot_of, stage_from}
use Rattle.css_values.specs.internal.Readings.{Reading, IsUnknown, ReadsTo}
use Rattle.css_values.specs.internal.Paths.{is_open, place_of, open_place, slot_at, unread, numbers_of, Circle, IsPath, GoesOn, Cleared, AreWithin, HasLast, hidden_from, with_last, weights, left_of, read_to, Waits, EndsCurrent, Ends, ended_to}
use Rattle.css_values.proofs.SlotLemmas.{not_yet-unread, unread-less, unread-seen, seen-at, set-at, open-within}
use Rattle.css_values.proofs.CircleLemmas.{among-append, grows-same, path-comes, path-moves, path-clears, path-waits, first-any}

-- ---- slots

place_in : Option ℕ → ℕ
place_in None = 0
place_in (Some k) = k

pub open-some : (s : Slot) (p : ℕ) → Some p ≡ open_place s → (is_open s ≡ true) × (place_of s ≡ p)
unfolding place_in
open-some slots.Unread p e = absurd (cc)
open-some (slots.Open q) p e = (refl, sym (ap place_in e))
open-some (slots.Computed v) p e = absurd (cc)

pub open-none : (s : Slot) → None ≡ open_place s → is_open s ≡ false
open-none slots.Unread e = refl
open-none (slots.Open q) e = absurd (cc)
open-none (slots.Computed v) e = refl

-- there is room to begin one that is not known and was not begun
pub begins-room : (properties : List Property) (all : List Slot) (from begun n : ℕ)
    → IsUnknown properties (stage_from from all) n → is_open (slot_at all n) ≡ false
    → length all ≡ length properties → begun + unread all ≤ length all → begun < length all
begins-room properties all from begun n u closed same room =
    let within : n < length all = omega (arith, u.1, same) in
    let none : slot_of (slot_at all n) ≡ not_yet =
    unread-seen from (slot_at all n) (sym (seen-at from all n) ∙ u.0) in
    let fewer : unread (set all n (slots.Open 0)) < unread all =
    unread-less all n (slots.Open 0) within (not_yet-unread (slot_at all n) none closed) refl in
    omega (arith, fewer, room)

-- ---- properties are made invalid

pub record Clearing (all : List Slot) (numbers left : List ℕ) (after : List Slot) : Type 0 where
  pub before : List ℕ
  pub parts : numbers ≡ before ++ left
  pub cleared : Cleared all before after
  pub within : AreWithin (length after) left

pub clearing-begins : (all : List Slot) (numbers : List ℕ) → AreWithin (length all) numbers
    → Clearing all numbers numbers all
clearing-begins all numbers w = record {
  before = [];
  parts = refl;
  cleared = (refl, λ n. refl);
  within = w;
}

pub clearing-more : (all : List Slot) (numbers more : List ℕ) (n : ℕ) (after : List Slot)
    → Clearing all numbers (n ∷ more) after
    → Clearing all numbers more (set after n (slots.Computed None))
clearing-more all numbers more n after c = record {
  before = c.before ++ n ∷ [];
  parts = c.parts ∙ sym (append_assoc c.before (n ∷ []) more);
  cleared = (
    length-set after n (slots.Computed None) ∙ c.cleared.0,
    λ m. set-at after n m (slots.Computed None) c.within.0
        ∙ by m (m == n) (is_among c.before m) (c.cleared.1 m)
        ∙ ap (λ (b : Bool). if b then slots.Computed None else slot_at all m)
        (sym (among-append c.before (n ∷ []) m)),
  );
  within = subst (λ (k : ℕ). AreWithin k more) (sym (length-set after n (slots.Computed None))) c.within.1;
}
  where
    by : (m : ℕ) (t a : Bool) → slot_at after m ≡ (if a then slots.Computed None else slot_at all m)
        → (if t then slots.Computed None else slot_at after m)
        ≡ (if a || (t || false) then slots.Computed None else slot_at all m)
    by m true true e = refl
    by m true false e = refl
    by m false true e = e
    by m false false e = e

pub clearing-at : (all : List Slot) (numbers : List ℕ) (index : ℕ) (after : List Slot)
    → index < length numbers → Clearing all numbers (drop index numbers) after
    → (get_or numbers index 0 < length after)
    × Clearing all numbers (drop (index + 1) numbers) (set after (get_or numbers index 0) (slots.Computed None))
clearing-at all numbers index after l c =
    let n = get_or numbers index 0 in
    let split : drop index numbers ≡ n ∷ drop (index + 1) numbers = drop_more numbers index 0 l in
    let here : Clearing all numbers (n ∷ drop (index + 1) numbers) after =
    subst (λ (left : List ℕ). Clearing all numbers left after) split c in
    (here.within.0, clearing-more all numbers (drop (index + 1) numbers) n after here)

pub clearing-ends : (all : List Slot) (numbers left : List ℕ) (after : List Slot)
    → Clearing all numbers left after → left ≡ [] → Cleared all numbers after
clearing-ends all numbers left after c e =
    subst (λ (ns : List ℕ). Cleared all ns after)
    (sym (c.parts ∙ ap (λ (ns : List ℕ). c.before ++ ns) e ∙ append-nil c.before)) c.cleared

pub drop-all : (numbers : List ℕ) (n : ℕ) → length numbers ≡ n → drop n numbers ≡ []
drop-all [] zero e = refl
drop-all [] (suc n) e = absurd (omega arith)
drop-all (m ∷ more) zero e = absurd (omega arith)
drop-all (m ∷ more) (suc n) e = drop-all more n (omega arith)

-- ---- the end of a value of a circle

within-from : (count : ℕ) (numbers : List ℕ) → ((n : ℕ) → is_among numbers n ≡ true → n < count)
    → AreWithin count numbers
within-from count [] h = tt
within-from count (n ∷ more) h = (
  h n (ap (λ (b : Bool). b || is_among more n) (same n)),
  within-from count more (λ m e. h m (later (m == n) (is_among more m) e)),
)
  where
    same : (k : ℕ) → (k == k) ≡ true
    same k = grind arith

    later : (a b : Bool) → b ≡ true → (a || b) ≡ true
    later true b e = refl
    later false b e = e

pub within-last : (count : ℕ) (numbers : List ℕ) (n : ℕ) → AreWithin count (numbers ++ n ∷ []) → n < count
within-last count [] n h = h.0
within-last count (m ∷ numbers) n h = within-last count numbers n h.1

pub circle-within : (limit : ℕ) (properties : List Property) (all : List Slot) (begun : ℕ)
    (c : Circle) (path : List Circle) → IsPath limit properties all begun (c ∷ path)
    → AreWithin (length all) (c.ended ++ c.current.number ∷ [])
circle-within limit properties all begun c path p =
    within-from (length all) (c.ended ++ c.current.number ∷ [])
    (λ n e. open-within all n (p.owned n ∙ first-any c path n
    (mine (n == c.current.number) (is_among (numbers_of c.others) n) (is_among c.ended n)
    (sym (among-append c.ended (c.current.number ∷ []) n) ∙ e))))
  where
    mine : (a x y : Bool) → (y || (a || false)) ≡ true → (a || (x || y)) ≡ true
    mine true x y e = refl
    mine false true y e = refl
    mine false false true e = refl
    mine false false false e = e

pub ends-member : (limit : ℕ) (properties : List Property) (all after : List Slot) (begun : ℕ)
    (c : Circle) (path left : List Circle) (next : Option Circle)
    → EndsCurrent limit properties all begun c path → c.closed ≡ true
    → Ends all c path after next left
    → GoesOn limit properties all (c ∷ path) after begun (with_last next left)
ends-member limit properties all after begun c path left next e closed (inl h) =
    subst (λ (s : List Slot). GoesOn limit properties all (c ∷ path) s begun (with_last next left)) (sym h.same)
    (subst (λ (o : Option Circle). GoesOn limit properties all (c ∷ path) all begun (with_last o left)) (sym h.is_next)
    (subst (λ (cs : List Circle). GoesOn limit properties all (c ∷ path) all begun (ended_to c h.entry h.others ∷ cs))
    (sym h.is_left) (path-moves limit properties all begun c path h.entry h.others e closed h.parts)))
ends-member limit properties all after begun c path left next e closed (inr h) =
    subst (GoesOn limit properties all (c ∷ path) after begun) h.parts
    (path-clears limit properties all after begun c path e closed h.no_others h.cleared)

pub ends-last : (all after : List Slot) (c : Circle) (path left : List Circle) (next : Option Circle)
    → Ends all c path after next left → HasLast left next
ends-last all after c path left next (inl h) = subst (HasLast left) (sym h.is_next) tt
ends-last all after c path left next (inr h) = h.has_last

pub merged-goes_on : (limit : ℕ) (properties : List Property) (all : List Slot) (begun : ℕ)
    (old new : List Circle) → IsPath limit properties all begun new × (weights new < weights old)
    → GoesOn limit properties all old all begun new
merged-goes_on limit properties all begun old new h = record {
  is_path = h.0;
  grows = grows-same limit properties all;
  less = less (weights new) (weights old) h.1;
}
  where
    less : (a b : ℕ) → a < b → 4 * unread all + a < 4 * unread all + b
    less a b l = omega arith

-- ---- reading on in the last circle

-- the circle whose current property has this number, and was read up to here
abbrev pub numbered : Circle → ℕ → Reading → Circle
numbered c n r = record {
  start = c.start;
  closed = c.closed;
  current = record { number = n; reading = r };
  others = c.others;
  ended = c.ended;
}

ends-numbered : (limit : ℕ) (properties : List Property) (all : List Slot) (begun n : ℕ)
    (c : Circle) (r : Reading) (path : List Circle) → n ≡ c.current.number
    → EndsCurrent limit properties all begun (read_to c r) path
    → EndsCurrent limit properties all begun (numbered c n r) path
ends-numbered limit properties all begun n c r path e h =
    subst (λ (k : ℕ). EndsCurrent limit properties all begun (numbered c k r) path) (sym e) h

waits-numbered : (limit : ℕ) (properties : List Property) (all : List Slot) (begun n other : ℕ)
    (c : Circle) (r : Reading) (path : List Circle) → n ≡ c.current.number
    → Waits limit properties all begun (read_to c r) path other
    → Waits limit properties all begun (numbered c n r) path other
waits-numbered limit properties all begun n other c r path e h =
    subst (λ (k : ℕ). Waits limit properties all begun (numbered c k r) path other) (sym e) h

pub goes_on-from : (limit : ℕ) (properties : List Property) (all after : List Slot) (begun : ℕ)
    (path other left : List Circle) → weights path ≡ weights other
    → GoesOn limit properties all path after begun left
    → GoesOn limit properties all other after begun left
goes_on-from limit properties all after begun path other left e g = record {
  is_path = g.is_path;
  grows = g.grows;
  less = subst (λ (w : ℕ). left_of after left < 4 * unread all + w) e g.less;
}

-- ---- one value is read on

reads-from : (limit : ℕ) (properties : List Property) (all : List Slot) (from place : ℕ)
    (old new : Reading) (found due : Option ℕ) → place ≡ from → found ≡ due
    → ReadsTo limit properties (stage_from place all) old found new
    → ReadsTo limit properties (stage_from from all) old due new
reads-from limit properties all from place old new found due e f r =
    subst (λ (o : Option ℕ). ReadsTo limit properties (stage_from from all) old o new) f
    (subst (λ (k : ℕ). ReadsTo limit properties (stage_from k all) old found new) e r)

pub reads-unknown : (limit : ℕ) (properties : List Property) (all : List Slot) (from place : ℕ)
    (old new : Reading) (found : Option ℕ) (other : ℕ) → place ≡ from → found ≡ Some other
    → ReadsTo limit properties (stage_from place all) old found new
    → IsUnknown properties (stage_from from all) other
reads-unknown limit properties all from place old new found other e f r =
    (reads-from limit properties all from place old new found (Some other) e f r).1

pub reads-ends : (limit : ℕ) (properties : List Property) (all : List Slot) (begun place n : ℕ)
    (last : Circle) (path : List Circle) (new : Reading) (found : Option ℕ)
    → place ≡ hidden_from last begun → found ≡ None → n ≡ last.current.number
    → IsPath limit properties all begun (last ∷ path)
    → ReadsTo limit properties (stage_from place all) last.current.reading found new
    → IsDone new.so_far → EndsCurrent limit properties all begun (numbered last n new) path
reads-ends limit properties all begun place n last path new found e f same p r d =
    ends-numbered limit properties all begun n last new path same
    (path-comes limit properties all begun last path new p
    (reads-from limit properties all (hidden_from last begun) place last.current.reading new found None e f r) d)

pub reads-waits : (limit : ℕ) (properties : List Property) (all : List Slot) (begun place n other : ℕ)
    (last : Circle) (path : List Circle) (new : Reading) (found : Option ℕ)
    → place ≡ hidden_from last begun → found ≡ Some other → n ≡ last.current.number
    → IsPath limit properties all begun (last ∷ path)
    → ReadsTo limit properties (stage_from place all) last.current.reading found new
    → Waits limit properties all begun (numbered last n new) path other
reads-waits limit properties all begun place n other last path new found e f same p r =
    waits-numbered limit properties all begun n other last new path same
    (path-waits limit properties all begun last path new other p
    (reads-from limit properties all (hidden_from last begun) place last.current.reading new found (Some other) e f r))
