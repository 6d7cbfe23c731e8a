-- Circles of properties whose values are being read, on a path on which each waits for the next.
use Rattle.std.specs.Prelude.{◌≡◌, ℕ, ◌<◌, ◌≤◌, ◌+◌, ◌*◌, ◌++◌, suc, Bool, true, false, ◌&&◌, ◌||◌, ◌==◌, ◌⊎◌, if◌then◌else◌, List, [], ◌∷◌, length, map, get_or, Option, Some, None}
use Rattle.css_values.specs.Substitution.{is, nothing, waits}
use Rattle.css_values.specs.Resolution.{Property, Known, not_yet, computed, known_at, named, comes_to, property_at, none_known, is_among, IsDone, Reaches}
use Rattle.css_values.specs.declared.table.Slot.{Slot}
use Rattle.css_values.specs.declared.table.Slot.TheVariants as slots
use Rattle.css_values.specs.declared.readings.Reading.{Reading as StoredReading}
use Rattle.css_values.specs.declared.circles.Circle.{Circle as StoredCircle}
use Rattle.css_values.specs.Views.{stage_of}
use Rattle.css_values.specs.internal.Readings.{Reading, reading_of, run, Extends}

abbrev pub is_open : Slot → Bool
is_open slots.Unread = false
is_open (slots.Open place) = true
is_open (slots.Computed value) = false

abbrev pub is_unread : Slot → Bool
is_unread slots.Unread = true
is_unread (slots.Open place) = false
is_unread (slots.Computed value) = false

-- before how many others it was not yet begun
abbrev pub place_of : Slot → ℕ
place_of slots.Unread = 0
place_of (slots.Open place) = place
place_of (slots.Computed value) = 0

-- the place of a property that is being read
abbrev pub open_place : Slot → Option ℕ
open_place slots.Unread = None
open_place (slots.Open place) = Some place
open_place (slots.Computed value) = None

-- what is known of the property of this number
abbrev pub slot_at : List Slot → ℕ → Slot
slot_at all n = get_or all n slots.Unread

-- how many are unread
abbrev pub unread : List Slot → ℕ
unread [] = 0
unread (s ∷ more) = if is_unread s then suc (unread more) else unread more

-- a property whose value is being read: its number, and how far
pub record Entry : Type 0 where
  pub number : ℕ
  pub reading : Reading

abbrev pub entry_of : StoredReading → Entry
entry_of r = record { number = r.number; reading = reading_of r }

abbrev pub entries_of : List StoredReading → List Entry
entries_of readings = map entry_of readings

abbrev pub numbers_of : List Entry → List ℕ
numbers_of entries = map (λ e. e.number) entries

-- properties that were begun from a place on, each of which leads to each if it is closed, and else a
-- single one: the one that is read, others that are not read to their ends, and those that are
pub record Circle : Type 0 where
  pub start : ℕ
  pub closed : Bool
  pub current : Entry
  pub others : List Entry
  pub ended : List ℕ

abbrev pub circle_of : StoredCircle → Circle
circle_of c = record {
  start = c.start;
  closed = c.closed;
  current = entry_of c.current;
  others = entries_of c.others.items;
  ended = c.ended.items;
}

abbrev pub piled : List StoredCircle → List Circle → List Circle
piled [] below = below
piled (c ∷ more) below = piled more (circle_of c ∷ below)

-- the circles of a path, from its end
abbrev pub circles_of : List StoredCircle → List Circle
circles_of path = piled path []

abbrev pub has : Circle → ℕ → Bool
has c n = n == c.current.number || (is_among (numbers_of c.others) n || is_among c.ended n)

abbrev pub has_any : List Circle → ℕ → Bool
has_any [] n = false
has_any (c ∷ more) n = has c n || has_any more n

-- the properties of a closed circle are invalid for it
abbrev pub hides : Circle → ℕ → Bool
hides c n = c.closed && has c n

-- more is known, and what the circle hides is invalid
pub record Given (s : List Known) (c : Circle) (t : List Known) : Type 0 where
  pub extends : Extends s t
  pub hidden : (n : ℕ) → hides c n ≡ true → known_at t n ≡ computed None

-- reading on gives what the value of the property comes to, however much becomes known
abbrev pub IsSound : ℕ → List Property → List Known → Circle → Entry → Type 0
IsSound limit properties s c e =
    (e.number < length properties)
    × ((t : List Known) → Given s c t
    → run limit (named properties t) e.reading ≡ comes_to limit properties t e.number)

abbrev pub AreSound : ℕ → List Property → List Known → Circle → List Entry → Type 0
AreSound limit properties s c [] = Unit {0}
AreSound limit properties s c (e ∷ more) =
    IsSound limit properties s c e × AreSound limit properties s c more

-- its value waits for nothing
abbrev pub Finishes : ℕ → List Property → List Known → Circle → ℕ → Type 0
Finishes limit properties s c n =
    (t : List Known) → Given s c t → IsDone (comes_to limit properties t n)

-- The value of a property waits for another, where some of these that it reads before are invalid,
-- however much becomes known.
pub record Sees
    (limit : ℕ) (properties : List Property) (s : List Known) (these : ℕ → Bool) (n other : ℕ) : Type 0 where
  pub before : List ℕ
  pub of_these : (m : ℕ) → is_among before m ≡ true → these m ≡ true
  pub apart : is_among before other ≡ false
  pub waits_for : (t : List Known) → Extends s t
      → ((m : ℕ) → is_among before m ≡ true → known_at t m ≡ computed None)
      → known_at t other ≡ not_yet → comes_to limit properties t n ≡ waits other

-- the property sees another of these, or one that leads to it
pub data Leads (limit : ℕ) (properties : List Property) (s : List Known) (these : ℕ → Bool) (n : ℕ) : ℕ → Type 0 where
  sees : (other : ℕ) → Sees limit properties s these n other → these other ≡ true
      → Leads limit properties s these n other
  then_sees : (between other : ℕ) → Leads limit properties s these n between
      → Sees limit properties s these between other → these other ≡ true
      → Leads limit properties s these n other

-- it is the other, or leads to it
abbrev pub IsNear : ℕ → List Property → List Known → (ℕ → Bool) → ℕ → ℕ → Type 0
IsNear limit properties s these n other = (n ≡ other) ⊎ Leads limit properties s these n other

pub record IsGood (limit : ℕ) (properties : List Property) (s : List Known) (c : Circle) : Type 0 where
  pub sound : AreSound limit properties s c (c.current ∷ c.others)
  pub finishes : (n : ℕ) → is_among c.ended n ≡ true → Finishes limit properties s c n
  pub each_leads : c.closed ≡ true → (n other : ℕ) → has c n ≡ true → has c other ≡ true
      → Leads limit properties s (has c) n other
  pub alone : c.closed ≡ false → (c.others ≡ []) × (c.ended ≡ [])

abbrev pub AreGood : ℕ → List Property → List Known → List Circle → Type 0
AreGood limit properties s [] = Unit {0}
AreGood limit properties s (c ∷ more) = IsGood limit properties s c × AreGood limit properties s more

-- a property of the circle waits for one of these
pub record Link
    (limit : ℕ) (properties : List Property) (s : List Known) (lower : Circle) (these : ℕ → Bool) : Type 0 where
  pub from : ℕ
  pub to : ℕ
  pub of_lower : has lower from ≡ true
  pub of_these : these to ≡ true
  pub link : Sees limit properties s (has lower) from to

abbrev pub LinksTo : ℕ → List Property → List Known → (ℕ → Bool) → List Circle → Type 0
LinksTo limit properties s these [] = Unit {0}
LinksTo limit properties s these (c ∷ more) = Link limit properties s c these

-- each waits for the one before it
abbrev pub AreLinked : ℕ → List Property → List Known → List Circle → Type 0
AreLinked limit properties s [] = Unit {0}
AreLinked limit properties s (c ∷ more) =
    LinksTo limit properties s (has c) more × AreLinked limit properties s more

-- its properties were begun between these places
abbrev pub IsPlaced : List Slot → ℕ → ℕ → Circle → Type 0
IsPlaced all from bound c = (n : ℕ) → has c n ≡ true
    → (is_open (slot_at all n) ≡ true) × (from ≤ place_of (slot_at all n)) × (place_of (slot_at all n) < bound)

abbrev pub ArePlaced : List Slot → ℕ → List Circle → Type 0
ArePlaced all bound [] = Unit {0}
ArePlaced all bound (c ∷ more) = IsPlaced all c.start bound c × ArePlaced all c.start more

-- A path of circles, from its end. So many properties were begun.
pub record IsPath
    (limit : ℕ) (properties : List Property) (all : List Slot) (begun : ℕ) (path : List Circle) : Type 0 where
  pub same_length : length all ≡ length properties
  pub room : begun + unread all ≤ length all
  pub owned : (n : ℕ) → is_open (slot_at all n) ≡ has_any path n
  pub placed : ArePlaced all begun path
  pub good : AreGood limit properties (stage_of all) path
  pub linked : AreLinked limit properties (stage_of all) path

-- the path with one more at its end, if there is one
abbrev pub with_last : Option Circle → List Circle → List Circle
with_last None path = path
with_last (Some c) path = c ∷ path

-- nothing is left of the path, if none is read
abbrev pub HasLast : List Circle → Option Circle → Type 0
HasLast path None = path ≡ []
HasLast path (Some c) = Unit {0}

-- more is known, by the rules, and what was read is not unread again
pub record Grows (limit : ℕ) (properties : List Property) (old new : List Slot) : Type 0 where
  pub reaches : (start : List Known) → Reaches limit properties start (stage_of old)
      → Reaches limit properties start (stage_of new)
  pub extends : Extends (stage_of old) (stage_of new)
  pub stays_read : (n : ℕ) → is_unread (slot_at old n) ≡ false → is_unread (slot_at new n) ≡ false

-- how much a path has yet to do
abbrev pub weight : Circle → ℕ
weight c = (if c.closed then 2 else 3) + length c.others

abbrev pub weights : List Circle → ℕ
weights [] = 0
weights (c ∷ more) = weight c + weights more

abbrev pub left_of : List Slot → List Circle → ℕ
left_of all path = 4 * unread all + weights path

-- the path goes on: more is known, and less is left to do
pub record GoesOn (limit : ℕ) (properties : List Property) (old : List Slot) (path : List Circle)
    (new : List Slot) (begun : ℕ) (after : List Circle) : Type 0 where
  pub is_path : IsPath limit properties new begun after
  pub grows : Grows limit properties old new
  pub less : left_of new after < left_of old path

-- only these slots change: they are computed, and have no value
abbrev pub Cleared : List Slot → List ℕ → List Slot → Type 0
Cleared all numbers after =
    (length after ≡ length all)
    × ((n : ℕ) → slot_at after n
    ≡ (if is_among numbers n then slots.Computed None else slot_at all n))

abbrev pub AreWithin : ℕ → List ℕ → Type 0
AreWithin count [] = Unit {0}
AreWithin count (n ∷ more) = (n < count) × AreWithin count more

-- the one is all of two, in one order or the other
abbrev pub AreBoth : {A : Type 0} → List A → List A → List A → Type 0
AreBoth one two all = (all ≡ one ++ two) ⊎ (all ≡ two ++ one)

-- the circle of the properties of two, of which the upper is read
pub record Absorbs (upper lower merged : Circle) : Type 0 where
  pub both : List Entry
  pub gone : List ℕ
  pub are_both : AreBoth upper.others lower.others both
  pub are_gone : AreBoth upper.ended lower.ended gone
  pub is : merged ≡ record {
    start = lower.start;
    closed = true;
    current = upper.current;
    others = both ++ lower.current ∷ [];
    ended = gone;
  }

-- The circles at the end of a path are being made one, up to the one with the property of this number
-- and place, which the current one waits for. Each of them leads to the current one, and each of the
-- last that was taken leads to each.
pub record IsMerging (limit : ℕ) (properties : List Property) (all : List Slot) (begun other most : ℕ)
    (top : Circle) (below : List Circle) : Type 0 where
  pub same_length : length all ≡ length properties
  pub room : begun + unread all ≤ length all
  pub owned : (n : ℕ) → is_open (slot_at all n) ≡ (has top n || has_any below n)
  pub placed : IsPlaced all top.start begun top
  pub below_placed : ArePlaced all top.start below
  pub below_good : AreGood limit properties (stage_of all) below
  pub below_linked : AreLinked limit properties (stage_of all) below
  pub sound : AreSound limit properties (stage_of all) top (top.current ∷ top.others)
  pub finishes : (n : ℕ) → is_among top.ended n ≡ true → Finishes limit properties (stage_of all) top n
  pub closed : top.closed ≡ true
  pub last : ℕ → Bool
  pub of_top : (n : ℕ) → last n ≡ true → has top n ≡ true
  pub links : LinksTo limit properties (stage_of all) last below
  pub spreads : (n m : ℕ) → last n ≡ true → has top m ≡ true
      → IsNear limit properties (stage_of all) (has top) n m
  pub gathers : (n : ℕ) → has top n ≡ true
      → IsNear limit properties (stage_of all) (has top) n top.current.number
  pub waits_for : Sees limit properties (stage_of all) (has top) top.current.number other
  pub is_open : is_open (slot_at all other) ≡ true
  pub is_last : has top other ≡ true → last other ≡ true
  pub within : weights (top ∷ below) ≤ most
  pub less : top.start ≤ place_of (slot_at all other) → weights (top ∷ below) < most

-- the property of this number, of which nothing is read
abbrev pub unread_entry : List Property → ℕ → Entry
unread_entry properties n = record {
  number = n;
  reading = record { so_far = is nothing; rest = (property_at properties n).text; outer = [] };
}

-- the same as a circle
abbrev pub unread_circle : List Property → ℕ → ℕ → Circle
unread_circle properties begun n = record {
  start = begun;
  closed = false;
  current = unread_entry properties n;
  others = [];
  ended = [];
}

-- the circle whose current property was read up to here
abbrev pub read_to : Circle → Reading → Circle
read_to c r = record {
  start = c.start;
  closed = c.closed;
  current = record { number = c.current.number; reading = r };
  others = c.others;
  ended = c.ended;
}

-- a closed circle of which the current property has ended, and this one is read
abbrev pub ended_to : Circle → Entry → List Entry → Circle
ended_to c next left = record {
  start = c.start;
  closed = c.closed;
  current = next;
  others = left;
  ended = c.ended ++ c.current.number ∷ [];
}

-- the place from which the circle hides
abbrev pub hidden_from : Circle → ℕ → ℕ
hidden_from c begun = if c.closed then c.start else begun

-- the current property of the last circle waits for this one
pub record Waits
    (limit : ℕ) (properties : List Property) (all : List Slot) (begun : ℕ) (last : Circle)
    (path : List Circle) (other : ℕ) : Type 0 where
  pub is_path : IsPath limit properties all begun (last ∷ path)
  pub waits_for : (t : List Known) → Given (stage_of all) last t → known_at t other ≡ not_yet
      → comes_to limit properties t last.current.number ≡ waits other

-- the current property of the last circle comes to what was put together
pub record EndsCurrent
    (limit : ℕ) (properties : List Property) (all : List Slot) (begun : ℕ) (last : Circle)
    (path : List Circle) : Type 0 where
  pub is_path : IsPath limit properties all begun (last ∷ path)
  pub comes : (t : List Known) → Given (stage_of all) last t
      → comes_to limit properties t last.current.number ≡ last.current.reading.so_far
  pub is_done : IsDone last.current.reading.so_far

-- the current property of a closed circle has ended, and one of the others is read
pub record EndsOne
    (all : List Slot) (last : Circle) (path : List Circle) (after : List Slot)
    (next : Option Circle) (left : List Circle) : Type 0 where
  pub entry : Entry
  pub others : List Entry
  pub parts : last.others ≡ others ++ entry ∷ []
  pub same : after ≡ all
  pub is_next : next ≡ Some (ended_to last entry others)
  pub is_left : left ≡ path

-- it was the last of them: all are invalid, and the circle before is read
pub record EndsAll
    (all : List Slot) (last : Circle) (path : List Circle) (after : List Slot)
    (next : Option Circle) (left : List Circle) : Type 0 where
  pub no_others : last.others ≡ []
  pub cleared : Cleared all (last.ended ++ last.current.number ∷ []) after
  pub parts : path ≡ with_last next left
  pub has_last : HasLast left next

abbrev pub Ends : List Slot → Circle → List Circle → List Slot → Option Circle → List Circle → Type 0
Ends all last path after next left =
    EndsOne all last path after next left ⊎ EndsAll all last path after next left

-- the first so many are computed, and none is being read
pub record Resolving (limit : ℕ) (properties : List Property) (all : List Slot) (n : ℕ) : Type 0 where
  pub same_length : length all ≡ length properties
  pub reached : Reaches limit properties (none_known properties) (stage_of all)
  pub none_open : (m : ℕ) → is_open (slot_at all m) ≡ false
  pub are_read : (m : ℕ) → m < n → m < length properties → is_unread (slot_at all m) ≡ false
