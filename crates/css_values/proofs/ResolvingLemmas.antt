-- All properties, one after another.
use Rattle.std.proofs.Common.{◌≡◌, ◌∙◌, ℕ, zero, suc, ◌<◌, ◌≤◌, ◌+◌, ◌==◌, Bool, true, false, List, [], ◌∷◌, Option, Some, None, length, map, set, min, arith, refl, sym, ap, subst, if◌then◌else◌}
use Rattle.std.proofs.lemmas.List.{length-map, get_or-set_same}
use Rattle.css_values.specs.Resolution.{Property, Known, not_yet, none_known, Reaches, begins, IsComputed, Resolved}
use Rattle.css_values.specs.declared.table.Slot.{Slot}
use Rattle.css_values.specs.declared.table.Slot.TheVariants as slots
use Rattle.css_values.specs.declared.table.Declared.{Declared}
use Rattle.css_values.specs.Views.{property_of, stage_of}
use Rattle.css_values.specs.internal.Paths.{is_open, is_unread, slot_at, unread, Circle, has_any, IsPath, Grows, GoesOn, HasLast, Resolving, with_last, unread_circle}
use Rattle.css_values.proofs.SlotLemmas.{eq_true, stage-at, unread-not_yet, extends-then, closed-computed}
use Rattle.css_values.proofs.CircleLemmas.{grows-same, path-opens}

pub grows-then : (limit : ℕ) (properties : List Property) (all some more : List Slot)
    → Grows limit properties all some → Grows limit properties some more
    → Grows limit properties all more
grows-then limit properties all some more g h = record {
  reaches = λ start r. h.reaches start (g.reaches start r);
  extends = extends-then (stage_of all) (stage_of some) (stage_of more) g.extends h.extends;
  stays_read = λ n e. h.stays_read n (g.stays_read n e);
}

-- ---- all that a property reads

pub record Follows (limit : ℕ) (properties : List Property) (first all : List Slot) (n begun : ℕ) (path : List Circle) (last : Option Circle) : Type 0 where
  pub is_path : IsPath limit properties all begun (with_last last path)
  pub grows : Grows limit properties first all
  pub is_read : is_unread (slot_at all n) ≡ false
  pub has_last : HasLast path last

unread-length : (all : List Slot) → unread all ≤ length all
unread-length [] = omega arith
unread-length (s ∷ all) = by (is_unread s) (unread-length all)
  where
    by : (t : Bool) → unread all ≤ length all
        → (if t then suc (unread all) else unread all) ≤ length (s ∷ all)
    by true h = omega arith
    by false h = omega arith

pub follows-begins : (limit : ℕ) (properties : List Property) (all : List Slot) (n : ℕ)
    → length all ≡ length properties → n < length properties → is_unread (slot_at all n) ≡ true
    → ((m : ℕ) → is_open (slot_at all m) ≡ false)
    → Follows limit properties all (set all n (slots.Open 0)) n 1 [] (Some (unread_circle properties 0 n))
follows-begins limit properties all n l w u o =
    let within : n < length all = omega arith in
    let room : 0 + unread all ≤ length all = omega (arith, unread-length all) in
    let path : IsPath limit properties all 0 [] = record {
      same_length = l;
      room = room;
      owned = o;
      placed = tt;
      good = tt;
      linked = tt;
    } in
    let opens : GoesOn limit properties all [] (set all n (slots.Open 0)) 1 (unread_circle properties 0 n ∷ []) =
    path-opens limit properties all 0 [] n path (stage-at all n ∙ unread-not_yet (slot_at all n) u) w (o n) tt in
    record {
      is_path = opens.is_path;
      grows = opens.grows;
      is_read = ap is_unread (get_or-set_same all n (slots.Open 0) slots.Unread within);
      has_last = tt;
    }

pub follows-goes_on : (limit : ℕ) (properties : List Property) (first all after : List Slot)
    (n begun then_begun : ℕ) (path left : List Circle) (last : Circle) (next : Option Circle)
    → Follows limit properties first all n begun path (Some last)
    → GoesOn limit properties all (last ∷ path) after then_begun (with_last next left)
    → HasLast left next → Follows limit properties first after n then_begun left next
follows-goes_on limit properties first all after n begun then_begun path left last next f g h = record {
  is_path = g.is_path;
  grows = grows-then limit properties first all after f.grows g.grows;
  is_read = g.grows.stays_read n f.is_read;
  has_last = h;
}

-- what is known when nothing is left of the path
pub follows-ends : (limit : ℕ) (properties : List Property) (first all : List Slot) (n begun : ℕ)
    (path : List Circle) → Follows limit properties first all n begun path None
    → (m : ℕ) → is_open (slot_at all m) ≡ false
follows-ends limit properties first all n begun path f m =
    f.is_path.owned m ∙ ap (λ (cs : List Circle). has_any cs m) f.has_last

-- ---- all properties

pub resolving-begins : (limit : ℕ) (properties : List Property) (all : List Slot)
    → all ≡ map (λ p. slots.Unread) properties → Resolving limit properties all 0
resolving-begins limit properties all e = record {
  same_length = ap length e ∙ length-map properties (λ p. slots.Unread);
  reached = subst (Reaches limit properties (none_known properties)) (sym stages) begins;
  none_open = λ n. ap (λ (ss : List Slot). is_open (slot_at ss n)) e ∙ closed properties n;
  are_read = λ m l w. absurd (omega arith);
}
  where
    unread-stage : (ps : List Property) → stage_of (map (λ p. slots.Unread) ps) ≡ none_known ps
    unread-stage [] = refl
    unread-stage (p ∷ ps) = ap (λ (s : List Known). not_yet ∷ s) (unread-stage ps)

    stages : stage_of all ≡ none_known properties
    stages = ap stage_of e ∙ unread-stage properties

    closed : (ps : List Property) (n : ℕ)
        → is_open (slot_at (map (λ p. slots.Unread) ps) n) ≡ false
    closed [] n = refl
    closed (p ∷ ps) zero = refl
    closed (p ∷ ps) (suc n) = closed ps n

pub resolving-more : (limit : ℕ) (properties : List Property) (all after : List Slot) (n : ℕ)
    → Resolving limit properties all n → Grows limit properties all after
    → ((m : ℕ) → is_open (slot_at after m) ≡ false) → is_unread (slot_at after n) ≡ false → length after ≡ length properties
    → Resolving limit properties after (n + 1)
resolving-more limit properties all after n r g o e l = record {
  same_length = l;
  reached = g.reaches (none_known properties) r.reached;
  none_open = o;
  are_read = λ m a w. by m w (m == n) refl a;
}
  where
    below : (m : ℕ) → m < n + 1 → (m == n) ≡ false → m < n
    below m a q = grind arith

    by : (m : ℕ) → m < length properties → (t : Bool) → (m == n) ≡ t → m < n + 1
        → is_unread (slot_at after m) ≡ false
    by m w true q a =
        let same : m ≡ n = eq_true m n q in
        ap (λ (k : ℕ). is_unread (slot_at after k)) same ∙ e
    by m w false q a =
        let less : m < n = below m a q in g.stays_read m (r.are_read m less w)

pub resolving-skips : (limit : ℕ) (properties : List Property) (all : List Slot) (n : ℕ)
    → Resolving limit properties all n → is_unread (slot_at all n) ≡ false
    → Resolving limit properties all (n + 1)
resolving-skips limit properties all n r e =
    resolving-more limit properties all all n r (grows-same limit properties all) r.none_open e
    r.same_length

pub resolving-ends : (limit : ℕ) (properties : List Property) (wanted n : ℕ) (all : List Slot)
    → min wanted (length properties) ≤ n → Resolving limit properties all n
    → Resolved limit properties wanted (stage_of all)
resolving-ends limit properties wanted n all past r = (
  r.reached,
  λ m a w.
      let l : m < n = omega arith in
      subst IsComputed (sym (stage-at all m))
      (closed-computed (slot_at all m) (r.none_open m) (r.are_read m l w)),
)

pub unread-of : (properties : List Declared)
    → map (λ p. slots.Unread) (map property_of properties) ≡ map (λ p. slots.Unread) properties
unread-of [] = refl
unread-of (p ∷ properties) = ap (λ (ss : List Slot). slots.Unread ∷ ss) (unread-of properties)
