-- Circles on a path: what they hide, how more becomes known, and how they are read on.
use Rattle.std.proofs.Common.{◌≡◌, ◌∙◌, ℕ, ◌<◌, ◌≤◌, ◌+◌, ◌*◌, ◌++◌, ◌==◌, ◌||◌, ◌&&◌, ◌⊎◌, inl, inr, Bool, true, false, List, [], ◌∷◌, Option, Some, None, length, map, option_map, get_or, set, arith, refl, sym, ap, subst, if◌then◌else◌}
use Rattle.std.specs.Option.{option_to_list}
use Rattle.std.proofs.lemmas.List.{append-nil, map-append, length-append, map-set, length-map, length-set, set-get_or, get_or-set_same}
use Rattle.css_values.specs.Substitution.{Value}
use Rattle.css_values.specs.Resolution.{Property, Known, not_yet, computed, known_at, named, comes_to, no_property, is_among, supposing, Becomes, Reads, LeadsTo, reads, then_reads, IsCircle, Reaches, computes, circles, kept, IsDone}
use Rattle.css_values.specs.declared.table.Slot.{Slot}
use Rattle.css_values.specs.declared.circles.Circle.{Circle as StoredCircle}
use Rattle.css_values.specs.declared.table.Slot.TheVariants as slots
use Rattle.css_values.specs.declared.drafts.Value.{Value as StoredValue}
use Rattle.css_values.specs.Views.{slot_of, stage_of, stage_from, value_of}
use Rattle.css_values.specs.internal.Readings.{Reading, Extends, Same, IsUnknown, ReadsTo}
use Rattle.css_values.specs.internal.Paths.{is_open, is_unread, place_of, slot_at, unread, Entry, numbers_of, Circle, circle_of, piled, has, has_any, hides, Given, AreSound, Finishes, Sees, Leads, sees, then_sees, IsNear, IsGood, AreGood, LinksTo, AreLinked, IsPlaced, ArePlaced, IsPath, Grows, GoesOn, Cleared, AreBoth, with_last, weights, unread_circle, read_to, ended_to, hidden_from, Waits, EndsCurrent}
use Rattle.css_values.proofs.SubstitutionLemmas.{substituted-begins}
use Rattle.css_values.proofs.SlotLemmas.{eq_same, eq_true, right-true, stage-at, set-at, open-not_yet, not_yet-unread, unread-less, unread-within, extends-same, extends-then, extends-becomes, OnlyThese, only-set, only-becomes, seen-at, unread-seen, seen-known, supposing-invalid, supposing-other, extends-supposing, open-within}

pub not-both : {b : Bool} → b ≡ true → b ≡ false → ⊥
not-both p q = cc

-- ---- what leads to what, as more is known, and among more

pub sees-more : (limit : ℕ) (properties : List Property) (s t : List Known) (these those : ℕ → Bool)
    (n other : ℕ) → Extends s t → ((m : ℕ) → these m ≡ true → those m ≡ true)
    → Sees limit properties s these n other → Sees limit properties t those n other
sees-more limit properties s t these those n other x w h = record {
  before = h.before;
  of_these = λ m e. w m (h.of_these m e);
  apart = h.apart;
  waits_for = λ u y k q. h.waits_for u (extends-then s t u x y) k q;
}

pub leads-more : (limit : ℕ) (properties : List Property) (s t : List Known) (these those : ℕ → Bool)
    (n other : ℕ) → Extends s t → ((m : ℕ) → these m ≡ true → those m ≡ true)
    → Leads limit properties s these n other → Leads limit properties t those n other
leads-more limit properties s t these those n other x w (sees o h q) =
    sees o (sees-more limit properties s t these those n o x w h) (w o q)
leads-more limit properties s t these those n other x w (then_sees b o l h q) =
    then_sees b o (leads-more limit properties s t these those n b x w l)
    (sees-more limit properties s t these those b o x w h) (w o q)

pub leads-then : (limit : ℕ) (properties : List Property) (s : List Known) (these : ℕ → Bool)
    (a b c : ℕ) → Leads limit properties s these a b → Leads limit properties s these b c
    → Leads limit properties s these a c
leads-then limit properties s these a b c l (sees o h q) = then_sees b o l h q
leads-then limit properties s these a b c l (then_sees d o m h q) =
    then_sees d o (leads-then limit properties s these a b d l m) h q

pub near-then : (limit : ℕ) (properties : List Property) (s : List Known) (these : ℕ → Bool)
    (a b c : ℕ) → IsNear limit properties s these a b → Leads limit properties s these b c
    → Leads limit properties s these a c
near-then limit properties s these a b c (inl e) l =
    subst (λ (k : ℕ). Leads limit properties s these k c) (sym e) l
near-then limit properties s these a b c (inr h) l = leads-then limit properties s these a b c h l

pub then-near : (limit : ℕ) (properties : List Property) (s : List Known) (these : ℕ → Bool)
    (a b c : ℕ) → Leads limit properties s these a b → IsNear limit properties s these b c
    → Leads limit properties s these a c
then-near limit properties s these a b c l (inl e) =
    subst (λ (k : ℕ). Leads limit properties s these a k) e l
then-near limit properties s these a b c l (inr h) = leads-then limit properties s these a b c l h

pub near-more : (limit : ℕ) (properties : List Property) (s : List Known) (these those : ℕ → Bool)
    (a b : ℕ) → ((m : ℕ) → these m ≡ true → those m ≡ true)
    → IsNear limit properties s these a b → IsNear limit properties s those a b
near-more limit properties s these those a b w (inl e) = inl e
near-more limit properties s these those a b w (inr h) =
    inr (leads-more limit properties s s these those a b (extends-same s) w h)

-- ---- a circle, as more is known

pub given-more : (s t u : List Known) (c : Circle) → Extends s t → Given t c u → Given s c u
given-more s t u c x g = record { extends = extends-then s t u x g.extends; hidden = g.hidden }

sound-more : (limit : ℕ) (properties : List Property) (s t : List Known) (c : Circle)
    (entries : List Entry) → Extends s t → AreSound limit properties s c entries
    → AreSound limit properties t c entries
sound-more limit properties s t c [] x h = tt
sound-more limit properties s t c (e ∷ more) x h =
    ((h.0.0, λ u g. h.0.1 u (given-more s t u c x g)), sound-more limit properties s t c more x h.1)

-- a circle that hides more is sound for more
pub sound-wider : (limit : ℕ) (properties : List Property) (s : List Known) (c d : Circle)
    (entries : List Entry) → ((n : ℕ) → hides c n ≡ true → hides d n ≡ true)
    → AreSound limit properties s c entries → AreSound limit properties s d entries
sound-wider limit properties s c d [] w h = tt
sound-wider limit properties s c d (e ∷ more) w h = (
  (h.0.0, λ u g. h.0.1 u (record { extends = g.extends; hidden = λ n q. g.hidden n (w n q) })),
  sound-wider limit properties s c d more w h.1,
)

pub finishes-wider : (limit : ℕ) (properties : List Property) (s : List Known) (c d : Circle)
    (n : ℕ) → ((m : ℕ) → hides c m ≡ true → hides d m ≡ true)
    → Finishes limit properties s c n → Finishes limit properties s d n
finishes-wider limit properties s c d n w h =
    λ u g. h u (record { extends = g.extends; hidden = λ m q. g.hidden m (w m q) })

pub sound-append : (limit : ℕ) (properties : List Property) (s : List Known) (c : Circle)
    (one two : List Entry) → AreSound limit properties s c one → AreSound limit properties s c two
    → AreSound limit properties s c (one ++ two)
sound-append limit properties s c [] two h g = g
sound-append limit properties s c (e ∷ one) two h g =
    (h.0, sound-append limit properties s c one two h.1 g)

pub sound-left : (limit : ℕ) (properties : List Property) (s : List Known) (c : Circle)
    (one two : List Entry) → AreSound limit properties s c (one ++ two)
    → AreSound limit properties s c one
sound-left limit properties s c [] two h = tt
sound-left limit properties s c (e ∷ one) two h = (h.0, sound-left limit properties s c one two h.1)

pub sound-right : (limit : ℕ) (properties : List Property) (s : List Known) (c : Circle)
    (one two : List Entry) → AreSound limit properties s c (one ++ two)
    → AreSound limit properties s c two
sound-right limit properties s c [] two h = h
sound-right limit properties s c (e ∷ one) two h = sound-right limit properties s c one two h.1

good-more : (limit : ℕ) (properties : List Property) (s t : List Known) (c : Circle) → Extends s t
    → IsGood limit properties s c → IsGood limit properties t c
good-more limit properties s t c x g = record {
  sound = sound-more limit properties s t c (c.current ∷ c.others) x g.sound;
  finishes = λ n e u h. g.finishes n e u (given-more s t u c x h);
  each_leads = λ e n other p q.
      leads-more limit properties s t (has c) (has c) n other x (λ m h. h) (g.each_leads e n other p q);
  alone = g.alone;
}

all-good-more : (limit : ℕ) (properties : List Property) (s t : List Known) (path : List Circle)
    → Extends s t → AreGood limit properties s path → AreGood limit properties t path
all-good-more limit properties s t [] x h = tt
all-good-more limit properties s t (c ∷ path) x h =
    (good-more limit properties s t c x h.0, all-good-more limit properties s t path x h.1)

links-more : (limit : ℕ) (properties : List Property) (s t : List Known) (these : ℕ → Bool)
    (path : List Circle) → Extends s t → LinksTo limit properties s these path
    → LinksTo limit properties t these path
links-more limit properties s t these [] x h = tt
links-more limit properties s t these (c ∷ path) x h = record {
  from = h.from;
  to = h.to;
  of_lower = h.of_lower;
  of_these = h.of_these;
  link = sees-more limit properties s t (has c) (has c) h.from h.to x (λ m e. e) h.link;
}

linked-more : (limit : ℕ) (properties : List Property) (s t : List Known) (path : List Circle)
    → Extends s t → AreLinked limit properties s path → AreLinked limit properties t path
linked-more limit properties s t [] x h = tt
linked-more limit properties s t (c ∷ path) x h =
    (links-more limit properties s t (has c) path x h.0, linked-more limit properties s t path x h.1)

-- ---- who has what

pub has-current : (c : Circle) → has c c.current.number ≡ true
has-current c =
    ap (λ (b : Bool). b || (is_among (numbers_of c.others) c.current.number || is_among c.ended c.current.number))
    (eq_same c.current.number)

pub only-current : (c : Circle) (n : ℕ) → c.others ≡ [] → c.ended ≡ [] → has c n ≡ true
    → n ≡ c.current.number
only-current c n p q h =
    eq_true n c.current.number (by (n == c.current.number) c.others c.ended p q h)
  where
    by : (b : Bool) (os : List Entry) (es : List ℕ) → os ≡ [] → es ≡ []
        → (b || (is_among (numbers_of os) n || is_among es n)) ≡ true → b ≡ true
    by true os es p q h = refl
    by false [] [] p q h = h
    by false [] (e ∷ es) p q h = absurd (cc)
    by false (o ∷ os) es p q h = absurd (cc)

-- a circle's properties are near one another
pub good-near : (limit : ℕ) (properties : List Property) (s : List Known) (c : Circle)
    → IsGood limit properties s c → (n m : ℕ) → has c n ≡ true → has c m ≡ true
    → IsNear limit properties s (has c) n m
good-near limit properties s c g n m p q = by c.closed refl
  where
    by : (b : Bool) → c.closed ≡ b → IsNear limit properties s (has c) n m
    by true e = inr (g.each_leads e n m p q)
    by false e =
        let none = g.alone e in
        inl (only-current c n none.0 none.1 p ∙ sym (only-current c m none.0 none.1 q))

-- the properties of a path were begun before the bound
pub placed-below : (all : List Slot) (bound : ℕ) (path : List Circle) (n : ℕ)
    → ArePlaced all bound path → has_any path n ≡ true → place_of (slot_at all n) < bound
placed-below all bound [] n h e = absurd (cc)
placed-below all bound (c ∷ path) n h e = by (placed-below all c.start path n h.1) (has c n) refl e
  where
    by : (has_any path n ≡ true → place_of (slot_at all n) < c.start) → (b : Bool) → has c n ≡ b
        → (b || has_any path n) ≡ true → place_of (slot_at all n) < bound
    by below true q g = (h.0 n q).2
    by below false q g =
        let l : place_of (slot_at all n) < c.start = below g in
        let f = h.0 c.current.number (has-current c) in
        let a : c.start ≤ place_of (slot_at all c.current.number) = f.1 in
        let b : place_of (slot_at all c.current.number) < bound = f.2 in
        omega arith

-- what the last circle has, no other has
pub has-apart : (all : List Slot) (from bound : ℕ) (c : Circle) (path : List Circle) (n : ℕ)
    → IsPlaced all from bound c → ArePlaced all from path → has c n ≡ true → has_any path n ≡ false
has-apart all from bound c path n p q h = by (has_any path n) refl
  where
    by : (b : Bool) → has_any path n ≡ b → b ≡ false
    by true e =
        let low : place_of (slot_at all n) < from = placed-below all from path n q e in
        let high : from ≤ place_of (slot_at all n) = (p n h).1 in
        absurd (omega arith)
    by false e = refl

pub placed-wider : (all : List Slot) (bound more : ℕ) (path : List Circle) → bound ≤ more
    → ArePlaced all bound path → ArePlaced all more path
placed-wider all bound more [] l h = tt
placed-wider all bound more (c ∷ path) l h =
    ((λ n e. let f = h.0 n e in (f.0, f.1, wide n f.2)), h.1)
  where
    wide : (n : ℕ) → place_of (slot_at all n) < bound → place_of (slot_at all n) < more
    wide n k = omega arith

-- where the slots of the path stay, its places do
pub placed-same : (all after : List Slot) (bound : ℕ) (path : List Circle)
    → ((n : ℕ) → has_any path n ≡ true → slot_at after n ≡ slot_at all n)
    → ArePlaced all bound path → ArePlaced after bound path
placed-same all after bound [] e h = tt
placed-same all after bound (c ∷ path) e h = (
  λ n q.
      let same : slot_at after n ≡ slot_at all n =
      e n (ap (λ (b : Bool). b || has_any path n) q) in
      subst (λ (s : Slot). (is_open s ≡ true) × (c.start ≤ place_of s) × (place_of s < bound)) (sym same) (h.0 n q),
  placed-same all after c.start path (λ n q. e n (right-true (has c n) (has_any path n) q)) h.1,
)

-- a property on the path is not known
pub path-unknown : (limit : ℕ) (properties : List Property) (all : List Slot) (begun : ℕ)
    (path : List Circle) (n : ℕ) → IsPath limit properties all begun path → has_any path n ≡ true
    → known_at (stage_of all) n ≡ not_yet
path-unknown limit properties all begun path n p e =
    stage-at all n ∙ open-not_yet (slot_at all n) (p.owned n ∙ e)

pub first-any : (c : Circle) (path : List Circle) (n : ℕ) → has c n ≡ true → has_any (c ∷ path) n ≡ true
first-any c path n h = ap (λ (b : Bool). b || has_any path n) h

-- ---- the last circle is taken away, once its properties are computed

pub cut : (limit : ℕ) (properties : List Property) (all after : List Slot) (begun : ℕ) (c : Circle)
    (path : List Circle) (numbers : List ℕ) (v : Option StoredValue)
    → IsPath limit properties all begun (c ∷ path)
    → ((n : ℕ) → is_among numbers n ≡ has c n)
    → OnlyThese all numbers (slots.Computed v) after
    → ((start : List Known) → Reaches limit properties start (stage_of all)
    → Reaches limit properties start (stage_of after))
    → GoesOn limit properties all (c ∷ path) after begun path
cut limit properties all after begun c path numbers v p same only reaches =
    let s = stage_of all in
    let unknown : (n : ℕ) → is_among numbers n ≡ true → known_at s n ≡ not_yet = λ n e.
    path-unknown limit properties all begun (c ∷ path) n p (first-any c path n (sym (same n) ∙ e)) in
    let x : Extends s (stage_of after) =
    extends-becomes s (stage_of after) numbers (option_map value_of v)
    (only-becomes all after numbers v only) unknown in
    let stays : (n : ℕ) → is_unread (slot_at all n) ≡ false → is_unread (slot_at after n) ≡ false = λ n e.
    ap is_unread (only.1 n) ∙ read n (is_among numbers n) e in
    let fewer : unread after ≤ unread all = unread-within all after only.0 stays in
    let first = p.placed.0 c.current.number (has-current c) in
    let early : c.start ≤ begun = before c.start (place_of (slot_at all c.current.number)) begun first.1 first.2 in
    record {
      is_path = record {
        same_length = only.0 ∙ p.same_length;
        room = room (unread after) (unread all) (length after) (length all) fewer only.0 p.room;
        owned = λ n. ap is_open (only.1 n) ∙ owned n (is_among numbers n) refl (p.owned n);
        placed = placed-same all after begun path (λ n e. only.1 n ∙ slot n (is_among numbers n) refl e)
            (placed-wider all c.start begun path early p.placed.1);
        good = all-good-more limit properties s (stage_of after) path x p.good.1;
        linked = linked-more limit properties s (stage_of after) path x p.linked.1;
      };
      grows = record { reaches = reaches; extends = x; stays_read = stays };
      less = less (unread after) (unread all) fewer c.closed;
    }
  where
    before : (a b d : ℕ) → a ≤ b → b < d → a ≤ d
    before a b d h g = omega arith

    room : (a b l m : ℕ) → a ≤ b → l ≡ m → begun + b ≤ m → begun + a ≤ l
    room a b l m h e g = omega arith

    less : (a b : ℕ) → a ≤ b → (t : Bool)
        → 4 * a + weights path < 4 * b + (((if t then 2 else 3) + length c.others) + weights path)
    less a b h true = omega arith
    less a b h false = omega arith

    read : (n : ℕ) (t : Bool) → is_unread (slot_at all n) ≡ false
        → is_unread (if t then slots.Computed v else slot_at all n) ≡ false
    read n true e = refl
    read n false e = e

    owned : (n : ℕ) (t : Bool) → is_among numbers n ≡ t
        → is_open (slot_at all n) ≡ (has c n || has_any path n)
        → is_open (if t then slots.Computed v else slot_at all n) ≡ has_any path n
    owned n true e h =
        sym (has-apart all c.start begun c path n p.placed.0 p.placed.1 (sym (same n) ∙ e))
    owned n false e h = h ∙ ap (λ (b : Bool). b || has_any path n) (sym (same n) ∙ e)

    slot : (n : ℕ) (t : Bool) → is_among numbers n ≡ t → has_any path n ≡ true
        → (if t then slots.Computed v else slot_at all n) ≡ slot_at all n
    slot n true e h = absurd (not-both h
        (has-apart all c.start begun c path n p.placed.0 p.placed.1 (sym (same n) ∙ e)))
    slot n false e h = refl

-- ---- what the last circle sees

pub seen-given : (limit : ℕ) (properties : List Property) (all : List Slot) (begun : ℕ) (c : Circle)
    (path : List Circle) → IsPath limit properties all begun (c ∷ path) → (t : List Known)
    → Given (stage_of all) c t → Extends (stage_from (hidden_from c begun) all) t
seen-given limit properties all begun c path p t g = λ n v e.
    seen-known (hidden_from c begun) (slot_at all n) v
    (sym (seen-at (hidden_from c begun) all n) ∙ e) (known_at t n)
    (λ h. g.extends n v (stage-at all n ∙ h))
    (λ o l. by n o c.closed refl l (has c n) refl (sym (p.owned n) ∙ o))
  where
    by : (n : ℕ) → is_open (slot_at all n) ≡ true → (b : Bool) → c.closed ≡ b
        → (if b then c.start else begun) ≤ place_of (slot_at all n)
        → (h : Bool) → has c n ≡ h → (h || has_any path n) ≡ true → known_at t n ≡ computed None
    by n o true e l true q r =
        g.hidden n (ap (λ (x : Bool). x && has c n) e ∙ q)
    by n o true e l false q r =
        let low : place_of (slot_at all n) < c.start = placed-below all c.start path n p.placed.1 r in
        absurd (omega arith)
    by n o false e l h q r =
        let low : place_of (slot_at all n) < begun =
        placed-below all begun (c ∷ path) n p.placed (sym (p.owned n) ∙ o) in
        absurd (omega arith)

-- ---- reading on in the last circle

pub path-reads : (limit : ℕ) (properties : List Property) (all : List Slot) (begun : ℕ) (c : Circle)
    (path : List Circle) (new : Reading) → IsPath limit properties all begun (c ∷ path)
    → Same limit properties (stage_from (hidden_from c begun) all) c.current.reading new
    → IsPath limit properties all begun (read_to c new ∷ path)
path-reads limit properties all begun c path new p h = record {
  same_length = p.same_length;
  room = p.room;
  owned = p.owned;
  placed = p.placed;
  good = (
    record {
      sound = (
        (p.good.0.sound.0.0, λ t g. h t (seen t g) ∙ p.good.0.sound.0.1 t (back t g)),
        sound-wider limit properties (stage_of all) c (read_to c new) c.others (λ n e. e) p.good.0.sound.1,
      );
      finishes = λ n e t g. p.good.0.finishes n e t (back t g);
      each_leads = p.good.0.each_leads;
      alone = p.good.0.alone;
    },
    p.good.1,
  );
  linked = p.linked;
}
  where
    back : (t : List Known) → Given (stage_of all) (read_to c new) t → Given (stage_of all) c t
    back t g = record { extends = g.extends; hidden = g.hidden }

    seen : (t : List Known) → Given (stage_of all) (read_to c new) t
        → Extends (stage_from (hidden_from c begun) all) t
    seen t g = seen-given limit properties all begun c path p t (back t g)

pub path-waits : (limit : ℕ) (properties : List Property) (all : List Slot) (begun : ℕ) (c : Circle)
    (path : List Circle) (new : Reading) (other : ℕ) → IsPath limit properties all begun (c ∷ path)
    → ReadsTo limit properties (stage_from (hidden_from c begun) all) c.current.reading (Some other) new
    → Waits limit properties all begun (read_to c new) path other
path-waits limit properties all begun c path new other p r =
    let read : IsPath limit properties all begun (read_to c new ∷ path) =
    path-reads limit properties all begun c path new p r.0 in
    record {
      is_path = read;
      waits_for = λ t g u.
          sym (read.good.0.sound.0.1 t g)
          ∙ r.2 t (seen-given limit properties all begun (read_to c new) path read t g) u;
    }

pub path-comes : (limit : ℕ) (properties : List Property) (all : List Slot) (begun : ℕ) (c : Circle)
    (path : List Circle) (new : Reading) → IsPath limit properties all begun (c ∷ path)
    → ReadsTo limit properties (stage_from (hidden_from c begun) all) c.current.reading None new
    → IsDone new.so_far → EndsCurrent limit properties all begun (read_to c new) path
path-comes limit properties all begun c path new p r d =
    let read : IsPath limit properties all begun (read_to c new ∷ path) =
    path-reads limit properties all begun c path new p r.0 in
    record {
      is_path = read;
      comes = λ t g.
          sym (read.good.0.sound.0.1 t g)
          ∙ r.1 t (seen-given limit properties all begun (read_to c new) path read t g);
      is_done = d;
    }

-- ---- the properties of a circle as a list

pub among-append : (xs ys : List ℕ) (n : ℕ)
    → is_among (xs ++ ys) n ≡ (is_among xs n || is_among ys n)
among-append [] ys n = refl
among-append (x ∷ xs) ys n = by (n == x) (among-append xs ys n)
  where
    by : (t : Bool) → is_among (xs ++ ys) n ≡ (is_among xs n || is_among ys n)
        → (t || is_among (xs ++ ys) n) ≡ ((t || is_among xs n) || is_among ys n)
    by true h = refl
    by false h = h

pub numbers-append : (xs ys : List Entry) (n : ℕ)
    → is_among (numbers_of (xs ++ ys)) n ≡ (is_among (numbers_of xs) n || is_among (numbers_of ys) n)
numbers-append xs ys n =
    ap (λ (ns : List ℕ). is_among ns n) (map-append (λ (e : Entry). e.number) xs ys)
    ∙ among-append (numbers_of xs) (numbers_of ys) n

members : Circle → List ℕ
members c = c.current.number ∷ (numbers_of c.others ++ c.ended)

members-has : (c : Circle) (n : ℕ) → is_among (members c) n ≡ has c n
unfolding members
members-has c n =
    ap (λ (b : Bool). n == c.current.number || b) (among-append (numbers_of c.others) c.ended n)

hidden : Circle → List ℕ
hidden c = if c.closed then members c else []

hidden-hides : (c : Circle) (n : ℕ) → is_among (hidden c) n ≡ hides c n
unfolding hidden
hidden-hides c n = by c.closed
  where
    by : (b : Bool) → is_among (if b then members c else []) n ≡ (b && has c n)
    by true = members-has c n
    by false = refl

hides-has : (b h : Bool) → (b && h) ≡ true → h ≡ true
hides-has true h e = e
hides-has false h e = absurd (cc)

pub current-sees : (limit : ℕ) (properties : List Property) (all : List Slot) (begun : ℕ)
    (c : Circle) (path : List Circle) (other : ℕ) → Waits limit properties all begun c path other
    → hides c other ≡ false → Sees limit properties (stage_of all) (has c) c.current.number other
current-sees limit properties all begun c path other w h = record {
  before = hidden c;
  of_these = λ m e. hides-has c.closed (has c m) (sym (hidden-hides c m) ∙ e);
  apart = hidden-hides c other ∙ h;
  waits_for = λ t x k u. w.waits_for t
      (record { extends = x; hidden = λ n e. k n (hidden-hides c n ∙ e) }) u;
}

-- ---- a property is read of which nothing was

pub path-opens : (limit : ℕ) (properties : List Property) (all : List Slot) (begun : ℕ)
    (path : List Circle) (n : ℕ) → IsPath limit properties all begun path
    → known_at (stage_of all) n ≡ not_yet → n < length properties
    → is_open (slot_at all n) ≡ false
    → LinksTo limit properties (stage_of all) (has (unread_circle properties begun n)) path
    → GoesOn limit properties all path (set all n (slots.Open begun)) (begun + 1)
    (unread_circle properties begun n ∷ path)
path-opens limit properties all begun path n p unknown small closed links =
    let within : n < length all = within_all (length all) (length properties) p.same_length small in
    let same : stage_of (set all n (slots.Open begun)) ≡ stage_of all =
    map-set slot_of all n (slots.Open begun)
    ∙ ap (set (map slot_of all) n) (sym unknown) ∙ set-get_or (map slot_of all) n not_yet in
    let unread : is_unread (slot_at all n) ≡ true =
    not_yet-unread (slot_at all n) (sym (stage-at all n) ∙ unknown) closed in
    let fewer = unread-less all n (slots.Open begun) within unread refl in
    let count = length-set all n (slots.Open begun) in
    record {
      is_path = record {
        same_length = count ∙ p.same_length;
        room = room _ _ _ _ fewer count p.room;
        owned = λ m. ap is_open (set-at all n m (slots.Open begun) within)
            ∙ owned m (m == n) (p.owned m);
        placed = (
          λ m e. place within m (only-current (unread_circle properties begun n) m refl refl e),
          placed-same all (set all n (slots.Open begun)) begun path
              (λ m e. set-at all n m (slots.Open begun) within ∙ other m (m == n) refl e) p.placed,
        );
        good = subst (λ (s : List Known). AreGood limit properties s (unread_circle properties begun n ∷ path))
            (sym same) (fresh, p.good);
        linked = subst (λ (s : List Known). AreLinked limit properties s (unread_circle properties begun n ∷ path))
            (sym same) (links, p.linked);
      };
      grows = record {
        reaches = λ start r. subst (Reaches limit properties start) (sym same) r;
        extends = subst (Extends (stage_of all)) (sym same) (extends-same (stage_of all));
        stays_read = λ m e. ap is_unread (set-at all n m (slots.Open begun) within) ∙ stays m (m == n) e;
      };
      less = less _ _ (weights path) fewer;
    }
  where
    within_all : (a b : ℕ) → a ≡ b → n < b → n < a
    within_all a b e h = omega arith

    room : (a b l m : ℕ) → a < b → l ≡ m → begun + b ≤ m → begun + 1 + a ≤ l
    room a b l m h e g = omega arith

    less : (a b w : ℕ) → a < b → 4 * a + ((3 + length {A = Entry} []) + w) < 4 * b + w
    less a b w h = omega arith

    owned : (m : ℕ) (t : Bool) → is_open (slot_at all m) ≡ has_any path m
        → is_open (if t then slots.Open begun else slot_at all m)
        ≡ ((t || (false || false)) || has_any path m)
    owned m true e = refl
    owned m false e = e

    place : n < length all → (m : ℕ) → m ≡ n
        → (is_open (slot_at (set all n (slots.Open begun)) m) ≡ true)
        × (begun ≤ place_of (slot_at (set all n (slots.Open begun)) m))
        × (place_of (slot_at (set all n (slots.Open begun)) m) < begun + 1)
    place w m e =
        let here : slot_at (set all n (slots.Open begun)) m ≡ slots.Open begun =
        ap (slot_at (set all n (slots.Open begun))) e ∙ get_or-set_same all n (slots.Open begun) slots.Unread w in
        subst (λ (s : Slot). (is_open s ≡ true) × (begun ≤ place_of s) × (place_of s < begun + 1)) (sym here)
        (refl, low, high)
      where
        low : begun ≤ begun
        low = omega arith

        high : begun < begun + 1
        high = omega arith

    other : (m : ℕ) (t : Bool) → (m == n) ≡ t → has_any path m ≡ true
        → (if t then slots.Open begun else slot_at all m) ≡ slot_at all m
    other m true q e = absurd (not-both (p.owned m ∙ e)
        (ap (λ (k : ℕ). is_open (slot_at all k)) (eq_true m n q) ∙ closed))
    other m false q e = refl

    fresh : IsGood limit properties (stage_of all) (unread_circle properties begun n)
    fresh = record {
      sound = ((small, λ t g. substituted-begins 66 limit (named properties t) (get_or properties n no_property).text (omega arith)), tt);
      finishes = λ m e. absurd (not-both e refl);
      each_leads = λ e. absurd (not-both e refl);
      alone = λ e. (refl, refl);
    }

    stays : (m : ℕ) (t : Bool) → is_unread (slot_at all m) ≡ false
        → is_unread (if t then slots.Open begun else slot_at all m) ≡ false
    stays m true e = refl
    stays m false e = e

pub waits-opens : (limit : ℕ) (properties : List Property) (all : List Slot) (begun : ℕ) (c : Circle)
    (path : List Circle) (n : ℕ) → Waits limit properties all begun c path n
    → IsUnknown properties (stage_from (hidden_from c begun) all) n
    → is_open (slot_at all n) ≡ false
    → GoesOn limit properties all (c ∷ path) (set all n (slots.Open begun)) (begun + 1)
    (unread_circle properties begun n ∷ (c ∷ path))
waits-opens limit properties all begun c path n w u closed =
    path-opens limit properties all begun (c ∷ path) n w.is_path
    (stage-at all n ∙ unread-seen (hidden_from c begun) (slot_at all n) (sym (seen-at (hidden_from c begun) all n) ∙ u.0))
    u.1 closed (record {
      from = c.current.number;
      to = n;
      of_lower = has-current c;
      of_these = has-current (unread_circle properties begun n);
      link = current-sees limit properties all begun c path n w (hides-not c.closed (has c n) refl);
    })
  where
    hides-not : (b h : Bool) → has c n ≡ h → (b && h) ≡ false
    hides-not b true e = absurd (not-both (w.is_path.owned n ∙ first-any c path n e) closed)
    hides-not true false e = refl
    hides-not false false e = refl

-- ---- the value of the current property has ended

pub path-ends : (limit : ℕ) (properties : List Property) (all : List Slot) (begun : ℕ) (c : Circle)
    (path : List Circle) (v : Option StoredValue) → EndsCurrent limit properties all begun c path
    → c.closed ≡ false
    → kept (get_or properties c.current.number no_property) c.current.reading.so_far ≡ option_map value_of v
    → GoesOn limit properties all (c ∷ path) (set all c.current.number (slots.Computed v)) begun path
path-ends limit properties all begun c path v e closed value =
    let s = stage_of all in
    let n = c.current.number in
    let p = e.is_path in
    let after = set all n (slots.Computed v) in
    let within : n < length all = open-within all n (p.placed.0 n (has-current c)).0 in
    let only = only-set all n (slots.Computed v) within in
    let given : Given s c s = record {
      extends = extends-same s;
      hidden = λ m h. absurd (not-both h (ap (λ (b : Bool). b && has c m) closed));
    } in
    let comes = e.comes s given in
    let becomes : Becomes s (n ∷ []) (kept (get_or properties n no_property) (comes_to limit properties s n)) (stage_of after) =
    subst (λ (w : Option Value). Becomes s (n ∷ []) w (stage_of after))
    (sym value ∙ ap (kept (get_or properties n no_property)) (sym comes))
    (only-becomes all after (n ∷ []) v only) in
    let none = p.good.0.alone closed in
    cut limit properties all after begun c path (n ∷ []) v p (λ m. same m c.others c.ended none.0 none.1) only
    (λ start r. computes s (stage_of after) n r
    (path-unknown limit properties all begun (c ∷ path) n p (first-any c path n (has-current c)))
    (subst IsDone (sym comes) e.is_done) becomes)
  where
    same : (m : ℕ) (os : List Entry) (es : List ℕ) → os ≡ [] → es ≡ []
        → (m == c.current.number || false)
        ≡ (m == c.current.number || (is_among (numbers_of os) m || is_among es m))
    same m [] [] p q = refl
    same m [] (x ∷ es) p q = absurd (cc)
    same m (o ∷ os) es p q = absurd (cc)

-- a circle with the same properties, of which another is read
moved : (a b x y : Bool) → (a || ((x || (b || false)) || y)) ≡ (b || (x || (y || (a || false))))
moved true true x y = refl
moved true false true y = refl
moved true false false true = refl
moved true false false false = refl
moved false true true y = refl
moved false true false y = refl
moved false false true y = refl
moved false false false true = refl
moved false false false false = refl

ended-has : (c : Circle) (next : Entry) (others : List Entry) (n : ℕ) → c.others ≡ others ++ next ∷ []
    → has c n ≡ has (ended_to c next others) n
ended-has c next others n e =
    ap (λ (b : Bool). n == c.current.number || (b || is_among c.ended n))
    (ap (λ (es : List Entry). is_among (numbers_of es) n) e ∙ numbers-append others (next ∷ []) n)
    ∙ moved (n == c.current.number) (n == next.number) (is_among (numbers_of others) n) (is_among c.ended n)
    ∙ ap (λ (b : Bool). n == next.number || (is_among (numbers_of others) n || b))
    (sym (among-append c.ended (c.current.number ∷ []) n))

pub links-same : (limit : ℕ) (properties : List Property) (s : List Known) (these those : ℕ → Bool)
    (path : List Circle) → ((n : ℕ) → these n ≡ true → those n ≡ true)
    → LinksTo limit properties s these path → LinksTo limit properties s those path
links-same limit properties s these those [] w h = tt
links-same limit properties s these those (c ∷ path) w h = record {
  from = h.from;
  to = h.to;
  of_lower = h.of_lower;
  of_these = w h.to h.of_these;
  link = h.link;
}

pub grows-same : (limit : ℕ) (properties : List Property) (all : List Slot)
    → Grows limit properties all all
grows-same limit properties all = record {
  reaches = λ start r. r;
  extends = extends-same (stage_of all);
  stays_read = λ n e. e;
}

pub either : (a b : Bool) → (a || b) ≡ true → (a ≡ true) ⊎ (b ≡ true)
either true b e = inl refl
either false b e = inr e

pub path-moves : (limit : ℕ) (properties : List Property) (all : List Slot) (begun : ℕ) (c : Circle)
    (path : List Circle) (next : Entry) (others : List Entry)
    → EndsCurrent limit properties all begun c path → c.closed ≡ true → c.others ≡ others ++ next ∷ []
    → GoesOn limit properties all (c ∷ path) all begun (ended_to c next others ∷ path)
path-moves limit properties all begun c path next others e closed parts =
    let s = stage_of all in
    let p = e.is_path in
    let sound : AreSound limit properties s c (others ++ next ∷ []) =
    subst (AreSound limit properties s c) parts p.good.0.sound.1 in
    record {
      is_path = record {
        same_length = p.same_length;
        room = p.room;
        owned = λ n. p.owned n ∙ ap (λ (b : Bool). b || has_any path n) (same n);
        placed = ((λ n h. p.placed.0 n (same n ∙ h)), p.placed.1);
        good = (
          record {
            sound = (
              (sound-wider limit properties s c d (next ∷ []) hides-more
                  (sound-right limit properties s c others (next ∷ []) sound)).0,
              sound-wider limit properties s c d others hides-more
                  (sound-left limit properties s c others (next ∷ []) sound),
            );
            finishes = λ n h.
                finish n (either (is_among c.ended n) (n == c.current.number || false)
                (sym (among-append c.ended (c.current.number ∷ []) n) ∙ h));
            each_leads = λ q n m a b.
                leads-more limit properties s s (has c) (has d) n m (extends-same s) (λ k h. sym (same k) ∙ h)
                (p.good.0.each_leads closed n m (same n ∙ a) (same m ∙ b));
            alone = λ q. absurd (not-both closed q);
          },
          p.good.1,
        );
        linked = (
          links-same limit properties s (has c) (has d) path (λ k h. sym (same k) ∙ h) p.linked.0,
          p.linked.1,
        );
      };
      grows = grows-same limit properties all;
      less = less (length c.others) (length others) (ap length parts ∙ length-append others (next ∷ [])) c.closed;
    }
  where
    d : Circle
    d = ended_to c next others

    same : (n : ℕ) → has c n ≡ has (ended_to c next others) n
    same n = ended-has c next others n parts

    hides-more : (n : ℕ) → hides c n ≡ true → hides (ended_to c next others) n ≡ true
    hides-more n h = ap (λ (b : Bool). c.closed && b) (sym (same n)) ∙ h

    back : (t : List Known) → Given (stage_of all) (ended_to c next others) t → Given (stage_of all) c t
    back t g = record {
      extends = g.extends;
      hidden = λ n h. g.hidden n (hides-more n h);
    }

    finish : (n : ℕ) → (is_among c.ended n ≡ true) ⊎ ((n == c.current.number || false) ≡ true)
        → Finishes limit properties (stage_of all) (ended_to c next others) n
    finish n (inl q) = λ t g. e.is_path.good.0.finishes n q t (back t g)
    finish n (inr q) = λ t g.
        let is : n ≡ c.current.number = eq_true n c.current.number (one (n == c.current.number) q) in
        subst (λ (k : ℕ). IsDone (comes_to limit properties t k)) (sym is)
        (subst IsDone (sym (e.comes t (back t g))) e.is_done)
      where
        one : (b : Bool) → (b || false) ≡ true → b ≡ true
        one true h = refl
        one false h = h

    less : (a b : ℕ) → a ≡ b + length (next ∷ []) → (t : Bool)
        → 4 * unread all + (((if t then 2 else 3) + b) + weights path)
        < 4 * unread all + (((if t then 2 else 3) + a) + weights path)
    less a b h true = omega arith
    less a b h false = omega arith

-- ---- all values of a closed circle have ended

circle-sees : (limit : ℕ) (properties : List Property) (all : List Slot) (begun : ℕ) (c : Circle)
    (path : List Circle) (numbers : List ℕ) (n m : ℕ) → IsPath limit properties all begun (c ∷ path)
    → ((k : ℕ) → is_among numbers k ≡ has c k) → has c m ≡ true
    → Sees limit properties (stage_of all) (has c) n m
    → Reads limit properties (stage_of all) numbers n m
circle-sees limit properties all begun c path numbers n m p same h w =
    let s = stage_of all in
    let unknown : (k : ℕ) → is_among w.before k ≡ true → known_at s k ≡ not_yet = λ k q.
    path-unknown limit properties all begun (c ∷ path) k p (first-any c path k (w.of_these k q)) in
    let within : (k : ℕ) → is_among w.before k ≡ true → k < length s = λ k q. within_stage k (w.of_these k q) in
    record {
      before = w.before;
      of_circle = λ k q. same k ∙ w.of_these k q;
      waits_for = w.waits_for (supposing s w.before) (extends-supposing s w.before within unknown)
          (λ k q. supposing-invalid s w.before k within q)
          (supposing-other s w.before m within w.apart
          ∙ path-unknown limit properties all begun (c ∷ path) m p (first-any c path m h));
    }
  where
    within_stage : (k : ℕ) → has c k ≡ true → k < length (stage_of all)
    within_stage k q =
        let l : k < length all = open-within all k (p.owned k ∙ first-any c path k q) in
        omega (arith, length-map all slot_of)

circle-leads : (limit : ℕ) (properties : List Property) (all : List Slot) (begun : ℕ) (c : Circle)
    (path : List Circle) (numbers : List ℕ) (n m : ℕ) → IsPath limit properties all begun (c ∷ path)
    → ((k : ℕ) → is_among numbers k ≡ has c k)
    → Leads limit properties (stage_of all) (has c) n m
    → LeadsTo limit properties (stage_of all) numbers n m
circle-leads limit properties all begun c path numbers n m p same (sees o h q) =
    reads o (circle-sees limit properties all begun c path numbers n o p same q h)
circle-leads limit properties all begun c path numbers n m p same (then_sees b o l h q) =
    then_reads b o (circle-leads limit properties all begun c path numbers n b p same l)
    (circle-sees limit properties all begun c path numbers b o p same q h)

pub path-clears : (limit : ℕ) (properties : List Property) (all after : List Slot) (begun : ℕ)
    (c : Circle) (path : List Circle) → EndsCurrent limit properties all begun c path
    → c.closed ≡ true → c.others ≡ [] → Cleared all (c.ended ++ c.current.number ∷ []) after
    → GoesOn limit properties all (c ∷ path) after begun path
path-clears limit properties all after begun c path e closed none cleared =
    let s = stage_of all in
    let p = e.is_path in
    let unknown : (n : ℕ) → is_among numbers n ≡ true → known_at s n ≡ not_yet = λ n q.
    path-unknown limit properties all begun (c ∷ path) n p (first-any c path n (sym (same n) ∙ q)) in
    let within : (n : ℕ) → is_among numbers n ≡ true → n < length s = λ n q.
    within_stage n (sym (same n) ∙ q) in
    let given : Given s c (supposing s numbers) = record {
      extends = extends-supposing s numbers within unknown;
      hidden = λ n h. supposing-invalid s numbers n within (same n ∙ hides-has c.closed (has c n) h);
    } in
    let circle : IsCircle limit properties s numbers = record {
      unknown = unknown;
      each_leads = λ n m a b. circle-leads limit properties all begun c path numbers n m p same
          (p.good.0.each_leads closed n m (sym (same n) ∙ a) (sym (same m) ∙ b));
      no_others = λ n q. finish given n (either (is_among c.ended n) (n == c.current.number || false)
          (sym (among-append c.ended (c.current.number ∷ []) n) ∙ q));
    } in
    cut limit properties all after begun c path numbers None p same cleared
    (λ start r. circles s (stage_of after) numbers r circle (only-becomes all after numbers None cleared))
  where
    numbers : List ℕ
    numbers = c.ended ++ c.current.number ∷ []

    turned : (a y : Bool) (os : List Entry) (n : ℕ) → os ≡ []
        → (y || (a || false)) ≡ (a || (is_among (numbers_of os) n || y))
    turned true true [] n q = refl
    turned true false [] n q = refl
    turned false true [] n q = refl
    turned false false [] n q = refl
    turned a y (o ∷ os) n q = absurd (cc)

    same : (n : ℕ) → is_among (c.ended ++ c.current.number ∷ []) n ≡ has c n
    same n = among-append c.ended (c.current.number ∷ []) n
        ∙ turned (n == c.current.number) (is_among c.ended n) c.others n none

    within_stage : (k : ℕ) → has c k ≡ true → k < length (stage_of all)
    within_stage k q =
        let l : k < length all = open-within all k (e.is_path.owned k ∙ first-any c path k q) in
        omega (arith, length-map all slot_of)

    finish : Given (stage_of all) c (supposing (stage_of all) numbers) → (n : ℕ)
        → (is_among c.ended n ≡ true) ⊎ ((n == c.current.number || false) ≡ true)
        → IsDone (comes_to limit properties (supposing (stage_of all) numbers) n)
    finish g n (inl q) = e.is_path.good.0.finishes n q (supposing (stage_of all) numbers) g
    finish g n (inr q) =
        let is : n ≡ c.current.number = eq_true n c.current.number (one (n == c.current.number) q) in
        subst (λ (k : ℕ). IsDone (comes_to limit properties (supposing (stage_of all) numbers) k)) (sym is)
        (subst IsDone (sym (e.comes (supposing (stage_of all) numbers) g)) e.is_done)
      where
        one : (b : Bool) → (b || false) ≡ true → b ≡ true
        one true h = refl
        one false h = h

-- ---- both of two

pub both-map : {A B : Type 0} (f : A → B) (one two all : List A) → AreBoth one two all
    → AreBoth (map f one) (map f two) (map f all)
both-map f one two all (inl e) = inl (ap (map f) e ∙ map-append f one two)
both-map f one two all (inr e) = inr (ap (map f) e ∙ map-append f two one)

-- ---- a path as a list that ends with its last circle

pub piled-append : (path : List StoredCircle) (c : StoredCircle) (below : List Circle)
    → piled (path ++ c ∷ []) below ≡ circle_of c ∷ piled path below
piled-append [] c below = refl
piled-append (d ∷ path) c below = piled-append path c (circle_of d ∷ below)

pub piled-pop : (old new : List StoredCircle) (o : Option StoredCircle)
    → old ≡ new ++ option_to_list o
    → piled old [] ≡ with_last (option_map circle_of o) (piled new [])
piled-pop old new None e =
    ap (λ (cs : List StoredCircle). piled cs []) (e ∙ append-nil new)
piled-pop old new (Some c) e =
    ap (λ (cs : List StoredCircle). piled cs []) e ∙ piled-append new c []
