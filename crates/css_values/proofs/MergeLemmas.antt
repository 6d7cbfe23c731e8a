-- Circles of a path are made one.
use Rattle.std.proofs.Common.{◌≡◌, ◌∙◌, ℕ, ◌<◌, ◌≤◌, ◌+◌, ◌++◌, ◌==◌, ◌||◌, ◌&&◌, ◌⊎◌, inl, inr, Bool, true, false, List, [], ◌∷◌, length, arith, refl, sym, ap, subst, if◌then◌else◌}
use Rattle.std.proofs.lemmas.List.{length-append}
use Rattle.std.proofs.Math.Bool.{or_comm}
use Rattle.css_values.specs.Resolution.{Property, Known, is_among}
use Rattle.css_values.specs.declared.table.Slot.{Slot}
use Rattle.css_values.specs.Views.{stage_of, stage_from}
use Rattle.css_values.specs.internal.Readings.{IsUnknown}
use Rattle.css_values.specs.internal.Paths.{is_open, place_of, slot_at, Entry, numbers_of, Circle, has, has_any, hides, AreSound, Finishes, Leads, sees, IsNear, Link, IsPath, AreBoth, Absorbs, IsMerging, weight, weights, hidden_from, Waits}
use Rattle.css_values.proofs.SlotLemmas.{seen-at, seen-before, extends-same}
use Rattle.css_values.proofs.CircleLemmas.{not-both, sees-more, near-then, then-near, near-more, sound-wider, finishes-wider, sound-append, good-near, has-current, placed-below, among-append, numbers-append, current-sees, links-same, either}

-- the last circle, once it is closed
abbrev pub closing : Circle → Circle
closing c = record {
  start = c.start;
  closed = true;
  current = c.current;
  others = c.others;
  ended = c.ended;
}

hides-has : (b h : Bool) → (b && h) ≡ true → h ≡ true
hides-has true h e = e
hides-has false h e = absurd (cc)

pub merging-begins : (limit : ℕ) (properties : List Property) (all : List Slot) (begun : ℕ)
    (c : Circle) (path : List Circle) (other : ℕ) → Waits limit properties all begun c path other
    → IsUnknown properties (stage_from (hidden_from c begun) all) other
    → is_open (slot_at all other) ≡ true
    → IsMerging limit properties all begun other (weights (c ∷ path)) (closing c) path
merging-begins limit properties all begun c path other w u opened =
    let p = w.is_path in
    let early : place_of (slot_at all other) < hidden_from c begun =
    seen-before (hidden_from c begun) (slot_at all other) (sym (seen-at (hidden_from c begun) all other) ∙ u.0) opened in
    let wider : (n : ℕ) → hides c n ≡ true → has c n ≡ true = λ n e. hides-has c.closed (has c n) e in
    record {
      same_length = p.same_length;
      room = p.room;
      owned = p.owned;
      placed = p.placed.0;
      below_placed = p.placed.1;
      below_good = p.good.1;
      below_linked = p.linked.1;
      sound = sound-wider limit properties (stage_of all) c (closing c) (c.current ∷ c.others) wider p.good.0.sound;
      finishes = λ n e.
          finishes-wider limit properties (stage_of all) c (closing c) n wider (p.good.0.finishes n e);
      closed = refl;
      last = has c;
      of_top = λ n e. e;
      links = p.linked.0;
      spreads = λ n m a b. good-near limit properties (stage_of all) c p.good.0 n m a b;
      gathers = λ n a.
          good-near limit properties (stage_of all) c p.good.0 n c.current.number a (has-current c);
      waits_for = current-sees limit properties all begun c path other w
          (apart c.closed early (has c other) refl);
      is_open = opened;
      is_last = λ e. e;
      within = within c.closed;
      less = λ l. less c.closed early l;
    }
  where
    apart : (b : Bool) → place_of (slot_at all other) < (if b then c.start else begun)
        → (h : Bool) → has c other ≡ h → (b && h) ≡ false
    apart false l h e = refl
    apart true l false e = refl
    apart true l true e =
        let low : c.start ≤ place_of (slot_at all other) = (w.is_path.placed.0 other e).1 in
        absurd (omega arith)

    within : (b : Bool) → (2 + length c.others) + weights path
        ≤ ((if b then 2 else 3) + length c.others) + weights path
    within true = omega arith
    within false = omega arith

    less : (b : Bool) → place_of (slot_at all other) < (if b then c.start else begun)
        → c.start ≤ place_of (slot_at all other)
        → (2 + length c.others) + weights path
        < ((if b then 2 else 3) + length c.others) + weights path
    less true l k = absurd (omega arith)
    less false l k = omega arith

-- ---- the properties of both

both-numbers : (one two all : List Entry) (n : ℕ) → AreBoth one two all
    → is_among (numbers_of all) n ≡ (is_among (numbers_of one) n || is_among (numbers_of two) n)
both-numbers one two all n (inl e) =
    ap (λ (es : List Entry). is_among (numbers_of es) n) e ∙ numbers-append one two n
both-numbers one two all n (inr e) =
    ap (λ (es : List Entry). is_among (numbers_of es) n) e ∙ numbers-append two one n
    ∙ or_comm (is_among (numbers_of two) n) (is_among (numbers_of one) n)

both-among : (one two all : List ℕ) (n : ℕ) → AreBoth one two all
    → is_among all n ≡ (is_among one n || is_among two n)
both-among one two all n (inl e) = ap (λ (ns : List ℕ). is_among ns n) e ∙ among-append one two n
both-among one two all n (inr e) =
    ap (λ (ns : List ℕ). is_among ns n) e ∙ among-append two one n
    ∙ or_comm (is_among two n) (is_among one n)

both-length : (one two all : List Entry) → AreBoth one two all
    → length all ≡ length one + length two
both-length one two all (inl e) = ap length e ∙ length-append one two
both-length one two all (inr e) = omega (arith, ap length e ∙ length-append two one)

both-sound : (limit : ℕ) (properties : List Property) (s : List Known) (c : Circle)
    (one two all : List Entry) → AreBoth one two all → AreSound limit properties s c one
    → AreSound limit properties s c two → AreSound limit properties s c all
both-sound limit properties s c one two all (inl e) h g =
    subst (AreSound limit properties s c) (sym e) (sound-append limit properties s c one two h g)
both-sound limit properties s c one two all (inr e) h g =
    subst (AreSound limit properties s c) (sym e) (sound-append limit properties s c two one g h)

arranged : (a b x y e f : Bool)
    → (a || (((x || y) || (b || false)) || (e || f))) ≡ ((a || (x || e)) || (b || (y || f)))
arranged true b x y e f = refl
arranged false b true y e f = refl
arranged false true false true true f = refl
arranged false true false true false f = refl
arranged false true false false true f = refl
arranged false true false false false f = refl
arranged false false false true true f = refl
arranged false false false true false f = refl
arranged false false false false true f = refl
arranged false false false false false f = refl

-- the circle of both
abbrev pub both_of : Circle → Circle → List Entry → List ℕ → Circle
both_of upper lower both gone = record {
  start = lower.start;
  closed = true;
  current = upper.current;
  others = both ++ lower.current ∷ [];
  ended = gone;
}

both-has : (upper lower : Circle) (both : List Entry) (gone : List ℕ) (n : ℕ)
    → AreBoth upper.others lower.others both → AreBoth upper.ended lower.ended gone
    → has (both_of upper lower both gone) n ≡ (has upper n || has lower n)
both-has upper lower both gone n b g =
    ap (λ (x : Bool). n == upper.current.number || (x || is_among gone n))
    (numbers-append both (lower.current ∷ []) n
    ∙ ap (λ (x : Bool). x || (n == lower.current.number || false))
    (both-numbers upper.others lower.others both n b))
    ∙ ap (λ (x : Bool). n == upper.current.number
    || (((is_among (numbers_of upper.others) n || is_among (numbers_of lower.others) n) || (n == lower.current.number || false)) || x))
    (both-among upper.ended lower.ended gone n g)
    ∙ arranged (n == upper.current.number) (n == lower.current.number) (is_among (numbers_of upper.others) n)
    (is_among (numbers_of lower.others) n) (is_among upper.ended n) (is_among lower.ended n)

merging-both : (limit : ℕ) (properties : List Property) (all : List Slot) (begun other most : ℕ)
    (top lower : Circle) (below : List Circle) (both : List Entry) (gone : List ℕ)
    → IsMerging limit properties all begun other most top (lower ∷ below)
    → place_of (slot_at all other) < top.start
    → AreBoth top.others lower.others both → AreBoth top.ended lower.ended gone
    → IsMerging limit properties all begun other most (both_of top lower both gone) below
merging-both limit properties all begun other most top lower below both gone m late b g = record {
  same_length = m.same_length;
  room = m.room;
  owned = λ n. m.owned n ∙ regroup (has top n) (has lower n) (has_any below n)
      ∙ ap (λ (x : Bool). x || has_any below n) (sym (same n));
  placed = λ n e. place n (either (has top n) (has lower n) (sym (same n) ∙ e));
  below_placed = m.below_placed.1;
  below_good = m.below_good.1;
  below_linked = m.below_linked.1;
  sound = (
    (sound-wider limit properties s top d (top.current ∷ []) from_top (m.sound.0, tt)).0,
    sound-append limit properties s d both (lower.current ∷ [])
        (both-sound limit properties s d top.others lower.others both b
        (sound-wider limit properties s top d top.others from_top m.sound.1)
        (sound-wider limit properties s lower d lower.others from_lower m.below_good.0.sound.1))
        (sound-wider limit properties s lower d (lower.current ∷ []) from_lower (m.below_good.0.sound.0, tt)),
  );
  finishes = λ n e. finish n (either (is_among top.ended n) (is_among lower.ended n)
      (sym (both-among top.ended lower.ended gone n g) ∙ e));
  closed = refl;
  last = has lower;
  of_top = of_lower;
  links = m.below_linked.0;
  spreads = λ n k p q. spread n k p (either (has top k) (has lower k) (sym (same k) ∙ q));
  gathers = λ n p. gather n (either (has top n) (has lower n) (sym (same n) ∙ p));
  waits_for = sees-more limit properties s s (has top) (has d) top.current.number other (extends-same s)
      of_upper m.waits_for;
  is_open = m.is_open;
  is_last = λ e. in_last (either (has top other) (has lower other) (sym (same other) ∙ e));
  within = less-or (length both) (both-length top.others lower.others both b) lower.closed m.within;
  less = λ l. less-than (length both) (both-length top.others lower.others both b) lower.closed m.within;
}
  where
    s : List Known
    s = stage_of all

    d : Circle
    d = both_of top lower both gone

    link : Link limit properties (stage_of all) lower m.last
    link = m.links

    same : (n : ℕ) → has (both_of top lower both gone) n ≡ (has top n || has lower n)
    same n = both-has top lower both gone n b g

    regroup : (x y z : Bool) → (x || (y || z)) ≡ ((x || y) || z)
    regroup true y z = refl
    regroup false y z = refl

    or-right : (x y : Bool) → y ≡ true → (x || y) ≡ true
    or-right true y e = refl
    or-right false y e = e

    of_upper : (n : ℕ) → has top n ≡ true → has (both_of top lower both gone) n ≡ true
    of_upper n e = same n ∙ ap (λ (x : Bool). x || has lower n) e

    of_lower : (n : ℕ) → has lower n ≡ true → has (both_of top lower both gone) n ≡ true
    of_lower n e = same n ∙ or-right (has top n) (has lower n) e

    from_top : (n : ℕ) → hides top n ≡ true → hides (both_of top lower both gone) n ≡ true
    from_top n e = of_upper n (hides-has top.closed (has top n) e)

    from_lower : (n : ℕ) → hides lower n ≡ true → hides (both_of top lower both gone) n ≡ true
    from_lower n e = of_lower n (hides-has lower.closed (has lower n) e)

    order : (lower.start ≤ top.start) × (top.start < begun)
    order =
        let low = m.below_placed.0 lower.current.number (has-current lower) in
        let high = m.placed top.current.number (has-current top) in
        let a : lower.start ≤ place_of (slot_at all lower.current.number) = low.1 in
        let x : place_of (slot_at all lower.current.number) < top.start = low.2 in
        let c : top.start ≤ place_of (slot_at all top.current.number) = high.1 in
        let y : place_of (slot_at all top.current.number) < begun = high.2 in
        (omega arith, omega arith)

    place : (n : ℕ) → (has top n ≡ true) ⊎ (has lower n ≡ true)
        → (is_open (slot_at all n) ≡ true) × (lower.start ≤ place_of (slot_at all n)) × (place_of (slot_at all n) < begun)
    place n (inl e) =
        let h = m.placed n e in
        let l : top.start ≤ place_of (slot_at all n) = h.1 in
        let k : lower.start ≤ top.start = order.0 in
        (h.0, omega arith, h.2)
    place n (inr e) =
        let h = m.below_placed.0 n e in
        let l : place_of (slot_at all n) < top.start = h.2 in
        let k : top.start < begun = order.1 in
        (h.0, h.1, omega arith)

    finish : (n : ℕ) → (is_among top.ended n ≡ true) ⊎ (is_among lower.ended n ≡ true)
        → Finishes limit properties (stage_of all) (both_of top lower both gone) n
    finish n (inl e) =
        finishes-wider limit properties (stage_of all) top (both_of top lower both gone) n from_top (m.finishes n e)
    finish n (inr e) =
        finishes-wider limit properties (stage_of all) lower (both_of top lower both gone) n from_lower
        (m.below_good.0.finishes n e)

    in_lower : (n k : ℕ) → has lower n ≡ true → has lower k ≡ true
        → IsNear limit properties (stage_of all) (has (both_of top lower both gone)) n k
    in_lower n k p q = near-more limit properties (stage_of all) (has lower) (has (both_of top lower both gone)) n k
        of_lower (good-near limit properties (stage_of all) lower m.below_good.0 n k p q)

    over : Leads limit properties (stage_of all) (has (both_of top lower both gone)) link.from link.to
    over = sees link.to
        (sees-more limit properties (stage_of all) (stage_of all) (has lower) (has (both_of top lower both gone))
        link.from link.to (extends-same (stage_of all)) of_lower link.link)
        (of_upper link.to (m.of_top link.to link.of_these))

    spread : (n k : ℕ) → has lower n ≡ true → (has top k ≡ true) ⊎ (has lower k ≡ true)
        → IsNear limit properties (stage_of all) (has (both_of top lower both gone)) n k
    spread n k p (inr q) = in_lower n k p q
    spread n k p (inl q) = inr (near-then limit properties (stage_of all) (has (both_of top lower both gone)) n link.from k
        (in_lower n link.from p link.of_lower)
        (then-near limit properties (stage_of all) (has (both_of top lower both gone)) link.from link.to k over
        (near-more limit properties (stage_of all) (has top) (has (both_of top lower both gone)) link.to k of_upper
        (m.spreads link.to k link.of_these q))))

    gather : (n : ℕ) → (has top n ≡ true) ⊎ (has lower n ≡ true)
        → IsNear limit properties (stage_of all) (has (both_of top lower both gone)) n top.current.number
    gather n (inl q) = near-more limit properties (stage_of all) (has top) (has (both_of top lower both gone)) n
        top.current.number of_upper (m.gathers n q)
    gather n (inr q) = spread n top.current.number q (inl (has-current top))

    in_last : (has top other ≡ true) ⊎ (has lower other ≡ true) → has lower other ≡ true
    in_last (inl e) =
        let l : top.start ≤ place_of (slot_at all other) = (m.placed other e).1 in absurd (omega arith)
    in_last (inr e) = e

    long : (k : ℕ) → length (both ++ lower.current ∷ []) ≡ length both + k → k ≡ 1
        → length (both ++ lower.current ∷ []) ≡ length both + 1
    long k e h = omega arith

    less-than : (k : ℕ) → k ≡ length top.others + length lower.others → (t : Bool)
        → weight top + (((if t then 2 else 3) + length lower.others) + weights below) ≤ most
        → (2 + length (both ++ lower.current ∷ [])) + weights below < most
    less-than k e t h = by t h
      where
        size : length (both ++ lower.current ∷ []) ≡ length top.others + length lower.others + 1
        size = omega (arith, length-append both (lower.current ∷ []), both-length top.others lower.others both b)

        top_weight : (x : Bool) → top.closed ≡ x → weight top ≡ (if x then 2 else 3) + length top.others
        top_weight x q = ap (λ (y : Bool). (if y then 2 else 3) + length top.others) q

        by : (x : Bool) → weight top + (((if x then 2 else 3) + length lower.others) + weights below) ≤ most
            → (2 + length (both ++ lower.current ∷ [])) + weights below < most
        by true q =
            let w : weight top ≡ 2 + length top.others = top_weight true m.closed in
            omega (arith, size, w)
        by false q =
            let w : weight top ≡ 2 + length top.others = top_weight true m.closed in
            omega (arith, size, w)

    less-or : (k : ℕ) → k ≡ length top.others + length lower.others → (t : Bool)
        → weight top + (((if t then 2 else 3) + length lower.others) + weights below) ≤ most
        → (2 + length (both ++ lower.current ∷ [])) + weights below ≤ most
    less-or k e t h = let l = less-than k e t h in omega (arith, l)

pub merging-more : (limit : ℕ) (properties : List Property) (all : List Slot) (begun other most : ℕ)
    (top lower merged : Circle) (below : List Circle)
    → IsMerging limit properties all begun other most top (lower ∷ below)
    → place_of (slot_at all other) < top.start → Absorbs top lower merged
    → IsMerging limit properties all begun other most merged below
merging-more limit properties all begun other most top lower merged below m late a =
    subst (λ (c : Circle). IsMerging limit properties all begun other most c below) (sym a.is)
    (merging-both limit properties all begun other most top lower below a.both a.gone m late a.are_both a.are_gone)

-- what the path is, once the circle has the other
pub merging-ends : (limit : ℕ) (properties : List Property) (all : List Slot) (begun other most : ℕ)
    (top : Circle) (below : List Circle)
    → IsMerging limit properties all begun other most top below
    → top.start ≤ place_of (slot_at all other)
    → IsPath limit properties all begun (top ∷ below) × (weights (top ∷ below) < most)
merging-ends limit properties all begun other most top below m early = (
  record {
    same_length = m.same_length;
    room = m.room;
    owned = m.owned;
    placed = (m.placed, m.below_placed);
    good = (
      record {
        sound = m.sound;
        finishes = m.finishes;
        each_leads = λ e n k p q.
            near-then limit properties (stage_of all) (has top) n top.current.number k (m.gathers n p)
            (then-near limit properties (stage_of all) (has top) top.current.number other k
            (sees other m.waits_for mine) (m.spreads other k (m.is_last mine) q));
        alone = λ e. absurd (not-both m.closed e);
      },
      m.below_good,
    );
    linked = (links-same limit properties (stage_of all) m.last (has top) below m.of_top m.links, m.below_linked);
  },
  m.less early,
)
  where
    by : (has top other ≡ true) ⊎ (has_any below other ≡ true) → has top other ≡ true
    by (inl e) = e
    by (inr e) =
        let l : place_of (slot_at all other) < top.start =
        placed-below all top.start below other m.below_placed e in
        absurd (omega arith)

    mine : has top other ≡ true
    mine = by (either (has top other) (has_any below other) (sym (m.owned other) ∙ m.is_open))

pub merging-none : (limit : ℕ) (properties : List Property) (all : List Slot) (begun other most : ℕ)
    (top : Circle) → IsMerging limit properties all begun other most top []
    → top.start ≤ place_of (slot_at all other)
merging-none limit properties all begun other most top m =
    (m.placed other (by (has top other) (sym (m.owned other) ∙ m.is_open))).1
  where
    by : (b : Bool) → (b || false) ≡ true → b ≡ true
    by true e = refl
    by false e = e
