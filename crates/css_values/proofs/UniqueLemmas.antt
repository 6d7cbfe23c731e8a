-- What becomes known does not depend on the order in which it does.
use Rattle.std.proofs.Common.{◌≡◌, ◌∙◌, ℕ, zero, suc, ◌<◌, ◌==◌, ◌||◌, Bool, true, false, List, [], ◌∷◌, Option, Some, None, length, get_or, set, nat_lt, arith, refl, sym, ap, subst, if◌then◌else◌}
use Rattle.std.proofs.lemmas.List.{get_or-set_same, get_or-set_other}
use Rattle.css_values.specs.Pieces.{Piece, plain, reference, broken, pieces}
use Rattle.css_values.specs.Substitution.{Value, Outcome, invalid, is, waits, Target, bad, absent, unknown, found, nothing, beside, within, then_value, outcome_in_place, fallback_value, reference_value, piece_value, put_together, substituted}
use Rattle.css_values.specs.Resolution.{Property, Known, not_yet, computed, known_at, named, comes_to, no_property, none_known, is_among, supposing, Becomes, Reads, LeadsTo, reads, then_reads, IsCircle, Reaches, begins, computes, circles, kept, IsDone, IsComputed, Resolved, deepest_fallback}
use Rattle.css_values.specs.internal.Readings.{Extends}
use Rattle.css_values.proofs.ReadingLemmas.{Kept, kept-named, named-unknown}
use Rattle.css_values.proofs.SlotLemmas.{eq_true, eq_false, length-supposing, extends-becomes}

-- ---- outcomes, once more is known

-- what is done stays, and what waits for what is still unknown does
Later : List Known → Outcome → Outcome → Type 0
Later t invalid after = after ≡ invalid
Later t (is v) after = after ≡ is v
Later t (waits n) after = known_at t n ≡ not_yet → after ≡ waits n

later-same : (t : List Known) (o : Outcome) → IsDone o → Later t o o
unfolding Later
later-same t invalid d = refl
later-same t (is v) d = refl
later-same t (waits n) d = absurd d

within-done : (limit : ℕ) (v : Value) → IsDone (within limit v)
within-done limit v = by (nat_lt limit (length v.text))
  where
    by : (b : Bool) → IsDone (if b then invalid else is v)
    by true = tt
    by false = tt

later-then : (limit : ℕ) (t : List Known) (a x b y : Outcome) → Later t a b → Later t x y
    → Later t (then_value limit a x) (then_value limit b y)
unfolding Later
later-then limit t (waits n) x b y h g = λ e. ap (λ (o : Outcome). then_value limit o y) (h e)
later-then limit t invalid invalid b y h g =
    ap (λ (o : Outcome). then_value limit o y) h ∙ ap (then_value limit invalid) g
later-then limit t invalid (is v) b y h g =
    ap (λ (o : Outcome). then_value limit o y) h ∙ ap (then_value limit invalid) g
later-then limit t invalid (waits n) b y h g = λ e.
    ap (λ (o : Outcome). then_value limit o y) h ∙ ap (then_value limit invalid) (g e)
later-then limit t (is l) invalid b y h g =
    ap (λ (o : Outcome). then_value limit o y) h ∙ ap (then_value limit (is l)) g
later-then limit t (is l) (is r) b y h g =
    subst (Later t (within limit (beside l r)))
    (sym (ap (λ (o : Outcome). then_value limit o y) h ∙ ap (then_value limit (is l)) g))
    (later-same t (within limit (beside l r)) (within-done limit (beside l r)))
later-then limit t (is l) (waits n) b y h g = λ e.
    ap (λ (o : Outcome). then_value limit o y) h ∙ ap (then_value limit (is l)) (g e)

later-in_place : (t : List Known) (a b : Outcome) → Later t a b
    → Later t (outcome_in_place a) (outcome_in_place b)
unfolding Later
later-in_place t invalid b h = ap outcome_in_place h
later-in_place t (is v) b h = ap outcome_in_place h
later-in_place t (waits n) b h = λ e. ap outcome_in_place (h e)

later-fallback : (t : List Known) (f g : List ℕ → Outcome)
    → ((text : List ℕ) → Later t (f text) (g text)) → (fallback : Option (List ℕ))
    → Later t (fallback_value f fallback) (fallback_value g fallback)
unfolding Later
later-fallback t f g h None = refl
later-fallback t f g h (Some text) = later-in_place t (f text) (g text) (h text)

later-reference : (t : List Known) (f g : List ℕ → Outcome)
    → ((text : List ℕ) → Later t (f text) (g text)) → (T u : Target) (fallback : Option (List ℕ))
    → Kept t T u → Later t (reference_value f T fallback) (reference_value g u fallback)
unfolding Later Kept
later-reference t f g h bad u fallback k = ap (λ (x : Target). reference_value g x fallback) k
later-reference t f g h absent u fallback k =
    subst (λ (x : Target). Later t (fallback_value f fallback) (reference_value g x fallback)) (sym k)
    (later-fallback t f g h fallback)
later-reference t f g h (unknown n) u fallback k = λ e.
    ap (λ (x : Target). reference_value g x fallback) (k e)
later-reference t f g h (found v) u fallback k = ap (λ (x : Target). reference_value g x fallback) k

later-piece : (properties : List Property) (s t : List Known) → Extends s t
    → (f g : List ℕ → Outcome) → ((text : List ℕ) → Later t (f text) (g text)) → (p : Piece)
    → Later t (piece_value f (named properties s) p) (piece_value g (named properties t) p)
unfolding Later
later-piece properties s t x f g h (plain text) = refl
later-piece properties s t x f g h (reference name fallback) =
    later-reference t f g h (named properties s name) (named properties t name) fallback
    (kept-named properties s t name x)
later-piece properties s t x f g h broken = refl

later-put : (t : List Known) (f g : Piece → Outcome) → ((p : Piece) → Later t (f p) (g p))
    → (limit : ℕ) (ps : List Piece) (a b : Outcome) → Later t a b
    → Later t (put_together f limit a ps) (put_together g limit b ps)
later-put t f g h limit [] a b k = k
later-put t f g h limit (p ∷ ps) a b k =
    later-put t f g h limit ps (then_value limit a (f p)) (then_value limit b (g p))
    (later-then limit t a (f p) b (g p) k (h p))

later-substituted : (k limit : ℕ) (properties : List Property) (s t : List Known) → Extends s t
    → (text : List ℕ)
    → Later t (substituted k limit (named properties s) text) (substituted k limit (named properties t) text)
unfolding Later substituted
later-substituted zero limit properties s t x text = refl
later-substituted (suc k) limit properties s t x text =
    later-put t (piece_value (substituted k limit (named properties s)) (named properties s))
    (piece_value (substituted k limit (named properties t)) (named properties t))
    (λ p. later-piece properties s t x (substituted k limit (named properties s))
    (substituted k limit (named properties t))
    (λ inner. later-substituted k limit properties s t x inner) p)
    limit (pieces text) (is nothing) (is nothing) refl

done-later : (t : List Known) (a b : Outcome) → Later t a b → IsDone a → b ≡ a
unfolding Later
done-later t invalid b h d = h
done-later t (is v) b h d = h
done-later t (waits n) b h d = absurd d

done-stays : (limit : ℕ) (properties : List Property) (s t : List Known) (n : ℕ) → Extends s t
    → IsDone (comes_to limit properties s n)
    → comes_to limit properties t n ≡ comes_to limit properties s n
done-stays limit properties s t n x d =
    done-later t (comes_to limit properties s n) (comes_to limit properties t n)
    (later-substituted deepest_fallback limit properties s t x (get_or properties n no_property).text) d

waits-later : (t : List Known) (a b : Outcome) (n : ℕ) → a ≡ waits n → Later t a b
    → known_at t n ≡ not_yet → b ≡ waits n
unfolding Later
waits-later t a b n e h u = subst (λ (o : Outcome). Later t o b) e h u

waits-stays : (limit : ℕ) (properties : List Property) (s t : List Known) (n other : ℕ)
    → Extends s t → comes_to limit properties s n ≡ waits other → known_at t other ≡ not_yet
    → comes_to limit properties t n ≡ waits other
waits-stays limit properties s t n other x e u =
    waits-later t (comes_to limit properties s n) (comes_to limit properties t n) other e
    (later-substituted deepest_fallback limit properties s t x (get_or properties n no_property).text) u

-- ---- what two stages know together

Agree : List Known → List Known → Type 0
Agree s t = (n : ℕ) (v w : Option Value) → known_at s n ≡ computed v → known_at t n ≡ computed w → v ≡ w

agree-swap : (s t : List Known) → Agree s t → Agree t s
unfolding Agree
agree-swap s t a = λ n v w p q. sym (a n w v q p)

-- what the one knows, and else what the other does
either_known : Known → Known → Known
either_known not_yet k = k
either_known (computed v) k = computed v

joined : List Known → List Known → List Known
joined [] t = t
joined (k ∷ s) [] = k ∷ s
joined (k ∷ s) (l ∷ t) = either_known k l ∷ joined s t

either-none : (k : Known) → either_known k not_yet ≡ k
unfolding either_known
either-none not_yet = refl
either-none (computed v) = refl

joined-at : (s t : List Known) (n : ℕ)
    → known_at (joined s t) n ≡ either_known (known_at s n) (known_at t n)
unfolding joined either_known
joined-at [] t n = refl
joined-at (k ∷ s) [] n = sym (either-none (known_at (k ∷ s) n))
joined-at (k ∷ s) (l ∷ t) zero = refl
joined-at (k ∷ s) (l ∷ t) (suc n) = joined-at s t n

joined-left : (s t : List Known) → Extends s (joined s t)
unfolding either_known
joined-left s t = λ n v e. joined-at s t n ∙ ap (λ (k : Known). either_known k (known_at t n)) e

either-agrees : (k l : Known) (w : Option Value) → ((v : Option Value) → k ≡ computed v → v ≡ w)
    → l ≡ computed w → either_known k l ≡ computed w
unfolding either_known
either-agrees not_yet l w a e = e
either-agrees (computed v) l w a e = ap computed (a v refl)

joined-right : (s t : List Known) → Agree s t → Extends t (joined s t)
unfolding Agree
joined-right s t a = λ n w e.
    joined-at s t n
    ∙ either-agrees (known_at s n) (known_at t n) w (λ v p. a n v w p e) e

joined-unknown : (s t : List Known) (n : ℕ) → known_at s n ≡ not_yet → known_at t n ≡ not_yet
    → known_at (joined s t) n ≡ not_yet
unfolding either_known
joined-unknown s t n p q =
    joined-at s t n ∙ ap (λ (k : Known). either_known k (known_at t n)) p ∙ q

-- a property that reads nothing unknown does not wait in a stage that agrees
done-waits : (limit : ℕ) (properties : List Property) (s t : List Known) (n other : ℕ) → Agree s t
    → IsDone (comes_to limit properties s n) → comes_to limit properties t n ≡ waits other
    → known_at s other ≡ not_yet → known_at t other ≡ not_yet → ⊥
done-waits limit properties s t n other a d w p q =
    let same = done-stays limit properties s (joined s t) n (joined-left s t) d in
    let still = waits-stays limit properties t (joined s t) n other (joined-right s t a) w
    (joined-unknown s t other p q) in
    subst IsDone (sym same ∙ still) d

done-same : (limit : ℕ) (properties : List Property) (s t : List Known) (n : ℕ) → Agree s t
    → IsDone (comes_to limit properties s n) → IsDone (comes_to limit properties t n)
    → comes_to limit properties s n ≡ comes_to limit properties t n
done-same limit properties s t n a d e =
    sym (done-stays limit properties s (joined s t) n (joined-left s t) d)
    ∙ done-stays limit properties t (joined s t) n (joined-right s t a) e

-- ---- what waits, waits for what is unknown

Well : List Known → Outcome → Type 0
Well s invalid = Unit {0}
Well s (is v) = Unit {0}
Well s (waits n) = known_at s n ≡ not_yet

well-then : (limit : ℕ) (s : List Known) (a x : Outcome) → Well s a → Well s x
    → Well s (then_value limit a x)
unfolding Well
well-then limit s (waits n) x h g = h
well-then limit s invalid invalid h g = tt
well-then limit s invalid (is v) h g = tt
well-then limit s invalid (waits n) h g = g
well-then limit s (is l) invalid h g = tt
well-then limit s (is l) (is r) h g = by (nat_lt limit (length (beside l r).text))
  where
    by : (b : Bool) → Well s (if b then invalid else is (beside l r))
    by true = tt
    by false = tt
well-then limit s (is l) (waits n) h g = g

well-in_place : (s : List Known) (a : Outcome) → Well s a → Well s (outcome_in_place a)
unfolding Well
well-in_place s invalid h = tt
well-in_place s (is v) h = tt
well-in_place s (waits n) h = h

well-fallback : (s : List Known) (f : List ℕ → Outcome) → ((text : List ℕ) → Well s (f text))
    → (fallback : Option (List ℕ)) → Well s (fallback_value f fallback)
unfolding Well
well-fallback s f h None = tt
well-fallback s f h (Some text) = well-in_place s (f text) (h text)

well-piece : (properties : List Property) (s : List Known) (f : List ℕ → Outcome)
    → ((text : List ℕ) → Well s (f text)) → (p : Piece) → Well s (piece_value f (named properties s) p)
unfolding Well
well-piece properties s f h (plain text) = tt
well-piece properties s f h (reference name fallback) = by (named properties s name) refl
  where
    by : (T : Target) → named properties s name ≡ T → Well s (reference_value f T fallback)
    by bad e = tt
    by absent e = well-fallback s f h fallback
    by (unknown n) e = (named-unknown properties s name n e).0
    by (found v) e = tt
well-piece properties s f h broken = tt

well-put : (s : List Known) (f : Piece → Outcome) → ((p : Piece) → Well s (f p)) → (limit : ℕ)
    (ps : List Piece) (a : Outcome) → Well s a → Well s (put_together f limit a ps)
well-put s f h limit [] a k = k
well-put s f h limit (p ∷ ps) a k =
    well-put s f h limit ps (then_value limit a (f p)) (well-then limit s a (f p) k (h p))

well-substituted : (k limit : ℕ) (properties : List Property) (s : List Known) (text : List ℕ)
    → Well s (substituted k limit (named properties s) text)
unfolding Well substituted
well-substituted zero limit properties s text = tt
well-substituted (suc k) limit properties s text =
    well-put s (piece_value (substituted k limit (named properties s)) (named properties s))
    (λ p. well-piece properties s (substituted k limit (named properties s))
    (λ inner. well-substituted k limit properties s inner) p)
    limit (pieces text) (is nothing) tt

waits-unknown : (limit : ℕ) (properties : List Property) (s : List Known) (n other : ℕ)
    → comes_to limit properties s n ≡ waits other → known_at s other ≡ not_yet
unfolding Well
waits-unknown limit properties s n other e =
    subst (Well s) e
    (well-substituted deepest_fallback limit properties s (get_or properties n no_property).text)

-- ---- what is supposed

known-within : (s : List Known) (n : ℕ) (v : Option Value) → known_at s n ≡ computed v → n < length s
known-within [] n v e = absurd (cc)
known-within (k ∷ s) zero v e = omega arith
known-within (k ∷ s) (suc n) v e = let l : n < length s = known-within s n v e in omega arith

supposing-in : (s : List Known) (numbers : List ℕ) (n : ℕ) → n < length s
    → is_among numbers n ≡ true → known_at (supposing s numbers) n ≡ computed None
supposing-in s [] n l e = absurd (cc)
supposing-in s (m ∷ more) n l e = by (n == m) refl e (supposing-in s more n l)
  where
    by : (b : Bool) → (n == m) ≡ b → (b || is_among more n) ≡ true
        → (is_among more n ≡ true → known_at (supposing s more) n ≡ computed None)
        → known_at (set (supposing s more) m (computed None)) n ≡ computed None
    by true q h g =
        let same : n ≡ m = eq_true n m q in
        let within_more : m < length (supposing s more) =
        subst (λ (k : ℕ). k < length (supposing s more)) same (omega (arith, length-supposing s more)) in
        ap (known_at (set (supposing s more) m (computed None))) same
        ∙ get_or-set_same (supposing s more) m (computed None) not_yet within_more
    by false q h g =
        get_or-set_other (supposing s more) m n (computed None) not_yet (eq_false n m q) ∙ g h

supposing-out : (s : List Known) (numbers : List ℕ) (n : ℕ) → is_among numbers n ≡ false
    → known_at (supposing s numbers) n ≡ known_at s n
supposing-out s [] n e = refl
supposing-out s (m ∷ more) n e = by (n == m) refl e (supposing-out s more n)
  where
    by : (b : Bool) → (n == m) ≡ b → (b || is_among more n) ≡ false
        → (is_among more n ≡ false → known_at (supposing s more) n ≡ known_at s n)
        → known_at (set (supposing s more) m (computed None)) n ≡ known_at s n
    by true q h g = absurd (cc)
    by false q h g =
        get_or-set_other (supposing s more) m n (computed None) not_yet (eq_false n m q) ∙ g h

not_yet-known : {k : Known} {v : Option Value} → k ≡ not_yet → k ≡ computed v → ⊥
not_yet-known a b = cc

value_in : Known → Option Value
value_in not_yet = None
value_in (computed v) = v

same-value : {k : Known} {v w : Option Value} → k ≡ computed v → k ≡ computed w → v ≡ w
unfolding value_in
same-value a b = ap value_in (sym a ∙ b)

-- a supposed one is invalid
supposed-none : (s : List Known) (numbers : List ℕ) (n : ℕ) (v : Option Value)
    → is_among numbers n ≡ true → known_at (supposing s numbers) n ≡ computed v → v ≡ None
supposed-none s numbers n v e p =
    let l : n < length s =
    subst (λ (k : ℕ). n < k) (length-supposing s numbers) (known-within (supposing s numbers) n v p) in
    same-value p (supposing-in s numbers n l e)

suppose-agrees : (s t : List Known) (numbers : List ℕ) → Agree s t
    → ((m : ℕ) → is_among numbers m ≡ true → known_at s m ≡ not_yet) → Agree s (supposing t numbers)
unfolding Agree
suppose-agrees s t numbers a u = λ n v w p q. by n v w p q (is_among numbers n) refl
  where
    by : (n : ℕ) (v w : Option Value) → known_at s n ≡ computed v
        → known_at (supposing t numbers) n ≡ computed w → (b : Bool) → is_among numbers n ≡ b → v ≡ w
    by n v w p q true e = absurd (not_yet-known (u n e) p)
    by n v w p q false e = a n v w p (sym (supposing-out t numbers n e) ∙ q)

suppose-both : (s t : List Known) (ds bs : List ℕ) → Agree s t
    → ((m : ℕ) → is_among ds m ≡ true → known_at t m ≡ not_yet)
    → ((m : ℕ) → is_among bs m ≡ true → known_at s m ≡ not_yet)
    → Agree (supposing s ds) (supposing t bs)
unfolding Agree
suppose-both s t ds bs a ut us = λ n v w p q. by n v w p q (is_among ds n) (is_among bs n) refl refl
  where
    by : (n : ℕ) (v w : Option Value) → known_at (supposing s ds) n ≡ computed v
        → known_at (supposing t bs) n ≡ computed w → (x y : Bool) → is_among ds n ≡ x
        → is_among bs n ≡ y → v ≡ w
    by n v w p q true true d b = supposed-none s ds n v d p ∙ sym (supposed-none t bs n w b q)
    by n v w p q true false d b = absurd (not_yet-known (ut n d) (sym (supposing-out t bs n b) ∙ q))
    by n v w p q false true d b = absurd (not_yet-known (us n b) (sym (supposing-out s ds n d) ∙ p))
    by n v w p q false false d b =
        a n v w (sym (supposing-out s ds n d) ∙ p) (sym (supposing-out t bs n b) ∙ q)

suppose-extends : (t : List Known) (bs cs : List ℕ)
    → ((m : ℕ) → is_among bs m ≡ true → is_among cs m ≡ true)
    → ((m : ℕ) → is_among cs m ≡ true → known_at t m ≡ not_yet)
    → Extends (supposing t bs) (supposing t cs)
suppose-extends t bs cs w u = λ n v p. by n v p (is_among bs n) (is_among cs n) refl refl
  where
    by : (n : ℕ) (v : Option Value) → known_at (supposing t bs) n ≡ computed v → (x y : Bool)
        → is_among bs n ≡ x → is_among cs n ≡ y → known_at (supposing t cs) n ≡ computed v
    by n v p true y b c =
        let l : n < length t =
        subst (λ (k : ℕ). n < k) (length-supposing t bs) (known-within (supposing t bs) n v p) in
        supposing-in t cs n l (w n b) ∙ ap computed (sym (supposed-none t bs n v b p))
    by n v p false true b c = absurd (not_yet-known (u n c) (sym (supposing-out t bs n b) ∙ p))
    by n v p false false b c = supposing-out t cs n c ∙ sym (supposing-out t bs n b) ∙ p

-- ---- circles

true-false : true ≡ false → ⊥
true-false h = cc

-- what a property of a circle reads is of the circle
reads-within : (limit : ℕ) (properties : List Property) (s : List Known) (circle : List ℕ) (n o : ℕ)
    → IsCircle limit properties s circle → is_among circle n ≡ true
    → Reads limit properties s circle n o → is_among circle o ≡ true
reads-within limit properties s circle n o c e r = by (is_among circle o) refl
  where
    by : (b : Bool) → is_among circle o ≡ b → b ≡ true
    by true q = refl
    by false q =
        let here = waits-unknown limit properties (supposing s r.before) n o r.waits_for in
        let more = suppose-extends s r.before circle r.of_circle c.unknown in
        let out : is_among r.before o ≡ false = apart (is_among r.before o) refl in
        let still = waits-stays limit properties (supposing s r.before) (supposing s circle) n o more
        r.waits_for (supposing-out s circle o q ∙ sym (supposing-out s r.before o out) ∙ here) in
        absurd (subst IsDone still (c.no_others n e))
      where
        apart : (b : Bool) → is_among r.before o ≡ b → b ≡ false
        apart false h = refl
        apart true h = absurd (true-false (sym (r.of_circle o h) ∙ q))

-- one of the circle is read by it
first-read : (limit : ℕ) (properties : List Property) (s : List Known) (circle : List ℕ) (n m : ℕ)
    → LeadsTo limit properties s circle n m → (o : ℕ) × Reads limit properties s circle n o
first-read limit properties s circle n m (reads o r) = (o, r)
first-read limit properties s circle n m (then_reads b o l r) = first-read limit properties s circle n b l

-- where none of a circle is known, none of it is done
circle-waits : (limit : ℕ) (properties : List Property) (s t : List Known) (circle : List ℕ) (n : ℕ)
    → Agree s t → IsCircle limit properties t circle
    → ((m : ℕ) → is_among circle m ≡ true → known_at s m ≡ not_yet) → is_among circle n ≡ true
    → IsDone (comes_to limit properties s n) → ⊥
circle-waits limit properties s t circle n a c u e d =
    let first = first-read limit properties t circle n n (c.each_leads n n e e) in
    let o = first.0 in
    let r = first.1 in
    done-waits limit properties s (supposing t r.before) n o
    (suppose-agrees s t r.before a (λ m h. u m (r.of_circle m h))) d r.waits_for
    (u o (reads-within limit properties t circle n o c e r))
    (waits-unknown limit properties (supposing t r.before) n o r.waits_for)

-- what a property of two circles reads is of both
shared-read : (limit : ℕ) (properties : List Property) (s t : List Known) (ds cs : List ℕ) (z o : ℕ)
    → Agree t s → IsCircle limit properties s ds → IsCircle limit properties t cs
    → ((k : ℕ) → is_among ds k ≡ true → known_at t k ≡ not_yet)
    → ((k : ℕ) → is_among cs k ≡ true → known_at s k ≡ not_yet)
    → is_among ds z ≡ true → is_among cs z ≡ true → Reads limit properties s ds z o
    → (is_among ds o ≡ true) × (is_among cs o ≡ true)
shared-read limit properties s t ds cs z o a d c ut us x y r =
    (reads-within limit properties s ds z o d x r, by (is_among cs o) refl)
  where
    by : (b : Bool) → is_among cs o ≡ b → b ≡ true
    by true q = refl
    by false q = absurd (done-waits limit properties (supposing t cs) (supposing s r.before) z o
        (suppose-both t s cs r.before a us (λ m h. ut m (r.of_circle m h)))
        (c.no_others z y) r.waits_for
        (supposing-out t cs o q ∙ ut o (reads-within limit properties s ds z o d x r))
        (waits-unknown limit properties (supposing s r.before) z o r.waits_for))

-- two circles that share a property are the same
circle-same : (limit : ℕ) (properties : List Property) (s t : List Known) (ds cs : List ℕ) (n m : ℕ)
    → Agree t s → IsCircle limit properties s ds → IsCircle limit properties t cs
    → ((k : ℕ) → is_among ds k ≡ true → known_at t k ≡ not_yet)
    → ((k : ℕ) → is_among cs k ≡ true → known_at s k ≡ not_yet)
    → is_among ds n ≡ true → is_among cs n ≡ true → LeadsTo limit properties s ds n m
    → (is_among ds m ≡ true) × (is_among cs m ≡ true)
circle-same limit properties s t ds cs n m a d c ut us p q (reads o r) =
    shared-read limit properties s t ds cs n o a d c ut us p q r
circle-same limit properties s t ds cs n m a d c ut us p q (then_reads b o l r) =
    let here = circle-same limit properties s t ds cs n b a d c ut us p q l in
    shared-read limit properties s t ds cs b o a d c ut us here.0 here.1 r

-- ---- two ways to know

-- one step
data Step (limit : ℕ) (properties : List Property) (s t : List Known) : Type 0 where
  one : (n : ℕ) → known_at s n ≡ not_yet → IsDone (comes_to limit properties s n)
      → Becomes s (n ∷ []) (kept (get_or properties n no_property) (comes_to limit properties s n)) t
      → Step limit properties s t
  all : (circle : List ℕ) → IsCircle limit properties s circle → Becomes s circle None t
      → Step limit properties s t

-- if one of a circle is unknown, all are
AllOrNone : List Known → List ℕ → Type 0
AllOrNone s circle = (m o : ℕ) → is_among circle m ≡ true → is_among circle o ≡ true
    → known_at s m ≡ not_yet → known_at s o ≡ not_yet

record Pair (limit : ℕ) (properties : List Property) (s t : List Known) : Type 0 where
  agree : Agree s t
  left : (circle : List ℕ) → IsCircle limit properties t circle → AllOrNone s circle
  right : (circle : List ℕ) → IsCircle limit properties s circle → AllOrNone t circle

pair-swap : (limit : ℕ) (properties : List Property) (s t : List Known)
    → Pair limit properties s t → Pair limit properties t s
pair-swap limit properties s t p = record {
  agree = agree-swap s t p.agree;
  left = p.right;
  right = p.left;
}

-- what is unknown after a step was not of it, and was unknown
still-unknown : (s t : List Known) (numbers : List ℕ) (v : Option Value) (n : ℕ)
    → Becomes s numbers v t → known_at t n ≡ not_yet
    → (is_among numbers n ≡ false) × (known_at s n ≡ not_yet)
still-unknown s t numbers v n b e = by (is_among numbers n) refl (sym (b.1 n) ∙ e)
  where
    by : (x : Bool) → is_among numbers n ≡ x → (if x then computed v else known_at s n) ≡ not_yet
        → (is_among numbers n ≡ false) × (known_at s n ≡ not_yet)
    by true q h = absurd (cc)
    by false q h = (q, h)

-- what is not of a step stays unknown
stays-unknown : (s t : List Known) (numbers : List ℕ) (v : Option Value) (n : ℕ)
    → Becomes s numbers v t → known_at s n ≡ not_yet → (is_among numbers n ≡ true → ⊥)
    → known_at t n ≡ not_yet
stays-unknown s t numbers v n b e out = b.1 n ∙ by (is_among numbers n) refl
  where
    by : (x : Bool) → is_among numbers n ≡ x → (if x then computed v else known_at s n) ≡ not_yet
    by true q = absurd (out q)
    by false q = e

only-one : (n m : ℕ) → (m == n || false) ≡ true → m ≡ n
only-one n m e = eq_true m n (by (m == n) e)
  where
    by : (b : Bool) → (b || false) ≡ true → b ≡ true
    by true h = refl
    by false h = h

step-keeps : (limit : ℕ) (properties : List Property) (s t after : List Known)
    → Pair limit properties s t → Step limit properties t after → (circle : List ℕ)
    → IsCircle limit properties s circle → AllOrNone after circle
unfolding AllOrNone
step-keeps limit properties s t after p (one n u d b) circle c = λ m o x y e.
    let before = still-unknown t after (n ∷ []) (kept (get_or properties n no_property) (comes_to limit properties t n)) m b e in
    let none : (k : ℕ) → is_among circle k ≡ true → known_at t k ≡ not_yet = λ k h.
    p.right circle c m k x h before.1 in
    stays-unknown t after (n ∷ []) (kept (get_or properties n no_property) (comes_to limit properties t n)) o b
    (none o y) (λ q.
    circle-waits limit properties t s circle o (agree-swap s t p.agree) c none y
    (subst (λ (k : ℕ). IsDone (comes_to limit properties t k)) (sym (only-one n o q)) d))
step-keeps limit properties s t after p (all cs k b) circle c = λ m o x y e.
    let before = still-unknown t after cs None m b e in
    let none : (j : ℕ) → is_among circle j ≡ true → known_at t j ≡ not_yet = λ j h.
    p.right circle c m j x h before.1 in
    stays-unknown t after cs None o b (none o y) (λ q.
    let others : (j : ℕ) → is_among cs j ≡ true → known_at s j ≡ not_yet = λ j h.
    p.left cs k o j q h (c.unknown o y) in
    let same = circle-same limit properties s t circle cs o m (agree-swap s t p.agree) c k none others y q
    (c.each_leads o m y x) in
    true-false (sym same.1 ∙ before.0))

-- what a step makes known
new-value : (s t : List Known) (numbers : List ℕ) (v w : Option Value) (n : ℕ)
    → Becomes s numbers v t → known_at s n ≡ not_yet → known_at t n ≡ computed w
    → (is_among numbers n ≡ true) × (v ≡ w)
new-value s t numbers v w n b u e = by (is_among numbers n) refl (sym (b.1 n) ∙ e)
  where
    by : (x : Bool) → is_among numbers n ≡ x → (if x then computed v else known_at s n) ≡ computed w
        → (is_among numbers n ≡ true) × (v ≡ w)
    by true q h = (q, same-value refl h)
    by false q h = absurd (not_yet-known u h)

new-agree : (limit : ℕ) (properties : List Property) (s after t beyond : List Known) (n : ℕ)
    (v w : Option Value) → Pair limit properties s t → Step limit properties s after
    → Step limit properties t beyond → known_at s n ≡ not_yet → known_at t n ≡ not_yet
    → known_at after n ≡ computed v → known_at beyond n ≡ computed w → v ≡ w
unfolding AllOrNone
new-agree limit properties s after t beyond n v w p (one k u d b) (one l x e c) us ut q r =
    let first = new-value s after (k ∷ []) (kept (get_or properties k no_property) (comes_to limit properties s k)) v n b us q in
    let second = new-value t beyond (l ∷ []) (kept (get_or properties l no_property) (comes_to limit properties t l)) w n c ut r in
    let fk : n ≡ k = only-one k n first.0 in
    let fl : n ≡ l = only-one l n second.0 in
    let kl : k ≡ l = sym fk ∙ fl in
    sym first.1
    ∙ ap (kept (get_or properties k no_property))
    (done-same limit properties s t k p.agree d
    (subst (λ (j : ℕ). IsDone (comes_to limit properties t j)) (sym kl) e))
    ∙ ap (λ (j : ℕ). kept (get_or properties j no_property) (comes_to limit properties t j)) kl
    ∙ second.1
new-agree limit properties s after t beyond n v w p (one k u d b) (all cs c g) us ut q r =
    let first = new-value s after (k ∷ []) (kept (get_or properties k no_property) (comes_to limit properties s k)) v n b us q in
    let second = new-value t beyond cs None w n g ut r in
    absurd (circle-waits limit properties s t cs n p.agree c
    (λ m h. p.left cs c n m second.0 h us) second.0
    (subst (λ (j : ℕ). IsDone (comes_to limit properties s j)) (sym (only-one k n first.0)) d))
new-agree limit properties s after t beyond n v w p (all cs c g) (one l x e b) us ut q r =
    let first = new-value s after cs None v n g us q in
    let second = new-value t beyond (l ∷ []) (kept (get_or properties l no_property) (comes_to limit properties t l)) w n b ut r in
    absurd (circle-waits limit properties t s cs n (agree-swap s t p.agree) c
    (λ m h. p.right cs c n m first.0 h ut) first.0
    (subst (λ (j : ℕ). IsDone (comes_to limit properties t j)) (sym (only-one l n second.0)) e))
new-agree limit properties s after t beyond n v w p (all cs c g) (all ds d h) us ut q r =
    sym (new-value s after cs None v n g us q).1 ∙ (new-value t beyond ds None w n h ut r).1

step-extends : (limit : ℕ) (properties : List Property) (s t : List Known)
    → Step limit properties s t → Extends s t
step-extends limit properties s t (one n u d b) =
    extends-becomes s t (n ∷ []) (kept (get_or properties n no_property) (comes_to limit properties s n)) b
    (λ m e. ap (known_at s) (only-one n m e) ∙ u)
step-extends limit properties s t (all cs c b) = extends-becomes s t cs None b c.unknown

step-agrees : (limit : ℕ) (properties : List Property) (s after t beyond : List Known)
    → Pair limit properties s t → Pair limit properties after t → Pair limit properties s beyond
    → Step limit properties s after → Step limit properties t beyond → Agree after beyond
unfolding Agree
step-agrees limit properties s after t beyond p pa pb x y = λ n v w q r.
    by n v w q r (known_at s n) refl (known_at t n) refl
  where
    by : (n : ℕ) (v w : Option Value) → known_at after n ≡ computed v → known_at beyond n ≡ computed w
        → (a : Known) → known_at s n ≡ a → (b : Known) → known_at t n ≡ b → v ≡ w
    by n v w q r (computed a) e k f =
        same-value q (step-extends limit properties s after x n a e) ∙ pb.agree n a w e r
    by n v w q r not_yet e (computed b) f =
        pa.agree n v b q f ∙ same-value (step-extends limit properties t beyond y n b f) r
    by n v w q r not_yet e not_yet f =
        new-agree limit properties s after t beyond n v w p x y e f q r

-- ---- all that can be reached

none-unknown : (properties : List Property) (n : ℕ) → known_at (none_known properties) n ≡ not_yet
none-unknown [] n = refl
none-unknown (p ∷ properties) zero = refl
none-unknown (p ∷ properties) (suc n) = none-unknown properties n

pair-step : (limit : ℕ) (properties : List Property) (s t after : List Known) → Agree s after
    → ((circle : List ℕ) → IsCircle limit properties after circle → AllOrNone s circle)
    → Pair limit properties s t → Step limit properties t after → Pair limit properties s after
pair-step limit properties s t after a l p x = record {
  agree = a;
  left = l;
  right = λ circle c. step-keeps limit properties s t after p x circle c;
}

nothing-agrees : (properties : List Property) (t : List Known) → Agree (none_known properties) t
unfolding Agree
nothing-agrees properties t = λ n v w p q. absurd (not_yet-known (none-unknown properties n) p)

nothing-left : (properties : List Property) (circle : List ℕ) → AllOrNone (none_known properties) circle
unfolding AllOrNone
nothing-left properties circle = λ m o x y e. none-unknown properties o

pair-begins : (limit : ℕ) (properties : List Property) (t : List Known)
    → Reaches limit properties (none_known properties) t
    → Pair limit properties (none_known properties) t
pair-begins limit properties t begins = record {
  agree = nothing-agrees properties (none_known properties);
  left = λ circle c. nothing-left properties circle;
  right = λ circle c. nothing-left properties circle;
}
pair-begins limit properties t (computes stage after n r u d b) =
    pair-step limit properties (none_known properties) stage after (nothing-agrees properties after)
    (λ circle c. nothing-left properties circle) (pair-begins limit properties stage r) (one n u d b)
pair-begins limit properties t (circles stage after circle r c b) =
    pair-step limit properties (none_known properties) stage after (nothing-agrees properties after)
    (λ cs k. nothing-left properties cs) (pair-begins limit properties stage r) (all circle c b)

pair-more : (limit : ℕ) (properties : List Property) (s after t : List Known)
    → Reaches limit properties (none_known properties) after
    → ((u : List Known) → Reaches limit properties (none_known properties) u → Pair limit properties s u)
    → Step limit properties s after → Reaches limit properties (none_known properties) t
    → Pair limit properties after t
pair-more limit properties s after t ra ih x begins =
    pair-swap limit properties (none_known properties) after (pair-begins limit properties after ra)
pair-more limit properties s after t ra ih x (computes stage beyond n r u d b) =
    let before = pair-more limit properties s after stage ra ih x r in
    let here = ih beyond (computes stage beyond n r u d b) in
    pair-step limit properties after stage beyond
    (step-agrees limit properties s after stage beyond (ih stage r) before here x (one n u d b))
    (λ circle c. step-keeps limit properties beyond s after (pair-swap limit properties s beyond here) x circle c)
    before (one n u d b)
pair-more limit properties s after t ra ih x (circles stage beyond circle r c b) =
    let before = pair-more limit properties s after stage ra ih x r in
    let here = ih beyond (circles stage beyond circle r c b) in
    pair-step limit properties after stage beyond
    (step-agrees limit properties s after stage beyond (ih stage r) before here x (all circle c b))
    (λ cs k. step-keeps limit properties beyond s after (pair-swap limit properties s beyond here) x cs k)
    before (all circle c b)

pair : (limit : ℕ) (properties : List Property) (s t : List Known)
    → Reaches limit properties (none_known properties) s
    → Reaches limit properties (none_known properties) t → Pair limit properties s t
pair limit properties s t begins rt = pair-begins limit properties t rt
pair limit properties s t (computes stage after n r u d b) rt =
    pair-more limit properties stage after t (computes stage after n r u d b)
    (λ w rw. pair limit properties stage w r rw) (one n u d b) rt
pair limit properties s t (circles stage after circle r c b) rt =
    pair-more limit properties stage after t (circles stage after circle r c b)
    (λ w rw. pair limit properties stage w r rw) (all circle c b) rt

-- what is resolved is the same, whatever way it became known
pub resolved-same : (limit : ℕ) (properties : List Property) (wanted : ℕ) (s t : List Known)
    → Resolved limit properties wanted s → Resolved limit properties wanted t
    → (n : ℕ) → n < wanted → n < length properties → known_at t n ≡ known_at s n
unfolding Agree
resolved-same limit properties wanted s t a b n l m =
    by (known_at s n) refl (a.1 n l m) (known_at t n) refl (b.1 n l m)
  where
    by : (k : Known) → known_at s n ≡ k → IsComputed k → (j : Known) → known_at t n ≡ j → IsComputed j
        → j ≡ k
    by not_yet e x j f y = absurd x
    by (computed v) e x not_yet f y = absurd y
    by (computed v) e x (computed w) f y =
        ap computed (sym ((pair limit properties s t a.0 b.0).agree n v w e f))
