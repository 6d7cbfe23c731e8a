-- What is read of a value stays the same, however much becomes known.
use Rattle.std.proofs.Common.{◌≡◌, ◌∙◌, ℕ, suc, ◌<◌, ◌+◌, ◌-◌, ◌++◌, Bool, true, false, List, [], ◌∷◌, Option, Some, None, length, map, arith, refl, sym, ap, subst, if◌then◌else◌, nat_lt, bytes_eq}
use Rattle.css_text.proofs.reading.EachLemmas.{took}
use Rattle.css_syntax.specs.Escapes.{decoded}
use Rattle.css_values.specs.Pieces.{Piece, plain, reference, broken, piece, pieces}
use Rattle.css_values.specs.Substitution.{Value, Outcome, invalid, is, waits, Target, bad, absent, unknown, found, nothing, outcome_in_place, is_custom_name, then_value, fallback_value, reference_value, piece_value, substituted}
use Rattle.css_values.specs.Resolution.{Property, Known, not_yet, computed, known_at, known_target, value_target, given_value, property_at, number_from, number_target, named, IsDone}
use Rattle.css_values.specs.declared.readings.Outer.{Outer}
use Rattle.css_values.specs.declared.readings.Turn.{Turn}
use Rattle.css_values.specs.declared.readings.Turn.TheVariants as turns
use Rattle.css_values.specs.internal.Readings.{Step, moves, stops, enters, fallback_step, reference_step, piece_step, Reading, outer_of, to_come, finish, run, Extends, Same, Stops, Ends, IsUnknown, outer_size, size, Leaves, Takes, TurnsTo}
use Rattle.css_values.proofs.PieceLemmas.{piece-takes, piece-fallback}
use Rattle.css_values.proofs.SubstitutionLemmas.{waits-stay, to_come-none, to_come-some, substituted-begins, substituted-none, draft-done, then-waits, then-invalid}

-- ---- what a name names, as more becomes known

-- what is known stays, and what is not may wait
unfoldable pub Kept : List Known → Target → Target → Type 0
Kept t bad u = u ≡ bad
Kept t absent u = u ≡ absent
Kept t (unknown n) u = known_at t n ≡ not_yet → u ≡ unknown n
Kept t (found v) u = u ≡ found v

kept-value : (t : List Known) (u : Target) (v : Option Value) → u ≡ value_target v
    → Kept t (value_target v) u
unfolding Kept
kept-value t u None e = e
kept-value t u (Some v) e = e

kept-known : (p : Property) (t : List Known) (n : ℕ) (k : Known)
    → ((v : Option Value) → k ≡ computed v → known_at t n ≡ computed v)
    → Kept t (known_target p n k) (known_target p n (known_at t n))
unfolding Kept
kept-known p t n not_yet h = λ e. ap (known_target p n) e
kept-known p t n (computed v) h =
    kept-value t (known_target p n (known_at t n)) (given_value p v) (ap (known_target p n) (h v refl))

kept-number : (properties : List Property) (s t : List Known) (o : Option ℕ) → Extends s t
    → Kept t (number_target properties s o) (number_target properties t o)
unfolding Kept
kept-number properties s t None h = refl
kept-number properties s t (Some n) h =
    kept-known (property_at properties n) t n (known_at s n) (h n)

pub kept-named : (properties : List Property) (s t : List Known) (name : List ℕ) → Extends s t
    → Kept t (named properties s name) (named properties t name)
unfolding Kept
kept-named properties s t name h = by (is_custom_name (decoded name))
  where
    by : (b : Bool) → Kept t
        (if b then number_target properties s (number_from 0 properties (decoded name)) else bad)
        (if b then number_target properties t (number_from 0 properties (decoded name)) else bad)
    by true = kept-number properties s t (number_from 0 properties (decoded name)) h
    by false = refl

-- ---- numbers of names

unfoldable pub SomeBelow : ℕ → Option ℕ → Type 0
SomeBelow n None = Unit {0}
SomeBelow n (Some m) = m < n

pub number-below : (m : ℕ) (properties : List Property) (name : List ℕ)
    → SomeBelow (m + length properties) (number_from m properties name)
unfolding SomeBelow
number-below m [] name = tt
number-below m (p ∷ more) name =
    by (number-below (suc m) more name) (bytes_eq (decoded p.name) name)
  where
    by : SomeBelow (suc m + length more) (number_from (suc m) more name) → (b : Bool)
        → SomeBelow (m + length (p ∷ more)) (if b then Some m else number_from (suc m) more name)
    by h true = omega arith
    by h false =
        let e : suc m + length more ≡ m + length (p ∷ more) = omega arith in
        subst (λ (k : ℕ). SomeBelow k (number_from (suc m) more name)) e h

number_in_target : ℕ → Target → ℕ
number_in_target m bad = m
number_in_target m absent = m
number_in_target m (unknown n) = n
number_in_target m (found v) = m

value-known : (v : Option Value) (n : ℕ) → value_target v ≡ unknown n → ⊥
value-known None n h = absurd (cc)
value-known (Some v) n h = absurd (cc)

known-unknown : (properties : List Property) (s : List Known) (n m : ℕ) (p : Property) (k : Known)
    → known_at s m ≡ k → m < length properties → known_target p m k ≡ unknown n
    → IsUnknown properties s n
unfolding number_in_target
known-unknown properties s n m p not_yet e l h =
    let same : m ≡ n = ap (λ (t : Target). number_in_target m t) h in
    subst (IsUnknown properties s) same (e, l)
known-unknown properties s n m p (computed v) e l h = absurd (value-known (given_value p v) n h)

number-unknown : (properties : List Property) (s : List Known) (n : ℕ) (o : Option ℕ)
    → SomeBelow (length properties) o → number_target properties s o ≡ unknown n → IsUnknown properties s n
unfolding SomeBelow
number-unknown properties s n None l h = absurd (cc)
number-unknown properties s n (Some m) l h =
    known-unknown properties s n m (property_at properties m) (known_at s m) refl l h

pub named-unknown : (properties : List Property) (s : List Known) (name : List ℕ) (n : ℕ)
    → named properties s name ≡ unknown n → IsUnknown properties s n
named-unknown properties s name n h = by (is_custom_name (decoded name)) h
  where
    by : (b : Bool)
        → (if b then number_target properties s (number_from 0 properties (decoded name)) else bad) ≡ unknown n
        → IsUnknown properties s n
    by true e =
        let z : 0 + length properties ≡ length properties = omega arith in
        number-unknown properties s n (number_from 0 properties (decoded name))
        (subst (λ (k : ℕ). SomeBelow k (number_from 0 properties (decoded name))) z
        (number-below 0 properties (decoded name))) e
    by false e = absurd (cc)

-- ---- what a step says of a piece

moved : Step → Outcome
moved (moves o) = o
moved (stops n) = invalid
moved (enters text) = invalid

stopped : Step → ℕ
stopped (moves o) = 0
stopped (stops n) = n
stopped (enters text) = 0

entered : Step → List ℕ
entered (moves o) = []
entered (stops n) = []
entered (enters text) = text

-- how what a step leads to is what the piece comes to after what was put together
Means : ℕ → ℕ → (List ℕ → Target) → List Known → Outcome → Outcome → Step → Type 0
Means k limit names t so_far value (moves o) = then_value limit so_far value ≡ o
Means k limit names t so_far value (stops n) =
    known_at t n ≡ not_yet → then_value limit so_far value ≡ waits n
Means k limit names t so_far value (enters inner) =
    value ≡ outcome_in_place (substituted k limit names inner)

means-fallback : (k limit : ℕ) (names : List ℕ → Target) (t : List Known) (so_far : Outcome)
    (nests : Bool) (fallback : Option (List ℕ)) → IsDone so_far → (nests ≡ false → k ≡ 0)
    → Means k limit names t so_far (fallback_value (substituted k limit names) fallback)
    (fallback_step nests fallback)
unfolding Means
means-fallback k limit names t so_far nests None d z = then-invalid limit so_far d
means-fallback k limit names t so_far true (Some inner) d z = refl
means-fallback k limit names t so_far false (Some inner) d z =
    ap (λ (o : Outcome). then_value limit so_far (outcome_in_place o))
    (substituted-none k limit names inner (z refl))
    ∙ then-invalid limit so_far d

means-reference : (k limit : ℕ) (names : List ℕ → Target) (t : List Known) (so_far : Outcome)
    (nests : Bool) (T u : Target) (fallback : Option (List ℕ)) → IsDone so_far
    → (nests ≡ false → k ≡ 0) → Kept t T u
    → Means k limit names t so_far (reference_value (substituted k limit names) u fallback)
    (reference_step limit nests so_far T fallback)
unfolding Means Kept
means-reference k limit names t so_far nests bad u fallback d z h =
    ap (λ (x : Target). then_value limit so_far (reference_value (substituted k limit names) x fallback)) h
    ∙ then-invalid limit so_far d
means-reference k limit names t so_far nests absent u fallback d z h =
    subst (λ (x : Target). Means k limit names t so_far
    (reference_value (substituted k limit names) x fallback) (fallback_step nests fallback)) (sym h)
    (means-fallback k limit names t so_far nests fallback d z)
means-reference k limit names t so_far nests (unknown n) u fallback d z h = λ e.
    ap (λ (x : Target). then_value limit so_far (reference_value (substituted k limit names) x fallback)) (h e)
    ∙ then-waits limit n so_far d
means-reference k limit names t so_far nests (found v) u fallback d z h =
    ap (λ (x : Target). then_value limit so_far (reference_value (substituted k limit names) x fallback)) h

means-piece : (k limit : ℕ) (properties : List Property) (s t : List Known) (so_far : Outcome)
    (nests : Bool) (p : Piece) → IsDone so_far → (nests ≡ false → k ≡ 0) → Extends s t
    → Means k limit (named properties t) t so_far
    (piece_value (substituted k limit (named properties t)) (named properties t) p)
    (piece_step limit nests (named properties s) so_far p)
unfolding Means
means-piece k limit properties s t so_far nests (plain text) d z x = refl
means-piece k limit properties s t so_far nests (reference name fallback) d z x =
    means-reference k limit (named properties t) t so_far nests (named properties s name)
    (named properties t name) fallback d z (kept-named properties s t name x)
means-piece k limit properties s t so_far nests broken d z x = then-invalid limit so_far d

-- a step that stops names what is not known
step-unknown : (limit : ℕ) (properties : List Property) (s : List Known) (so_far : Outcome)
    (nests : Bool) (p : Piece) (n : ℕ)
    → piece_step limit nests (named properties s) so_far p ≡ stops n → IsUnknown properties s n
unfolding stopped
step-unknown limit properties s so_far nests (plain text) n e = absurd (cc)
step-unknown limit properties s so_far nests (reference name fallback) n e =
    by (named properties s name) refl e
  where
    fallen : (b : Bool) (o : Option (List ℕ)) → fallback_step b o ≡ stops n → IsUnknown properties s n
    fallen b None h = absurd (cc)
    fallen true (Some inner) h = absurd (cc)
    fallen false (Some inner) h = absurd (cc)

    by : (T : Target) → named properties s name ≡ T
        → reference_step limit nests so_far T fallback ≡ stops n → IsUnknown properties s n
    by bad k h = absurd (cc)
    by absent k h = fallen nests fallback h
    by (unknown m) k h =
        named-unknown properties s name n (k ∙ ap (λ (x : Step). unknown (stopped x)) h)
    by (found v) k h = absurd (cc)
step-unknown limit properties s so_far nests broken n e = absurd (cc)

-- a step that enters a fallback makes what is left shorter
step-enters : (limit : ℕ) (names : List ℕ → Target) (so_far : Outcome) (nests : Bool) (p : Piece)
    (inner rest left : List ℕ) → piece rest ≡ Some (p, left)
    → piece_step limit nests names so_far p ≡ enters inner
    → length inner + length left + 1 < length rest
unfolding entered
step-enters limit names so_far nests (plain text) inner rest left e h = absurd (cc)
step-enters limit names so_far nests broken inner rest left e h = absurd (cc)
step-enters limit names so_far nests (reference name fallback) inner rest left e h =
    by (names name) fallback e h
  where
    fallen : (b : Bool) (o : Option (List ℕ)) → piece rest ≡ Some (reference name o, left)
        → fallback_step b o ≡ enters inner → length inner + length left + 1 < length rest
    fallen b None k g = absurd (cc)
    fallen true (Some text) k g =
        let same : text ≡ inner = ap entered g in
        piece-fallback rest name inner left
        (k ∙ ap (λ (x : List ℕ). Some (reference name (Some x), left)) same)
    fallen false (Some text) k g = absurd (cc)

    by : (T : Target) (o : Option (List ℕ)) → piece rest ≡ Some (reference name o, left)
        → reference_step limit nests so_far T o ≡ enters inner
        → length inner + length left + 1 < length rest
    by bad o k g = absurd (cc)
    by absent o k g = fallen nests o k g
    by (unknown m) o k g = absurd (cc)
    by (found v) o k g = absurd (cc)

-- ---- fallbacks that are read

abbrev pub AreDone : List (Outcome × List ℕ) → Type 0
AreDone [] = Unit {0}
AreDone (o ∷ more) = IsDone o.0 × AreDone more

pub outer-done : (items : List Outer) → AreDone (map outer_of items)
outer-done [] = tt
outer-done (o ∷ more) = (draft-done o.draft, outer-done more)

finish-waits : (n limit k : ℕ) (names : List ℕ → Target) (outer : List (Outcome × List ℕ))
    → AreDone outer → finish n limit names outer (waits k) ≡ waits k
finish-waits n limit k names [] h = refl
finish-waits n limit k names (o ∷ more) h =
    ap (λ (x : Outcome). to_come n limit names (then_value limit o.0 (outcome_in_place x)) o.1)
    (finish-waits (n - 1) limit k names more h.1)
    ∙ ap (λ (x : Outcome). to_come n limit names x o.1) (then-waits limit k o.0 h.0)
    ∙ waits-stay (piece_value (substituted n limit names) names) limit k (pieces o.1)

finish-append : (n limit : ℕ) (names : List ℕ → Target) (outer : List (Outcome × List ℕ))
    (last : Outcome × List ℕ) (inner : Outcome)
    → finish n limit names (outer ++ last ∷ []) inner
    ≡ finish n limit names outer (to_come (n - length outer) limit names
    (then_value limit last.0 (outcome_in_place inner)) last.1)
finish-append n limit names [] last inner =
    let e : n ≡ n - length {A = Outcome × List ℕ} [] = omega arith in
    ap (λ (k : ℕ). to_come k limit names (then_value limit last.0 (outcome_in_place inner)) last.1) e
finish-append n limit names (o ∷ more) last inner =
    let e : n - 1 - length more ≡ n - length (o ∷ more) = omega arith in
    ap (λ (x : Outcome). to_come n limit names (then_value limit o.0 (outcome_in_place x)) o.1)
    (finish-append (n - 1) limit names more last inner
    ∙ ap (λ (k : ℕ). finish (n - 1) limit names more (to_come k limit names
    (then_value limit last.0 (outcome_in_place inner)) last.1)) e)

length-append-one : {A : Type 0} (xs : List A) (x : A) → length (xs ++ x ∷ []) ≡ length xs + 1
length-append-one [] x = omega arith
length-append-one (y ∷ xs) x = omega (arith, length-append-one xs x)

size-append : (outer : List (Outcome × List ℕ)) (last : Outcome × List ℕ)
    → outer_size (outer ++ last ∷ []) ≡ outer_size outer + suc (length last.1)
size-append [] last = omega arith
size-append (o ∷ more) last = omega (arith, size-append more last)

-- ---- a turn

enters-nests : (limit : ℕ) (names : List ℕ → Target) (so_far : Outcome) (nests : Bool) (p : Piece)
    (inner : List ℕ) → piece_step limit nests names so_far p ≡ enters inner → nests ≡ true
enters-nests limit names so_far nests (plain text) inner h = absurd (cc)
enters-nests limit names so_far nests broken inner h = absurd (cc)
enters-nests limit names so_far nests (reference name fallback) inner h =
    by (names name) fallback h
  where
    fallen : (b : Bool) (o : Option (List ℕ)) → fallback_step b o ≡ enters inner → b ≡ true
    fallen b None g = absurd (cc)
    fallen true (Some text) g = refl
    fallen false (Some text) g = absurd (cc)

    by : (T : Target) (o : Option (List ℕ)) → reference_step limit nests so_far T o ≡ enters inner
        → nests ≡ true
    by bad o g = absurd (cc)
    by absent o g = fallen nests o g
    by (unknown m) o g = absurd (cc)
    by (found v) o g = absurd (cc)

no_room : (n : ℕ) → nat_lt n 65 ≡ false → 65 - n ≡ 0
no_room n h = grind arith

is_room : (n : ℕ) → nat_lt n 65 ≡ true → n < 65
is_room n h = grind arith

pub turn-takes : (limit : ℕ) (properties : List Property) (s : List Known) (old new : Reading)
    (turn : Turn) (p : Piece) (left : List ℕ) → IsDone old.so_far → AreDone old.outer
    → piece old.rest ≡ Some (p, left)
    → Takes (piece_step limit (nat_lt (length old.outer) 65) (named properties s) old.so_far p) left old turn new
    → TurnsTo limit properties s old turn new
unfolding Means
turn-takes limit properties s old new turn p left d a e h =
    by (piece_step limit nests (named properties s) old.so_far p) refl h
  where
    nests : Bool
    nests = nat_lt (length old.outer) 65

    k : ℕ
    k = 65 - length old.outer

    value : List Known → Outcome
    value t = piece_value (substituted k limit (named properties t)) (named properties t) p

    means : (t : List Known) → Extends s t
        → Means k limit (named properties t) t old.so_far (value t)
        (piece_step limit nests (named properties s) old.so_far p)
    means t x = means-piece k limit properties s t old.so_far nests p d (no_room (length old.outer)) x

    reads : (t : List Known) → run limit (named properties t) old
        ≡ finish 65 limit (named properties t) old.outer
        (to_come k limit (named properties t) (then_value limit old.so_far (value t)) left)
    reads t = ap (finish 65 limit (named properties t) old.outer)
        (to_come-some k limit (named properties t) old.so_far old.rest left p e)

    by : (step : Step) → piece_step limit nests (named properties s) old.so_far p ≡ step
        → Takes step left old turn new → TurnsTo limit properties s old turn new
    by (moves o) q g =
        let after : Reading = record { so_far = o; rest = left; outer = old.outer } in
        let same : Same limit properties s old after = λ t x.
        let m : then_value limit old.so_far (value t) ≡ o =
        subst (Means k limit (named properties t) t old.so_far (value t)) q (means t x) in
        sym (reads t ∙ ap (λ (y : Outcome). finish 65 limit (named properties t) old.outer
        (to_come k limit (named properties t) y left)) m) in
        let less : length left < length old.rest = took piece piece-takes old.rest left p e in
        let smaller : size after < size old = omega arith in
        subst (λ (u : Turn). TurnsTo limit properties s old u new) (sym g.0)
        (subst (λ (r : Reading). Same limit properties s old r × (size r < size old)) (sym g.1)
        (same, smaller))
    by (stops n) q g =
        let stop : Stops limit properties s n old = λ t x u.
        let m : then_value limit old.so_far (value t) ≡ waits n =
        subst (Means k limit (named properties t) t old.so_far (value t)) q (means t x) u in
        reads t ∙ ap (λ (y : Outcome). finish 65 limit (named properties t) old.outer
        (to_come k limit (named properties t) y left)) m
        ∙ ap (finish 65 limit (named properties t) old.outer)
        (waits-stay (piece_value (substituted k limit (named properties t)) (named properties t)) limit n (pieces left))
        ∙ finish-waits 65 limit n (named properties t) old.outer a in
        subst (λ (u : Turn). TurnsTo limit properties s old u new) (sym g.0)
        (g.1, step-unknown limit properties s old.so_far nests p n q, stop)
    by (enters inner) q g =
        let last : Outcome × List ℕ = (old.so_far, left) in
        let after : Reading = record { so_far = is nothing; rest = inner; outer = old.outer ++ last ∷ [] } in
        let room : length old.outer < 65 =
        is_room (length old.outer) (enters-nests limit (named properties s) old.so_far nests p inner q) in
        let count : length (old.outer ++ last ∷ []) ≡ length old.outer + 1 =
        length-append-one old.outer last in
        let fuel : 65 - length (old.outer ++ last ∷ []) ≡ k - 1 = omega arith in
        let more : 0 < k = omega arith in
        let same : Same limit properties s old after = λ t x.
        let names : List ℕ → Target = named properties t in
        let m : value t ≡ outcome_in_place (substituted k limit names inner) =
        subst (Means k limit names t old.so_far (value t)) q (means t x) in
        finish-append 65 limit names old.outer last
        (to_come (65 - length (old.outer ++ last ∷ [])) limit names (is nothing) inner)
        ∙ ap (λ (y : Outcome). finish 65 limit names old.outer
        (to_come k limit names (then_value limit old.so_far (outcome_in_place y)) left))
        (ap (λ (j : ℕ). to_come j limit names (is nothing) inner) fuel
        ∙ substituted-begins k limit names inner more)
        ∙ ap (λ (y : Outcome). finish 65 limit names old.outer
        (to_come k limit names (then_value limit old.so_far y) left)) (sym m)
        ∙ sym (reads t) in
        let less : length inner + length left + 1 < length old.rest =
        step-enters limit (named properties s) old.so_far nests p inner old.rest left e q in
        let sizes : outer_size (old.outer ++ last ∷ []) ≡ outer_size old.outer + suc (length left) =
        size-append old.outer last in
        let smaller : size after < size old = omega arith in
        subst (λ (u : Turn). TurnsTo limit properties s old u new) (sym g.0)
        (subst (λ (r : Reading). Same limit properties s old r × (size r < size old)) (sym g.1)
        (same, smaller))

-- what a turn is, by whether a fallback was left
abbrev pub turn_by : Bool → Turn
turn_by true = turns.GoesOn
turn_by false = turns.Ends

pub turn-leaves : (limit : ℕ) (properties : List Property) (s : List Known) (old new : Reading)
    (found : Bool) → piece old.rest ≡ None → Leaves limit old found new
    → TurnsTo limit properties s old (turn_by found) new
turn-leaves limit properties s old new false e h =
    let ends : Ends limit properties s old = λ t x.
    let names : List ℕ → Target = named properties t in
    ap (λ (outer : List (Outcome × List ℕ)). finish 65 limit names outer
    (to_come (65 - length old.outer) limit names old.so_far old.rest)) h.0
    ∙ to_come-none (65 - length old.outer) limit names old.so_far old.rest e in
    (h.1, ends)
turn-leaves limit properties s old new true e h =
    let last : Outcome × List ℕ = (h.0, new.rest) in
    let same : Same limit properties s old new = λ t x.
    let names : List ℕ → Target = named properties t in
    sym (ap (finish 65 limit names old.outer)
    (to_come-none (65 - length old.outer) limit names old.so_far old.rest e)
    ∙ ap (λ (outer : List (Outcome × List ℕ)). finish 65 limit names outer old.so_far) h.1
    ∙ finish-append 65 limit names new.outer last old.so_far
    ∙ ap (λ (o : Outcome). finish 65 limit names new.outer
    (to_come (65 - length new.outer) limit names o new.rest)) (sym h.2)) in
    let sizes : outer_size old.outer ≡ outer_size new.outer + suc (length new.rest) =
    ap outer_size h.1 ∙ size-append new.outer last in
    let smaller : size new < size old = omega arith in
    (same, smaller)
