-- What values come to with registrations does not depend on the order in which they become known.
use Rattle.std.proofs.Common.{◌≡◌, ◌∙◌, ℕ, suc, ◌<◌, ◌≤◌, ◌+◌, ◌++◌, Bool, true, false, List, [], ◌∷◌, Option, Some, None, length, map, drop, nat_lt, arith, refl, sym, ap, subst, if◌then◌else◌}
use Rattle.std.proofs.lemmas.List.{length-map, length-append, get_or_past}
use Rattle.css_syntax.specs.Escapes.{decoded}
use Rattle.css_values.specs.Substitution.{Value}
use Rattle.css_values.specs.Registrations.{Stated, Registration}
use Rattle.css_values.specs.Resolution.{Meanings, Property, Known, not_yet, known_at, none_known, given_value, Reaches, begins, computes, circles, Resolved}
use Rattle.css_values.specs.Registered.{AreValues, bare, declared, falls_back, inherited_number, initial_number, initial_of, initials, meanings, others, properties, registration_named, registration_number, undeclared, unset_number, value_if, value_in, values_of}
use Rattle.css_values.proofs.ReadingLemmas.{SomeBelow, number-below}
use Rattle.css_values.proofs.UniqueLemmas.{resolved-same}

-- ---- what is known of others

reached-length : (limit : ℕ) (all : List Property) (start s : List Known)
    → Reaches limit all start s → length s ≡ length start
reached-length limit all start s begins = refl
reached-length limit all start s (computes stage after n r u d b) =
    b.0 ∙ reached-length limit all start stage r
reached-length limit all start s (circles stage after circle r c b) =
    b.0 ∙ reached-length limit all start stage r

resolved-length : (limit : ℕ) (all : List Property) (wanted : ℕ) (s : List Known)
    → Resolved limit all wanted s → length s ≡ length all
resolved-length limit all wanted s a =
    reached-length limit all (none_known all) s a.0 ∙ length-map all (λ p. not_yet)

known-same : (limit : ℕ) (all : List Property) (s t : List Known)
    → Resolved limit all (length all) s → Resolved limit all (length all) t
    → (n : ℕ) → known_at t n ≡ known_at s n
known-same limit all s t a b n = by (nat_lt n (length all)) refl
  where
    by : (x : Bool) → nat_lt n (length all) ≡ x → known_at t n ≡ known_at s n
    by true e =
        let l : n < length all = grind arith in
        resolved-same limit all (length all) s t a b n l l
    by false e =
        let past : length all ≤ n = grind arith in
        let one : length s ≤ n = omega (arith, resolved-length limit all (length all) s a) in
        let two : length t ≤ n = omega (arith, resolved-length limit all (length all) t b) in
        get_or_past t n not_yet two ∙ sym (get_or_past s n not_yet one)

-- ---- what stands for values

value-same : (s t : List Known) → ((n : ℕ) → known_at t n ≡ known_at s n) → (o : Option ℕ)
    → value_if t o ≡ value_if s o
value-same s t h None = refl
value-same s t h (Some n) = ap value_in (h n)

standing : Bool → Option Value → Option Value → Option Value → Meanings
standing falls i h u =
    record { initial = i; inherited = h; unset = u; otherwise = if falls then u else None }

meanings-same : (registered : List Registration) (handed : List Stated) (s t : List Known)
    → ((n : ℕ) → known_at t n ≡ known_at s n) → (name : List ℕ)
    → meanings registered handed t name ≡ meanings registered handed s name
unfolding standing
meanings-same registered handed s t h name =
    let falls = falls_back (registration_named registered name) in
    let i = value-same s t h (initial_number registered handed name) in
    let p = value-same s t h (inherited_number registered handed name) in
    let u = value-same s t h (unset_number registered handed name) in
    ap (λ (v : Option Value). standing falls v (value_if t (inherited_number registered handed name))
    (value_if t (unset_number registered handed name))) i
    ∙ ap (λ (v : Option Value). standing falls (value_if s (initial_number registered handed name)) v
    (value_if t (unset_number registered handed name))) p
    ∙ ap (standing falls (value_if s (initial_number registered handed name))
    (value_if s (inherited_number registered handed name))) u

meant : Stated → Meanings → Property
meant stated instead = record { name = stated.name; text = stated.text; instead = instead }

declared-same : (registered : List Registration) (handed : List Stated) (s t : List Known)
    → ((n : ℕ) → known_at t n ≡ known_at s n) → (own : List Stated)
    → map (declared registered handed t) own ≡ map (declared registered handed s) own
unfolding meant
declared-same registered handed s t h [] = refl
declared-same registered handed s t h (one ∷ own) =
    ap (λ (m : Meanings). meant one m ∷ map (declared registered handed t) own)
    (meanings-same registered handed s t h (decoded one.name))
    ∙ ap (λ (ps : List Property). declared registered handed s one ∷ ps)
    (declared-same registered handed s t h own)

-- ---- numbers

below-some : (m n : ℕ) → (o : Option ℕ) → SomeBelow m o → Some n ≡ o → n < m
unfolding SomeBelow
below-some m n None h e = absurd (cc)
below-some m n (Some k) h e = let same : n ≡ k = cc in omega (arith, h, same)

pub registration-below : (registered : List Registration) (name : List ℕ) (n : ℕ)
    → Some n ≡ registration_number registered name → n < length registered
registration-below registered name n e =
    let size = length-map registered (λ r. bare (initial_of r)) in
    let l : n < 0 + length (initials registered) = below-some (0 + length (initials registered)) n
    (registration_number registered name) (number-below 0 (initials registered) name) e in
    omega (arith, l, size)

pub others-length : (registered : List Registration) (handed : List Stated)
    → length (others registered handed) ≡ length handed + length registered
others-length registered handed =
    let one = length-append (map bare handed) (initials registered) in
    let two = length-map handed bare in
    let three = length-map registered (λ r. bare (initial_of r)) in
    omega (arith, one, two, three)

-- ---- values

values-first : (p : Property) (all : List Property) (s : List Known)
    → values_of (p ∷ all) s
    ≡ given_value p (value_in (known_at s 0)) ∷ values_of all (drop 1 s)
values-first p all [] = refl
values-first p all (k ∷ s) = refl

known-later : (s : List Known) (n : ℕ) → known_at (drop 1 s) n ≡ known_at s (suc n)
known-later [] n = refl
known-later (k ∷ s) n = refl

values-stage : (all : List Property) (s t : List Known)
    → ((n : ℕ) → n < length all → known_at t n ≡ known_at s n) → values_of all t ≡ values_of all s
values-stage [] s t h = refl
values-stage (p ∷ all) s t h =
    values-first p all t
    ∙ ap (λ (k : Known). given_value p (value_in k) ∷ values_of all (drop 1 t)) (h 0 (omega arith))
    ∙ ap (λ (vs : List (Option Value)). given_value p (value_in (known_at s 0)) ∷ vs)
    (values-stage all (drop 1 s) (drop 1 t)
    (λ n l. known-later t n ∙ h (suc n) (omega arith) ∙ sym (known-later s n)))
    ∙ sym (values-first p all s)

-- only these are the values
pub values-same : (limit : ℕ) (registered : List Registration) (own handed : List Stated)
    (v w : List (Option Value)) → AreValues limit registered own handed v
    → AreValues limit registered own handed w → v ≡ w
values-same limit registered own handed v w a b =
    let at = known-same limit (others registered handed) a.at_hand b.at_hand a.handed_down b.handed_down in
    let same = declared-same registered handed a.at_hand b.at_hand at own in
    let all = properties registered own handed a.at_hand in
    let resolved : Resolved limit all (length own) b.stage =
    subst (λ (ps : List Property). Resolved limit (ps ++ map (undeclared registered handed) (others registered handed)) (length own) b.stage)
    same b.resolved in
    let mine = map (declared registered handed a.at_hand) own in
    let size = length-map own (declared registered handed a.at_hand) in
    let more = length-append mine (map (undeclared registered handed) (others registered handed)) in
    a.are
    ∙ sym (values-stage mine a.stage b.stage
    (λ n l. resolved-same limit all (length own) a.stage b.stage a.resolved resolved n
    (omega (arith, l, size)) (omega (arith, l, more))))
    ∙ ap (λ (ps : List Property). values_of ps b.stage) (sym same)
    ∙ sym b.are
