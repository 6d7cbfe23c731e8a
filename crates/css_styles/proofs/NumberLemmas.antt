-- Numbers of properties.
use Rattle.std.proofs.Common.{◌≡◌, ℕ, zero, suc, ◌+◌, ◌<◌, Bool, true, false, if◌then◌else◌, List, [], ◌∷◌, ◌++◌, length, Option, None, Some, refl, sym, ap, ◌∙◌, arith}
use Rattle.std.specs.Prelude.{bytes_eq}
use Rattle.std.specs.Option.{option_map}
use Rattle.std.specs.List.{slice_get}
use Rattle.std.proofs.lemmas.Slice.Eq.{bytes_eq-Decides}
use Rattle.css_styles.specs.Properties.{number_in}

some-same : {X : Type 0} {x y : X} → Some x ≡ Some y → x ≡ y
some-same e = cc

pub bytes-same : (a b : List ℕ) → bytes_eq a b ≡ true → a ≡ b
bytes-same a b e = (bytes_eq-Decides a b).0 e

pub bytes-itself : (a : List ℕ) → bytes_eq a a ≡ true
bytes-itself a = (bytes_eq-Decides a a).1 refl

at-step : (t : Bool) (o : Option ℕ) (n : ℕ) (one key : List ℕ) (more : List (List ℕ))
    → (t ≡ true → one ≡ key) → ((m : ℕ) → o ≡ Some m → slice_get more m ≡ Some key)
    → (if t then Some 0 else option_map suc o) ≡ Some n → slice_get (one ∷ more) n ≡ Some key
at-step true o n one key more is h e =
    let same : zero ≡ n = some-same e in
    ap (slice_get (one ∷ more)) (sym same) ∙ ap Some (is refl)
at-step false None n one key more is h e = absurd (cc)
at-step false (Some m) n one key more is h e =
    let same : suc m ≡ n = some-same e in
    ap (slice_get (one ∷ more)) (sym same) ∙ h m refl

-- the key of a number
pub number-at : (keys : List (List ℕ)) (key : List ℕ) (n : ℕ) → number_in keys key ≡ Some n
    → slice_get keys n ≡ Some key
number-at [] key n e = absurd (cc)
number-at (one ∷ more) key n e =
    at-step (bytes_eq one key) (number_in more key) n one key more (bytes-same one key)
    (number-at more key) e

-- so two keys with one number are the same
pub number-once : (keys : List (List ℕ)) (a b : List ℕ) (n : ℕ) → number_in keys a ≡ Some n
    → number_in keys b ≡ Some n → a ≡ b
number-once keys a b n e f =
    some-same (sym (number-at keys a n e) ∙ number-at keys b n f)

more-step : (t : Bool) (o after : Option ℕ) (n : ℕ)
    → ((m : ℕ) → o ≡ Some m → after ≡ Some m)
    → (if t then Some 0 else option_map suc o) ≡ Some n
    → (if t then Some 0 else option_map suc after) ≡ Some n
more-step true o after n h e = e
more-step false None after n h e = absurd (cc)
more-step false (Some m) after n h e = ap (option_map suc) (h m refl) ∙ e

-- further ones change no number
pub number-more : (keys more : List (List ℕ)) (key : List ℕ) (n : ℕ) → number_in keys key ≡ Some n
    → number_in (keys ++ more) key ≡ Some n
number-more [] more key n e = absurd (cc)
number-more (one ∷ keys) more key n e =
    more-step (bytes_eq one key) (number_in keys key) (number_in (keys ++ more) key) n
    (number-more keys more key) e

after-step : (t : Bool) (o after : Option ℕ) (k n : ℕ) → (o ≡ None → after ≡ Some (k + n))
    → (if t then Some 0 else option_map suc o) ≡ None
    → (if t then Some 0 else option_map suc after) ≡ Some (suc k + n)
after-step true o after k n h e = absurd (cc)
after-step false None after k n h e =
    let same : suc (k + n) ≡ suc k + n = omega arith in
    ap (option_map suc) (h refl) ∙ ap (λ (m : ℕ). Some m) same
after-step false (Some m) after k n h e = absurd (cc)

-- one that is not among the first has its number after them
pub number-after : (keys more : List (List ℕ)) (key : List ℕ) (n : ℕ) → number_in keys key ≡ None
    → number_in more key ≡ Some n → number_in (keys ++ more) key ≡ Some (length keys + n)
number-after [] more key n e f =
    let same : n ≡ 0 + n = omega arith in f ∙ ap (λ (m : ℕ). Some m) same
number-after (one ∷ keys) more key n e f =
    after-step (bytes_eq one key) (number_in keys key) (number_in (keys ++ more) key) (length keys) n
    (λ none. number-after keys more key n none f) e

pub number-new : (keys : List (List ℕ)) (key : List ℕ) → number_in keys key ≡ None
    → number_in (keys ++ key ∷ []) key ≡ Some (length keys)
number-new keys key e =
    let alone : number_in (key ∷ []) key ≡ Some 0 = rw (bytes-itself key) refl in
    let same : length keys + 0 ≡ length keys = omega arith in
    number-after keys (key ∷ []) key 0 e alone ∙ ap (λ (n : ℕ). Some n) same

other-step : (t : Bool) (o after : Option ℕ) → after ≡ o
    → (if t then Some 0 else option_map suc after) ≡ (if t then Some 0 else option_map suc o)
other-step true o after h = refl
other-step false o after h = ap (option_map suc) h

-- a new one changes no number of another key
pub number-other : (keys : List (List ℕ)) (key other : List ℕ) → bytes_eq key other ≡ false
    → number_in (keys ++ key ∷ []) other ≡ number_in keys other
number-other [] key other e = rw e refl
number-other (one ∷ keys) key other e =
    other-step (bytes_eq one other) (number_in keys other) (number_in (keys ++ key ∷ []) other)
    (number-other keys key other e)

within-step : (t : Bool) (o : Option ℕ) (n count : ℕ) → ((m : ℕ) → o ≡ Some m → m < count)
    → (if t then Some 0 else option_map suc o) ≡ Some n → n < suc count
within-step true o n count h e = let same : zero ≡ n = some-same e in omega (arith, same)
within-step false None n count h e = absurd (cc)
within-step false (Some m) n count h e =
    let same : suc m ≡ n = some-same e in let less = h m refl in omega (arith, same, less)

pub number-within : (keys : List (List ℕ)) (key : List ℕ) (n : ℕ) → number_in keys key ≡ Some n
    → n < length keys
number-within [] key n e = absurd (cc)
number-within (one ∷ more) key n e =
    within-step (bytes_eq one key) (number_in more key) n (length more) (number-within more key) e

-- the numbers with a new one
pub number-with : (keys : List (List ℕ)) (key other : List ℕ) → number_in keys key ≡ None
    → number_in (keys ++ key ∷ []) other
    ≡ (if bytes_eq key other then Some (length keys) else number_in keys other)
number-with keys key other e = by (bytes_eq key other) refl
  where
    by : (t : Bool) → bytes_eq key other ≡ t
        → number_in (keys ++ key ∷ []) other
        ≡ (if t then Some (length keys) else number_in keys other)
    by true f =
        ap (number_in (keys ++ key ∷ [])) (sym (bytes-same key other f)) ∙ number-new keys key e
    by false f = number-other keys key other f

pub numbers-more : (keys now : List (List ℕ)) (key other : List ℕ) (old new : Option ℕ) (number : ℕ)
    → number_in keys key ≡ None → now ≡ keys ++ key ∷ [] → number ≡ length keys
    → old ≡ number_in keys other → new ≡ (if bytes_eq key other then Some number else old)
    → new ≡ number_in now other
numbers-more keys now key other old new number none more count known found =
    found ∙ ap (λ n. if bytes_eq key other then Some n else old) count
    ∙ ap (λ o. if bytes_eq key other then Some (length keys) else o) known
    ∙ sym (ap (λ ks. number_in ks other) more ∙ number-with keys key other none)
