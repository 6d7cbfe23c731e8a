-- Names are of one property exactly if they have one key.
-- Serves `contest::is_unbeaten`.
use Rattle.std.proofs.Common.{◌≡◌, ℕ, Bool, true, false, ◌&&◌, ◌==◌, if◌then◌else◌, List, [], ◌∷◌, refl, sym, ap, ◌∙◌, arith}
use Rattle.std.specs.Prelude.{bytes_eq}
use Rattle.std.specs.Char.{to_ascii_lowercase}
use Rattle.std.specs.Str.{str_to_ascii_lowercase}
use Rattle.css_text.specs.AsciiBytes.{hyphen}
use Rattle.css_text.specs.Bytes.{starts, starts_two}
use Rattle.css_styles.specs.Contenders.{is_property}
use Rattle.css_styles.specs.Properties.{property_key}
use Rattle.css_styles.proofs.NumberLemmas.{bytes-same, bytes-itself}

by-cases : {X : Type 0} (t : Bool) → (t ≡ true → X) → (t ≡ false → X) → X
by-cases true yes' no' = yes' refl
by-cases false yes' no' = no' refl

never : {X : Type 0} {t : Bool} → t ≡ true → t ≡ false → X
never e f = absurd (let clash : true ≡ false = sym e ∙ f in cc)

-- equality of bytes does not depend on the order
pub bytes-turned : (a b : List ℕ) → bytes_eq a b ≡ bytes_eq b a
bytes-turned a b = by-cases (bytes_eq a b)
    (λ e.
    let same : b ≡ a = sym (bytes-same a b e) in
    e ∙ sym (ap (λ c. bytes_eq c a) same ∙ bytes-itself a))
    (λ e. by-cases (bytes_eq b a)
    (λ f.
    let same : b ≡ a = bytes-same b a f in
    never (ap (λ c. bytes_eq a c) same ∙ bytes-itself a) e)
    (λ f. e ∙ sym f))

-- what a test tells apart is not equal
apart : (test : List ℕ → Bool) (a b : List ℕ) → test a ≡ true → test b ≡ false
    → bytes_eq a b ≡ false
apart test a b e f = by-cases (bytes_eq a b)
    (λ g. never e (ap test (bytes-same a b g) ∙ f)) (λ g. g)

-- a hyphen has no case, and no letter has one that is a hyphen
lower-hyphen : (b : ℕ) → (to_ascii_lowercase b == hyphen) ≡ (b == hyphen)
lower-hyphen b = grind arith

lower-starts : (text : List ℕ) → starts hyphen (str_to_ascii_lowercase text) ≡ starts hyphen text
lower-starts [] = refl
lower-starts (b ∷ text) = lower-hyphen b

abbrev is_custom : List ℕ → Bool
is_custom name = starts_two hyphen hyphen name

lower-custom : (name : List ℕ) → is_custom (str_to_ascii_lowercase name) ≡ is_custom name
lower-custom [] = refl
lower-custom (b ∷ text) =
    ap (λ t. t && starts hyphen (str_to_ascii_lowercase text)) (lower-hyphen b)
    ∙ ap (λ t. (b == hyphen) && t) (lower-starts text)

pub property-keys : (property name : List ℕ)
    → is_property property name ≡ bytes_eq (property_key property) (property_key name)
property-keys property name = by (is_custom property) (is_custom name) refl refl
  where
    by : (s t : Bool) → is_custom property ≡ s → is_custom name ≡ t
        → (if s then bytes_eq name property
        else bytes_eq (str_to_ascii_lowercase name) (str_to_ascii_lowercase property))
        ≡ bytes_eq (if s then property else str_to_ascii_lowercase property)
        (if t then name else str_to_ascii_lowercase name)
    by true true e f = bytes-turned name property
    by true false e f =
        bytes-turned name property ∙ apart is_custom property name e f
        ∙ sym (apart is_custom property (str_to_ascii_lowercase name) e (lower-custom name ∙ f))
    by false true e f =
        apart is_custom (str_to_ascii_lowercase name) (str_to_ascii_lowercase property)
        (lower-custom name ∙ f) (lower-custom property ∙ e)
        ∙ sym (bytes-turned (str_to_ascii_lowercase property) name
        ∙ apart is_custom name (str_to_ascii_lowercase property) f (lower-custom property ∙ e))
    by false false e f = bytes-turned (str_to_ascii_lowercase name) (str_to_ascii_lowercase property)
