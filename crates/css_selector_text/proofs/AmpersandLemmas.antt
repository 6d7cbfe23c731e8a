-- Whether one of the tokens of a text is an `&`.
-- Serves `nesting::has_ampersand`.
use Rattle.std.proofs.Common.{◌≡◌, ℕ, Bool, true, false, ◌==◌, ◌||◌, if◌then◌else◌, List, [], ◌∷◌, Some, None, ◌<◌, ◌≤◌, length, refl, ap, arith}
use Rattle.std.specs.Prelude.{nat_lt}
use Rattle.std.specs.List.{list_any}
use Rattle.css_text.specs.Bytes.{starts}
use Rattle.css_text.proofs.reading.EachLemmas.{Takes, Shrinks, each-some, each-none}
use Rattle.css_syntax.specs.Tokens.{token}
use Rattle.css_syntax.proofs.Shorter.{token-takes}
use Rattle.css_selector_text.specs.reading.Grammar.{ampersand}
use Rattle.css_selector_text.specs.reading.Nested.{has_ampersand, token_before}

token_before-takes : (left : ℕ) → Takes (token_before left)
unfolding token_before
token_before-takes left [] = tt
token_before-takes left (b ∷ text) = by (nat_lt left (length (b ∷ text)))
  where
    by : (t : Bool) → Shrinks (b ∷ text)
        (if t then Some (b == ampersand, (token (b ∷ text)).1) else None)
    by true = omega (arith, token-takes b text)
    by false = tt

pub token_less : (text left : List ℕ) → length left < length text
    → length (token text).1 < length text
token_less [] left h = absurd (omega (arith, h))
token_less (b ∷ text) left h = omega (arith, token-takes b text)

-- the next token, and then those after it
pub ampersand_next : (text left : List ℕ) → length left < length text
    → has_ampersand text left ≡ (starts ampersand text || has_ampersand (token text).1 left)
unfolding token_before
ampersand_next [] left h = absurd (omega (arith, h))
ampersand_next (b ∷ text) left h =
    let more : nat_lt (length left) (length (b ∷ text)) ≡ true = grind (arith, h) in
    ap (λ (r : List Bool × List ℕ). list_any (λ is_ampersand. is_ampersand) r.0)
    (each-some (token_before (length left)) (token_before-takes (length left)) (b ∷ text)
    (token (b ∷ text)).1 (b == ampersand) (rw more refl))

-- no more than that is left
pub ampersand_none : (text left : List ℕ) → length text ≤ length left
    → has_ampersand text left ≡ false
unfolding token_before
ampersand_none text left h = ap (λ (r : List Bool × List ℕ). list_any (λ is_ampersand. is_ampersand) r.0)
    (each-none (token_before (length left)) text (by text h))
  where
    by : (text : List ℕ) → length text ≤ length left → token_before (length left) text ≡ None
    by [] h = refl
    by (b ∷ text) h =
        let less : nat_lt (length left) (length (b ∷ text)) ≡ false = grind (arith, h) in rw less refl
