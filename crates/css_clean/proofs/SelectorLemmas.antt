-- What is left after a selector of a list is shorter, and when a list is empty. Serves the loops over selectors.
use Rattle.std.proofs.Common.{◌≡◌, ◌==◌, ◌<◌, ℕ, Bool, true, false, List, [], ◌∷◌, length, if◌then◌else◌, Option, None, refl, arith}
use Rattle.css_text.specs.AsciiBytes.{comma}
use Rattle.css_text.specs.Bytes.{past_byte}
use Rattle.css_text.proofs.reading.EachLemmas.{Shrinks, Takes, not_empty}
use Rattle.css_text.proofs.reading.TakesLemmas.{length-past_byte}
use Rattle.css_syntax.specs.DeclarationLists.{is_empty}
use Rattle.css_syntax.specs.Parts.{Stated, ends_at, parts}
use Rattle.css_syntax.proofs.PartLemmas.{past_gap-within, parts-less}
use Rattle.css_clean.specs.Selectors.{SheetPolicyText, next_selector, selector_ends, selector_is_read, selector_read}

if-shrinks : {A : Type 0} (text : List ℕ) (t : Bool) (x : Option (A × List ℕ)) → Shrinks text x
    → Shrinks text (if t then x else None)
if-shrinks text true x h = h
if-shrinks text false x h = tt

read-shrinks : (text : List ℕ) (policy : SheetPolicyText) (is_scoped : Bool) (found : Stated × List ℕ)
    → length found.1 < length text → Shrinks text (selector_read policy is_scoped found)
read-shrinks text policy is_scoped found h =
    if-shrinks text (selector_is_read policy is_scoped found) _ (omega (
      arith,
      h,
      past_gap-within (past_byte comma found.1),
      length-past_byte comma found.1,
    ))

pub next_selector-takes : (policy : SheetPolicyText) (is_scoped : Bool) → Takes (next_selector policy is_scoped)
unfolding next_selector
next_selector-takes policy is_scoped [] = tt
next_selector-takes policy is_scoped (b ∷ text) = by (ends_at selector_ends (b ∷ text)) refl
  where
    by : (t : Bool) → ends_at selector_ends (b ∷ text) ≡ t
        → Shrinks (b ∷ text)
        (if t then None else selector_read policy is_scoped (parts selector_ends (b ∷ text)))
    by true e = tt
    by false e =
        read-shrinks (b ∷ text) policy is_scoped (parts selector_ends (b ∷ text))
        (omega (arith, parts-less selector_ends b text e))

-- a list that is empty by the number of its bytes
pub empty-is : (text : List ℕ) → (length text == 0) ≡ is_empty text
empty-is [] = refl
empty-is (b ∷ text) = not_empty b text
