-- What parts consume.
-- Serves `parts::read_byte_parts`, and the items and statements above it.
use Rattle.std.proofs.Common.{◌≡◌, ℕ, ◌<◌, ◌≤◌, subst, Bool, true, false, List, [], ◌∷◌, length, Option, Some, None, arith, refl, ap, if◌then◌else◌}
use Rattle.css_text.proofs.reading.EachLemmas.{Shrinks, Takes}
use Rattle.css_text.proofs.reading.TakesLemmas.{each-within}
use Rattle.css_syntax.specs.declared.quality.Quality.{Quality}
use Rattle.css_syntax.specs.declared.parts.Stops.{Stops}
use Rattle.css_syntax.specs.Tokens.{gap_part, past_gap}
use Rattle.css_syntax.specs.ComponentValues.{deepest, component_value}
use Rattle.css_syntax.specs.Parts.{ends_at, with_gap, part, parts}
use Rattle.css_syntax.proofs.Shorter.{each-goes, each-rests, gap_part-takes}
use Rattle.css_syntax.proofs.OpenBlocks.{value-within}

pub past_gap-within : (text : List ℕ) → length (past_gap text) ≤ length text
past_gap-within text = each-within gap_part gap_part-takes text

-- a part ends after it begins, and the blank after it does not end before it
abbrev pub Follows : List ℕ → Option ((Quality × List ℕ) × List ℕ) → Type 0
Follows text None = Unit {0}
Follows text (Some x) = (length x.0.1 < length text) × (length x.1 ≤ length x.0.1)

pub follows-part : (stops : Stops) (text : List ℕ) → Follows text (part stops text)
follows-part stops [] = tt
follows-part stops (b ∷ text) = by (ends_at stops (b ∷ text))
  where
    by : (t : Bool) → Follows (b ∷ text)
        (if t then None else Some (with_gap (component_value deepest (b ∷ text))))
    by true = tt
    by false =
        let less : length (component_value deepest (b ∷ text)).1 ≤ length text =
        value-within deepest b text in
        (omega arith, past_gap-within (component_value deepest (b ∷ text)).1)

pub part-follows : (stops : Stops) (text : List ℕ) (x : (Quality × List ℕ) × List ℕ)
    → part stops text ≡ Some x → (length x.0.1 < length text) × (length x.1 ≤ length x.0.1)
part-follows stops text x e = subst (Follows text) e (follows-part stops text)

pub part-takes : (stops : Stops) → Takes (part stops)
part-takes stops text = by (part stops text) (follows-part stops text)
  where
    by : (o : Option ((Quality × List ℕ) × List ℕ)) → Follows text o → Shrinks text o
    by None h = tt
    by (Some x) h = omega (arith, h.0, h.1)

pub parts-within : (stops : Stops) (text : List ℕ) → length (parts stops text).1 ≤ length text
unfolding parts
parts-within stops text = each-within (part stops) (part-takes stops) text

-- parts that do not end at once consume a byte
pub parts-less : (stops : Stops) (b : ℕ) (text : List ℕ) → ends_at stops (b ∷ text) ≡ false
    → length (parts stops (b ∷ text)).1 ≤ length text
unfolding parts
parts-less stops b text e =
    let x = component_value deepest (b ∷ text) in
    let found : part stops (b ∷ text) ≡ Some (with_gap x) = rw e refl in
    omega (
      arith,
      ap length (each-goes (part stops) (part-takes stops) (b ∷ text) (past_gap x.1) x found),
      each-within (part stops) (part-takes stops) (past_gap x.1),
      past_gap-within x.1,
      value-within deepest b text,
    )

-- and those that do consume nothing
pub parts-rests : (stops : Stops) (text : List ℕ) → ends_at stops text ≡ true
    → (parts stops text).1 ≡ text
unfolding parts
parts-rests stops text e =
    let none : part stops text ≡ None = rw e refl in each-rests (part stops) text none
