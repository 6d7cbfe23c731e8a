-- Space bytes before what is left of a sheet change none of its parts.
-- Serves `pieces_law`.
use Rattle.std.proofs.Common.{◌≡◌, ℕ, zero, suc, Bool, true, false, List, ◌∷◌, ◌++◌, Some, replicate, refl, sym, ap, ◌∙◌, subst, inl, inr}
use Rattle.css_text.specs.AsciiBytes.{space}
use Rattle.css_text.proofs.reading.EachLemmas.{each-some, option_cases}
use Rattle.css_syntax.specs.Blocks.{next_rule_part, rule_part_from}
use Rattle.css_syntax.specs.Statements.{between_part, past_between}
use Rattle.css_syntax.specs.Tokens.{gap_part}
use Rattle.css_syntax.proofs.ItemLemmas.{between_part-takes}
use Rattle.css_sheet.specs.SheetParts.{Nesting, OpenText, Source, from_part, is_more_open, nesting_of, next_by, next_in, open_after, option_outside, outside, parts_in, past_before, place_at, placed_part}
use Rattle.css_sheet.proofs.PartSteps.{parts-none, parts-some}

space-first : (in_block : Bool) (text : List ℕ) → between_part in_block (space ∷ text) ≡ Some (tt, text)
unfolding between_part gap_part
space-first true text = refl
space-first false text = refl

past-space : (in_block : Bool) (text : List ℕ) → past_between in_block (space ∷ text) ≡ past_between in_block text
past-space in_block text =
    ap (λ (r : List (Unit {0}) × List ℕ). r.1)
    (each-some (between_part in_block) (between_part-takes in_block) (space ∷ text) text tt (space-first in_block text))

next-space : (in_block : Bool) (text : List ℕ) → next_rule_part in_block (space ∷ text) ≡ next_rule_part in_block text
unfolding next_rule_part
next-space in_block text = ap (rule_part_from in_block) (past-space in_block text)

in-space : (depth : ℕ) (around : List OpenText) (text : List ℕ) → nesting_of around ≡ outside
    → next_in depth around (space ∷ text) ≡ next_in depth around text
unfolding next_in
in-space depth around text e =
    let in_block = is_more_open depth around in
    subst (λ (n : Nesting). next_by n in_block (space ∷ text) ≡ next_by n in_block text) (sym e)
    (ap option_outside (next-space in_block text))

from-space : (depth : ℕ) (around : List OpenText) (text : List ℕ) → nesting_of around ≡ outside
    → from_part depth around (space ∷ text) ≡ from_part depth around text
from-space depth around text e =
    let in_block = is_more_open depth around in
    subst (λ (n : Nesting). past_before n in_block (space ∷ text) ≡ past_before n in_block text) (sym e)
    (past-space in_block text)

module _ (holds : List ℕ → List ℕ → Bool) (source : Source) (around : List OpenText) where
  space-same : (text : List ℕ) → nesting_of around ≡ outside
      → parts_in holds source around (space ∷ text) ≡ parts_in holds source around text
  space-same text e =
      let skipped = in-space source.depth around text e in
      elim (option_cases (next_in source.depth around text)) [
        | inl none ↦
            parts-none holds source around (space ∷ text) (skipped ∙ none)
            ∙ sym (parts-none holds source around text none)
        | inr found ↦
            let part = found.0.0 in
            let rest = found.0.1 in
            let after = open_after holds around part (place_at source rest) in
            parts-some holds source around after (space ∷ text) rest part (skipped ∙ found.1) refl
            ∙ ap (λ (from : List ℕ). placed_part source from part after rest ∷ parts_in holds source after rest)
            (from-space source.depth around text e)
            ∙ sym (parts-some holds source around after text rest part found.1 refl)
      ]

  blank-same : (n : ℕ) (text : List ℕ) → nesting_of around ≡ outside
      → parts_in holds source around (replicate n space ++ text) ≡ parts_in holds source around text
  blank-same zero text e = refl
  blank-same (suc n) text e = space-same (replicate n space ++ text) e ∙ blank-same n text e

pub blanks-same : (holds : List ℕ → List ℕ → Bool) (source : Source) (around : List OpenText) (n : ℕ) (rest : List ℕ)
    → nesting_of around ≡ outside
    → parts_in holds source around (replicate n space ++ rest) ≡ parts_in holds source around rest
blanks-same holds source around n rest e = blank-same holds source around n rest e
