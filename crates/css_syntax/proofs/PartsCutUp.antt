-- What is read of a block in place is cut into its parts.
-- Serves `laws::nothing_is_lost`.
use Rattle.std.proofs.Common.{◌≡◌, ◌≤◌, ◌<◌, ℕ, zero, suc, Bool, true, false, List, [], ◌∷◌, ◌++◌, ◌==◌, ◌&&◌, length, Option, Some, None, refl, sym, ap, ◌∙◌, subst, arith, if◌then◌else◌, inl, inr}
use Rattle.std.specs.Option.{option_map}
use Rattle.css_text.specs.AsciiBytes.{close_brace}
use Rattle.css_text.specs.Reading.{before, each}
use Rattle.css_text.proofs.reading.EachLemmas.{Shrinks, Takes, each-none, each-some, option_cases, took}
use Rattle.css_text.proofs.reading.WellLemmas.{WellFound}
use Rattle.css_syntax.specs.Statements.{ends_block, past_between}
use Rattle.css_syntax.specs.DeclarationLists.{past_separators}
use Rattle.css_syntax.specs.Blocks.{BlockPart, closes, block_part, block_part_from, next_block_part, rule_part, rule_part_from, next_rule_part}
use Rattle.css_syntax.specs.NothingLost.{IsCutUp, part_text, next_part_text, next_rule_text, LosesNoPart, LosesNoRulePart}
use Rattle.css_syntax.specs.NothingLost.IsCutUp.{cut_ends, piece_then}
use Rattle.css_syntax.proofs.ItemLemmas.{separators-well, between-well}
use Rattle.css_syntax.proofs.BlockSteps.{next_block_part-takes, next_block_part-well, next_rule_part-takes, next_rule_part-well}

-- ---- pieces that are read one after another

-- a piece from here on is all that is consumed; without one the text ends here
IsPiece : List ℕ → Option (List ℕ × List ℕ) → Type 0
IsPiece start None = start ≡ []
IsPiece start (Some x) = x.0 ++ x.1 ≡ start

module _ (skip : List ℕ → List ℕ) (read : List ℕ → Option (List ℕ × List ℕ)) (takes : Takes read)
    (skips : (text : List ℕ) → before text (skip text) ++ skip text ≡ text)
    (found : (text : List ℕ) → IsPiece (skip text) (read text)) where
  cut-end : (text : List ℕ) → read text ≡ None → IsCutUp false skip text (each read text).0
  unfolding IsPiece
  cut-end text e =
      let none : skip text ≡ [] = subst (IsPiece (skip text)) e (found text) in
      subst (λ (r : List (List ℕ) × List ℕ). IsCutUp false skip text r.0)
      (sym (each-none read text e))
      (cut_ends text (skips text) (ap (ends_block false) none))

  cut-then : (text piece rest : List ℕ) → read text ≡ Some (piece, rest)
      → IsCutUp false skip rest (each read rest).0 → IsCutUp false skip text (each read text).0
  unfolding IsPiece
  cut-then text piece rest e more =
      let all : piece ++ rest ≡ skip text = subst (IsPiece (skip text)) e (found text) in
      subst (λ (r : List (List ℕ) × List ℕ). IsCutUp false skip text r.0)
      (sym (each-some read takes text rest piece e))
      (piece_then text piece rest (each read rest).0
      (ap (λ (t : List ℕ). before text (skip text) ++ t) all ∙ skips text) more)

  cut-up_to : (n : ℕ) (text : List ℕ) → length text ≤ n
      → IsCutUp false skip text (each read text).0
  cut-up_to zero text h =
      elim (option_cases (read text)) [
        | inl e ↦ cut-end text e
        | inr one ↦ absurd (omega (arith, took read takes text one.0.1 one.0.0 one.1))
      ]
  cut-up_to (suc n) text h =
      elim (option_cases (read text)) [
        | inl e ↦ cut-end text e
        | inr one ↦
            let less : length one.0.1 < length text =
            took read takes text one.0.1 one.0.0 one.1 in
            cut-then text one.0.0 one.0.1 one.1 (cut-up_to n one.0.1 (omega arith))
      ]

  cut-each : (text : List ℕ) → IsCutUp false skip text (each read text).0
  cut-each text = cut-up_to (length text) text (omega arith)

-- ---- parts as pieces

text-takes : (text from : List ℕ) (o : Option (BlockPart × List ℕ)) → Shrinks text o
    → Shrinks text (option_map (part_text from) o)
text-takes text from None h = tt
text-takes text from (Some x) h = h

-- without a part the text ends here
Ended : {A : Type 0} → List ℕ → Option A → Type 0
Ended start None = start ≡ []
Ended start (Some x) = Unit {0}

text-piece : (start : List ℕ) (o : Option (BlockPart × List ℕ)) → Ended start o
    → WellFound start o → IsPiece start (option_map (part_text start) o)
unfolding IsPiece Ended
text-piece start None e h = e
text-piece start (Some x) e h = h.0

-- ---- in a style rule

block_part_from-ended : (start : List ℕ) → Ended start (block_part_from start)
unfolding Ended
block_part_from-ended [] = refl
block_part_from-ended (b ∷ start) = by (b == close_brace)
  where
    by : (t : Bool)
        → Ended (b ∷ start) (if t then Some (closes, start) else Some (block_part (b ∷ start)))
    by true = tt
    by false = tt

next_part_text-takes : Takes next_part_text
unfolding next_part_text
next_part_text-takes text =
    text-takes text (past_separators text) (next_block_part text) (next_block_part-takes text)

next_part_text-piece : (text : List ℕ) → IsPiece (past_separators text) (next_part_text text)
unfolding next_part_text next_block_part
next_part_text-piece text =
    text-piece (past_separators text) (next_block_part text)
    (block_part_from-ended (past_separators text)) (next_block_part-well text)

pub loses-no_part : (text : List ℕ) → LosesNoPart text
loses-no_part text =
    cut-each past_separators next_part_text next_part_text-takes (λ t. (separators-well t).0)
    next_part_text-piece text

-- ---- in a sheet, or in the block of an at-rule with rules

rule_part_from-ended : (in_block : Bool) (start : List ℕ)
    → Ended start (rule_part_from in_block start)
unfolding Ended
rule_part_from-ended in_block [] = refl
rule_part_from-ended in_block (b ∷ start) = by (in_block && b == close_brace)
  where
    by : (t : Bool) → Ended (b ∷ start)
        (if t then Some (closes, start) else Some (rule_part in_block (b ∷ start)))
    by true = tt
    by false = tt

next_rule_text-takes : (in_block : Bool) → Takes (next_rule_text in_block)
unfolding next_rule_text
next_rule_text-takes in_block text =
    text-takes text (past_between in_block text) (next_rule_part in_block text)
    (next_rule_part-takes in_block text)

next_rule_text-piece : (in_block : Bool) (text : List ℕ)
    → IsPiece (past_between in_block text) (next_rule_text in_block text)
unfolding next_rule_text next_rule_part
next_rule_text-piece in_block text =
    text-piece (past_between in_block text) (next_rule_part in_block text)
    (rule_part_from-ended in_block (past_between in_block text)) (next_rule_part-well in_block text)

pub loses-no_rule_part : (in_block : Bool) (text : List ℕ) → LosesNoRulePart in_block text
loses-no_rule_part in_block text =
    cut-each (past_between in_block) (next_rule_text in_block) (next_rule_text-takes in_block)
    (λ t. (between-well in_block t).0) (next_rule_text-piece in_block) text
