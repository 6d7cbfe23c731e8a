-- Declarations and blocks consume bytes.
-- Serves `DeclarationTokenizer` and `consume_declarations` (their loops end), and
-- `laws::cutting_law`.
use Rattle.std.proofs.Common.{ℕ, ◌≤◌, List, Bool, true, false, if◌then◌else◌, length, Option, None, arith, length-drop}
use Rattle.css_text.specs.AsciiBytes.{close_brace}
use Rattle.css_text.specs.Reading.{Reading, got, fails, each}
use Rattle.css_text.specs.Characters.{Edition}
use Rattle.simplecss_grammar.specs.Declarations.{StyleDeclaration, declaration, next_declaration}
use Rattle.simplecss_grammar.specs.Blocks.{block_end, from_block_end, ends_list, declaration_in_block, past_broken, past_list, block}
use Rattle.simplecss_grammar.proofs.reading.DeclarationsLawful.{declaration-cuts}
use Rattle.css_text.proofs.reading.EachLemmas.{Shrinks, Takes}
use Rattle.css_text.proofs.reading.TakesLemmas.{Keeps, cuts-keeps, length-past_byte, each-within, found-shrinks}

shrinks-unless : {A : Type 0} (text : List ℕ) (t : Bool) (o : Option (A × List ℕ)) → Shrinks text o
    → Shrinks text (if t then None else o)
shrinks-unless text true o h = tt
shrinks-unless text false o h = h

pub length-from_block_end : (text : List ℕ) → length (from_block_end text) ≤ length text
length-from_block_end text = omega (arith, length-drop (block_end text) text)

length-past_broken : (text : List ℕ) (r : Reading StyleDeclaration) → Keeps text r
    → length (past_broken r) ≤ length text
length-past_broken text (got declared rest) h = h
length-past_broken text (fails fault rest) h = omega
    (arith, length-past_byte close_brace (from_block_end rest), length-from_block_end rest)

module _ (edition : Edition) where
  pub next_declaration-takes : Takes (next_declaration edition)
  next_declaration-takes text = found-shrinks text (declaration edition text)
      (declaration-cuts edition text)

  pub declaration_in_block-takes : Takes (declaration_in_block edition)
  declaration_in_block-takes text = shrinks-unless text (ends_list text)
      (next_declaration edition text) (next_declaration-takes text)

  length-past_list : (text : List ℕ) → length (past_list edition text) ≤ length text
  length-past_list text = by (ends_list text)
    where
      by : (t : Bool) → length (if t then text else past_broken
          (declaration edition text)) ≤ length text
      by true = omega arith
      by false = length-past_broken text (declaration edition text) (cuts-keeps text
          (declaration edition text) (declaration-cuts edition text))

  -- what is left after a block is no more than the text
  pub length-block : (text : List ℕ) → length (block edition text).1 ≤ length text
  unfolding block
  length-block text =
      let rest = (each (declaration_in_block edition) text).1 in
      omega (
        arith,
        each-within (declaration_in_block edition) declaration_in_block-takes text,
        length-past_list rest,
        length-past_byte close_brace (past_list edition rest),
      )
