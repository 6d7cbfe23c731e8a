-- Sequences of tokens, parts and statements leave no more than there was, and a statement consumes
-- a byte or more. Serves `consume_parts` and `read_rules` (their loops end), and
-- `laws::cutting_law`.
use Rattle.std.proofs.Common.{ℕ, ◌<◌, ◌≤◌, List, [], ◌∷◌, Bool, true, false, if◌then◌else◌, ◌==◌, not, length, Some, None, arith}
use Rattle.css_text.specs.AsciiBytes.{at_sign, close_brace, comma, open_brace, semicolon}
use Rattle.css_text.specs.Reading.{Reading, got, fails, each}
use Rattle.css_text.specs.Bytes.{past, past_one, past_byte, starts, is_neither}
use Rattle.css_text.specs.Characters.{Edition, is_space}
use Rattle.css_text.specs.Comments.{past_blank}
use Rattle.css_text.specs.Names.{name}
use Rattle.simplecss_grammar.specs.Statements.{part, part_and_comma, parts, next_block, rule_set, past_semicolon_or_block, at_rule_rest_by_name, at_rule_rest, statement, ends_statements, next_statement}
use Rattle.simplecss_grammar.specs.Selectors.{reads}
use Rattle.simplecss_grammar.specs.Blocks.{block, from_block_end}
use Rattle.css_text.proofs.reading.EachLemmas.{Shrinks, Takes}
use Rattle.css_text.proofs.reading.TakesLemmas.{Keeps, cuts-keeps, length-past_one, length-past_byte, length-past, each-within, length-past_blank, name-cuts}
use Rattle.simplecss_grammar.proofs.reading.DeclarationLemmas.{length-block, length-from_block_end}
use Rattle.simplecss_grammar.proofs.reading.WithinLemmas.{length-reads}

-- what is left after a semicolon or a block
length-past_semicolon_or_block : (text : List ℕ)
    → length (past_semicolon_or_block text) ≤ length text
length-past_semicolon_or_block text = by (starts open_brace text)
  where
    by : (t : Bool) → length (if t then past_byte close_brace (from_block_end (past_one text)) else
        past_byte semicolon text) ≤ length text
    by true = omega (
      arith,
      length-past_byte close_brace (from_block_end (past_one text)),
      length-from_block_end (past_one text),
      length-past_one text,
    )
    by false = length-past_byte semicolon text

length-at_rule_rest_by_name : (text : List ℕ) (r : Reading (List ℕ)) → Keeps text r
    → length (at_rule_rest_by_name r) ≤ length text
length-at_rule_rest_by_name text (got n rest) h = omega (
  arith,
  length-past_semicolon_or_block (past (is_neither semicolon open_brace) rest),
  length-past
      (is_neither semicolon open_brace) rest,
)
length-at_rule_rest_by_name text (fails fault rest) h = h

module _ (edition : Edition) where
  length-at_rule_rest : (text : List ℕ) → length (at_rule_rest edition text) ≤ length text
  unfolding at_rule_rest
  length-at_rule_rest text = length-at_rule_rest_by_name text (name edition text) (cuts-keeps text
      (name edition text) (name-cuts edition text))

  -- a block that is looked for leaves less than a text that is not empty
  next_block-less : (text : List ℕ) (bound : ℕ) → length text ≤ bound → 0 < bound
      → length (next_block edition text).1 < bound
  unfolding next_block
  next_block-less text bound l p =
      by (past (λ b. not (b == open_brace)) text) (length-past (λ b. not
      (b == open_brace)) text)
    where
      by : (opened : List ℕ) → length opened ≤ length text → length
          (if starts open_brace opened then block edition (past_one opened) else ([], [])).1 < bound
      by [] h = p
      by (b ∷ opened) h = with_brace (b == open_brace)
        where
          with_brace : (t : Bool) → length (if t then block edition opened else ([], [])).1 < bound
          with_brace true = omega (arith, length-block edition opened, h, l)
          with_brace false = p

  pub length-part : (text : List ℕ) → length (part edition text).1 ≤ length text
  unfolding part
  length-part text = omega (
    arith,
    length-reads edition text,
    length-past is_space
        (reads edition text).1,
  )

  pub part_and_comma-takes : Takes (part_and_comma edition)
  part_and_comma-takes text = by (part edition text).1 (length-part text)
    where
      by : (rest : List ℕ) → length rest ≤ length text
          → Shrinks text (if starts comma rest then Some
          ((part edition text).0, past_one rest) else None)
      by [] h = tt
      by (b ∷ rest) h = with_comma (b == comma)
        where
          with_comma : (t : Bool) → Shrinks text (if t then Some
              ((part edition text).0, rest) else None)
          with_comma true = omega arith
          with_comma false = tt

  pub length-parts : (text : List ℕ) → length (parts edition text).1 ≤ length text
  unfolding parts
  length-parts text =
      let rest = (each (part_and_comma edition) text).1 in
      omega (
        arith,
        each-within (part_and_comma edition) part_and_comma-takes text,
        length-part
            rest,
      )

  length-rule_set : (text : List ℕ) → 0 < length text
      → length (rule_set edition text).1 < length text
  unfolding rule_set
  length-rule_set text p = next_block-less (parts edition (past_byte comma text)).1 (length text)
      (omega (arith, length-parts (past_byte comma text), length-past_byte comma text)) p

  -- a statement consumes a byte or more
  length-statement : (text : List ℕ) → 0 < length text
      → length (statement edition text).1 < length text
  unfolding statement
  length-statement [] p = absurd (omega (arith, p))
  length-statement (b ∷ text) p = by (b == at_sign)
    where
      by : (t : Bool) → length (if t then ([], at_rule_rest edition text) else rule_set edition
          (b ∷ text)).1 < length (b ∷ text)
      by true = omega (arith, length-at_rule_rest text)
      by false = length-rule_set (b ∷ text) (omega arith)

  pub next_statement-takes : Takes (next_statement edition)
  next_statement-takes text = by (past_blank text) (length-past_blank text)
    where
      by : (rest : List ℕ) → length rest ≤ length text → Shrinks text
          (if ends_statements rest then None else Some (statement edition rest))
      by [] h = tt
      by (b ∷ rest) h = open_or (ends_statements (b ∷ rest))
        where
          open_or : (t : Bool) → Shrinks text (if t then None else Some (statement edition
              (b ∷ rest)))
          open_or true = tt
          open_or false = omega (arith, length-statement (b ∷ rest) (omega arith), h)
