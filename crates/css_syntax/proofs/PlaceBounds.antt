-- Where the pieces of what was read begin: no place is outside the text.
-- Serves the callers of `read_part` and `read_next` that count offsets.
use Rattle.std.proofs.Common.{◌≡◌, ℕ, ◌≤◌, ◌-◌, map, Bool, true, false, List, length, Option, None, Some, arith, if◌then◌else◌, refl}
use Rattle.std.proofs.lemmas.List.{length-take}
use Rattle.css_text.specs.AsciiBytes.{colon, open_brace, at_sign}
use Rattle.css_text.specs.Reading.{before, each, last_or}
use Rattle.css_text.specs.Bytes.{past_byte, starts}
use Rattle.css_text.proofs.reading.TakesLemmas.{each-within, length-past_byte}
use Rattle.css_syntax.specs.declared.parts.Stops.{Stops}
use Rattle.css_syntax.specs.Tokens.{past_gap, past_word}
use Rattle.css_syntax.specs.Parts.{Stated, part, parts}
use Rattle.css_syntax.specs.Statements.{BlockText, block_ends, block, StatementText, rule_set, at_rule_statement, skipped_statement, begins_at_rule, at_rule_ends, at_rule_ended, at_rule, rule_set_ends, rule_set_ended, statement, between_part, past_between}
use Rattle.css_syntax.specs.DeclarationLists.{separator_part, past_separators}
use Rattle.css_syntax.specs.Contents.{contents_after, at_rule_prelude, at_rule_contents, statement_contents, item_contents, declaration_value}
use Rattle.css_syntax.proofs.Shorter.{past_word_within}
use Rattle.css_syntax.proofs.PartLemmas.{past_gap-within, parts-within}
use Rattle.css_syntax.proofs.ItemLemmas.{between_part-takes, separator_part-takes}

-- ---- where pieces begin

pub between-within : (in_block : Bool) (text : List ℕ)
    → length (past_between in_block text) ≤ length text
between-within in_block text = each-within (between_part in_block) (between_part-takes in_block) text

pub separators-within : (text : List ℕ) → length (past_separators text) ≤ length text
separators-within text = each-within separator_part separator_part-takes text

pub prelude-within : (text : List ℕ) → length (at_rule_prelude text) ≤ length text
prelude-within text =
    omega (
      arith,
      past_gap-within (past_word (past_byte at_sign text)),
      past_word_within (past_byte at_sign text),
      length-past_byte at_sign text,
    )

pub value-within : (text : List ℕ) → length (declaration_value text) ≤ length text
value-within text =
    omega (
      arith,
      past_gap-within (past_byte colon (past_gap (past_word text))),
      length-past_byte colon (past_gap (past_word text)),
      past_gap-within (past_word text),
      past_word_within text,
    )

after-within : (rest : List ℕ) → length (contents_after rest) ≤ length rest
after-within rest = by (starts open_brace rest)
  where
    by : (t : Bool) → length (if t then past_gap (past_byte open_brace rest) else rest) ≤ length rest
    by true =
        omega (
          arith,
          past_gap-within (past_byte open_brace rest),
          length-past_byte open_brace rest,
        )
    by false = omega arith

at_rule_contents-within : (in_block : Bool) (text : List ℕ)
    → length (at_rule_contents in_block text) ≤ length text
at_rule_contents-within in_block text =
    omega (
      arith,
      after-within (parts (at_rule_ends in_block) (at_rule_prelude text)).1,
      parts-within (at_rule_ends in_block) (at_rule_prelude text),
      prelude-within text,
    )

pub contents-within : (in_block : Bool) (text : List ℕ)
    → length (statement_contents in_block text) ≤ length text
contents-within in_block text = by (begins_at_rule text)
  where
    by : (t : Bool) → length (if t then at_rule_contents in_block text
        else contents_after (parts (rule_set_ends in_block) text).1) ≤ length text
    by true = at_rule_contents-within in_block text
    by false =
        omega (
          arith,
          after-within (parts (rule_set_ends in_block) text).1,
          parts-within (rule_set_ends in_block) text,
        )

pub item_contents-within : (in_block : Bool) (text : List ℕ)
    → length (item_contents in_block text) ≤ length text
item_contents-within in_block text = by (begins_at_rule text)
  where
    by : (t : Bool) → length (if t then at_rule_contents in_block text else text) ≤ length text
    by true = at_rule_contents-within in_block text
    by false = omega arith

-- ---- the contents of a block

pub before-within : (text rest : List ℕ) → length (before text rest) ≤ length text
before-within text rest = omega (arith, length-take (length text - length rest) text)

pub parts-text-within : (stops : Stops) (text : List ℕ)
    → length (parts stops text).0.text ≤ length text
unfolding parts
parts-text-within stops text =
    before-within text (last_or text (map (λ one. one.1) (each (part stops) text).0))

-- the contents of a block, if there is one, are no longer than what is left from them on
abbrev pub BlockFits : Option BlockText → List ℕ → Type 0
BlockFits None inside = Unit {0}
BlockFits (Some found) inside = length found.text ≤ length inside

block-fits : (text : List ℕ) → length (block text).0.text ≤ length (past_gap text)
unfolding block
block-fits text = parts-text-within block_ends (past_gap text)

ended-fits : (name : List ℕ) (prelude : Stated) (rest : List ℕ)
    → BlockFits (at_rule_ended name prelude rest).0.block (contents_after rest)
ended-fits name prelude rest = by (starts open_brace rest) refl
  where
    by : (t : Bool) → starts open_brace rest ≡ t
        → BlockFits (at_rule_ended name prelude rest).0.block (contents_after rest)
    by true e = rw e (block-fits (past_byte open_brace rest))
    by false e = rw e tt

at_rule-fits : (in_block : Bool) (text : List ℕ)
    → BlockFits (at_rule in_block text).0.block (at_rule_contents in_block text)
unfolding at_rule
at_rule-fits in_block text =
    ended-fits (before (past_byte at_sign text) (past_word (past_byte at_sign text)))
    (parts (at_rule_ends in_block) (at_rule_prelude text)).0
    (parts (at_rule_ends in_block) (at_rule_prelude text)).1

-- the block of a statement, if it has one
abbrev pub block_in : StatementText → Option BlockText
block_in (rule_set prelude found) = Some found
block_in (at_rule_statement rule) = rule.block
block_in (skipped_statement fault) = None

rule_set-fits : (prelude : Stated) (rest : List ℕ)
    → BlockFits (block_in (rule_set_ended prelude rest).0) (contents_after rest)
rule_set-fits prelude rest = by (starts open_brace rest) refl
  where
    by : (t : Bool) → starts open_brace rest ≡ t
        → BlockFits (block_in (rule_set_ended prelude rest).0) (contents_after rest)
    by true e = rw e (block-fits (past_byte open_brace rest))
    by false e = rw e tt

pub statement-fits : (in_block : Bool) (text : List ℕ)
    → BlockFits (block_in (statement in_block text).0) (statement_contents in_block text)
unfolding statement
statement-fits in_block text = by (begins_at_rule text) refl
  where
    by : (t : Bool) → begins_at_rule text ≡ t
        → BlockFits (block_in (statement in_block text).0) (statement_contents in_block text)
    by true e = rw e (at_rule-fits in_block text)
    by false e =
        rw e (rule_set-fits (parts (rule_set_ends in_block) text).0
        (parts (rule_set_ends in_block) text).1)
