-- The contents of a block, a part at a time and in place: declarations, nested rules and at-rules
-- (CSS Syntax 3, editor's draft, "consume a block's contents"; CSS Nesting 1, section 3). A rule is
-- opened, and what is in it follows. So no block is read twice, and rules may be nested in any depth.
use Rattle.std.specs.Prelude.{ℕ, Bool, true, ◌&&◌, ◌==◌, if◌then◌else◌, List, [], ◌∷◌, Option, Some, None, Ok, Err}
use Rattle.css_text.specs.AsciiBytes.{semicolon, open_brace, close_brace, at_sign}
use Rattle.css_text.specs.Reading.{before}
use Rattle.css_text.specs.Bytes.{past_byte, starts}
use Rattle.css_syntax.specs.declared.quality.Fault.{Fault}
use Rattle.css_syntax.specs.declared.quality.Fault.TheVariants.{NoBlock}
use Rattle.css_syntax.specs.Tokens.{past_gap, past_word}
use Rattle.css_syntax.specs.Parts.{Stated, parts}
use Rattle.css_syntax.specs.Statements.{at_rule_ends, rule_set_ends, begins_at_rule, past_between}
use Rattle.css_syntax.specs.DeclarationLists.{ItemText, declared, at_rule_item, skipped_item, Declared, declaration, begins_custom, past_broken, past_separators}

-- A part of the contents of a block.
pub data BlockPart : Type 0 where
  -- a declaration, an at-rule without a block, or what is skipped
  listed : ItemText → BlockPart
  -- a rule begins, and its contents follow
  opens_rule : (prelude : Stated) → BlockPart
  -- an at-rule with a block begins, and its contents follow
  opens_at_rule : (name : List ℕ) (prelude : Stated) → BlockPart
  -- the brace that closes the block
  closes : BlockPart

-- ---- at-rules

-- an at-rule, by what follows its prelude: a block, a semicolon, which is consumed, or neither
abbrev pub at_rule_begun : (name : List ℕ) → Stated → List ℕ → BlockPart × List ℕ
at_rule_begun name prelude rest =
    if starts open_brace rest then (opens_at_rule name prelude, past_byte open_brace rest)
    else (
      listed (at_rule_item (record { name = name; prelude = prelude; block = None })),
      past_byte semicolon rest,
    )

-- an at-rule, from its `@` on; in a block, its closing brace ends it, too
unfoldable pub at_rule_opened : Bool → List ℕ → BlockPart × List ℕ
at_rule_opened in_block text =
    let start = past_byte at_sign text in
    let prelude = parts (at_rule_ends in_block) (past_gap (past_word start)) in
    at_rule_begun (before start (past_word start)) prelude.0 prelude.1

-- ---- in a style rule

-- What is no declaration is a rule, if a block follows what may be its prelude before a semicolon;
-- but never what begins as a custom property, which is skipped up to a semicolon.
abbrev pub rule_opened : (custom : Bool) → Fault → Stated → List ℕ → BlockPart × List ℕ
rule_opened custom fault prelude rest =
    if starts open_brace rest
    then (if custom then (listed (skipped_item fault), past_broken true rest)
    else (opens_rule prelude, past_byte open_brace rest))
    else (listed (skipped_item fault), rest)

abbrev pub rule_opened_by : (custom : Bool) → Fault → Stated × List ℕ → BlockPart × List ℕ
rule_opened_by custom fault found = rule_opened custom fault found.0 found.1

-- a declaration that was read, or else what is none
abbrev pub or_opened : List ℕ → Declared → BlockPart × List ℕ
or_opened text (Ok found) = (listed (declared found.0), found.1)
or_opened text (Err fault) = rule_opened_by (begins_custom text) fault (parts (at_rule_ends true) text)

-- a part of the block of a style rule, from its start on
unfoldable pub block_part : List ℕ → BlockPart × List ℕ
block_part text =
    if begins_at_rule text then at_rule_opened true text else or_opened text (declaration true text)

-- the part from here on, unless the text ends
abbrev pub block_part_from : List ℕ → Option (BlockPart × List ℕ)
block_part_from [] = None
block_part_from (b ∷ text) =
    if b == close_brace then Some (closes, text) else Some (block_part (b ∷ text))

-- the next part of the block of a style rule, after what is before it
unfoldable pub next_block_part : List ℕ → Option (BlockPart × List ℕ)
next_block_part text = block_part_from (past_separators text)

-- ---- in a sheet, or in the block of an at-rule with rules

-- A rule by what follows its prelude. (A semicolon ends nothing here.)
abbrev pub listed_rule : Stated → List ℕ → BlockPart × List ℕ
listed_rule prelude rest =
    if starts open_brace rest then (opens_rule prelude, past_byte open_brace rest)
    else (listed (skipped_item NoBlock), rest)

abbrev pub listed_rule_by : Stated × List ℕ → BlockPart × List ℕ
listed_rule_by found = listed_rule found.0 found.1

-- a part of a sheet, from its start on
unfoldable pub rule_part : Bool → List ℕ → BlockPart × List ℕ
rule_part in_block text =
    if begins_at_rule text then at_rule_opened in_block text
    else listed_rule_by (parts (rule_set_ends in_block) text)

-- the part from here on, unless the text ends
abbrev pub rule_part_from : Bool → List ℕ → Option (BlockPart × List ℕ)
rule_part_from in_block [] = None
rule_part_from in_block (b ∷ text) =
    if in_block && b == close_brace then Some (closes, text)
    else Some (rule_part in_block (b ∷ text))

-- the next part of a sheet, or of the block of an at-rule with rules, after what is before it
unfoldable pub next_rule_part : Bool → List ℕ → Option (BlockPart × List ℕ)
next_rule_part in_block text = rule_part_from in_block (past_between in_block text)
