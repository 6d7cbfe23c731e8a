-- The statements of a sheet, or of the block of an at-rule such as `@media`: rule sets and at-rules
-- (CSS Syntax 3, sections 5.4.1 to 5.4.3).
use Rattle.std.specs.Prelude.{ℕ, Bool, true, false, not, ◌||◌, ◌&&◌, ◌==◌, if◌then◌else◌, List, [], ◌∷◌, drop, Option, Some, None}
use Rattle.css_text.specs.AsciiBytes.{hyphen, semicolon, open_brace, close_brace, at_sign, underscore}
use Rattle.css_text.specs.Reading.{each, before}
use Rattle.css_text.specs.Bytes.{past_byte, starts, starts_by, starts_two}
use Rattle.css_text.specs.Characters.{is_letter}
use Rattle.css_syntax.specs.declared.parts.Stops.{Stops}
use Rattle.css_syntax.specs.declared.quality.Fault.{Fault}
use Rattle.css_syntax.specs.declared.quality.Fault.TheVariants.{NoBlock}
use Rattle.css_syntax.specs.Tokens.{begins_cdo, begins_escape, gap_part, is_wide_byte, past_gap, past_word}
use Rattle.css_syntax.specs.Parts.{Stated, parts}

-- ---- names (section 4.3.9)

-- a byte that begins a name
abbrev pub begins_name_byte : ℕ → Bool
begins_name_byte b = is_letter b || b == underscore || is_wide_byte b

-- such a byte or an escape
abbrev pub begins_plain_ident : List ℕ → Bool
begins_plain_ident text = starts_by begins_name_byte text || begins_escape text

-- a name begins here: two hyphens, or such a byte or an escape, also after a hyphen
abbrev pub starts_ident : List ℕ → Bool
starts_ident text = starts_two hyphen hyphen text || begins_plain_ident (past_byte hyphen text)

-- the text begins with `-->`
abbrev pub begins_cdc : List ℕ → Bool
begins_cdc text = starts_two hyphen hyphen text && starts 62 (drop 2 text)

-- a name is the token here: one begins, and it is no `-->` (section 4.3.1)
abbrev pub begins_ident : List ℕ → Bool
begins_ident text = starts_ident text && not (begins_cdc text)

-- an at-rule begins here: `@` and directly a name
abbrev pub begins_at_rule : List ℕ → Bool
begins_at_rule [] = false
begins_at_rule (b ∷ text) = b == at_sign && starts_ident text

-- ---- blocks

-- What is in a block, without blanks at either end, and whether a brace closes it or only the end
-- of the text.
pub record BlockText : Type 0 where
  pub text : List ℕ
  pub closed : Bool

abbrev pub block_ends : Stops
block_ends = record {
  semicolon = false;
  open_brace = false;
  close_brace = true;
  comma = false;
  in_value = false;
}

abbrev pub block_closed : Stated × List ℕ → BlockText × List ℕ
block_closed inside = (
  record { text = inside.0.text; closed = starts close_brace inside.1 },
  past_byte close_brace inside.1,
)

-- a block, from after its opening brace: component values up to its closing brace
unfoldable pub block : List ℕ → BlockText × List ℕ
block text = block_closed (parts block_ends (past_gap text))

-- ---- at-rules (section 5.4.2)

-- An at-rule: its name, what is between the name and the block or the semicolon, without blanks at
-- either end, and its block, if it has one.
pub record AtRuleText : Type 0 where
  pub name : List ℕ
  pub prelude : Stated
  pub block : Option BlockText

-- what ends the prelude of an at-rule, or of a rule among declarations: its block, or a semicolon; in
-- a block, its closing brace does, too
abbrev pub at_rule_ends : Bool → Stops
at_rule_ends in_block = record {
  semicolon = true;
  open_brace = true;
  close_brace = in_block;
  comma = false;
  in_value = false;
}

abbrev pub at_rule_with : List ℕ → Stated → BlockText × List ℕ → AtRuleText × List ℕ
at_rule_with name prelude found =
    (record { name = name; prelude = prelude; block = Some found.0 }, found.1)

abbrev pub at_rule_without : List ℕ → Stated → List ℕ → AtRuleText × List ℕ
at_rule_without name prelude rest =
    (record { name = name; prelude = prelude; block = None }, rest)

-- by what follows the prelude: a block, or a semicolon, which is consumed, or neither
abbrev pub at_rule_ended : List ℕ → Stated → List ℕ → AtRuleText × List ℕ
at_rule_ended name prelude rest =
    if starts open_brace rest then at_rule_with name prelude (block (past_byte open_brace rest))
    else at_rule_without name prelude (past_byte semicolon rest)

-- an at-rule, from its `@` on
unfoldable pub at_rule : Bool → List ℕ → AtRuleText × List ℕ
at_rule in_block text =
    let start = past_byte at_sign text in
    let prelude = parts (at_rule_ends in_block) (past_gap (past_word start)) in
    at_rule_ended (before start (past_word start)) prelude.0 prelude.1

-- ---- rule sets (section 5.4.3)

-- A statement: a rule set, with what is before its block, which should be selectors; an at-rule; or
-- what has no block, which is reported.
pub data StatementText : Type 0 where
  rule_set : (prelude : Stated) (block : BlockText) → StatementText
  at_rule_statement : AtRuleText → StatementText
  skipped_statement : Fault → StatementText

-- what ends the prelude of a rule set: its block; in a block, its closing brace does, too
abbrev pub rule_set_ends : Bool → Stops
rule_set_ends in_block = record {
  semicolon = false;
  open_brace = true;
  close_brace = in_block;
  comma = false;
  in_value = false;
}

abbrev pub rule_set_with : Stated → BlockText × List ℕ → StatementText × List ℕ
rule_set_with prelude found = (rule_set prelude found.0, found.1)

abbrev pub rule_set_ended : Stated → List ℕ → StatementText × List ℕ
rule_set_ended prelude rest =
    if starts open_brace rest then rule_set_with prelude (block (past_byte open_brace rest))
    else (skipped_statement NoBlock, rest)

abbrev pub rule_set_after : Stated × List ℕ → StatementText × List ℕ
rule_set_after prelude = rule_set_ended prelude.0 prelude.1

abbrev pub as_statement : AtRuleText × List ℕ → StatementText × List ℕ
as_statement found = (at_rule_statement found.0, found.1)

-- a statement, from its start on
unfoldable pub statement : Bool → List ℕ → StatementText × List ℕ
statement in_block text =
    if begins_at_rule text then as_statement (at_rule in_block text)
    else rule_set_after (parts (rule_set_ends in_block) text)

-- ---- statements one after another (section 5.4.1)

-- a space byte, a comment or, between the statements of a sheet, `<!--` or `-->`
unfoldable pub between_part : Bool → List ℕ → Option (Unit {0} × List ℕ)
between_part in_block [] = None
between_part in_block (b ∷ text) =
    if not in_block && begins_cdo (b ∷ text) then Some (tt, drop 3 text)
    else (if not in_block && begins_cdc (b ∷ text) then Some (tt, drop 2 text)
    else gap_part (b ∷ text))

abbrev pub past_between : Bool → List ℕ → List ℕ
past_between in_block text = (each (between_part in_block) text).1

-- the text ends, or the block does
abbrev pub ends_block : Bool → List ℕ → Bool
ends_block in_block [] = true
ends_block in_block (b ∷ text) = in_block && b == close_brace

-- A part of a sheet: its text, and the statement that it is.
pub record SheetText : Type 0 where
  pub text : List ℕ
  pub statement : StatementText

abbrev pub with_text : List ℕ → StatementText × List ℕ → SheetText × List ℕ
with_text text found =
    (record { text = before text found.1; statement = found.0 }, found.1)

-- the statement from `start` on, if neither the text nor the block ends there
abbrev pub statement_from : Bool → List ℕ → Option (SheetText × List ℕ)
statement_from in_block start =
    if ends_block in_block start then None
    else Some (with_text start (statement in_block start))

-- the next statement, after what is before it
unfoldable pub next_statement : Bool → List ℕ → Option (SheetText × List ℕ)
next_statement in_block text = statement_from in_block (past_between in_block text)

-- the statements up to the end of the text or of the block that they are in
unfoldable pub statements : Bool → List ℕ → List SheetText
statements in_block text = (each (next_statement in_block) text).0
