-- The declarations of a block or of a style attribute, each on its own: a broken one is dropped,
-- and reading continues after the next semicolon outside brackets, strings and comments (CSS 2.1,
-- section 4.2; CSS Syntax 3, sections 5.4.5 and 5.4.6). A rule among those of a block is skipped with
-- its own block (CSS Syntax 3, editor's draft, "consume a block's contents").
use Rattle.std.specs.Prelude.{ℕ, Bool, true, false, not, ◌||◌, ◌&&◌, ◌==◌, if◌then◌else◌, List, [], ◌∷◌, codes, Option, Some, None, Result, Ok, Err}
use Rattle.std.specs.Option.{is_some}
use Rattle.css_text.specs.AsciiBytes.{colon, exclamation_mark, semicolon, open_brace, hyphen}
use Rattle.css_text.specs.Reading.{each, before}
use Rattle.css_text.specs.Bytes.{past_byte, starts, starts_by}
use Rattle.css_syntax.specs.declared.parts.Stops.{Stops}
use Rattle.css_syntax.specs.declared.quality.Quality.{Quality}
use Rattle.css_syntax.specs.declared.quality.Fault.{Fault}
use Rattle.css_syntax.specs.declared.quality.Fault.TheVariants.{BrokenDeclaration, StrayBracket, NestedRule}
use Rattle.css_syntax.specs.Qualities.{is_good, is_whole, fault_of}
use Rattle.css_syntax.specs.Tokens.{then_letter, past_letter, spells, gap_part, past_gap, past_word, is_closer}
use Rattle.css_syntax.specs.Parts.{ends_at, Stated, parts}
use Rattle.css_syntax.specs.Statements.{AtRuleText, at_rule, at_rule_ends, begins_at_rule, block, starts_ident, ends_block}

-- A declaration: the name of a property, a value for it, whether it is important, and whether
-- nothing of its value is open at the end of the text.
pub record DeclarationText : Type 0 where
  pub name : List ℕ
  pub value : List ℕ
  pub important : Bool
  pub closed : Bool

-- what a list of declarations has: a declaration, an at-rule, or something that is skipped
pub data ItemText : Type 0 where
  declared : DeclarationText → ItemText
  at_rule_item : AtRuleText → ItemText
  skipped_item : Fault → ItemText

-- what ends a declaration: a semicolon; in a block, its closing brace, too
abbrev pub declaration_ends : Bool → Stops
declaration_ends in_block = record {
  semicolon = true;
  open_brace = false;
  close_brace = in_block;
  comma = false;
  in_value = false;
}

-- What ends a value: a semicolon, an exclamation mark, or a bracket that closes nothing. An opening
-- brace does, too, unless the property is a custom one: no other has a block in its value. (By the
-- draft a block alone may be a value.)
abbrev pub value_ends : (custom : Bool) → Stops
value_ends custom = record {
  semicolon = true;
  open_brace = not custom;
  close_brace = true;
  comma = false;
  in_value = true;
}

-- the value at the start, without blanks at its end, and the rest
abbrev pub value : (custom : Bool) → List ℕ → Stated × List ℕ
value custom text = parts (value_ends custom) text

-- the word `important` in any case, as it is or with escapes, which is then consumed with the blanks
-- after it; if another word begins here, the text that is left is `from`
abbrev pub important_word : List ℕ → List ℕ → Bool × List ℕ
important_word from text =
    if spells (codes "important") (before text (past_word text))
    then (true, past_gap (past_word text))
    else (false, from)

-- whether an exclamation mark and, after blanks, the word `important` are next, and the rest
abbrev pub importance : List ℕ → Bool × List ℕ
importance text =
    if starts exclamation_mark text
    then important_word text (past_gap (past_byte exclamation_mark text)) else (false, text)

-- the rest after a broken declaration, from where it is broken
abbrev pub past_broken : Bool → List ℕ → List ℕ
past_broken in_block text = (parts (declaration_ends in_block) text).1

-- a custom property: two hyphens, each as it is or as an escape
abbrev pub is_custom : List ℕ → Bool
is_custom name = is_some (then_letter hyphen hyphen (past_letter hyphen hyphen name))

-- the text is empty
abbrev pub is_empty : List ℕ → Bool
is_empty [] = true
is_empty (b ∷ text) = false

-- What is reported of a declaration with such a value that is dropped, where this follows: the flaw
-- of the value; or a closing bracket, if it follows the value and ends nothing.
abbrev pub why_broken : Bool → Quality → List ℕ → Fault
why_broken in_block quality rest =
    if is_good quality && not (ends_at (declaration_ends in_block) rest) && starts_by is_closer rest
    then StrayBracket else fault_of quality

-- A name and a value are a declaration if all of the value is good, if it ends at this rest, and if
-- the value is not empty or the property is a custom one.
abbrev pub is_stated : Bool → List ℕ → Stated → List ℕ → Bool
is_stated in_block name stated rest =
    is_good stated.quality && ends_at (declaration_ends in_block) rest
    && (not (is_empty stated.text) || is_custom name)

-- What is read as a declaration: it, with the rest after it; or what is reported of it.
abbrev pub Declared : Type 0
Declared = Result (DeclarationText × List ℕ) Fault

-- the declaration of this name, this value and this importance, or it is broken
abbrev pub stated_as : Bool → List ℕ → Stated → Bool × List ℕ → Declared
stated_as in_block name stated important =
    if is_stated in_block name stated important.1
    then Ok (
      record {
        name = name;
        value = stated.text;
        important = important.0;
        closed = is_whole stated.quality;
      },
      important.1,
    )
    else Err (why_broken in_block stated.quality important.1)

-- a value and what follows it
abbrev pub valued : Bool → List ℕ → Stated × List ℕ → Declared
valued in_block name stated = stated_as in_block name stated.0 (importance stated.1)

-- after a name, from a colon on, its value
abbrev pub named : Bool → (name : List ℕ) → List ℕ → Declared
named in_block name text =
    if starts colon text
    then valued in_block name (value (is_custom name) (past_gap (past_byte colon text)))
    else Err BrokenDeclaration

-- A declaration, or a broken one. (A `-->` begins none either way, since no colon follows its
-- hyphens.)
unfoldable pub declaration : Bool → List ℕ → Declared
declaration in_block text =
    if starts_ident text
    then named in_block (before text (past_word text)) (past_gap (past_word text))
    else Err BrokenDeclaration

-- a declaration of a custom property begins here: its name and a colon
abbrev pub begins_custom : List ℕ → Bool
begins_custom text =
    starts_ident text && is_custom (before text (past_word text))
    && starts colon (past_gap (past_word text))

-- What is no declaration is a rule, if a block follows before a semicolon, and is skipped with that
-- block; but never what begins as a custom property, which is skipped up to a semicolon.
abbrev pub rule_ended : Bool → (custom : Bool) → Fault → List ℕ → ItemText × List ℕ
rule_ended in_block custom fault rest =
    if starts open_brace rest
    then (if custom then (skipped_item fault, past_broken in_block rest)
    else (skipped_item NestedRule, (block (past_byte open_brace rest)).1))
    else (skipped_item fault, rest)

-- what is no declaration, from its start on; a style attribute has no rules
abbrev pub rule_or_broken : Bool → List ℕ → Fault → ItemText × List ℕ
rule_or_broken in_block text fault =
    if in_block
    then rule_ended in_block (begins_custom text) fault (parts (at_rule_ends in_block) text).1
    else (skipped_item fault, past_broken in_block text)

-- a declaration that was read, or else what is none
abbrev pub or_rule : Bool → List ℕ → Declared → ItemText × List ℕ
or_rule in_block text (Ok found) = (declared found.0, found.1)
or_rule in_block text (Err fault) = rule_or_broken in_block text fault

abbrev pub as_item : AtRuleText × List ℕ → ItemText × List ℕ
as_item found = (at_rule_item found.0, found.1)

-- an item of the list, from its start on
unfoldable pub item : Bool → List ℕ → ItemText × List ℕ
item in_block text =
    if begins_at_rule text then as_item (at_rule in_block text)
    else or_rule in_block text (declaration in_block text)

-- a semicolon, a space byte or a comment
unfoldable pub separator_part : List ℕ → Option (Unit {0} × List ℕ)
separator_part [] = None
separator_part (b ∷ text) = if b == semicolon then Some (tt, text) else gap_part (b ∷ text)

-- the rest after what is between items
abbrev pub past_separators : List ℕ → List ℕ
past_separators text = (each separator_part text).1

-- A part of a list: its text, and the item that it is.
pub record ListText : Type 0 where
  pub text : List ℕ
  pub item : ItemText

abbrev pub with_text : List ℕ → ItemText × List ℕ → ListText × List ℕ
with_text text found = (record { text = before text found.1; item = found.0 }, found.1)

-- the item from `start` on, if neither the text nor the block ends there
abbrev pub item_from : Bool → List ℕ → Option (ListText × List ℕ)
item_from in_block start =
    if ends_block in_block start then None else Some (with_text start (item in_block start))

-- the next item, after what is before it
unfoldable pub next_item : Bool → List ℕ → Option (ListText × List ℕ)
next_item in_block text = item_from in_block (past_separators text)

-- the items up to the end of the text or of the block
unfoldable pub items : Bool → List ℕ → List ListText
items in_block text = (each (next_item in_block) text).0
