-- Nothing is lost: every byte of a text is in an item, a statement or a part of a block, or it is between
-- them.
use Rattle.std.specs.Prelude.{◌≡◌, ℕ, Bool, true, false, List, [], ◌∷◌, ◌++◌, Option}
use Rattle.std.specs.Option.{option_map}
use Rattle.css_text.specs.Reading.{before, each}
use Rattle.css_syntax.specs.Statements.{ends_block, past_between, SheetText, statements}
use Rattle.css_syntax.specs.DeclarationLists.{past_separators, ListText, items}
use Rattle.css_syntax.specs.Blocks.{BlockPart, next_block_part, next_rule_part}

-- The text is cut into pieces, one after another, with what `skip` skips before each, up to where
-- the text ends or a block does.
pub data IsCutUp (in_block : Bool) (skip : List ℕ → List ℕ) : List ℕ → List (List ℕ) → Type 0 where
  cut_ends : (text : List ℕ) → before text (skip text) ++ skip text ≡ text
      → ends_block in_block (skip text) ≡ true → IsCutUp in_block skip text []
  piece_then : (text piece rest : List ℕ) (more : List (List ℕ))
      → before text (skip text) ++ (piece ++ rest) ≡ text → IsCutUp in_block skip rest more
      → IsCutUp in_block skip text (piece ∷ more)

-- the texts of items
abbrev pub item_texts : List ListText → List (List ℕ)
item_texts [] = []
item_texts (p ∷ more) = p.text ∷ item_texts more

-- the texts of statements
abbrev pub statement_texts : List SheetText → List (List ℕ)
statement_texts [] = []
statement_texts (p ∷ more) = p.text ∷ statement_texts more

-- A list of declarations is cut into its items, each with all of its text, be it declared, an
-- at-rule or skipped. Before each are only semicolons, space bytes and comments.
abbrev pub LosesNoItem : Bool → List ℕ → Type 0
LosesNoItem in_block text = IsCutUp in_block past_separators text (item_texts (items in_block text))

-- A sheet is cut into its statements, each with all of its text. Before each are only space bytes
-- and comments, and in no block `<!--` and `-->`.
abbrev pub LosesNoStatement : Bool → List ℕ → Type 0
LosesNoStatement in_block text =
    IsCutUp in_block (past_between in_block) text (statement_texts (statements in_block text))

-- A part of a block that was read from here on, as its text from its start to its end.
abbrev pub part_text : List ℕ → BlockPart × List ℕ → List ℕ × List ℕ
part_text from read = (before from read.1, read.1)

-- the text of the next part of the block of a style rule, after what is before it
unfoldable pub next_part_text : List ℕ → Option (List ℕ × List ℕ)
next_part_text text = option_map (part_text (past_separators text)) (next_block_part text)

-- the same of a sheet, or of the block of an at-rule with rules
unfoldable pub next_rule_text : Bool → List ℕ → Option (List ℕ × List ℕ)
next_rule_text in_block text =
    option_map (part_text (past_between in_block text)) (next_rule_part in_block text)

-- What is read as the block of a style rule, in place, is cut into its parts up to the end of the text:
-- declarations, at-rules without a block, what is skipped, the beginnings of rules up to their blocks,
-- and the braces that close blocks. Before each are only semicolons, space bytes and comments.
abbrev pub LosesNoPart : List ℕ → Type 0
LosesNoPart text = IsCutUp false past_separators text (each next_part_text text).0

-- So is what is read as a sheet, or as the block of an at-rule with rules. Before each part are only
-- space bytes and comments, and in no block `<!--` and `-->`.
abbrev pub LosesNoRulePart : Bool → List ℕ → Type 0
LosesNoRulePart in_block text =
    IsCutUp false (past_between in_block) text (each (next_rule_text in_block) text).0
