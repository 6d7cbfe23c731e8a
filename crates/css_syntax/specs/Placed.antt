-- Items and statements with where they are: what is left of the text from each on.
use Rattle.std.specs.Prelude.{ℕ, Bool, List, Option}
use Rattle.std.specs.Option.{option_map}
use Rattle.css_text.specs.Reading.{each}
use Rattle.css_syntax.specs.Statements.{SheetText, past_between, next_statement}
use Rattle.css_syntax.specs.DeclarationLists.{ListText, past_separators, next_item}

-- An item of a list, and what is left from it on.
pub record PlacedItem : Type 0 where
  pub part : ListText
  pub from : List ℕ

abbrev pub placed_item : List ℕ → ListText × List ℕ → PlacedItem × List ℕ
placed_item from read = (record { part = read.0; from = from }, read.1)

-- the next item, after what is before it
unfoldable pub next_placed_item : Bool → List ℕ → Option (PlacedItem × List ℕ)
next_placed_item in_block text =
    option_map (placed_item (past_separators text)) (next_item in_block text)

-- the items up to the end of the text or of the block
unfoldable pub placed_items : Bool → List ℕ → List PlacedItem
placed_items in_block text = (each (next_placed_item in_block) text).0

-- A statement, what is left from it on, and what is left after it.
pub record PlacedStatement : Type 0 where
  pub part : SheetText
  pub from : List ℕ
  pub after : List ℕ

abbrev pub placed_statement : List ℕ → SheetText × List ℕ → PlacedStatement × List ℕ
placed_statement from read =
    (record { part = read.0; from = from; after = read.1 }, read.1)

-- the next statement, after what is before it
unfoldable pub next_placed_statement : Bool → List ℕ → Option (PlacedStatement × List ℕ)
next_placed_statement in_block text =
    option_map (placed_statement (past_between in_block text)) (next_statement in_block text)

-- the statements up to the end of the text or of the block
unfoldable pub placed_statements : Bool → List ℕ → List PlacedStatement
placed_statements in_block text = (each (next_placed_statement in_block) text).0
