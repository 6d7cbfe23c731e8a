-- What the iterators over declarations and statements are still to yield.
use Rattle.std.specs.Prelude.{◌≡◌, ℕ, ◌≤◌, Bool, List, length, Option, None, Some}
use Rattle.std.specs.Iterator.{YieldsFirstBy}
use Rattle.std.specs.Iterator.Runs.{EveryRun, ItemsMapTo}
use Rattle.css_syntax.specs.declared.declarations.ListPart.{ListPart}
use Rattle.css_syntax.specs.declared.declarations.Declarations.{Declarations}
use Rattle.css_syntax.specs.declared.statements.SheetPart.{SheetPart}
use Rattle.css_syntax.specs.declared.statements.Statements.{Statements}
use Rattle.css_syntax.specs.Statements.{SheetText, next_statement, statements}
use Rattle.css_syntax.specs.DeclarationLists.{ListText, next_item, items}
use Rattle.css_syntax.specs.Views.{list_part_of, sheet_part_of}

-- ---- declarations

-- what is left to read
abbrev pub items_left : Declarations → List ℕ
items_left d = d.rest.now

-- whether a closing brace ends it
abbrev pub list_in_block : Declarations → Bool
list_in_block d = d.in_block

-- the items that are still to come
abbrev pub items_to_come : Declarations → List ListText
items_to_come d = items (list_in_block d) (items_left d)

-- A call read the item at the start of a text and left `left`, or there was none, and then the same
-- is left.
abbrev pub GivesNextItem : Bool → List ℕ → Option ListPart → (left : List ℕ) → Type 0
GivesNextItem in_block text None left = (next_item in_block text ≡ None) × (left ≡ text)
GivesNextItem in_block text (Some p) left = next_item in_block text ≡ Some (list_part_of p, left)

-- A call of `next` on the iterator `before` returned `result` and left the iterator `after`.
pub record GivesItem (before : Declarations) (result : Option ListPart) (after : Declarations) :
    Type 0 where
  -- the first of the items that were to come, and the others still are; or none was to come, and
  -- none is
  pub items : YieldsFirstBy list_part_of items_to_come before result after
  -- it was read from the start of the rest
  pub reads : GivesNextItem (list_in_block before) (items_left before) result (items_left after)
  pub in_block : list_in_block after ≡ list_in_block before

-- What calls of `next` return, from any iterator on, is a prefix of the items that are still to
-- come there, and all of them if the calls continued to `None`.
abbrev pub GivesItemsInTurn : Type 0
GivesItemsInTurn =
    EveryRun GivesItem (λ calls. ItemsMapTo calls list_part_of (items_to_come calls.from))

-- an iterator at the start of a text
pub record BeginsList (in_block : Bool) (text : List ℕ) (d : Declarations) : Type 0 where
  pub left : items_left d ≡ text
  pub in_block_is : list_in_block d ≡ in_block
  -- the items of the text are still to come: at most as many as it has bytes
  pub to_come : items_to_come d ≡ items in_block text
  pub few : length (items in_block text) ≤ length text
  pub in_turn : GivesItemsInTurn

-- ---- statements

abbrev pub statements_left : Statements → List ℕ
statements_left s = s.rest.now

abbrev pub sheet_in_block : Statements → Bool
sheet_in_block s = s.in_block

-- the statements that are still to come
abbrev pub statements_to_come : Statements → List SheetText
statements_to_come s = statements (sheet_in_block s) (statements_left s)

-- A call read the statement at the start of a text and left `left`, or there was none, and then the
-- same is left.
abbrev pub GivesNextStatement : Bool → List ℕ → Option SheetPart → (left : List ℕ) → Type 0
GivesNextStatement in_block text None left = (next_statement in_block text ≡ None) × (left ≡ text)
GivesNextStatement in_block text (Some p) left =
    next_statement in_block text ≡ Some (sheet_part_of p, left)

-- A call of `next` on the iterator `before` returned `result` and left the iterator `after`.
pub record GivesStatement (before : Statements) (result : Option SheetPart) (after : Statements) :
    Type 0 where
  -- the first of the statements that were to come, and the others still are; or none was to come,
  -- and none is
  pub items : YieldsFirstBy sheet_part_of statements_to_come before result after
  -- it was read from the start of the rest
  pub reads :
      GivesNextStatement (sheet_in_block before) (statements_left before) result
      (statements_left after)
  pub in_block : sheet_in_block after ≡ sheet_in_block before

-- What calls of `next` return, from any iterator on, is a prefix of the statements that are still
-- to come there, and all of them if the calls continued to `None`.
abbrev pub GivesStatementsInTurn : Type 0
GivesStatementsInTurn =
    EveryRun GivesStatement (λ calls. ItemsMapTo calls sheet_part_of
    (statements_to_come calls.from))

-- an iterator at the start of a text
pub record BeginsSheet (in_block : Bool) (text : List ℕ) (s : Statements) : Type 0 where
  pub left : statements_left s ≡ text
  pub in_block_is : sheet_in_block s ≡ in_block
  -- the statements of the text are still to come: at most as many as it has bytes
  pub to_come : statements_to_come s ≡ statements in_block text
  pub few : length (statements in_block text) ≤ length text
  pub in_turn : GivesStatementsInTurn
