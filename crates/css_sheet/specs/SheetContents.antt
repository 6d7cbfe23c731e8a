-- The parts of a sheet, in place: where its rules begin and end, whether they apply or not, and what is in the
-- blocks of its style rules (CSS Nesting 1).
use Rattle.std.specs.Prelude.{ℕ, true, List, [], length, map}
use Rattle.css_syntax.specs.Placed.{PlacedItem, placed_items}
use Rattle.css_selector_text.specs.Names.{no_names}
use Rattle.css_sheet.specs.SheetParts.{SheetPart, states, begins, ends, stands, PlacedPart, Source, parts_in}

-- A part, what is left of the sheet from it on, and the offset at which it ends.
pub record ContentText : Type 0 where
  pub part : SheetPart
  pub from : List ℕ
  pub end : ℕ

abbrev pub content : PlacedPart → ContentText
content placed = record { part = placed.part; from = placed.from; end = placed.end }

-- a text that is in no group rule; what it declares makes no difference to its parts
abbrev pub text_source : List ℕ → Source
text_source text = record { sheet = 0; size = length text; depth = 0; names = no_names }

-- the parts of a sheet, in order
abbrev pub contents_of : List ℕ → List ContentText
contents_of text = map content (parts_in (λ keyword prelude. true) (text_source text) [] text)

-- The items of a part, each with what is left of the part from it on: those of its text, if it is
-- declarations in a style rule (CSS Syntax 3, "consume a block's contents"). Any other part has none.
abbrev pub part_items : SheetPart → List PlacedItem
part_items (states text) = placed_items true text
part_items (begins kind) = []
part_items ends = []
part_items (stands item) = []
