-- The printed text of a style sheet, by what the sheet says, and what reading it again returns.
use Rattle.std.specs.Prelude.{◌≡◌, ℕ, ◌+◌, ◌-◌, ◌*◌, Bool, true, false, ◌==◌, if◌then◌else◌, ◌||◌, ◌&&◌, min, List, [], ◌∷◌, ◌++◌, codes, take}
use Rattle.std.specs.Str.{IsUtf8}
use Rattle.css_text.specs.AsciiBytes.{comma, exclamation_mark, open_parenthesis}
use Rattle.css_text.specs.Bytes.{past_one, starts}
use Rattle.css_sheet.specs.declared.printing.Layout.{Layout}
use Rattle.css_sheet.specs.declared.printing.Layout.TheVariants as layouts
use Rattle.css_sheet.specs.Pieces.{PieceText, word, verbatim, at_rule, colon, semicolon, opens, closes}
use Rattle.css_sheet.specs.Said.{says}

-- ---- pieces

-- A piece; a semicolon is written before the next one, unless that needs none.
abbrev pub piece_text : PieceText → List ℕ
piece_text (word text) = text
piece_text (verbatim text) = text
piece_text (at_rule name) = codes "@" ++ name
piece_text colon = codes ":"
piece_text semicolon = []
piece_text opens = codes "{"
piece_text closes = codes "}"

abbrev pub is_semicolon : PieceText → Bool
is_semicolon (word text) = false
is_semicolon (verbatim text) = false
is_semicolon (at_rule name) = false
is_semicolon colon = false
is_semicolon semicolon = true
is_semicolon opens = false
is_semicolon closes = false

abbrev pub is_closing : PieceText → Bool
is_closing (word text) = false
is_closing (verbatim text) = false
is_closing (at_rule name) = false
is_closing colon = false
is_closing semicolon = false
is_closing opens = false
is_closing closes = true

abbrev pub is_opening : PieceText → Bool
is_opening (word text) = false
is_opening (verbatim text) = false
is_opening (at_rule name) = false
is_opening colon = false
is_opening semicolon = false
is_opening opens = true
is_opening closes = false

-- ---- what is between two pieces

-- the semicolon after the piece before; the short layout has none before a closing brace
abbrev pub semicolon_text : Layout → PieceText → PieceText → List ℕ
semicolon_text layouts.Short last next =
    if is_semicolon last then (if is_closing next then [] else codes ";") else []
semicolon_text layouts.Lines last next = if is_semicolon last then codes ";" else []

-- between the name of an at-rule and what follows it
abbrev pub named_space : Layout → PieceText → List ℕ
named_space layouts.Short (word text) = if starts open_parenthesis text then [] else codes " "
named_space layouts.Lines (word text) = codes " "
named_space layout (verbatim text) = []
named_space layout (at_rule name) = []
named_space layout colon = []
named_space layout semicolon = []
named_space layout opens = []
named_space layout closes = []

-- after a colon: where the value of a custom property is empty, always
abbrev pub value_space : Layout → PieceText → List ℕ
value_space layouts.Short next = if is_semicolon next then codes " " else []
value_space layouts.Lines next = codes " "

abbrev pub is_comma : List ℕ → Bool
is_comma [] = false
is_comma (b ∷ []) = b == comma
is_comma (b ∷ c ∷ text) = false

-- what follows the value of an important declaration
abbrev pub is_important : PieceText → Bool
is_important (word text) = starts exclamation_mark text && starts 105 (past_one text)
is_important (verbatim text) = false
is_important (at_rule name) = false
is_important colon = false
is_important semicolon = false
is_important opens = false
is_important closes = false

-- after a word
abbrev pub word_space : Layout → List ℕ → PieceText → List ℕ
word_space layouts.Short text next = []
word_space layouts.Lines text next = if is_comma text || is_important next then codes " " else []

abbrev pub short_space : Layout → PieceText → PieceText → List ℕ
short_space layout (word text) next = word_space layout text next
short_space layout (verbatim text) next = []
short_space layout (at_rule name) next = named_space layout next
short_space layout colon next = value_space layout next
short_space layout semicolon next = []
short_space layout opens next = []
short_space layout closes next = []

-- how many levels are indented at most
abbrev pub most_levels : ℕ
most_levels = 16

-- Two blanks for each level, up to 16 levels.
abbrev pub blanks : ℕ → List ℕ
blanks depth = take (2 * min depth most_levels) (codes "                                ")

-- a new line, in `depth` rules
abbrev pub line_start : (depth : ℕ) → List ℕ
line_start depth = codes "\n" ++ blanks depth

-- A piece begins a line where it is the end of a rule, or where a brace or a semicolon is before it.
abbrev pub ends_line : PieceText → Bool
ends_line (word text) = false
ends_line (verbatim text) = false
ends_line (at_rule name) = false
ends_line colon = false
ends_line semicolon = true
ends_line opens = true
ends_line closes = true

abbrev pub line_space : (depth : ℕ) → PieceText → PieceText → List ℕ
line_space depth last next =
    if is_closing next then line_start (depth - 1)
    else (if ends_line last then line_start depth
    else (if is_opening next then codes " " else short_space layouts.Lines last next))

abbrev pub space : Layout → (depth : ℕ) → PieceText → PieceText → List ℕ
space layouts.Short depth last next = short_space layouts.Short last next
space layouts.Lines depth last next = line_space depth last next

-- ---- all of it

-- how many rules are open after a piece, where `depth` are open before it
abbrev pub depth_past : (depth : ℕ) → PieceText → ℕ
depth_past depth (word text) = depth
depth_past depth (verbatim text) = depth
depth_past depth (at_rule name) = depth
depth_past depth colon = depth
depth_past depth semicolon = depth
depth_past depth opens = depth + 1
depth_past depth closes = depth - 1

-- what ends the text after this piece
abbrev pub end_text : Layout → PieceText → List ℕ
end_text layouts.Short last = if is_semicolon last then codes ";" else []
end_text layouts.Lines last =
    if is_semicolon last then codes ";\n" else (if ends_line last then codes "\n" else [])

-- these pieces, where `depth` rules are open and this piece was before them
abbrev pub text_from : Layout → (depth : ℕ) → (last : PieceText) → List PieceText → List ℕ
text_from layout depth last [] = end_text layout last
text_from layout depth last (next ∷ pieces) =
    semicolon_text layout last next ++ space layout depth last next ++ piece_text next
    ++ text_from layout (depth_past depth next) next pieces

-- what is before the first piece: nothing
abbrev pub no_piece : PieceText
no_piece = verbatim []

-- pieces, printed
abbrev pub pieces_text : Layout → List PieceText → List ℕ
pieces_text layout pieces = text_from layout 0 no_piece pieces

-- what a sheet says, printed
abbrev pub written : Layout → List ℕ → List ℕ
written layout text = pieces_text layout (says text)

-- Printed, what the sheet says reads back: it is a text that says the same.
abbrev pub ReadsBack : Layout → List ℕ → Type 0
ReadsBack layout text = IsUtf8 (written layout text) × (says (written layout text) ≡ says text)

-- The printed text of a sheet: what it says, printed, if that reads back; or else its own text.
pub record IsPrinted (layout : Layout) (text printed : List ℕ) : Type 0 where
  pub short : ReadsBack layout text → printed ≡ written layout text
  pub same : (ReadsBack layout text → ⊥) → printed ≡ text
