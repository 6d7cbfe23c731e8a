-- What contracts see of rows and of pieces of a page.
use Rattle.std.specs.Prelude.{ℕ, List, Option}
use Rattle.std.specs.Borrow.{Bor}
use Rattle.html_encodings.specs.declared.encoding.Encoding.{Encoding}
use Rattle.html_encodings.specs.declared.prescan.Piece.{Piece}

-- a row of the table of labels
abbrev pub row_of : Bor (List ℕ) × Encoding → List ℕ × Encoding
row_of row = (row.0.now, row.1)

-- the encoding that a piece of a page names, and the rest after it
abbrev pub piece_of : Piece → Option Encoding × List ℕ
piece_of piece = (piece.encoding, piece.rest.now)
