-- The pieces of what a style sheet says.
use Rattle.std.specs.Prelude.{ℕ, List, map}
use Rattle.css_sheet.specs.declared.pieces.Piece.{Piece}
use Rattle.css_sheet.specs.declared.pieces.Piece.TheVariants as pieces

-- A piece: a word; a text that is kept byte for byte; an at-rule begins, by its name; the colon after the
-- name of a property; a declaration, or an at-rule without a block, ends; the block of a rule begins; or it
-- ends.
pub data PieceText : Type 0 where
  word : (text : List ℕ) → PieceText
  verbatim : (text : List ℕ) → PieceText
  at_rule : (name : List ℕ) → PieceText
  colon : PieceText
  semicolon : PieceText
  opens : PieceText
  closes : PieceText

-- what contracts see of a piece
abbrev pub piece_of : Piece → PieceText
piece_of (pieces.Word text) = word text.now
piece_of (pieces.Verbatim text) = verbatim text.now
piece_of (pieces.AtRule name) = at_rule name.now
piece_of pieces.Colon = colon
piece_of pieces.Semicolon = semicolon
piece_of pieces.Opens = opens
piece_of pieces.Closes = closes
