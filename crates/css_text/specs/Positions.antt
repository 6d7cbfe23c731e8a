-- Rows and columns.
use Rattle.std.specs.Prelude.{ℕ, ◌+◌, ◌-◌, List, ◌==◌, if◌then◌else◌, length, take, min, count_by, chars}
use Rattle.std.specs.List.{after_last}
use Rattle.css_text.specs.AsciiBytes.{newline}
use Rattle.css_text.specs.declared.text_pos.TextPos.{TextPos}

-- the greatest `u32`
abbrev pub greatest : ℕ
greatest = 0xFFFF_FFFF

-- The position in a whole text of `inner`, a position in the text that begins at `start`: rows add
-- up, and so do columns on the first row of that text. Both stop at the greatest `u32`.
abbrev pub in_whole : TextPos → TextPos → TextPos
in_whole start inner = record {
  row = min greatest (start.row + (inner.row - 1));
  col = if inner.row == 1 then min greatest (start.col + (inner.col - 1)) else inner.col;
}

-- The position of an offset: 1 more than the newlines before it, and 1 more than the characters
-- since the last of them. Both stop at the greatest `u32`.
unfoldable pub position : List ℕ → ℕ → TextPos
position text offset = record {
  row = min greatest (1 + count_by (λ b. b == newline) (take offset text));
  col = min greatest (1 + length (chars (after_last (λ b. b == newline) (take offset text))));
}
