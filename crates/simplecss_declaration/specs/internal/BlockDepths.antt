-- Parts of a block in which other blocks begin and end.
use Rattle.std.specs.Prelude.{◌≡◌, ℕ, ◌+◌, ◌<◌, Bool, true, false, ◌&&◌, ◌==◌, List, length, take, slice_index}
use Rattle.css_text.specs.AsciiBytes.{open_brace, close_brace}
use Rattle.simplecss_grammar.specs.Blocks.{count_of}

-- A closing brace is at the offset, and ends neither a block that begins in the text nor one of the
-- `depth` blocks that are open before it.
abbrev pub closes_at : ℕ → List ℕ → ℕ → Bool
closes_at depth text offset =
    slice_index text offset == close_brace
    && depth + count_of open_brace (take offset text) == count_of close_brace (take offset text)

-- the first such brace is at the offset
pub record ClosesFirst (depth : ℕ) (text : List ℕ) (offset : ℕ) : Type 0 where
  pub within : offset < length text
  pub closes : closes_at depth text offset ≡ true
  pub before : (k : ℕ) → k < offset → closes_at depth text k ≡ false

-- there is no such brace, and `after` blocks are open after the text
pub record ClosesNowhere (depth : ℕ) (text : List ℕ) (after : ℕ) : Type 0 where
  pub none : (k : ℕ) → k < length text → closes_at depth text k ≡ false
  pub counts : after + count_of close_brace text ≡ depth + count_of open_brace text
