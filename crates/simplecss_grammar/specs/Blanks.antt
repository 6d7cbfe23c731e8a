-- What comments and blanks are, without mention of reading. The laws of this crate connect them
-- with the readers: the blank that is read at the start of a text is the longest prefix that is a
-- blank.
use Rattle.std.specs.Prelude.{◌≡◌, ℕ, ◌<◌, List, [], ◌∷◌, ◌++◌, true, false, length, drop}
use Rattle.css_text.specs.AsciiBytes.{asterisk, slash}
use Rattle.css_text.specs.Bytes.{starts_two}
use Rattle.css_text.specs.Characters.{is_space}

-- The text is a comment: `/*`, some bytes, and `*/`, which is the first `*/` after the `/*`. The
-- two marks share no byte, so `/*/` is no comment.
pub record IsComment (text : List ℕ) : Type 0 where
  pub inside : List ℕ
  pub is : text ≡ (slash ∷ asterisk ∷ []) ++ (inside ++ (asterisk ∷ slash ∷ []))
  pub first : (k : ℕ) → k < length inside
      → starts_two asterisk slash (drop k (inside ++ (asterisk ∷ slash ∷ []))) ≡ false

-- The text is a blank: it is cut into space bytes and comments, one after another. It may be empty.
pub data IsBlank : List ℕ → Type 0 where
  -- nothing
  empty : IsBlank []
  -- a space byte, then a blank
  space_then : (b : ℕ) (rest : List ℕ) → is_space b ≡ true → IsBlank rest → IsBlank (b ∷ rest)
  -- a comment, then a blank
  comment_then : (c rest : List ℕ) → IsComment c → IsBlank rest → IsBlank (c ++ rest)

-- The text is cut into comments only, one after another: a blank with no space byte outside its
-- comments. It may be empty.
pub data IsComments : List ℕ → Type 0 where
  -- nothing
  none : IsComments []
  -- a comment, then further ones
  comment_before : (c rest : List ℕ) → IsComment c → IsComments rest → IsComments (c ++ rest)
