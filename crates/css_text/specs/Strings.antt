-- Strings, and the possible values of an attribute.
use Rattle.std.specs.Prelude.{ℕ, Bool, not, ◌&&◌, ◌||◌, ◌==◌, if◌then◌else◌, List, [], ◌∷◌, Option, Some, None}
use Rattle.css_text.specs.AsciiBytes.{double_quote, single_quote, backslash}
use Rattle.css_text.specs.Reading.{ended, Reading, got, fails, Reader, before}
use Rattle.css_text.specs.Bytes.{past_one}
use Rattle.css_text.specs.Characters.{Edition}
use Rattle.css_text.specs.Names.{name}

-- a single or a double quote
abbrev pub is_quote : ℕ → Bool
is_quote b = b == single_quote || b == double_quote

-- The rest from the first such quote on that does not directly follow a backslash. The byte before
-- the text is `previous`. Whether such a backslash is itself escaped is not considered.
abbrev pub from_quote : ℕ → ℕ → List ℕ → Option (List ℕ)
from_quote quote previous [] = None
from_quote quote previous (b ∷ text) =
    if b == quote && not (previous == backslash) then Some (b ∷ text) else from_quote quote b text

-- The text up to the closing quote, which is consumed. Without one nothing is left, and the fault
-- is that the text ended.
abbrev pub string_up_to : List ℕ → Option (List ℕ) → Reading (List ℕ)
string_up_to text None = fails ended []
string_up_to text (Some closing) = got (before text closing) (past_one closing)

-- The rest of a string whose opening quote was read: the text before the closing quote. Without one
-- nothing is left, and the fault is that the text ended.
abbrev pub string_after : ℕ → Reader (List ℕ)
string_after quote text = string_up_to text (from_quote quote quote text)

-- A string if a quote is next, else a name. At the end of the text the fault is that it ended.
unfoldable pub string_or_name : Edition → Reader (List ℕ)
string_or_name edition [] = fails ended []
string_or_name edition (b ∷ text) =
    if is_quote b then string_after b text else name edition (b ∷ text)
