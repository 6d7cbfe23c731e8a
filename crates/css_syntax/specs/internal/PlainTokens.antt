-- Runs of tokens that are words and signs, which are whole wherever they are, and the parts that they are.
use Rattle.std.specs.Prelude.{◌≡◌, ◌≤◌, ◌<◌, ℕ, Bool, ◌||◌, ◌==◌, List, length, map}
use Rattle.css_text.specs.AsciiBytes.{backslash, open_parenthesis}
use Rattle.css_text.specs.Reading.{each, last_or}
use Rattle.css_text.specs.Bytes.{starts_by, is_within}
use Rattle.css_syntax.specs.declared.quality.Quality.{Quality}
use Rattle.css_syntax.specs.declared.parts.Stops.{Stops}
use Rattle.css_syntax.specs.Qualities.{first_flaw, flaw_of_all}
use Rattle.css_syntax.specs.Tokens.{is_name_byte}
use Rattle.css_syntax.specs.Parts.{part}

-- one of `#$%&*+,.:=>?@^`|~`
abbrev pub is_sign : ℕ → Bool
is_sign b =
    is_within 35 38 b || is_within 42 44 b || b == 46 || b == 58 || is_within 61 64 b || b == 94
    || b == 96 || b == 124 || b == 126

-- a byte of a name, or a sign
abbrev pub is_plain : ℕ → Bool
is_plain b = is_name_byte b || is_sign b

-- what is next may go on with a word: an escape, or a parenthesis as of `url(`
abbrev pub goes_on : List ℕ → Bool
goes_on text = starts_by (λ b. b == open_parenthesis || b == backslash) text

-- Of the text, parts of this first flaw were read: the last one ends at `end`, and those from `next`
-- on are all the others.
pub record Goes (stops : Stops) (text : List ℕ) (quality : Quality) (end next : List ℕ) : Type 0 where
  pub last : (other : List ℕ) → last_or other (map (λ one. one.1) (each (part stops) text).0)
      ≡ last_or end (map (λ one. one.1) (each (part stops) next).0)
  pub flaw : flaw_of_all (map (λ one. one.0) (each (part stops) text).0)
      ≡ first_flaw quality (flaw_of_all (map (λ one. one.0) (each (part stops) next).0))
  pub left : (each (part stops) text).1 ≡ (each (part stops) next).1
  pub less : length end < length text
  pub within : length next ≤ length end
