-- The characters of a text: space bytes, and the characters of names, in two editions of the rules.
--
-- Space bytes separate things: they are what CSS 2.1 (section 4.1.1) calls white space. A value or
-- a language is trimmed at its ends by the white space of Unicode, as a string's `trim` does: that
-- has the space bytes, and also the vertical tab and, past ASCII, characters that a name may have,
-- such as the no-break space and the ideographic space.
use Rattle.std.specs.Prelude.{ℕ, Bool, ◌||◌, ◌==◌, nat_le}
use Rattle.css_text.specs.AsciiBytes.{tab, newline, form_feed, carriage_return, space, hyphen, underscore}
use Rattle.css_text.specs.Bytes.{is_within, is_digit}

-- An edition of the rules. The editions differ in the first character past ASCII that a name may
-- have; and in the second a slash that opens no comment is a term of a value.
pub data Edition : Type 0 where
  first_edition : Edition
  second_edition : Edition

-- a space byte: a space, a tab, a newline, a carriage return or a form feed
abbrev pub is_space : ℕ → Bool
is_space b = b == space || b == tab || b == newline || b == carriage_return || b == form_feed

-- an ASCII letter
abbrev pub is_letter : ℕ → Bool
is_letter c = is_within 97 122 c || is_within 65 90 c

-- The first character past ASCII that a name may have. CSS 2.1 (section 4.1.1) excludes those up to
-- octal 237, so that it is the no-break space, U+00A0, as in the second edition. The first edition
-- excludes those up to decimal 237.
abbrev pub first_wide : Edition → ℕ
first_wide first_edition = 238
first_wide second_edition = 0xA0

-- an underscore, a letter, or a character past ASCII that a name may have
abbrev pub is_name_start : Edition → ℕ → Bool
is_name_start edition c = c == underscore || is_letter c || nat_le (first_wide edition) c

-- a character that may begin a name, a digit or a hyphen
abbrev pub is_name_char : Edition → ℕ → Bool
is_name_char edition c = is_name_start edition c || is_digit c || c == hyphen
