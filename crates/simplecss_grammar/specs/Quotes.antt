-- What a message quotes of the text that is skipped.
use Rattle.std.specs.Prelude.{ℕ, ◌==◌, List}
use Rattle.std.specs.List.{before_first}
use Rattle.std.specs.Str.{trim, trim_end}
use Rattle.css_text.specs.AsciiBytes.{newline, carriage_return, semicolon, open_brace, close_brace}
use Rattle.css_text.specs.Reading.{before}
use Rattle.simplecss_grammar.specs.Skipped.{Why, leading_comma, refused_selector, after_selector, missing_block, broken_declaration, open_value, extra_brace, open_comment, at_rule, Skip}

-- the text before the first such byte, or all
abbrev pub before_byte : ℕ → List ℕ → List ℕ
before_byte byte text = before_first (λ b. b == byte) text

-- the first line of a text, without white space around it
abbrev pub first_line : List ℕ → List ℕ
first_line text = trim_end (before_byte carriage_return (before_byte newline (trim text)))

-- the text that is skipped
abbrev pub skipped_text : Skip → List ℕ
skipped_text skip = before skip.from skip.after

-- An at-rule up to its block or semicolon, a declaration up to its semicolon or the end of its
-- block, and anything else as it is.
abbrev pub quoted_part : Why → List ℕ → List ℕ
quoted_part (at_rule name) text = before_byte semicolon (before_byte open_brace text)
quoted_part broken_declaration text = before_byte close_brace (before_byte semicolon text)
quoted_part leading_comma text = text
quoted_part (refused_selector r) text = text
quoted_part after_selector text = text
quoted_part missing_block text = text
quoted_part open_value text = text
quoted_part extra_brace text = text
quoted_part open_comment text = text

-- what a message quotes
abbrev pub quote : Skip → List ℕ
quote skip = first_line (quoted_part skip.why (skipped_text skip))
