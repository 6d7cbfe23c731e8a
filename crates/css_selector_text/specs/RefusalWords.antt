-- What a refusal says in words.
use Rattle.std.specs.Prelude.{ℕ, Bool, not, ◌&&◌, ◌||◌, ◌==◌, nat_lt, if◌then◌else◌, List, codes}
use Rattle.css_text.specs.AsciiBytes.{backslash, colon}
use Rattle.css_text.specs.Bytes.{starts_by}
use Rattle.css_syntax.specs.Tokens.{is_newline, is_name_byte}
use Rattle.css_selector_text.specs.declared.refusal.Why.{Why}
use Rattle.css_selector_text.specs.declared.refusal.Why.TheVariants.{Memory, NoSelector, NoName, BrokenString, NoOperator, NoValue, UnknownFlag, NoProgression, UnknownName, UnknownFunction, Unsupported, TooDeep, UnknownPrefix, Unexpected}
use Rattle.css_selector_text.specs.declared.refusal.Quoted.{Quoted}
use Rattle.css_selector_text.specs.declared.refusal.Quoted.TheVariants.{Line, Word, Signs}
use Rattle.css_selector_text.specs.Runs.{run}

-- a byte of a name with its escapes, or of a pseudo-class
abbrev pub is_word_byte : ℕ → Bool
is_word_byte b = is_name_byte b || b == colon || b == backslash

-- a byte of what is quoted: of the line, of the word, or of the signs at the start
abbrev pub is_quoted : Quoted → ℕ → Bool
is_quoted Line b = not (is_newline b)
is_quoted Word b = is_word_byte b
is_quoted Signs b = nat_lt 32 b && (nat_lt 127 b || not (is_word_byte b))

abbrev pub word_or_signs : List ℕ → Quoted
word_or_signs text = if starts_by is_word_byte text then Word else Signs

-- of a broken string the line is quoted, of anything else the word or the signs
abbrev pub quoted_by : Why → List ℕ → Quoted
quoted_by BrokenString text = Line
quoted_by Unsupported text = Line
quoted_by why text = word_or_signs text

-- what is quoted of the rest
abbrev pub quote : Why → List ℕ → List ℕ
quote why rest = run (is_quoted (quoted_by why rest)) rest

abbrev pub why_words : Why → List ℕ
why_words Memory = codes "out of memory"
why_words NoSelector = codes "begins no selector"
why_words NoName = codes "is no name"
why_words BrokenString = codes "is not closed on its line"
why_words NoOperator = codes "is no attribute operator"
why_words NoValue = codes "is no value"
why_words UnknownFlag = codes "is no flag"
why_words NoProgression = codes "is no An+B"
why_words UnknownName = codes "is unknown"
why_words UnknownFunction = codes "is no function"
why_words Unsupported = codes "is unsupported"
why_words TooDeep = codes "is nested too deep"
why_words UnknownPrefix = codes "is no declared prefix"
why_words Unexpected = codes "is not expected here"
