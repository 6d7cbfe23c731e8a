-- Words within conditions, and runs of component values.
use Rattle.std.specs.Prelude.{ℕ, zero, suc, Bool, true, false, not, ◌||◌, ◌&&◌, ◌==◌, if◌then◌else◌, List, [], ◌∷◌, length, Option, Some, None}
use Rattle.std.specs.Char.{to_ascii_uppercase}
use Rattle.css_text.specs.AsciiBytes.{open_parenthesis, close_parenthesis}
use Rattle.css_text.specs.Bytes.{starts, starts_by}
use Rattle.css_syntax.specs.declared.quality.Quality.{Quality}
use Rattle.css_syntax.specs.declared.quality.Quality.TheVariants.{Whole}
use Rattle.css_syntax.specs.Qualities.{first_flaw}
use Rattle.css_syntax.specs.Tokens.{begins_escape, is_name_byte, then_letter, past_word, begins_url}
use Rattle.css_syntax.specs.Statements.{begins_ident}
use Rattle.css_syntax.specs.ComponentValues.{deepest, component_value}

-- a byte with which a name may go on, or an escape
abbrev pub goes_on : List ℕ → Bool
goes_on text = starts_by is_name_byte text || begins_escape text

-- the rest, if the word ends here: no more of a name follows, nor a parenthesis, with which the word
-- would be the name of a function
abbrev pub word_end : Option (List ℕ) → Option (List ℕ)
word_end None = None
word_end (Some text) =
    if goes_on text || starts open_parenthesis text then None else Some text

-- The rest after the letters, which are given as small ones: in any case, and with any escapes.
abbrev pub past_letters : List ℕ → Option (List ℕ) → Option (List ℕ)
past_letters [] text = text
past_letters (letter ∷ word) text =
    past_letters word (then_letter letter (to_ascii_uppercase letter) text)

-- the rest after the word
abbrev pub past_keyword : List ℕ → List ℕ → Option (List ℕ)
past_keyword word text = word_end (past_letters word (Some text))

-- a name begins here, and no url without quotes, which is one token
abbrev pub begins_name : List ℕ → Bool
begins_name text = begins_ident text && not (begins_url text)

-- a function begins here: a name that a parenthesis follows
abbrev pub begins_function : List ℕ → Bool
begins_function text = begins_name text && starts open_parenthesis (past_word text)

-- what is in parentheses, or a function, begins here
abbrev pub begins_parens : List ℕ → Bool
begins_parens text = starts open_parenthesis text || begins_function text

-- a closing parenthesis is next, or the text ends, which closes everything
abbrev pub ends_parens : List ℕ → Bool
ends_parens [] = true
ends_parens (b ∷ text) = b == close_parenthesis

-- no byte is next, or one of which the test is true
abbrev pub ends_by : (ℕ → Bool) → List ℕ → Bool
ends_by stop [] = true
ends_by stop (b ∷ text) = stop b

-- nothing is left
abbrev pub is_end : List ℕ → Bool
is_end [] = true
is_end (b ∷ text) = false

-- Component values, at most `n`, up to a byte outside brackets of which the test is true: the first flaw
-- of all after `quality`, and the rest.
abbrev pub values_from : (ℕ → Bool) → ℕ → Quality → List ℕ → Quality × List ℕ
values_from stop zero quality text = (quality, text)
values_from stop (suc n) quality text =
    if ends_by stop text then (quality, text)
    else (let r = component_value deepest text in
    values_from stop n (first_flaw quality r.0) r.1)

-- the same, as many as there are
unfoldable pub values : (ℕ → Bool) → List ℕ → Quality × List ℕ
values stop text = values_from stop (length text) Whole text
