-- The conditions of `@supports` (CSS Conditional Rules 3 and 4, section 6). Here what is in parentheses and
-- not of the grammar is false.
use Rattle.std.specs.Prelude.{ℕ, Bool, true, ◌&&◌, if◌then◌else◌, List}
use Rattle.css_text.specs.AsciiBytes.{colon}
use Rattle.css_text.specs.Reading.{before}
use Rattle.css_text.specs.Bytes.{past_one, starts}
use Rattle.css_syntax.specs.declared.quality.Quality.{Quality}
use Rattle.css_syntax.specs.Qualities.{is_good}
use Rattle.css_syntax.specs.Tokens.{past_gap, past_word}
use Rattle.css_conditions.specs.declared.truth.Truth.{Truth}
use Rattle.css_conditions.specs.declared.truth.Truth.TheVariants.{False}
use Rattle.css_conditions.specs.declared.truth.Outcome.{Outcome}
use Rattle.css_conditions.specs.declared.truth.Outcome.TheVariants.{Found, Unfit, Broken}
use Rattle.css_conditions.specs.Truths.{truth_of, holds}
use Rattle.css_conditions.specs.Words.{begins_name, is_end, values}
use Rattle.css_conditions.specs.Conditions.{Reads, closes, condition}

-- a declaration of this name and value
abbrev pub declared : (List ℕ → List ℕ → Bool) → List ℕ → List ℕ → Quality × List ℕ → Outcome × List ℕ
declared knows name text r =
    (if is_good r.0 then Found (truth_of (knows name (before text r.1))) else Broken, r.1)

-- what follows the name: a colon, and a value up to the closing parenthesis
abbrev pub after_property : (List ℕ → List ℕ → Bool) → List ℕ → Reads
after_property knows name text =
    if starts colon text then declared knows name (past_one text) (values closes (past_one text))
    else (Unfit, text)

-- what is asked in parentheses: a declaration
abbrev pub declaration : (List ℕ → List ℕ → Bool) → Reads
declaration knows text =
    if begins_name text
    then after_property knows (before text (past_word text)) (past_gap (past_word text))
    else (Unfit, text)

-- a whole text
abbrev pub whole_condition : Outcome × List ℕ → Bool
whole_condition r = holds r.0 && is_end (past_gap r.1)

-- what a function says: whether it is supported
abbrev pub truth_of_function : (List ℕ → List ℕ → Bool) → List ℕ → List ℕ → Truth
truth_of_function function name arguments = truth_of (function name arguments)

-- a condition, which is the whole text
unfoldable pub supports : (List ℕ → List ℕ → Bool) → (List ℕ → List ℕ → Bool) → List ℕ → Bool
supports knows function text =
    whole_condition (condition true False (truth_of_function function) (declaration knows)
    (past_gap text))
