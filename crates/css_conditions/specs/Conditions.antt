-- Conditions (Media Queries 4, section 3; CSS Conditional Rules 3, section 6): what is in parentheses, and
-- `not`, `and` and `or`. What is asked within parentheses is for the reader `leaf`, and what a function
-- says for `function`.
use Rattle.std.specs.Prelude.{ℕ, zero, suc, Bool, true, false, not, ◌||◌, ◌&&◌, ◌==◌, if◌then◌else◌, List, [], ◌∷◌, length, Option, Some, None}
use Rattle.std.specs.Option.{is_some}
use Rattle.css_text.specs.AsciiBytes.{open_parenthesis, close_parenthesis}
use Rattle.css_text.specs.Reading.{before}
use Rattle.css_text.specs.Bytes.{past_one, starts}
use Rattle.css_syntax.specs.declared.quality.Quality.{Quality}
use Rattle.css_syntax.specs.Qualities.{is_good}
use Rattle.css_syntax.specs.Tokens.{past_gap, past_word}
use Rattle.css_syntax.specs.ComponentValues.{deepest, component_value}
use Rattle.css_conditions.specs.declared.truth.Truth.{Truth}
use Rattle.css_conditions.specs.declared.truth.Outcome.{Outcome}
use Rattle.css_conditions.specs.declared.truth.Outcome.TheVariants.{Found, Unfit, Broken}
use Rattle.css_conditions.specs.Truths.{reversed, joined, both, either}
use Rattle.css_conditions.specs.Words.{past_keyword, begins_parens, begins_function, ends_parens, values}

-- reading a condition: what it gives, and the rest
abbrev pub Reads : Type 0
Reads = List ℕ → Outcome × List ℕ

-- `not`, `and`, `or`
abbrev pub word_not : List ℕ
word_not = 110 ∷ 111 ∷ 116 ∷ []

abbrev pub word_and : List ℕ
word_and = 97 ∷ 110 ∷ 100 ∷ []

abbrev pub word_or : List ℕ
word_or = 111 ∷ 114 ∷ []

-- What is in parentheses and not of the grammar has this truth, as long as its brackets are balanced
-- and its strings closed: `<general-enclosed>`.
abbrev pub or_else : Truth → Outcome → Outcome
or_else enclosed (Found truth) = Found truth
or_else enclosed Unfit = Found enclosed
or_else enclosed Broken = Broken

-- the same where more is left before the closing parenthesis
abbrev pub with_more : Truth → Outcome → Outcome
with_more enclosed (Found truth) = Found enclosed
with_more enclosed Unfit = Found enclosed
with_more enclosed Broken = Broken

-- a closing parenthesis
abbrev pub closes : ℕ → Bool
closes b = b == close_parenthesis

-- up to the closing parenthesis
abbrev pub skipped_to_end : Truth → Outcome → Quality × List ℕ → Outcome × List ℕ
skipped_to_end enclosed outcome r =
    (if is_good r.0 then with_more enclosed outcome else Broken, past_one r.1)

-- what was read in parentheses, if they end here, after blanks
abbrev pub closed_at : Truth → Outcome → List ℕ → Outcome × List ℕ
closed_at enclosed outcome text =
    if ends_parens text then (or_else enclosed outcome, past_one text)
    else skipped_to_end enclosed outcome (values closes text)

abbrev pub closed : Truth → Outcome × List ℕ → Outcome × List ℕ
closed enclosed r = closed_at enclosed r.0 (past_gap r.1)

-- a function of this name whose arguments are balanced, from after its opening parenthesis
abbrev pub called : (List ℕ → List ℕ → Truth) → List ℕ → List ℕ → Quality × List ℕ → Outcome × List ℕ
called function name text r =
    (if is_good r.0 then Found (function name (before text r.1)) else Broken, past_one r.1)

-- the function that begins here: its name, and what is in its parentheses
abbrev pub function_at : (List ℕ → List ℕ → Truth) → Reads
function_at function text =
    let inside = past_one (past_word text) in
    called function (before text (past_word text)) inside (values closes inside)

-- what is in parentheses, or a function
abbrev pub parens_by : Truth → (List ℕ → List ℕ → Truth) → Reads → Reads
parens_by enclosed function inside text =
    if starts open_parenthesis text then closed enclosed (inside (past_gap (past_one text)))
    else (if begins_function text then function_at function text else (Unfit, text))

-- the word `not` is next, and then something in parentheses
abbrev pub then_parens : Option (List ℕ) → Bool
then_parens None = false
then_parens (Some text) = begins_parens (past_gap text)

-- a condition begins here
abbrev pub begins_condition : List ℕ → Bool
begins_condition text = begins_parens text || then_parens (past_keyword word_not text)

-- One more after the word, if it is next, joined to what came before, and then `next`.
abbrev pub one_more :
    (Truth → Truth → Truth) → Reads → (Outcome → Reads) → Outcome → List ℕ → Option (List ℕ)
    → Outcome × List ℕ
one_more join read next outcome text None = (outcome, text)
one_more join read next outcome text (Some after) =
    let r = read (past_gap after) in next (joined join outcome r.0) r.1

-- At most `n` more, each after the word. (A word takes bytes, so the length of the text is enough.)
abbrev pub more_from : (Truth → Truth → Truth) → List ℕ → Reads → ℕ → Outcome → Reads
more_from join word read zero outcome text = (outcome, text)
more_from join word read (suc n) outcome text =
    one_more join read (more_from join word read n) outcome text
    (past_keyword word (past_gap text))

-- as many as there are, after the first
unfoldable pub more : (Truth → Truth → Truth) → List ℕ → Reads → Outcome × List ℕ → Outcome × List ℕ
more join word read r = more_from join word read (length r.1) r.0 r.1

-- after the first: more by `and`, or else, where it is allowed, by `or`
abbrev pub after_first : Bool → Reads → Outcome × List ℕ → Outcome × List ℕ
after_first with_or read r =
    if with_or && is_some (past_keyword word_or (past_gap r.1)) then more either word_or read r
    else more both word_and read r

-- `not` and one, or one and more
abbrev pub not_or_more : Bool → Reads → List ℕ → Option (List ℕ) → Outcome × List ℕ
not_or_more with_or read text None = after_first with_or read (read text)
not_or_more with_or read text (Some after) =
    let r = read (past_gap after) in (reversed r.0, r.1)

-- a condition, by what reads its parts
abbrev pub condition_by : Bool → Reads → Reads
condition_by with_or read text = not_or_more with_or read text (past_keyword word_not text)

-- a sign of comparison or a slash, with which no condition goes on
abbrev pub begins_sign : List ℕ → Bool
begins_sign [] = false
begins_sign (b ∷ text) = b == 60 || b == 61 || b == 62 || b == 47

-- the rest after the function that begins here
abbrev pub past_function : List ℕ → List ℕ
past_function text = past_one (values closes (past_one (past_word text))).1

-- a function that is a value begins here: a sign follows
abbrev pub begins_value : List ℕ → Bool
begins_value text = begins_function text && begins_sign (past_gap (past_function text))

-- a condition in parentheses, or what is asked there
abbrev pub inside_by : Reads → Reads → Reads
inside_by read leaf text =
    if begins_condition text && not (begins_value text) then condition_by true read text
    else leaf text

-- What is in parentheses, nested at most `n` deep, or a function. What is nested deeper is broken.
unfoldable pub in_parens : Truth → (List ℕ → List ℕ → Truth) → Reads → ℕ → Reads
in_parens enclosed function leaf zero text = (Broken, (component_value deepest text).1)
in_parens enclosed function leaf (suc n) text =
    parens_by enclosed function (inside_by (in_parens enclosed function leaf n) leaf) text

-- a condition
abbrev pub condition : Bool → Truth → (List ℕ → List ℕ → Truth) → Reads → Reads
condition with_or enclosed function leaf = condition_by with_or (in_parens enclosed function leaf deepest)
