-- Media queries (Media Queries 4, section 3). What a feature says is asked by its name, a comparison and a
-- value; each as it is written.
use Rattle.std.specs.Prelude.{ℕ, zero, suc, Bool, true, false, not, ◌||◌, ◌&&◌, ◌==◌, if◌then◌else◌, List, [], ◌∷◌, length, Option, Some, None}
use Rattle.std.specs.Option.{is_some}
use Rattle.css_text.specs.AsciiBytes.{close_parenthesis, comma, colon, semicolon}
use Rattle.css_text.specs.Reading.{before}
use Rattle.css_text.specs.Bytes.{past_one, starts}
use Rattle.css_syntax.specs.declared.quality.Quality.{Quality}
use Rattle.css_syntax.specs.Qualities.{is_good}
use Rattle.css_syntax.specs.Tokens.{past_gap, past_word}
use Rattle.css_conditions.specs.declared.truth.Truth.{Truth}
use Rattle.css_conditions.specs.declared.truth.Truth.TheVariants.{True, Unknown}
use Rattle.css_conditions.specs.declared.truth.Outcome.{Outcome}
use Rattle.css_conditions.specs.declared.truth.Outcome.TheVariants.{Found, Unfit, Broken}
use Rattle.css_conditions.specs.declared.truth.Comparison.{Comparison}
use Rattle.css_conditions.specs.declared.truth.Comparison.TheVariants.{Present, Is, Equal, Less, AtMost, More, AtLeast}
use Rattle.css_conditions.specs.Truths.{truth_of, truth_in, is_true, both, either, joined, joined_to, spanned, reversed}
use Rattle.css_conditions.specs.Words.{past_keyword, begins_name, begins_function, ends_parens, ends_by, is_end, values}
use Rattle.css_conditions.specs.Conditions.{Reads, word_not, word_and, word_or, begins_condition, condition}

-- what a feature of this name says, compared so with this value
abbrev pub Asks : Type 0
Asks = List ℕ → Comparison → List ℕ → Truth

-- ---- features

-- what ends a value: a closing parenthesis, a sign of comparison, a comma, a colon or a semicolon
abbrev pub ends_value : ℕ → Bool
ends_value b =
    b == close_parenthesis || b == 60 || b == 61 || b == 62 || b == comma || b == colon
    || b == semicolon

-- `=` right after the sign makes it the looser one
abbrev pub or_equal : Comparison → Comparison → List ℕ → Comparison × List ℕ
or_equal strict loose text = if starts 61 text then (loose, past_one text) else (strict, text)

-- `<`, `<=`, `>`, `>=` or `=`
abbrev pub comparison : List ℕ → Option (Comparison × List ℕ)
comparison [] = None
comparison (b ∷ text) =
    if b == 60 then Some (or_equal Less AtMost text)
    else (if b == 62 then Some (or_equal More AtLeast text)
    else (if b == 61 then Some (Equal, text) else None))

-- `value < name` says `name > value`
abbrev pub turned : Comparison → Comparison
turned Present = Present
turned Is = Is
turned Equal = Equal
turned Less = More
turned AtMost = AtLeast
turned More = Less
turned AtLeast = AtMost

-- `<` or `<=`
abbrev pub is_rising : Comparison → Bool
is_rising Present = false
is_rising Is = false
is_rising Equal = false
is_rising Less = true
is_rising AtMost = true
is_rising More = false
is_rising AtLeast = false

-- `>` or `>=`
abbrev pub is_falling : Comparison → Bool
is_falling how = is_rising (turned how)

-- two signs with which a name may stand between two values
abbrev pub same_way : Comparison → Comparison → Bool
same_way one other = is_rising one && is_rising other || is_falling one && is_falling other

-- a value, which is not empty and ends with the parentheses
abbrev pub asked : Asks → List ℕ → Comparison → List ℕ → Quality × List ℕ → Outcome × List ℕ
asked ask name how text r = (
  if not (is_good r.0) then Broken
      else (if ends_parens r.1 && not (ends_by ends_value text)
      then Found (ask name how (before text r.1)) else Unfit),
  r.1,
)

-- what follows the sign of comparison
abbrev pub compared : Asks → List ℕ → Comparison → Reads
compared ask name how text = asked ask name how text (values ends_value text)

-- `name = value` and so on
abbrev pub by_sign : Asks → List ℕ → List ℕ → Option (Comparison × List ℕ) → Outcome × List ℕ
by_sign ask name text None = (Unfit, text)
by_sign ask name text (Some r) = compared ask name r.0 (past_gap r.1)

-- what follows the name at the start: nothing, a colon and a value, or a sign and a value
abbrev pub after_name : Asks → List ℕ → Reads
after_name ask name text =
    if ends_parens text then (Found (ask name Present []), text)
    else (if starts colon text then compared ask name Is (past_gap (past_one text))
    else by_sign ask name text (comparison text))

-- both sides of a range, with the rest of the second
abbrev pub with_span : Truth → Outcome × List ℕ → Outcome × List ℕ
with_span first r = (joined_to spanned first r.0, r.1)

-- both, with the rest of the second
abbrev pub with_first : Outcome → Outcome × List ℕ → Outcome × List ℕ
with_first first r = (joined both first r.0, r.1)

-- what follows the name after a value and a sign: nothing, or a sign of the same way and a value
abbrev pub by_second_sign :
    Asks → List ℕ → Comparison → List ℕ → List ℕ → Option (Comparison × List ℕ) → Outcome × List ℕ
by_second_sign ask value how name text None = (Unfit, text)
by_second_sign ask value how name text (Some r) =
    if same_way how r.0
    then with_span (ask name (turned how) value) (compared ask name r.0 (past_gap r.1))
    else (Unfit, r.1)

abbrev pub after_second_name : Asks → List ℕ → Comparison → List ℕ → Reads
after_second_name ask value how name text =
    if ends_parens text then (Found (ask name (turned how) value), text)
    else by_second_sign ask value how name text (comparison text)

-- the name after a value and a sign
abbrev pub second_name : Asks → List ℕ → Comparison → Reads
second_name ask value how text =
    if begins_name text
    then after_second_name ask value how (before text (past_word text)) (past_gap (past_word text))
    else (Unfit, text)

abbrev pub after_first_sign : Asks → List ℕ → List ℕ → Option (Comparison × List ℕ) → Outcome × List ℕ
after_first_sign ask value text None = (Unfit, text)
after_first_sign ask value text (Some r) = second_name ask value r.0 (past_gap r.1)

-- a value first
abbrev pub after_first_value : Asks → List ℕ → Quality × List ℕ → Outcome × List ℕ
after_first_value ask text r =
    if not (is_good r.0) then (Broken, r.1)
    else (if ends_by ends_value text then (Unfit, r.1)
    else after_first_sign ask (before text r.1) r.1 (comparison r.1))

-- What is asked in parentheses: `name`, `name: value`, `name < value`, `value < name` or
-- `value < name < value`.
abbrev pub feature : Asks → Reads
feature ask text =
    if begins_name text && not (begins_function text)
    then after_name ask (before text (past_word text)) (past_gap (past_word text))
    else after_first_value ask text (values ends_value text)

-- ---- queries

-- a function says nothing that is known
abbrev pub no_function : List ℕ → List ℕ → Truth
no_function name arguments = Unknown

abbrev pub media_condition : Bool → Asks → Reads
media_condition with_or ask = condition with_or Unknown no_function (feature ask)

-- `only`, `layer`
abbrev pub word_only : List ℕ
word_only = 111 ∷ 110 ∷ 108 ∷ 121 ∷ []

abbrev pub word_layer : List ℕ
word_layer = 108 ∷ 97 ∷ 121 ∷ 101 ∷ 114 ∷ []

abbrev pub is_keyword : List ℕ → List ℕ → Bool
is_keyword word text = is_some (past_keyword word text)

-- the name of a media type: no word of the grammar
abbrev pub begins_type : List ℕ → Bool
begins_type text =
    begins_name text && not (begins_function text)
    && not (is_keyword word_not text || is_keyword word_only text || is_keyword word_and text
    || is_keyword word_or text || is_keyword word_layer text)

-- what follows the type: nothing, or `and` and a condition without `or`
abbrev pub after_type : Asks → Truth → List ℕ → Option (List ℕ) → Outcome × List ℕ
after_type ask truth text None = (Found truth, text)
after_type ask truth text (Some after) =
    with_first (Found truth) (media_condition false ask (past_gap after))

-- a type, and what follows it
abbrev pub type_query : (List ℕ → Bool) → Asks → Reads
type_query is_type ask text =
    if begins_type text
    then after_type ask (truth_of (is_type (before text (past_word text)))) (past_word text)
    (past_keyword word_and (past_gap (past_word text)))
    else (Unfit, text)

-- `only` says nothing
abbrev pub after_only : (List ℕ → Bool) → Asks → List ℕ → Option (List ℕ) → Outcome × List ℕ
after_only is_type ask text None = type_query is_type ask text
after_only is_type ask text (Some after) = type_query is_type ask (past_gap after)

-- `not` before a type is of the whole query
abbrev pub after_not : (List ℕ → Bool) → Asks → List ℕ → Option (List ℕ) → Outcome × List ℕ
after_not is_type ask text None = after_only is_type ask text (past_keyword word_only text)
after_not is_type ask text (Some after) =
    let r = type_query is_type ask (past_gap after) in (reversed r.0, r.1)

-- a query
abbrev pub query : (List ℕ → Bool) → Asks → Reads
query is_type ask text =
    if begins_condition text then media_condition true ask text
    else after_not is_type ask text (past_keyword word_not text)

-- a comma
abbrev pub is_comma : ℕ → Bool
is_comma b = b == comma

-- A query says what was found, if a comma or the end of the text follows. If something else follows, the
-- query is not of the grammar. The rest is from the comma.
abbrev pub ended_query : Outcome → List ℕ → Truth × List ℕ
ended_query outcome text =
    if ends_by is_comma text then (truth_in outcome, text) else (Unknown, (values is_comma text).1)

abbrev pub whole_query : (List ℕ → Bool) → Asks → List ℕ → Truth × List ℕ
whole_query is_type ask text =
    let r = query is_type ask (past_gap text) in ended_query r.0 (past_gap r.1)

-- one more query
abbrev pub or_query : Truth → Truth × List ℕ → Truth × List ℕ
or_query truth r = (either truth r.0, r.1)

-- One of the queries is true: at most `n` more are read, each after a comma, up to one that is true.
abbrev pub some_query : (List ℕ → Bool) → Asks → ℕ → Truth × List ℕ → Truth
some_query is_type ask zero r = r.0
some_query is_type ask (suc n) r =
    if is_true r.0 || not (starts comma r.1) then r.0
    else some_query is_type ask n (or_query r.0 (whole_query is_type ask (past_one r.1)))

-- What a list of queries says: true if one of them is, or if there is none. (The standard takes what is
-- not known at the end for false, and what is not of the grammar for `not all`.)
unfoldable pub media : (List ℕ → Bool) → Asks → List ℕ → Truth
media is_type ask text =
    if is_end (past_gap text) then True
    else some_query is_type ask (length text) (whole_query is_type ask text)
