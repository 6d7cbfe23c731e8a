-- The errors that report faults, and their printed texts; what a call returns, as a value or an
-- error.
use Rattle.std.specs.Prelude.{◌≡◌, ℕ, List, [], ◌∷◌, ◌++◌, codes, decimal, encode_utf8, Option, Some, None, Result, Ok, Err}
use Rattle.css_text.specs.Reading.{Fault, ended, wrong_byte, no_name, no_comment, no_value, no_selector, unexpected_selector, unexpected_combinator, no_attribute_form, no_language, Reading, got, fails, rest_offset}
use Rattle.css_text.specs.Positions.{position}
use Rattle.css_text.specs.declared.text_pos.TextPos.{TextPos}
use Rattle.css_text.specs.declared.error.Error.{Error}
use Rattle.css_text.specs.declared.error.Error.TheVariants.{UnexpectedEndOfStream, InvalidIdent, InvalidComment, InvalidValue, InvalidByte, SelectorMissing, UnexpectedSelector, UnexpectedCombinator, InvalidAttributeSelector, InvalidLanguagePseudoClass}

-- the position in the text at which this rest begins
abbrev pub position_of : List ℕ → List ℕ → TextPos
position_of text rest = position text (rest_offset text rest)

-- the error that the expected byte is missing: another byte is there, or the text ends
abbrev pub byte_error : List ℕ → ℕ → List ℕ → Error
byte_error text expected [] = UnexpectedEndOfStream
byte_error text expected (b ∷ rest) = InvalidByte expected b (position_of text (b ∷ rest))

-- the error that reports a fault in a text
abbrev pub error_of : List ℕ → Fault → Error
error_of text ended = UnexpectedEndOfStream
error_of text (wrong_byte expected rest) = byte_error text expected rest
error_of text (no_name rest) = InvalidIdent (position_of text rest)
error_of text (no_comment rest) = InvalidComment (position_of text rest)
error_of text (no_value rest) = InvalidValue (position_of text rest)
error_of text no_selector = SelectorMissing
error_of text unexpected_selector = UnexpectedSelector
error_of text unexpected_combinator = UnexpectedCombinator
error_of text no_attribute_form = InvalidAttributeSelector
error_of text no_language = InvalidLanguagePseudoClass

-- the position in the error, if it has one
abbrev pub error_position : Error → Option TextPos
error_position (InvalidIdent pos) = Some pos
error_position (InvalidComment pos) = Some pos
error_position (InvalidValue pos) = Some pos
error_position (InvalidByte expected actual pos) = Some pos
error_position UnexpectedEndOfStream = None
error_position SelectorMissing = None
error_position UnexpectedSelector = None
error_position UnexpectedCombinator = None
error_position InvalidAttributeSelector = None
error_position InvalidLanguagePseudoClass = None

-- the reading has failed, the error reports its fault, and this is left to read
abbrev pub FailsBy : {A : Type 0} → List ℕ → Reading A → Error → List ℕ → Type 0
FailsBy text (got x rest) error left = ⊥
FailsBy text (fails fault rest) error left = (error ≡ error_of text fault) × (left ≡ rest)

-- A call on a text returned `result` and left `left` to read, as the reading says. `view` maps a
-- value to what the definitions see of it.
abbrev pub Gives : {X A : Type 0} → (X → A) → List ℕ → Reading A → Result X Error → List ℕ → Type 0
Gives view text reading (Ok x) left = reading ≡ got (view x) left
Gives view text reading (Err error) left = FailsBy text reading error left

-- The same of a call that returns no error: `None` if the reading fails by this fault.
abbrev pub GivesOrNone : {X A : Type 0} → (X → A) → Fault → Reading A → Option X → List ℕ → Type 0
GivesOrNone view fault reading (Some x) left = reading ≡ got (view x) left
GivesOrNone view fault reading None left = reading ≡ fails fault left

-- the printed text of the position: row, colon, column
abbrev pub position_text : TextPos → List ℕ
position_text pos = decimal pos.row ++ codes ":" ++ decimal pos.col

-- the printed text of the error
abbrev pub error_text : Error → List ℕ
error_text UnexpectedEndOfStream = codes "unexpected end of stream"
error_text (InvalidIdent pos) = codes "invalid ident at " ++ position_text pos
error_text (InvalidComment pos) = codes "invalid comment at " ++ position_text pos
error_text (InvalidValue pos) = codes "invalid value at " ++ position_text pos
error_text (InvalidByte expected actual pos) =
    codes "expected '" ++ encode_utf8 expected ++ codes "' not '" ++ encode_utf8 actual
    ++ codes "' at " ++ position_text pos
error_text SelectorMissing = codes "selector missing"
error_text UnexpectedSelector = codes "unexpected selector"
error_text UnexpectedCombinator = codes "unexpected combinator"
error_text InvalidAttributeSelector = codes "invalid or unsupported attribute selector"
error_text InvalidLanguagePseudoClass = codes "invalid language pseudo-class"

-- an error in a few words, without its position
abbrev pub error_words : Error → List ℕ
error_words UnexpectedEndOfStream = codes "unexpected end of stream"
error_words (InvalidIdent pos) = codes "invalid ident"
error_words (InvalidComment pos) = codes "invalid comment"
error_words (InvalidValue pos) = codes "invalid value"
error_words (InvalidByte expected actual pos) = codes "invalid byte"
error_words SelectorMissing = codes "selector missing"
error_words UnexpectedSelector = codes "unexpected selector"
error_words UnexpectedCombinator = codes "unexpected combinator"
error_words InvalidAttributeSelector = codes "invalid attribute selector"
error_words InvalidLanguagePseudoClass = codes "invalid language pseudo-class"
