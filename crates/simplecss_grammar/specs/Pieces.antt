-- A text as the pieces of a selector: gaps and solid pieces alternate, up to a stop, a slash or a
-- fault. A gap is a blank, which may be empty. A solid piece is `>` or `+`, or it is simple: a
-- head, which is `*` or a type name, or a subselector, which is an id, a class, an attribute or a
-- pseudo-class. A head, if there is one, and the subselectors after it make what CSS 2.1 (section
-- 5.2) calls a simple selector. What a piece is does not depend on the pieces before it.
use Rattle.std.specs.Prelude.{ℕ, Bool, ◌==◌, if◌then◌else◌, List, [], ◌∷◌, length, bytes_eq, codes, Option}
use Rattle.std.specs.Str.{trim}
use Rattle.css_text.specs.AsciiBytes.{number_sign, asterisk, plus_sign, comma, full_stop, slash, colon, equals_sign, greater_than_sign, vertical_bar, tilde, open_parenthesis, close_parenthesis, open_bracket, close_bracket, open_brace}
use Rattle.css_text.specs.Reading.{Fault, ended, no_attribute_form, no_language, no_selector, Reading, got, fails, Reader, ◌>>=◌, ◌>>◌, give, here, found, each}
use Rattle.css_text.specs.Bytes.{past_one, byte, all_before}
use Rattle.css_text.specs.Characters.{Edition}
use Rattle.css_text.specs.Comments.{gap}
use Rattle.css_text.specs.Names.{name}
use Rattle.css_text.specs.Strings.{string_or_name}
use Rattle.simplecss_grammar.specs.Components.{Operator}
use Rattle.simplecss_grammar.specs.Components.Operator.{exists, equals, has_word, begins_with}
use Rattle.simplecss_grammar.specs.declared.next_kind.NextKind.{NextKind}
use Rattle.simplecss_grammar.specs.declared.next_kind.NextKind.TheVariants.{Stop, Slash, Child, Adjacent, Universal, Id, Class, Attribute, Colon, Other}
use Rattle.simplecss_grammar.specs.Tokens.{Token}
use Rattle.simplecss_grammar.specs.Tokens.Token.{universal_selector, type_selector, id_selector, class_selector, attribute_selector, named_pseudo_class, lang_pseudo_class, child_combinator, adjacent_combinator}

-- an equals sign and a value
abbrev pub equated : Edition → (List ℕ → Operator) → Reader Operator
equated edition operator = do
  byte equals_sign
  value ← string_or_name edition
  give (operator value)

-- The test of an attribute: that it is present, before a closing bracket, else `=`, `~=` or `|=`
-- and a value. For other bytes the fault is that there is no such form, and at the end of the text
-- that it ended.
unfoldable pub attribute_operator : Edition → Reader Operator
attribute_operator edition [] = fails ended []
attribute_operator edition (b ∷ text) =
    if b == close_bracket then got exists (b ∷ text)
    else (if b == equals_sign then equated edition equals (b ∷ text)
    else (if b == tilde then equated edition has_word text
    else (if b == vertical_bar then equated edition begins_with text
    else fails no_attribute_form (b ∷ text))))

-- an attribute after its opening bracket
unfoldable pub attribute_after : Edition → Reader Token
attribute_after edition = do
  n ← name edition
  operator ← attribute_operator edition
  byte close_bracket
  give (attribute_selector n operator)

-- the language, unless it is empty
abbrev pub lang_of : List ℕ → Reader Token
lang_of value text =
    if length value == 0 then fails no_language text else got (lang_pseudo_class value) text

-- what follows `:lang`: a language in parentheses, without the white space of Unicode at its ends
unfoldable pub lang_after : Reader Token
lang_after = do
  byte open_parenthesis
  value ← all_before close_parenthesis
  byte close_parenthesis
  lang_of (trim value)

-- what follows the name of a pseudo-class: a language after `lang`, else nothing
abbrev pub pseudo_class_named : List ℕ → Reader Token
pseudo_class_named n text =
    if bytes_eq n (codes "lang") then lang_after text else got (named_pseudo_class n) text

-- a pseudo-class after its colon
unfoldable pub pseudo_class_after : Edition → Reader Token
pseudo_class_after edition = do
  n ← name edition
  pseudo_class_named n

-- a name, and the token of that name
unfoldable pub named_token : Edition → (List ℕ → Token) → Reader Token
named_token edition token = do
  n ← name edition
  give (token n)

-- the kind of what a byte begins: `,` and `{` are stops
abbrev pub kind_of_byte : ℕ → NextKind
kind_of_byte b =
    if b == comma then Stop
    else (if b == open_brace then Stop
    else (if b == slash then Slash
    else (if b == greater_than_sign then Child
    else (if b == plus_sign then Adjacent
    else (if b == asterisk then Universal
    else (if b == number_sign then Id
    else (if b == full_stop then Class
    else (if b == open_bracket then Attribute
    else (if b == colon then Colon
    else Other)))))))))

-- The kind of what follows a gap, by its first byte. The end of the text is a stop, too. A `/`
-- opens no comment there, since the gap before it ends.
unfoldable pub next_kind : List ℕ → NextKind
next_kind [] = Stop
next_kind (b ∷ text) = kind_of_byte b

-- the kinds of simple pieces: of heads and subselectors
abbrev pub IsSimplePiece : NextKind → Type 0
IsSimplePiece Stop = ⊥
IsSimplePiece Slash = ⊥
IsSimplePiece Child = ⊥
IsSimplePiece Adjacent = ⊥
IsSimplePiece Universal = Unit {0}
IsSimplePiece Id = Unit {0}
IsSimplePiece Class = Unit {0}
IsSimplePiece Attribute = Unit {0}
IsSimplePiece Colon = Unit {0}
IsSimplePiece Other = Unit {0}

-- A solid piece, if what follows is of this kind. At a stop and at a `/` there is none; the table
-- of neighbours decides about these.
abbrev pub solid_as : Edition → NextKind → Reader Token
solid_as edition Stop text = fails no_selector text
solid_as edition Slash text = fails no_selector text
solid_as edition Child text = got child_combinator (past_one text)
solid_as edition Adjacent text = got adjacent_combinator (past_one text)
solid_as edition Universal text = got universal_selector (past_one text)
solid_as edition Id text = named_token edition id_selector (past_one text)
solid_as edition Class text = named_token edition class_selector (past_one text)
solid_as edition Attribute text = attribute_after edition (past_one text)
solid_as edition Colon text = pseudo_class_after edition (past_one text)
solid_as edition Other text = named_token edition type_selector text

-- a solid piece
unfoldable pub solid : Edition → Reader Token
solid edition text = solid_as edition (next_kind text) text

-- A gap and a solid piece: whether the gap has a space byte, the rest where the solid piece begins,
-- its kind, its token, and the rest after it.
pub record Piece : Type 0 where
  pub spaced : Bool
  pub start : List ℕ
  pub kind : NextKind
  pub token : Token
  pub after : List ℕ

-- a gap and the solid piece after it
unfoldable pub piece : Edition → Reader Piece
piece edition = do
  spaced ← gap
  start ← here
  token ← solid edition
  after ← here
  give (record {
    spaced = spaced;
    start = start;
    kind = next_kind start;
    token = token;
    after = after;
  })

-- the same, without the fault
abbrev pub next_piece : Edition → List ℕ → Option (Piece × List ℕ)
next_piece edition text = found (piece edition text)

-- the pieces of a text, and the rest where no further one follows
abbrev pub pieces : Edition → List ℕ → List Piece × List ℕ
pieces edition text = each (next_piece edition) text

-- What ends the pieces.
pub data Ending : Type 0 where
  -- a stop
  at_stop : (spaced : Bool) → (start : List ℕ) → Ending
  -- a `/`
  at_slash : (spaced : Bool) → (start : List ℕ) → Ending
  -- a head that is missing, as at `<`, since no name begins there: the fault, and the rest after it
  without_head : (spaced : Bool) → (start : List ℕ) → Fault → (after : List ℕ) → Ending
  -- a fault inside a subselector that has begun, and the rest after it
  within_piece : (spaced : Bool) → (start : List ℕ) → Fault → (after : List ℕ) → Ending
  -- a comment in the gap that is not closed
  within_gap : Fault → (after : List ℕ) → Ending

-- what ends the pieces after a gap, by the kind of what follows, if reading it as a solid piece is
-- this fault
abbrev pub fault_ending : NextKind → Bool → (start : List ℕ) → Fault → (after : List ℕ) → Ending
fault_ending Stop spaced start fault after = at_stop spaced start
fault_ending Slash spaced start fault after = at_slash spaced start
fault_ending Other spaced start fault after = without_head spaced start fault after
fault_ending Child spaced start fault after = within_piece spaced start fault after
fault_ending Adjacent spaced start fault after = within_piece spaced start fault after
fault_ending Universal spaced start fault after = within_piece spaced start fault after
fault_ending Id spaced start fault after = within_piece spaced start fault after
fault_ending Class spaced start fault after = within_piece spaced start fault after
fault_ending Attribute spaced start fault after = within_piece spaced start fault after
fault_ending Colon spaced start fault after = within_piece spaced start fault after

-- The same, from what is read there. (A solid piece that can be read is no ending, so that the
-- second clause is never used.)
abbrev pub solid_ending : Bool → (start : List ℕ) → Reading Token → Ending
solid_ending spaced start (fails fault after) =
    fault_ending (next_kind start) spaced start fault after
solid_ending spaced start (got token after) = at_stop spaced start

-- the same, or the fault in the gap
abbrev pub gap_ending : Edition → Reading Bool → Ending
gap_ending edition (fails fault after) = within_gap fault after
gap_ending edition (got spaced start) = solid_ending spaced start (solid edition start)

-- what ends the pieces of a text, from the rest where no further one follows
unfoldable pub ending : Edition → List ℕ → Ending
ending edition text = gap_ending edition (gap text)
