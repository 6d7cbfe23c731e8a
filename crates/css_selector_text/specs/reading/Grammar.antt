-- The grammar of selectors (Selectors 3, section 10).
use Rattle.std.specs.Prelude.{ℕ, zero, suc, ◌+◌, ◌-◌, ◌*◌, Bool, true, false, not, ◌&&◌, ◌||◌, ◌==◌, min, if◌then◌else◌, List, [], ◌∷◌, codes, Option, Some, None}
use Rattle.std.specs.Option.{option_map, is_some}
use Rattle.std.specs.Str.{str_eq_ignore_ascii_case}
use Rattle.css_text.specs.AsciiBytes.{asterisk, backslash, close_bracket, close_parenthesis, colon, comma, equals_sign, full_stop, greater_than_sign, hyphen, number_sign, open_bracket, open_parenthesis, plus_sign, tilde, underscore, vertical_bar}
use Rattle.css_text.specs.Bytes.{past_one, past_byte, starts, starts_by, is_digit}
use Rattle.css_text.specs.Characters.{is_letter}
use Rattle.css_text.specs.Comments.{gap as gap_before}
use Rattle.css_text.specs.Reading.{each, before, Reading as TextReading, got as text_got, fails as text_fails}
use Rattle.css_text.specs.Strings.{is_quote}
use Rattle.css_syntax.specs.declared.parts.Stops.{Stops}
use Rattle.css_syntax.specs.Parts.{Stated, parts as parts_stated}
use Rattle.css_syntax.specs.Printing.{ends_lone}
use Rattle.css_syntax.specs.Qualities.{is_whole}
use Rattle.css_syntax.specs.Tokens.{begins_escape, is_wide_byte, past_gap, past_word, past_string_parts}
pub use Rattle.css_syntax.specs.Tokens.{comment_part, past_comments}
use Rattle.css_syntax.specs.ComponentValues.{deepest as deepest_brackets, component_value}
use Rattle.css_syntax.specs.Escapes.{decoded, decoded_string}
use Rattle.css_syntax.specs.Statements.{begins_cdc}
use Rattle.css_matching.specs.declared.Combinator.{Combinator}
use Rattle.css_matching.specs.declared.Combinator.TheVariants.{Descendant, Child, Adjacent, Sibling}
use Rattle.css_selector_text.specs.declared.components.Numbering.{Numbering}
use Rattle.css_selector_text.specs.declared.components.Numbering.TheVariants.{Child as OfChild, LastChild as OfLastChild, OfType, LastOfType as OfLastType}
use Rattle.css_selector_text.specs.declared.components.Function.{Function}
use Rattle.css_selector_text.specs.declared.components.Function.TheVariants.{Numbered, Language}
use Rattle.css_selector_text.specs.declared.components.ListKind.{ListKind}
use Rattle.css_selector_text.specs.declared.components.Nesting.{Nesting}
use Rattle.css_selector_text.specs.declared.components.ListKind.TheVariants.{Not, Is, Where, Has}
use Rattle.css_selector_text.specs.reading.Rooms.{Room}
use Rattle.css_selector_text.specs.declared.reading.Start.{Start}
use Rattle.css_selector_text.specs.declared.reading.Start.TheVariants.{Plain, Relative}
use Rattle.css_selector_text.specs.declared.refusal.Why.{Why}
use Rattle.css_selector_text.specs.declared.refusal.Why.TheVariants.{NoSelector, NoName, BrokenString, NoOperator, NoValue, UnknownFlag, NoProgression, UnknownName, UnknownFunction, TooDeep, Unexpected, UnknownPrefix}
use Rattle.css_selector_text.specs.Components.{Comparison, Signed, Progression, Structure, Namespace, Local, Simple, outermost, ListTest, Condition, Part, PseudoElement, Placed, Selector, selectors_from}
use Rattle.css_selector_text.specs.Components.Comparison.{equals, has_word, has_subtag, starts as starts_with, ends as ends_with, contains}
use Rattle.css_selector_text.specs.Components.ListTest.{has, nth_child as nth_child_list, nth_last_child as nth_last_child_list}
use Rattle.css_selector_text.specs.Components.Structure.{root, scope, empty, first_child, last_child, only_child, first_of_type, last_of_type, only_of_type, nth_child, nth_last_child, nth_of_type, nth_last_of_type}
use Rattle.css_selector_text.specs.Components.Namespace.{absent, any_namespace, of_prefix}
use Rattle.css_selector_text.specs.Components.Local.{any_type, a_type, some_attribute, an_attribute, implied}
use Rattle.css_selector_text.specs.Components.Simple.{universal, type_name, id, class, has_attribute, attribute, structure, language, state, function, named_element, nesting, namespaced}
use Rattle.css_selector_text.specs.Components.Condition.{simple, negation, any_of, where_any, tested}
use Rattle.css_selector_text.specs.reading.KnownNames.{is_one_of, states, functions, is_element, element_functions}
use Rattle.css_selector_text.specs.reading.Readings.{Reading, got, refused, Reader, follow, ◌>>=◌, ◌>>◌, give, Step, item, none, stop, step_after, as_item, with_first, items}
use Rattle.css_selector_text.specs.reading.Defaults.{in_default}
use Rattle.css_selector_text.specs.Names.{Names, number_of}

-- ---- gaps, names, strings

-- A gap. It may end in a comment that only the end of the text closes: then nothing is left.
abbrev pub closed_gap : TextReading Bool → Reading Bool
closed_gap (text_got spaced rest) = got spaced rest
closed_gap (text_fails fault rest) = got false []

-- space bytes and comments: whether there is a space byte outside the comments
unfoldable pub gap : Reader Bool
gap text = closed_gap (gap_before text)

abbrev pub comments : Reader (Unit {0})
comments text = got tt (past_comments text)

-- an underscore, a letter, or a byte of a character past ASCII
abbrev pub begins_word : ℕ → Bool
begins_word b = is_letter b || b == underscore || is_wide_byte b

-- such a byte or an escape
abbrev pub begins_plain_name : List ℕ → Bool
begins_plain_name text = starts_by begins_word text || begins_escape text

-- a name begins here: such a byte or an escape, also after a hyphen, or two hyphens (CSS Syntax 3,
-- section 4.3.9)
abbrev pub begins_name : List ℕ → Bool
begins_name text =
    begins_plain_name text
    || (starts hyphen text
    && (begins_plain_name (past_one text) || starts hyphen (past_one text)))

-- the word that begins here, with its escapes decoded
abbrev pub word_here : Reader (List ℕ)
word_here text = got (decoded (before text (past_word text))) (past_word text)

-- an ident sequence, as in a hash and in the unit of a number (section 4.3.11)
unfoldable pub ident_sequence : Reader (List ℕ)
ident_sequence text = if begins_name text then word_here text else refused NoName text

-- a name: an ident token, which `-->` is not (section 4.3.1)
unfoldable pub name : Reader (List ℕ)
name text = if begins_cdc text then refused NoName text else ident_sequence text

-- the end of a string: its quote, or the end of the text; `opened` is the text from the first quote on
abbrev pub closed_string : List ℕ → ℕ → List ℕ → List ℕ → Reading (List ℕ)
closed_string opened quote value [] = got value []
closed_string opened quote value (b ∷ rest) =
    if b == quote then got value rest else refused BrokenString opened

-- a string, from after its quote; `opened` is the text from the quote on
unfoldable pub string : List ℕ → ℕ → Reader (List ℕ)
string opened quote text =
    closed_string opened quote (decoded_string (before text (past_string_parts quote text)))
    (past_string_parts quote text)

-- the byte that closes a bracket, or the end of the text, which closes all (section 5.4.8)
abbrev pub closing : ℕ → Reader (Unit {0})
closing byte [] = got tt []
closing byte (b ∷ text) = if b == byte then got tt text else refused Unexpected (b ∷ text)

-- ---- namespaces (Selectors 4, section 5)

-- a bar, which is none of `|=`
abbrev pub is_bar : List ℕ → Bool
is_bar text = starts vertical_bar text && not (starts equals_sign (past_one text))

-- the rest after `*` or a name, if one is next
abbrev pub past_any_name : List ℕ → List ℕ
past_any_name text =
    if starts asterisk text then past_one text
    else (if begins_name text then past_word text else text)

-- where a bar may be: after `*` or a name, and comments
unfoldable pub at_bar : List ℕ → List ℕ
at_bar text = past_comments (past_any_name text)

-- the namespace of a prefix, if it is declared
abbrev pub of_declared : Names → List ℕ → Option Namespace
of_declared names p = option_map (of_prefix p) (number_of names p)

-- what is before the bar: none is a prefix that is not declared
unfoldable pub prefix : Names → List ℕ → Option Namespace
prefix names text =
    if starts asterisk text then Some any_namespace
    else (if begins_name text then of_declared names (decoded (before text (past_word text)))
    else Some absent)

-- what was before the bar is a namespace, or a prefix that is not declared
abbrev pub if_declared : List ℕ → Option Namespace → List ℕ → Reading (Option Namespace)
if_declared text None rest = refused UnknownPrefix text
if_declared text (Some n) rest = got (Some n) rest

-- A namespace and its bar, if they are next, and comments. There is no white space in it. A prefix that
-- is not declared is refused.
unfoldable pub namespace : Names → Reader (Option Namespace)
namespace names text =
    if is_bar (at_bar text)
    then if_declared text (prefix names text) (past_comments (past_one (at_bar text)))
    else got None text

-- a type or attribute selector, by the namespace that was read before its name
abbrev pub in_namespace : Option Namespace → Local → Simple
in_namespace (Some n) local = namespaced n local
in_namespace None any_type = universal
in_namespace None (a_type n) = type_name n
in_namespace None (some_attribute n) = has_attribute n
in_namespace None (an_attribute n c v ignores) = attribute n c v ignores
in_namespace None implied = universal

-- ---- attributes

-- an operator of two bytes, by its first
abbrev pub two_bytes : ℕ → Option Comparison
two_bytes b =
    if b == tilde then Some has_word
    else (if b == vertical_bar then Some has_subtag
    else (if b == 94 then Some starts_with
    else (if b == 36 then Some ends_with
    else (if b == asterisk then Some contains else None))))

abbrev pub compared_by : List ℕ → Option Comparison → Reading (Option Comparison)
compared_by text None = refused NoOperator text
compared_by text (Some comparison) =
    if starts equals_sign (past_one text) then got (Some comparison) (past_one (past_one text))
    else refused NoOperator text

-- a sign that no value begins with, as in `=>` and `==`
abbrev pub is_sign_byte : ℕ → Bool
is_sign_byte b = b == equals_sign || b == greater_than_sign || b == 60

-- an operator, or the end of the attribute selector
unfoldable pub comparison : Reader (Option Comparison)
comparison [] = got None []
comparison (b ∷ text) =
    if b == close_bracket then got None (b ∷ text)
    else (if b == equals_sign
    then (if starts_by is_sign_byte text then refused NoOperator (b ∷ text)
    else got (Some equals) text)
    else compared_by (b ∷ text) (two_bytes b))

-- a string or a name
unfoldable pub value : Reader (List ℕ)
value [] = refused NoValue []
value (b ∷ text) = if is_quote b then string (b ∷ text) b text else name (b ∷ text)

abbrev pub flag_named : List ℕ → List ℕ → Reader Bool
flag_named start word rest =
    if str_eq_ignore_ascii_case word (codes "i") then got true rest
    else (if str_eq_ignore_ascii_case word (codes "s") then got false rest
    else refused UnknownFlag start)

-- whether there is the flag `i`
unfoldable pub flag : Reader Bool
flag [] = got false []
flag (b ∷ text) =
    if b == close_bracket then got false (b ∷ text)
    else follow (name (b ∷ text)) (flag_named (b ∷ text))

-- what follows the operator
unfoldable pub compared : List ℕ → Comparison → Reader Local
compared n c = do
  gap
  v ← value
  gap
  ignores ← flag
  gap
  closing close_bracket
  give (an_attribute n c v ignores)

abbrev pub by_comparison : List ℕ → Option Comparison → Reader Local
by_comparison n None = closing close_bracket >> give (some_attribute n)
by_comparison n (Some c) = compared n c

-- an attribute selector, from its name on
unfoldable pub attribute_from_name : Reader Local
attribute_from_name = do
  n ← name
  gap
  c ← comparison
  by_comparison n c

-- an attribute selector, from after its bracket
unfoldable pub attribute_selector : Names → Reader Simple
attribute_selector names = do
  gap
  n ← namespace names
  local ← attribute_from_name
  give (in_namespace n local)

-- ---- An+B (CSS Syntax 3, section 6.2)

-- one more digit, up to the greatest `u32`
abbrev pub with_digit : ℕ → ℕ → ℕ
with_digit so_far b = min (10 * so_far + (b - 48)) 4294967295

-- the number of the digits at the start, after those that spell `so_far`, and the rest
abbrev pub digits : ℕ → List ℕ → ℕ × List ℕ
digits so_far [] = (so_far, [])
digits so_far (b ∷ text) =
    if is_digit b then digits (with_digit so_far b) text else (so_far, b ∷ text)

-- whether a minus is next, and the rest after the sign that is next
abbrev pub sign : List ℕ → Bool × List ℕ
sign [] = (false, [])
sign (b ∷ text) =
    if b == hyphen then (true, text) else (if b == plus_sign then (false, text) else (false, b ∷ text))

abbrev pub signed : Bool → ℕ → Signed
signed is_negative size = record { is_negative = is_negative; size = size }

abbrev pub stepping : Signed → Signed → Progression
stepping step offset = record { step = step; offset = offset }

-- the digits of the offset, after its sign; a unit follows no offset
abbrev pub offset_after : Signed → Bool → Reader Progression
offset_after step is_negative text =
    if starts_by is_digit text && not (begins_name (digits 0 text).1)
    then got (stepping step (signed is_negative (digits 0 text).0)) (digits 0 text).1
    else refused NoProgression text

abbrev pub is_sign : ℕ → Bool
is_sign b = b == hyphen || b == plus_sign

-- the offset, if there is a sign
unfoldable pub offset_or_none : Signed → Reader Progression
offset_or_none step text =
    if starts_by is_sign text
    then follow (gap (sign text).1) (λ spaced. offset_after step (sign text).0)
    else got (stepping step (signed false 0)) text

-- what follows the `n`
unfoldable pub with_offset : Signed → Reader Progression
with_offset step = do
  gap
  offset_or_none step

-- `n`
abbrev pub is_n : ℕ → Bool
is_n b = b == 110 || b == 78

-- nothing
abbrev pub is_empty_text : List ℕ → Bool
is_empty_text [] = true
is_empty_text (b ∷ text) = false

-- digits and nothing else
abbrev pub is_number : List ℕ → Bool
is_number text = starts_by is_digit text && is_empty_text (digits 0 text).1

-- The offset that is subtracted, after the hyphen of a word: its digits are in the word, or else after
-- it. `start` is the text from `An+B` on.
unfoldable pub subtracted : List ℕ → Signed → List ℕ → Reader Progression
subtracted start step [] rest = follow (gap rest) (λ spaced. offset_after step true)
subtracted start step (b ∷ number) rest =
    if is_number (b ∷ number)
    then got (stepping step (signed true (digits 0 (b ∷ number)).0)) rest
    else refused NoProgression start

-- after the `n` of a word, which `tail` follows in it
unfoldable pub by_tail : List ℕ → Signed → List ℕ → Reader Progression
by_tail start step [] rest = with_offset step rest
by_tail start step (b ∷ tail) rest =
    if b == hyphen then subtracted start step tail rest else refused NoProgression start

-- a word that begins with `n`, after its step
unfoldable pub n_word : List ℕ → Signed → List ℕ → Reader Progression
n_word start step word rest =
    if starts_by is_n word then by_tail start step (past_one word) rest
    else refused NoProgression start

abbrev pub odd_or_even : List ℕ → List ℕ → Reader Progression
odd_or_even start word rest =
    if str_eq_ignore_ascii_case word (codes "odd")
    then got (stepping (signed false 2) (signed false 1)) rest
    else (if str_eq_ignore_ascii_case word (codes "even")
    then got (stepping (signed false 2) (signed false 0)) rest
    else refused NoProgression start)

-- a word without digits before it: `n`, `-n`, `odd` or `even`
abbrev pub word_progression : List ℕ → List ℕ → Reader Progression
word_progression start word rest =
    if starts hyphen word then n_word start (signed true 1) (past_one word) rest
    else (if starts_by is_n word then n_word start (signed false 1) word rest
    else odd_or_even start word rest)

-- after the digits of a number: it is the step if a word follows, its unit, and else the offset
abbrev pub numbered : List ℕ → Bool → ℕ → Reader Progression
numbered start is_negative size text =
    if begins_name text then follow (ident_sequence text) (n_word start (signed is_negative size))
    else got (stepping (signed false 0) (signed is_negative size)) text

-- a plus that no digit follows: a word that begins with `n` comes after it
abbrev pub is_lone_plus : List ℕ → Bool
is_lone_plus text = starts plus_sign text && not (starts_by is_digit (past_one text))

-- after its sign
abbrev pub unsigned : List ℕ → Bool → Reader Progression
unsigned start is_negative text =
    if starts_by is_digit text then numbered start is_negative (digits 0 text).0 (digits 0 text).1
    else follow (name start) (word_progression start)

-- `An+B`, `odd` or `even`, whatever escapes spell the words
unfoldable pub progression : Reader Progression
progression text =
    if is_lone_plus text
    then follow (name (past_comments (past_one text))) (n_word text (signed false 1))
    else unsigned text (sign text).0 (sign text).1

-- ---- pseudo-classes

-- this value before those that are read
abbrev pub one_more : {A : Type 0} → A → Reader (List A) → Reader (List A)
one_more x next text = with_first x (next text)

abbrev pub is_word : List ℕ → List ℕ → Bool
is_word word n = str_eq_ignore_ascii_case n word

-- a structural pseudo-class without an argument
abbrev pub plain_structure : List ℕ → Option Structure
plain_structure n =
    if is_word (codes "root") n then Some root
    else (if is_word (codes "scope") n then Some scope
    else (if is_word (codes "empty") n then Some empty
    else (if is_word (codes "first-child") n then Some first_child
    else (if is_word (codes "last-child") n then Some last_child
    else (if is_word (codes "only-child") n then Some only_child
    else (if is_word (codes "first-of-type") n then Some first_of_type
    else (if is_word (codes "last-of-type") n then Some last_of_type
    else (if is_word (codes "only-of-type") n then Some only_of_type else None))))))))

abbrev pub numbering : List ℕ → Option Numbering
numbering n =
    if is_word (codes "nth-child") n then Some OfChild
    else (if is_word (codes "nth-last-child") n then Some OfLastChild
    else (if is_word (codes "nth-of-type") n then Some OfType
    else (if is_word (codes "nth-last-of-type") n then Some OfLastType else None)))

abbrev pub numbered_by : Numbering → Progression → Structure
numbered_by OfChild p = nth_child p
numbered_by OfLastChild p = nth_last_child p
numbered_by OfType p = nth_of_type p
numbered_by OfLastType p = nth_last_of_type p

abbrev pub list_kind : List ℕ → Option ListKind
list_kind n =
    if is_word (codes "not") n then Some Not
    else (if is_word (codes "is") n then Some Is
    else (if is_word (codes "where") n then Some Where
    else (if is_word (codes "has") n then Some Has else None)))

-- a pseudo-class that is only a name, by the structural one of this name; `opened` is the text from its
-- colon on
abbrev pub plain_pseudo : Names → List ℕ → List ℕ → Option Structure → Reader Simple
plain_pseudo names opened n (Some s) text = got (structure s) text
plain_pseudo names opened n None text =
    if is_one_of (states names) n then got (state n) text else refused UnknownName opened

-- a pseudo-class that takes no list
abbrev pub function_named : List ℕ → Option Function
function_named n =
    if is_word (codes "lang") n then Some Language else option_map Numbered (numbering n)

abbrev pub range_after : Reading Bool → Step (List ℕ)
range_after (refused why rest) = stop why rest
range_after (got spaced rest) =
    if starts comma rest then as_item (λ r. r) ((gap >> value) (past_one rest)) else none

-- a comma and a further language range, if there is a comma
unfoldable pub next_range : List ℕ → Step (List ℕ)
next_range text = range_after (gap text)

-- the ranges of `:lang()`, names or strings, from after its parenthesis
unfoldable pub language_ranges : Reader (List (List ℕ))
language_ranges = do
  gap
  first ← value
  ranges ← one_more first (items next_range)
  gap
  closing close_parenthesis
  give ranges

-- what ends an argument that is kept as it is written
abbrev pub argument_ends : Stops
argument_ends = record {
  semicolon = false;
  open_brace = false;
  close_brace = false;
  comma = false;
  in_value = true;
}

-- It has something in it, brackets are closed, and no lone backslash is at its end.
abbrev pub is_argument : Stated → Bool
is_argument stated =
    is_whole stated.quality && not (is_empty_text stated.text) && not (ends_lone stated.text)

-- component values (CSS Syntax 3, section 5.4.7)
abbrev pub values_read : List ℕ → Stated × List ℕ → Reading (List ℕ)
values_read text read =
    if is_argument read.0 then got read.0.text read.1 else refused Unexpected text

-- the parenthesis after it, which the end of the text is not
abbrev pub parenthesis : Reader (Unit {0})
parenthesis text =
    if starts close_parenthesis text then got tt (past_one text) else refused Unexpected text

-- an argument that is kept as it is written, from after its parenthesis: component values, without
-- the blanks round them
unfoldable pub argument : Reader (List ℕ)
argument text =
    follow (values_read (past_gap text) (parts_stated argument_ends (past_gap text)))
    (λ a. parenthesis >> give a)

-- one of the four pseudo-elements that may have one colon (section 7)
abbrev pub is_old_element : List ℕ → Bool
is_old_element n =
    is_word (codes "before") n || is_word (codes "after") n
    || is_word (codes "first-line") n || is_word (codes "first-letter") n

-- the argument of what has this name, which is to be one of these; `opened` is the text from its colon on
abbrev pub argument_of : List (List ℕ) → List ℕ → List ℕ → Reader (List ℕ)
argument_of names opened n text =
    if is_one_of names n then argument text else refused UnknownFunction opened

-- a pseudo-class that is only a name; a pseudo-element is none
abbrev pub named_pseudo : Names → List ℕ → List ℕ → List ℕ → Step Simple
named_pseudo names opened n text =
    if is_old_element n then none
    else as_item (λ s. s) (plain_pseudo names opened n (plain_structure n) text)

-- ---- compound selectors

-- `*` or a name
unfoldable pub any_or_name : Reader Local
any_or_name text =
    if starts asterisk text then got any_type (past_one text)
    else follow (name text) (λ n. give (a_type n))

-- after a namespace there must be one
abbrev pub type_after : Option Namespace → List ℕ → Step Simple
type_after None text =
    if starts asterisk text || begins_name text then as_item (in_namespace None) (any_or_name text)
    else none
type_after (Some n) text = as_item (in_namespace (Some n)) (any_or_name text)

-- `*` or a name, with a namespace or without one
unfoldable pub type_selector : Names → List ℕ → Step Simple
type_selector names text = step_after (namespace names text) type_after

-- `&`
abbrev pub ampersand : ℕ
ampersand = 38

-- the next simple selector of a compound selector, if it is no pseudo-class
unfoldable pub next_simple : Names → List ℕ → Step Simple
next_simple names [] = none
next_simple names (b ∷ text) =
    if b == full_stop then as_item class (name (past_comments text))
    else (if b == number_sign then as_item id (ident_sequence text)
    else (if b == open_bracket then as_item (λ s. s) (attribute_selector names text)
    else (if b == ampersand then item (nesting outermost) text else none)))

-- at least one item
abbrev pub some_of : {A : Type 0} → List ℕ → Reading (List A) → Reading (List A)
some_of text (got [] rest) = refused NoSelector text
some_of text (got (x ∷ xs) rest) = got (x ∷ xs) rest
some_of text (refused why rest) = refused why rest

-- what finds the next condition of a compound selector
abbrev pub Finder : Type 0
Finder = List ℕ → Step Condition

abbrev pub after_type : Finder → List ℕ → Step Simple → Reading (List Condition)
after_type next text (item s rest) = with_first (simple s) (items next rest)
after_type next text none = some_of text (items next text)
after_type next text (stop why rest) = refused why rest

-- a compound selector in a list, by what finds a condition
unfoldable pub compound : Names → Finder → Reader (List Condition)
compound names next text = after_type next text (type_selector names text)

-- a sign that joins compound selectors
abbrev pub sign_combinator : ℕ → Option Combinator
sign_combinator b =
    if b == greater_than_sign then Some Child
    else (if b == plus_sign then Some Adjacent
    else (if b == tilde then Some Sibling else None))

-- a compound selector may begin by this byte
abbrev pub begins_compound : ℕ → Bool
begins_compound b =
    begins_word b || b == hyphen || b == asterisk || b == full_stop || b == number_sign
    || b == open_bracket || b == colon || b == backslash || b == ampersand || b == vertical_bar

abbrev pub joined_by : Combinator → List Condition → Part
joined_by combinator conditions = record { combinator = combinator; conditions = conditions }

-- what reads a compound selector
abbrev pub CompoundReader : Type 0
CompoundReader = Reader (List Condition)

abbrev pub signed_part : CompoundReader → Reader (List Condition)
signed_part one = gap >> one

abbrev pub by_sign : CompoundReader → Bool → List ℕ → Option Combinator → Step Part
by_sign one spaced text (Some combinator) =
    as_item (joined_by combinator) (signed_part one (past_one text))
by_sign one spaced text None =
    if spaced && starts_by begins_compound text
    then as_item (joined_by Descendant) (one text) else none

abbrev pub first_sign : List ℕ → Option Combinator
first_sign [] = None
first_sign (b ∷ text) = sign_combinator b

abbrev pub part_after : CompoundReader → Reading Bool → Step Part
part_after one (refused why rest) = stop why rest
part_after one (got spaced rest) = by_sign one spaced rest (first_sign rest)

-- in a list, by what finds a condition
unfoldable pub next_part_in : Names → Finder → List ℕ → Step Part
next_part_in names next text = part_after (compound names next) (gap text)

-- a complex selector in a list, of which the first compound selector is joined so to what is before it
unfoldable pub complex_by : Names → Combinator → Finder → Reader (List Part)
complex_by names combinator next = do
  first ← compound names next
  one_more (joined_by combinator first) (items (next_part_in names next))

-- whether the selectors of a list are relative, as those of `:has()` are (Selectors 4, section 4.5)
abbrev pub is_relative : ListKind → Bool
is_relative Not = false
is_relative Is = false
is_relative Where = false
is_relative Has = true

-- the sign of a combinator before a relative selector
abbrev pub leading_sign : ListKind → List ℕ → Option Combinator
leading_sign kind text = if is_relative kind then first_sign text else None

-- Without a sign a relative selector is of descendants.
abbrev pub after_leading : Names → Finder → List ℕ → Option Combinator → Reading (List Part)
after_leading names next text None = complex_by names Descendant next text
after_leading names next text (Some combinator) =
    (gap >> complex_by names combinator next) (past_one text)

-- a complex selector in a list of this kind
unfoldable pub complex : Names → ListKind → Finder → Reader (List Part)
complex names kind next text = after_leading names next text (leading_sign kind text)

-- A part of a list ends at a comma, at the closing parenthesis, or with the text.
abbrev pub ends_part : List ℕ → Bool
ends_part [] = true
ends_part (b ∷ text) = b == comma || b == close_parenthesis

-- a component value of a part (CSS Syntax 3, section 5.4.7)
abbrev pub part_value : List ℕ → Option (Unit {0} × List ℕ)
part_value text =
    if ends_part text then None else Some (tt, (component_value deepest_brackets text).1)

-- the rest after a part, whatever it is
unfoldable pub past_part : List ℕ → List ℕ
past_part text = (each part_value text).1

-- a list with such a part is refused, even if it is forgiving
abbrev pub is_lasting : Why → Bool
is_lasting TooDeep = true
is_lasting why = false

-- A part that is no selector is left out of a forgiving list (Selectors 4, section 18.1); any other
-- list is refused. `text` is where the part begins.
abbrev pub no_selector : Bool → List ℕ → Why → List ℕ → Reading (Option (List Part))
no_selector forgiving text why rest =
    if forgiving && not (is_lasting why) then got None (past_part text) else refused why rest

-- the part ends after the selector and a gap
abbrev pub part_end : Bool → List ℕ → List Part → Reading Bool → Reading (Option (List Part))
part_end forgiving text s (refused why rest) = refused why rest
part_end forgiving text s (got spaced rest) =
    if ends_part rest then got (Some s) rest else no_selector forgiving text Unexpected rest

-- whether a list leaves out what is no selector
abbrev pub is_forgiving : ListKind → Bool
is_forgiving Not = false
is_forgiving Is = true
is_forgiving Where = true
is_forgiving Has = false

abbrev pub judged : Bool → List ℕ → Reading (List Part) → Reading (Option (List Part))
judged forgiving text (got s rest) = part_end forgiving text s (gap rest)
judged forgiving text (refused why rest) = no_selector forgiving text why rest

-- a part of a list of this kind: the selector that it is, or none
unfoldable pub listed_part : Names → ListKind → Finder → Reader (Option (List Part))
listed_part names kind next text =
    judged (is_forgiving kind) text ((gap >> complex names kind next) text)

-- a further part, after a comma
unfoldable pub next_listed : Names → ListKind → Finder → List ℕ → Step (Option (List Part))
next_listed names kind next text =
    if starts comma text then as_item (λ s. s) (listed_part names kind next (past_one text))
    else none

-- the selectors of parts
abbrev pub kept : List (Option (List Part)) → List (List Part)
kept [] = []
kept (None ∷ all) = kept all
kept (Some s ∷ all) = s ∷ kept all

abbrev pub keep : Reading (List (Option (List Part))) → Reading (List (List Part))
keep (got all rest) = got (kept all) rest
keep (refused why rest) = refused why rest

-- the selectors of a list, of which the first part was read
abbrev pub selectors_after
    : Names → ListKind → Finder → Option (List Part) → Reader (List (List Part))
selectors_after names kind next first text =
    keep (with_first first (items (next_listed names kind next) text))

abbrev pub listed : ListKind → List (List Part) → Condition
listed Not selectors = negation (selectors_from selectors)
listed Is selectors = any_of (selectors_from selectors)
listed Where selectors = where_any (selectors_from selectors)
listed Has selectors = tested has (selectors_from selectors)

-- a list of a pseudo-class, from after its parenthesis, by its kind and what finds a condition
unfoldable pub complex_list : Names → ListKind → Finder → Reader (List (List Part))
complex_list names kind next = do
  first ← listed_part names kind next
  selectors ← selectors_after names kind next first
  closing close_parenthesis
  give selectors

-- what reads the list of a pseudo-class, given the text from its colon on
abbrev pub ListReader : Type 0
ListReader = ListKind → List ℕ → Reader (List (List Part))

-- Whether a list of this kind may be open, where one that is open may be of `:has()`: no `:has()` is
-- within another, at whatever depth (Selectors 4, section 4.5).
abbrev pub may_open : ListKind → Bool → Bool
may_open kind in_has = not (is_relative kind && in_has)

-- by what finds a condition where a list of `:has()` is open, and where none is
abbrev pub list_by : Names → Bool → (Bool → Finder) → ListReader
list_by names in_has next kind opened text =
    if may_open kind in_has then complex_list names kind (next (is_relative kind || in_has)) text
    else refused Unexpected opened

-- ---- functional pseudo-classes

-- the list after `of`
abbrev pub of_list : ListReader → ListTest → List ℕ → Reader Condition
of_list list test opened =
    list Not opened >>= λ selectors. give (tested test (selectors_from selectors))

-- a word after `An+B`: only `of` may be one
abbrev pub after_word : ListReader → List ℕ → ListTest → List ℕ → List ℕ → Reader Condition
after_word list opened test text word rest =
    if is_word (codes "of") word then of_list list test opened rest else refused Unexpected text

-- no list is after `An+B`
abbrev pub without_list : Numbering → Progression → Reader Condition
without_list kind p = closing close_parenthesis >> give (simple (structure (numbered_by kind p)))

-- what is asked of a list after `An+B`, if one may be there: only where all siblings are numbered
-- (Selectors 4, section 14.3)
abbrev pub list_test : Numbering → Progression → Option ListTest
list_test OfChild p = Some (nth_child_list p)
list_test OfLastChild p = Some (nth_last_child_list p)
list_test OfType p = None
list_test OfLastType p = None

-- what is after `An+B`
abbrev pub after_progression
    : ListReader → List ℕ → Numbering → Progression → Option ListTest → Reader Condition
after_progression list opened kind p None text = without_list kind p text
after_progression list opened kind p (Some test) text =
    if begins_name text then follow (name text) (after_word list opened test text)
    else without_list kind p text

-- the argument of a pseudo-class with this name, by what reads a list; `opened` is the text from its
-- colon on
abbrev pub functional : Names → ListReader → List ℕ → List ℕ → Option Function → Reader Condition
functional names list opened n None =
    argument_of (functions names) opened n >>= λ a. give (simple (function n a))
functional names list opened n (Some Language) =
    language_ranges >>= λ ranges. give (simple (language ranges))
functional names list opened n (Some (Numbered kind)) = do
  gap
  p ← progression
  gap
  after_progression list opened kind p (list_test kind p)

-- one colon
abbrev pub begins_pseudo_class : List ℕ → Bool
begins_pseudo_class text =
    starts colon text && not (starts colon (past_comments (past_one text)))

abbrev pub simple_item : Step Simple → Step Condition
simple_item (item s rest) = item (simple s) rest
simple_item none = none
simple_item (stop why rest) = stop why rest

-- the argument of a functional pseudo-class, from after its parenthesis, by what reads a list
abbrev pub with_argument
    : Names → ListReader → List ℕ → List ℕ → Option ListKind → Option Function → Reader Condition
with_argument names list opened n None kind = functional names list opened n kind
with_argument names list opened n (Some kind) other =
    list kind opened >>= λ selectors. give (listed kind selectors)

-- after the name of a pseudo-class
abbrev pub pseudo_condition : Names → ListReader → List ℕ → List ℕ → List ℕ → Step Condition
pseudo_condition names list opened n text =
    if starts open_parenthesis text
    then as_item (λ c. c)
    (with_argument names list opened n (list_kind n) (function_named n) (past_one text))
    else simple_item (named_pseudo names opened n text)

-- the condition that begins here, by what reads a list
abbrev pub condition_here : Names → ListReader → Finder
condition_here names list text =
    if begins_pseudo_class text
    then step_after (name (past_comments (past_one text))) (pseudo_condition names list text)
    else simple_item (next_simple names text)

-- the next condition, by what reads a list
abbrev pub condition_by : Names → ListReader → Finder
condition_by names list text = condition_here names list (past_comments text)

-- How many lists may be open at once. (Selectors 4 has no limit.)
abbrev pub deepest : ℕ
deepest = 32

-- one list too many: its pseudo-class is refused
abbrev pub too_deep : ListReader
too_deep kind opened text = refused TooDeep opened

-- the next condition of a compound selector, with lists nested at most `n` deep, by whether one that is
-- open is of `:has()`
unfoldable pub condition_at : Names → ℕ → Bool → Finder
condition_at names zero in_has text = condition_by names too_deep text
condition_at names (suc n) in_has text =
    condition_by names (list_by names in_has (condition_at names n)) text

-- the same, by which lists may be open
abbrev pub next_condition : Room → Finder
next_condition room = condition_at room.names room.depth room.in_has

-- the list of a pseudo-class, with lists nested at most `n` deep, itself included
abbrev pub list_at : Names → ℕ → Bool → ListReader
list_at names zero in_has = too_deep
list_at names (suc n) in_has = list_by names in_has (condition_at names n)

abbrev pub list_within : Room → ListReader
list_within room = list_at room.names room.depth room.in_has

abbrev pub one_less : ℕ → ℕ
one_less zero = zero
one_less (suc n) = n

-- which lists may be open in a list of this kind
abbrev pub room_in : ListKind → Room → Room
room_in kind room = record {
  depth = one_less room.depth;
  in_has = is_relative kind || room.in_has;
  names = room.names;
}

-- which lists may be open in a selector that is in none
abbrev pub outside : Names → Room
outside names = record { depth = deepest; in_has = false; names = names }

-- A compound selector may be empty before a pseudo-element: before a colon that begins no condition.
abbrev pub some_or_element : List ℕ → Reading (List Condition) → Reading (List Condition)
some_or_element text reading = if starts colon text then reading else some_of text reading

abbrev pub after_type_name : Names → List ℕ → Step Simple → Reading (List Condition)
after_type_name names text (item s rest) =
    with_first (simple s) (items (next_condition (outside names)) rest)
after_type_name names text none = some_or_element text (items (next_condition (outside names)) text)
after_type_name names text (stop why rest) = refused why rest

-- a compound selector
unfoldable pub conditions : Names → Reader (List Condition)
conditions names text = after_type_name names text (type_selector names text)

-- ---- selectors

-- the next compound selector and what joins it to the one before
unfoldable pub next_part : Names → List ℕ → Step Part
next_part names text = part_after (conditions names) (gap text)

-- the rest after a second colon, if there is one, and comments
abbrev pub past_colon : List ℕ → List ℕ
past_colon text = past_comments (past_byte colon text)

abbrev pub element_named : List ℕ → Option (List ℕ) → List Condition → PseudoElement
element_named n a after = record { name = n; argument = a; after = after }

-- its argument, if it has one; `opened` is the text from its first colon on
unfoldable pub element_argument : Names → List ℕ → List ℕ → Reader (Option (List ℕ))
element_argument names opened n text =
    if starts open_parenthesis text
    then follow (argument_of (element_functions names) opened n (past_one text)) (λ a. give (Some a))
    else (if is_element names n then got None text else refused UnknownName opened)

-- the name of a pseudo-element after its first colon, and its argument
unfoldable pub element_name : Names → List ℕ → Reader (List ℕ × Option (List ℕ))
element_name names opened text =
    follow (name (past_colon (past_comments text)))
    (λ n. element_argument names opened n >>= λ a. give (n, a))

abbrev pub named_condition : List ℕ × Option (List ℕ) → Condition
named_condition e = simple (named_element e.0 e.1)

-- a pseudo-class, or a pseudo-element, from its colon on
abbrev pub class_or_element : Names → List ℕ → Step Condition → Step Condition
class_or_element names text (item c rest) = item c rest
class_or_element names text none = as_item named_condition (element_name names text (past_one text))
class_or_element names text (stop why rest) = stop why rest

abbrev pub after_element_here : Names → List ℕ → Step Condition
after_element_here names text =
    if starts colon text then class_or_element names text (next_condition (outside names) text)
    else none

-- what may follow a pseudo-element: a pseudo-class or a further pseudo-element
unfoldable pub after_element : Names → Finder
after_element names text = after_element_here names (past_comments text)

abbrev pub with_after : Names → List ℕ × Option (List ℕ) → Reader (Option PseudoElement)
with_after names e =
    items (after_element names) >>= λ after. give (Some (element_named e.0 e.1 after))

-- The pseudo-element after the compound selectors, if there is one: its name after two colons, or
-- after the one of which no condition was read, and what follows it.
unfoldable pub pseudo_element : Names → Reader (Option PseudoElement)
pseudo_element names text =
    if starts colon text then follow (element_name names text (past_one text)) (with_after names)
    else got None text

abbrev pub at_end : Reader (Unit {0})
at_end [] = got tt []
at_end (b ∷ text) = refused Unexpected (b ∷ text)

abbrev pub selector_with : List Part → Option PseudoElement → Selector
selector_with parts element = record { parts = parts; pseudo_element = element }

-- the compound selectors of a selector
unfoldable pub parts : Names → Reader (List Part)
parts names = do
  gap
  first ← conditions names
  one_more (joined_by Descendant first) (items (next_part names))

-- `&`, which stands for this list, as a compound selector at the start
abbrev pub nesting_part : Nesting → Part
nesting_part list = joined_by Descendant (simple (nesting list) ∷ [])

abbrev pub after_sign : Names → List ℕ → Option Combinator → Reading (List Part)
after_sign names text None = parts names text
after_sign names text (Some combinator) =
    one_more (nesting_part outermost) (items (next_part names)) text

-- the compound selectors of a relative selector: before a combinator at its start there is an `&` (CSS
-- Nesting 1, section 3.1)
unfoldable pub relative_parts : Names → Reader (List Part)
relative_parts names text = after_sign names text (first_sign text)

abbrev pub start_parts : Names → Start → Reader (List Part)
start_parts names Plain = parts names
start_parts names Relative = relative_parts names

-- what is left
abbrev pub here : Reader (List ℕ)
here text = got text text

-- A selector that begins at `from`; its compound selectors end at `end`, the pseudo-element begins at
-- `at`, if there is one, and ends at `after`.
abbrev pub placed_as : List Part → Option PseudoElement → (from end at after : List ℕ) → Placed
placed_as parts element from end at after = record {
  selector = selector_with parts element;
  from = from;
  element = if is_some element then at else end;
  to = if is_some element then after else end;
}

-- a selector and the gaps round it, where a default namespace may be declared
unfoldable pub placed_by : Names → Start → Reader Placed
placed_by names start = do
  gap
  from ← here
  all ← start_parts names start
  end ← here
  comments
  at ← here
  element ← pseudo_element names
  after ← here
  gap
  give (placed_as (in_default names.default_namespace all) element from end at after)

abbrev pub placed : Names → Reader Placed
placed names = placed_by names Plain

-- a text that is a selector, with where it is in the text
unfoldable pub placed_selector : Names → Reader Placed
placed_selector names = do
  p ← placed names
  at_end
  give p

-- a comma and a further selector, if there is a comma
unfoldable pub next_placed : Names → Start → List ℕ → Step Placed
next_placed names start text =
    if starts comma text then as_item (λ p. p) (placed_by names start (past_one text)) else none

-- a text that is a list of selectors with commas between them (section 5): if one of them is
-- refused, the list is
unfoldable pub placed_list_by : Names → Start → Reader (List Placed)
placed_list_by names start = do
  first ← placed_by names start
  all ← one_more first (items (next_placed names start))
  at_end
  give all

abbrev pub placed_list : Names → Reader (List Placed)
placed_list names = placed_list_by names Plain

-- a text that is a selector
unfoldable pub selector : Names → Reader Selector
selector names = placed_selector names >>= λ p. give p.selector
