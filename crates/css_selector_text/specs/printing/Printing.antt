-- The text that a selector is printed as: it is serialized as in CSSOM (sections "Common
-- Serializing Idioms" and "Serializing Selectors") and CSS Syntax 3 (section 9.1). What would not
-- read back as the same components is written otherwise: the `*` before other simple selectors is
-- kept, and so are the sign of a negative zero, namespaces, and the case of letters in names.
use Rattle.std.specs.Prelude.{ℕ, Bool, false, not, ◌&&◌, ◌||◌, ◌==◌, if◌then◌else◌, List, [], ◌∷◌, ◌++◌, codes, encode_utf8, Option, Some, None}
use Rattle.std.specs.Fmt.{decimal, digits}
use Rattle.std.specs.List.{flat_map}
use Rattle.css_text.specs.AsciiBytes.{backslash, double_quote, hyphen}
use Rattle.css_text.specs.Bytes.{is_digit, is_within, past_one, starts}
use Rattle.css_syntax.specs.Escapes.{replacement}
use Rattle.css_syntax.specs.Tokens.{is_name_byte}
use Rattle.css_matching.specs.declared.Combinator.{Combinator}
use Rattle.css_matching.specs.declared.Combinator.TheVariants.{Descendant, Child, Adjacent, Sibling}
use Rattle.css_selector_text.specs.Components.{Comparison, Signed, Progression, Structure, Namespace, Local, Simple, ListTest, Condition, Conditions, Parts, Selectors, Part, PseudoElement, Selector}
use Rattle.css_selector_text.specs.Components.Comparison.{equals, has_word, has_subtag, starts as starts_with, ends as ends_with, contains}
use Rattle.css_selector_text.specs.Components.ListTest.{has, nth_child as nth_child_list, nth_last_child as nth_last_child_list}
use Rattle.css_selector_text.specs.Components.Structure.{root, scope, empty, first_child, last_child, only_child, first_of_type, last_of_type, only_of_type, nth_child, nth_last_child, nth_of_type, nth_last_of_type}
use Rattle.css_selector_text.specs.Components.Namespace.{absent, any_namespace, of_prefix, default}
use Rattle.css_selector_text.specs.Components.Local.{any_type, a_type, some_attribute, an_attribute, implied}
use Rattle.css_selector_text.specs.Components.Simple.{universal, type_name, id, class, has_attribute, attribute, structure, language, state, function, named_element, nesting, namespaced}
use Rattle.css_selector_text.specs.Components.Condition.{simple, negation, any_of, where_any, tested}
use Rattle.css_selector_text.specs.Components.Conditions.{end_of_compound, with_condition}
use Rattle.css_selector_text.specs.Components.Parts.{end_of_selector, with_part}
use Rattle.css_selector_text.specs.Components.Selectors.{end_of_list, with_selector}

-- ---- identifiers and strings

-- U+0001 to U+001F, and U+007F
abbrev pub is_control : ℕ → Bool
is_control b = is_within 1 31 b || b == 127

-- a byte that is written as it is: in an identifier a name byte, in a string with this quote any
-- other than the quote, a backslash and the control characters; but U+0000 in neither
abbrev pub is_kept : Option ℕ → ℕ → Bool
is_kept None b = is_name_byte b && not (b == 0)
is_kept (Some quote) b = not (b == quote || b == backslash || is_control b || b == 0)

-- "escape a character as code point": a backslash, the number in lower-case hexadecimal digits and
-- a blank
abbrev pub code_point_text : ℕ → List ℕ
code_point_text b = codes "\\" ++ digits 16 false b ++ codes " "

-- "escape a character": a backslash and the character; a control character as code point. U+FFFD is
-- written in place of U+0000.
abbrev pub escape_text : ℕ → List ℕ
escape_text b =
    if b == 0 then encode_utf8 replacement
    else (if is_control b then code_point_text b else backslash ∷ b ∷ [])

-- a byte of an identifier, or of a string with this quote
abbrev pub byte_text : Option ℕ → ℕ → List ℕ
byte_text quote b = if is_kept quote b then b ∷ [] else escape_text b

-- the start of an identifier: a digit is escaped as code point
abbrev pub start_text : List ℕ → List ℕ
start_text [] = []
start_text (b ∷ name) =
    (if is_digit b then code_point_text b else byte_text None b) ++ flat_map (byte_text None) name

-- after a hyphen at the start; a hyphen alone is escaped
abbrev pub after_hyphen : List ℕ → List ℕ
after_hyphen [] = codes "\\-"
after_hyphen (b ∷ name) = hyphen ∷ start_text (b ∷ name)

-- "serialize an identifier"
abbrev pub identifier_text : List ℕ → List ℕ
identifier_text name =
    if starts hyphen name then after_hyphen (past_one name) else start_text name

-- "serialize a string"
abbrev pub string_text : List ℕ → List ℕ
string_text value = codes "\"" ++ flat_map (byte_text (Some double_quote)) value ++ codes "\""

-- ---- An+B

abbrev pub minus_text : Bool → List ℕ
minus_text is_negative = if is_negative then codes "-" else []

-- "serialize an integer"
abbrev pub signed_text : Signed → List ℕ
signed_text s = minus_text s.is_negative ++ decimal s.size

-- 0 without a minus
abbrev pub is_zero : Signed → Bool
is_zero s = s.size == 0 && not s.is_negative

-- the number of A, which is not written if it is 1
abbrev pub size_text : ℕ → List ℕ
size_text size = if size == 1 then [] else decimal size

abbrev pub plus_text : Bool → List ℕ
plus_text is_negative = if is_negative then [] else codes "+"

-- B after `An`, with its sign; 0 is not written
abbrev pub offset_text : Signed → List ℕ
offset_text s = if is_zero s then [] else plus_text s.is_negative ++ signed_text s

-- "serialize an <an+b> value"
abbrev pub progression_text : Progression → List ℕ
progression_text p =
    if is_zero p.step then signed_text p.offset
    else minus_text p.step.is_negative ++ size_text p.step.size ++ codes "n" ++ offset_text p.offset

-- ---- simple selectors

abbrev pub comparison_text : Comparison → List ℕ
comparison_text equals = codes "="
comparison_text has_word = codes "~="
comparison_text has_subtag = codes "|="
comparison_text starts_with = codes "^="
comparison_text ends_with = codes "$="
comparison_text contains = codes "*="

abbrev pub flag_text : Bool → List ℕ
flag_text ignores_case = if ignores_case then codes " i" else []

-- the name of a pseudo-class, its parentheses and what is between them
abbrev pub function_text : List ℕ → List ℕ → List ℕ
function_text name argument = name ++ argument ++ codes ")"

abbrev pub structure_text : Structure → List ℕ
structure_text root = codes ":root"
structure_text scope = codes ":scope"
structure_text empty = codes ":empty"
structure_text first_child = codes ":first-child"
structure_text last_child = codes ":last-child"
structure_text only_child = codes ":only-child"
structure_text first_of_type = codes ":first-of-type"
structure_text last_of_type = codes ":last-of-type"
structure_text only_of_type = codes ":only-of-type"
structure_text (nth_child p) = function_text (codes ":nth-child(") (progression_text p)
structure_text (nth_last_child p) = function_text (codes ":nth-last-child(") (progression_text p)
structure_text (nth_of_type p) = function_text (codes ":nth-of-type(") (progression_text p)
structure_text (nth_last_of_type p) =
    function_text (codes ":nth-last-of-type(") (progression_text p)

-- what follows the first of a list: before each a comma and a blank
abbrev pub further_text : {A : Type 0} → (A → List ℕ) → A → List ℕ
further_text text_of x = codes ", " ++ text_of x

-- "serialize a comma-separated list"
abbrev pub list_text : {A : Type 0} → (A → List ℕ) → List A → List ℕ
list_text text_of [] = []
list_text text_of (x ∷ xs) = text_of x ++ flat_map (further_text text_of) xs

-- an argument in its parentheses, as it is written
abbrev pub argument_text : Option (List ℕ) → List ℕ
argument_text None = []
argument_text (Some argument) = codes "(" ++ argument ++ codes ")"

-- `An+B of` and a list
abbrev pub nth_of_text : Progression → List ℕ → List ℕ
nth_of_text p selectors = progression_text p ++ codes " of " ++ selectors

-- a namespace, as it is written before a name; the default one is not written
abbrev pub namespace_text : Namespace → List ℕ
namespace_text absent = codes "|"
namespace_text any_namespace = codes "*|"
namespace_text (of_prefix prefix number) = identifier_text prefix ++ codes "|"
namespace_text (default number) = []

-- `[name]`, by what stands for the name
abbrev pub some_attribute_text : List ℕ → List ℕ
some_attribute_text name = codes "[" ++ name ++ codes "]"

-- `[name=text]` and the like
abbrev pub attribute_text : List ℕ → Comparison → List ℕ → Bool → List ℕ
attribute_text name comparison value ignores_case =
    codes "[" ++ name ++ comparison_text comparison ++ string_text value ++ flag_text ignores_case
    ++ codes "]"

-- a type or attribute selector, by what stands before its name
abbrev pub local_text : List ℕ → Local → List ℕ
local_text namespace any_type = namespace ++ codes "*"
local_text namespace (a_type name) = namespace ++ identifier_text name
local_text namespace (some_attribute name) = some_attribute_text (namespace ++ identifier_text name)
local_text namespace (an_attribute name comparison value ignores_case) =
    attribute_text (namespace ++ identifier_text name) comparison value ignores_case
local_text namespace implied = namespace

-- "serialize a simple selector"
abbrev pub simple_text : Simple → List ℕ
simple_text universal = codes "*"
simple_text (type_name name) = identifier_text name
simple_text (id name) = codes "#" ++ identifier_text name
simple_text (class name) = codes "." ++ identifier_text name
simple_text (has_attribute name) = some_attribute_text (identifier_text name)
simple_text (attribute name comparison value ignores_case) =
    attribute_text (identifier_text name) comparison value ignores_case
simple_text (structure s) = structure_text s
simple_text (language ranges) = function_text (codes ":lang(") (list_text string_text ranges)
simple_text (state name) = codes ":" ++ identifier_text name
simple_text (function name argument) =
    codes ":" ++ identifier_text name ++ argument_text (Some argument)
simple_text (named_element name argument) =
    codes "::" ++ identifier_text name ++ argument_text argument
simple_text (nesting n) = codes "&"
simple_text (namespaced namespace local) = local_text (namespace_text namespace) local

abbrev pub combinator_text : Combinator → List ℕ
combinator_text Descendant = codes " "
combinator_text Child = codes " > "
combinator_text Adjacent = codes " + "
combinator_text Sibling = codes " ~ "

-- what joins the first compound selector of a list of `:has()` to the element that is asked: a
-- descendant has no sign
abbrev pub leading_text : Combinator → List ℕ
leading_text Descendant = []
leading_text Child = codes "> "
leading_text Adjacent = codes "+ "
leading_text Sibling = codes "~ "

-- a pseudo-class with a list, by the text of the list
abbrev pub test_text : ListTest → List ℕ → List ℕ
test_text has selectors = function_text (codes ":has(") selectors
test_text (nth_child_list p) selectors =
    function_text (codes ":nth-child(") (nth_of_text p selectors)
test_text (nth_last_child_list p) selectors =
    function_text (codes ":nth-last-child(") (nth_of_text p selectors)

abbrev mutual
  pub condition_text : Condition → List ℕ
  condition_text (simple s) = simple_text s
  condition_text (negation selectors) = function_text (codes ":not(") (selectors_text selectors)
  condition_text (any_of selectors) = function_text (codes ":is(") (selectors_text selectors)
  condition_text (where_any selectors) = function_text (codes ":where(") (selectors_text selectors)
  condition_text (tested test selectors) = test_text test (selectors_text selectors)

  -- a compound selector in a list
  pub compound_text : Conditions → List ℕ
  compound_text end_of_compound = []
  compound_text (with_condition c conditions) = condition_text c ++ compound_text conditions

  -- a complex selector in a list
  pub complex_text : Parts → List ℕ
  complex_text end_of_selector = []
  complex_text (with_part k c parts) =
      leading_text k ++ (compound_text c ++ further_parts_text parts)

  pub further_parts_text : Parts → List ℕ
  further_parts_text end_of_selector = []
  further_parts_text (with_part k c parts) =
      combinator_text k ++ compound_text c ++ further_parts_text parts

  -- "serialize a comma-separated list"
  pub selectors_text : Selectors → List ℕ
  selectors_text end_of_list = []
  selectors_text (with_selector s selectors) = complex_text s ++ further_selectors_text selectors

  -- what follows the first of a list
  pub further_selectors_text : Selectors → List ℕ
  further_selectors_text end_of_list = []
  further_selectors_text (with_selector s selectors) =
      codes ", " ++ complex_text s ++ further_selectors_text selectors

-- ---- selectors

-- a compound selector after another
abbrev pub part_text : Part → List ℕ
part_text part = combinator_text part.combinator ++ flat_map condition_text part.conditions

-- the compound selectors; what joins the first to the one before is not written
abbrev pub parts_text : List Part → List ℕ
parts_text [] = []
parts_text (part ∷ parts) = flat_map condition_text part.conditions ++ flat_map part_text parts

-- what joins the first of them to what is before a complex selector in a list
abbrev pub first_text : List Part → List ℕ
first_text [] = []
first_text (part ∷ parts) = leading_text part.combinator

-- those of a complex selector in a list
abbrev pub listed_text : List Part → List ℕ
listed_text parts = first_text parts ++ parts_text parts

-- a pseudo-element and what follows it
abbrev pub pseudo_element_text : Option PseudoElement → List ℕ
pseudo_element_text None = []
pseudo_element_text (Some e) =
    simple_text (named_element e.name e.argument) ++ flat_map condition_text e.after

-- "serialize a selector"
abbrev pub selector_text : Selector → List ℕ
selector_text s = parts_text s.parts ++ pseudo_element_text s.pseudo_element
