-- What the names and the attributes of elements of an HTML document say of them (HTML Standard, "Input
-- type states", "The button element" and others). Names are in lower case.
use Rattle.std.specs.Prelude.{ℕ, Bool, true, false, not, ◌||◌, ◌&&◌, ◌==◌, List, [], ◌∷◌, bytes_eq, codes, is_some, if◌then◌else◌}
use Rattle.std.specs.Char.{is_ascii_lowercase, is_ascii_whitespace}
use Rattle.std.specs.List.{list_any}
use Rattle.std.specs.Option.{option_map_or, unwrap_or}
use Rattle.std.specs.Str.{str_eq_ignore_ascii_case}
use Rattle.css_text.specs.AsciiBytes.{hyphen}
use Rattle.css_elements.specs.Rows.{Row}
use Rattle.css_elements.specs.TreeNodes.{name_at, attribute_at}
use Rattle.css_tree.specs.Html.{is_among}
use Rattle.css_tree.specs.declared.html_elements.InputType.{InputType}
use Rattle.css_tree.specs.declared.html_elements.InputType.TheVariants.{Text, Url, Number, Date, Checkbox, Radio, File, Submit, Other}

-- the element has this name
abbrev pub is_named : List Row → ℕ → List ℕ → Bool
is_named rows i name = bytes_eq (name_at rows i) name

-- the element has an attribute of this name
abbrev pub has_attribute : List Row → ℕ → List ℕ → Bool
has_attribute rows i name = is_some (attribute_at rows i name)

-- ---- types of input elements

-- `email` and `url`: blanks around the value do not count
abbrev pub names_url : List ℕ → Bool
names_url text =
    str_eq_ignore_ascii_case text (codes "email") || str_eq_ignore_ascii_case text (codes "url")

-- dates and times
abbrev pub names_date : List ℕ → Bool
names_date text =
    str_eq_ignore_ascii_case text (codes "date") || str_eq_ignore_ascii_case text (codes "month")
    || str_eq_ignore_ascii_case text (codes "week") || str_eq_ignore_ascii_case text (codes "time")
    || str_eq_ignore_ascii_case text (codes "datetime-local")

-- submit buttons
abbrev pub names_submit : List ℕ → Bool
names_submit text =
    str_eq_ignore_ascii_case text (codes "submit") || str_eq_ignore_ascii_case text (codes "image")

-- types to which neither `required` nor `readonly` nor `placeholder` applies
abbrev pub names_other : List ℕ → Bool
names_other text =
    str_eq_ignore_ascii_case text (codes "hidden") || str_eq_ignore_ascii_case text (codes "range")
    || str_eq_ignore_ascii_case text (codes "color") || str_eq_ignore_ascii_case text (codes "reset")
    || str_eq_ignore_ascii_case text (codes "button")

-- The type that a text names, whatever its case. One that names no type stands for `text`.
abbrev pub type_named : List ℕ → InputType
type_named text =
    if str_eq_ignore_ascii_case text (codes "checkbox") then Checkbox
    else (if str_eq_ignore_ascii_case text (codes "radio") then Radio
    else (if str_eq_ignore_ascii_case text (codes "number") then Number
    else (if str_eq_ignore_ascii_case text (codes "file") then File
    else (if names_url text then Url
    else (if names_date text then Date
    else (if names_submit text then Submit
    else (if names_other text then Other else Text)))))))

-- the type of an input element; without the attribute it is `text`
abbrev pub input_type : List Row → ℕ → InputType
input_type rows i = option_map_or type_named (attribute_at rows i (codes "type")) Text

-- the attribute `checked` applies
abbrev pub may_be_checked : InputType → Bool
may_be_checked Checkbox = true
may_be_checked Radio = true
may_be_checked type = false

-- the attribute `placeholder` applies
abbrev pub has_placeholders : InputType → Bool
has_placeholders Text = true
has_placeholders Url = true
has_placeholders Number = true
has_placeholders type = false

-- the attribute `readonly` applies
abbrev pub may_be_read_only : InputType → Bool
may_be_read_only Date = true
may_be_read_only type = has_placeholders type

-- the attribute `required` applies
abbrev pub may_be_required : InputType → Bool
may_be_required File = true
may_be_required type = may_be_checked type || may_be_read_only type

-- a byte that is left of the value of a text: line breaks are not
abbrev pub stays_in_text : ℕ → Bool
stays_in_text b = not (b == 10 || b == 13)

-- a byte that is no blank
abbrev pub stays_in_url : ℕ → Bool
stays_in_url b = not (is_ascii_whitespace b)

-- what is left of a value is empty: nothing is left out of that of a number
abbrev pub is_emptied : InputType → List ℕ → Bool
is_emptied Text value = not (list_any stays_in_text value)
is_emptied Url value = not (list_any stays_in_url value)
is_emptied type [] = true
is_emptied type (b ∷ value) = false

-- ---- kinds of elements

-- an input element with one of the types to which a test is true
abbrev pub is_input_of : (InputType → Bool) → List Row → ℕ → Bool
is_input_of test rows i = is_named rows i (codes "input") && test (input_type rows i)

-- an input element whose type is `tel`
abbrev pub names_telephone : List ℕ → Bool
names_telephone text = str_eq_ignore_ascii_case text (codes "tel")

abbrev pub is_telephone : List Row → ℕ → Bool
is_telephone rows i =
    is_named rows i (codes "input")
    && option_map_or names_telephone (attribute_at rows i (codes "type")) false

-- controls whose value may be changed as a whole
abbrev pub is_choice_or_area : List Row → ℕ → Bool
is_choice_or_area rows i = is_named rows i (codes "select") || is_named rows i (codes "textarea")

-- what a `fieldset` disables: buttons, inputs, selects, textareas, and `fieldset` elements
abbrev pub is_control : List Row → ℕ → Bool
is_control rows i =
    is_choice_or_area rows i || is_named rows i (codes "input") || is_named rows i (codes "button")
    || is_named rows i (codes "fieldset")

-- a radio button
abbrev pub is_radio_type : InputType → Bool
is_radio_type Radio = true
is_radio_type type = false

abbrev pub is_radio : List Row → ℕ → Bool
is_radio rows i = is_input_of is_radio_type rows i

abbrev pub is_submit_type : InputType → Bool
is_submit_type Submit = true
is_submit_type type = false

-- a button without a command, which its type need not name
abbrev pub is_automatic : List Row → ℕ → Bool
is_automatic rows i =
    not (has_attribute rows i (codes "command") || has_attribute rows i (codes "commandfor"))

-- Whether a button whose type is this text is a submit button. One with no type, or with a text that
-- names none, is one if it has no command.
abbrev pub is_submit_named : List Row → ℕ → List ℕ → Bool
is_submit_named rows i text =
    if str_eq_ignore_ascii_case text (codes "submit") then true
    else (if str_eq_ignore_ascii_case text (codes "reset") then false
    else (if str_eq_ignore_ascii_case text (codes "button") then false else is_automatic rows i))

-- a submit button
abbrev pub is_submit : List Row → ℕ → Bool
is_submit rows i =
    if is_named rows i (codes "button")
    then is_submit_named rows i (unwrap_or (attribute_at rows i (codes "type")) [])
    else is_input_of is_submit_type rows i

-- ---- names of custom elements

-- names with a hyphen that no custom element may have
abbrev pub reserved_names : List (List ℕ)
reserved_names =
    codes "annotation-xml" ∷ codes "color-profile" ∷ codes "font-face" ∷ codes "font-face-format"
    ∷ codes "font-face-name" ∷ codes "font-face-src" ∷ codes "font-face-uri"
    ∷ codes "missing-glyph" ∷ []

abbrev pub begins_with_letter : List ℕ → Bool
begins_with_letter [] = false
begins_with_letter (b ∷ name) = is_ascii_lowercase b

-- a name that a custom element may have: it begins with a letter and has a hyphen
abbrev pub is_custom_name : List ℕ → Bool
is_custom_name name =
    begins_with_letter name && list_any (λ b. b == hyphen) name
    && not (is_among reserved_names name)
