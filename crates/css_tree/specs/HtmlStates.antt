-- The states of an element of an HTML document, as attributes decide them (HTML Standard,
-- "Pseudo-classes").
use Rattle.std.specs.Prelude.{ℕ, Bool, true, false, not, ◌||◌, ◌&&◌, ◌==◌, List, [], length, Option, None, Some, bytes_eq, codes, nat_lt, if◌then◌else◌}
use Rattle.std.specs.Option.{option_map_or, unwrap_or}
use Rattle.std.specs.Str.{str_eq_ignore_ascii_case}
use Rattle.css_elements.specs.Rows.{Row}
use Rattle.css_elements.specs.TreeNodes.{name_at, attribute_at}
use Rattle.css_tree.specs.Counts.{any_below}
use Rattle.css_tree.specs.HtmlElements.{is_named, has_attribute, input_type, may_be_checked, has_placeholders, may_be_read_only, may_be_required, is_emptied, is_input_of, is_choice_or_area, is_control, is_radio, is_submit, is_custom_name}
use Rattle.css_tree.specs.Surroundings.{surroundings}
use Rattle.css_tree.specs.declared.surroundings.Direction.{Direction}
use Rattle.css_tree.specs.declared.surroundings.Direction.TheVariants.{LeftToRight, RightToLeft}
use Rattle.css_tree.specs.declared.html_states.HtmlState.{HtmlState}
use Rattle.css_tree.specs.declared.html_states.HtmlState.TheVariants.{Checked, Disabled, Enabled, Required, Optional, ReadWrite, ReadOnly, PlaceholderShown, Default, Indeterminate, Open, Defined, InLeftToRight, InRightToLeft}

-- a checkbox or a radio button with the attribute `checked`, and an option with `selected`
abbrev pub is_checked : List Row → ℕ → Bool
is_checked rows i =
    (is_input_of may_be_checked rows i && has_attribute rows i (codes "checked"))
    || (is_named rows i (codes "option") && has_attribute rows i (codes "selected"))

-- A control with the attribute `disabled` or in a disabled `fieldset`, an `optgroup` with the attribute,
-- and an option that has it or whose `optgroup` does.
abbrev pub is_disabled : List Row → ℕ → Bool
is_disabled rows i =
    if is_named rows i (codes "optgroup") then has_attribute rows i (codes "disabled")
    else (if is_named rows i (codes "option")
    then has_attribute rows i (codes "disabled") || (surroundings rows i).is_grouped
    else is_control rows i
    && (has_attribute rows i (codes "disabled") || (surroundings rows i).is_barred))

-- the others of these elements are enabled
abbrev pub may_be_disabled : List Row → ℕ → Bool
may_be_disabled rows i =
    is_control rows i || is_named rows i (codes "optgroup") || is_named rows i (codes "option")

abbrev pub is_enabled : List Row → ℕ → Bool
is_enabled rows i = may_be_disabled rows i && not (is_disabled rows i)

-- an element to which the attribute `required` applies
abbrev pub has_requirement : List Row → ℕ → Bool
has_requirement rows i = is_choice_or_area rows i || is_input_of may_be_required rows i

abbrev pub is_required : List Row → ℕ → Bool
is_required rows i = has_requirement rows i && has_attribute rows i (codes "required")

abbrev pub is_optional : List Row → ℕ → Bool
is_optional rows i = has_requirement rows i && not (has_attribute rows i (codes "required"))

-- neither read-only nor disabled
abbrev pub is_mutable : List Row → ℕ → Bool
is_mutable rows i = not (has_attribute rows i (codes "readonly") || is_disabled rows i)

-- an input element to which `readonly` applies or a `textarea`, which is mutable, or any other element
-- that is edited
abbrev pub is_read_write : List Row → ℕ → Bool
is_read_write rows i =
    if is_named rows i (codes "input") then may_be_read_only (input_type rows i) && is_mutable rows i
    else (if is_named rows i (codes "textarea") then is_mutable rows i
    else (surroundings rows i).is_editable)

-- an input element without a value, whose placeholder is shown
abbrev pub is_input_with_placeholder : List Row → ℕ → Bool
is_input_with_placeholder rows i =
    is_input_of has_placeholders rows i && has_attribute rows i (codes "placeholder")
    && is_emptied (input_type rows i) (unwrap_or (attribute_at rows i (codes "value")) [])

-- a `textarea` whose placeholder is shown if it has no text
abbrev pub is_area_with_placeholder : List Row → ℕ → Bool
is_area_with_placeholder rows i =
    is_named rows i (codes "textarea") && has_attribute rows i (codes "placeholder")

-- the number of the form of an element: none if it names one by its attribute `form`
abbrev pub form_of : List Row → ℕ → ℕ
form_of rows i = if has_attribute rows i (codes "form") then 0 else (surroundings rows i).form

-- a submit button of the form with a number
abbrev pub is_submit_of : List Row → (form : ℕ) → ℕ → Bool
is_submit_of rows form i = is_submit rows i && form_of rows i == form

-- the first submit button of a form
abbrev pub is_default_button : List Row → ℕ → Bool
is_default_button rows i =
    is_submit rows i
    && (nat_lt 0 (form_of rows i) && not (any_below (is_submit_of rows (form_of rows i)) i))

abbrev pub is_default : List Row → ℕ → Bool
is_default rows i = is_checked rows i || is_default_button rows i

-- the name of a radio button, which with its form makes its group
abbrev pub group_name : List Row → ℕ → List ℕ
group_name rows i = unwrap_or (attribute_at rows i (codes "name")) []

-- a radio button that is checked, of this form and with this name
abbrev pub is_checked_in : List Row → (form : ℕ) → (name : List ℕ) → ℕ → Bool
is_checked_in rows form name i =
    (is_radio rows i && is_checked rows i)
    && (form == form_of rows i && bytes_eq name (group_name rows i))

-- whether a radio button of the group of one is checked: one without a name is a group of its own
abbrev pub is_group_checked : List Row → ℕ → Bool
is_group_checked rows i =
    if length (group_name rows i) == 0 then is_checked rows i
    else any_below (is_checked_in rows (form_of rows i) (group_name rows i)) (length rows)

-- a radio button of whose group none is checked, and a `progress` without a value
abbrev pub is_indeterminate : List Row → ℕ → Bool
is_indeterminate rows i =
    if is_named rows i (codes "progress") then not (has_attribute rows i (codes "value"))
    else is_radio rows i
    && not (is_group_checked rows i)

abbrev pub is_open : List Row → ℕ → Bool
is_open rows i =
    (is_named rows i (codes "details") || is_named rows i (codes "dialog"))
    && has_attribute rows i (codes "open")

-- no element that a script would define
abbrev pub is_defined : List Row → ℕ → Bool
is_defined rows i =
    not (has_attribute rows i (codes "is") || is_custom_name (name_at rows i))

abbrev pub is_left_to_right : Direction → Bool
is_left_to_right LeftToRight = true
is_left_to_right direction = false

abbrev pub is_right_to_left : Direction → Bool
is_right_to_left RightToLeft = true
is_right_to_left direction = false

-- whether an element, of which it is said whether it has a text, is in a state
abbrev pub is_in_html_state : List Row → (has_text : Bool) → ℕ → HtmlState → Bool
is_in_html_state rows has_text i Checked = is_checked rows i
is_in_html_state rows has_text i Disabled = is_disabled rows i
is_in_html_state rows has_text i Enabled = is_enabled rows i
is_in_html_state rows has_text i Required = is_required rows i
is_in_html_state rows has_text i Optional = is_optional rows i
is_in_html_state rows has_text i ReadWrite = is_read_write rows i
is_in_html_state rows has_text i ReadOnly = not (is_read_write rows i)
is_in_html_state rows has_text i PlaceholderShown =
    is_input_with_placeholder rows i || (is_area_with_placeholder rows i && not has_text)
is_in_html_state rows has_text i Default = is_default rows i
is_in_html_state rows has_text i Indeterminate = is_indeterminate rows i
is_in_html_state rows has_text i Open = is_open rows i
is_in_html_state rows has_text i Defined = is_defined rows i
is_in_html_state rows has_text i InLeftToRight = is_left_to_right (surroundings rows i).direction
is_in_html_state rows has_text i InRightToLeft = is_right_to_left (surroundings rows i).direction

-- the state of a name, whatever its case, if it is one of these
abbrev pub state_named : List ℕ → Option HtmlState
state_named name =
    if str_eq_ignore_ascii_case name (codes "checked") then Some Checked
    else (if str_eq_ignore_ascii_case name (codes "disabled") then Some Disabled
    else (if str_eq_ignore_ascii_case name (codes "enabled") then Some Enabled
    else (if str_eq_ignore_ascii_case name (codes "required") then Some Required
    else (if str_eq_ignore_ascii_case name (codes "optional") then Some Optional
    else (if str_eq_ignore_ascii_case name (codes "read-write") then Some ReadWrite
    else (if str_eq_ignore_ascii_case name (codes "read-only") then Some ReadOnly
    else (if str_eq_ignore_ascii_case name (codes "placeholder-shown") then Some PlaceholderShown
    else (if str_eq_ignore_ascii_case name (codes "default") then Some Default
    else (if str_eq_ignore_ascii_case name (codes "indeterminate") then Some Indeterminate
    else (if str_eq_ignore_ascii_case name (codes "open") then Some Open
    else (if str_eq_ignore_ascii_case name (codes "defined") then Some Defined
    else (if str_eq_ignore_ascii_case name (codes "dir(ltr)") then Some InLeftToRight
    else (if str_eq_ignore_ascii_case name (codes "dir(rtl)") then Some InRightToLeft
    else None)))))))))))))

-- whether an element is in the state of a name
abbrev pub is_in_state_named : List Row → (has_text : Bool) → ℕ → List ℕ → Bool
is_in_state_named rows has_text i name =
    option_map_or (is_in_html_state rows has_text i) (state_named name) false
