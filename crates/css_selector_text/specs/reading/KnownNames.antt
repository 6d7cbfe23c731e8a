-- The names of pseudo-classes and pseudo-elements: those that Chromium reads in the sheets of pages, but
-- for those that begin with `-internal-`, and those that the caller declares. What has any other name is
-- no selector (Selectors 4, section 3.9).
use Rattle.std.specs.Prelude.{ℕ, Bool, true, ◌||◌, List, [], ◌∷◌, ◌++◌, codes}
use Rattle.std.specs.List.{list_any}
use Rattle.std.specs.Str.{str_eq_ignore_ascii_case}
use Rattle.css_selector_text.specs.AttributeTests.{begins}
use Rattle.css_selector_text.specs.Names.{Names}

-- one of the names, but for the case of ASCII letters
abbrev pub is_one_of : List (List ℕ) → List ℕ → Bool
is_one_of names n = list_any (str_eq_ignore_ascii_case n) names

-- the pseudo-classes without an argument that are neither structural nor `:scope`
abbrev pub known_states : List (List ℕ)
known_states =
    codes "-webkit-any-link"
    ∷ codes "-webkit-autofill"
    ∷ codes "-webkit-drag"
    ∷ codes "-webkit-full-page-media"
    ∷ codes "-webkit-full-screen"
    ∷ codes "-webkit-full-screen-ancestor"
    ∷ codes "active"
    ∷ codes "active-view-transition"
    ∷ codes "any-link"
    ∷ codes "autofill"
    ∷ codes "checked"
    ∷ codes "corner-present"
    ∷ codes "current"
    ∷ codes "decrement"
    ∷ codes "default"
    ∷ codes "defined"
    ∷ codes "disabled"
    ∷ codes "double-button"
    ∷ codes "enabled"
    ∷ codes "end"
    ∷ codes "focus"
    ∷ codes "focus-visible"
    ∷ codes "focus-within"
    ∷ codes "fullscreen"
    ∷ codes "future"
    ∷ codes "granted"
    ∷ codes "horizontal"
    ∷ codes "host"
    ∷ codes "hover"
    ∷ codes "in-range"
    ∷ codes "increment"
    ∷ codes "indeterminate"
    ∷ codes "interest-source"
    ∷ codes "interest-target"
    ∷ codes "invalid"
    ∷ codes "link"
    ∷ codes "modal"
    ∷ codes "navigation-source"
    ∷ codes "no-button"
    ∷ codes "open"
    ∷ codes "optional"
    ∷ codes "out-of-range"
    ∷ codes "past"
    ∷ codes "picture-in-picture"
    ∷ codes "placeholder-shown"
    ∷ codes "popover-open"
    ∷ codes "read-only"
    ∷ codes "read-write"
    ∷ codes "required"
    ∷ codes "single-button"
    ∷ codes "start"
    ∷ codes "target"
    ∷ codes "target-after"
    ∷ codes "target-before"
    ∷ codes "target-current"
    ∷ codes "unbounded"
    ∷ codes "user-invalid"
    ∷ codes "user-valid"
    ∷ codes "valid"
    ∷ codes "vertical"
    ∷ codes "visited"
    ∷ codes "window-inactive"
    ∷ codes "xr-overlay" ∷ []

-- the functional pseudo-classes without a meaning here
abbrev pub known_functions : List (List ℕ)
known_functions =
    codes "-webkit-any"
    ∷ codes "active-view-transition-type"
    ∷ codes "dir"
    ∷ codes "host"
    ∷ codes "host-context"
    ∷ codes "state" ∷ []

-- the pseudo-elements without an argument
abbrev pub known_elements : List (List ℕ)
known_elements =
    codes "after"
    ∷ codes "backdrop"
    ∷ codes "before"
    ∷ codes "checkmark"
    ∷ codes "column"
    ∷ codes "cue"
    ∷ codes "details-content"
    ∷ codes "file-selector-button"
    ∷ codes "first-letter"
    ∷ codes "first-line"
    ∷ codes "grammar-error"
    ∷ codes "interest-button"
    ∷ codes "marker"
    ∷ codes "permission-icon"
    ∷ codes "picker-icon"
    ∷ codes "placeholder"
    ∷ codes "scroll-marker"
    ∷ codes "scroll-marker-group"
    ∷ codes "search-text"
    ∷ codes "select-listbox"
    ∷ codes "selection"
    ∷ codes "spelling-error"
    ∷ codes "target-text"
    ∷ codes "view-transition" ∷ []

-- the pseudo-elements with an argument
abbrev pub known_element_functions : List (List ℕ)
known_element_functions =
    codes "cue"
    ∷ codes "highlight"
    ∷ codes "part"
    ∷ codes "picker"
    ∷ codes "scroll-button"
    ∷ codes "slotted"
    ∷ codes "view-transition-group"
    ∷ codes "view-transition-group-children"
    ∷ codes "view-transition-image-pair"
    ∷ codes "view-transition-new"
    ∷ codes "view-transition-old" ∷ []

-- these and those that are declared
abbrev pub states : Names → List (List ℕ)
states names = known_states ++ names.states

abbrev pub functions : Names → List (List ℕ)
functions names = known_functions ++ names.functions

abbrev pub elements : Names → List (List ℕ)
elements names = known_elements ++ names.elements

abbrev pub element_functions : Names → List (List ℕ)
element_functions names = known_element_functions ++ names.element_functions

-- one of these pseudo-elements, or any that begins with `-webkit-` (Selectors 4, "unknown -webkit-
-- pseudo-elements")
abbrev pub is_element : Names → List ℕ → Bool
is_element names n = is_one_of (elements names) n || begins true (codes "-webkit-") n
