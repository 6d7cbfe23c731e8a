-- What is kept of the elements of an HTML document.
use Rattle.std.specs.Prelude.{◌≡◌, ◌≤◌, ◌<◌, ◌+◌, ℕ, Bool, false, not, ◌||◌, ◌&&◌, List, length, Some, is_some, slice_index_or}
use Rattle.std.specs.Option.{option_map_or}
use Rattle.std.specs.Borrow.{Bor}
use Rattle.std.specs.BTreeMap.{BTreeMap, get}
use Rattle.std.specs.Cmp.Lexicographic.{slice_cmp}
use Rattle.std.specs.List.{slice_get}
use Rattle.std.specs.Ordering.{nat_cmp, ordering_then}
use Rattle.std.specs.declared.cmp.Ordering.{Ordering}
use Rattle.css_elements.specs.Rows.{Row}
use Rattle.css_tree.specs.Counts.{any_below}
use Rattle.css_tree.specs.HtmlStates.{is_checked, is_disabled, is_enabled, is_required, is_optional, is_read_write, is_input_with_placeholder, is_area_with_placeholder, is_default, is_indeterminate, is_open, is_defined, is_checked_in, is_submit_of, is_left_to_right, is_right_to_left, state_named}
use Rattle.css_tree.specs.Surroundings.{surroundings}
use Rattle.css_tree.specs.declared.html_states.HtmlState.{HtmlState}
use Rattle.css_tree.specs.declared.html_states.HtmlState.TheVariants.{Checked, Disabled, Enabled, Required, Optional, ReadWrite, ReadOnly, PlaceholderShown, Default, Indeterminate, Open, Defined, InLeftToRight, InRightToLeft}
use Rattle.css_tree.specs.declared.html_states.HtmlStates.{HtmlStates}
use Rattle.css_tree.specs.declared.surroundings.Surroundings.{Surroundings}

-- the states of an element
abbrev pub html_states : List Row → ℕ → HtmlStates
html_states rows i = record {
  is_checked = is_checked rows i;
  is_disabled = is_disabled rows i;
  is_enabled = is_enabled rows i;
  is_required = is_required rows i;
  is_optional = is_optional rows i;
  is_read_write = is_read_write rows i;
  shows_placeholder = is_input_with_placeholder rows i;
  shows_placeholder_without_text = is_area_with_placeholder rows i;
  is_default = is_default rows i;
  is_indeterminate = is_indeterminate rows i;
  is_open = is_open rows i;
  is_defined = is_defined rows i;
  direction = (surroundings rows i).direction;
}

-- whether an element in these states, with a text or without one, is in a state
abbrev pub is_in : HtmlStates → (has_text : Bool) → HtmlState → Bool
is_in states has_text Checked = states.is_checked
is_in states has_text Disabled = states.is_disabled
is_in states has_text Enabled = states.is_enabled
is_in states has_text Required = states.is_required
is_in states has_text Optional = states.is_optional
is_in states has_text ReadWrite = states.is_read_write
is_in states has_text ReadOnly = not states.is_read_write
is_in states has_text PlaceholderShown =
    states.shows_placeholder || (states.shows_placeholder_without_text && not has_text)
is_in states has_text Default = states.is_default
is_in states has_text Indeterminate = states.is_indeterminate
is_in states has_text Open = states.is_open
is_in states has_text Defined = states.is_defined
is_in states has_text InLeftToRight = is_left_to_right states.direction
is_in states has_text InRightToLeft = is_right_to_left states.direction

-- whether such an element is in the state of a name
abbrev pub is_in_named : HtmlStates → (has_text : Bool) → List ℕ → Bool
is_in_named states has_text name = option_map_or (is_in states has_text) (state_named name) false

-- the states of the elements below an index
pub record AreStates (rows : List Row) (states : List HtmlStates) (n : ℕ) : Type 0 where
  pub all : length states ≡ n
  pub each : (i : ℕ) → i < n → slice_get states i ≡ Some (html_states rows i)

-- what ancestors decide for the elements below an index
pub record AreAround (rows : List Row) (around : List Surroundings) (n : ℕ) : Type 0 where
  pub all : length around ≡ n
  pub each : (i : ℕ) → i < n → slice_get around i ≡ Some (surroundings rows i)

-- the order of numbers of forms with names
abbrev pub group_cmp : ℕ × Bor (List ℕ) → ℕ × Bor (List ℕ) → Ordering
group_cmp a b = ordering_then (nat_cmp a.0 b.0) (slice_cmp nat_cmp a.1.now b.1.now)

-- the forms and the names of the radio buttons below an index that are checked
abbrev pub AreChecked : List Row → BTreeMap (ℕ × Bor (List ℕ)) ℕ → ℕ → Type 0
AreChecked rows groups n =
    (key : ℕ × Bor (List ℕ)) → is_some (get group_cmp groups key)
    ≡ any_below (is_checked_in rows key.0 key.1.now) n

-- which forms, by their numbers, have a submit button below an index
pub record HaveSubmits (rows : List Row) (have : List Bool) (n : ℕ) : Type 0 where
  pub all : length have ≡ length rows + 1
  pub each : (form : ℕ) → form ≤ length rows
      → slice_index_or have form false ≡ any_below (is_submit_of rows form) n
