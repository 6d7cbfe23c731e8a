-- How many searches of its own a selector of a list makes.
use Rattle.std.specs.Prelude.{ℕ, Bool, true, false}
use Rattle.css_selector_text.specs.Components.{Parts}
use Rattle.css_selector_text.specs.Components.Parts.{end_of_selector, with_part}

-- there is no combinator
abbrev pub is_lone : Parts → Bool
is_lone end_of_selector = true
is_lone (with_part k c end_of_selector) = true
is_lone (with_part k c (with_part l e parts)) = false

abbrev pub searches_if : Bool → ℕ
searches_if true = 0
searches_if false = 1

-- a selector of a list makes a search of its own, unless it has no combinator
abbrev pub search_count : Parts → ℕ
search_count parts = searches_if (is_lone parts)
