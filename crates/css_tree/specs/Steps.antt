-- Marks of elements that are handed back, step by step, along a combinator.
use Rattle.std.specs.Prelude.{ℕ, ◌<◌, Bool, true, false, List, length, Option, slice_index_or}
use Rattle.css_matching.specs.declared.Combinator.{Combinator}
use Rattle.css_matching.specs.declared.Combinator.TheVariants.{Descendant, Child, Adjacent, Sibling}
use Rattle.css_matching.specs.ListTrees.{spot}
use Rattle.css_matching.specs.Placements.{Relates}
use Rattle.css_selector_text.specs.Components.{Parts}
use Rattle.css_selector_text.specs.Components.Parts.{end_of_selector, with_part}
use Rattle.css_selectors.specs.Documents.{shape}
use Rattle.css_selectors.specs.Meanings.{AreMet}
use Rattle.css_elements.specs.Rows.{Row}
use Rattle.css_tree.specs.Counts.{last_below}
use Rattle.css_tree.specs.Pages.{Page, page_document, parent_index, is_sibling}

-- the element to which one step leads back: the parent or the previous sibling
abbrev pub step : List Row → Combinator → ℕ → Option ℕ
step rows Descendant i = parent_index rows i
step rows Child i = parent_index rows i
step rows Adjacent i = last_below (is_sibling rows i) i
step rows Sibling i = last_below (is_sibling rows i) i

-- whether more steps than one relate elements, too
abbrev pub is_repeated : Combinator → Bool
is_repeated Descendant = true
is_repeated Child = false
is_repeated Adjacent = false
is_repeated Sibling = true

-- whether an element is marked
abbrev pub is_set : List Bool → ℕ → Bool
is_set marks i = slice_index_or marks i false

-- the combinator relates the element to one of the page of which something holds
abbrev pub Precedes : Page → Combinator → (ℕ → Type 0) → ℕ → Type 0
Precedes page c Is i =
    (j : ℕ) × (j < length page.rows)
    × Relates (shape page_document) c (spot page i) (spot page j) × Is j

-- after the element there are elements of the page for all parts, each related to the one before it
abbrev pub Leads : Page → Parts → ℕ → Type 0
Leads page end_of_selector i = Unit {0}
Leads page (with_part c conditions parts) i =
    Precedes page c (λ j. AreMet page_document conditions (spot page j) × Leads page parts j) i
