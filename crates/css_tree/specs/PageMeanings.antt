-- What selectors mean on pages.
use Rattle.std.specs.Prelude.{ℕ, List}
use Rattle.css_matching.specs.ListTrees.{spot}
use Rattle.css_selector_text.specs.Components.{Selector}
use Rattle.css_tree.specs.Means.{SelectorMeans, denoted, outermost}
use Rattle.css_tree.specs.Means.Side.{outside}
use Rattle.css_tree.specs.NextSiblings.{next_sibling}
use Rattle.css_tree.specs.PageNodes.{IsOfPage}
use Rattle.css_tree.specs.Pages.{Page, page_document}

-- The selector that was read matches the element at an index of the page, where `&` is `:is()` of the list of the
-- rule around it, one of `nested`.
abbrev pub Selects : Page → (nested : List (List Selector)) → Selector → ℕ → Type 0
Selects page nested s i =
    SelectorMeans page_document next_sibling (IsOfPage page)
    (denoted page_document next_sibling (IsOfPage page) (outermost page_document) 0 nested) outside s (spot page i)
