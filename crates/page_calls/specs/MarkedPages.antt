-- Pages on whose elements the lists are answered that selectors ask by numbers.
use Rattle.std.specs.Prelude.{◌≡◌, ◌⊎◌, ℕ, suc, ◌+◌, ◌*◌, ◌<◌, ◌≤◌, List, [], ◌∷◌, length, map, Option, None, Some}
use Rattle.css_selector_text.specs.Components.{Selectors}
use Rattle.css_selector_text.specs.Components.Selectors.{end_of_list, with_selector}
use Rattle.css_selectors.specs.MarkedLists.{ListText}
use Rattle.css_selectors.specs.MarkedLists.ListText.{matched, tested}
use Rattle.css_tree.specs.Html.{list_in}
use Rattle.css_tree.specs.Marks.{AreMarked, with_marks}
use Rattle.css_tree.specs.Pages.{Page}
use Rattle.page_calls.specs.declared.modern.document_kind.DocumentKind.{DocumentKind}
use Rattle.page_calls.specs.declared.modern.document_kind.DocumentKind.TheVariants.{AsWritten, Html}

abbrev pub selector_count : Selectors → ℕ
selector_count end_of_list = 0
selector_count (with_selector parts selectors) = suc (selector_count selectors)

-- how many selectors a list has
abbrev pub list_size : ListText → ℕ
list_size (matched selectors) = length selectors
list_size (tested test selectors) = selector_count selectors

-- how many tests answer lists on this number of elements: one for each list, and one for each of its selectors
abbrev pub tests_on : (elements : ℕ) → List ListText → ℕ
tests_on elements [] = 0
tests_on elements (list ∷ lists) = elements * suc (list_size list) + tests_on elements lists

-- a list as a document reads it
abbrev pub list_as : DocumentKind → ListText → ListText
list_as AsWritten list = list
list_as (Html mode) list = list_in mode list

-- The page is the one before, and each list, as a document reads it, has the number after its index and the
-- elements that are in it: the lists that are asked in it are before it.
abbrev pub IsMarkedPage : DocumentKind → List ListText → (before page : Page) → Type 0
IsMarkedPage kind lists before page =
    (page ≡ with_marks before page.marks) × AreMarked (map (list_as kind) lists) page

-- What is answered on a page with these lists; or there is no answer within a limit: already the lists
-- need more tests, or what is answered is longer.
abbrev pub AreOnMarked : (most : ℕ) → DocumentKind → List ListText → (before : Page)
    → (Page → Option (List ℕ) → Type 0) → Option (List ℕ) → Type 0
AreOnMarked most kind lists before Are (Some numbers) =
    (page : Page) × IsMarkedPage kind lists before page × Are page (Some numbers)
    × (tests_on (length before.rows) lists ≤ most)
AreOnMarked most kind lists before Are None =
    (most < tests_on (length before.rows) lists)
    ⊎ ((page : Page) × IsMarkedPage kind lists before page × Are page None)
