-- Lists that have a number, from 1 on, and which elements are in each.
use Rattle.std.specs.Prelude.{◌≡◌, ◌↔◌, ℕ, suc, ◌<◌, Bool, true, false, List, [], length, Option, slice_index_or, take, IsTrue}
use Rattle.std.specs.List.{Any}
use Rattle.css_selector_text.specs.Components.{ListTest, Progression, Selectors, Selector}
use Rattle.css_selector_text.specs.Components.ListTest.{has, nth_child, nth_last_child}
use Rattle.css_selectors.specs.MarkedLists.{ListText}
use Rattle.css_selectors.specs.MarkedLists.ListText.{matched, tested}
use Rattle.css_selectors.specs.Meanings.{MatchesAny, Matches}
use Rattle.css_matching.specs.ListTrees.{spot}
use Rattle.css_tree.specs.declared.nth_marks.End.{End}
use Rattle.css_tree.specs.declared.nth_marks.End.TheVariants.{First, Last}
use Rattle.css_tree.specs.HasSelectors.{HasAny}
use Rattle.css_tree.specs.NextSiblings.{next_sibling}
use Rattle.css_tree.specs.Pages.{Page, page_document, is_in_list}
use Rattle.css_tree.specs.SiblingCounts.{IsNumberedAmong}

-- one of the selectors matches the element at an index
abbrev pub MatchesOne : List Selector → Page → ℕ → Type 0
MatchesOne selectors page i = Any (λ s. Matches page_document s (spot page i)) selectors

-- the sibling next to an element, on the side from which siblings are numbered
abbrev pub sibling_toward : End → Page × ℕ → Option (Page × ℕ)
sibling_toward First n = page_document.previous_sibling n
sibling_toward Last n = next_sibling n

-- one of the complex selectors matches the element, and its number among the siblings that they match,
-- from the first or from the last on, is one of `An+B` (Selectors 4, sections 13.3.1 and 13.3.2)
abbrev pub IsNumberedMatch : End → Progression → Selectors → Page → ℕ → Type 0
IsNumberedMatch end p selectors page i =
    MatchesAny page_document selectors (spot page i)
    × IsNumberedAmong (sibling_toward end) (MatchesAny page_document selectors) p (spot page i)

-- A pseudo-class with the list holds of the element. What the list of `:has()` asks is answered on the page
-- inside `:has()`.
abbrev pub IsTested : ListTest → Selectors → (page inside : Page) → ℕ → Type 0
IsTested has selectors page inside i = HasAny inside selectors i
IsTested (nth_child p) selectors page inside i = IsNumberedMatch First p selectors page i
IsTested (nth_last_child p) selectors page inside i = IsNumberedMatch Last p selectors page i

-- the element is one of those for which the list has a number
abbrev pub IsMarkedBy : ListText → (page inside : Page) → ℕ → Type 0
IsMarkedBy (matched selectors) page inside i = MatchesOne selectors page i
IsMarkedBy (tested test selectors) page inside i = IsTested test selectors page inside i

-- the list is that of `:has()`
abbrev pub is_of_has : ListText → Bool
is_of_has (matched selectors) = false
is_of_has (tested has selectors) = true
is_of_has (tested (nth_child p) selectors) = false
is_of_has (tested (nth_last_child p) selectors) = false

-- The same inside `:has()`: there each `:has()` is false, also one that is reached through `&`, since it cannot
-- be nested (Selectors 4, section 4.5; CSS Nesting 1, section 3).
abbrev pub IsMarkedInside : ListText → (inside : Page) → ℕ → Type 0
IsMarkedInside list inside i = (is_of_has list ≡ false) × IsMarkedBy list inside inside i

-- the page with these marks
abbrev pub with_marks : Page → List (List Bool) → Page
with_marks page marks =
    record {
      rows = page.rows;
      given = page.given;
      marks = marks;
      is_html = page.is_html;
    }

-- Each list has the number after its index, and in the list of that number are exactly the elements of which
-- `Is` says so of the list, its index and the page, where those before it alone have numbers: a number in a
-- list is of one before it.
pub record AreAnswered (Is : ListText → ℕ → Page → ℕ → Type 0) (lists : List ListText) (page : Page) : Type 0 where
  pub all : length page.marks ≡ length lists
  pub each : (list i : ℕ) → list < length lists → i < length page.rows
      → IsTrue (is_in_list page i (suc list))
      ↔ Is (slice_index_or lists list (matched [])) list (with_marks page (take list page.marks)) i

-- Each list has the number after its index, and in the list of that number are exactly the elements that it
-- says. The same is so of other marks, `inside`, for what is asked inside `:has()`.
pub record AreMarked (lists : List ListText) (page : Page) : Type 0 where
  pub inside : List (List Bool)
  pub own : AreAnswered (λ list k p. IsMarkedBy list p (with_marks page (take k inside))) lists page
  pub within : AreAnswered (λ list k. IsMarkedInside list) lists (with_marks page inside)
