-- Which selectors a page answers that is marked with lists: each list that they ask has a number, and its elements are
-- known.
use Rattle.std.specs.Prelude.{◌≡◌, ◌⊎◌, ◌≤◌, ℕ, All, List, length}
use Rattle.css_selector_text.specs.Components.{Simple, Condition, Conditions, Parts, Selectors, Selector, parts_from}
use Rattle.css_selector_text.specs.Components.Simple.{nesting}
use Rattle.css_selector_text.specs.Components.Condition.{simple, negation, any_of, where_any, tested}
use Rattle.css_selector_text.specs.Components.Conditions.{end_of_compound, with_condition}
use Rattle.css_selector_text.specs.Components.Parts.{end_of_selector, with_part}
use Rattle.css_selector_text.specs.Components.Selectors.{end_of_list, with_selector}
use Rattle.css_selectors.specs.MarkedLists.{ListText}
use Rattle.css_selectors.specs.Numberings.{no_list}
use Rattle.css_tree.specs.Marks.{AreMarked}
use Rattle.css_tree.specs.Pages.{Page}

-- An `&` has the number of the scoping root, that of one of so many lists, or that of no list, which matches nothing.
abbrev pub SimpleIsAnswered : (lists : ℕ) → Simple → Type 0
SimpleIsAnswered lists (nesting list) = (list.number ≤ lists) ⊎ (list.number ≡ no_list)
SimpleIsAnswered lists s = Unit {0}

abbrev mutual
  -- A pseudo-class with a list is answered by the number of the list alone, which stands in its place.
  pub IsAnswered : (lists : ℕ) → Condition → Type 0
  IsAnswered lists (simple s) = SimpleIsAnswered lists s
  IsAnswered lists (negation selectors) = ListIsAnswered lists selectors
  IsAnswered lists (any_of selectors) = ListIsAnswered lists selectors
  IsAnswered lists (where_any selectors) = ListIsAnswered lists selectors
  IsAnswered lists (tested test selectors) = ⊥

  pub CompoundIsAnswered : (lists : ℕ) → Conditions → Type 0
  CompoundIsAnswered lists end_of_compound = Unit {0}
  CompoundIsAnswered lists (with_condition c conditions) = IsAnswered lists c × CompoundIsAnswered lists conditions

  pub PartsAreAnswered : (lists : ℕ) → Parts → Type 0
  PartsAreAnswered lists end_of_selector = Unit {0}
  PartsAreAnswered lists (with_part k c parts) = CompoundIsAnswered lists c × PartsAreAnswered lists parts

  pub ListIsAnswered : (lists : ℕ) → Selectors → Type 0
  ListIsAnswered lists end_of_list = Unit {0}
  ListIsAnswered lists (with_selector parts selectors) =
      PartsAreAnswered lists parts × ListIsAnswered lists selectors

-- a page that is marked with so many lists answers the selector
abbrev pub SelectorIsAnswered : (lists : ℕ) → Selector → Type 0
SelectorIsAnswered lists s = PartsAreAnswered lists (parts_from s.parts)

-- The page is marked with lists, and answers each of the selectors.
abbrev pub IsMarkedFor : List Selector → Page → Type 0
IsMarkedFor selectors page =
    ((lists : List ListText) × AreMarked lists page) × All (SelectorIsAnswered (length page.marks)) selectors
