-- Which declarations win on an element, said of the texts of sheets (CSS Cascading 5, section 6; Selectors 4; CSS
-- Nesting 1).
use Rattle.std.specs.Prelude.{◌≡◌, ◌↔◌, ◌⊎◌, ℕ, Bool, List, count_by, length, map, min, Some}
use Rattle.std.specs.List.{Contains, slice_get}
use Rattle.css_cascade.specs.Cascade.{Wins}
use Rattle.css_selector_text.specs.Components.{Selector}
use Rattle.css_sheet.specs.SheetOrder.{SheetRuleText, cascade_rules, nested_lists}
use Rattle.css_sheet.specs.Sheets.{SheetText}
use Rattle.css_styles.specs.Contenders.{Contender, OwnText, is_property, of_own, of_property, states}
use Rattle.css_styles.specs.Winners.{AreDistinct, WinnerText, as_winner, counting_each, settled}
use Rattle.css_tree.specs.PageMeanings.{Selects}
use Rattle.css_tree.specs.Pages.{Page}
use Rattle.page_calls.specs.Readings.{selector_as}
use Rattle.page_calls.specs.declared.modern.document_kind.DocumentKind.{DocumentKind}

-- The selector of a rule of the sheets, as the document reads it, matches the element at an index, where `&` is
-- `:is()` of the selectors of the rule around it. A group rule holds as `holds` says of its keyword and its prelude.
abbrev pub SelectsAs : (holds : List ℕ → List ℕ → Bool) → List SheetText → DocumentKind → Page → (index : ℕ)
    → Selector → Type 0
SelectsAs holds sheets kind page index s =
    Selects page (map (map (selector_as kind)) (nested_lists holds sheets)) (selector_as kind s) index

-- It is a declaration that applies to the element: one of a rule of the sheets whose selector matches it and that all
-- group rules around it let apply, which is of no pseudo-element; or one of the element's own.
abbrev pub Applies : (holds : List ℕ → List ℕ → Bool) → List SheetText → DocumentKind → Page → (index : ℕ) → OwnText
    → Contender → Type 0
Applies holds sheets kind page index own one =
    ((place : ℕ) × (rule : SheetRuleText) × (slice_get (cascade_rules holds sheets) place ≡ Some rule)
    × SelectsAs holds sheets kind page index rule.selector × Contains (states place rule) one)
    ⊎ Contains (of_own own) one

-- These are the declarations that win on the element. `applying` are those that apply to it, each at its own place.
-- Each winner counts, and no other of its property that counts beats it. For each property there is one if one counts,
-- and none if none does.
pub record AreTheWinners (holds : List ℕ → List ℕ → Bool) (sheets : List SheetText) (kind : DocumentKind)
    (page : Page) (index : ℕ) (own : OwnText) (found : List WinnerText) : Type 0 where
  pub applying : List Contender
  pub apply : (one : Contender) → Contains applying one ↔ Applies holds sheets kind page index own one
  pub distinct : AreDistinct applying
  pub best : (winner : WinnerText) → Contains found winner
      → (one : Contender) × (as_winner one ≡ winner)
      × Wins (λ (c : Contender). c.weight)
      (of_property one.declaration.name (counting_each (settled applying))) one
  pub one : (property : List ℕ)
      → count_by (λ (winner : WinnerText). is_property property winner.declaration.name) found
      ≡ min 1 (length (of_property property (counting_each (settled applying))))
