-- The lists of nested rules, spelled out: in place of each `&` is `:is()` of the list for which it
-- stands, from the outermost rule inwards.
use Rattle.std.specs.Prelude.{ℕ, zero, suc, List, [], ◌∷◌, ◌++◌, map, slice_index_or}
use Rattle.css_selector_text.specs.declared.components.Nesting.{Nesting}
use Rattle.css_selector_text.specs.Components.{Condition, Selectors, Selector, selectors_from}
use Rattle.css_selector_text.specs.Components.Simple.{nesting}
use Rattle.css_selector_text.specs.Components.Condition.{simple, any_of}
use Rattle.css_selector_text.specs.Components.Selectors.{end_of_list}
use Rattle.css_selectors.specs.SpelledOut.{spelled_by}

-- An `&` by its number: `:is()` of the list of that number, of which the first is 1. An `&` of
-- number 0 is the scoping root, and stays.
abbrev pub numbered : List Selectors → Nesting → ℕ → Condition
numbered lists list zero = simple (nesting list)
numbered lists list (suc k) = any_of (slice_index_or lists k end_of_list)

abbrev pub ampersand_of : List Selectors → Nesting → Condition
ampersand_of lists list = numbered lists list list.number

-- a list whose `&` stand for these lists
abbrev pub spelled_under : List Selectors → List Selector → Selectors
spelled_under lists selectors =
    selectors_from (map (λ s. (spelled_by (ampersand_of lists) s).parts) selectors)

-- these lists, which are spelled out, and then the others, each by those before it
abbrev pub spelled_after : List Selectors → List (List Selector) → List Selectors
spelled_after lists [] = lists
spelled_after lists (selectors ∷ others) =
    spelled_after (lists ++ spelled_under lists selectors ∷ []) others

-- the selector with `:is()` of its list in place of each `&`, and the same in that list
abbrev pub spelled_out : List (List Selector) → Selector → Selector
spelled_out lists s = spelled_by (ampersand_of (spelled_after [] lists)) s
