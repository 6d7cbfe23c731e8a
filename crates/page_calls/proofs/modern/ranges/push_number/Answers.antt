use Rattle.std.proofs.Common.{◌≡◌, ℕ, ◌+◌, ◌<◌, List, [], ◌∷◌, length, refl, rules, arith}
use Rattle.css_selector_text.specs.Components.{Selector}
use Rattle.css_matching.specs.ListTrees.{spot}
use Rattle.css_index.specs.Found.{AreMatches}
use Rattle.css_tree.specs.Pages.{Page, page_document}
use Rattle.page_calls.specs.Ranges.{IsNumberAt, is_matched, is_unmatched}
use Rattle.page_calls.proofs.modern.ranges.push_number.Goals as goal

-- of selectors that match at some indices, the number of an element
matched : (selectors : List Selector) (page : Page) (element : ℕ) (indices : List ℕ)
    → AreMatches page_document (spot page element) selectors indices → 0 < length indices
    → IsNumberAt selectors page element ((element + 1) ∷ [])
matched selectors page element [] are some = absurd (omega (arith, some))
matched selectors page element (index ∷ indices) are some =
    is_matched index ((are.exactly index).0 (0, omega arith, refl))

unmatched : (selectors : List Selector) (page : Page) (element : ℕ) (indices : List ℕ)
    → AreMatches page_document (spot page element) selectors indices → length indices ≡ 0
    → IsNumberAt selectors page element []
unmatched selectors page element indices are none =
    is_unmatched (λ index m. let within = ((are.exactly index).1 m).1 in omega (arith, none, within))

pub returns-in_ok-push-clause-written : goal.returns-in_ok-push-clause-written
returns-in_ok-push-clause-written c = (
  (c.args.element + 1) ∷ [],
  matched c.args.walk.now.walk.selectors c.args.walk.now.page c.args.element c.matching.new.indices.items
      c.in_ok-matching.ensures.matches (search rules),
  c.in_ok-push.ensures.items,
)

pub returns-else-not-is_empty-clause-written : goal.returns-else-not-is_empty-clause-written
returns-else-not-is_empty-clause-written c = (
  [],
  unmatched c.args.walk.now.walk.selectors c.args.walk.now.page c.args.element c.matching.new.indices.items
      c.in_ok-matching.ensures.matches (search rules),
  search rules,
)
