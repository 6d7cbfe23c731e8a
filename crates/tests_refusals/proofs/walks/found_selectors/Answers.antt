use Rattle.std.proofs.Common.{◌≡◌, List, [], ◌∷◌, ◌||◌, Bool, true, false, map, refl, sym, ◌∙◌}
use Rattle.std.specs.Prelude.{All}
use Rattle.std.specs.List.{list_any}
use Rattle.std.proofs.lemmas.List.Elements.{All-nil, All-cons}
use Rattle.css_selector_text.specs.Components.{Selector}
use Rattle.css_selectors.specs.PageNeeds.{needs_page}
use Rattle.css_tree.proofs.AnsweredLemmas.{unmarked-for}
use Rattle.tests_refusals.proofs.walks.found_selectors.Goals as goal

none-needs : (selectors : List Selector) → list_any needs_page selectors ≡ false
    → All (λ s. needs_page s ≡ false) selectors
none-needs [] h = All-nil (λ s. needs_page s ≡ false)
none-needs (s ∷ selectors) h = by (needs_page s) refl h (none-needs selectors)
  where
    by : (b : Bool) → needs_page s ≡ b → (b || list_any needs_page selectors) ≡ false
        → (list_any needs_page selectors ≡ false → All (λ t. needs_page t ≡ false) selectors)
        → All (λ t. needs_page t ≡ false) (s ∷ selectors)
    by true is f rest = absurd (cc)
    by false is f rest = All-cons (λ t. needs_page t ≡ false) s selectors is (rest f)

-- no selector needs marks
pub new-requires : goal.new-requires
new-requires c = λ lifetimes. (
  (refl, (refl, tt)),
  unmarked-for (map (λ s. s) c.args.selectors.now) c.args.page.now c.requires
      (none-needs (map (λ s. s) c.args.selectors.now) (sym c.some_needs_page.ensures ∙ c.if-some_needs_page.false)),
)
