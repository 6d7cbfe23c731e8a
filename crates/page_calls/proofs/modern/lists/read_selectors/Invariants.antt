use Rattle.std.proofs.Common.{◌≡◌, map, take, Some}
use Rattle.css_sheet.specs.RuleSelectors.{selector_of}
use Rattle.page_calls.proofs.modern.lists.read_selectors.Given as goal

-- the selectors of the texts so far
abbrev pub invariant-loop-text : goal.invariant-loop-text
invariant-loop-text l =
    map selector_of (map (λ text. text.now) (take l.text-index l.texts))
    ≡ map Some l.selectors.items
