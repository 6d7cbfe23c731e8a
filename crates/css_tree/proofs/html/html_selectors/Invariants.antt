use Rattle.std.proofs.Common.{◌≡◌, map, take}
use Rattle.css_tree.specs.Html.{html_selector}
use Rattle.css_tree.proofs.html.html_selectors.Given as goal

-- those so far
abbrev pub invariant-loop-selector : goal.invariant-loop-selector
invariant-loop-selector l =
    l.read.items ≡ map (html_selector l.mode) (take l.selector-index l.selectors)
