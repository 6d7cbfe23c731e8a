use Rattle.std.proofs.Common.{◌≡◌, length, map}
use Rattle.std.specs.List.{list_all}
use Rattle.css_selector_text.specs.Views.{condition_of}
use Rattle.css_selectors.specs.internal.PlainParts.{is_plain_condition}
use Rattle.css_selectors.proofs.numbering.are_plain.Given as goal

-- those so far are plain
abbrev pub invariant-conditions : goal.invariant-conditions
invariant-conditions l =
    list_all is_plain_condition (map condition_of l.rest)
    ≡ list_all is_plain_condition (map condition_of l.conditions)

abbrev pub decreases-conditions : goal.decreases-conditions
decreases-conditions l = length l.rest
