use Rattle.std.proofs.Common.{◌≡◌, ◌++◌, length}
use denote.Shadow.{shadow}
use denote.Text.{Utf8}
use Rattle.call_answers.specs.ItemNumbers.{item_numbers}
use Rattle.call_answers.proofs.items.item_numbers.Given as goal

-- the numbers of the items so far, and of those that are left
abbrev pub invariant-items : goal.invariant-items
invariant-items l =
    shadow (Utf8 l.rest)
    × (l.out.items ++ item_numbers l.end l.in_block l.rest ≡ item_numbers l.end l.in_block l.text)

abbrev pub decreases-items : goal.decreases-items
decreases-items l = length l.rest
