use Rattle.std.proofs.Common.{◌≡◌, ◌++◌, length, map}
use Rattle.std.specs.List.{flat_map}
use Rattle.css_styles.specs.StyleViews.{winner_of}
use Rattle.simplecss_calls.specs.WinnerNumbers.{winner_numbers, winners_numbers}
use Rattle.simplecss_calls.proofs.winners.push_winners.Given as goal

-- the numbers of the declarations so far, and of those that are left
abbrev pub invariant-winners : goal.invariant-winners
invariant-winners l =
    l.out.items ++ flat_map (winner_numbers l.rules) (map winner_of l.left)
    ≡ l.fn.out.items ++ winners_numbers l.rules (map winner_of l.winners)

abbrev pub decreases-winners : goal.decreases-winners
decreases-winners l = length l.left
