use Rattle.std.proofs.Common.{◌≡◌, ◌++◌, length}
use denote.Shadow.{shadow}
use denote.Text.{Utf8}
use Rattle.simplecss_calls.specs.WinnerNumbers.{block_numbers}
use Rattle.simplecss_calls.proofs.winners.block_numbers.Given as goal

-- the numbers of the declarations so far, and of those that are left
abbrev pub invariant-items : goal.invariant-items
invariant-items l =
    shadow (Utf8 l.rest)
    × (l.found.items ++ block_numbers l.end l.rest ≡ block_numbers l.end l.block)

abbrev pub decreases-items : goal.decreases-items
decreases-items l = length l.rest
