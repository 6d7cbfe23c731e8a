use Rattle.std.proofs.Common.{◌≡◌, ◌++◌, length}
use Rattle.std.specs.List.{flat_map}
use Rattle.simplecss_calls.specs.WinnerNumbers.{counted_numbers}
use Rattle.simplecss_calls.proofs.winners.push_counted.Given as goal

-- the numbers of the declarations so far, and of those that are left
abbrev pub invariant-all : goal.invariant-all
invariant-all l =
    l.out.items ++ flat_map (λ numbers. numbers) l.left
    ≡ l.fn.out.items ++ counted_numbers l.all

abbrev pub decreases-all : goal.decreases-all
decreases-all l = length l.left
