use Rattle.std.proofs.Common.{◌≡◌, ◌++◌, ◌-◌, ◌≤◌, replicate}
use Rattle.lint_calls.proofs.taken.push_spaces.Given as goal

-- so many spaces are written
abbrev pub invariant-spaces : goal.invariant-spaces
invariant-spaces l = record {
  few : l.done ≤ l.count;
  written : l.out.items ≡ l.fn.out.items ++ replicate l.done 32;
}

abbrev pub decreases-spaces : goal.decreases-spaces
decreases-spaces l = l.count - l.done
