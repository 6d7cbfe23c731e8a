use Rattle.std.proofs.Common.{◌≡◌, ◌≤◌, ◌+◌, length}
use Rattle.css_values.specs.Refused.{components, found_in}
use Rattle.css_values.specs.RefusedViews.{found_of}
use Rattle.css_values.specs.internal.Joined.{joined}
use Rattle.css_values.proofs.refused.found_in.Given as goal

-- what was found and what is left are the value's, which has as many bytes as components at least
abbrev pub invariant-tokens : goal.invariant-tokens
invariant-tokens l = record {
  so_far : joined (found_of l.found) (found_in (components l.rest)) ≡ found_in (components l.value);
  few : l.found.count + length l.rest ≤ length l.value;
}

abbrev pub decreases-tokens : goal.decreases-tokens
decreases-tokens l = length l.rest
