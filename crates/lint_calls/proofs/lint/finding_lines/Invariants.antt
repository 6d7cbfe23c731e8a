use Rattle.std.proofs.Common.{◌≡◌, ◌++◌, length, string_bytes}
use Rattle.std.specs.List.{flat_map}
use Rattle.lint_calls.specs.Linting.{finding_line}
use Rattle.lint_calls.proofs.lint.finding_lines.Given as goal

-- the lines so far, and those of the rest
abbrev pub invariant-findings : goal.invariant-findings
invariant-findings l = string_bytes l.out ++ flat_map finding_line l.left ≡ flat_map finding_line l.all

abbrev pub decreases-findings : goal.decreases-findings
decreases-findings l = length l.left
