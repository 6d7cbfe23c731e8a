use Rattle.std.proofs.Common.{◌<◌, ◌≤◌, ◌^◌, length}
use Rattle.css_syntax.proofs.closing.open_end.Given as goal

-- the brackets that are open are the digits of a number
abbrev pub invariant-tokens : goal.invariant-tokens
invariant-tokens l = (l.depth ≤ 64) × (l.waiting < 4 ^ l.depth)

abbrev pub decreases-tokens : goal.decreases-tokens
decreases-tokens l = length l.rest
