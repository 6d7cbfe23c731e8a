use Rattle.std.proofs.Common.{string_bytes}
use Rattle.simplecss.specs.RuleViews.{rules_of}
use Rattle.cssq.specs.internal.PageRuns.{IsElementLine}
use Rattle.cssq.proofs.MatchLines.{LinesSoFar}
use Rattle.cssq.proofs.runs.bare_lines.Given as goal

-- the lines of the elements so far
abbrev pub invariant-loop-element : goal.invariant-loop-element
invariant-loop-element l =
    LinesSoFar (IsElementLine l.content (rules_of l.rules) l.page) l.element (string_bytes l.text)
