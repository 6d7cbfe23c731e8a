use Rattle.std.proofs.Common.{◌≡◌, string_bytes}
use Rattle.simplecss.specs.RuleViews.{rules_of}
use Rattle.cssq.specs.internal.PageRuns.{IsElementLine}
use Rattle.cssq_tree.specs.ParentsAndSiblings.{depths_of}
use Rattle.cssq.specs.internal.Walks.{IsWalkOf, place_before}
use Rattle.cssq.proofs.MatchLines.{LinesSoFar}
use Rattle.cssq.proofs.runs.page_lines.Given as goal

-- the lines of the elements so far, and a walk by the index
abbrev pub invariant-loop-element : goal.invariant-loop-element
invariant-loop-element l = record {
  lines : LinesSoFar (IsElementLine l.content (rules_of l.rules) l.page) l.element
      (string_bytes l.text);
  walk : IsWalkOf l.page l.walk;
  path : l.walk.path.selectors ≡ l.index;
  before : l.walk.place ≡ place_before (depths_of l.page) l.element;
}
