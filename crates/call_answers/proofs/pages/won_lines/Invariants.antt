use Rattle.std.proofs.Common.{◌≡◌, map, string_bytes}
use Rattle.simplecss.specs.RuleViews.{rules_of}
use Rattle.simplecss_tree.specs.Walks.{IsAlong}
use Rattle.call_answers.proofs.PageLines.{LinesWithin}
use Rattle.call_answers.specs.AnswerLines.{IsWonLine}
use Rattle.call_answers.proofs.pages.won_lines.Given as goal

-- the lines of the elements so far, which are short enough, by a walk along the tree
abbrev pub invariant-loop-element : goal.invariant-loop-element
invariant-loop-element l = record {
  lines : LinesWithin l.most (IsWonLine l.content (rules_of l.rules) l.tree) l.element
      (string_bytes l.text);
  along : IsAlong l.tree l.walk;
  selectors : l.walk.selectors ≡ map (λ rule. rule.selector) l.rules;
}
