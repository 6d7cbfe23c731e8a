use Rattle.std.proofs.Common.{◌≡◌, map, string_bytes}
use Rattle.simplecss_tree.specs.Walks.{IsAlong}
use Rattle.call_answers.proofs.PageLines.{LinesWithin}
use Rattle.call_answers.specs.AnswerLines.{IsLineOf}
use Rattle.call_answers.proofs.pages.lines.Given as goal

-- the lines of the elements so far, which are short enough, by a walk along the tree
abbrev pub invariant-loop-element : goal.invariant-loop-element
invariant-loop-element g l = record {
  lines : LinesWithin l.most (IsLineOf l.content (map g.T.HasSelector.selector_in l.rules) l.tree)
      l.element (string_bytes l.text);
  along : IsAlong l.tree l.walk;
  selectors : l.walk.selectors ≡ map g.T.HasSelector.selector_in l.rules;
}
