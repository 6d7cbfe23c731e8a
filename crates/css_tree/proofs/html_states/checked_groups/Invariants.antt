use Rattle.css_tree.specs.HtmlViews.{AreChecked}
use Rattle.css_tree.proofs.html_states.checked_groups.Given as goal

-- the groups of the elements so far
abbrev pub invariant-loop-index : goal.invariant-loop-index
invariant-loop-index l = AreChecked l.page.rows l.groups l.index
