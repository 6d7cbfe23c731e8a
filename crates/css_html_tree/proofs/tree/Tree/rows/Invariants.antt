use Rattle.css_html_tree.specs.Rows.{AreRows}
use Rattle.css_html_tree.proofs.tree.Tree.rows.Given as goal

abbrev pub invariant-loop-row : goal.invariant-loop-row
invariant-loop-row l = AreRows l.tags l.rows.items
