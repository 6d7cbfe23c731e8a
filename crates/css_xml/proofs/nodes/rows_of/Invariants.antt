use Rattle.css_html_tree.specs.Rows.{AreRows}
use Rattle.css_xml.proofs.nodes.rows_of.Given as goal

abbrev pub invariant-nodes : goal.invariant-nodes
invariant-nodes l = AreRows l.tags l.rows.items
