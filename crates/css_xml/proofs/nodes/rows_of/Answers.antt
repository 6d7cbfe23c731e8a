use Rattle.std.proofs.Common.{◌++◌, ◌∷◌, [], List, sym, subst}
use Rattle.css_html_tree.specs.declared.page.Row.{Row}
use Rattle.css_html_tree.specs.Rows.{AreRows, IsBelow}
use Rattle.css_html_tree.specs.Rows.AreRows.{no_rows, one_more}
use Rattle.css_xml.proofs.nodes.rows_of.Goals as goal

pub nodes-init : goal.nodes-init
nodes-init c = subst (λ (xs : List Row). AreRows c.args.tags xs) (sym c.new-rows.ensures.items) no_rows

pub nodes-preserved : goal.nodes-preserved
nodes-preserved c =
    subst (λ (xs : List Row). AreRows c.args.tags xs) (sym c.in_ok-push.ensures.items)
    (one_more c.nodes.rows.items c.row_of-next.result c.nodes.invariant
    (subst (λ (xs : List Row). IsBelow xs c.row_of-next.result) c.as_slice.ensures.value
    c.row_of-next.ensures.below)
    c.row_of-next.ensures.tagged)
