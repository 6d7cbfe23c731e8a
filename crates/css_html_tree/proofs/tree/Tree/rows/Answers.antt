use Rattle.std.proofs.Common.{◌++◌, ◌∷◌, [], List, sym, subst}
use Rattle.css_html_tree.specs.declared.page.Row.{Row}
use Rattle.css_html_tree.specs.Rows.{AreRows, IsBelow}
use Rattle.css_html_tree.specs.Rows.AreRows.{no_rows, one_more}
use Rattle.css_html_tree.proofs.tree.Tree.rows.Goals as goal

pub loop-row-init : goal.loop-row-init
loop-row-init c =
    subst (λ (xs : List Row). AreRows c.args.tags xs) (sym c.new-rows.ensures.items) no_rows

pub loop-row-preserved : goal.loop-row-preserved
loop-row-preserved c =
    subst (λ (xs : List Row). AreRows c.args.tags xs) (sym c.in_ok-push.ensures.items)
    (one_more c.loop-row.rows.items c.row_of-next.result c.loop-row.invariant
    (subst (λ (xs : List Row). IsBelow xs c.row_of-next.result) c.as_slice.ensures.value
    c.row_of-next.ensures.below)
    c.row_of-next.ensures.tagged)
