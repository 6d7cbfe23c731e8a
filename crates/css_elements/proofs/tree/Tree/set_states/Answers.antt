use Rattle.std.proofs.Common.{◌<◌, length, ap, ◌∙◌, arith, get_or, set}
use Rattle.css_elements.specs.Rows.{row_of, row_in, nobody}
use Rattle.css_elements.proofs.Growing.{knows_kept, rows_changed}
use Rattle.css_elements.proofs.Ranges.{ranges_set}
use Rattle.css_elements.proofs.tree.Tree.set_states.Goals as goal

pub invariant_of-self : goal.invariant_of-self
invariant_of-self c =
    let here = c.index_mut.ensures.value in (
      knows_kept c.self.inside.entries.items c.self.inside.last_root c.self.invariant.0 c.args.index _
          c.index_mut.result.now (ap (λ e. e.parent) here) (ap (λ e. e.last_child) here),
      ranges_set c.self.inside.entries.items (length c.self.inside.attributes.items) c.self.invariant.1
          c.args.index _ c.index_mut.result.now (ap (λ e. e.first) here) (ap (λ e. e.end) here),
    )

pub returns-clause-ok : goal.returns-clause-ok
returns-clause-ok c =
    let here = c.index_mut.ensures.value in
    let all = c.self.inside.attributes.items in
    let within : c.args.index < length c.self.inside.entries.items =
    omega (arith, c.if-index-len.false, c.len.ensures, c.self.inside.entries.ok.0) in
    rows_changed all c.self.inside.entries.items c.args.index _ c.index_mut.result.now
    (λ row. row_in row c.args.states) within (ap (λ e. row_in (row_of all e) c.args.states) here)
    ∙ ap (λ rows. set rows c.args.index (row_in (get_or rows c.args.index nobody) c.args.states))
    c.self.view_is
