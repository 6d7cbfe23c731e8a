use Rattle.cssq_tree.proofs.LineCuts.{offset_within, offset_boundary, offset_after}
use Rattle.cssq_tree.proofs.tree.len_before.Goals as goal

pub returns-clause-within : goal.returns-clause-within
returns-clause-within c = offset_within c.args.text.now c.args.byte c.count_before.result
    c.count_before.ensures

pub returns-clause-boundary : goal.returns-clause-boundary
returns-clause-boundary c = offset_boundary c.args.text.now c.args.byte c.count_before.result
    c.count_before.ensures
    c.requires

pub returns-clause-after : goal.returns-clause-after
returns-clause-after c = offset_after c.args.text.now c.args.byte c.count_before.result
    c.count_before.ensures
    c.utf8.text c.requires
