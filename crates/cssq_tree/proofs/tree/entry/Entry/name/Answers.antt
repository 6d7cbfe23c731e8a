use Rattle.std.proofs.Common.{◌∙◌}
use Rattle.cssq_tree.proofs.LineCuts.{name_front}
use Rattle.cssq_tree.proofs.tree.entry.Entry.name.Goals as goal

pub returns : goal.returns
returns c = c.range.ensures.value
    ∙ name_front c.args.self.now.fields.now c.name_len.result c.name_len.ensures.len
