use Rattle.std.proofs.Common.{refl, lit<}
use Rattle.css_text.specs.AsciiBytes.{tab}
use Rattle.cssq_tree.proofs.LineCuts.{offset_after}
use Rattle.cssq_tree.proofs.tree.entry.Entry.new.Goals as goal

pub invariant_of-result-clause-cut_after : goal.invariant_of-result-clause-cut_after
invariant_of-result-clause-cut_after c =
    offset_after c.args.fields.now tab _ refl c.utf8.fields (lit< tt)
