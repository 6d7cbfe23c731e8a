use Rattle.std.proofs.Common.{take, sym, ap, ◌∙◌}
use Rattle.std.specs.Int.Bits.{bit_or}
use Rattle.cssq_tree.specs.TreeText.{fields_of}
use Rattle.cssq_tree.proofs.Marking.{unmarked}
use Rattle.cssq_tree.proofs.tree.is_repeated.Goals as goal

pub returns-then-seen-mark : goal.returns-then-seen-mark
returns-then-seen-mark c =
    sym (unmarked (take c.args.count (fields_of c.args.all.now)) c.args.seen c.args.key.now
    c.requires (λ e. c.if-seen-mark.true (ap (bit_or c.args.seen) c.mark_of-mark.ensures ∙ e)))
