use Rattle.std.proofs.Common.{sym, subst, arith}
use Rattle.std.specs.Str.{IsCharBoundary}
use Rattle.simplecss_grammar.proofs.cutting.RestBoundaries.{boundary_at_start, boundary-between}
use Rattle.simplecss_grammar.proofs.quoting.between.Goals as goal

pub returns-in-None : goal.returns-in-None
returns-in-None c text e f =
    absurd (c.in-None.ensures.cases (omega arith) (boundary_at_start c.args.from.now c.utf8.from)
    (subst (IsCharBoundary c.args.from.now) (sym c.saturating_sub.ensures)
    (boundary-between text c.args.from.now c.args.after.now e f c.utf8.from c.utf8.after)))
