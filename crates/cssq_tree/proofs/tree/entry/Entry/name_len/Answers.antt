use Rattle.std.proofs.Common.{◌<◌, ◌+◌, length, sym, subst, lit<}
use Rattle.std.specs.Str.{IsCharBoundary}
use Rattle.css_text.specs.AsciiBytes.{tab}
use Rattle.cssq_tree.proofs.LineCuts.{offset_boundary}
use Rattle.cssq_tree.proofs.tree.entry.Entry.name_len.Goals as goal

pub returns-then-self-lt-FAR-clause-boundary : goal.returns-then-self-lt-FAR-clause-boundary
returns-then-self-lt-FAR-clause-boundary c = offset_boundary c.args.self.now.fields.now tab
    c.args.self.now.name_len (c.args.self.now.name_kept c.if-self-lt-FAR.true) (lit< tt)

pub returns-then-self-lt-FAR-clause-after : goal.returns-then-self-lt-FAR-clause-after
returns-then-self-lt-FAR-clause-after c =
    let text = c.args.self.now.fields.now in
    subst (λ n. n < length text → IsCharBoundary text (n + 1))
    (sym (c.args.self.now.name_kept c.if-self-lt-FAR.true)) c.args.self.now.cut_after
