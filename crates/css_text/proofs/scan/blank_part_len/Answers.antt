use Rattle.std.proofs.Common.{sym, ◌∙◌}
use Rattle.css_text.proofs.bytes.CutLemmas.{IsCharBoundary-after_space}
use Rattle.css_text.proofs.scan.blank_part_len.Goals as goal

pub returns-then-starts_with_space-clause-boundary :
    goal.returns-then-starts_with_space-clause-boundary
returns-then-starts_with_space-clause-boundary c =
    IsCharBoundary-after_space c.args.text.now c.utf8.text
    (sym c.if-starts_with_space.true ∙ c.starts_with_space.ensures)
