use Rattle.std.proofs.Common.{◌∙◌, sym, ap}
use Rattle.css_text.specs.Comments.{opens_comment}
use Rattle.css_text.proofs.bytes.CutLemmas.{IsCharBoundary-after_comment}
use Rattle.css_text.proofs.scan.opens_comment.Goals as goal

pub returns-clause-boundary : goal.returns-clause-boundary
returns-clause-boundary c opens =
    IsCharBoundary-after_comment c.args.text.now c.utf8.text
    (sym (c.starts_comment.ensures ∙ ap opens_comment c.as_bytes.ensures.value) ∙ opens)
