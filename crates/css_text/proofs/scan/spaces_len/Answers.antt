use Rattle.std.proofs.Common.{◌∙◌, ap, sym, subst, ℕ}
use Rattle.std.specs.List.{prefix_len}
use Rattle.std.specs.Str.{IsCharBoundary}
use Rattle.css_text.specs.Characters.{is_space}
use Rattle.css_text.proofs.bytes.CutLemmas.{IsCharBoundary-prefix_len, is_space-ascii}
use Rattle.css_text.proofs.scan.spaces_len.Goals as goal

pub returns-clause-boundary : goal.returns-clause-boundary
returns-clause-boundary c =
    let count = c.space_count.ensures ∙ ap (prefix_len is_space) c.as_bytes.ensures.value in
    subst (λ (n : ℕ). IsCharBoundary c.args.text.now n) (sym count)
    (IsCharBoundary-prefix_len is_space is_space-ascii c.args.text.now c.utf8.text)
