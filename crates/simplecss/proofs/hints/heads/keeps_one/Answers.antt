use Rattle.std.proofs.Common.{◌≡◌, length, take, sym, ap, ◌∙◌, arith}
use Rattle.std.proofs.lemmas.List.Folds.{list_any_at}
use Rattle.std.proofs.Math.Seq.{take-length}
use Rattle.std.specs.List.{list_any}
use Rattle.simplecss.proofs.HintLemmas.{any-seen}
use Rattle.simplecss.proofs.hints.heads.keeps_one.Goals as goal

pub returns-then-part : goal.returns-then-part
returns-then-part c =
    let parts = c.args.parts.now in
    sym (list_any_at (λ part. part.is_kept) parts c.loop-part.part-index _ (omega arith) c.if-part.true)
    ∙ any-seen (λ part. part.is_kept) parts

pub returns : goal.returns
returns c =
    let parts = c.args.parts.now in
    let all : c.loop-part.part-index ≡ length parts = omega arith in
    sym c.loop-part.invariant
    ∙ ap (λ n. list_any (λ part. part.is_kept) (take n parts)) all
    ∙ ap (list_any (λ part. part.is_kept)) (take-length parts)
    ∙ any-seen (λ part. part.is_kept) parts
