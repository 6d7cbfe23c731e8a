use Rattle.std.proofs.Common.{◌≡◌, ◌∙◌, sym, ap, length, arith, List, ℕ}
use Rattle.css_text.specs.Reading.{each}
use Rattle.css_text.specs.Bytes.{past, starts_by}
use Rattle.css_text.specs.Characters.{is_space}
use Rattle.css_text.proofs.bytes.RunLemmas.{starts_by-past}
use Rattle.css_syntax.specs.Tokens.{past_comment, gap_part}
use Rattle.css_syntax.proofs.Shorter.{each-rests}
use Rattle.css_syntax.proofs.RunSteps.{run-gap, run-comment, comment-less, no_gap_part}
use Rattle.css_syntax.proofs.tokens.past_gap.Goals as goal

pub parts-init : goal.parts-init
parts-init c =
    let bytes = c.args.bytes.now in
    record {
      left = ap (λ (r : List ℕ). (each gap_part r).1) c.past_spaces-rest.ensures ∙ run-gap bytes;
      ran = ap (starts_by is_space) c.past_spaces-rest.ensures ∙ starts_by-past is_space bytes;
    }

pub parts-smaller : goal.parts-smaller
parts-smaller c =
    let rest = c.parts.rest.now in
    let next : c.past_spaces-rest-in-parts.result.now ≡ past is_space (past_comment rest) =
    c.past_spaces-rest-in-parts.ensures ∙ ap (past is_space) c.read_comment.ensures.rest in
    omega (
      arith,
      ap length next,
      comment-less rest (sym c.starts_comment.ensures ∙ c.parts-test.true),
    )

pub parts-preserved : goal.parts-preserved
parts-preserved c =
    let rest = c.parts.rest.now in
    let next : c.past_spaces-rest-in-parts.result.now ≡ past is_space (past_comment rest) =
    c.past_spaces-rest-in-parts.ensures ∙ ap (past is_space) c.read_comment.ensures.rest in
    record {
      left = ap (λ (r : List ℕ). (each gap_part r).1) next
          ∙ run-comment rest (sym c.starts_comment.ensures ∙ c.parts-test.true)
          c.parts.invariant.ran
          ∙ c.parts.invariant.left;
      ran = ap (starts_by is_space) next ∙ starts_by-past is_space (past_comment rest);
    }

pub returns : goal.returns
returns c =
    let rest = c.parts.rest.now in
    sym (each-rests gap_part rest (no_gap_part rest
    (sym c.starts_comment.ensures ∙ c.parts-test.false) c.parts.invariant.ran))
    ∙ c.parts.invariant.left
