use Rattle.std.proofs.Common.{◌≡◌, ◌∙◌, sym, ap, length, arith, List, ℕ}
use Rattle.css_text.specs.Reading.{each}
use Rattle.css_text.specs.Bytes.{past, past_one, starts_by}
use Rattle.css_text.proofs.bytes.RunLemmas.{starts_by-past}
use Rattle.css_syntax.specs.Tokens.{past_escape, is_name_byte, name_part}
use Rattle.css_syntax.proofs.Shorter.{each-rests}
use Rattle.css_syntax.proofs.RunSteps.{run-word, run-escape, escape-less, no_name_part}
use Rattle.css_syntax.proofs.tokens.past_word.Goals as goal

pub parts-init : goal.parts-init
parts-init c =
    let bytes = c.args.bytes.now in
    record {
      left = ap (λ (r : List ℕ). (each name_part r).1) c.past_name_bytes-rest.ensures
          ∙ run-word bytes;
      ran = ap (starts_by is_name_byte) c.past_name_bytes-rest.ensures
          ∙ starts_by-past is_name_byte bytes;
    }

pub parts-smaller : goal.parts-smaller
parts-smaller c =
    let rest = c.parts.rest.now in
    let next : c.past_name_bytes-rest-in-parts.result.now
    ≡ past is_name_byte (past_escape (past_one rest)) =
    c.past_name_bytes-rest-in-parts.ensures
    ∙ ap (past is_name_byte) (c.past_escape.ensures ∙ ap past_escape c.past_one.ensures) in
    omega (
      arith,
      ap length next,
      escape-less rest (sym c.begins_escape.ensures ∙ c.parts-test.true),
    )

pub parts-preserved : goal.parts-preserved
parts-preserved c =
    let rest = c.parts.rest.now in
    let next : c.past_name_bytes-rest-in-parts.result.now
    ≡ past is_name_byte (past_escape (past_one rest)) =
    c.past_name_bytes-rest-in-parts.ensures
    ∙ ap (past is_name_byte) (c.past_escape.ensures ∙ ap past_escape c.past_one.ensures) in
    record {
      left = ap (λ (r : List ℕ). (each name_part r).1) next
          ∙ run-escape rest (sym c.begins_escape.ensures ∙ c.parts-test.true) c.parts.invariant.ran
          ∙ c.parts.invariant.left;
      ran = ap (starts_by is_name_byte) next
          ∙ starts_by-past is_name_byte (past_escape (past_one rest));
    }

pub returns : goal.returns
returns c =
    let rest = c.parts.rest.now in
    sym (each-rests name_part rest (no_name_part rest
    (sym c.begins_escape.ensures ∙ c.parts-test.false) c.parts.invariant.ran))
    ∙ c.parts.invariant.left
