use Rattle.std.proofs.Common.{ap, length, ◌∙◌, sym, arith, ◌-◌, ◌==◌, ◌%◌, ◌≡◌, ◌<◌, false}
use Rattle.css_syntax.specs.declared.quality.Quality.{Quality}
use Rattle.css_syntax.specs.internal.OpenBrackets.{closer_of}
use Rattle.css_syntax.proofs.OpenBlocks.{open-within, also, resume, resume-start, at-end, step-close, step-open, step-deep, step-token, token-less, digits, fewer, fits, other_byte}
use Rattle.css_syntax.proofs.component_values.read_block.Goals as goal

pub values-init : goal.values-init
values-init c = record {
  reads = resume-start c.args.kind 63 c.args.bytes.now c.requires;
  deep = omega arith;
  digits = c.requires;
}

pub returns-in-None : goal.returns-in-None
returns-in-None c =
    sym c.values.invariant.reads ∙ at-end c.values.depth c.values.waiting (64 - c.values.depth)
    c.values.rest.now c.values.quality c.values-test.true c.in-None.ensures
    ∙ ap (λ (quality : Quality). (quality, c.values.rest.now)) (sym c.first_flaw.ensures)

pub values-preserved-then-byte-closer_of : goal.values-preserved-then-byte-closer_of
values-preserved-then-byte-closer_of c = record {
  reads = step-close c.values.depth c.values.waiting c.in-Some.byte c.values.rest.now
      c.in-Some.after.now c.values.quality c.values-test.true c.values.invariant.deep
      c.in-Some.ensures (c.if-byte-closer_of.true ∙ c.closer_of.ensures)
      ∙ c.values.invariant.reads;
  deep = omega arith;
  digits = fewer c.values.waiting c.values.depth c.values-test.true c.values.invariant.digits;
}

pub values-preserved-then-depth-eq-DEEPEST : goal.values-preserved-then-depth-eq-DEEPEST
values-preserved-then-depth-eq-DEEPEST c =
    let other : (c.in-Some.byte == closer_of (c.values.waiting % 4)) ≡ false =
    other_byte _ _ (λ e. c.if-byte-closer_of.false (e ∙ sym c.closer_of.ensures)) in
    record {
      reads = ap (λ (quality : Quality). also quality
          (resume c.values.depth c.values.waiting
          (64 - c.values.depth) c.past_deep-rest.result.now))
          c.first_flaw-quality.ensures
          ∙ step-deep c.values.depth c.values.waiting c.in-Some.byte c.values.rest.now
          c.in-Some.after.now c.past_deep-rest.result.now c.values.quality c.if-depth-eq-DEEPEST.true
          c.in-Some.ensures other c.in-Some-opened_kind.ensures.some.0 c.past_deep-rest.ensures
          ∙ c.values.invariant.reads;
      deep = c.values.invariant.deep;
      digits = c.values.invariant.digits;
    }

pub overflow_mul-waiting : goal.overflow_mul-waiting
overflow_mul-waiting c =
    let below : c.values.depth < 64 =
    omega (arith, c.values.invariant.deep, c.if-depth-eq-DEEPEST.false) in
    omega (arith, fits c.values.waiting c.values.depth below c.values.invariant.digits)

pub overflow_add-waiting : goal.overflow_add-waiting
overflow_add-waiting c =
    let below : c.values.depth < 64 =
    omega (arith, c.values.invariant.deep, c.if-depth-eq-DEEPEST.false) in
    omega (
      arith,
      fits c.values.waiting c.values.depth below c.values.invariant.digits,
      c.in-Some-opened_kind.ensures.some.1,
    )

pub values-preserved-else-depth-eq-DEEPEST : goal.values-preserved-else-depth-eq-DEEPEST
values-preserved-else-depth-eq-DEEPEST c =
    let below : c.values.depth < 64 =
    omega (arith, c.values.invariant.deep, c.if-depth-eq-DEEPEST.false) in
    let other : (c.in-Some.byte == closer_of (c.values.waiting % 4)) ≡ false =
    other_byte _ _ (λ e. c.if-byte-closer_of.false (e ∙ sym c.closer_of.ensures)) in
    let kind = c.in-Some-opened_kind.ensures.some in
    record {
      reads = step-open c.values.depth c.values.waiting c.in-Some-opened_kind.inner c.in-Some.byte
          c.values.rest.now c.in-Some.after.now c.values.quality c.values-test.true below
          c.in-Some.ensures other kind.0 kind.1 kind.2
          ∙ c.values.invariant.reads;
      deep = omega arith;
      digits = digits c.values.waiting c.in-Some-opened_kind.inner c.values.depth kind.1
          c.values.invariant.digits;
    }

pub values-smaller-then-depth-eq-DEEPEST : goal.values-smaller-then-depth-eq-DEEPEST
values-smaller-then-depth-eq-DEEPEST c =
    let after = c.in-Some.after.now in
    omega (
      arith,
      ap length c.in-Some.ensures,
      ap length c.past_deep-rest.ensures,
      open-within (length after) 1 after,
    )

pub values-smaller : goal.values-smaller
values-smaller c =
    token-less c.in-Some.byte c.values.rest.now c.in-Some.after.now _ c.in-Some.ensures
    c.read_token-token.ensures

pub values-preserved : goal.values-preserved
values-preserved c =
    let other : (c.in-Some.byte == closer_of (c.values.waiting % 4)) ≡ false =
    other_byte _ _ (λ e. c.if-byte-closer_of.false (e ∙ sym c.closer_of.ensures)) in
    record {
      reads = ap (λ (quality : Quality). also quality
          (resume c.values.depth c.values.waiting
          (64 - c.values.depth) c.read_token-token.result.rest.now))
          c.first_flaw-quality-in_default.ensures
          ∙ step-token c.values.depth c.values.waiting (64 - c.values.depth) c.in-Some.byte
          c.values.rest.now c.in-Some.after.now c.values.quality
          (c.read_token-token.result.quality, c.read_token-token.result.rest.now)
          c.values-test.true c.in-Some.ensures other (c.opened_kind.ensures.none c.in_default.is)
          c.read_token-token.ensures
          ∙ c.values.invariant.reads;
      deep = c.values.invariant.deep;
      digits = c.values.invariant.digits;
    }
