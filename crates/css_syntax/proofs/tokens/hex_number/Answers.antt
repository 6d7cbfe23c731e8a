use Rattle.std.proofs.Common.{◌≡◌, ◌∙◌, ◌+◌, ◌-◌, ◌*◌, ◌<◌, ◌^◌, ap, sym, arith, subst, ℕ}
use Rattle.css_syntax.specs.Tokens.{hex_number}
use Rattle.css_syntax.proofs.Shorter.{hex-step, hex_digits, hex_fits}
use Rattle.css_syntax.proofs.tokens.hex_number.Goals as goal

pub overflow_mul-so_far : goal.overflow_mul-so_far
overflow_mul-so_far c =
    let few : 6 - c.digits.left < 6 =
    omega (arith, c.digits-test.true, c.digits.invariant.few) in
    omega (arith, hex_fits c.digits.so_far (6 - c.digits.left) few c.digits.invariant.small)

pub overflow_add-so_far : goal.overflow_add-so_far
overflow_add-so_far c =
    let few : 6 - c.digits.left < 6 =
    omega (arith, c.digits-test.true, c.digits.invariant.few) in
    omega (
      arith,
      hex_fits c.digits.so_far (6 - c.digits.left) few c.digits.invariant.small,
      c.hex_value.ensures.small,
    )

pub digits-preserved : goal.digits-preserved
digits-preserved c =
    let more : (6 - c.digits.left) + 1 ≡ 6 - (c.digits.left - 1) =
    omega (arith, c.digits-test.true, c.digits.invariant.few) in
    record {
      reads = ap (λ (d : ℕ). hex_number (c.digits.left - 1) (16 * c.digits.so_far + d)
          c.in-Some.after.now) c.hex_value.ensures.value
          ∙ sym (hex-step c.digits.left c.digits.so_far c.in-Some.byte c.digits.rest.now
          c.in-Some.after.now c.digits-test.true c.in-Some.ensures
          (sym c.is_hex_digit.ensures ∙ c.if-is_hex_digit.true))
          ∙ c.digits.invariant.reads;
      few = omega (arith, c.digits.invariant.few);
      small = subst (λ (k : ℕ). 16 * c.digits.so_far + c.hex_value.result < 16 ^ k) more
          (hex_digits c.digits.so_far c.hex_value.result (6 - c.digits.left)
          c.hex_value.ensures.small c.digits.invariant.small);
    }
