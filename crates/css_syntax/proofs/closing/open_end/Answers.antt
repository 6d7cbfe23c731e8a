use Rattle.std.proofs.Common.{arith, ◌<◌}
use Rattle.css_syntax.proofs.OpenBlocks.{token-less, fits}
use Rattle.css_syntax.proofs.closing.open_end.Goals as goal

pub overflow_mul-waiting : goal.overflow_mul-waiting
overflow_mul-waiting c =
    let below : c.tokens.depth < 64 =
    omega (arith, c.tokens.invariant.0, c.if-depth-eq-DEEPEST.false) in
    omega (arith, fits c.tokens.waiting c.tokens.depth below c.tokens.invariant.1)

pub overflow_add-waiting : goal.overflow_add-waiting
overflow_add-waiting c =
    let below : c.tokens.depth < 64 =
    omega (arith, c.tokens.invariant.0, c.if-depth-eq-DEEPEST.false) in
    omega (
      arith,
      fits c.tokens.waiting c.tokens.depth below c.tokens.invariant.1,
      c.in-Some-opened_kind.ensures.some.1,
    )

pub tokens-smaller : goal.tokens-smaller
tokens-smaller c =
    token-less c.in-Some.byte c.tokens.rest.now c.in-Some.after.now _ c.in-Some.ensures
    c.read_token-token.ensures
