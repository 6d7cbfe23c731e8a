use Rattle.std.proofs.Common.{◌∙◌, sym, arith}
use Rattle.css_syntax.proofs.PlainParts.{plain-then, gap-spaces, spaces-within}
use Rattle.css_syntax.proofs.plain.past_plain.Goals as goal

pub tokens-preserved : goal.tokens-preserved
tokens-preserved c =
    let bytes = c.args.bytes.now in
    let rest = c.in-Some.rest.now in
    let from = c.past_spaces-from.result.now in
    let calm = sym c.goes_on.ensures ∙ c.if-goes_on.false in
    record {
      goes = λ stops comma less.
          plain-then stops bytes c.tokens.end.now c.tokens.from.now rest
          (c.tokens.invariant.goes stops comma) c.tokens.invariant.start c.tokens.invariant.gap
          c.in-Some.ensures.no_gap (c.in-Some.ensures.goes stops comma calm);
      start = λ all. absurd (omega (
        arith,
        all,
        c.in-Some.ensures.less,
        c.tokens.invariant.after,
        c.tokens.invariant.within,
      ));
      gap = gap-spaces rest from c.past_spaces-from.ensures;
      after = spaces-within rest from c.past_spaces-from.ensures;
      within = omega (
        arith,
        c.in-Some.ensures.less,
        c.tokens.invariant.after,
        c.tokens.invariant.within,
      );
    }
