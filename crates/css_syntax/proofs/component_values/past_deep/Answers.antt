use Rattle.std.proofs.Common.{◌∙◌, ◌≡◌, ◌<◌, ℕ, suc, List, length, sym, ap, arith}
use Rattle.css_syntax.specs.declared.quality.Quality.{Quality}
use Rattle.css_syntax.specs.Tokens.{token}
use Rattle.css_syntax.specs.ComponentValues.{past_open}
use Rattle.css_syntax.proofs.OpenBlocks.{open-enough, open-none, open-end, open-opens, open-closes, open-token, token-less}
use Rattle.css_syntax.proofs.component_values.past_deep.Goals as goal

pub values-init : goal.values-init
values-init c = record {
  reads = λ n l.
      open-enough n (length c.args.bytes.now) 1 c.args.bytes.now l (omega arith);
  few = omega arith;
}

pub returns-in-None : goal.returns-in-None
returns-in-None c =
    let n = length c.values.rest.now in
    c.in-None.ensures ∙ sym (open-end n c.values.depth)
    ∙ ap (past_open n c.values.depth) (sym c.in-None.ensures)
    ∙ c.values.invariant.reads n (omega arith)

pub values-preserved-then-is_opener : goal.values-preserved-then-is_opener
values-preserved-then-is_opener c = record {
  reads = λ n l.
      sym (open-opens n c.values.depth c.in-Some.byte c.in-Some.after.now c.values-test.true
      (sym c.is_opener.ensures ∙ c.if-is_opener.true))
      ∙ ap (past_open (suc n) c.values.depth) (sym c.in-Some.ensures)
      ∙ c.values.invariant.reads (suc n) (omega (arith, l, ap length c.in-Some.ensures));
  few = omega (arith, c.values.invariant.few, ap length c.in-Some.ensures);
}

pub values-preserved-then-is_closer : goal.values-preserved-then-is_closer
values-preserved-then-is_closer c = record {
  reads = λ n l.
      sym (open-closes n c.values.depth c.in-Some.byte c.in-Some.after.now c.values-test.true
      (sym c.is_opener.ensures ∙ c.if-is_opener.false)
      (sym c.is_closer.ensures ∙ c.if-is_closer.true))
      ∙ ap (past_open (suc n) c.values.depth) (sym c.in-Some.ensures)
      ∙ c.values.invariant.reads (suc n) (omega (arith, l, ap length c.in-Some.ensures));
  few = omega (arith, c.values.invariant.few, ap length c.in-Some.ensures);
}

pub values-smaller : goal.values-smaller
values-smaller c =
    token-less c.in-Some.byte c.values.rest.now c.in-Some.after.now _ c.in-Some.ensures
    c.read_token.ensures

pub values-preserved : goal.values-preserved
values-preserved c =
    let depth = c.values.depth in
    let rest = c.values.rest.now in
    let left = c.read_token.result.rest.now in
    let less : length left < length rest =
    token-less c.in-Some.byte rest c.in-Some.after.now _ c.in-Some.ensures c.read_token.ensures in
    let m = length rest in
    record {
      reads = λ n l.
          open-enough n m depth left l (omega (arith, less))
          ∙ sym (ap (past_open (suc m) depth) c.in-Some.ensures
          ∙ open-token m depth c.in-Some.byte c.in-Some.after.now c.values-test.true
          (sym c.is_opener.ensures ∙ c.if-is_opener.false)
          (sym c.is_closer.ensures ∙ c.if-is_closer.false)
          ∙ ap (λ (t : List ℕ). past_open m depth (token t).1) (sym c.in-Some.ensures)
          ∙ ap (λ (x : Quality × List ℕ). past_open m depth x.1) c.read_token.ensures)
          ∙ c.values.invariant.reads (suc m) (omega arith);
      few = omega (arith, c.values.invariant.few, less);
    }

pub returns : goal.returns
returns c =
    let rest = c.values.rest.now in
    let none : c.values.depth ≡ 0 = omega (arith, c.values-test.false) in
    sym (open-none (length rest) rest)
    ∙ ap (λ (k : ℕ). past_open (length rest) k rest) (sym none)
    ∙ c.values.invariant.reads (length rest) (omega arith)
