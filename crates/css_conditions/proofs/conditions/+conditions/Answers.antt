use Rattle.std.proofs.Common.{◌≡◌, ◌∙◌, ◌-◌, ap, sym, subst, arith, suc, ℕ, List, true, false}
use Rattle.std.specs.Prelude.{MatchResult}
use Rattle.css_text.specs.AsciiBytes.{open_parenthesis}
use Rattle.css_text.specs.Bytes.{starts, past_one}
use Rattle.css_syntax.specs.Tokens.{past_gap}
use Rattle.css_conditions.specs.declared.truth.Truth.{Truth}
use Rattle.css_conditions.specs.declared.truth.Outcome.{Outcome}
use Rattle.css_conditions.specs.Words.{begins_function}
use Rattle.css_conditions.specs.Conditions.{closed, inside_by, in_parens}
use Rattle.css_conditions.proofs.Steps.{parens_open, parens_function}
use Rattle.css_conditions.proofs.conditions.+conditions.Goals as goal

pub in_parens-returns-then-starts_with : goal.in_parens-returns-then-starts_with
in_parens-returns-then-starts_with g t c =
    let enclosed = g.A.Asked.enclosed c.args.asked.now in
    let function = g.A.Asked.function c.args.asked.now in
    let leaf = g.A.Asked.leaf c.args.asked.now in
    let bytes = c.args.bytes.now in
    let deep : c.args.depth ≡ suc (c.args.depth - 1) = omega (arith, c.if-depth-eq0.false) in
    let opens : starts open_parenthesis bytes ≡ true =
    sym c.starts_with.ensures ∙ c.if-starts_with.true in
    let next : c.past_gap.result.now ≡ past_gap (past_one bytes) =
    c.past_gap.ensures ∙ ap past_gap c.past_one.ensures in
    let read = inside_by (in_parens enclosed function leaf (c.args.depth - 1)) leaf in
    parens_open enclosed function leaf c.args.depth (c.args.depth - 1) bytes deep opens
    ∙ ap (λ (r : List ℕ). closed enclosed (read r)) (sym next)
    ∙ ap (λ (r : Outcome × List ℕ). closed enclosed r) c.in_ok-read.ensures
    ∙ ap (λ (e : Truth). closed e (c.in_ok-read.read.outcome, c.in_ok-read.read.rest.now))
    (sym c.enclosed.ensures)
    ∙ c.close.ensures

pub in_parens-returns-then-begins_function : goal.in_parens-returns-then-begins_function
in_parens-returns-then-begins_function g t c =
    let enclosed = g.A.Asked.enclosed c.args.asked.now in
    let function = g.A.Asked.function c.args.asked.now in
    let leaf = g.A.Asked.leaf c.args.asked.now in
    let bytes = c.args.bytes.now in
    let deep : c.args.depth ≡ suc (c.args.depth - 1) = omega (arith, c.if-depth-eq0.false) in
    let opens : starts open_parenthesis bytes ≡ false =
    sym c.starts_with.ensures ∙ c.if-starts_with.false in
    let named : begins_function bytes ≡ true =
    sym c.begins_function.ensures ∙ c.if-begins_function.true in
    subst (λ (r : Outcome × List ℕ). MatchResult c.read_function.result
    (λ read. r ≡ (read.outcome, read.rest.now))
    (λ _. g.A.Asked.may_fail c.args.asked.now ≡ true))
    (sym (parens_function enclosed function leaf c.args.depth (c.args.depth - 1) bytes deep opens named))
    c.read_function.ensures
