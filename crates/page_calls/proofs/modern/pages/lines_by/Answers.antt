use Rattle.std.proofs.Common.{◌≡◌, ◌+◌, ◌++◌, ℕ, List, length, string_bytes, Some, None, ap, ◌∙◌, subst, arith}
use Rattle.cssq.proofs.MatchLines.{lines_more}
use Rattle.page_calls.specs.ModernLines.{IsModernLine, AreModernLines}
use Rattle.call_answers.proofs.PageLines.{lines_done, longer_due, memory_due}
use Rattle.page_calls.proofs.modern.pages.lines_by.Goals as goal

pub push_line-requires-clause-fits : goal.push_line-requires-clause-fits
push_line-requires-clause-fits c =
    let same = ap length c.loop-element.invariant.selectors in
    omega (arith, same, c.requires)

pub returns-in_err-push_line : goal.returns-in_err-push_line
returns-in_err-push_line c =
    let are = AreModernLines c.args.most c.args.content c.args.walk.now.walk.selectors c.args.walk.now.page in
    memory_due (λ text. are (Some (string_bytes text))) (are None) c.from_residual.result
    c.from_residual.ensures.1

-- the lines up to this element are too long
pub returns-in_err-check_length : goal.returns-in_err-check_length
returns-in_err-check_length c =
    let page = c.args.walk.now.page in
    let selectors = c.args.walk.now.walk.selectors in
    let are = AreModernLines c.args.most c.args.content selectors page in
    let added = subst (λ p. (line : List ℕ)
    × IsModernLine c.args.content c.args.walk.now.walk.selectors p c.loop-element.element line
    × (string_bytes c.push_line.new.out ≡ string_bytes c.loop-element.text ++ line))
    c.loop-element.invariant.page
    (subst (λ ss. (line : List ℕ)
    × IsModernLine c.args.content ss c.loop-element.walk.page c.loop-element.element line
    × (string_bytes c.push_line.new.out ≡ string_bytes c.loop-element.text ++ line))
    c.loop-element.invariant.selectors c.in_ok-push_line.ensures.written) in
    longer_due (λ text. are (Some (string_bytes text))) c.args.most
    (IsModernLine c.args.content selectors page) (c.loop-element.element + 1)
    (length page.rows) (string_bytes c.push_line.new.out)
    (lines_more c.loop-element.invariant.lines.so_far added.0 (string_bytes c.push_line.new.out) added.1
    added.2) (omega arith) c.from_residual-in_err-check_length.result
    c.in_err-check_length.field-0.0 c.from_residual-in_err-check_length.ensures.1
    c.in_err-check_length.ensures

-- the line of one more element
pub loop-element-preserved : goal.loop-element-preserved
loop-element-preserved c =
    let added = subst (λ p. (line : List ℕ)
    × IsModernLine c.args.content c.args.walk.now.walk.selectors p c.loop-element.element line
    × (string_bytes c.push_line.new.out ≡ string_bytes c.loop-element.text ++ line))
    c.loop-element.invariant.page
    (subst (λ ss. (line : List ℕ)
    × IsModernLine c.args.content ss c.loop-element.walk.page c.loop-element.element line
    × (string_bytes c.push_line.new.out ≡ string_bytes c.loop-element.text ++ line))
    c.loop-element.invariant.selectors c.in_ok-push_line.ensures.written) in
    record {
      lines = record {
        so_far = lines_more c.loop-element.invariant.lines.so_far added.0
            (string_bytes c.push_line.new.out) added.1 added.2;
        short = c.in_ok-check_length.ensures;
      };
      page = c.in_ok-push_line.ensures.page ∙ c.loop-element.invariant.page;
      selectors = c.in_ok-push_line.ensures.selectors ∙ c.loop-element.invariant.selectors;
    }

pub returns : goal.returns
returns c =
    let page = c.args.walk.now.page in
    lines_done c.args.most (IsModernLine c.args.content c.args.walk.now.walk.selectors page)
    c.loop-element.element (length page.rows) (string_bytes c.loop-element.text)
    c.loop-element.invariant.lines (omega arith)
