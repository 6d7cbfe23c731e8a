use Rattle.std.proofs.Common.{◌≡◌, length, map, string_bytes, ◌+◌, Some, None, ◌∙◌, arith}
use Rattle.cssq.proofs.MatchLines.{lines_more}
use Rattle.call_answers.specs.AnswerLines.{IsLineOf, AreLinesOf}
use Rattle.call_answers.proofs.PageLines.{lines_none, lines_done, longer_due, memory_due}
use Rattle.call_answers.proofs.pages.lines.Goals as goal

pub returns-in_err-walk : goal.returns-in_err-walk
returns-in_err-walk g c =
    let are = AreLinesOf c.args.most c.args.content
    (map g.T.HasSelector.selector_in c.args.rules.now) c.args.tree.now in
    memory_due (λ text. are (Some (string_bytes text))) (are None) c.from_residual.result
    c.from_residual.ensures.1

pub returns-in_err-push_line : goal.returns-in_err-push_line
returns-in_err-push_line g c =
    let are = AreLinesOf c.args.most c.args.content
    (map g.T.HasSelector.selector_in c.args.rules.now) c.args.tree.now in
    memory_due (λ text. are (Some (string_bytes text))) (are None)
    c.from_residual-in_err-push_line.result c.from_residual-in_err-push_line.ensures.1

pub loop-element-init : goal.loop-element-init
loop-element-init g c = record {
  lines = lines_none c.args.most _ (string_bytes c.new-text.result) c.new-text.ensures.bytes;
  along = c.in_ok-walk.ensures.along c.args.tree.now;
  selectors = c.in_ok-walk.ensures.selectors;
}

-- the lines up to this element are too long
pub returns-in_err-check_length : goal.returns-in_err-check_length
returns-in_err-check_length g c =
    let selectors = map g.T.HasSelector.selector_in c.args.rules.now in
    let are = AreLinesOf c.args.most c.args.content selectors c.args.tree.now in
    let added = c.in_ok-push_line.ensures.written in
    longer_due (λ text. are (Some (string_bytes text))) c.args.most
    (IsLineOf c.args.content selectors c.args.tree.now) (c.loop-element.element + 1)
    (length c.args.tree.now) (string_bytes c.push_line.new.out)
    (lines_more c.loop-element.invariant.lines.so_far added.0 (string_bytes c.push_line.new.out) added.1
    added.2) (omega arith) c.from_residual-in_err-check_length.result
    c.in_err-check_length.field-0.0 c.from_residual-in_err-check_length.ensures.1
    c.in_err-check_length.ensures

-- the line of one more element
pub loop-element-preserved : goal.loop-element-preserved
loop-element-preserved g c =
    let added = c.in_ok-push_line.ensures.written in
    record {
      lines = record {
        so_far = lines_more c.loop-element.invariant.lines.so_far added.0
            (string_bytes c.push_line.new.out) added.1 added.2;
        short = c.in_ok-check_length.ensures;
      };
      along = c.in_ok-push_line.ensures.along;
      selectors = c.in_ok-push_line.ensures.selectors ∙ c.loop-element.invariant.selectors;
    }

pub returns : goal.returns
returns g c =
    let all : c.loop-element.element ≡ length c.args.tree.now = omega arith in
    lines_done c.args.most (IsLineOf c.args.content
    (map g.T.HasSelector.selector_in c.args.rules.now) c.args.tree.now) c.loop-element.element
    (length c.args.tree.now) (string_bytes c.loop-element.text) c.loop-element.invariant.lines all
