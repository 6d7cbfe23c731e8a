use Rattle.std.proofs.Common.{[], ap}
use Rattle.css_tree.specs.Marks.{with_marks}
use Rattle.page_calls.proofs.MarkCalls.{with-new-marks}
use Rattle.page_calls.proofs.marks.mark_lists.Goals as goal

pub returns-clause-answers : goal.returns-clause-answers
returns-clause-answers c =
    let marked = c.in_ok-mark.ensures in (
      with-new-marks c.args.page.now c.mark.new.self marked.rows marked.given
          marked.html,
      marked.marks,
    )

pub returns-clause-kept : goal.returns-clause-kept
returns-clause-kept c =
    let marked = c.mark.ensures in
    ap (λ page. with_marks page [])
    (with-new-marks c.args.page.now c.mark.new.self marked.rows marked.given marked.html)

pub returns-in_err-mark-clause-kept : goal.returns-in_err-mark-clause-kept
returns-in_err-mark-clause-kept c =
    let marked = c.mark.ensures in
    ap (λ page. with_marks page [])
    (with-new-marks c.args.page.now c.mark.new.self marked.rows marked.given marked.html)
