use Rattle.std.proofs.Common.{◌≡◌, ◌≤◌, ◌<◌, length, map, subst}
use Rattle.css_selectors.specs.MarkedLists.{list_of}
use Rattle.call_answers.specs.declared.answer.CallError.TheVariants.{AnswerTooLong}
use Rattle.page_calls.specs.MarkedPages.{IsMarkedPage, tests_on}
use Rattle.page_calls.proofs.MarkCalls.{after-tests, tests-failed}
use Rattle.page_calls.proofs.marks.mark.Goals as goal

pub returns-in_err-check_tests-clause-answers : goal.returns-in_err-check_tests-clause-answers
returns-in_err-check_tests-clause-answers c =
    let all = map list_of c.args.lists.now in
    let before = c.args.page.now in
    tests-failed (λ _. IsMarkedPage c.args.kind all before before
    × (tests_on (length before.rows) all ≤ c.args.most)) (c.args.most < tests_on (length before.rows) all)
    c.from_residual.result c.in_err-check_tests.field-0.0 c.from_residual.ensures.1
    (subst (λ count. (c.in_err-check_tests.field-0.0 ≡ AnswerTooLong)
    × (c.args.most < tests_on count all)) c.len.ensures c.in_err-check_tests.ensures)

pub returns-clause-answers : goal.returns-clause-answers
returns-clause-answers c =
    let all = map list_of c.args.lists.now in
    let before = c.args.page.now in
    let tests = tests_on (length before.rows) all in
    after-tests (λ _. IsMarkedPage c.args.kind all before c.mark_as.new.page) (tests ≤ c.args.most)
    (c.args.most < tests) c.mark_as.result
    (subst (λ count. tests_on count all ≤ c.args.most) c.len.ensures c.in_ok-check_tests.ensures)
    c.mark_as.ensures.answers
