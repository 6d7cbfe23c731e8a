use Rattle.std.proofs.lemmas.Bool.Decides.{nat_tests}
use Rattle.std.proofs.Common.{arith, rules}
use Rattle.cssq_tree.specs.TreeText.{IsFaultOf}
use Rattle.cssq_tree.proofs.PageLines.{fault_found, passed_on, read_added, read_all}
use Rattle.cssq_tree.proofs.tree.Page.read.Goals as goal

pub returns-in_err-limit-clause-fault : goal.returns-in_err-limit-clause-fault
returns-in_err-limit-clause-fault c =
    passed_on c.from_residual.result c.in_err-limit.field-0.0
    (λ fault. IsFaultOf fault c.args.text.now) c.from_residual.ensures.1
    (fault_found c.loop-rest.invariant.1 c.cut_line.result.0.now c.cut_line.result.1.now
    c.cut_line.ensures.lines c.in_err-limit.field-0.0 c.in_err-limit.ensures.fault)

pub loop-rest-preserved : goal.loop-rest-preserved
loop-rest-preserved c = (
  search rules,
  read_added c.loop-rest.invariant.1 c.cut_line.result.0.now c.cut_line.result.1.now
      c.cut_line.ensures.lines c.in_ok-limit.ensures.ok c.cut_line.ensures.shorter,
)

pub returns-clause-ok : goal.returns-clause-ok
returns-clause-ok c = read_all c.loop-rest.invariant.1
    (let test = c.loop-rest-test.ensures in grind (arith, nat_tests, test))
