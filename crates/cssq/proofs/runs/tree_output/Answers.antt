use Rattle.std.proofs.Common.{◌≡◌, ℕ, List, Ok, Err, IfOk, IfErr, Result, string_bytes, sym, subst}
use Rattle.simplecss.specs.RuleViews.{rules_of}
use Rattle.simplecss.specs.Statements.{StyleRule}
use Rattle.cssq_tree.specs.declared.tree.TreeFault.{TreeFault}
use Rattle.cssq_tree.specs.TreeText.{Row, tree_of}
use Rattle.cssq.specs.declared.runs.LineContent.{LineContent}
use Rattle.cssq.specs.declared.runs.LineContent.TheVariants.{Rules, Winner}
use Rattle.cssq.specs.declared.runs.RunFault.{RunFault}
use Rattle.cssq.specs.declared.runs.RunFault.TheVariants.{Tree, Memory}
use Rattle.cssq.specs.Faults.{run_fault}
use Rattle.cssq.specs.Writing.{FailsBeforeWriting}
use Rattle.cssq.specs.internal.PageRuns.{AreElementLines, IsPageOutput}
use Rattle.cssq.proofs.Written.{failed_with, tree_due}
use Rattle.cssq.proofs.runs.tree_output.Goals as goal

-- the lines are due
lines_due : {V F : Type 0} (content : LineContent) (rules : List StyleRule) (tree : List ℕ)
    (rows : List Row) (r : Result V F) (bytes : V → List ℕ) → tree_of tree ≡ Ok rows
    → IfOk r (λ lines. AreElementLines content rules rows (bytes lines))
    → IfOk r (λ lines. IsPageOutput content rules tree (Ok (bytes lines)))
lines_due content rules tree rows (Err fault) bytes is reported = tt
lines_due Rules rules tree rows (Ok lines) bytes is reported = (rows, is, reported)
lines_due (Winner name) rules tree rows (Ok lines) bytes is reported = (rows, is, reported)

-- the tree's fault is due
fault_due : (content : LineContent) (rules : List StyleRule) (tree : List ℕ) (fault : TreeFault)
    → tree_of tree ≡ Err fault → IsPageOutput content rules tree (Err (Tree fault))
fault_due Rules rules tree fault is = is
fault_due (Winner name) rules tree fault is = is

-- a refused allocation comes before the first write
memory_fails : {V : Type 0} (IsDue : Result (List ℕ) RunFault → Type 0) (r : Result V RunFault)
    → IfErr r (λ fault. fault ≡ Memory) → IfErr r (FailsBeforeWriting IsDue)
memory_fails IsDue (Ok x) is = tt
memory_fails IsDue (Err fault) is = subst (FailsBeforeWriting IsDue) (sym is) tt

pub returns-in_err-page-clause-fault : goal.returns-in_err-page-clause-fault
returns-in_err-page-clause-fault c =
    let IsDue = IsPageOutput c.args.content (rules_of c.args.rules.now) c.args.tree.now in
    failed_with (FailsBeforeWriting IsDue)
    c.from_residual.result (run_fault c.in_err-page.field-0.0) c.from_residual.ensures.1
    (tree_due IsDue c.args.tree.now c.in_err-page.field-0.0
    (fault_due c.args.content (rules_of c.args.rules.now) c.args.tree.now)
    c.in_err-page.ensures.fault)

pub returns-in_err-index-clause-fault : goal.returns-in_err-index-clause-fault
returns-in_err-index-clause-fault c =
    failed_with (FailsBeforeWriting
    (IsPageOutput c.args.content (rules_of c.args.rules.now) c.args.tree.now))
    c.from_residual-in_err-index.result Memory c.from_residual-in_err-index.ensures.1 tt

pub returns : goal.returns
returns c = record {
  ok = lines_due c.args.content (rules_of c.args.rules.now) c.args.tree.now c.in_ok-page.page
      c.page_lines.result string_bytes c.in_ok-page.ensures.ok c.page_lines.ensures.ok;
  fault = memory_fails
      (IsPageOutput c.args.content (rules_of c.args.rules.now) c.args.tree.now)
      c.page_lines.result c.page_lines.ensures.fault;
}
