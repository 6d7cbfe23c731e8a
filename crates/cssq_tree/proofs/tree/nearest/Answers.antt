use Rattle.std.proofs.Common.{◌<◌, ◌≤◌, sym, subst, arith}
use Rattle.std.proofs.lemmas.Grind.{common_steps}
use Rattle.cssq_tree.specs.internal.LastIndices.{IsCandidate, steps_left}
use Rattle.cssq_tree.specs.internal.EntryLines.{depths}
use Rattle.cssq_tree.proofs.Linked.{next_candidate, last_found, none_found}
use Rattle.cssq_tree.proofs.tree.nearest.Goals as goal

pub loop-candidate-smaller : goal.loop-candidate-smaller
loop-candidate-smaller c =
    let is = c.index-lines-i.is in
    subst (λ m. steps_left m.parent < steps_left c.loop-candidate.candidate) (sym is)
    (next_candidate c.args.lines.now c.args.depth c.in-Some.i c.index-lines-i.result
    c.loop-candidate.candidate c.requires c.in-Some.is c.loop-candidate.invariant
    (subst (λ m. c.args.depth < m.entry.depth) is c.if-line-depth.false)).1

pub loop-candidate-preserved : goal.loop-candidate-preserved
loop-candidate-preserved c =
    let is = c.index-lines-i.is in
    subst (λ m. IsCandidate (depths c.args.lines.now) c.args.depth m.parent) (sym is)
    (next_candidate c.args.lines.now c.args.depth c.in-Some.i c.index-lines-i.result
    c.loop-candidate.candidate c.requires c.in-Some.is c.loop-candidate.invariant
    (subst (λ m. c.args.depth < m.entry.depth) is c.if-line-depth.false)).0

pub returns-then-line-depth-clause-value : goal.returns-then-line-depth-clause-value
returns-then-line-depth-clause-value c = last_found c.args.lines.now c.args.depth c.in-Some.i
    c.index-lines-i.result c.loop-candidate.candidate c.in-Some.is c.loop-candidate.invariant
    (subst (λ m. m.entry.depth ≤ c.args.depth) c.index-lines-i.is c.if-line-depth.true)

pub returns-in_default-clause-value : goal.returns-in_default-clause-value
returns-in_default-clause-value c = none_found c.args.lines.now c.args.depth
    c.loop-candidate.candidate c.in_default.is c.loop-candidate.invariant

pub returns-then-line-depth-clause-within : goal.returns-then-line-depth-clause-within
returns-then-line-depth-clause-within c = grind (arith, common_steps)

pub returns-in_default-clause-within : goal.returns-in_default-clause-within
returns-in_default-clause-within c = grind (arith, common_steps)

pub loop-candidate-init : goal.loop-candidate-init
loop-candidate-init c = grind (arith, common_steps)

pub bounds-lines-i : goal.bounds-lines-i
bounds-lines-i c = grind (arith, common_steps)
