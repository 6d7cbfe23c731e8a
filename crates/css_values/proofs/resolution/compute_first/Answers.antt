use Rattle.std.proofs.Common.{◌≤◌, min, length, arith}
use Rattle.css_values.proofs.ResolvingLemmas.{resolving-ends}
use Rattle.css_values.proofs.resolution.compute_first.Goals as goal

pub numbers-init : goal.numbers-init
numbers-init c = (omega arith, c.requires)

pub compute-requires-clause-within : goal.compute-requires-clause-within
compute-requires-clause-within c =
    let same = c.numbers.invariant.1.same_length in
    let first = c.requires.same_length in
    omega (arith, c.numbers-test.true, c.min-count.ensures)

pub compute-requires-clause-before : goal.compute-requires-clause-before
compute-requires-clause-before c = c.numbers.invariant.1

pub numbers-preserved : goal.numbers-preserved
numbers-preserved c = (omega (arith, c.numbers-test.true), c.in_ok-compute.ensures)

pub returns : goal.returns
returns c =
    let same = c.numbers.invariant.1.same_length in
    let first = c.requires.same_length in
    let past : min c.args.wanted (length c.args.table.now) ≤ c.numbers.number =
    omega (arith, c.numbers-test.false, c.min-count.ensures) in
    resolving-ends c.args.limit c.args.table.now c.args.wanted c.numbers.number c.numbers.slots past
    c.numbers.invariant.1
