use Rattle.std.proofs.Common.{◌≡◌, ◌<◌, ◌+◌, drop, length, arith, subst, sym}
use Rattle.css_values.proofs.StepLemmas.{Clearing, clearing-at, clearing-begins, clearing-ends, drop-all}
use Rattle.css_values.proofs.resolution.clear.Goals as goal

pub members-init : goal.members-init
members-init c = (omega arith, clearing-begins c.args.slots.now c.args.numbers.now c.requires)

pub settle-requires : goal.settle-requires
settle-requires c =
    let within : c.members.index < length c.args.numbers.now = omega arith in
    (clearing-at c.args.slots.now c.args.numbers.now c.members.index c.members.slots within
    c.members.invariant.1).0

pub members-preserved : goal.members-preserved
members-preserved c =
    let within : c.members.index < length c.args.numbers.now = omega arith in (
      omega arith,
      subst (Clearing c.args.slots.now c.args.numbers.now (drop (c.members.index + 1) c.args.numbers.now))
          (sym c.settle.ensures)
          (clearing-at c.args.slots.now c.args.numbers.now c.members.index c.members.slots within
          c.members.invariant.1).1,
    )

pub returns : goal.returns
returns c =
    let past : length c.args.numbers.now ≡ c.members.index = omega arith in
    clearing-ends c.args.slots.now c.args.numbers.now (drop c.members.index c.args.numbers.now)
    c.members.slots c.members.invariant.1 (drop-all c.args.numbers.now c.members.index past)
