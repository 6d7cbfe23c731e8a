use Rattle.std.proofs.Common.{◌∷◌, option_map, subst, sym}
use Rattle.css_values.specs.internal.Paths.{GoesOn, circle_of, circles_of, with_last}
use Rattle.css_values.proofs.CircleLemmas.{path-ends}
use Rattle.css_values.proofs.StepLemmas.{ends-member, ends-last, within-last}
use Rattle.css_values.proofs.resolution.end_current.Goals as goal

pub end_value-requires : goal.end_value-requires
end_value-requires c = record {
  within = within-last _ c.args.last.ended.items c.args.last.current.number c.requires.within;
}

pub returns-then-last-clause-goes_on : goal.returns-then-last-clause-goes_on
returns-then-last-clause-goes_on c = λ limit e.
    let last = circle_of c.args.last in
    let path = circles_of c.args.path.now.circles.items in
    let next = option_map circle_of c.in_ok-next.next in
    let left = circles_of c.end_member.new.path.circles.items in
    subst (λ begun. GoesOn limit c.args.table.now c.args.slots.now (last ∷ path) c.end_member.new.slots begun
    (with_last next left)) (sym c.in_ok-next.ensures.begun)
    (ends-member limit c.args.table.now c.args.slots.now c.end_member.new.slots c.args.path.now.begun
    last path left next e c.if-last.true c.in_ok-next.ensures.ended)

pub returns-then-last-clause-ends : goal.returns-then-last-clause-ends
returns-then-last-clause-ends c =
    ends-last c.args.slots.now c.end_member.new.slots (circle_of c.args.last)
    (circles_of c.args.path.now.circles.items) (circles_of c.end_member.new.path.circles.items)
    (option_map circle_of c.in_ok-next.next) c.in_ok-next.ensures.ended

pub returns-clause-goes_on : goal.returns-clause-goes_on
returns-clause-goes_on c = λ limit e.
    let table = c.args.table.now in
    let slots = c.args.slots.now in
    let last = circle_of c.args.last in
    let path = circles_of c.args.path.now.circles.items in
    let settled = c.in_ok-below.ensures.settled in
    subst (λ left. GoesOn limit table slots (last ∷ path) c.end_value.new.slots c.end_value.new.path.begun left)
    c.in_ok-below.ensures.parts
    (subst (λ begun. GoesOn limit table slots (last ∷ path) c.end_value.new.slots begun path)
    (sym c.in_ok-below.ensures.begun)
    (subst (λ after. GoesOn limit table slots (last ∷ path) after c.args.path.now.begun path)
    (sym settled.1)
    (path-ends limit table slots c.args.path.now.begun last path settled.0 e c.if-last.false settled.2)))
