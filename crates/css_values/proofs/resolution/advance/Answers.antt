use Rattle.std.proofs.Common.{◌∷◌, ◌++◌, [], length, refl, subst, sym}
use Rattle.css_values.specs.internal.Readings.{reading_of}
use Rattle.css_values.specs.internal.Paths.{AreWithin, circle_of, circles_of, hidden_from}
use Rattle.css_values.proofs.SubstitutionLemmas.{draft-done}
use Rattle.css_values.proofs.StepLemmas.{circle-within, goes_on-from, numbered, reads-ends, reads-unknown, reads-waits}
use Rattle.css_values.proofs.resolution.advance.Goals as goal

pub end_current-requires : goal.end_current-requires
end_current-requires c = record {
  within = subst (λ n. AreWithin (length c.args.slots.now) (c.args.last.ended.items ++ n ∷ []))
      (sym c.in_ok-read_on.ensures.number)
      (circle-within c.args.limit c.args.table.now c.args.slots.now c.args.path.now.begun
      (circle_of c.args.last) (circles_of c.args.path.now.circles.items) c.requires);
}

pub wait_for-requires : goal.wait_for-requires
wait_for-requires c = record {
  unknown =
      reads-unknown c.args.limit c.args.table.now c.args.slots.now
      (hidden_from (circle_of c.args.last) c.args.path.now.begun) c.hidden_from-from.result
      (reading_of c.args.last.current) (reading_of c.read_on.new.self) c.in_ok-read_on.field-0
      c.in-Some.other c.hidden_from-from.ensures c.in-Some.is c.in_ok-read_on.ensures.read;
  same_length = c.requires.same_length;
  room = c.requires.room;
}

pub returns-in_ok-next-in-None-clause-goes_on : goal.returns-in_ok-next-in-None-clause-goes_on
returns-in_ok-next-in-None-clause-goes_on c =
    let last = circle_of c.args.last in
    let path = circles_of c.args.path.now.circles.items in
    let new = reading_of c.read_on.new.self in
    goes_on-from c.args.limit c.args.table.now c.args.slots.now c.end_current.new.slots
    c.end_current.new.path.begun (numbered last c.read_on.new.self.number new ∷ path) (last ∷ path) _ refl
    (c.in_ok-next-in-None.ensures.goes_on c.args.limit
    (reads-ends c.args.limit c.args.table.now c.args.slots.now c.args.path.now.begun
    c.hidden_from-from.result c.read_on.new.self.number last path new c.in_ok-read_on.field-0
    c.hidden_from-from.ensures c.in-None.is c.in_ok-read_on.ensures.number c.requires
    c.in_ok-read_on.ensures.read (draft-done c.read_on.new.self.draft)))

pub returns-in_ok-next-in-Some-clause-goes_on : goal.returns-in_ok-next-in-Some-clause-goes_on
returns-in_ok-next-in-Some-clause-goes_on c =
    goes_on-from c.args.limit c.args.table.now c.args.slots.now c.wait_for.new.slots
    c.wait_for.new.path.begun
    (numbered (circle_of c.args.last) c.read_on.new.self.number (reading_of c.read_on.new.self)
    ∷ circles_of c.args.path.now.circles.items)
    (circle_of c.args.last ∷ circles_of c.args.path.now.circles.items) _ refl
    (c.in_ok-next-in-Some.ensures.goes_on c.args.limit
    (reads-waits c.args.limit c.args.table.now c.args.slots.now c.args.path.now.begun
    c.hidden_from-from.result c.read_on.new.self.number c.in-Some.other (circle_of c.args.last)
    (circles_of c.args.path.now.circles.items) (reading_of c.read_on.new.self) c.in_ok-read_on.field-0
    c.hidden_from-from.ensures c.in-Some.is c.in_ok-read_on.ensures.number c.requires
    c.in_ok-read_on.ensures.read))
