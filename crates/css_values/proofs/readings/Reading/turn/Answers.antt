use Rattle.std.proofs.Common.{subst}
use Rattle.css_values.specs.Views.{piece_of, seen_of}
use Rattle.css_values.specs.internal.Readings.{TurnsTo, reading_of}
use Rattle.css_values.proofs.SubstitutionLemmas.{draft-done}
use Rattle.css_values.proofs.ReadingLemmas.{outer-done, turn-takes, turn_by, turn-leaves}
use Rattle.css_values.proofs.readings.Reading.turn.Goals as goal

pub returns-then-goes_on-clause-turned : goal.returns-then-goes_on-clause-turned
returns-then-goes_on-clause-turned c =
    subst (λ b. TurnsTo c.args.limit c.args.table.now (seen_of c.args.seen)
    (reading_of c.args.self.now) (turn_by b) (reading_of c.leave.new.self)) c.if-goes_on.true
    (turn-leaves c.args.limit c.args.table.now (seen_of c.args.seen)
    (reading_of c.args.self.now) (reading_of c.leave.new.self) c.in_ok-goes_on.goes_on
    c.in_default.ensures c.in_ok-goes_on.ensures.left)

pub returns-else-goes_on-clause-turned : goal.returns-else-goes_on-clause-turned
returns-else-goes_on-clause-turned c =
    subst (λ b. TurnsTo c.args.limit c.args.table.now (seen_of c.args.seen)
    (reading_of c.args.self.now) (turn_by b) (reading_of c.leave.new.self)) c.if-goes_on.false
    (turn-leaves c.args.limit c.args.table.now (seen_of c.args.seen)
    (reading_of c.args.self.now) (reading_of c.leave.new.self) c.in_ok-goes_on.goes_on
    c.in_default.ensures c.in_ok-goes_on.ensures.left)

pub returns-clause-turned : goal.returns-clause-turned
returns-clause-turned c =
    turn-takes c.args.limit c.args.table.now (seen_of c.args.seen)
    (reading_of c.args.self.now) (reading_of c.take.new.self) c.in_ok-turn.turn
    (piece_of c.in-Some.read.piece) c.in-Some.read.rest.now (draft-done c.args.self.now.draft)
    (outer-done c.args.self.now.outer.items) c.in-Some.ensures c.in_ok-turn.ensures.taken
