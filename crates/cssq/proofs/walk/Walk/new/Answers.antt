use Rattle.cssq.proofs.Walking.{none_open}
use Rattle.cssq.proofs.walk.Walk.new.Goals as goal

pub returns-clause-walk : goal.returns-clause-walk
returns-clause-walk c = λ rows. record {
  within = tt;
  opened = none_open rows c.in_ok-new.field-0 c.in_ok-new.ensures.listed
      c.in_ok-new.ensures.starts c.in_ok-new.ensures.marks;
}
