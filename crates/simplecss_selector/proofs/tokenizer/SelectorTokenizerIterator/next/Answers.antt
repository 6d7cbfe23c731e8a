use Rattle.std.proofs.Common.{Some, None, Err, refl}
use Rattle.css_text.specs.declared.error.Error.TheVariants.{SelectorMissing}
use Rattle.simplecss_selector.specs.declared.tokenizer.Stage.TheVariants as stages
use Rattle.simplecss_selector.specs.SelectorTokenizers.{whole_text, left_of}
use Rattle.simplecss_selector.proofs.Firsts.{missing-first, ended-first, gives-item, given-fewer}
use Rattle.simplecss_selector.proofs.tokenizer.SelectorTokenizerIterator.next.Goals as goal

pub returns-in-Open-clause-steps : goal.returns-in-Open-clause-steps
returns-in-Open-clause-steps c =
    gives-item c.args.self.now c.next_open.new.self stages.Open
    (Some c.next_open.result) c.in-Open.is c.next_open.ensures.whole_text c.next_open.ensures.first

pub returns-in-Open-clause-goes : goal.returns-in-Open-clause-goes
returns-in-Open-clause-goes c = given-fewer c.args.self.now c.next_open.new.self
    (Some c.next_open.result) (returns-in-Open-clause-steps c)

pub returns-in-Closed-clause-steps : goal.returns-in-Closed-clause-steps
returns-in-Closed-clause-steps c =
    gives-item c.args.self.now c.next_closed.new.self stages.Closed c.next_closed.result
    c.in-Closed.is c.next_closed.ensures.whole_text c.next_closed.ensures.first

pub returns-in-Closed-clause-goes : goal.returns-in-Closed-clause-goes
returns-in-Closed-clause-goes c = given-fewer c.args.self.now c.next_closed.new.self
    c.next_closed.result (returns-in-Closed-clause-steps c)

pub returns-in-Missing-clause-steps : goal.returns-in-Missing-clause-steps
returns-in-Missing-clause-steps c =
    gives-item c.args.self.now record { stream = c.args.self.now.stream; stage = stages.Ended }
    stages.Missing (Some (Err SelectorMissing)) c.in-Missing.is refl
    (missing-first (whole_text c.args.self.now) (left_of c.args.self.now))

pub returns-in-Missing-clause-goes : goal.returns-in-Missing-clause-goes
returns-in-Missing-clause-goes c =
    given-fewer c.args.self.now record { stream = c.args.self.now.stream; stage = stages.Ended }
    (Some (Err SelectorMissing)) (returns-in-Missing-clause-steps c)

pub returns-in-Ended-clause-steps : goal.returns-in-Ended-clause-steps
returns-in-Ended-clause-steps c =
    gives-item c.args.self.now c.args.self.now stages.Ended None c.in-Ended.is refl
    (rw c.in-Ended.is (ended-first (whole_text c.args.self.now) (left_of c.args.self.now)))
