use Rattle.std.proofs.Common.{◌<◌, [], length, arith}
use Rattle.simplecss_selector.specs.declared.key.Key.TheVariants.{Id}
use Rattle.simplecss.specs.internal.NeededKeys.{keys_of}
use Rattle.simplecss.proofs.NeededNumbers.{numbers_next}
use Rattle.simplecss.proofs.index.needed_keys.NeededKeys.numbers_of.Goals as goal

pub loop-key-preserved : goal.loop-key-preserved
loop-key-preserved c =
    let before = c.loop-key.invariant in
    let number = c.in_ok-number.ensures in
    let lt : c.loop-key.key-index < length c.args.keys.now = omega arith in
    let next = numbers_next (keys_of c.args.self.now) (keys_of c.loop-key.self)
    (keys_of c.number.new.self) c.args.keys.now c.loop-key.key-index
    (Id (record { ref_ptr = (0, 0); now = [] })) c.loop-key.numbers.items c.push.new.self.items
    c.in_ok-number.number lt before.keys before.numbers number.keys number.within number.is
    c.in_ok-push.ensures.items in
    record { numbered = number.numbered; keys = next.0; numbers = next.1 }
