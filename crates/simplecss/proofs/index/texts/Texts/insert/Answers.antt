use Rattle.std.proofs.Common.{arith, bit_or, subst, sym}
use Rattle.simplecss.specs.internal.TextIndices.{index_for_text, AreMarked}
use Rattle.simplecss.proofs.TextSlots.{put_told, changed_here, changed_others, changed_marks}
use Rattle.simplecss.proofs.index.texts.Texts.insert.Goals as goal

pub invariant_of-self-then-len-count-clause-marked : goal.invariant_of-self-then-len-count-clause-marked
invariant_of-self-then-len-count-clause-marked c =
    subst (λ m. AreMarked (bit_or c.args.self.now.marks m) (index_for_text c.insert.new.self))
    (sym c.mark_of.ensures) (changed_marks c.args.self.now.indices c.insert.new.self c.args.index
    c.args.text.now c.in_ok-known.ensures.updates c.args.self.now.marks c.args.self.now.marked)

pub invariant_of-self-else-len-count : goal.invariant_of-self-else-len-count
invariant_of-self-else-len-count c = let fewer = c.if-len-count.false in
    let is = c.len-count.ensures in record {
      told = put_told c.args.self.now.slots.items c.put.new.slots.items c.args.text.now c.args.index
          (index_for_text c.args.self.now.indices) (index_for_text c.insert.new.self) (omega (arith, fewer, is))
          c.args.self.now.told c.put.ensures
          (changed_here c.args.self.now.indices c.insert.new.self c.args.index c.args.text.now
          c.in_ok-known.ensures.updates)
          (changed_others c.args.self.now.indices c.insert.new.self c.args.index c.args.text.now
          c.in_ok-known.ensures.updates);
      marked = subst (λ m. AreMarked (bit_or c.args.self.now.marks m) (index_for_text c.insert.new.self))
          (sym c.mark_of.ensures) (changed_marks c.args.self.now.indices c.insert.new.self
          c.args.index c.args.text.now c.in_ok-known.ensures.updates c.args.self.now.marks
          c.args.self.now.marked);
    }
