use Rattle.std.proofs.Common.{None, ◌++◌, ◌∷◌, []}
use Rattle.std.specs.Map.Iter.{deref_pair}
use Rattle.std.proofs.lemmas.Map.Iter.{iter_end}
use Rattle.simplecss.specs.internal.TextIndices.{index_for_text}
use Rattle.simplecss.proofs.ReadIndices.{Read}
use Rattle.simplecss.proofs.TextSlots.{read_from, read_here, read_others, put_told, still_some, told_as, read_all}
use Rattle.simplecss.proofs.index.texts.slots_of.Goals as goal

pub loop-text-preserved : goal.loop-text-preserved
loop-text-preserved c =
    let old = c.loop-text.slots.items in
    let new = c.put.new.slots.items in
    let read = c.loop-text.yielded in
    let e : Read = (c.in-Some.text, c.in-Some.index) in (
      still_some old new e.0.now.now e.1.now c.loop-text.invariant.0 c.put.ensures,
      put_told old new e.0.now.now e.1.now (read_from None read) (read_from None (read ++ e ∷ []))
          c.loop-text.invariant.0 c.loop-text.invariant.1 c.put.ensures (read_here read e)
          (read_others read e),
    )

pub returns : goal.returns
returns c =
    let given = c.into_iter-text-iterator.ensures.into_iter_gives in
    let whole = iter_end deref_pair c.args.indices.now.entries c.loop-text.yielded
    _ _ _ _ given.0 c.loop-text.yielded_by c.in-None.is c.next.ensures.steps in
    told_as c.loop-text.slots.items (read_from None c.loop-text.yielded)
    (index_for_text c.args.indices.now) c.loop-text.invariant.1
    (read_all c.args.indices.now c.loop-text.yielded whole.0 given.6)
