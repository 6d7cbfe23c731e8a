use Rattle.std.proofs.Common.{◌<◌, None, length}
use Rattle.simplecss.specs.internal.TextIndices.{AreTold}
use Rattle.simplecss.proofs.TextSlots.{read_from}
use Rattle.simplecss.proofs.index.texts.slots_of.Given as goal

-- the slots say what the entries so far do
abbrev pub invariant-loop-text : goal.invariant-loop-text
invariant-loop-text l =
    (0 < length l.slots.items) × AreTold l.slots.items (read_from None l.yielded)
