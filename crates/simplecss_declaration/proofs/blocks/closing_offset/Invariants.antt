use Rattle.std.proofs.Common.{◌≤◌, ◌-◌, length}
use Rattle.simplecss_declaration.proofs.BlockLemmas.{IsInside}
use Rattle.simplecss_declaration.proofs.blocks.closing_offset.Given as goal

abbrev pub invariant-chunks : goal.invariant-chunks
invariant-chunks l = record {
  inside : IsInside l.bytes l.passed l.depth;
  within : l.passed ≤ length l.bytes;
}

abbrev pub decreases-chunks : goal.decreases-chunks
decreases-chunks l = length l.bytes - l.passed
