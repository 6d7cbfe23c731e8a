use Rattle.std.proofs.Common.{◌≡◌, ◌-◌, ◌<◌, ◌≤◌, ◌^◌, length}
use Rattle.css_syntax.specs.ComponentValues.{block_of, component_value}
use Rattle.css_syntax.specs.internal.OpenBrackets.{closer_of}
use Rattle.css_syntax.proofs.OpenBlocks.{also, resume}
use Rattle.css_syntax.proofs.component_values.read_block.Given as goal

-- What was skipped, and what is left of the blocks that are open, is the block.
abbrev pub invariant-values : goal.invariant-values
invariant-values l = record {
  reads : also l.quality (resume l.depth l.waiting (64 - l.depth) l.rest)
      ≡ block_of (component_value 63) (closer_of l.kind) l.bytes;
  deep : l.depth ≤ 64;
  digits : l.waiting < 4 ^ l.depth;
}

abbrev pub decreases-values : goal.decreases-values
decreases-values l = length l.rest
