use Rattle.std.proofs.Common.{◌≡◌, ℕ, ◌+◌, ◌<◌, false, take}
use Rattle.css_text.specs.AsciiBytes.{close_brace, open_brace}
use Rattle.simplecss_grammar.specs.Blocks.{count_of}
use Rattle.simplecss_declaration.specs.internal.BlockDepths.{closes_at}
use Rattle.simplecss_declaration.proofs.blocks.outer_brace.Given as goal

abbrev pub invariant-loop-offset : goal.invariant-loop-offset
invariant-loop-offset l = record {
  counts : l.open + count_of close_brace (take l.offset l.bytes)
      ≡ l.depth + count_of open_brace (take l.offset l.bytes);
  none : (k : ℕ) → k < l.offset → closes_at l.depth l.bytes k ≡ false;
}
