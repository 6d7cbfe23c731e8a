use Rattle.std.proofs.Common.{◌≡◌, take}
use Rattle.css_text.specs.AsciiBytes.{close_brace, open_brace}
use Rattle.simplecss_grammar.specs.Blocks.{count_of}
use Rattle.simplecss_declaration.proofs.blocks.brace_counts.Given as goal

abbrev pub invariant-loop-byte : goal.invariant-loop-byte
invariant-loop-byte l = record {
  opening : l.opening ≡ count_of open_brace (take l.byte-index l.chunk);
  closing : l.closing ≡ count_of close_brace (take l.byte-index l.chunk);
}
