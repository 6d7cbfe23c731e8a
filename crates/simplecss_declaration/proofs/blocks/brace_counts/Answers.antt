use Rattle.std.proofs.Common.{◌+◌, ◌∙◌, arith}
use Rattle.css_text.specs.AsciiBytes.{close_brace, open_brace}
use Rattle.simplecss_declaration.proofs.BlockLemmas.{count_of-more}
use Rattle.simplecss_declaration.proofs.blocks.brace_counts.Goals as goal

pub loop-byte-preserved : goal.loop-byte-preserved
loop-byte-preserved c =
    let counted = c.loop-byte.invariant in
    let chunk = c.args.chunk.now in
    record {
      opening = (λ k. counted.opening k + c.from-opening.ensures k)
          ∙ count_of-more open_brace chunk c.loop-byte.byte-index (omega arith);
      closing = (λ k. counted.closing k + c.from-closing.ensures k)
          ∙ count_of-more close_brace chunk c.loop-byte.byte-index (omega arith);
    }
