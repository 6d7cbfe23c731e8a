use Rattle.std.proofs.Common.{◌∙◌, sym}
use Rattle.css_text.proofs.bytes.StringLemmas.{from_quote-passes}
use Rattle.css_text.proofs.scan.quote_offset.Goals as goal

-- the byte is no quote, or a backslash is right before it
pub loop-at-preserved : goal.loop-at-preserved
loop-at-preserved c =
    sym (from_quote-passes c.args.quote c.loop-at.previous c.args.bytes.now c.loop-at.at
    c.loop-at-test.true c.else-byte-quote.either) ∙ c.loop-at.invariant
