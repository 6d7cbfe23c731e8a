use Rattle.std.proofs.Common.{refl, arith}
use Rattle.css_syntax.specs.internal.PlainTokens.{is_plain}
use Rattle.css_syntax.specs.declared.tokens.TheConstants.{BYTES}
use Rattle.css_text.proofs.bytes.ByteTable.{agree_below, from_table}
use Rattle.css_syntax.proofs.tokens.is_plain.Goals as goal

pub returns : goal.returns
unfolding agree_below
returns c = rw c.from.ensures (from_table BYTES 5 is_plain c.args.byte (omega arith) refl)
