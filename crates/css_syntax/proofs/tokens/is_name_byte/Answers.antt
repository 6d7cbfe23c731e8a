use Rattle.std.proofs.Common.{refl, arith}
use Rattle.css_syntax.specs.Tokens.{is_name_byte}
use Rattle.css_syntax.specs.declared.tokens.TheConstants.{BYTES}
use Rattle.css_text.proofs.bytes.ByteTable.{agree_below, from_table}
use Rattle.css_syntax.proofs.tokens.is_name_byte.Goals as goal

pub returns : goal.returns
unfolding agree_below
returns c = rw c.from.ensures (from_table BYTES 1 is_name_byte c.args.byte (omega arith) refl)
