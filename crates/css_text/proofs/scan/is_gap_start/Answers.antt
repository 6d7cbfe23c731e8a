use Rattle.std.proofs.Common.{◌||◌, ◌==◌, refl, arith}
use Rattle.css_text.specs.AsciiBytes.{slash}
use Rattle.css_text.specs.Characters.{is_space}
use Rattle.css_text.specs.declared.scan.TheConstants.{BYTES}
use Rattle.css_text.proofs.bytes.ByteTable.{agree_below, from_table}
use Rattle.css_text.proofs.scan.is_gap_start.Goals as goal

pub returns : goal.returns
unfolding agree_below
returns c = rw c.from.ensures
    (from_table BYTES 4 (λ b. is_space b || b == slash) c.args.byte (omega arith) refl)
