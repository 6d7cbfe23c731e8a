use Rattle.std.proofs.Common.{◌&&◌, refl, arith}
use Rattle.css_text.specs.Bytes.{is_ascii}
use Rattle.css_text.specs.Characters.{is_name_start}
use Rattle.css_text.specs.ThisEdition.{this_edition}
use Rattle.css_text.specs.declared.scan.TheConstants.{BYTES}
use Rattle.css_text.proofs.bytes.ByteTable.{agree_below, from_table}
use Rattle.css_text.proofs.scan.is_ascii_name_start.Goals as goal

pub returns : goal.returns
unfolding agree_below
returns c = rw c.from.ensures (from_table BYTES 2
    (λ b. is_ascii b && is_name_start this_edition b) c.args.byte (omega arith) refl)
