use Rattle.std.proofs.Common.{◌≡◌, length}
use Rattle.css_xml.specs.Tokens.{from_mark}
use Rattle.css_xml.proofs.tokenizer.from_mark.Given as goal

abbrev pub invariant-mark : goal.invariant-mark
invariant-mark l = from_mark l.mark l.rest ≡ from_mark l.mark l.bytes

abbrev pub decreases-mark : goal.decreases-mark
decreases-mark l = length l.rest
