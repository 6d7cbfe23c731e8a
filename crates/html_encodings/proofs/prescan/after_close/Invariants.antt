use Rattle.std.proofs.Common.{◌≡◌, length}
use Rattle.css_text.specs.AsciiBytes.{greater_than_sign}
use Rattle.css_text.specs.Bytes.{after_byte}
use Rattle.html_encodings.proofs.prescan.after_close.Given as goal

abbrev pub invariant-close : goal.invariant-close
invariant-close l = after_byte greater_than_sign l.rest ≡ after_byte greater_than_sign l.bytes

abbrev pub decreases-close : goal.decreases-close
decreases-close l = length l.rest
