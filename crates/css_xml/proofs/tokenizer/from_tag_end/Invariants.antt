use Rattle.std.proofs.Common.{◌≡◌, length, None}
use Rattle.css_xml.specs.Tokens.{from_tag_end}
use Rattle.css_xml.proofs.tokenizer.from_tag_end.Given as goal

abbrev pub invariant-tag : goal.invariant-tag
invariant-tag l = from_tag_end l.quote l.rest ≡ from_tag_end None l.bytes

abbrev pub decreases-tag : goal.decreases-tag
decreases-tag l = length l.rest
