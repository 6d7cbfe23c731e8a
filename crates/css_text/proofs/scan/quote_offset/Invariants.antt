use Rattle.std.proofs.Common.{◌≡◌, drop}
use Rattle.css_text.specs.Strings.{from_quote}
use Rattle.css_text.proofs.scan.quote_offset.Given as goal

abbrev pub invariant-loop-at : goal.invariant-loop-at
invariant-loop-at l =
    from_quote l.quote l.previous (drop l.at l.bytes) ≡ from_quote l.quote l.quote l.bytes
