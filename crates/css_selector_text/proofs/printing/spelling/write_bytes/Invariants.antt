use Rattle.std.proofs.Common.{◌≡◌, ◌++◌, length}
use denote.Text.{Utf8}
use denote.Shadow.{shadow}
use Rattle.std.specs.Fmt.{HasWrittenStyled, IsFlush}
use Rattle.std.specs.List.{flat_map}
use Rattle.css_selector_text.specs.printing.Printing.{byte_text}
use Rattle.css_selector_text.proofs.printing.spelling.write_bytes.Given as goal

-- what is written is the front of the text
abbrev pub invariant-runs : goal.invariant-runs
invariant-runs g l = record {
  text : shadow (Utf8 l.rest);
  written : IsFlush l.initial.f → (front : _)
      × HasWrittenStyled g.W.Write.write_str_gives l.initial.f front l.f
      × (front ++ flat_map (byte_text l.quote) l.rest ≡ flat_map (byte_text l.quote) l.text);
}

abbrev pub decreases-runs : goal.decreases-runs
decreases-runs g l = length l.rest
