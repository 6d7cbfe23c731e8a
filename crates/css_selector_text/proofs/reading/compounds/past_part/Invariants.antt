use Rattle.std.proofs.Common.{◌≡◌, length}
use denote.Text.{Utf8}
use denote.Shadow.{shadow}
use Rattle.css_selector_text.specs.reading.Grammar.{past_part}
use Rattle.css_selector_text.proofs.reading.compounds.past_part.Given as goal

abbrev pub invariant-values : goal.invariant-values
invariant-values l = record {
  text : shadow (Utf8 l.rest);
  left : past_part l.rest ≡ past_part l.text;
}

abbrev pub decreases-values : goal.decreases-values
decreases-values l = length l.rest
