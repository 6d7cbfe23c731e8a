use Rattle.std.proofs.Common.{◌≡◌, length}
use denote.Text.{Utf8}
use denote.Shadow.{shadow}
use Rattle.css_selector_text.specs.reading.Nested.{has_ampersand}
use Rattle.css_selector_text.proofs.reading.nesting.has_ampersand.Given as goal

-- the rest has one exactly if the text has one
abbrev pub invariant-tokens : goal.invariant-tokens
invariant-tokens l =
    shadow (Utf8 l.rest) × (has_ampersand l.rest l.left ≡ has_ampersand l.text l.left)

abbrev pub decreases-tokens : goal.decreases-tokens
decreases-tokens l = length l.rest
