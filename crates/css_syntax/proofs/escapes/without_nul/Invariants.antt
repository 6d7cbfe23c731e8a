use Rattle.std.proofs.Common.{◌≡◌, ◌++◌, length}
use denote.Shadow.{shadow}
use denote.Text.{Utf8}
use Rattle.std.specs.String.{string_bytes}
use Rattle.css_syntax.specs.Escapes.{without_nul}
use Rattle.css_syntax.proofs.escapes.without_nul.Given as goal

-- what was written, and then what is left without U+0000
abbrev pub invariant-parts : goal.invariant-parts
invariant-parts l =
    shadow (Utf8 l.rest) × (string_bytes l.out ++ without_nul l.rest ≡ without_nul l.text)

abbrev pub decreases-parts : goal.decreases-parts
decreases-parts l = length l.rest
