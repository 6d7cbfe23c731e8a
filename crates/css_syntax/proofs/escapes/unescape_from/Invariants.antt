use Rattle.std.proofs.Common.{◌≡◌, ◌++◌, ◌∷◌, length}
use denote.Shadow.{shadow}
use denote.Text.{Utf8}
use Rattle.std.specs.String.{string_bytes}
use Rattle.css_text.specs.AsciiBytes.{backslash}
use Rattle.css_syntax.specs.Escapes.{unescaped_in}
use Rattle.css_syntax.proofs.escapes.unescape_from.Given as goal

-- What was read is decoded.
abbrev pub invariant-parts : goal.invariant-parts
invariant-parts l =
    shadow (Utf8 l.rest)
    × (string_bytes l.out ++ unescaped_in l.in_string l.rest ≡ l.front ++ unescaped_in l.in_string (backslash ∷ l.fn.after))

abbrev pub decreases-parts : goal.decreases-parts
decreases-parts l = length l.rest
