use Rattle.std.proofs.Common.{◌≡◌, ◌++◌, length, map}
use denote.Shadow.{shadow}
use denote.Text.{Utf8}
use Rattle.css_lint.specs.Places.{place_of}
use Rattle.css_lint.specs.Refused.{refused_in}
use Rattle.css_lint.proofs.refused.push_items.Given as goal

-- those so far, and those of the rest
abbrev pub invariant-items : goal.invariant-items
invariant-items l =
    shadow (Utf8 l.rest)
    × (map place_of l.found.items ++ refused_in l.values.in_quirks l.in_block l.end l.rest
    ≡ map place_of l.fn.found.items ++ refused_in l.values.in_quirks l.in_block l.end l.text)

abbrev pub decreases-items : goal.decreases-items
decreases-items l = length l.rest
