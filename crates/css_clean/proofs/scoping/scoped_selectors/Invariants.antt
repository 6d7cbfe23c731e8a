use Rattle.std.proofs.Common.{◌≡◌, ◌++◌, false, length, map, string_bytes}
use Rattle.std.specs.Option.{option_map}
use denote.Text.{Utf8}
use denote.Shadow.{shadow}
use Rattle.css_text.specs.Reading.{each}
use Rattle.css_clean.specs.Selectors.{next_selector}
use Rattle.css_clean.specs.Scoping.{all_scoped}
use Rattle.css_clean.specs.Views.{sheet_policy_of}
use Rattle.css_clean.proofs.scoping.scoped_selectors.Given as goal

-- Those that were found, and what is left.
abbrev pub invariant-selectors : goal.invariant-selectors
invariant-selectors l =
    let policy = sheet_policy_of l.policy in
    shadow (Utf8 l.rest)
    × (all_scoped policy (each (next_selector policy false) l.text).0
    ≡ option_map (λ more. map string_bytes l.out.items ++ more)
    (all_scoped policy (each (next_selector policy false) l.rest).0))
    × ((each (next_selector policy false) l.text).1
    ≡ (each (next_selector policy false) l.rest).1)

abbrev pub decreases-selectors : goal.decreases-selectors
decreases-selectors l = length l.rest
