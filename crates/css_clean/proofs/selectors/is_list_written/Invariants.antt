use Rattle.std.proofs.Common.{◌≡◌, true, length}
use denote.Text.{Utf8}
use denote.Shadow.{shadow}
use Rattle.css_text.specs.Reading.{each}
use Rattle.css_clean.specs.Selectors.{next_selector}
use Rattle.css_clean.specs.Views.{sheet_policy_of}
use Rattle.css_clean.proofs.selectors.is_list_written.Given as goal

-- Where the reading of what is left ends, that of the list does.
abbrev pub invariant-selectors : goal.invariant-selectors
invariant-selectors l =
    shadow (Utf8 l.rest)
    × ((each (next_selector (sheet_policy_of l.policy) true) l.text).1
    ≡ (each (next_selector (sheet_policy_of l.policy) true) l.rest).1)

abbrev pub decreases-selectors : goal.decreases-selectors
decreases-selectors l = length l.rest
