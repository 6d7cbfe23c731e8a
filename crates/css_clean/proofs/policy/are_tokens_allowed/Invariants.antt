use Rattle.std.proofs.Common.{◌≡◌, false, length}
use Rattle.css_syntax.specs.TokenLists.{tokens}
use Rattle.css_clean.specs.Policies.{all_allowed}
use Rattle.css_clean.specs.Views.{place_of}
use Rattle.css_clean.proofs.policy.are_tokens_allowed.Given as goal

-- What is left decides, after a colon or not.
abbrev pub invariant-tokens : goal.invariant-tokens
invariant-tokens l =
    all_allowed (place_of l.place) false (tokens l.text)
    ≡ all_allowed (place_of l.place) l.after_colon (tokens l.rest)

abbrev pub decreases-tokens : goal.decreases-tokens
decreases-tokens l = length l.rest
