use Rattle.std.proofs.Common.{◌≡◌, length}
use Rattle.css_syntax.specs.TokenLists.{tokens}
use Rattle.css_clean.specs.Policies.{tokens_reason}
use Rattle.css_clean.specs.Views.{place_of}
use Rattle.css_clean.proofs.dropped.tokens_reason.Given as goal

-- What is left decides.
abbrev pub invariant-tokens : goal.invariant-tokens
invariant-tokens l =
    tokens_reason (place_of l.place) (tokens l.value) ≡ tokens_reason (place_of l.place) (tokens l.rest)

abbrev pub decreases-tokens : goal.decreases-tokens
decreases-tokens l = length l.rest
