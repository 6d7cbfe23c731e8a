use Rattle.std.proofs.Common.{◌≡◌, length, map}
use Rattle.simplecss_calls.specs.internal.Held.{is_among}
use Rattle.simplecss_calls.proofs.held.is_among.Given as goal

abbrev pub invariant-names : goal.invariant-names
invariant-names l =
    is_among (map (λ name. name.now) l.left) l.keyword
    ≡ is_among (map (λ name. name.now) l.names) l.keyword

abbrev pub decreases-names : goal.decreases-names
decreases-names l = length l.left
