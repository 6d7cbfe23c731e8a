use Rattle.std.proofs.Common.{◌≡◌, length, map}
use Rattle.css_selector_text.specs.reading.KnownNames.{is_one_of}
use Rattle.css_selector_text.proofs.reading.known_names.is_one_of.Given as goal

-- it is none of the names so far
abbrev pub invariant-names : goal.invariant-names
invariant-names l =
    is_one_of (map (λ one. one.now) l.rest) l.name ≡ is_one_of (map (λ one. one.now) l.names) l.name

abbrev pub decreases-names : goal.decreases-names
decreases-names l = length l.rest
