use Rattle.std.proofs.Common.{◌≡◌, length, map}
use Rattle.css_selector_text.specs.NameViews.{names_of, prefix_of}
use Rattle.css_selector_text.specs.Names.{last_number, number_of}
use Rattle.css_selector_text.proofs.names.number_of.Given as goal

-- the last of those so far, unless one is left
abbrev pub invariant-prefixes : goal.invariant-prefixes
invariant-prefixes l =
    last_number l.found (map prefix_of l.rest) l.prefix ≡ number_of (names_of l.fn.names) l.prefix

abbrev pub decreases-prefixes : goal.decreases-prefixes
decreases-prefixes l = length l.rest
