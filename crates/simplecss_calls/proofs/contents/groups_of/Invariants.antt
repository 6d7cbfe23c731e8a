use Rattle.std.proofs.Common.{◌≡◌, ◌++◌, length, map}
use Rattle.css_styles.specs.StyleViews.{names_of}
use Rattle.simplecss_calls.specs.WinnerNumbers.{groups_in}
use Rattle.simplecss_calls.proofs.contents.groups_of.Given as goal

-- the groups so far, and those of the names that are left
abbrev pub invariant-counts : goal.invariant-counts
invariant-counts l =
    names_of l.groups.items ++ groups_in l.left (map (λ name. name.now) l.rest)
    ≡ groups_in l.counts (map (λ name. name.now) l.names)

abbrev pub decreases-counts : goal.decreases-counts
decreases-counts l = length l.left
