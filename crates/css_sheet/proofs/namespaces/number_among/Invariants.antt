use Rattle.std.proofs.Common.{◌≡◌, ◌+◌, ◌≤◌, length}
use Rattle.css_selector_text.specs.NameViews.{texts_of}
use Rattle.css_sheet.specs.Namespaces.{number_from}
use Rattle.css_sheet.proofs.namespaces.number_among.Given as goal

-- the number among those that are left, of which the first has this number
abbrev pub invariant-urls : goal.invariant-urls
invariant-urls l =
    (number_from l.number (texts_of l.rest) l.url ≡ number_from 1 (texts_of l.known) l.url)
    × (l.number + length l.rest ≤ length l.known + 1)

abbrev pub decreases-urls : goal.decreases-urls
decreases-urls l = length l.rest
