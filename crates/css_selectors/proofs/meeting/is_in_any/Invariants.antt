use Rattle.std.proofs.Common.{◌≡◌, length, map}
use Rattle.std.specs.List.{list_any}
use Rattle.std.specs.Cow.{cow_str_bytes}
use Rattle.css_selectors.proofs.meeting.is_in_any.Given as goal

abbrev pub invariant-languages : goal.invariant-languages
invariant-languages g l = (let n = g.E.Element.node l.element in
    list_any (g.E.Element.document.is_in_language n) (map cow_str_bytes l.rest)
    ≡ list_any (g.E.Element.document.is_in_language n) (map cow_str_bytes l.ranges))

abbrev pub decreases-languages : goal.decreases-languages
decreases-languages g l = length l.rest
