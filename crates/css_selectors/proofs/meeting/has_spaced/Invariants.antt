use Rattle.std.proofs.Common.{◌≡◌, ◌≤◌, ◌-◌, Bool, List, drop, length}
use Rattle.std.specs.List.{list_any}
use Rattle.css_selectors.specs.Documents.{NamespacedAttribute}
use Rattle.css_selectors.specs.Meanings.{accepts, is_spaced}
use Rattle.css_selector_text.specs.Views.{local_of}
use Rattle.css_selectors.proofs.meeting.has_spaced.Given as goal

-- one of those from the index on is such an attribute, if one of all is
abbrev pub invariant-attributes : goal.invariant-attributes
invariant-attributes g l =
    let all : List NamespacedAttribute = g.E.Element.document.namespaced_attributes (g.E.Element.node l.element) in
    let wanted : NamespacedAttribute → Bool = is_spaced l.number l.name (accepts (local_of l.local)) in
    (l.index ≤ length all) × (list_any wanted (drop l.index all) ≡ list_any wanted all)

abbrev pub decreases-attributes : goal.decreases-attributes
decreases-attributes g l =
    length (g.E.Element.document.namespaced_attributes (g.E.Element.node l.element)) - l.index
