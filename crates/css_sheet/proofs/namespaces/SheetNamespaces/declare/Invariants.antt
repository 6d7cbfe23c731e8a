use Rattle.std.proofs.Common.{◌≡◌, ◌++◌, length, map}
use Rattle.css_selector_text.specs.NameViews.{prefix_of}
use Rattle.css_sheet.specs.NamespaceViews.{own_prefix}
use Rattle.css_sheet.proofs.namespaces.SheetNamespaces.declare.Given as goal

-- those so far, and those that are left
abbrev pub invariant-prefixes : goal.invariant-prefixes
invariant-prefixes l =
    map prefix_of l.prefixes.items ++ map own_prefix l.rest ≡ map own_prefix l.self.prefixes.items

abbrev pub decreases-prefixes : goal.decreases-prefixes
decreases-prefixes l = length l.rest
