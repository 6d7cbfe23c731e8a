use Rattle.std.proofs.Common.{◌≡◌, ◌++◌, length, map}
use Rattle.css_selector_text.specs.NameViews.{prefix_of}
use Rattle.call_answers.specs.Elements.{prefixes_with}
use Rattle.call_answers.proofs.elements.prefixes_with.Given as goal

-- the prefixes so far, and those that are left
abbrev pub invariant-names : goal.invariant-names
invariant-names l =
    map prefix_of l.found.items ++ prefixes_with (map (λ name. name.now) l.left) l.more
    ≡ prefixes_with (map (λ name. name.now) l.names) l.numbers

abbrev pub decreases-names : goal.decreases-names
decreases-names l = length l.left
