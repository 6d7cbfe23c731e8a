use Rattle.std.proofs.Common.{◌≡◌, length}
use Rattle.css_tree.specs.Languages.{are_found}
use Rattle.css_tree.proofs.languages.are_found.Given as goal

-- what was found leaves the question
abbrev pub invariant-range : goal.invariant-range
invariant-range l = are_found l.initial.range l.initial.tag ≡ are_found l.range l.tag

abbrev pub decreases-range : goal.decreases-range
decreases-range l = length l.range
