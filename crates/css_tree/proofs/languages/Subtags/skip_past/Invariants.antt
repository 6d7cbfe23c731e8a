use Rattle.std.proofs.Common.{◌≡◌, length}
use Rattle.css_tree.specs.Languages.{after_subtag}
use Rattle.css_tree.proofs.languages.Subtags.skip_past.Given as goal

-- what was skipped changes nothing
abbrev pub invariant-subtags : goal.invariant-subtags
invariant-subtags l =
    after_subtag l.wanted l.initial.self ≡ after_subtag l.wanted l.self

abbrev pub decreases-subtags : goal.decreases-subtags
decreases-subtags l = length l.self
