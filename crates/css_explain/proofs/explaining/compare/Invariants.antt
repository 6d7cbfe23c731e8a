use Rattle.std.proofs.Common.{◌≡◌, ◌++◌, None, length, map, option_map}
use Rattle.css_cascade.specs.WeightViews.{weighed}
use Rattle.css_explain.specs.Explanations.{losing}
use Rattle.css_explain.specs.ExplainViews.{explained_of}
use Rattle.css_explain.specs.internal.Parts.{contender_of}
use Rattle.css_explain.proofs.explaining.compare.Given as goal

-- those so far, and those that are left
abbrev pub invariant-found : goal.invariant-found
invariant-found l =
    map explained_of l.all.items ++ losing (option_map weighed l.before) (map contender_of l.left)
    ≡ losing None (map contender_of l.found)

abbrev pub decreases-found : goal.decreases-found
decreases-found l = length l.left
