use Rattle.std.proofs.Common.{◌≡◌, ◌++◌, length, map}
use Rattle.std.specs.List.{flat_map}
use Rattle.css_explain.specs.ExplainViews.{explained_of}
use Rattle.simplecss_calls.specs.ExplainNumbers.{explained_line, explained_numbers}
use Rattle.simplecss_calls.proofs.explained.push_line.Given as goal

-- the numbers of the declarations so far, and of those that are left
abbrev pub invariant-all : goal.invariant-all
invariant-all l =
    l.out.items ++ flat_map (explained_numbers l.rules) (map explained_of l.left)
    ≡ l.fn.out.items ++ explained_line l.rules (map explained_of l.all)

abbrev pub decreases-all : goal.decreases-all
decreases-all l = length l.left
