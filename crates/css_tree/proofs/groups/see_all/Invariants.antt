use Rattle.std.proofs.Common.{◌≡◌, length}
use Rattle.css_tree.specs.GroupViews.{AreBefore, AreAll}
use Rattle.css_tree.proofs.groups.see_all.Given as goal

-- the members so far
abbrev pub invariant-loop-i : goal.invariant-loop-i
invariant-loop-i l =
    (length l.before.items ≡ l.i)
    × AreBefore l.numbers l.before.items l.i
    × AreAll l.numbers l.all l.i
