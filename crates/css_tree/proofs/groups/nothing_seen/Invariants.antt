use Rattle.std.proofs.Common.{◌≡◌, ℕ, length, get_or}
use Rattle.css_tree.specs.GroupViews.{nothing_seen}
use Rattle.css_tree.proofs.groups.nothing_seen.Given as goal

-- as many as were pushed, and none has a member
abbrev pub invariant-loop-number : goal.invariant-loop-number
invariant-loop-number l =
    (length l.all.items ≡ l.number)
    × ((i : ℕ) → get_or l.all.items i nothing_seen ≡ nothing_seen)
