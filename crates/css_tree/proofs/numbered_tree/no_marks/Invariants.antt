use Rattle.std.proofs.Common.{◌≡◌, ℕ, length, get_or, false}
use Rattle.css_tree.proofs.numbered_tree.no_marks.Given as goal

-- as many as were pushed, and none is true
abbrev pub invariant-loop-index : goal.invariant-loop-index
invariant-loop-index l =
    (length l.marks.items ≡ l.index) × ((i : ℕ) → get_or l.marks.items i false ≡ false)
