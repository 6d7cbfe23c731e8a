-- The elements so far are answered.
use Rattle.std.proofs.Common.{◌≡◌, ◌<◌, ◌↔◌, ℕ, IsTrue, length, get_or, false}
use Rattle.css_tree.specs.Marks.{MatchesOne}
use Rattle.css_tree.proofs.numbered_tree.NumberedTree.matched.Given as goal

abbrev pub invariant-loop-index : goal.invariant-loop-index
invariant-loop-index l = record {
  all : length l.answers.items ≡ l.index;
  each : (i : ℕ) → i < l.index
      → IsTrue (get_or l.answers.items i false) ↔ MatchesOne l.list l.self i;
}
