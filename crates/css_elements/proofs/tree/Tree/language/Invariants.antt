use Rattle.std.proofs.Common.{◌≡◌, ◌<◌, length}
use Rattle.css_elements.specs.TreeNodes.{language_at}
use Rattle.css_elements.proofs.tree.Tree.language.Given as goal

-- the language is that of the nearest
abbrev pub invariant-loop-language : goal.invariant-loop-language
invariant-loop-language l =
    (l.nearest < length l.self) × (language_at l.self l.index ≡ language_at l.self l.nearest)

abbrev pub decreases-loop-language : goal.decreases-loop-language
decreases-loop-language l = l.nearest
