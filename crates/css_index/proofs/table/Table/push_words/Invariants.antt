use Rattle.std.proofs.Common.{map, take}
use Rattle.css_selectors.specs.Keys.Key.{by_class}
use Rattle.css_index.specs.internal.Added.{AreAdded}
use Rattle.css_index.specs.internal.Filed.{found_by_any}
use Rattle.css_index.proofs.table.Table.push_words.Given as goal

-- of what was found by the words so far what is kept was added
abbrev pub invariant-loop-word : goal.invariant-loop-word
invariant-loop-word g l =
    AreAdded (g.K.Keeping.Keeps l.kept) l.initial.indices.items (found_by_any l.self
    (map by_class (map (λ word. word.now) (take l.word-index l.word-items)))) l.indices.items
