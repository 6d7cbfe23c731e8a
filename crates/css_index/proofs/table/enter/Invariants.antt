use Rattle.std.proofs.Common.{◌≡◌, ◌++◌, map, take}
use Rattle.css_selectors.specs.KeyViews.{key_of}
use Rattle.css_index.specs.internal.Filed.{entry_of, with_index}
use Rattle.css_index.proofs.table.enter.Given as goal

-- the entries of the keys so far
abbrev pub invariant-loop-key : goal.invariant-loop-key
invariant-loop-key l =
    map entry_of l.entries.items
    ≡ map entry_of l.initial.entries.items
    ++ with_index l.rule (map key_of (take l.key-index l.keys))
