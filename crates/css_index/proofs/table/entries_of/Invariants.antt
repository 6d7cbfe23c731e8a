use Rattle.std.proofs.Common.{◌≡◌, map, take}
use Rattle.css_index.specs.internal.Filed.{entry_of, entries_of}
use Rattle.css_index.proofs.table.entries_of.Given as goal

-- the entries of the rules so far
abbrev pub invariant-loop-rule : goal.invariant-loop-rule
invariant-loop-rule l =
    map entry_of l.entries.items ≡ entries_of (map (λ s. s.now) (take l.rule l.selectors))
