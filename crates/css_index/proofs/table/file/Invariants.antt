use Rattle.std.proofs.Common.{map, take}
use Rattle.css_index.specs.internal.Filed.{entry_of, AreFiled}
use Rattle.css_index.proofs.table.file.Given as goal

-- the entries so far are filed
abbrev pub invariant-loop-entry : goal.invariant-loop-entry
invariant-loop-entry l = AreFiled (map entry_of (take l.entry-index l.entries)) l.buckets.items
