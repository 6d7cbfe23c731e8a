use Rattle.std.proofs.Common.{◌≡◌, ◌<◌, ◌-◌, Some, map, take}
use Rattle.std.specs.List.{slice_get}
use Rattle.css_selectors.specs.KeyViews.{key_of}
use Rattle.css_index.specs.declared.filed_key.FiledKey.{FiledKey}
use Rattle.css_index.specs.internal.Added.{AreAdded}
use Rattle.css_index.specs.internal.Filed.{entry_of, found_by, is_found_by}
use Rattle.css_index.proofs.table.Table.push_filed.Given as goal

-- of what the entries so far have for the key what is kept was added, and whether the last of them has it is
-- known
abbrev pub invariant-loop-entry : goal.invariant-loop-entry
invariant-loop-entry g l =
    AreAdded (g.K.Keeping.Keeps l.kept) l.initial.indices.items
    (found_by (map entry_of (take l.entry-index l.entry-items)) (key_of l.key)) l.indices.items
    × ((last : FiledKey) → 0 < l.entry-index → slice_get l.entry-items (l.entry-index - 1) ≡ Some last
    → l.found ≡ is_found_by (key_of l.key) (entry_of last))
