use Rattle.std.proofs.Common.{◌≡◌, ◌++◌, map, length}
use Rattle.std.specs.List.{flat_map}
use Rattle.css_syntax.specs.NameLists.{names}
use Rattle.css_syntax.specs.NameViews.{name_of}
use Rattle.sheet_calls.specs.NumberLines.{name_numbers}
use Rattle.sheet_calls.proofs.tokens.push_names.Given as goal

-- the numbers of the names so far, and of those that are left
abbrev pub invariant-names : goal.invariant-names
invariant-names l =
    l.out.items ++ flat_map (name_numbers l.end) (map name_of l.left)
    ≡ l.initial.out.items ++ flat_map (name_numbers l.end) (names l.text)

abbrev pub decreases-names : goal.decreases-names
decreases-names l = length l.left
