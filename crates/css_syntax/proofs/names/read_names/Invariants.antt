use Rattle.std.proofs.Common.{◌≡◌, ◌≤◌, ◌+◌, ◌++◌, map, length}
use Rattle.css_syntax.specs.TokenLists.{tokens}
use Rattle.css_syntax.specs.NameLists.{names_from, names}
use Rattle.css_syntax.specs.NameViews.{name_of, scan_of}
use Rattle.css_syntax.proofs.names.read_names.Given as goal

-- what was found, and then the names of what is left, are those of the text
abbrev pub invariant-tokens : goal.invariant-tokens
invariant-tokens l = record {
  so_far : map name_of l.found.items ++ names_from (scan_of l.scanned) (tokens l.rest)
      ≡ names l.text;
  shallow : l.scanned.depth + length l.rest ≤ length l.text;
}

abbrev pub decreases-tokens : goal.decreases-tokens
decreases-tokens l = length l.rest
