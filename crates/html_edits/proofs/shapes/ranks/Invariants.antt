use Rattle.std.proofs.Common.{◌≡◌, ◌≤◌, ◌+◌, ◌++◌, map, length}
use Rattle.css_html.specs.Views.{token_of}
use Rattle.html_edits.specs.Shapes.{ranks_from}
use Rattle.html_edits.proofs.shapes.ranks.Given as goal

abbrev pub invariant-tags : goal.invariant-tags
invariant-tags l = record {
  few : l.next + length l.rest ≤ length l.tags;
  all : l.found.items ++ ranks_from l.language l.next (map token_of l.rest) ≡ ranks_from l.language 0 (map token_of l.tags);
}

abbrev pub decreases-tags : goal.decreases-tags
decreases-tags l = length l.rest
