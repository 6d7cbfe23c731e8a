use Rattle.std.specs.List.{All}
use Rattle.css_inline.specs.Inlining.{IsOfStyle}
use Rattle.css_inline.proofs.planning.edits_of.Given as goal

abbrev pub invariant-loop-tag : goal.invariant-loop-tag
invariant-loop-tag l = All IsOfStyle l.edits.found.items
