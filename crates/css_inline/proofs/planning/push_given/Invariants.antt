use Rattle.std.specs.List.{All}
use Rattle.css_inline.specs.Inlining.{IsOfStyle}
use Rattle.css_inline.proofs.planning.push_given.Given as goal

abbrev pub invariant-loop-kept : goal.invariant-loop-kept
invariant-loop-kept l = All IsOfStyle l.edits.items
