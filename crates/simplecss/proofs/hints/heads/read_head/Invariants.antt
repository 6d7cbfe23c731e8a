use Rattle.std.proofs.Common.{◌≡◌, ◌++◌, length}
use Rattle.simplecss_grammar.specs.Statements.{parts}
use Rattle.css_text.specs.ThisEdition.{this_edition}
use Rattle.css_text.specs.Cursor.{text_of, rest_of}
use Rattle.simplecss.specs.Hints.{head_parts}
use Rattle.simplecss.specs.internal.HeadViews.{head_parts_of}
use Rattle.simplecss.proofs.hints.heads.read_head.Given as goal

-- The parts so far and those from here on are those of the whole head.
abbrev pub invariant-parts : goal.invariant-parts
invariant-parts l = record {
  same : text_of l.s ≡ text_of l.initial.s;
  read : head_parts_of l.found.items ++ head_parts this_edition (rest_of l.s)
      ≡ head_parts this_edition (rest_of l.initial.s);
  rest : (parts this_edition (rest_of l.s)).1 ≡ (parts this_edition (rest_of l.initial.s)).1;
}

abbrev pub decreases-parts : goal.decreases-parts
decreases-parts l = length (rest_of l.s)
