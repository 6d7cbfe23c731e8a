use Rattle.std.proofs.Common.{◌≡◌, length}
use Rattle.css_text.specs.Reading.{each}
use Rattle.simplecss_grammar.specs.Declarations.{semicolon}
use Rattle.css_text.specs.Cursor.{text_of, rest_of}
use Rattle.simplecss_declaration.proofs.reader.skip_semicolons.Given as goal

abbrev pub invariant-semicolons : goal.invariant-semicolons
invariant-semicolons l = record {
  same : text_of l.s ≡ text_of l.initial.s;
  rest : (each semicolon (rest_of l.s)).1 ≡ (each semicolon (rest_of l.initial.s)).1;
}

abbrev pub decreases-semicolons : goal.decreases-semicolons
decreases-semicolons l = length (rest_of l.s)
