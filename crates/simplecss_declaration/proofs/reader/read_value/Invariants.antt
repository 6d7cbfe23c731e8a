use Rattle.std.proofs.Common.{◌≡◌, length}
use Rattle.std.specs.Str.{IsUtf8}
use Rattle.css_text.specs.Reading.{each, Ends, last_or}
use Rattle.simplecss_grammar.specs.Declarations.{term_in_value}
use Rattle.css_text.specs.ThisEdition.{this_edition}
use Rattle.css_text.specs.Cursor.{text_of, rest_of}
use Rattle.simplecss_declaration.proofs.reader.read_value.Given as goal

-- The terms from here on and the end of the last one so far determine the end of the last of all.
abbrev pub invariant-terms : goal.invariant-terms
invariant-terms l = record {
  same : text_of l.s ≡ text_of l.initial.s;
  last : last_or l.end (each (term_in_value this_edition) (rest_of l.s)).0
      ≡ last_or l.start (each (term_in_value this_edition) l.start).0;
  left : (each (term_in_value this_edition) (rest_of l.s)).1
      ≡ (each (term_in_value this_edition) l.start).1;
  begins : Ends l.start l.end;
  after : Ends l.end (rest_of l.s);
  utf8 : IsUtf8 l.end;
}

abbrev pub decreases-terms : goal.decreases-terms
decreases-terms l = length (rest_of l.s)
