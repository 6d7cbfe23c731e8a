use Rattle.std.proofs.Common.{◌≡◌, length}
use Rattle.std.specs.Str.{IsUtf8}
use Rattle.simplecss_grammar.specs.Declarations.{terms}
use Rattle.css_text.specs.ThisEdition.{this_edition}
use Rattle.css_text.specs.Cursor.{text_of, rest_of}
use Rattle.simplecss_declaration.proofs.reader.past_terms.Given as goal

-- The terms from here on end where those of the whole do.
abbrev pub invariant-terms : goal.invariant-terms
invariant-terms l = record {
  same : text_of l.s ≡ text_of l.initial.s;
  from : l.from ≡ rest_of l.s;
  left : (terms this_edition (rest_of l.s)).1 ≡ (terms this_edition (rest_of l.initial.s)).1;
  utf8 : IsUtf8 l.from;
}

abbrev pub decreases-terms : goal.decreases-terms
decreases-terms l = length (rest_of l.s)
