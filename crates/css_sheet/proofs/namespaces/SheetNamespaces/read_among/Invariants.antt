use Rattle.std.proofs.Common.{◌≡◌, false, length}
use denote.Shadow.{shadow}
use denote.Text.{Utf8}
use Rattle.css_syntax.specs.Placed.{placed_statements}
use Rattle.css_selector_text.specs.NameViews.{texts_of}
use Rattle.css_sheet.specs.Namespaces.{names_from, names_among}
use Rattle.css_sheet.specs.NamespaceViews.{names_owned}
use Rattle.css_sheet.proofs.namespaces.SheetNamespaces.read_among.Given as goal

-- The names so far, with what the rest declares, are all.
abbrev pub invariant-statements : goal.invariant-statements
invariant-statements l = record {
  utf8 : shadow (Utf8 l.rest);
  all : names_from (texts_of l.known) l.is_begun (names_owned l.read) (placed_statements false l.rest)
      ≡ names_among (texts_of l.known) l.text;
}

abbrev pub decreases-statements : goal.decreases-statements
decreases-statements l = length l.rest
