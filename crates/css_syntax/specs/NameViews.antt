-- What contracts see of names.
use Rattle.std.specs.Prelude.{ℕ}
use Rattle.css_syntax.specs.declared.names.Name.{Name}
use Rattle.css_syntax.specs.declared.names.Scanned.{Scanned}
use Rattle.css_syntax.specs.NameLists.{PlacedName, Scan}

abbrev pub name_of : Name → PlacedName
name_of n = record {
  kind = n.kind;
  from = n.from.now;
  name = n.name.now;
  rest = n.rest.now;
  depth = n.depth;
  negated = n.negated;
}

abbrev pub scan_of : Scanned → Scan
scan_of s = record {
  mark = s.mark;
  from = s.from.now;
  depth = s.depth;
  negated = s.negated;
  plain = s.plain;
  bracket = s.bracket;
}
