-- What contracts see of components of values, and of rows of the table.
use Rattle.css_values.specs.declared.refused.Component.{Component as ComponentCode}
use Rattle.css_values.specs.declared.refused.Component.TheVariants as codes
use Rattle.css_values.specs.declared.refused.Found.{Found as FoundCode}
use Rattle.css_values.specs.declared.refused.Quirks.{Quirks as QuirksCode}
use Rattle.css_values.specs.declared.refused.Row.{Row as RowCode}
use Rattle.css_values.specs.declared.refused.Sorts.{Sorts as SortsCode}
use Rattle.css_values.specs.Refused.{Component, Found, Quirks, Row, Sorts, word, number, zero, classed, sign, foreign, substituted, other}

abbrev pub component_of : ComponentCode → Component
component_of (codes.Word text) = word text.now
component_of codes.Number = number
component_of codes.Zero = zero
component_of (codes.Classed letter) = classed letter
component_of codes.Sign = sign
component_of codes.Foreign = foreign
component_of codes.Substituted = substituted
component_of codes.Other = other

abbrev pub quirks_of : QuirksCode → Quirks
quirks_of q = record { lengths = q.lengths; colors = q.colors }

abbrev pub sorts_of : SortsCode → Sorts
sorts_of s = record { letters = s.letters.now; words = s.words.now; quirks = quirks_of s.quirks }

abbrev pub row_of : RowCode → Row
row_of r = record { most = r.most; alone = sorts_of r.alone; parts = sorts_of r.parts }

abbrev pub found_of : FoundCode → Found
found_of f = record {
  count = f.count;
  sign = f.sign;
  foreign = f.foreign;
  substituted = f.substituted;
  other = f.other;
}
