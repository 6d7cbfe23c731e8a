use Rattle.std.proofs.Common.{◌≡◌, length, IsUtf8}
use Rattle.css_text.specs.Reading.{each}
use Rattle.css_sheet.specs.ImportRules.{value_part}
use Rattle.css_sheet.proofs.import_rules.past_values.Given as goal

abbrev pub invariant-values : goal.invariant-values
invariant-values l = IsUtf8 l.rest × ((each value_part l.rest).1 ≡ (each value_part l.text).1)

abbrev pub decreases-values : goal.decreases-values
decreases-values l = length l.rest
