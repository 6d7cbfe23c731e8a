use Rattle.std.proofs.Common.{◌≡◌, length, IsUtf8}
use Rattle.css_text.specs.Reading.{each}
use Rattle.css_sheet.specs.SheetParts.{run_part}
use Rattle.css_sheet.proofs.parts.past_run.Given as goal

abbrev pub invariant-parts : goal.invariant-parts
invariant-parts l = IsUtf8 l.rest × ((each run_part l.rest).1 ≡ (each run_part l.text).1)

abbrev pub decreases-parts : goal.decreases-parts
decreases-parts l = length l.rest
