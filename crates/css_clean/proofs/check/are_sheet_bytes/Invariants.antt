use Rattle.std.proofs.Common.{◌≡◌, length}
use Rattle.css_clean.specs.Sheets.{are_sheet_bytes}
use Rattle.css_clean.proofs.check.are_sheet_bytes.Given as goal

-- What is left decides.
abbrev pub invariant-bytes : goal.invariant-bytes
invariant-bytes l = are_sheet_bytes l.bytes ≡ are_sheet_bytes l.left

abbrev pub decreases-bytes : goal.decreases-bytes
decreases-bytes l = length l.left
