use Rattle.std.proofs.Common.{◌≡◌, ◌++◌, false, length, map, string_bytes}
use denote.Text.{Utf8}
use denote.Shadow.{shadow}
use Rattle.css_syntax.specs.Statements.{statements}
use Rattle.css_syntax.specs.Placed.{placed_statements}
use Rattle.css_clean.specs.KeptSheets.{kept_statements, sheet_text}
use Rattle.css_clean.specs.DroppedSheets.{dropped_statements}
use Rattle.css_clean.specs.Views.{sheet_policy_of, dropped_of}
use Rattle.css_clean.proofs.sheet.keep_statements.Given as goal

-- Those that were found, and what is left.
abbrev pub invariant-parts : goal.invariant-parts
invariant-parts l =
    shadow (Utf8 l.rest)
    × (sheet_text (kept_statements (sheet_policy_of l.policy) (statements false l.text))
    ≡ string_bytes l.out
    ++ sheet_text (kept_statements (sheet_policy_of l.policy) (statements false l.rest)))
    × (dropped_statements (sheet_policy_of l.policy) l.stop (placed_statements false l.text)
    ≡ map dropped_of l.dropped.items
    ++ dropped_statements (sheet_policy_of l.policy) l.stop (placed_statements false l.rest))

abbrev pub decreases-parts : goal.decreases-parts
decreases-parts l = length l.rest
