use Rattle.std.proofs.Common.{◌≡◌, ◌++◌, true, length, map, string_bytes}
use denote.Text.{Utf8}
use denote.Shadow.{shadow}
use Rattle.css_syntax.specs.Statements.{statements}
use Rattle.css_syntax.specs.Placed.{placed_statements}
use Rattle.css_clean.specs.KeptSheets.{kept_inner, rules_text}
use Rattle.css_clean.specs.DroppedSheets.{dropped_inner}
use Rattle.css_clean.specs.Views.{sheet_policy_of, dropped_of}
use Rattle.css_clean.proofs.sheet.keep_inner.Given as goal

-- Those that were found, and what is left.
abbrev pub invariant-parts : goal.invariant-parts
invariant-parts l =
    shadow (Utf8 l.rest)
    × (string_bytes l.fn.out ++ rules_text (kept_inner (sheet_policy_of l.policy) l.in_frames (statements true l.text))
    ≡ string_bytes l.out ++ rules_text (kept_inner (sheet_policy_of l.policy) l.in_frames (statements true l.rest)))
    × (map dropped_of l.fn.dropped.items
    ++ dropped_inner (sheet_policy_of l.policy) l.in_frames l.stop (placed_statements true l.text)
    ≡ map dropped_of l.dropped.items
    ++ dropped_inner (sheet_policy_of l.policy) l.in_frames l.stop (placed_statements true l.rest))

abbrev pub decreases-parts : goal.decreases-parts
decreases-parts l = length l.rest
