use Rattle.std.proofs.Common.{◌≡◌, false, length}
use denote.Text.{Utf8}
use denote.Shadow.{shadow}
use Rattle.css_syntax.specs.Statements.{statements}
use Rattle.css_clean.specs.Sheets.{are_inner_clean}
use Rattle.css_clean.specs.Views.{sheet_policy_of}
use Rattle.css_clean.proofs.check.are_inner_clean.Given as goal

-- What is left decides.
abbrev pub invariant-parts : goal.invariant-parts
invariant-parts l =
    shadow (Utf8 l.rest)
    × (are_inner_clean (sheet_policy_of l.policy) l.in_frames (statements false l.text)
    ≡ are_inner_clean (sheet_policy_of l.policy) l.in_frames (statements false l.rest))

abbrev pub decreases-parts : goal.decreases-parts
decreases-parts l = length l.rest
