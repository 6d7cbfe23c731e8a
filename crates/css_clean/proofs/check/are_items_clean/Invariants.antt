use Rattle.std.proofs.Common.{◌≡◌, false, length}
use denote.Text.{Utf8}
use denote.Shadow.{shadow}
use Rattle.css_syntax.specs.DeclarationLists.{items}
use Rattle.css_clean.specs.Sheets.{are_items_clean}
use Rattle.css_clean.specs.Views.{policy_of}
use Rattle.css_clean.proofs.check.are_items_clean.Given as goal

-- What is left decides.
abbrev pub invariant-parts : goal.invariant-parts
invariant-parts l =
    shadow (Utf8 l.rest)
    × (are_items_clean (policy_of l.policy) (items false l.text)
    ≡ are_items_clean (policy_of l.policy) (items false l.rest))

abbrev pub decreases-parts : goal.decreases-parts
decreases-parts l = length l.rest
