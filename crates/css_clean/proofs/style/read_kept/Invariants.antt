use Rattle.std.proofs.Common.{◌≡◌, ◌++◌, length, map}
use denote.Text.{Utf8}
use denote.Shadow.{shadow}
use Rattle.css_syntax.specs.DeclarationLists.{items}
use Rattle.css_syntax.specs.Placed.{placed_items}
use Rattle.css_clean.specs.Cleaning.{kept, dropped}
use Rattle.css_clean.specs.Views.{policy_of, dropped_of, written_of}
use Rattle.css_clean.proofs.style.read_kept.Given as goal

-- Those that were found, and what is left.
abbrev pub invariant-parts : goal.invariant-parts
invariant-parts l =
    shadow (Utf8 l.rest)
    × (kept (policy_of l.policy) (items l.in_block l.text)
    ≡ map written_of l.out.items ++ kept (policy_of l.policy) (items l.in_block l.rest))
    × (map dropped_of l.fn.dropped.items
    ++ dropped (policy_of l.policy) l.stop (placed_items l.in_block l.text)
    ≡ map dropped_of l.dropped.items
    ++ dropped (policy_of l.policy) l.stop (placed_items l.in_block l.rest))

abbrev pub decreases-parts : goal.decreases-parts
decreases-parts l = length l.rest
