use Rattle.std.proofs.Common.{◌≡◌, length, map}
use Rattle.std.specs.List.{list_all}
use Rattle.css_selector_text.specs.Views.{part_of}
use Rattle.css_selectors.specs.internal.PlainParts.{is_plain_part}
use Rattle.css_selectors.proofs.numbering.are_plain_parts.Given as goal

-- those so far are plain
abbrev pub invariant-parts : goal.invariant-parts
invariant-parts l =
    list_all is_plain_part (map part_of l.rest) ≡ list_all is_plain_part (map part_of l.parts)

abbrev pub decreases-parts : goal.decreases-parts
decreases-parts l = length l.rest
