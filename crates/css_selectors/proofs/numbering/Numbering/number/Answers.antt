use Rattle.css_selectors.specs.Numberings.{numbered_part}
use Rattle.css_selector_text.specs.Views.{part_of}
use Rattle.css_selectors.proofs.NumberingLemmas.{some_left}
use Rattle.css_selectors.proofs.numbering.Numbering.number.Goals as goal

pub new-requires : goal.new-requires
new-requires c =
    some_left (numbered_part c.as_slice-numbers.result.now) part_of _ _
    c.into_parts-parts.result.0.items c.in_ok-parts.parts.items c.in_ok-parts.ensures c.into_parts-parts.ensures.some
