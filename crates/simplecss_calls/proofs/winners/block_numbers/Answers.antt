use Rattle.std.proofs.Common.{rules, true, ◌∙◌}
use Rattle.css_syntax.specs.Views.{list_part_of}
use Rattle.css_syntax.proofs.PlacedSteps.{item-less}
use Rattle.simplecss_calls.specs.WinnerNumbers.{block_numbers}
use Rattle.simplecss_calls.proofs.WinnerSteps.{item-numbered, items-numbered}
use Rattle.simplecss_calls.proofs.winners.block_numbers.Goals as goal

pub items-smaller : goal.items-smaller
items-smaller c =
    item-less true c.items.rest.now c.in-Some.part.rest.now (list_part_of c.in-Some.part.part)
    c.in-Some.ensures.read

pub items-preserved : goal.items-preserved
items-preserved c = (
  search rules,
  item-numbered c.args.end c.items.rest.now c.in-Some.part.rest.now c.in-Some.part.from.now
      c.items.found.items c.push_item.new.found.items (list_part_of c.in-Some.part.part)
      c.in-Some.ensures.read c.in-Some.ensures.from c.in_ok-push_item.ensures
      ∙ c.items.invariant.1,
)

pub returns : goal.returns
returns c =
    items-numbered c.args.end c.items.rest.now c.items.found.items
    (block_numbers c.args.end c.args.block.now) (rw c.in_default.is at c.read_part.ensures.read)
    c.items.invariant.1
