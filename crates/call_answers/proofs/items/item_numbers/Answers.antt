use Rattle.std.proofs.Common.{rules, ◌∙◌}
use Rattle.css_syntax.specs.Views.{list_part_of}
use Rattle.css_syntax.proofs.PlacedSteps.{item-less}
use Rattle.call_answers.specs.ItemNumbers.{item_numbers}
use Rattle.call_answers.proofs.PlacedNumbers.{item-more, items-done}
use Rattle.call_answers.proofs.items.item_numbers.Goals as goal

pub items-smaller : goal.items-smaller
items-smaller c =
    item-less c.args.in_block c.items.rest.now c.in-Some.found.rest.now
    (list_part_of c.in-Some.found.part) c.in-Some.ensures.read

pub items-preserved : goal.items-preserved
items-preserved c = (
  search rules,
  item-more c.args.end c.args.in_block c.items.rest.now c.in-Some.found.rest.now
      c.in-Some.found.from.now c.in-Some.found.inside.now c.items.out.items
      c.push_item.new.out.items (list_part_of c.in-Some.found.part)
      c.in-Some.ensures.read c.in-Some.ensures.from c.in-Some.ensures.inside c.in_ok-push_item.ensures
      ∙ c.items.invariant.1,
)

pub returns : goal.returns
returns c =
    items-done c.args.end c.args.in_block c.items.rest.now c.items.out.items
    (item_numbers c.args.end c.args.in_block c.args.text.now)
    (rw c.in_default.is at c.read_part.ensures.read) c.items.invariant.1
