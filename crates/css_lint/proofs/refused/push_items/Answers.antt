use Rattle.std.proofs.Common.{map, rules, ◌∙◌, ◌++◌}
use Rattle.css_syntax.specs.Views.{list_part_of}
use Rattle.css_syntax.proofs.PlacedSteps.{item-less}
use Rattle.css_lint.specs.Places.{place_of}
use Rattle.css_lint.specs.Refused.{refused_at, refused_in}
use Rattle.css_lint.proofs.PlacedLemmas.{items-done, refused-more}
use Rattle.css_lint.proofs.refused.push_items.Goals as goal

pub items-smaller : goal.items-smaller
items-smaller c =
    item-less c.args.in_block c.items.rest.now c.in-Some.part.rest.now
    (list_part_of c.in-Some.part.part) c.in-Some.ensures.read

pub items-preserved : goal.items-preserved
items-preserved c = (
  search rules,
  refused-more c.args.values.in_quirks c.args.in_block c.args.end c.saturating_sub-start.result c.items.rest.now
      c.in-Some.part.rest.now c.in-Some.part.from.now (map place_of c.items.found.items)
      (map place_of c.push_item.new.found.items) (list_part_of c.in-Some.part.part)
      c.in-Some.ensures.read c.in-Some.ensures.from c.saturating_sub-start.ensures
      c.in_ok-push_item.ensures
      ∙ c.items.invariant.1,
)

pub returns : goal.returns
returns c =
    items-done (refused_at c.args.values.in_quirks c.args.end) c.args.in_block c.items.rest.now (map place_of c.items.found.items)
    (map place_of c.args.found.now.items ++ refused_in c.args.values.in_quirks c.args.in_block c.args.end c.args.text.now)
    (rw c.in_default.is at c.read_part.ensures.read) c.items.invariant.1
