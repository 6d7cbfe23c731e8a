use Rattle.std.proofs.Common.{map, rules, ◌∙◌}
use Rattle.css_syntax.specs.Views.{list_part_of}
use Rattle.css_syntax.proofs.PlacedSteps.{item-less}
use Rattle.css_lint.specs.PlacedRules.{set_at, sets_in}
use Rattle.css_lint.specs.PlacedViews.{set_of}
use Rattle.css_lint.proofs.PlacedLemmas.{items-done, sets-more}
use Rattle.css_lint.proofs.placed_rules.sets_in.Goals as goal

pub items-smaller : goal.items-smaller
items-smaller c =
    item-less c.args.in_block c.items.rest.now c.in-Some.found.rest.now
    (list_part_of c.in-Some.found.part) c.in-Some.ensures.read

pub items-preserved : goal.items-preserved
items-preserved c = (
  search rules,
  sets-more c.args.in_block c.args.end c.saturating_sub-start.result c.items.rest.now
      c.in-Some.found.rest.now c.in-Some.found.from.now (map set_of c.items.sets.items)
      (map set_of c.push_set.new.sets.items) (list_part_of c.in-Some.found.part)
      c.in-Some.ensures.read c.in-Some.ensures.from c.saturating_sub-start.ensures
      c.in_ok-push_set.ensures
      ∙ c.items.invariant.1,
)

pub returns : goal.returns
returns c =
    items-done (set_at c.args.end) c.args.in_block c.items.rest.now (map set_of c.items.sets.items)
    (sets_in c.args.in_block c.args.end c.args.text.now)
    (rw c.in_default.is at c.read_part.ensures.read) c.items.invariant.1
