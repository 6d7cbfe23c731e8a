use Rattle.std.proofs.Common.{◌≡◌, ◌++◌, ◌∷◌, [], ◌∙◌, ap, sym, true, map, append-nil, append_assoc, rules}
use Rattle.css_syntax.specs.Placed.{placed_items}
use Rattle.css_syntax.specs.Views.{list_part_of}
use Rattle.css_syntax.proofs.PlacedSteps.{item-less, placed-items-some, placed-items-none}
use Rattle.css_edits.specs.Entries.{item_entry}
use Rattle.css_edits.specs.internal.Views.{entry_of}
use Rattle.css_edits.proofs.Items.{one_more, all_done}
use Rattle.css_edits.proofs.entries.items_in.Goals as goal

pub items-smaller : goal.items-smaller
items-smaller c =
    item-less true c.items.rest.now c.in-Some.read.rest.now (list_part_of c.in-Some.read.part) c.in-Some.ensures.read

pub items-preserved : goal.items-preserved
items-preserved c = (
  search rules,
  one_more c.args.end c.items.rest.now c.in-Some.read.rest.now c.in-Some.read.from.now
      (map entry_of c.items.found.items) (map entry_of c.push_item.new.found.items)
      (list_part_of c.in-Some.read.part) c.in-Some.ensures.read c.in-Some.ensures.from
      c.in_ok-push_item.ensures
      ∙ c.items.invariant.1,
)

pub returns : goal.returns
returns c =
    all_done c.args.end c.items.rest.now (map entry_of c.items.found.items)
    (map (item_entry c.args.end) (placed_items true c.args.text.now))
    (rw c.in_default.is at c.read_part.ensures.read) c.items.invariant.1
