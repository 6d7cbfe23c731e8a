use Rattle.std.proofs.Common.{arith}
use Rattle.css_tree.proofs.Grouping.{number_at, own_counted, own_after}
use Rattle.css_tree.proofs.groups.Groups.after.Goals as goal

pub overflow_add-result : goal.overflow_add-result
overflow_add-result c =
    let at = number_at c.self.inside.numbers.items c.args.self.now c.args.index c.index.result.now
    c.self.view_is c.requires c.index.ensures in
    let counted = own_counted c.self.inside.numbers.items c.args.self.now c.self.inside.before.items
    c.args.index c.index.result.now c.index-2.result.now c.self.view_is c.self.invariant.0
    c.self.invariant.1 c.requires at c.index-2.ensures in
    let is = c.count-count.ensures in let fits = c.count-count.type_inv in
    omega (arith, counted, is, fits)

pub overflow_sub-result : goal.overflow_sub-result
overflow_sub-result c =
    let at = number_at c.self.inside.numbers.items c.args.self.now c.args.index c.index.result.now
    c.self.view_is c.requires c.index.ensures in
    let counted = own_counted c.self.inside.numbers.items c.args.self.now c.self.inside.before.items
    c.args.index c.index.result.now c.index-2.result.now c.self.view_is c.self.invariant.0
    c.self.invariant.1 c.requires at c.index-2.ensures in
    let is = c.count-count.ensures in omega (arith, counted, is)

pub returns : goal.returns
returns c number there =
    let at = number_at c.self.inside.numbers.items c.args.self.now c.args.index c.index.result.now
    c.self.view_is c.requires c.index.ensures in
    own_after c.self.inside.numbers.items c.args.self.now c.self.inside.before.items c.args.index
    c.index.result.now c.index-2.result.now c.self.view_is c.self.invariant.0 c.self.invariant.1
    c.requires at c.index-2.ensures number c.count-count.result there c.count-count.ensures
