use Rattle.std.proofs.Common.{◌<◌, IfSome, get_or, sym, subst}
use Rattle.std.proofs.lemmas.Option.{slice_get-get_or}
use Rattle.css_tree.specs.GroupViews.{is_in_group}
use Rattle.css_tree.proofs.Counting.{last_below-earlier}
use Rattle.css_tree.proofs.Grouping.{own_before_now}
use Rattle.css_tree.proofs.groups.Groups.before.Goals as goal

pub returns-clause-seen : goal.returns-clause-seen
returns-clause-seen c number at =
    own_before_now c.self.inside.numbers.items c.args.self.now c.self.inside.before.items c.args.index
    number c.index.result.now c.self.view_is c.self.invariant.0 c.self.invariant.1 c.requires at
    c.index.ensures

pub returns-clause-earlier : goal.returns-clause-earlier
returns-clause-earlier c =
    let number = get_or c.args.self.now c.args.index 0 in
    subst (λ s. IfSome s.last (λ p. p < c.args.index))
    (sym (returns-clause-seen c number (slice_get-get_or c.args.self.now c.args.index 0 c.requires)))
    (last_below-earlier (is_in_group c.args.self.now number) c.args.index)
