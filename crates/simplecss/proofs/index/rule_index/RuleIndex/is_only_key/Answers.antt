use Rattle.std.proofs.Common.{◌<◌, length, get_or, ap, ◌∙◌, subst}
use Rattle.simplecss.proofs.OnlyKeyLemmas.{only_at}
use Rattle.simplecss.proofs.index.rule_index.RuleIndex.is_only_key.Goals as goal

pub returns-in-Some : goal.returns-in-Some
returns-in-Some c =
    let links = c.self.inside.links.items in
    let link = c.in-Some.link.now in
    let h = c.in-Some.ensures.lookup in
    only_at links c.args.self.now c.args.index link c.self.invariant.only c.self.view_is
    (subst (λ ls. c.args.index < length ls) c.deref.ensures.value h.3.0)
    (h.1 ∙ ap (λ ls. get_or ls c.args.index link) c.deref.ensures.value)
