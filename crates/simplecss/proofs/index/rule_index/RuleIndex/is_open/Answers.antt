use Rattle.std.proofs.Common.{◌<◌, ◌≤◌, ◌↔◌, length, get_or, ap, ◌∙◌, subst}
use Rattle.std.specs.Prelude.{IsTrue, Contains, All}
use Rattle.simplecss.specs.OpenPaths.{needed_keys}
use Rattle.simplecss.specs.SelectorIndices.{selector_at}
use Rattle.simplecss.specs.internal.NeededKeys.{AreNumbered}
use Rattle.simplecss.proofs.OpenPathLemmas.{open_is, link_needs, none_open}
use Rattle.simplecss.proofs.index.rule_index.RuleIndex.is_open.Goals as goal

pub returns-in-Some : goal.returns-in-Some
returns-in-Some c =
    let links = c.self.inside.links.items in
    let link = c.in-Some.link.now in
    let needed = c.self.inside.needed in
    let are = c.self.invariant.numbered in
    let h = c.in-Some.ensures.lookup in
    open_is needed.numbers (needed_keys c.args.self.now) c.args.path.now.listed link.needed.items
    (selector_at c.args.self.now c.args.index) c.are_open.result
    (subst (AreNumbered needed.numbers) (are.keys ∙ ap needed_keys c.self.view_is) are.numbered)
    (link_needs needed links c.args.self.now c.args.index link are c.self.view_is
    (subst (λ ls. c.args.index < length ls) c.deref.ensures.value h.3.0)
    (h.1 ∙ ap (λ ls. get_or ls c.args.index link) c.deref.ensures.value))
    (subst (λ ns. IsTrue c.are_open.result ↔ All (Contains c.args.path.now.listed) ns)
    c.deref-in-Some.ensures.value c.are_open.ensures)

pub returns-in-None : goal.returns-in-None
returns-in-None c =
    none_open c.self.inside.links.items c.args.self.now (needed_keys c.args.self.now)
    c.args.path.now.listed c.args.index c.self.view_is
    (subst (λ ls. length ls ≤ c.args.index) c.deref.ensures.value c.in-None.ensures.lookup.3)
