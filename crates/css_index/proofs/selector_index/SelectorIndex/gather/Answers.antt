use Rattle.std.proofs.Common.{◌≡◌, eqb-true, vec_len, arith, None, Some, sym, ◌∙◌, ap, subst}
use Rattle.std.specs.List.{Contains}
use Rattle.css_index.specs.internal.Added.{AreAdded}
use Rattle.css_index.specs.internal.Filed.{entries_of, found_by_any}
use Rattle.css_index.proofs.AddedLemmas.{added_alone}
use Rattle.css_index.proofs.FoundLemmas.{selector_past}
use Rattle.css_index.proofs.KeptLemmas.{contains_none}
use Rattle.css_index.proofs.KeyedLemmas.{keyed_found}
use Rattle.css_index.proofs.selector_index.SelectorIndex.gather.Goals as goal

pub returns-then-is_empty-clause-found : goal.returns-then-is_empty-clause-found
returns-then-is_empty-clause-found g c = λ index.
    let rules = c.self.inside.rules.items in
    let count = eqb-true (vec_len c.self.inside.rules) 0
    (sym c.is_empty.ensures ∙ c.if-is_empty.true) in
    let all = c.self.inside.rules.ok.0 in
    let past = selector_past (λ rule. rule.selector.now) rules c.args.self.now index c.self.view_is
    (omega (arith, count, all)) in (
      λ h. absurd (contains_none index (subst (λ xs. Contains xs index) c.clear.ensures.items h)),
      λ h. (let none : None ≡ Some h.0.0 = sym past ∙ h.0.1 in absurd (cc)),
    )

pub returns-clause-found : goal.returns-clause-found
returns-clause-found g c =
    let document = g.E.Element.document in
    let n = g.E.Element.node c.args.element.now in
    let reported = g.E.Keyed.reported c.args.element.now in
    let Keeps = g.K.Keeping.Keeps c.args.kept.now in
    let keys = c.in_default.ensures.0 in
    let found = found_by_any (entries_of c.args.self.now) keys in
    let new = c.push_keyed.new.indices.items in
    let added = subst (λ old. AreAdded Keeps old found new) c.clear.ensures.items
    (subst (λ es. AreAdded Keeps c.clear.new.self.items (found_by_any es keys) new)
    (c.self.invariant ∙ ap entries_of c.self.view_is) c.in_default.ensures.2) in
    let are = keyed_found document n reported c.args.self.now keys c.in_default.ensures.1 in
    λ index. (let kept = added_alone Keeps found new added index in (
      λ h. (let k = kept.0 h in ((are index).0 k.0, k.1)),
      λ h. kept.1 ((are index).1 h.0, h.1),
    ))
