use Rattle.std.proofs.Common.{◌≡◌, ◌⊎◌, ap, inl, inr}
use Rattle.simplecss_grammar.specs.Components.Combinator.{none, child, descendant, adjacent}
use Rattle.simplecss_selector.specs.internal.CombinatorViews.{combinator_of}
use Rattle.simplecss_selector.specs.KeyViews.{key_value}
use Rattle.simplecss_selector.proofs.AncestorKeyLemmas.{step_key_is, no_step_key}
use Rattle.simplecss_selector.proofs.selector.Selector.step_key.Goals as goal

pub returns-in-Child : goal.returns-in-Child
returns-in-Child c =
    let step : (combinator_of c.combinator.result ≡ child)
    ⊎ (combinator_of c.combinator.result ≡ descendant) =
    elim c.in-Child.is [ inl e ↦ inl (ap combinator_of e) | inr e ↦ inr (ap combinator_of e) ] in
    step_key_is c.args.self.now c.args.index (combinator_of c.combinator.result)
    (key_value c.key_at.result) c.requires c.combinator.ensures.first c.combinator.ensures.value
    step c.key_at.ensures

pub returns-in-None : goal.returns-in-None
returns-in-None c =
    let step : (combinator_of c.combinator.result ≡ none)
    ⊎ (combinator_of c.combinator.result ≡ adjacent) =
    elim c.in-None.is [ inl e ↦ inl (ap combinator_of e) | inr e ↦ inr (ap combinator_of e) ] in
    no_step_key c.args.self.now c.args.index (combinator_of c.combinator.result)
    c.combinator.ensures.value step
