use Rattle.std.proofs.Common.{◌≡◌, ◌+◌, ◌<◌, ◌≤◌, ℕ, List, length, map, get_or, if◌then◌else◌, refl, subst, sym, ap, ◌∙◌, arith}
use Rattle.std.specs.List.{sum_by}
use Rattle.std.proofs.lemmas.Bool.{false≢true}
use Rattle.std.proofs.lemmas.List.{take_all}
use Rattle.simplecss_grammar.specs.Components.{Component}
use Rattle.simplecss_selector.specs.Placements.{HasPlacement}
use Rattle.simplecss.specs.Matching.{most_tests}
use Rattle.simplecss.specs.SelectorIndices.{selector_at}
use Rattle.simplecss.proofs.Keeping.{Keeps, Met, keep_none, keeps_met, keeps_unmet, keep_all, at, tested_more, tested_least}
use Rattle.simplecss.specs.internal.OnlyKeys.{needs_no_test, unless_needless}
use Rattle.simplecss.proofs.index.keep.keep_matching.Goals as goal
use Rattle.simplecss.proofs.index.keep.keep_matching.Goals.{then-is_match, else-is_match}

pub indices-init : goal.indices-init
indices-init g c =
    record { keeps = keep_none _ c.args.indices.now; least = omega arith; tested = omega arith }

pub indices-preserved : goal.indices-preserved
indices-preserved g c =
    let IsMet : List Component → Type 0 =
    λ selector. HasPlacement g.E.Element.tree selector (g.E.Element.node c.args.element.now) in
    let exact = c.args.is_exact in
    let cost : List Component → ℕ =
    unless_needless exact (most_tests g.E.Element.tree (g.E.Element.node c.args.element.now)) in
    let least : List Component → ℕ = unless_needless exact (λ selector. 1) in
    let rules = c.args.rules.now in
    let indices = c.args.indices.now in
    let v = c.index-rules-index.result in
    let lt : c.indices.i < length indices = c.indices-test.true in
    let same : length c.indices.indices ≡ length indices = c.indices.auto.indices in
    let before = c.indices.invariant.keeps in
    let chosen = ap g.T.HasSelector.selector_in c.index-rules-index.is in
    let keeps : Keeps (Met g.T.HasSelector.selector_in IsMet rules) indices c.if-is_match.indices
    c.if-is_match.kept (c.indices.i + 1) = elim c.if-is_match.branch [
      | then-is_match w ↦ rw (w.indices-is, w.kept-is) (keeps_met g.T.HasSelector.selector_in
          IsMet rules indices c.indices.indices c.indices.kept c.indices.i v before lt
          c.requires.within c.requires.ascending same
          (subst IsMet chosen (w.if-is_match.ensures.answer.0 refl)))
      | else-is_match w ↦ rw (w.indices-is, w.kept-is) (keeps_unmet g.T.HasSelector.selector_in
          IsMet rules indices c.indices.indices c.indices.kept c.indices.i v before lt
          c.requires.within (λ h. false≢true
          (w.if-is_match.ensures.answer.1 (subst IsMet (sym chosen) h))))
    ] in
    let known : c.is_known.result ≡ needs_no_test exact (g.T.HasSelector.selector_in v) =
    c.is_known.ensures ∙ ap (needs_no_test exact)
    (ap (λ ss. selector_at ss (get_or c.indices.indices c.indices.i 0)) c.requires.index
    ∙ at g.T.HasSelector.selector_in IsMet rules indices c.indices.indices c.indices.kept c.indices.i
    v before lt c.requires.within ∙ sym chosen) in
    let costs : (cost : List Component → ℕ) → (if c.is_known.result then 0
    else cost (g.T.HasSelector.selector_in v)) ≡ unless_needless exact cost
    (g.T.HasSelector.selector_in (get_or rules (get_or c.indices.indices c.indices.i 0) v)) =
    λ cost. ap (λ b. if b then 0 else cost (g.T.HasSelector.selector_in v)) known
    ∙ ap (unless_needless exact cost) chosen in
    record {
      keeps = keeps;
      least = tested_least g.T.HasSelector.selector_in IsMet rules indices c.indices.indices
          c.indices.kept c.indices.i v before lt c.requires.within least c.args.tests.now
          c.indices.tests c.is_match.new.tests c.indices.invariant.least
          (subst (λ (n : ℕ). c.indices.tests + n ≤ c.is_match.new.tests) (costs (λ selector. 1))
          c.is_match.ensures.at_least);
      tested = tested_more g.T.HasSelector.selector_in IsMet rules indices c.indices.indices
          c.indices.kept c.indices.i v before lt c.requires.within cost c.args.tests.now
          c.indices.tests c.is_match.new.tests c.indices.invariant.tested
          (subst (λ (n : ℕ). c.is_match.new.tests ≤ c.indices.tests + n)
          (costs (most_tests g.E.Element.tree (g.E.Element.node c.args.element.now)))
          c.is_match.ensures.at_most);
    }

pub returns-clause-exactly : goal.returns-clause-exactly
returns-clause-exactly g c = keep_all _ c.args.indices.now c.indices.indices c.indices.kept
    c.indices.i c.indices-test.false c.indices.invariant.keeps

pub returns-clause-counted : goal.returns-clause-counted
returns-clause-counted g c =
    subst (λ ps. c.indices.tests ≤ c.args.tests.now
    + sum_by (λ index. unless_needless c.args.is_exact
    (most_tests g.E.Element.tree (g.E.Element.node c.args.element.now))
    (selector_at (map g.T.HasSelector.selector_in c.args.rules.now) index)) ps)
    (take_all c.indices.i c.args.indices.now c.indices-test.false) c.indices.invariant.tested

pub returns-clause-tested : goal.returns-clause-tested
returns-clause-tested g c =
    subst (λ ps. c.args.tests.now + sum_by (λ index. unless_needless c.args.is_exact (λ selector. 1)
    (selector_at (map g.T.HasSelector.selector_in c.args.rules.now) index)) ps ≤ c.indices.tests)
    (take_all c.indices.i c.args.indices.now c.indices-test.false) c.indices.invariant.least
