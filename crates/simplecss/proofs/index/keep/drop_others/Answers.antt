use Rattle.std.proofs.Common.{◌≡◌, ◌+◌, ◌<◌, ◌≤◌, ◌↔◌, ℕ, List, length, map, take, IsTrue, ap, sym, ◌∙◌, subst, refl}
use Rattle.std.specs.List.{All, Contains, sum_by}
use Rattle.std.specs.List.Sorted.{IsStrictlyIncreasing}
use Rattle.std.proofs.lemmas.List.{length-map}
use Rattle.simplecss_grammar.specs.Components.{Component}
use Rattle.simplecss_selector.specs.Placements.{HasPlacement}
use Rattle.simplecss.specs.Matching.{most_tests}
use Rattle.simplecss.specs.internal.OnlyKeys.{needs_no_test, unless_needless}
use Rattle.simplecss.specs.SelectorIndices.{selector_at}
use Rattle.simplecss.proofs.Keeping.{written_back}
use Rattle.simplecss.proofs.index.keep.drop_others.Goals.{After-truncate}
use Rattle.simplecss.proofs.index.keep.drop_others.Goals as goal

pub keep_matching-kept-requires : goal.keep_matching-kept-requires
keep_matching-kept-requires g c =
    let same : length c.args.rule_index.now ≡ length c.args.rules.now =
    ap length c.requires.index ∙ length-map c.args.rules.now g.T.HasSelector.selector_in in
    λ k. (
      (refl, tt),
      (
        c.requires.index,
        (
          subst IsStrictlyIncreasing (sym c.deref_mut.ensures.value) c.requires.ascending,
          (
            rw c.deref_mut.ensures.value
                (subst (λ n. All (λ index. index < n) c.args.indices.now.items) same c.requires.within),
            subst (λ ss. (index : ℕ) → Contains c.deref_mut.result.now index
                → IsTrue (needs_no_test c.args.is_exact (selector_at ss index))
                → HasPlacement g.E.Element.tree (selector_at ss index)
                (g.E.Element.node c.args.element.now)) c.requires.index
                (λ index there. c.requires.known index
                (subst (λ xs. Contains xs index) c.deref_mut.ensures.value there)),
          ),
        ),
      ),
    )

-- what is left is what was kept at the front
left_is : (g : _) (c : After-truncate g) → c.truncate.new.self.items
    ≡ take c.keep_matching-kept.result c.keep_matching-kept.new.indices
left_is g c =
    let all = c.args.indices.now in
    c.truncate.ensures.items ∙ ap (take c.keep_matching-kept.result) (written_back all.items
    c.keep_matching-kept.new.indices all.len all.ok.0
    (c.keep_matching-kept.auto.indices ∙ ap length c.deref_mut.ensures.value))

pub returns-clause-ascending : goal.returns-clause-ascending
returns-clause-ascending g c =
    subst IsStrictlyIncreasing (sym (left_is g (goal.at.returns-clause-ascending g c).After-truncate))
    c.keep_matching-kept.ensures.ascending

pub returns-clause-exactly : goal.returns-clause-exactly
returns-clause-exactly g c =
    let tree = g.E.Element.tree in
    let element = g.E.Element.node c.args.element.now in
    let kept = take c.keep_matching-kept.result c.keep_matching-kept.new.indices in
    subst (λ ps. (index : ℕ) → Contains ps index ↔ (Contains c.args.indices.now.items index
    × HasPlacement tree (selector_at c.args.rule_index.now index) element))
    (sym (left_is g (goal.at.returns-clause-exactly g c).After-truncate))
    (subst (λ ss. (index : ℕ) → Contains kept index ↔ (Contains c.args.indices.now.items index
    × HasPlacement tree (selector_at ss index) element)) (sym c.requires.index)
    (subst (λ ps. (index : ℕ) → Contains kept index ↔ (Contains ps index × HasPlacement tree
    (selector_at (map g.T.HasSelector.selector_in c.args.rules.now) index) element))
    c.deref_mut.ensures.value c.keep_matching-kept.ensures.exactly))

pub returns-clause-counted : goal.returns-clause-counted
returns-clause-counted g c =
    let most : List (List Component) → ℕ → ℕ = λ ss index. unless_needless c.args.is_exact
    (most_tests g.E.Element.tree (g.E.Element.node c.args.element.now)) (selector_at ss index) in
    subst (λ ss. c.keep_matching-kept.new.tests ≤ c.args.tests.now
    + sum_by (most ss) c.args.indices.now.items) (sym c.requires.index)
    (subst (λ ps. c.keep_matching-kept.new.tests ≤ c.args.tests.now
    + sum_by (most (map g.T.HasSelector.selector_in c.args.rules.now)) ps)
    c.deref_mut.ensures.value c.keep_matching-kept.ensures.counted)

pub returns-clause-tested : goal.returns-clause-tested
returns-clause-tested g c =
    let least : List (List Component) → ℕ → ℕ =
    λ ss index. unless_needless c.args.is_exact (λ selector. 1) (selector_at ss index) in
    subst (λ ss. c.args.tests.now + sum_by (least ss) c.args.indices.now.items
    ≤ c.keep_matching-kept.new.tests) (sym c.requires.index)
    (subst (λ ps. c.args.tests.now
    + sum_by (least (map g.T.HasSelector.selector_in c.args.rules.now)) ps
    ≤ c.keep_matching-kept.new.tests) c.deref_mut.ensures.value c.keep_matching-kept.ensures.tested)
