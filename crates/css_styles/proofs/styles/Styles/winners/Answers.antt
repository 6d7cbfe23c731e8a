use Rattle.std.proofs.Common.{List, ℕ, ◌<◌, ◌∙◌, length, sym, ap, subst}
use Rattle.std.specs.List.{All}
use Rattle.css_matching.specs.ListTrees.{spot}
use Rattle.css_index.specs.Found.{AreMatches}
use Rattle.css_index.specs.Tested.{AreTried}
use Rattle.css_tree.specs.Pages.{Page, page_document}
use Rattle.css_tree.specs.Reports.{reported_of}
use Rattle.css_styles.specs.StyleViews.{StylesText, own_of}
use Rattle.css_styles.specs.Winners.{winners}
use Rattle.css_styles.proofs.GatherLemmas.{then-ok}
use Rattle.css_styles.proofs.StyleLemmas.{found-within}
use Rattle.css_styles.proofs.styles.Styles.winners.Goals as goal

pub matching-requires : goal.matching-requires
matching-requires c =
    subst (λ (p : Page). c.args.element < length p.rows) (sym c.self.invariant.1)
    (subst (λ (v : StylesText). c.args.element < length v.page.rows) (sym c.self.view_is) c.requires)

pub winners-requires : goal.winners-requires
winners-requires c =
    subst (All (λ index. index < length c.self.inside.finder)) (sym c.deref.ensures.value)
    (found-within _ _ _ _ _ (c.self.invariant.0 ∙ ap length (sym c.self.invariant.2))
    c.in_ok-matching.ensures.matches)

pub returns-clause-winners : goal.returns-clause-winners
returns-clause-winners c =
    let own = own_of c.args.own in
    let node = spot c.self.inside.page.now c.args.element in
    let indices = c.deref.result.now in
    let found =
    subst (AreMatches page_document node c.self.inside.walk.walk.selectors) (sym c.deref.ensures.value)
    (subst (λ (p : Page). AreMatches page_document (spot p c.args.element) c.self.inside.walk.walk.selectors
    c.matching.new.indices.items) c.self.invariant.1 c.in_ok-matching.ensures.matches) in
    then-ok c.winners.result
    (λ won. (
      indices,
      subst (λ (v : StylesText). AreMatches page_document (spot v.page c.args.element) v.walk.selectors indices)
          c.self.view_is found,
      won
          ∙ ap (λ rules. winners rules indices own) c.self.invariant.2
          ∙ ap (λ (v : StylesText). winners v.rules indices own) c.self.view_is,
    )) c.winners.ensures.winners

pub returns-clause-tests : goal.returns-clause-tests
returns-clause-tests c =
    then-ok c.winners.result
    (λ found. subst (λ (v : StylesText). (tried : List ℕ)
    × AreTried page_document (spot v.page c.args.element) (reported_of (spot v.page c.args.element))
    c.matching.new.self.walk tried c.args.tests.now c.matching.new.tests)
    c.self.view_is (subst (λ (p : Page). (tried : List ℕ)
    × AreTried page_document (spot p c.args.element) (reported_of (spot p c.args.element))
    c.matching.new.self.walk tried c.args.tests.now c.matching.new.tests)
    c.self.invariant.1 c.in_ok-matching.ensures.tests)) c.winners.ensures.winners
