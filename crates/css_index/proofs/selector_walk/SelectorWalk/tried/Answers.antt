use Rattle.std.proofs.Common.{subst, ◌↔◌, ℕ}
use Rattle.std.specs.List.{Contains}
use Rattle.css_index.specs.Tested.{IsKeyedAt}
use Rattle.css_index.specs.Walks.{IsKeptAt}
use Rattle.css_index.specs.internal.Walking.{walk_above}
use Rattle.css_index.proofs.WalkLemmas.{kept_same}
use Rattle.css_index.proofs.selector_walk.SelectorWalk.tried.Goals as goal

pub returns-clause-tried : goal.returns-clause-tried
returns-clause-tried g c =
    let document = g.E.Element.document in
    let element = c.args.element.now in
    let n = g.E.Element.node element in
    let reported = g.E.Keyed.reported element in
    let walk = c.args.self.now in
    let above = walk_above c.above.result in
    let found = c.gather.new.indices.items in
    let gathered = subst (λ v. (index : ℕ) → Contains found index
    ↔ (IsKeyedAt document n reported v.selectors index × IsKeptAt above index)) c.self.view_is
    c.in_ok-gather.ensures.found in
    let kept : (index : ℕ) → IsKeptAt above index ↔ IsKeptAt walk index =
    λ index. kept_same above walk index c.above.ensures.needs c.above.ensures.opened in
    let same = c.sort_once.ensures.same in
    record {
      ascending = c.sort_once.ensures.ascending;
      exactly = λ index. (
        λ h. (let k = (gathered index).0 ((same index).0 h) in (k.0, (kept index).0 k.1)),
        λ m. (same index).1 ((gathered index).1 (m.0, (kept index).1 m.1)),
      );
    }
