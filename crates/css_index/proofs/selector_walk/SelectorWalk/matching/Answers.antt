use Rattle.std.proofs.Common.{◌↔◌, ℕ, subst}
use Rattle.std.specs.List.{Contains}
use Rattle.css_index.specs.internal.Candidates.{PassesAt}
use Rattle.css_index.proofs.MatchLemmas.{match_keyed, matched_passes, passed_matches}
use Rattle.css_index.proofs.OpenLemmas.{match_kept}
use Rattle.css_index.proofs.selector_walk.SelectorWalk.matching.Goals as goal

pub returns-clause-matches : goal.returns-clause-matches
returns-clause-matches g c =
    let document = g.E.Element.document in
    let element = c.args.element.now in
    let n = g.E.Element.node element in
    let reported = g.E.Keyed.reported element in
    let walk = c.args.self.now in
    let selectors = walk.selectors in
    let tried = c.in_ok-tried.ensures.tried in
    let needs = c.count-count.ensures.needs in
    let law = g.met.E.Keyed.reported_law in
    let passing = subst (λ xs. (index : ℕ) → Contains c.push_passing.new.indices.items index
    ↔ (Contains xs index × PassesAt document n selectors index)) c.as_slice.ensures.value
    c.in_default.ensures.exactly in
    record {
      ascending = c.in_default.ensures.ascending;
      exactly = λ index. (
        λ h. (let k = (passing index).0 h in
            passed_matches document n reported selectors index
            ((tried.exactly index).0 k.0).0 k.1),
        λ m. (passing index).1 (
          (tried.exactly index).1 (
            match_keyed document n reported selectors index (law element) m,
            match_kept document g.E.Element.node g.E.Keyed.reported law
                g.met.E.Element.sibling_law walk n index c.requires needs m,
          ),
          matched_passes document n reported selectors index m,
        ),
      );
    }
