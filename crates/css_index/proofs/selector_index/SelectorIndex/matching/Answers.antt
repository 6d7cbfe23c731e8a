use Rattle.std.proofs.Common.{rules}
use Rattle.css_index.specs.internal.Candidates.{PassesAt}
use Rattle.css_index.proofs.MatchLemmas.{match_keyed, matched_passes, passed_matches}
use Rattle.css_index.proofs.KeptLemmas.{ascending_kept, kept_exactly}
use Rattle.css_index.proofs.selector_index.SelectorIndex.matching.Goals as goal

pub returns-clause-matches : goal.returns-clause-matches
returns-clause-matches g c =
    let document = g.E.Element.document in
    let element = c.args.element.now in
    let n = g.E.Element.node element in
    let reported = g.E.Keyed.reported element in
    let selectors = c.args.self.now in
    let sorted = c.sort_once.new.indices.items in
    let kept = c.retain.new.self.items in
    let gathered = c.in_ok-gather.ensures.found in
    let same = c.sort_once.ensures.same in
    let exactly = kept_exactly _ (PassesAt document n selectors) _ (λ x b f k. search rules) sorted
    kept c.retain.ensures.filtered in
    record {
      ascending = ascending_kept _ (PassesAt document n selectors) _ (λ x b f k. search rules)
          sorted kept c.retain.ensures.filtered c.sort_once.ensures.ascending;
      exactly = λ index. (
        λ h. (let k = (exactly index).0 h in
            passed_matches document n reported selectors index
            ((gathered index).0 ((same index).0 k.0)).0 k.1),
        λ m. (exactly index).1 (
          (same index).1 ((gathered index).1 (
            match_keyed document n reported selectors index
                (g.met.E.Keyed.reported_law element) m,
            tt,
          )),
          matched_passes document n reported selectors index m,
        ),
      );
    }
