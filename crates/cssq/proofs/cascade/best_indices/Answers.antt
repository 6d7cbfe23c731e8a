use Rattle.std.proofs.Common.{◌≡◌, ◌+◌, ◌≤◌, ◌<◌, Some, IfSome, length, get_or, take, ap, ◌∙◌, sym, subst}
use Rattle.std.proofs.lemmas.List.{take_all, length-map}
use Rattle.std.proofs.lemmas.Map.Text.{btree_map_updates_str}
use Rattle.simplecss.specs.DeclarationViews.{declaration_of, declarations_of}
use Rattle.cssq.specs.internal.RuleWinners.{IsBestIndex, DecidesWhether, index_for_name, HasBestIndices}
use Rattle.cssq.proofs.BestIndices.{nothing, has_at, best_within, indices_taken, indices_kept}
use Rattle.cssq.proofs.cascade.best_indices.Goals as goal
use Rattle.cssq.proofs.cascade.best_indices.Goals.{Joined-takes_over, then-takes_over+in_ok-insert, else-takes_over}

pub takes_over-requires : goal.takes_over-requires
takes_over-requires c =
    let ds = c.args.declarations.now in
    let d = get_or ds c.loop-index.index nothing in
    let known : c.copied-known.result ≡ index_for_name c.loop-index.indices d.name.now =
    c.copied-known.ensures ∙ c.get.ensures.value in
    let within = best_within c.loop-index.index (declarations_of ds) d.name.now
    (index_for_name c.loop-index.indices d.name.now) (c.loop-index.invariant d.name.now) in
    subst (λ r. IfSome r (λ k. k < length ds)) (sym known)
    (subst (λ n. IfSome (index_for_name c.loop-index.indices d.name.now) (λ k. k < n))
    (length-map ds declaration_of) within)

pub loop-index-preserved : goal.loop-index-preserved
loop-index-preserved c =
    let ds = c.args.declarations.now in
    let k = c.loop-index.index in
    let d = get_or ds k nothing in
    let at = has_at ds k c.loop-index-test.true in
    let old = c.loop-index.indices in
    let known : c.copied-known.result ≡ index_for_name old d.name.now =
    c.copied-known.ensures ∙ c.get.ensures.value in
    let reports : DecidesWhether c.takes_over.result (declarations_of ds)
    (index_for_name old d.name.now) (declaration_of d) =
    subst (λ r. DecidesWhether c.takes_over.result (declarations_of ds) r (declaration_of d)) known
    c.takes_over.ensures in
    elim c.if-takes_over.branch [
      | then-takes_over+in_ok-insert w ↦ λ name.
          subst (IsBestIndex (take (k + 1) (declarations_of ds)) name)
          (sym (btree_map_updates_str d.name.now old w.insert.new.self (Some k)
          w.in_ok-insert.ensures.updates name) ∙ ap (λ m. index_for_name m name) (sym w.indices-is))
          (indices_taken (declarations_of ds) k (declaration_of d) at
          (index_for_name old) c.loop-index.invariant
          (subst (λ b. DecidesWhether b (declarations_of ds) (index_for_name old d.name.now)
          (declaration_of d)) w.if-takes_over.true reports) name)
      | else-takes_over w ↦ λ name.
          subst (λ m. IsBestIndex (take (k + 1) (declarations_of ds)) name (index_for_name m name))
          (sym w.indices-is)
          (indices_kept (declarations_of ds) k (declaration_of d) at
          (index_for_name old) c.loop-index.invariant
          (subst (λ b. DecidesWhether b (declarations_of ds) (index_for_name old d.name.now)
          (declaration_of d)) w.if-takes_over.false reports) name)
    ]

pub returns : goal.returns
returns c =
    let ds = c.args.declarations.now in
    subst (HasBestIndices c.loop-index.indices)
    (take_all c.loop-index.index (declarations_of ds) (subst (λ n. n ≤ c.loop-index.index)
    (sym (length-map ds declaration_of)) c.loop-index-test.false)) c.loop-index.invariant
