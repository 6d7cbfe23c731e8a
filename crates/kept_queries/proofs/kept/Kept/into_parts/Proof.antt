-- `into_parts` ends the lifetime, and has the copy again.
use Rattle.std.proofs.Common.{◌≡◌, List, [], ◌∷◌, ◌++◌, refl, sym, subst}
use mir.Val.{Val}
use base.Fraction.{full_share}
use base.Logic.{SProp, ent, emp, id⊢}
use base.Fml.{ftrue}
use prog.Wp.{WpFn}
use types.Kit.{‵, raw, ◌⊛◌, later, ◌$◌, ◌∵◌, !, qed, by, move, keep, drop, split, fsplit, fjoin, suffices, use0, use2, await}
use types.Run.{stop, fld, of_opd, no_more, and_then, returns, enter}
use types.ByLocal.{alloc_all, pass_all, free_all, look_at, get, get_in, sets}
use types.Part.{agg, sub, whole}
use contract.Monad.{fact, fact_i}
use contract.Running.{tables}
use denote.Exit.{yes}
use denote.RattleType.{RattleType, owns}
use denote.Signature.{types_at, plain}
use denote.RawPtr.{Ptr, ptr_val, lies_at}
use denote.Steps.{nothing}
use denote.Triple.Walked.{Stays, stay_dropped, walk_of, Goes-dropped}
use Rattle.std.specs.contracts.alloc.Global as Heap
use Rattle.std.specs.contracts.impls.GlobalAllocator.TheImpl.{ghosts}
use Rattle.std.proofs.raw_atomic.Walks.{proved_at, leaves}
use Rattle.handles.specs.contracts.Parts as Parts
use Rattle.handles.proofs.Values.{both, both_in, both_fits, ptr_fits}
use Rattle.kept_queries.specs.declared.arrays.QueryArrays.{QueryArrays}
use Rattle.handles.proofs.Objects.{three, three_fits, three_out}
use Rattle.kept_queries.proofs.Objects.{ends}
use Rattle.kept_queries.specs.Kept.{arrays_row}
use Rattle.kept_queries.specs.contracts.kept.Kept as Kept
use Rattle.kept_queries.specs.contracts.kept.Kept.into_parts.{ended, clauses}
use Rattle.kept_queries.specs.contracts.kept.Kept.into_parts.Key.{name as #self}
use Rattle.kept_queries.proofs.kept.Kept.into_parts.Statement.{statement}
use Rattle.kept_queries.proofs.kept.Kept.into_parts.Code as code

pub into_parts_spec : {M : Type 1} → statement M
into_parts_spec 𝓤 𝓛 𝓜 𝓡 wired =
    let H = 𝓛.H in let 𝓣 = tables 𝓤 H 𝓜 𝓡 𝓡.env in let En = ended in let c = clauses 𝓛 𝓜.mem 𝓡.returns in let fn = code.function in
    let PR : RattleType = Parts.the_row arrays_row Heap.the_row ghosts in let KR : RattleType = Kept.the_row in
    let hs : Stays En.signature.params En.kept = (stay_dropped (plain (λ _. KR)) yes, tt) in
    proved_at 𝓛 En hs c 𝓜 𝓡 (Goes-dropped 𝓛 0 (plain (λ _. KR)) yes (λ κs x f. refl), tt) #self fn (code.unfolded 𝓤 H 𝓜 𝓡 wired) (λ z are.
    let κs = z.0.0 in let Post : Val → SProp 𝓤 = (walk_of 𝓛 En hs c).post z in let Run : List Val → SProp 𝓤 = λ ws. WpFn 𝓤 H 𝓣.C 𝓣.Λ fn ws Post in
    let d = z.0.3.0 in let p : Ptr = d.arrays in let q : Ptr = d.query in let a = d.alloc in let s : QueryArrays = d.read_of in let n = d.life in
    qed 𝓛 ((‵ ftrue ⊛ ‵ (owns (types_at En.signature.params κs) z.0.3 z.0.4)) ∷ raw (emp 𝓤) ∷ []) ∵ split ! $ move ! (1 ∷ []) $ fsplit ! $ fsplit ! $
    three_out ! p q a z.0.4.0 (λ h e fits.
    -- [the handle; the object; true; the tokens; nothing]
    let u = ptr_val p in let v = ptr_val q in let w : Val = three u v h in let r : Val = both u h in
    suffices ! (Run (w ∷ [])) (subst (λ (us : List Val). ent 𝓤 (Run (w ∷ [])) (Run us)) (sym (λ i. e i ++ [])) (id⊢ 𝓤 (Run (w ∷ [])))) $
    enter ! 𝓣.C 𝓣.Λ fn (w ∷ []) Post $ alloc_all ! (λ l. pass_all ! refl (three_fits 𝓛 p q h fits, tt) $
    sets ! (of_opd ! (get_in ! (fld ! refl (stop !)) (sub ! 0 refl (whole !)))) refl (ptr_fits 𝓛 p) $ sets ! (of_opd ! (get_in ! (fld ! refl (stop !)) (sub ! 2 refl (whole !)))) refl fits $
    sets ! (agg ! (and_then ! (get ! refl) (and_then ! (get ! refl) (no_more !)))) refl (both_fits 𝓛 p h fits) $
    move ! (1 ∷ []) $ fsplit ! $ drop ! $ fsplit ! $ move ! (1 ∷ []) $ fsplit ! $ fsplit ! $ move ! (3 ∷ 0 ∷ []) $
    use2 𝓛 (later (‵ (lies_at arrays_row full_share p s))) (ends 𝓛 p s n) $ await ! tt $ fjoin ! $
    -- [the box; the words; the handle; true; the tokens; nothing]
    let out : PR.Denot = record { ptr = p; alloc = a; value = s } in move ! (2 ∷ []) $ both_in ! p a h $ fjoin ! $
    use0 𝓛 (raw (fact 𝓤 (s ≡ s))) (fact_i 𝓤 (s ≡ s) (emp 𝓤) refl) $ nothing ! $ nothing ! $ fjoin ! $
    returns ! (look_at ! 0 refl) $ free_all ! refl $ keep ! (5 ∷ 0 ∷ 2 ∷ 1 ∷ []) $ by ! (leaves 𝓛 En hs c z r out (tt, tt) (tt, tt)))))
