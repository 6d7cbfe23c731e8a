-- `of_parts` lends the copy for a new lifetime, and reads nothing yet.
use Rattle.std.proofs.Common.{◌≡◌, ℕ, List, [], ◌∷◌, ◌++◌, refl, sym, subst}
use mir.Val.{Val}
use base.Logic.{SProp, ent, emp, id⊢}
use base.Fml.{ftrue, fex}
use prog.Wp.{WpFn}
use types.Kit.{‵, raw, ◌⊛◌, later, ◌$◌, ◌∵◌, !, qed, by, move, keep, drop, split, fsplit, fjoin, fpick, fpack, suffices, use0, use1, await, feq_l}
use types.Run.{stop, fld, of_opd, no_more, and_then, returns, enter}
use types.ByLocal.{alloc_all, pass_all, free_all, look_at, get, get_in, sets}
use types.Part.{agg, sub, whole}
use contract.Monad.{fact, fact_i}
use contract.Running.{tables}
use denote.Exit.{yes}
use denote.RattleType.{RattleType, owns}
use denote.Signature.{types_at, plain}
use denote.Builtin.{RawPtr}
use denote.RawPtr.{Ptr, null_ptr, ptr_val}
use denote.Steps.{nothing, heard}
use denote.Triple.Walked.{Stays, stay_dropped, walk_of, Goes-dropped}
use Rattle.std.specs.Prelude.{None}
use Rattle.std.specs.contracts.alloc.Global as Heap
use Rattle.std.specs.contracts.impls.GlobalAllocator.TheImpl.{ghosts}
use Rattle.std.proofs.raw_atomic.Walks.{proved_at, leaves}
use Rattle.handles.specs.contracts.Parts as Parts
use Rattle.handles.proofs.Values.{both, both_out, both_fits, ptr_fits}
use Rattle.kept_queries.specs.declared.arrays.QueryArrays.{QueryArrays}
use Rattle.handles.proofs.Objects.{three, three_fits, three_in}
use Rattle.kept_queries.proofs.Objects.{Begun, begins}
use Rattle.kept_queries.specs.Kept.{arrays_row}
use Rattle.kept_queries.specs.contracts.kept.Kept as Kept
use Rattle.kept_queries.specs.contracts.kept.Kept.of_parts.{ended, clauses}
use Rattle.kept_queries.specs.contracts.kept.Kept.of_parts.Key.{name as #self}
use Rattle.kept_queries.proofs.kept.Kept.of_parts.Statement.{statement}
use Rattle.kept_queries.proofs.kept.Kept.of_parts.Code as code

pub of_parts_spec : {M : Type 1} → statement M
of_parts_spec 𝓤 𝓛 𝓜 𝓡 wired =
    let H = 𝓛.H in let 𝓣 = tables 𝓤 H 𝓜 𝓡 𝓡.env in let En = ended in let c = clauses 𝓛 𝓜.mem 𝓡.returns in let fn = code.function in
    let PR : RattleType = Parts.the_row arrays_row Heap.the_row ghosts in let KR : RattleType = Kept.the_row in
    let hs : Stays En.signature.params En.kept = (stay_dropped (plain (λ _. PR)) yes, (stay_dropped (plain (λ _. RawPtr)) yes, tt)) in
    proved_at 𝓛 En hs c 𝓜 𝓡 (Goes-dropped 𝓛 0 (plain (λ _. PR)) yes (λ κs x f. refl), (Goes-dropped 𝓛 0 (plain (λ _. RawPtr)) yes (λ κs x f. refl), tt)) #self fn (code.unfolded 𝓤 H 𝓜 𝓡 wired) (λ z are.
    let κs = z.0.0 in let Post : Val → SProp 𝓤 = (walk_of 𝓛 En hs c).post z in let Run : List Val → SProp 𝓤 = λ ws. WpFn 𝓤 H 𝓣.C 𝓣.Λ fn ws Post in
    let d = z.0.3.0 in let p : Ptr = d.ptr in let a = d.alloc in let s : QueryArrays = d.value in let q : Ptr = z.0.3.1.0 in
    qed 𝓛 ((‵ ftrue ⊛ ‵ (owns (types_at En.signature.params κs) z.0.3 z.0.4)) ∷ raw (fact 𝓤 (q ≡ null_ptr)) ∷ []) ∵ move ! (1 ∷ []) $ heard ! (q ≡ null_ptr) (λ null. split ! $ move ! (1 ∷ []) $ fsplit ! $ fsplit ! $
    both_out ! p a z.0.4.0 (λ h e fits. move ! (2 ∷ []) $ fsplit ! $ feq_l ! (λ eq. drop ! $
    -- [the handle; the box; the tokens]
    let u = ptr_val p in let v = ptr_val q in let w : Val = both u h in let r : Val = three u v h in
    suffices ! (Run (w ∷ v ∷ [])) (subst (λ (us : List Val). ent 𝓤 (Run (w ∷ v ∷ [])) (Run us)) (sym (λ i. e i ++ (eq i ++ []))) (id⊢ 𝓤 (Run (w ∷ v ∷ [])))) $
    enter ! 𝓣.C 𝓣.Λ fn (w ∷ v ∷ []) Post $ alloc_all ! (λ l. pass_all ! refl (both_fits 𝓛 p h fits, (ptr_fits 𝓛 q, tt)) $
    sets ! (of_opd ! (get_in ! (fld ! refl (stop !)) (sub ! 0 refl (whole !)))) refl (ptr_fits 𝓛 p) $ sets ! (of_opd ! (get_in ! (fld ! refl (stop !)) (sub ! 1 refl (whole !)))) refl fits $
    sets ! (agg ! (and_then ! (get ! refl) (and_then ! (get ! refl) (and_then ! (get ! refl) (no_more !))))) refl (three_fits 𝓛 p q h fits) $
    move ! (1 ∷ []) $ fsplit ! $ use1 𝓛 (later (‵ (fex ℕ (Begun 𝓛 p s)))) (begins 𝓛 p s) $ await ! tt $ fpick ! (λ n. fsplit ! $ move ! (1 ∷ []) $ fsplit ! $ move ! (1 ∷ 3 ∷ []) $ fjoin ! $
    -- [the lender; the token; what is lent; the handle; the tokens]
    let out : KR.Denot = record { arrays = p; query = q; alloc = a; read_of = s; value = None; life = n } in
    nothing ! $ fpack ! (q ≡ null_ptr) (λ _. ftrue) null $ move ! (1 ∷ 0 ∷ []) $ fjoin ! $ move ! (1 ∷ 0 ∷ []) $ fjoin ! $ move ! (1 ∷ 0 ∷ []) $ fjoin ! $ move ! (1 ∷ []) $ three_in ! p q a h $ fjoin ! $
    use0 𝓛 (raw (fact 𝓤 ((s ≡ s) × (out.value ≡ None)))) (fact_i 𝓤 ((s ≡ s) × (out.value ≡ None)) (emp 𝓤) (refl, refl)) $ nothing ! $ nothing ! $ nothing ! $ fjoin ! $ move ! (1 ∷ 0 ∷ []) $ fjoin ! $
    returns ! (look_at ! 0 refl) $ free_all ! refl $ keep ! (3 ∷ 0 ∷ 2 ∷ 1 ∷ []) $ by ! (leaves 𝓛 En hs c z r out (tt, (tt, tt)) (tt, (tt, tt)))))))))
