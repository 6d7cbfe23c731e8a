-- `empty` owns nothing behind the null pointer.
use Rattle.std.proofs.Common.{◌≡◌, List, [], ◌∷◌, ◌++◌, refl, sym, subst}
use mir.Syntax.{a_type}
use mir.Val.{Val}
use mir.MapTy.{inst_fn}
use base.Logic.{SProp, ent, emp, id⊢}
use base.Fml.{ftrue, flft}
use prog.Wp.{WpFn}
use types.Kit.{‵, raw, ◌⊛◌, ◌$◌, ◌∵◌, !, qed, by, move, keep, split, fsplit, fjoin, fpack, suffices, use0, feq_l}
use types.Run.{no_more, and_then, returns, enter}
use types.ByLocal.{alloc_all, pass_all, free_all, look_at, get, sets}
use types.Part.{agg}
use contract.Monad.{fact, fact_i}
use contract.BorrowLft.{◌⊑◌}
use contract.Running.{tables}
use denote.Exit.{yes}
use denote.RattleType.{RattleType, owns}
use denote.Signature.{types_at, plain}
use denote.Builtin.{RawPtr}
use denote.RawPtr.{Ptr, null_ptr, ptr_val}
use denote.Steps.{nothing, heard}
use denote.Param.{param, layouts}
use denote.Triple.Walked.{Stays, stay_dropped, walk_of, Goes-dropped}
use Rattle.std.specs.Prelude.{None}
use Rattle.std.specs.contracts.alloc.Global as Heap
use Rattle.std.specs.contracts.impls.GlobalAllocator.TheImpl.{ghosts}
use Rattle.std.proofs.alloc.Calls.{handle_tells}
use Rattle.std.proofs.raw_atomic.Walks.{proved_at, leaves}
use Rattle.handles.proofs.Values.{al, both, both_in, both_fits, ptr_fits}
use Rattle.handles.specs.contracts.Slot as Slot
use Rattle.handles.specs.contracts.Parts as Parts
use Rattle.handles.specs.contracts.Slot.empty.{ended, clauses}
use Rattle.handles.specs.contracts.Slot.empty.Key.{name as #self}
use Rattle.handles.proofs.Slot.empty.Statement.{statement}
use Rattle.handles.proofs.Slot.empty.Code as code

pub empty_spec : {M : Type 1} → statement M
empty_spec 𝓤 𝓛 𝓜 𝓡 wired X L =
    let H = 𝓛.H in let 𝓣 = tables 𝓤 H 𝓜 𝓡 𝓡.env in let R : RattleType = param 0 X in let En = ended X in let c = clauses X 𝓛 𝓜.mem 𝓡.returns in
    let inst = layouts (a_type ∷ []) (X, tt) in let fn = inst_fn inst code.function in let PR : RattleType = Parts.the_row R Heap.the_row ghosts in let SR : RattleType = Slot.the_row R in
    let hs : Stays En.signature.params En.kept = (stay_dropped (plain (λ _. RawPtr)) yes, (stay_dropped (plain (λ _. Heap.the_row)) yes, tt)) in
    proved_at 𝓛 En hs c 𝓜 𝓡 (Goes-dropped 𝓛 1 (plain (λ _. RawPtr)) yes (λ κs x f. refl), (Goes-dropped 𝓛 1 (plain (λ _. Heap.the_row)) yes (λ κs x f. refl), tt)) (#self inst) fn (code.unfolded 𝓤 H 𝓜 𝓡 wired (X, tt)) (λ z are.
    let κs = z.0.0 in let qs = z.0.1 in let Post : Val → SProp 𝓤 = (walk_of 𝓛 En hs c).post z in let Run : List Val → SProp 𝓤 = λ ws. WpFn 𝓤 H 𝓣.C 𝓣.Λ fn ws Post in
    let p : Ptr = z.0.3.0 in let a = z.0.3.1.0 in let out : SR.Denot = record { at = p; alloc = a; value = None } in let toks = ‵ (flft κs.0 qs.0) ⊛ ‵ ftrue in let u = ptr_val p in
    qed 𝓛 ((toks ⊛ ‵ (owns (types_at En.signature.params κs) z.0.3 z.0.4)) ∷ raw (fact 𝓤 (κs.0 ⊑ X.lives)) ∷ raw (fact 𝓤 (p ≡ null_ptr)) ∷ []) ∵ move ! (2 ∷ []) $ heard ! (p ≡ null_ptr) (λ null. split ! $ move ! (1 ∷ []) $ fsplit ! $
    feq_l ! (λ ep. fsplit ! $ handle_tells al ! a z.0.4.1.0 (λ h eh fits. let w : Val = both u h in let good = both_fits 𝓛 p h fits in
    -- [the handle; true; the tokens; the bound]
    suffices ! (Run (u ∷ h ∷ [])) (subst (λ (us : List Val). ent 𝓤 (Run (u ∷ h ∷ [])) (Run us)) (sym (λ i. ep i ++ (eh i ++ []))) (id⊢ 𝓤 (Run (u ∷ h ∷ [])))) $
    enter ! 𝓣.C 𝓣.Λ fn (u ∷ h ∷ []) Post $ alloc_all ! (λ l. pass_all ! refl (ptr_fits 𝓛 p, (fits, tt)) $
    sets ! (agg ! (and_then ! (get ! refl) (and_then ! (get ! refl) (no_more !)))) refl good $ both_in ! p a h $ nothing ! $ fpack ! (p ≡ null_ptr) (λ _. ftrue) null $ move ! (1 ∷ 0 ∷ []) $ fjoin ! $
    use0 𝓛 (raw (fact 𝓤 (None ≡ None))) (fact_i 𝓤 (out.value ≡ None) (emp 𝓤) refl) $ nothing ! $ nothing ! $ nothing ! $ fjoin ! $ move ! (1 ∷ 0 ∷ []) $ fjoin ! $
    returns ! (look_at ! 0 refl) $ free_all ! refl $ keep ! (4 ∷ 0 ∷ 2 ∷ 1 ∷ []) $ by ! (leaves 𝓛 En hs c z w out (tt, (tt, tt)) (tt, (tt, tt))))))))
