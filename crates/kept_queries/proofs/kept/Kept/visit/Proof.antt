-- `visit` asks at the lifetime of the object.
use Rattle.std.proofs.Common.{◌≡◌, ℕ, List, [], ◌∷◌, ◌++◌, refl, sym, ap, ◌∙◌, subst}
use mir.Val.{Val, vptr, vstruct, of_list}
use base.Fraction.{full_share}
use base.Logic.{SProp, ent, emp, never, via, fst∗, id⊢}
use base.Fml.{ftrue, fsep, feq, flft}
use prog.Wp.{WpFn}
use types.Logic.{sem}
use types.Kit.{‵, raw, ◌⊛◌, some, later, at_ret, ◌$◌, ◌∵◌, !, qed, by, move, keep, drop, split, join, fsplit, fjoin, fpick, fpack, pick, suffices, use0, use1, await, feq_i, feq_l}
use types.Run.{stop, fld, of_opd, addr, no_more, and_then, first, blocks, exec, returns, enter}
use types.ByLocal.{alloc_all, pass_all, free_all, look_at, get, get_in, through, sets, sets_last, lands_as, env}
use types.Part.{agg, sub, whole}
use contract.Monad.{fact, fact_i}
use contract.Running.{tables}
use denote.Exit.{yes, no}
use denote.RattleType.{RattleType, Valss, owns}
use denote.Signature.{types_at, plain}
use denote.Memory.{shared_of}
use denote.Opens.{hide}
use denote.RawPtr.{Ptr, null_ptr, block_ptr, ptr_val, in_a_block, block_of, count_of}
use denote.Steps.{nothing, only, heard}
use denote.Struct.Lending.{lent_at, lent_at_shr_laws}
use denote.Struct.Tuple.{Tuple}
use denote.SharingLaws.{contraction}
use denote.Triple.Call.{calls_at}
use denote.Triple.Clauses.{Lasts, lasts}
use denote.Triple.Spec.{triple_of}
use denote.Triple.Table.{framed}
use denote.Triple.Walked.{Stays, stay_dropped, walk_of, Goes-dropped}
use Rattle.std.specs.Prelude.{Option}
use Rattle.std.proofs.alloc.Calls.{Goes-blank}
use Rattle.std.proofs.raw_atomic.Walks.{proved_at, leaves}
use Rattle.std.proofs.VecSteps.Shapes.{after}
use Rattle.kept_queries.specs.Queries.{QueryText}
use Rattle.handles.specs.Slot.{slot_at}
use Rattle.handles.specs.contracts.Slot as Slot
use Rattle.handles.proofs.Values.{both, both_tt, both_out, both_in, both_fits, ptr_fits}
use Rattle.kept_queries.specs.declared.arrays.QueryArrays.{QueryArrays}
use Rattle.kept_queries.specs.Kept.{arrays_row, kept_at, query_row, lender}
use Rattle.handles.proofs.Objects.{three, three_fits, three_out, three_in, row_tells}
use Rattle.kept_queries.proofs.Objects.{arrays_laws}
use Rattle.kept_queries.specs.contracts.kept.Kept as Kept
use Rattle.kept_queries.specs.contracts.kept.Kept.visit.{ended, clauses}
use Rattle.kept_queries.specs.contracts.kept.Kept.visit.Key.{name as #self}
use Rattle.kept_queries.proofs.kept.Kept.visit.Statement.{statement}
use Rattle.kept_queries.proofs.kept.Kept.visit.Code as code
use mir.Syntax.{a_type, dcons, dnil}
use mir.MapTy.{inst_fn}
use contract.BorrowLft.{◌⊑◌}
use denote.Param.{param, bounded}
use Rattle.kept_queries.specs.contracts.kept.step as k
use Rattle.kept_queries.proofs.kept.step.Met.{met}

pub visit_spec : {M : Type 1} → statement M
visit_spec 𝓤 𝓛 𝓜 𝓡 wired V A LV LA g dv bound =
    let H = 𝓛.H in let 𝓣 = tables 𝓤 H 𝓜 𝓡 𝓡.env in let En = ended V A g dv in let c = clauses V A g dv 𝓛 𝓜.mem 𝓡.returns in let inst = bounded (a_type ∷ a_type ∷ []) (V, (A, tt)) (dcons dv dnil) in let fn = inst_fn inst code.function in
    let KR : RattleType = Kept.the_row in let VR : RattleType = param 0 V in let AR : RattleType = param 1 A in
    let hs : Stays En.signature.params En.kept = (stay_dropped (plain (λ _. KR)) yes, (stay_dropped (plain (λ _. VR)) no, tt)) in
    proved_at 𝓛 En hs c 𝓜 𝓡 (Goes-dropped 𝓛 2 (plain (λ _. KR)) yes (λ κs x f. refl), (Goes-blank 𝓛 2 (plain (λ _. VR)) no (λ κs x f. tt), tt)) (#self inst) fn (code.unfolded 𝓤 H 𝓜 𝓡 wired (V, (A, tt)) dv) (λ z are.
    let κs = z.0.0 in let qs = z.0.1 in let inV = κs.0 ⊑ V.lives in let inA = κs.1.0 ⊑ A.lives in let toks = ‵ (flft κs.0 qs.0) ⊛ ‵ (flft κs.1.0 qs.1.0) ⊛ ‵ ftrue in let Post : Val → SProp 𝓤 = (walk_of 𝓛 En hs c).post z in let Run : List Val → SProp 𝓤 = λ ws. WpFn 𝓤 H 𝓣.C 𝓣.Λ fn ws Post in
    let d = z.0.3.0 in let q : Ptr = d.query in let a = d.alloc in let s : QueryArrays = d.read_of in let o : Option QueryText = d.value in let n : ℕ = d.life in let want = z.0.3.1.0 in let SR : RattleType = Slot.the_row (query_row n) in
    let G = triple_of 𝓛 (k.signature V A) (k.spec V A g dv 𝓛 𝓜.mem 𝓡.returns) in
    qed 𝓛 ((toks ⊛ ‵ (owns (types_at En.signature.params κs) z.0.3 z.0.4)) ∷ raw (fact 𝓤 inV) ∷ raw (fact 𝓤 inA) ∷ ‵ ftrue ∷ []) ∵ move ! (1 ∷ 2 ∷ []) $ heard ! inV (λ leV. heard ! inA (λ leA. split ! $ move ! (1 ∷ []) $ fsplit ! $ fsplit ! $
    three_out ! d.arrays q a z.0.4.0 (λ h e fits. move ! (2 ∷ []) $ fsplit ! $ row_tells ! V LV want z.0.4.1.0 (λ m em fine. move ! (3 ∷ []) $
    in_a_block ! d.arrays (λ (p : Ptr). kept_at a s o n p q) (via 𝓤 (sem 𝓛 (lent_at arrays_row null_ptr s (n ∷ []))) (fst∗ 𝓤 (sem 𝓛 (lent_at arrays_row null_ptr s (n ∷ []))) (sem 𝓛 (fsep (flft (n ∷ []) full_share) (fsep (lender a s n null_ptr) (slot_at (query_row n) a o q))))) (fst∗ 𝓤 (never 𝓤) (sem 𝓛 (shared_of arrays_row s (block_of null_ptr) (count_of null_ptr) (n ∷ []))))) (λ b i ep.
    -- [the object; what is wanted; true; the handle; the tokens; nothing]
    let p : Ptr = block_ptr b i in let u : Val = vptr b i in let v : Val = ptr_val q in let w : Val = three u v h in let slot : Val = both v h in
    let y : G.Ghost = (((n ∷ [], (κs.0, (κs.1.0, tt))), (full_share, (qs.0, (qs.1.0, tt))), tt, (record { ref_ptr = (b, i); now = s }, (record { at = q; alloc = a; value = o }, (want, tt))), (u ∷ [], (slot ∷ [], (m ∷ [], tt)))), tt) in
    suffices ! (Run (w ∷ m ∷ [])) (subst (λ (us : List Val). ent 𝓤 (Run (w ∷ m ∷ [])) (Run us)) (sym (λ j. (e ∙ ap (λ (π : Ptr). three (ptr_val π) v h ∷ []) ep) j ++ (em j ++ []))) (id⊢ 𝓤 (Run (w ∷ m ∷ [])))) $
    enter ! 𝓣.C 𝓣.Λ fn (w ∷ m ∷ []) Post $ alloc_all ! (λ l. pass_all ! refl (three_fits 𝓛 p q h fits, (fine, tt)) $
    sets ! (of_opd ! (get_in ! (fld ! refl (stop !)) (sub ! 0 refl (whole !)))) refl (ptr_fits 𝓛 p) $ sets ! (of_opd ! (get_in ! (fld ! refl (stop !)) (sub ! 1 refl (whole !)))) refl (ptr_fits 𝓛 q) $ sets ! (of_opd ! (get_in ! (fld ! refl (stop !)) (sub ! 2 refl (whole !)))) refl fits $
    sets ! (of_opd ! (get ! refl)) refl (ptr_fits 𝓛 q) $ sets ! (of_opd ! (get ! refl)) refl (ptr_fits 𝓛 q) $ sets ! (of_opd ! (get ! refl)) refl fits $
    sets ! (agg ! (and_then ! (get ! refl) (and_then ! (get ! refl) (no_more !)))) refl (both_fits 𝓛 q h fits) $
    first ! $ blocks ! $ sets_last ! (addr ! (through ! refl (stop !))) refl (tt, tt) $ exec ! 𝓣.C 𝓣.Λ (env fn.locals l) (after 8 fn.body) (at_ret (env fn.locals l) Post) $
    sets ! (of_opd ! (get ! refl)) refl (tt, tt) $ sets ! (of_opd ! (get ! refl)) refl (both_fits 𝓛 q h fits) $ sets ! (of_opd ! (get ! refl)) refl fine $
    fsplit ! $ use1 𝓛 (‵ (lent_at arrays_row p s (n ∷ [])) ⊛ ‵ (lent_at arrays_row p s (n ∷ []))) (contraction 𝓛 (lent_at arrays_row p s) (lent_at_shr_laws arrays_row arrays_laws.shr_laws p s) (n ∷ [])) $ split ! $ move ! (2 ∷ []) $ fsplit ! $ move ! (1 ∷ []) $ fsplit ! $
    -- [the lender; the slot; the token; what is lent, twice; what is wanted; true; the handle; the tokens; nothing]
    move ! (5 ∷ 6 ∷ []) $ fjoin ! $ move ! (6 ∷ []) $ both_in ! q a h $ move ! (0 ∷ 3 ∷ []) $ fjoin ! $ fjoin ! $ move ! (3 ∷ []) $ fsplit ! $ drop ! $ hide ! $ feq_i ! (List Val) (u ∷ []) (u ∷ []) refl $ fjoin ! $ fjoin ! $
    move ! (2 ∷ 4 ∷ []) $ join ! $ join ! $ nothing ! $ use0 𝓛 (raw (fact 𝓤 inA)) (fact_i 𝓤 inA (emp 𝓤) leA) $ join ! $ use0 𝓛 (raw (fact 𝓤 inV)) (fact_i 𝓤 inV (emp 𝓤) leV) $ join ! $ move ! (1 ∷ 0 ∷ []) $ join ! $ use1 𝓛 (raw (G.pre y)) (id⊢ 𝓤 _) $
    -- [what is asked; the lender; what is lent; the tokens; nothing]
    calls_at ! (framed 𝓤 𝓛.H 𝓜 𝓣) G (met 𝓤 𝓛 𝓜 𝓡 (code.calls-kept_queries::kept::step 𝓡.env wired) V A LV LA g dv bound) y (and_then ! (get ! refl) (and_then ! (get ! refl) (and_then ! (get ! refl) (no_more !)))) (λ t.
    use1 𝓛 (later (some (λ (r : SR.Denot × A.Denot). ((‵ (flft (n ∷ []) full_share) ⊛ toks) ⊛ ‵ ((Tuple (SR ∷ AR ∷ [])).own_val r (t ∷ []))) ⊛ some (λ (ls : Lasts (k.ended V A g dv) y.0.0 y.0.3). ‵ (lasts (k.ended V A g dv) y.0.0 y.0.3 ls) ⊛ raw (fact 𝓤 (g.is_visit want s o r.0.value r.1)))))) (id⊢ 𝓤 (G.post y t)) $
    await ! tt $ pick ! (λ r. split ! $ move ! (1 ∷ []) $ pick ! (λ ls. split ! $ drop ! $ heard ! (g.is_visit want s o r.0.value r.1) (λ told. split ! $ split ! $ move ! (2 ∷ []) $ fpick ! (λ vss. fsplit ! $ feq_l ! (λ et. fsplit ! $ fsplit ! $
    both_out ! r.0.at r.0.alloc vss.0 (λ h₁ e₁ fits₁. move ! (2 ∷ []) $ fsplit ! $ row_tells ! A LA r.1 vss.1.0 (λ m₁ em₁ fine₁.
    -- [the number; true; the handle; the slot; the token; true; the lender; what is lent; the tokens; nothing]
    let q₁ : Ptr = r.0.at in let slot₁ : Val = both (ptr_val q₁) h₁ in let w₁ : Val = three u (ptr_val q₁) h₁ in let out : Val = both w₁ m₁ in
    let new : KR.Denot = record { arrays = p; query = q₁; alloc = a; read_of = s; value = r.0.value; life = n } in let Told : Type 0 = g.is_visit want s o new.value r.1 × (new.read_of ≡ s) in
    let slot_fits = both_fits 𝓛 q₁ h₁ fits₁ in let new_fits = three_fits 𝓛 p q₁ h₁ fits₁ in
    lands_as ! (ap only (et ∙ (λ j. vstruct (of_list (e₁ j ++ (em₁ j ++ []))) ∷ []))) refl (both_tt _ _ slot_fits.0 fine₁.0, (slot_fits.1, (fine₁.1, tt))) $
    sets ! (of_opd ! (get_in ! (fld ! refl (stop !)) (sub ! 0 refl (whole !)))) refl slot_fits $ sets ! (of_opd ! (get_in ! (fld ! refl (stop !)) (sub ! 1 refl (whole !)))) refl fine₁ $
    sets ! (of_opd ! (get_in ! (fld ! refl (stop !)) (sub ! 0 refl (whole !)))) refl (ptr_fits 𝓛 q₁) $ sets ! (of_opd ! (get_in ! (fld ! refl (stop !)) (sub ! 1 refl (whole !)))) refl fits₁ $
    sets ! (of_opd ! (get ! refl)) refl (ptr_fits 𝓛 p) $ sets ! (of_opd ! (get ! refl)) refl (ptr_fits 𝓛 q₁) $ sets ! (of_opd ! (get ! refl)) refl (ptr_fits 𝓛 q₁) $ sets ! (of_opd ! (get ! refl)) refl fits₁ $
    sets ! (agg ! (and_then ! (get ! refl) (and_then ! (get ! refl) (and_then ! (get ! refl) (no_more !))))) refl new_fits $ sets ! (of_opd ! (get ! refl)) refl new_fits $ sets ! (of_opd ! (get ! refl)) refl fine₁ $
    sets ! (agg ! (and_then ! (get ! refl) (and_then ! (get ! refl) (no_more !)))) refl (both_tt _ _ new_fits.0 fine₁.0, (new_fits.1, (fine₁.1, tt))) $
    move ! (6 ∷ 3 ∷ []) $ fjoin ! $ move ! (4 ∷ 0 ∷ []) $ fjoin ! $ move ! (5 ∷ 0 ∷ []) $ fjoin ! $ move ! (3 ∷ []) $ three_in ! p q₁ a h₁ $ fjoin ! $
    -- [the object; the number; true; true; the tokens; nothing]
    move ! (1 ∷ 2 ∷ []) $ fjoin ! $ move ! (1 ∷ 0 ∷ []) $ fjoin ! $ feq_i ! (List Val) (out ∷ []) (out ∷ []) refl $ fjoin ! $
    fpack ! (Valss (KR ∷ AR ∷ [])) (λ uss. fsep (feq (List Val) (out ∷ []) (vstruct (of_list (uss.0 ++ (uss.1.0 ++ []))) ∷ [])) (owns (KR ∷ AR ∷ []) (new, (r.1, tt)) uss)) (w₁ ∷ [], (m₁ ∷ [], tt)) $
    use0 𝓛 (raw (fact 𝓤 Told)) (fact_i 𝓤 Told (emp 𝓤) (told, refl)) $ nothing ! $ nothing ! $ nothing ! $ fjoin ! $ move ! (1 ∷ 0 ∷ []) $ fjoin ! $
    returns ! (look_at ! 0 refl) $ free_all ! refl $ keep ! (3 ∷ 0 ∷ 2 ∷ 1 ∷ []) $ by ! (leaves 𝓛 En hs c z out (new, r.1) (tt, (tt, tt)) (tt, (tt, tt))))))))))))))))))
