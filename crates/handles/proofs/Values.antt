-- The machine values of a struct of a pointer and the heap's handle, and what a slot owns, by cases. Assumes `Logic`.
use Rattle.std.proofs.Common.{◌≡◌, List, [], ◌∷◌, ◌++◌, refl, sym, ◌∙◌, subst}
use mathlib.Core.Bool.{Bool, true, false, ◌&&◌}
use lib.Dec.{T, lit<}
use seplogic.Ra.Ura.{Ura}
use mir.Syntax.{impl, tnil, dnil, ty_ptr, ptr_eq}
use mir.Raw.{raw as bare}
use mir.Val.{Val, vstruct, vcons, vnil, of_list, has_ty, WT, op2_val, vnull, vbool}
use base.Logic.{ent, guard, via, never, fst∗, snd∗, guard_i}
use types.Logic.{Logic, sem}
use types.Kit.{Item, Goal, Seq, Step, step, ‵, given, ◌$◌, move, drop, fsplit, fjoin, fpick, fpack, feq_i, feq_l, use1, learn, rewrite}
use contract.Monad.{fact_use}
use denote.RattleType.{RattleType, Valss}
use denote.Builtin.{RawPtr}
use denote.Memory.{lone}
use denote.RawPtr.{Ptr, null_ptr, ptr_val, in_a_block, rawptr_Lawful, lies_at, Testable}
use denote.Steps.{nothing}
use denote.Param.{layout}
use denote.Param.Laws.{Laws}
use denote.Struct.Struct.{Struct, within}
use base.Fraction.{full_share}
use Rattle.std.specs.Prelude.{Option, None, Some}
use Rattle.std.specs.Global.{Global}
use Rattle.std.specs.contracts.alloc.Global as Heap
use Rattle.std.specs.contracts.impls.GlobalAllocator.TheImpl.{ghosts, dict}
use Rattle.std.proofs.alloc.Global.TheLaws as heap
use Rattle.std.proofs.alloc.Calls.{Al, Fits, handle_tells}
use Rattle.std.proofs.GlobalToken.{dealloc_token-Testable}
use Rattle.std.specs.Box.Ownership.{box_owns}
use Rattle.std_alloc.proofs.BoxSteps.Form.{Bx}
use Rattle.handles.specs.Slot.{slot_at}

abbrev pub al : Al
al = record { row = Heap.the_row; laws = heap.the_row_laws; g = ghosts; d = dict; drops = impl [] tnil dnil }

abbrev pub boxed : (X : RattleType) → Laws X → Bx
boxed X L = record { row = X; laws = L; al = al }

abbrev pub both : Val → Val → Val
both v w = vstruct (vcons v (vcons w vnil))

pub both_tt : (x y : Bool) → T x → T y → T (x && (y && true))
both_tt true true s t = tt
both_tt true false s t = absurd t
both_tt false y s t = absurd s

abbrev pub Two : RattleType
Two = Struct (record { name = []; args = []; types = []; fields = RawPtr ∷ Heap.the_row ∷ [] })

-- p may be compared with null, and the answer is y
abbrev pub NullIs : Ptr → Bool → Type 0
NullIs p y = Testable p × (op2_val ptr_eq (ptr_val p) vnull ≡ vbool y)

abbrev pub PtrFits : Val → Type 0
PtrFits v = T (has_ty ty_ptr v) × WT v

module _ {M : Type 1} {𝓤 : Ura M} (𝓛 : Logic 𝓤) where
  pub ptr_fits : (p : Ptr) → PtrFits (ptr_val p)
  ptr_fits p = ((rawptr_Lawful 𝓛).typed p (ptr_val p ∷ []) refl).0

  pub both_fits : (p : Ptr) (h : Val) → Fits al h → T (has_ty ty_ptr (ptr_val p) && (has_ty (layout Heap.the_row) h && true)) × WT (both (ptr_val p) h)
  both_fits p h fits = (both_tt (has_ty ty_ptr (ptr_val p)) (has_ty (layout Heap.the_row) h) (ptr_fits p).0 fits.0, ((ptr_fits p).1, (fits.1, tt)))

  pub tested : (R : RattleType) (a : Global) (p : Ptr) (x : R.Denot) → ent 𝓤 (sem 𝓛 (box_owns (ghosts.dealloc_token a) R p x)) (guard 𝓤 (Testable p) (sem 𝓛 (box_owns (ghosts.dealloc_token a) R p x)))
  tested R a p x = fact_use 𝓤 (Testable p) (via 𝓤 _ (snd∗ 𝓤 (sem 𝓛 (lies_at R full_share p x)) (sem 𝓛 (ghosts.dealloc_token a (bare (lone R.mir)) p))) (dealloc_token-Testable 𝓛 a (bare (lone R.mir)) p)) (guard_i 𝓤 (Testable p) (sem 𝓛 (box_owns (ghosts.dealloc_token a) R p x)))

module _ {M : Type 1} {𝓤 : Ura M} {𝓛 : Logic 𝓤} {K : Type 0} {Γ : List (Item 𝓤)} {G : Goal 𝓤 𝓛.H} where
  pub both_out : K → (p : Ptr) (a : Global) (us : List Val)
      → ((h : Val) → us ≡ both (ptr_val p) h ∷ [] → Fits al h → Seq K 𝓛 (‵ (Heap.the_row.own_val a (h ∷ [])) ∷ Γ) G) → Seq K 𝓛 (‵ (Two.own_val (p, (a, tt)) us) ∷ Γ) G
  both_out t p a us k = fpick t (λ vss. fsplit t $ feq_l t (λ ev. fsplit t $ feq_l t (λ ep. fsplit t $ handle_tells al t a vss.1.0 (λ h ea fits. move t (1 ∷ []) $ drop t $
      k h (ev ∙ (λ i. vstruct (of_list (ep i ++ (ea i ++ []))) ∷ [])) fits))))

  pub both_in : K → (p : Ptr) (a : Global) (h : Val) → Step K 𝓛 (‵ (Two.own_val (p, (a, tt)) (both (ptr_val p) h ∷ [])) ∷ Γ) G (‵ (Heap.the_row.own_val a (h ∷ [])) ∷ Γ) G
  both_in t p a h = step (λ s. let u = ptr_val p in let w = both (ptr_val p) h in nothing t $ move t (1 ∷ 0 ∷ []) $ fjoin t $ feq_i t (List Val) (u ∷ []) (u ∷ []) refl $ fjoin t $ feq_i t (List Val) (w ∷ []) (w ∷ []) refl $ fjoin t $
      fpack t (Valss (RawPtr ∷ Heap.the_row ∷ [])) (within (record { name = []; args = []; types = []; fields = RawPtr ∷ Heap.the_row ∷ [] }) (p, (a, tt)) (w ∷ [])) (u ∷ [], (h ∷ [], tt)) $ s)

  pub either_slot : K → (R : RattleType) (a : Global) (o : Option R.Denot) (p : Ptr) → (o ≡ None → p ≡ null_ptr → NullIs p true → Seq K 𝓛 Γ G)
      → ((x : R.Denot) → o ≡ Some x → NullIs p false → Seq K 𝓛 (‵ (box_owns (ghosts.dealloc_token a) R p x) ∷ Γ) G) → Seq K 𝓛 (‵ (slot_at R a o p) ∷ Γ) G
  either_slot t R a None p none some = fpick t (λ e. drop t $ none refl e (subst (λ (q : Ptr). NullIs q true) (sym e) (lit< tt, refl)))
  either_slot t R a (Some x) p none some = use1 𝓛 (given (Testable p) (‵ (box_owns (ghosts.dealloc_token a) R p x))) (tested 𝓛 R a p x) $ learn t (λ ok.
      in_a_block t p (λ (q : Ptr). box_owns (ghosts.dealloc_token a) R q x) (fst∗ 𝓤 (never 𝓤) (sem 𝓛 (ghosts.dealloc_token a (bare (lone R.mir)) null_ptr))) (λ b o e.
      rewrite t 0 (λ (q : Ptr). ‵ (box_owns (ghosts.dealloc_token a) R q x)) (sym e) refl $ some x refl (ok, subst (λ (q : Ptr). op2_val ptr_eq (ptr_val q) vnull ≡ vbool false) (sym e) refl)))
