-- The machine values of an object, and its lifetime: begun and ended. Assumes `Logic`.
use Rattle.std.proofs.Common.{◌≡◌, ℕ, List, [], ◌∷◌, ◌++◌, refl, ◌∙◌}
use mathlib.Core.Bool.{Bool, true, false, ◌&&◌}
use lib.Dec.{T}
use seplogic.Ra.Ura.{Ura}
use mir.Syntax.{ty_ptr}
use mir.Val.{Val, vstruct, vcons, vnil, of_list, has_ty, WT}
use base.Fraction.{full_share}
use base.Logic.{ent, sep}
use base.Fml.{Fml, Incl-refl, fsep, fex, flft, flent}
use types.Logic.{Logic, sem}
use types.Kit.{Item, Goal, Seq, Step, step, ‵, ◌⊛◌, later, ◌$◌, ◌∵◌, !, qed, move, drop, split, fsplit, fjoin, fpick, fpack, feq_i, feq_l, use2, await, updating, now, done}
use types.Tokens.{lft_new, lft_end, bor_new, lent_back}
use denote.RattleType.{RattleType, Valss}
use denote.Builtin.{RawPtr, usize}
use denote.RawPtr.{Ptr, ptr_val, lies_at}
use denote.Steps.{nothing}
use denote.Param.{layout}
use denote.Param.Laws.{Laws, of_field}
use denote.Param.Shared.{copy_shared}
use denote.Struct.Field.{u64-field}
use denote.Struct.Laws.{u64-laws, u64-copy}
use denote.Struct.Struct.{Struct, within}
use denote.Struct.Lending.{lent_at, Lends-lies}
use Rattle.std.specs.Global.{Global}
use Rattle.std.specs.contracts.alloc.Global as Heap
use Rattle.std.specs.contracts.impls.GlobalAllocator.TheImpl.{ghosts}
use Rattle.std.proofs.alloc.Global.TheLaws as heap
use Rattle.std.proofs.alloc.Calls.{Fits, handle_tells}
use Rattle.std_alloc.proofs.string.String.TheLaws as string
use Rattle.std_alloc.proofs.BoxSteps.Form.{Good}
use Rattle.std_alloc.proofs.BoxSteps.Steps.{el_tells}
use Rattle.handles.proofs.Values.{al, boxed, ptr_fits}
use Rattle.handles.specs.Text.{Text, text_row}

pub text_laws : Laws text_row
text_laws = string.the_row_laws Heap.the_row ghosts heap.the_row_laws

pub usize_laws : Laws usize
usize_laws = of_field u64-field u64-laws refl (copy_shared u64-field u64-copy)

abbrev pub three : Val → Val → Val → Val
three u v w = vstruct (vcons u (vcons v (vcons w vnil)))

three_tt : (x y z : Bool) → T x → T y → T z → T (x && (y && (z && true)))
three_tt true true true r s t = tt
three_tt true true false r s t = absurd t
three_tt true false z r s t = absurd s
three_tt false y z r s t = absurd r

abbrev pub Three : RattleType
Three = Struct (record { name = []; args = []; types = []; fields = RawPtr ∷ RawPtr ∷ Heap.the_row ∷ [] })

module _ {M : Type 1} {𝓤 : Ura M} (𝓛 : Logic 𝓤) where
  open 𝓛 use {H}

  pub three_fits : (p q : Ptr) (h : Val) → Fits al h → T (has_ty ty_ptr (ptr_val p) && (has_ty ty_ptr (ptr_val q) && (has_ty (layout Heap.the_row) h && true))) × WT (three (ptr_val p) (ptr_val q) h)
  three_fits p q h fits =
      (three_tt (has_ty ty_ptr (ptr_val p)) (has_ty ty_ptr (ptr_val q)) (has_ty (layout Heap.the_row) h) (ptr_fits 𝓛 p).0 (ptr_fits 𝓛 q).0 fits.0, ((ptr_fits 𝓛 p).1, ((ptr_fits 𝓛 q).1, (fits.1, tt))))

  -- a text that is lent for the lifetime a, of which the whole token is here
  abbrev pub Begun : Ptr → Text → ℕ → Fml
  Begun p s a = fsep (lent_at text_row p s (a ∷ [])) (fsep (flft (a ∷ []) full_share) (flent (a ∷ []) (lies_at text_row full_share p s)))

  pub begins : (p : Ptr) (s : Text) → ent 𝓤 (sem 𝓛 (lies_at text_row full_share p s)) (H.⇛ (sem 𝓛 (fex ℕ (Begun p s))))
  begins p s = qed 𝓛 (‵ (lies_at text_row full_share p s) ∷ []) ∵ updating ! $ lft_new ! tt (λ a. move ! (1 ∷ []) $ bor_new ! tt (a ∷ []) $ move ! (0 ∷ 2 ∷ []) $
      use2 𝓛 (later (‵ (lent_at text_row p s (a ∷ [])) ⊛ ‵ (flft (a ∷ []) full_share))) (Lends-lies 𝓛 text_row text_row.lives p s (text_laws.shares 𝓛 s) (a ∷ []) ((a ∷ [], full_share) ∷ []) (string.the_within Heap.the_row ghosts (a ∷ []) (heap.the_within (a ∷ []))) (Incl-refl (a ∷ []))) $
      await ! tt $ split ! $ move ! (1 ∷ 2 ∷ []) $ fjoin ! $ move ! (1 ∷ 0 ∷ []) $ fjoin ! $ fpack ! ℕ (Begun p s) a $ now ! $ done !)

  pub ends : (p : Ptr) (s : Text) (a : ℕ) → ent 𝓤 (sep 𝓤 (sem 𝓛 (flft (a ∷ []) full_share)) (sem 𝓛 (flent (a ∷ []) (lies_at text_row full_share p s)))) (H.⇛ (sem 𝓛 (lies_at text_row full_share p s)))
  ends p s a = qed 𝓛 (‵ (flft (a ∷ []) full_share) ∷ ‵ (flent (a ∷ []) (lies_at text_row full_share p s)) ∷ []) ∵ updating ! $ lft_end ! tt $ lent_back ! tt $ now ! $ done !

module _ {M : Type 1} {𝓤 : Ura M} {𝓛 : Logic 𝓤} {K : Type 0} {Γ : List (Item 𝓤)} {G : Goal 𝓤 𝓛.H} where
  pub three_out : K → (p q : Ptr) (a : Global) (us : List Val)
      → ((h : Val) → us ≡ three (ptr_val p) (ptr_val q) h ∷ [] → Fits al h → Seq K 𝓛 (‵ (Heap.the_row.own_val a (h ∷ [])) ∷ Γ) G) → Seq K 𝓛 (‵ (Three.own_val (p, (q, (a, tt))) us) ∷ Γ) G
  three_out t p q a us k = fpick t (λ vss. fsplit t $ feq_l t (λ ev. fsplit t $ feq_l t (λ ep. fsplit t $ feq_l t (λ eq. fsplit t $ handle_tells al t a vss.1.1.0 (λ h ea fits. move t (1 ∷ []) $ drop t $
      k h (ev ∙ (λ i. vstruct (of_list (ep i ++ (eq i ++ (ea i ++ [])))) ∷ [])) fits)))))

  pub three_in : K → (p q : Ptr) (a : Global) (h : Val) → Step K 𝓛 (‵ (Three.own_val (p, (q, (a, tt))) (three (ptr_val p) (ptr_val q) h ∷ [])) ∷ Γ) G (‵ (Heap.the_row.own_val a (h ∷ [])) ∷ Γ) G
  three_in t p q a h = step (λ s. let u = ptr_val p in let v = ptr_val q in let w = three u v h in nothing t $ move t (1 ∷ 0 ∷ []) $ fjoin t $ feq_i t (List Val) (v ∷ []) (v ∷ []) refl $ fjoin t $ feq_i t (List Val) (u ∷ []) (u ∷ []) refl $ fjoin t $
      feq_i t (List Val) (w ∷ []) (w ∷ []) refl $ fjoin t $
      fpack t (Valss (RawPtr ∷ RawPtr ∷ Heap.the_row ∷ [])) (within (record { name = []; args = []; types = []; fields = RawPtr ∷ RawPtr ∷ Heap.the_row ∷ [] }) (p, (q, (a, tt))) (w ∷ [])) (u ∷ [], (v ∷ [], (h ∷ [], tt))) $ s)

  pub row_tells : K → (R : RattleType) (L : Laws R) (x : R.Denot) (vs : List Val) → ((v : Val) → vs ≡ v ∷ [] → Good (boxed R L) v → Seq K 𝓛 (‵ (R.own_val x (v ∷ [])) ∷ Γ) G) → Seq K 𝓛 (‵ (R.own_val x vs) ∷ Γ) G
  row_tells t R L x vs k = el_tells (boxed R L) t x vs k
