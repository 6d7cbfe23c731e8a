-- The flat lists of a selector as it is filled.
-- Serves `draft::Draft` (a token more in each of its lists).
use Rattle.std.proofs.Common.{◌≡◌, ◌≢◌, ℕ, zero, suc, ◌+◌, ◌-◌, ◌<◌, ◌≤◌, List, [], ◌∷◌, ◌++◌, None, length, get_or, take, drop, map, Result, Ok, Err, refl, sym, ap, ◌∙◌, arith}
use Rattle.std.proofs.Math.Decide.{dec_lt}
use Rattle.std.proofs.Math.Seq.{take-append_seam}
use Rattle.std.proofs.lemmas.List.{take-append-le, drop-append-le, map-append, length-append, get_or_append_left, get_or_at}
use Rattle.std.proofs.lemmas.Slice.{between_is, between_to_end}
use Rattle.std.specs.List.{slice_range}
use Rattle.std.specs.Result.{IfOk, OnOk, OnErr}
use Rattle.std.specs.Option.{option_map}
use Rattle.simplecss_grammar.specs.Components.{Component, Combinator}
use Rattle.simplecss_grammar.specs.Components.Combinator.{none}
use Rattle.simplecss_selector.specs.internal.CombinatorViews.{combinator_of}
use Rattle.simplecss_selector.specs.internal.Stretches.{kept_ends_after}
use Rattle.simplecss_selector.specs.Shapes.{component_at, any_component, IsSelector}
use Rattle.simplecss_selector.specs.internal.SelectorViews.{subselector_of, component_of_flat, components_from, Tile, last_end, drafted, IsFlat}
use Rattle.simplecss_selector.specs.internal.SelectorDrafts.{with_subselector, joined, finished}
use Rattle.simplecss_selector.specs.declared.selector.FlatComponent.{FlatComponent}
use Rattle.simplecss_selector.specs.declared.selector.SubSelector.{SubSelector}
use Rattle.simplecss_selector.proofs.Flat.{Tile-le, components_from-length}
use Rattle.simplecss_selector.proofs.StretchEnds.{AreStretchEnds-same, AreStretchEnds-push}

pub components_from-append : (start : ℕ) (ps qs : List FlatComponent) (ss : List SubSelector)
    → components_from start (ps ++ qs) ss
    ≡ components_from start ps ss ++ components_from (last_end start ps) qs ss
components_from-append start [] qs ss = refl
components_from-append start (p ∷ ps) qs ss =
    ap (λ cs. component_of_flat p (slice_range ss start p.end) ∷ cs)
    (components_from-append p.end ps qs ss)

pub last_end-push : (start : ℕ) (ps : List FlatComponent) (p : FlatComponent)
    → last_end start (ps ++ p ∷ []) ≡ p.end
last_end-push start [] p = refl
last_end-push start (q ∷ ps) p = last_end-push q.end ps p

pub Tile-last : (start : ℕ) (ps : List FlatComponent) (p : FlatComponent) (n : ℕ)
    → Tile start (ps ++ p ∷ []) n
    → (last_end start ps ≤ p.end) × (p.end ≡ n) × Tile start ps (last_end start ps)
Tile-last start [] p n t = (t.0, t.1, refl)
Tile-last start (q ∷ ps) p n t = let r = Tile-last q.end ps p n t.1 in (r.0, r.1, (t.0, r.2))

pub Tile-push : (start : ℕ) (ps : List FlatComponent) (p : FlatComponent) (n m : ℕ)
    → Tile start ps n → n ≤ p.end → p.end ≡ m → Tile start (ps ++ p ∷ []) m
Tile-push start [] p n m t h e = (omega arith, e)
Tile-push start (q ∷ ps) p n m t h e = (t.0, Tile-push q.end ps p n m t.1 h e)

-- what follows a flat component of a list does not change its component
slice_range-append : {X : Type 0} (xs ys : List X) (i j : ℕ) → j ≤ length xs
    → slice_range (xs ++ ys) i j ≡ slice_range xs i j
slice_range-append xs ys i j h =
    between_is (xs ++ ys) i j ∙ ap (drop i) (take-append-le j xs ys h) ∙ sym (between_is xs i j)

pub slice_range-push : {X : Type 0} (xs : List X) (x : X) (i n : ℕ) → i ≤ length xs → n ≡ length xs
    → slice_range (xs ++ x ∷ []) i (n + 1) ≡ slice_range xs i n ++ x ∷ []
slice_range-push xs x i n h e =
    between_to_end (xs ++ x ∷ []) i (n + 1) (omega (arith, length-append xs (x ∷ [])))
    ∙ drop-append-le i xs (x ∷ []) h
    ∙ ap (λ l. l ++ x ∷ []) (sym (between_to_end xs i n (omega arith)))

pub components_from-more : (start : ℕ) (ps : List FlatComponent) (ss ts : List SubSelector) (n : ℕ)
    → Tile start ps n → n ≤ length ss
    → components_from start ps (ss ++ ts) ≡ components_from start ps ss
components_from-more start [] ss ts n t h = refl
components_from-more start (p ∷ ps) ss ts n t h =
    let below = Tile-le p.end ps n t.1 in
    let here : slice_range (ss ++ ts) start p.end ≡ slice_range ss start p.end =
    slice_range-append ss ts start p.end (omega arith) in
    ap (λ l. component_of_flat p l ∷ components_from p.end ps (ss ++ ts)) here
    ∙ ap (λ cs. component_of_flat p (slice_range ss start p.end) ∷ cs)
    (components_from-more p.end ps ss ts n t.1 h)

-- how each component is related to the one before it
abbrev pub joints : List Component → List Combinator
joints cs = map (λ c. c.combinator) cs

abbrev pub flat_joint : FlatComponent → Combinator
flat_joint p = combinator_of p.combinator

pub joints-components_from : (start : ℕ) (ps : List FlatComponent) (ss : List SubSelector)
    → joints (components_from start ps ss) ≡ map flat_joint ps
joints-components_from start [] ss = refl
joints-components_from start (p ∷ ps) ss =
    ap (λ js. flat_joint p ∷ js) (joints-components_from p.end ps ss)

joint_at : (cs : List Component) (k : ℕ)
    → (component_at cs k).combinator ≡ get_or (joints cs) k none
joint_at [] k = refl
joint_at (c ∷ cs) zero = refl
joint_at (c ∷ cs) (suc k) = joint_at cs k

length-joints : (cs : List Component) → length (joints cs) ≡ length cs
length-joints [] = refl
length-joints (c ∷ cs) = ap suc (length-joints cs)

-- the order of the components depends only on the combinators
pub IsSelector-joints : (cs ds : List Component) → joints cs ≡ joints ds → IsSelector cs
    → IsSelector ds
IsSelector-joints cs ds e s =
    let same : length cs ≡ length ds = sym (length-joints cs) ∙ ap length e ∙ length-joints ds in (
      omega (arith, s.0),
      λ k h. (rw (joint_at ds k, ← e, ← joint_at cs k) (s.1 k (omega arith))),
    )

pub IsSelector-push : (cs : List Component) (c : Component) → IsSelector cs → c.combinator ≢ none
    → IsSelector (cs ++ c ∷ [])
IsSelector-push cs c s j = (
  omega (arith, s.0, length-append cs (c ∷ [])),
  λ k h. elim (dec_lt k (length cs)) [
    | yes before ↦ (rw (get_or_append_left cs (c ∷ []) any_component k before) (s.1 k before))
    | no there ↦
        (let last : length cs ≡ k = omega (arith, length-append cs (c ∷ [])) in
        rw (get_or_at cs c [] any_component k last)
        (λ e. absurd (j e), λ z. absurd (omega (arith, s.0))))
  ],
)

joints-push : (ps : List FlatComponent) (p q : FlatComponent) (ss ts : List SubSelector)
    → flat_joint p ≡ flat_joint q
    → joints (components_from 0 (ps ++ p ∷ []) ss) ≡ joints (components_from 0 (ps ++ q ∷ []) ts)
joints-push ps p q ss ts e =
    joints-components_from 0 (ps ++ p ∷ []) ss
    ∙ map-append flat_joint ps (p ∷ [])
    ∙ ap (λ j. map flat_joint ps ++ j ∷ []) e
    ∙ sym (map-append flat_joint ps (q ∷ []))
    ∙ sym (joints-components_from 0 (ps ++ q ∷ []) ts)

-- the last component changes, but for its combinator
pub flat_more : (ps : List FlatComponent) (p q : FlatComponent) (ss ts : List SubSelector) (n m : ℕ)
    (kept : List ℕ) → IsFlat (ps ++ p ∷ []) ss n kept → flat_joint p ≡ flat_joint q → n ≤ m
    → q.end ≡ m → IsFlat (ps ++ q ∷ []) ts m kept
flat_more ps p q ss ts n m kept f j h e =
    let t = Tile-last 0 ps p n f.tiled in
    let cs = components_from 0 (ps ++ p ∷ []) ss in
    let ds = components_from 0 (ps ++ q ∷ []) ts in
    let same = joints-push ps p q ss ts j in
    record {
      selector = IsSelector-joints cs ds same f.selector;
      tiled = Tile-push 0 ps q (last_end 0 ps) m t.2 (omega (arith, t.0, t.1)) e;
      stretches = AreStretchEnds-same cs ds kept
          (sym (length-joints cs) ∙ ap length same ∙ length-joints ds)
          (λ k. joint_at cs k ∙ ap (λ js. get_or js k none) same ∙ sym (joint_at ds k)) f.stretches;
    }

components_from-push : (ps : List FlatComponent) (q : FlatComponent) (ss : List SubSelector)
    → components_from 0 (ps ++ q ∷ []) ss
    ≡ components_from 0 ps ss ++ component_of_flat q (slice_range ss (last_end 0 ps) q.end) ∷ []
components_from-push ps q ss = components_from-append 0 ps (q ∷ []) ss

-- one more component, which is joined to the others
pub flat_joined : (ps : List FlatComponent) (q : FlatComponent) (ss : List SubSelector) (n m : ℕ)
    (kept : List ℕ) → IsFlat ps ss n kept → flat_joint q ≢ none → q.end ≡ n → m ≡ length ps
    → IsFlat (ps ++ q ∷ []) ss n (kept_ends_after (flat_joint q) m kept)
flat_joined ps q ss n m kept f j e done =
    let cs = components_from 0 ps ss in
    let c = component_of_flat q (slice_range ss (last_end 0 ps) q.end) in
    let some : 0 < length cs = f.selector.0 in
    record {
      selector = rw (components_from-push ps q ss) (IsSelector-push cs c f.selector j);
      tiled = Tile-push 0 ps q n n f.tiled (omega arith) e;
      stretches = rw (done ∙ sym (components_from-length 0 ps ss), components_from-push ps q ss)
          (AreStretchEnds-push cs c kept some j f.stretches);
    }

pub drafted-finished : (ps : List FlatComponent) (ss : List SubSelector) (p : FlatComponent)
    → components_from 0 (ps ++ p ∷ []) ss ≡ finished (drafted ps ss p)
drafted-finished ps ss p = components_from-push ps p ss

-- what two facts on success come to
pub both_on_ok : {T E A B C : Type 0} (r : Result T E) → (A → B → C) → OnOk r A → OnOk r B
    → IfOk r (λ _. C)
both_on_ok (Ok x) f a b = f a b
both_on_ok (Err e) f a b = tt

-- a list does not become shorter if one more element may be appended
pub pushed_len : {T E X : Type 0} (r : Result T E) (xs ys : List X) (x : X) (n m : ℕ)
    → n ≡ length xs → m ≡ length ys → OnOk r (ys ≡ xs ++ x ∷ []) → OnErr r (ys ≡ xs) → n ≤ m
pushed_len (Ok t) xs ys x n m a b ok err =
    omega (arith, a, b, ap length ok, length-append xs (x ∷ []))
pushed_len (Err e) xs ys x n m a b ok err = omega (arith, a, b, ap length err)

-- a list without the element that was appended
pub without_last : {X : Type 0} (xs ys zs : List X) (x : X) (n : ℕ) → ys ≡ xs ++ x ∷ []
    → n ≡ length ys → zs ≡ take (n - 1) ys → zs ≡ xs
without_last xs ys zs x n e m t =
    let length_is : n - 1 ≡ length xs = omega (arith, m, ap length e, length-append xs (x ∷ [])) in
    t ∙ ap (λ k. take k ys) length_is ∙ ap (take (length xs)) e ∙ take-append_seam xs (x ∷ [])

slice_range-empty : {X : Type 0} (xs : List X) (i j : ℕ) → i ≡ j → slice_range xs i j ≡ []
slice_range-empty xs i j e = let z : j - i ≡ 0 = omega arith in rw z refl

pub drafted-joined : (ps : List FlatComponent) (ss : List SubSelector) (p q : FlatComponent)
    → q.name ≡ None → q.end ≡ p.end
    → drafted (ps ++ p ∷ []) ss q ≡ joined (flat_joint q) (drafted ps ss p)
drafted-joined ps ss p q none_yet e =
    let nothing =
    slice_range-empty ss (last_end 0 (ps ++ p ∷ [])) q.end (last_end-push 0 ps p ∙ sym e) in
    ap (λ cs. record {
      done = cs;
      last = component_of_flat q (slice_range ss (last_end 0 (ps ++ p ∷ [])) q.end);
    }) (components_from-push ps p ss)
    ∙ ap (λ l. record {
      done = components_from 0 ps ss ++ component_of_flat p (slice_range ss (last_end 0 ps) p.end)
          ∷ [];
      last = component_of_flat q l;
    }) nothing
    ∙ ap (λ o. record {
      done = components_from 0 ps ss ++ component_of_flat p (slice_range ss (last_end 0 ps) p.end)
          ∷ [];
      last = record {
        combinator = flat_joint q;
        compound = record { name = option_map (λ n. n.now) o; subselectors = [] };
      };
    }) none_yet

pub drafted-narrowed : (ps : List FlatComponent) (ss : List SubSelector) (s : SubSelector)
    (p q : FlatComponent) (n : ℕ) (kept : List ℕ) → IsFlat (ps ++ p ∷ []) ss n kept → n ≡ length ss
    → q.combinator ≡ p.combinator → q.name ≡ p.name → q.end ≡ p.end + 1
    → drafted ps (ss ++ s ∷ []) q ≡ with_subselector (subselector_of s) (drafted ps ss p)
drafted-narrowed ps ss s p q n kept f whole j name e =
    let t = Tile-last 0 ps p n f.tiled in
    let done =
    components_from-more 0 ps ss (s ∷ []) (last_end 0 ps) t.2 (omega (arith, t.0, t.1)) in
    let here : slice_range (ss ++ s ∷ []) (last_end 0 ps) q.end
    ≡ slice_range ss (last_end 0 ps) p.end ++ s ∷ [] =
    ap (slice_range (ss ++ s ∷ []) (last_end 0 ps)) e
    ∙ slice_range-push ss s (last_end 0 ps) p.end (omega (arith, t.0, t.1)) (omega (arith, t.1)) in
    let seen = ap (map subselector_of) here
    ∙ map-append subselector_of (slice_range ss (last_end 0 ps) p.end) (s ∷ []) in
    cc
