-- The indices of texts that pass a test, read off a map in order.
-- Serves `index::find::{push_attributes, push_classes_within}`.
use Rattle.std.proofs.Common.{◌≡◌, ℕ, ◌<◌, ◌⊎◌, inl, inr, List, [], ◌∷◌, ◌++◌, Bool, true, false, cond, IsTrue, Some, length, map, get_or, refl, sym, ap, ◌∙◌, subst, arith, Bor}
use Rattle.std.specs.BTreeMap.{BTreeMap, get_by, is_at}
use Rattle.std.specs.Cmp.Lexicographic.{slice_cmp}
use Rattle.std.specs.List.{All, Contains}
use Rattle.std.specs.Map.{lookup}
use Rattle.std.specs.Map.Iter.{deref_pair}
use Rattle.std.specs.Ordering.{nat_cmp}
use Rattle.std.proofs.lemmas.Bool.{false≢true}
use Rattle.std.proofs.lemmas.List.{get_or-map, length-map}
use Rattle.std.proofs.lemmas.List.Elements.{Contains-append_left, Contains-append_right, Contains-push, Contains-push_cases}
use Rattle.std.proofs.lemmas.Map.Text.{is_eq-slice_cmp}
use Rattle.std.proofs.lemmas.Slice.Eq.{bytes_eq-Decides}
use Rattle.simplecss.specs.internal.TextIndices.{index_for_text}
use Rattle.simplecss.specs.SelectorIndices.{Adds}
use Rattle.simplecss.proofs.Adding.{contains_none, contains_one, adds_none, adds_one, adds_then, adds_as}

-- an entry that is read
abbrev pub Read : Type 0
Read = Bor (Bor (List ℕ)) × Bor ℕ

-- the indices of those of these whose text passes the test
abbrev pub OfRead : (List ℕ → Bool) → List Read → ℕ → Type 0
OfRead has read index = (e : Read) × Contains read e × IsTrue (has e.0.now.now) × (e.1.now ≡ index)

module _ (has : List ℕ → Bool) where
  pub none_read : (indices : List ℕ) → Adds indices indices (OfRead has [])
  none_read indices = adds_none indices (OfRead has []) (λ index h. contains_none h.0 h.1)

  pub read_yes : (read : List Read) (e : Read) (a b c : List ℕ) → IsTrue (has e.0.now.now)
      → Adds a b (OfRead has read) → c ≡ b ++ e.1.now ∷ [] → Adds a c (OfRead has (read ++ e ∷ []))
  read_yes read e a b c held before more = adds_as a c (λ index. (there index, back index))
      (adds_then a b c before (adds_one b c e.1.now more))
    where
      there : (index : ℕ) → OfRead has read index ⊎ (e.1.now ≡ index)
          → OfRead has (read ++ e ∷ []) index
      there index (inl h) = (h.0, Contains-append_left read (e ∷ []) h.0 h.1, h.2, h.3)
      there index (inr h) = (e, Contains-push read e, held, h)

      back : (index : ℕ) → OfRead has (read ++ e ∷ []) index
          → OfRead has read index ⊎ (e.1.now ≡ index)
      back index h = elim (Contains-push_cases read e h.0 h.1) [
        | inl x ↦ inl (h.0, x, h.2, h.3)
        | inr same ↦ inr (ap (λ (x : Read). x.1.now) same ∙ h.3)
      ]

  pub read_no : (read : List Read) (e : Read) (a b : List ℕ) → has e.0.now.now ≡ false
      → Adds a b (OfRead has read) → Adds a b (OfRead has (read ++ e ∷ []))
  read_no read e a b unheld = adds_as a b
      (λ index. (λ h. (h.0, Contains-append_left read (e ∷ []) h.0 h.1, h.2, h.3), back index))
    where
      back : (index : ℕ) → OfRead has (read ++ e ∷ []) index → OfRead has read index
      back index h = elim (Contains-push_cases read e h.0 h.1) [
        | inl x ↦ (h.0, x, h.2, h.3)
        | inr same ↦
            absurd (false≢true (sym unheld ∙ ap (λ (x : Read). has x.0.now.now) same ∙ h.2))
      ]

-- what a look-up finds was read
pub found : (test : Bor (List ℕ) → Bool) (read : List Read) (v : ℕ)
    → lookup test (map deref_pair read) ≡ Some v
    → (e : Read) × Contains read e × (test e.0.now ≡ true) × (e.1.now ≡ v)
found test [] v is = absurd (cc)
found test (y ∷ ys) v is = at (test y.0.now) refl is (found test ys v)
  where
    at : (b : Bool) → test y.0.now ≡ b
        → cond b (Some y.1.now) (lookup test (map deref_pair ys)) ≡ Some v
        → (lookup test (map deref_pair ys) ≡ Some v
        → (e : Read) × Contains ys e × (test e.0.now ≡ true) × (e.1.now ≡ v))
        → (e : Read) × Contains (y ∷ ys) e × (test e.0.now ≡ true) × (e.1.now ≡ v)
    at true t h later =
        let same : y.1.now ≡ v = cc in
        (y, Contains-append_left (y ∷ []) ys y ((contains_one y y).1 refl), t, same)
    at false t h later =
        let r = later h in
        (r.0, Contains-append_right (y ∷ []) ys r.0 r.1, r.2, r.3)

-- an entry that was read has the index in the map
pub got : (m : BTreeMap (Bor (List ℕ)) ℕ) (read : List Read) → map deref_pair read ≡ m.entries
    → All (λ (e : Bor (List ℕ) × ℕ). get_by (λ k. slice_cmp nat_cmp e.0.now k.now) m ≡ Some e.1)
    m.entries
    → (e : Read) → Contains read e → index_for_text m e.0.now.now ≡ Some e.1.now
got m read whole gets e (k, lt, is) =
    let entry = deref_pair e in
    let here = subst
    (All (λ (e : Bor (List ℕ) × ℕ). get_by (λ k. slice_cmp nat_cmp e.0.now k.now) m ≡ Some e.1))
    (sym whole) gets in
    let within : k < length (map deref_pair read) =
    omega (arith, lt, length-map read deref_pair) in
    let same : get_or (map deref_pair read) k entry ≡ entry =
    get_or-map deref_pair read k e entry lt ∙ ap deref_pair is in
    subst (λ (x : Bor (List ℕ) × ℕ).
    get_by (λ k. slice_cmp nat_cmp x.0.now k.now) m ≡ Some x.1) same (here k entry within)

-- a text that passes the test has the index in the map
abbrev pub Leads : BTreeMap (Bor (List ℕ)) ℕ → (List ℕ → Bool) → ℕ → Type 0
Leads indices has index =
    (text : List ℕ) × IsTrue (has text) × (index_for_text indices text ≡ Some index)

pub all_read : (has : List ℕ → Bool) (m : BTreeMap (Bor (List ℕ)) ℕ) (read : List Read)
    (a b : List ℕ) → map deref_pair read ≡ m.entries
    → All (λ (e : Bor (List ℕ) × ℕ). get_by (λ k. slice_cmp nat_cmp e.0.now k.now) m ≡ Some e.1)
    m.entries
    → Adds a b (OfRead has read) → Adds a b (Leads m has)
all_read has m read a b whole gets = adds_as a b (λ index. (there index, back index))
  where
    there : (index : ℕ) → OfRead has read index → Leads m has index
    there index (e, at, held, is) =
        (e.0.now.now, held, got m read whole gets e at ∙ ap Some is)

    back : (index : ℕ) → Leads m has index → OfRead has read index
    back index (name, held, leads) =
        let test = is_at (λ (k : Bor (List ℕ)). slice_cmp nat_cmp name k.now) in
        let e = found test read index (ap (lookup test) whole ∙ leads) in
        let same : name ≡ e.0.0.now.now =
        (bytes_eq-Decides name e.0.0.now.now).0 (sym (is_eq-slice_cmp name e.0.0.now.now) ∙ e.2) in
        (e.0, e.1, subst (λ n. IsTrue (has n)) same held, e.3)
