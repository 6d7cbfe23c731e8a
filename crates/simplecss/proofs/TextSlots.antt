-- Slots of texts, of which one is joined after another.
-- Serves `index::texts::Texts`.
use Rattle.std.proofs.Common.{◌≡◌, ◌≢◌, ℕ, ◌<◌, ◌⊎◌, inl, inr, List, [], ◌∷◌, ◌++◌, Bool, true, false, cond, Option, None, Some, length, map, get_or, refl, sym, ap, ◌∙◌, subst, arith, Bor}
use Rattle.std.specs.List.{Contains, All}
use Rattle.std.specs.BTreeMap.{BTreeMap, get_by, is_at, UpdatesBy}
use Rattle.std.specs.Cmp.Lexicographic.{slice_cmp}
use Rattle.std.specs.Map.{lookup}
use Rattle.std.specs.Map.Iter.{deref_pair}
use Rattle.std.specs.Ordering.{nat_cmp}
use Rattle.std.specs.Int.Bits.{bit_or}
use Rattle.std.specs.Prelude.{bytes_eq, slice_set, replicate}
use Rattle.std.proofs.lemmas.Bool.{false≢true}
use Rattle.std.proofs.lemmas.List.{get_or-set_same, get_or-set_other, length-set, length-replicate, get_or-replicate}
use Rattle.std.proofs.lemmas.List.Elements.{Contains-append_left, Contains-append_right, Contains-append_cases}
use Rattle.std.proofs.lemmas.Map.Text.{is_eq-slice_cmp}
use Rattle.std.proofs.lemmas.Slice.Eq.{bytes_eq-Decides}
use Rattle.simplecss.proofs.Adding.{contains_none, contains_one}
use Rattle.simplecss.proofs.LastIndices.{changed_text}
use Rattle.simplecss.proofs.ReadIndices.{Read, found, got}
use Rattle.simplecss.specs.declared.index.texts.Slot.{Slot}
use Rattle.simplecss.specs.declared.index.texts.Slot.TheVariants.{Empty, One, Several}
use Rattle.css_matching.specs.Hashes.{place_of, mark_of, Covers, covers}
use Rattle.css_matching.proofs.HashLemmas.{covers_left, covers_right, covers_more, covers_test, place_within}
use Rattle.simplecss.specs.internal.TextIndices.{index_for_text, slot_of, IsOne, IsJoined, IsPut, AreTold, AreMarked}

-- what a slot says of a text with this index
abbrev IsTold : Slot → List ℕ → Option ℕ → Type 0
IsTold slot text index =
    (slot ≡ Empty → index ≡ None)
    × ((known : Bor (List ℕ)) (at : ℕ) → slot ≡ One known at
    → index ≡ cond (bytes_eq known.now text) (Some at) None)

same_text : (a b : List ℕ) → a ≡ b → bytes_eq a b ≡ true
same_text a b e = (bytes_eq-Decides a b).1 e

other_text : (a b : List ℕ) → (a ≡ b → ⊥) → bytes_eq a b ≡ false
other_text a b apart = at (bytes_eq a b) refl
  where
    at : (t : Bool) → bytes_eq a b ≡ t → t ≡ false
    at true e = absurd (apart ((bytes_eq-Decides a b).0 e))
    at false e = refl

text_or_other : (a b : List ℕ) → (a ≡ b) ⊎ (a ≡ b → ⊥)
text_or_other a b = at (bytes_eq a b) refl
  where
    at : (t : Bool) → bytes_eq a b ≡ t → (a ≡ b) ⊎ (a ≡ b → ⊥)
    at true e = inl ((bytes_eq-Decides a b).0 e)
    at false e = inr (λ same. false≢true (sym e ∙ (bytes_eq-Decides a b).1 same))

-- a slot of one text says that it has the index
one_same : (slot : Slot) (text other : List ℕ) (index : ℕ) → IsOne slot text index → text ≡ other
    → IsTold slot other (Some index)
one_same Empty text other index is same = absurd is
one_same (One known at) text other index is same = (
  λ e. absurd (cc),
  λ k i e.
      let text_is : known ≡ k = cc in
      let index_is : at ≡ i = cc in
      sym (ap (λ t. cond t (Some i) None)
      (same_text k.now other (sym (ap (λ (x : Bor (List ℕ)). x.now) text_is) ∙ is.0 ∙ same))
      ∙ ap Some (sym index_is ∙ is.1)),
)
one_same Several text other index is same = absurd is

-- and that no other text has one
one_other : (slot : Slot) (text other : List ℕ) (index : ℕ) → IsOne slot text index
    → (text ≡ other → ⊥) → IsTold slot other None
one_other Empty text other index is apart = absurd is
one_other (One known at) text other index is apart = (
  λ e. refl,
  λ k i e.
      let text_is : known ≡ k = cc in
      sym (ap (λ t. cond t (Some i) None) (other_text k.now other (λ same. apart
      (sym is.0 ∙ ap (λ (x : Bor (List ℕ)). x.now) text_is ∙ same)))),
)
one_other Several text other index is apart = absurd is

several : (slot : Slot) (text : List ℕ) (index : Option ℕ) → slot ≡ Several
    → IsTold slot text index
several slot text index is = (λ e. absurd (cc), λ known at e. absurd (cc))

-- a joined slot says so of the text that was put, and of the others of its slot
joined_same : (old new : Slot) (text : List ℕ) (index : ℕ) → IsJoined old text index new
    → IsTold new text (Some index)
joined_same Empty new text index is = one_same new text text index is refl
joined_same (One known at) new text index (inl is) = one_same new text text index is.1 refl
joined_same (One known at) new text index (inr is) = several new text (Some index) is
joined_same Several new text index is = several new text (Some index) is

joined_other : (old new : Slot) (text other : List ℕ) (index : ℕ) (found : Option ℕ)
    → IsJoined old text index new → (text ≡ other → ⊥) → IsTold old other found
    → IsTold new other found
joined_other Empty new text other index found is apart told =
    subst (IsTold new other) (sym (told.0 refl)) (one_other new text other index is apart)
joined_other (One known at) new text other index found (inl is) apart told =
    let none : found ≡ None =
    told.1 known at refl ∙ ap (λ t. cond t (Some at) None)
    (other_text known.now other (λ same. apart (sym is.0 ∙ same))) in
    subst (IsTold new other) (sym none) (one_other new text other index is.1 apart)
joined_other (One known at) new text other index found (inr is) apart told =
    several new other found is
joined_other Several new text other index found is apart told = several new other found is

same_or_other : (i j : ℕ) → (i ≡ j) ⊎ (i ≢ j)
same_or_other i j = grind arith

-- a text got an index
module _ (old new : List Slot) (text : List ℕ) (index : ℕ) (before after : List ℕ → Option ℕ)
    (there : 0 < length old) (told : AreTold old before) (is : IsPut old new text index)
    (here : after text ≡ Some index)
    (others : (other : List ℕ) → (text ≡ other → ⊥) → after other ≡ before other) where
  abbrev place : ℕ
  place = place_of (length old) text

  within : place < length old
  within = place_within (length old) text there

  size : length new ≡ length old
  size = ap length is.1 ∙ length-set old place is.0

  -- the slot of another text
  slot_other : (other : List ℕ)
      → slot_of new other ≡ get_or (slice_set old place is.0) (place_of (length old) other) Several
  slot_other other = (λ i. get_or (is.1 i) (place_of (size i) other) Several)

  pub put_told : AreTold new after
  put_told other =
      subst (λ s. IsTold s other (after other)) (sym (slot_other other))
      (elim (same_or_other (place_of (length old) other) place) [
        | inl same ↦
            (let at : get_or (slice_set old place is.0) (place_of (length old) other) Several
            ≡ is.0 =
            ap (λ k. get_or (slice_set old place is.0) k Several) same
            ∙ get_or-set_same old place is.0 Several within in
            subst (λ s. IsTold s other (after other)) (sym at)
            (elim (text_or_other text other) [
              | inl e ↦ subst (λ t. IsTold is.0 t (after t)) e
                  (subst (IsTold is.0 text) (sym here)
                  (joined_same (slot_of old text) is.0 text index is.2))
              | inr apart ↦
                  (let slot : slot_of old other ≡ slot_of old text =
                  ap (λ k. get_or old k Several) same in
                  subst (IsTold is.0 other) (sym (others other apart))
                  (joined_other (slot_of old text) is.0 text other index (before other) is.2 apart
                  (subst (λ s. IsTold s other (before other)) slot (told other))))
            ]))
        | inr apart ↦
            subst (λ s. IsTold s other (after other))
            (sym (get_or-set_other old place (place_of (length old) other) is.0 Several apart))
            (subst (IsTold (slot_of old other) other)
            (sym (others other (λ e. apart (ap (place_of (length old)) (sym e))))) (told other))
      ])

-- ---- slots of the entries of a map

-- the index of the last of these entries that has the text
abbrev pub read_from : Option ℕ → List Read → List ℕ → Option ℕ
read_from found [] text = found
read_from found (e ∷ read) text =
    read_from (cond (bytes_eq e.0.now.now text) (Some e.1.now) found) read text

pub read_more : (found : Option ℕ) (read : List Read) (e : Read) (text : List ℕ)
    → read_from found (read ++ e ∷ []) text
    ≡ cond (bytes_eq e.0.now.now text) (Some e.1.now) (read_from found read text)
read_more found [] e text = refl
read_more found (r ∷ read) e text =
    read_more (cond (bytes_eq r.0.now.now text) (Some r.1.now) found) read e text

pub read_here : (read : List Read) (e : Read)
    → read_from None (read ++ e ∷ []) e.0.now.now ≡ Some e.1.now
read_here read e =
    read_more None read e e.0.now.now
    ∙ ap (λ t. cond t (Some e.1.now) (read_from None read e.0.now.now))
    (same_text e.0.now.now e.0.now.now refl)

pub read_others : (read : List Read) (e : Read) (other : List ℕ) → (e.0.now.now ≡ other → ⊥)
    → read_from None (read ++ e ∷ []) other ≡ read_from None read other
read_others read e other apart =
    read_more None read e other
    ∙ ap (λ t. cond t (Some e.1.now) (read_from None read other))
    (other_text e.0.now.now other apart)

not_one : (slot : Slot) (known : Bor (List ℕ)) (at : ℕ) → slot ≡ Empty → slot ≡ One known at → ⊥
not_one slot known at e f = absurd (cc)

-- the slots of a new table are empty
pub none_told : (slots : List Slot) (count : ℕ) → slots ≡ replicate count Empty → 0 < count
    → AreTold slots (λ text. None)
none_told slots count is some text = (
  λ e. refl,
  λ known at e. absurd (not_one (slot_of slots text) known at empty e),
)
  where
    size : length slots ≡ count
    size = ap length is ∙ length-replicate count Empty

    empty : slot_of slots text ≡ Empty
    empty =
        ap (λ xs. get_or xs (place_of (length slots) text) Several) is
        ∙ get_or-replicate count (place_of (length slots) text) Empty Several
        (subst (λ n. place_of n text < count) (sym size) (place_within count text some))

-- slots stay as many
pub still_some : (old new : List Slot) (text : List ℕ) (index : ℕ) → 0 < length old
    → IsPut old new text index → 0 < length new
still_some old new text index some is =
    let size = ap length is.1 ∙ length-set old (place_of (length old) text) is.0 in
    omega (arith, some, size)

-- the same slots, of indices that are the same
pub told_as : (slots : List Slot) (f g : List ℕ → Option ℕ) → AreTold slots f
    → ((text : List ℕ) → f text ≡ g text) → AreTold slots g
told_as slots f g told same text =
    subst (IsTold (slot_of slots text) text) (same text) (told text)

-- ---- what was read of a map

-- the index that was read of a text is that of an entry
has_read : (before : Option ℕ) (read : List Read) (text : List ℕ) (v : ℕ)
    → read_from before read text ≡ Some v
    → (before ≡ Some v)
    ⊎ ((e : Read) × Contains read e × (e.0.now.now ≡ text) × (e.1.now ≡ v))
has_read before [] text v is = inl is
has_read before (e ∷ read) text v is =
    elim (has_read (cond (bytes_eq e.0.now.now text) (Some e.1.now) before) read text v is) [
      | inl h ↦ at (bytes_eq e.0.now.now text) refl h
      | inr h ↦ inr (h.0, Contains-append_right (e ∷ []) read h.0 h.1, h.2, h.3)
    ]
  where
    at : (t : Bool) → bytes_eq e.0.now.now text ≡ t → cond t (Some e.1.now) before ≡ Some v
        → (before ≡ Some v)
        ⊎ ((x : Read) × Contains (e ∷ read) x × (x.0.now.now ≡ text) × (x.1.now ≡ v))
    at true same h =
        let index : e.1.now ≡ v = cc in
        inr (e, Contains-append_left (e ∷ []) read e ((contains_one e e).1 refl), (bytes_eq-Decides e.0.now.now text).0 same, index)
    at false same h = inl h

still_read : (w : ℕ) (read : List Read) (text : List ℕ) → read_from (Some w) read text ≡ None → ⊥
still_read w [] text is = absurd (cc)
still_read w (e ∷ read) text is =
    at (bytes_eq e.0.now.now text) (λ v h. still_read v read text h) is
  where
    at : (t : Bool) → ((v : ℕ) → read_from (Some v) read text ≡ None → ⊥)
        → read_from (cond t (Some e.1.now) (Some w)) read text ≡ None → ⊥
    at true later h = later e.1.now h
    at false later h = later w h

-- a text without an index was not read
not_read : (read : List Read) (text : List ℕ) → read_from None read text ≡ None → (x : Read)
    → Contains read x → x.0.now.now ≡ text → ⊥
not_read [] text is x c same = contains_none x c
not_read (e ∷ read) text is x c same =
    at (bytes_eq e.0.now.now text) refl (λ h later. not_read read text h x later same) is
    (Contains-append_cases (e ∷ []) read x c)
  where
    at : (t : Bool) → bytes_eq e.0.now.now text ≡ t
        → (read_from None read text ≡ None → Contains read x → ⊥)
        → read_from (cond t (Some e.1.now) None) read text ≡ None
        → Contains (e ∷ []) x ⊎ Contains read x → ⊥
    at true eq further h place = still_read e.1.now read text h
    at false eq further h (inl first) =
        let at_first : e.0.now.now ≡ text =
        ap (λ (y : Read). y.0.now.now) ((contains_one e x).0 first) ∙ same in
        absurd (false≢true (sym eq ∙ same_text e.0.now.now text at_first))
    at false eq further h (inr later) = further h later

-- what was read of a map is what it has
pub read_all : (m : BTreeMap (Bor (List ℕ)) ℕ) (read : List Read) → map deref_pair read ≡ m.entries
    → All (λ (e : Bor (List ℕ) × ℕ). get_by (λ k. slice_cmp nat_cmp e.0.now k.now) m ≡ Some e.1)
    m.entries
    → (text : List ℕ) → read_from None read text ≡ index_for_text m text
read_all m read whole gets text = at (read_from None read text) refl
  where
    none : read_from None read text ≡ None → (r : Option ℕ) → index_for_text m text ≡ r → None ≡ r
    none is None e = refl
    none is (Some v) e =
        let test = is_at (λ (k : Bor (List ℕ)). slice_cmp nat_cmp text k.now) in
        let x = found test read v (ap (lookup test) whole ∙ e) in
        let same : text ≡ x.0.0.now.now =
        (bytes_eq-Decides text x.0.0.now.now).0 (sym (is_eq-slice_cmp text x.0.0.now.now) ∙ x.2) in
        absurd (not_read read text is x.0 x.1 (sym same))

    at : (r : Option ℕ) → read_from None read text ≡ r
        → read_from None read text ≡ index_for_text m text
    at None is = is ∙ none is (index_for_text m text) refl
    at (Some v) is = elim (has_read None read text v is) [
      | inl h ↦ absurd (clash h)
      | inr h ↦ is ∙ sym (subst (λ t. index_for_text m t ≡ Some v) h.2
          (got m read whole gets h.0 h.1 ∙ ap Some h.3))
    ]
      where
        clash : None ≡ Some v → ⊥
        clash e = absurd (cc)

-- a map in which a text got an index
module _ (old new : BTreeMap (Bor (List ℕ)) ℕ) (index : ℕ) (text : List ℕ)
    (updates : UpdatesBy (λ x y. slice_cmp nat_cmp x.now y.now) (λ k. slice_cmp nat_cmp text k.now)
    old new (Some index)) where
  pub changed_here : index_for_text new text ≡ Some index
  changed_here = elim (changed_text old new index text text updates)
      [ inl h ↦ h.1 | inr h ↦ absurd (h.0 refl) ]

  pub changed_others : (other : List ℕ) → (text ≡ other → ⊥)
      → index_for_text new other ≡ index_for_text old other
  changed_others other apart = elim (changed_text old new index text other updates)
      [ inl h ↦ absurd (apart h.0) | inr h ↦ h.1 ]

  -- and its mark is added
  pub changed_marks : (bits : ℕ) → AreMarked bits (index_for_text old)
      → AreMarked (bit_or bits (mark_of text)) (index_for_text new)
  changed_marks bits marked other at is =
      elim (changed_text old new index text other updates) [
        | inl h ↦ subst (λ t. Covers (bit_or bits (mark_of text)) (mark_of t)) h.0
            (covers_right bits (mark_of text))
        | inr h ↦ covers_more (bit_or bits (mark_of text)) bits (mark_of other)
            (covers_left bits (mark_of text)) (marked other at (sym h.1 ∙ is))
      ]

-- a text without a mark has no index
pub unmarked_none : (marks : ℕ) (index_of : List ℕ → Option ℕ) (text : List ℕ)
    → AreMarked marks index_of → covers marks (mark_of text) ≡ false → index_of text ≡ None
unmarked_none marks index_of text marked not = at (index_of text) refl
  where
    at : (r : Option ℕ) → index_of text ≡ r → r ≡ None
    at None is = refl
    at (Some index) is = absurd (false≢true
        (sym not ∙ covers_test marks (mark_of text) (marked text index is)))
