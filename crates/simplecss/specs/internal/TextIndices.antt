-- The rule indices of texts, and a table of what is known of most texts.
use Rattle.std.specs.Prelude.{◌≡◌, ◌⊎◌, ℕ, List, length, slice_index_or, slice_set, bytes_eq, if◌then◌else◌, Option, None, Some}
use Rattle.std.specs.Borrow.{Bor}
use Rattle.std.specs.BTreeMap.{BTreeMap, get_by}
use Rattle.std.specs.Ordering.{nat_cmp}
use Rattle.std.specs.Cmp.Lexicographic.{slice_cmp}
use Rattle.css_matching.specs.Hashes.{place_of, mark_of, Covers}
use Rattle.simplecss.specs.declared.index.texts.Slot.{Slot}
use Rattle.simplecss.specs.declared.index.texts.Slot.TheVariants.{Empty, One, Several}

-- the index that a map has for a text
abbrev pub index_for_text : BTreeMap (Bor (List ℕ)) ℕ → List ℕ → Option ℕ
index_for_text indices text = get_by (λ key. slice_cmp nat_cmp text key.now) indices

-- the marks have the bit of each text with an index
abbrev pub AreMarked : ℕ → (List ℕ → Option ℕ) → Type 0
AreMarked marks index_of =
    (text : List ℕ) (index : ℕ) → index_of text ≡ Some index → Covers marks (mark_of text)

-- the slot of a text; without slots, one that says nothing
abbrev pub slot_of : List Slot → List ℕ → Slot
slot_of slots text = slice_index_or slots (place_of (length slots) text) Several

-- what the slots say of each text is so: an empty slot has no text with an index, and a slot of one
-- text no other
abbrev pub AreTold : List Slot → (List ℕ → Option ℕ) → Type 0
AreTold slots index_of = (text : List ℕ)
    → (slot_of slots text ≡ Empty → index_of text ≡ None)
    × ((known : Bor (List ℕ)) (index : ℕ) → slot_of slots text ≡ One known index
    → index_of text ≡ (if bytes_eq known.now text then Some index else None))

-- the slot says that the text has the index, and no other
abbrev pub IsOne : Slot → List ℕ → ℕ → Type 0
IsOne Empty text index = ⊥
IsOne (One known at) text index = (known.now ≡ text) × (at ≡ index)
IsOne Several text index = ⊥

-- what becomes of a slot when a text of it gets an index
abbrev pub IsJoined : Slot → List ℕ → ℕ → Slot → Type 0
IsJoined Empty text index new = IsOne new text index
IsJoined (One known at) text index new =
    ((known.now ≡ text) × IsOne new text index) ⊎ (new ≡ Several)
IsJoined Several text index new = new ≡ Several

-- a text got an index: its slot is joined, and the others stay
abbrev pub IsPut : List Slot → List Slot → List ℕ → ℕ → Type 0
IsPut old new text index =
    (slot : Slot) × (new ≡ slice_set old (place_of (length old) text) slot)
    × IsJoined (slot_of old text) text index slot
