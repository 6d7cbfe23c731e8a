-- The slots of results that are kept.
-- Serves `index::recent::Recent`.
use Rattle.std.proofs.Common.{◌≡◌, ℕ, zero, suc, ◌<◌, List, [], ◌∷◌, ◌++◌, Option, None, Some, length, get_or, string_bytes, refl, sym, ◌∙◌, subst, arith}
use Rattle.std.specs.List.{All}
use Rattle.std.specs.Option.{option_map}
use Rattle.std.proofs.lemmas.List.Elements.{All-append, All-set}
use Rattle.std.proofs.Math.ListN.{set}
use Rattle.simplecss_grammar.specs.Components.{Component}
use Rattle.simplecss.specs.internal.Kept.{AreKeyed}
use Rattle.simplecss.specs.internal.Recents.{IsFound, IsSlotOf}
use Rattle.simplecss.specs.declared.index.recent.Slot.{Slot}

module _ (selectors : List (List Component)) where
  pub no_slots : All (IsSlotOf selectors) []
  no_slots k d lt = absurd (omega (arith, lt))

  one_empty : All (IsSlotOf selectors) (None ∷ [])
  one_empty k d lt = at k lt
    where
      at : (k : ℕ) → k < 1 → IsSlotOf selectors (get_or (None ∷ []) k d)
      at zero lt = tt
      at (suc k) lt = absurd (omega (arith, lt))

  pub empty_more : (slots : List (Option Slot)) → All (IsSlotOf selectors) slots
      → All (IsSlotOf selectors) (slots ++ None ∷ [])
  empty_more slots all = All-append (IsSlotOf selectors) slots (None ∷ []) all one_empty

  -- the result of a slot that is read
  pub slot_read : (slots read : List (Option Slot)) (n : ℕ) (one : Option Slot) (slot : Slot)
      → read ≡ slots → All (IsSlotOf selectors) slots → n < length read → one ≡ get_or read n one
      → one ≡ Some slot
      → IsFound selectors (string_bytes slot.name)
      (option_map string_bytes slot.class) slot.indices.items
  slot_read slots read n one slot same all lt is known =
      subst (IsSlotOf selectors) known (subst (IsSlotOf selectors) (sym is)
      (subst (All (IsSlotOf selectors)) (sym same) all n one lt))

  -- a result serves a name and a class value that are equal to its own
  pub found_as : (name own : List ℕ) (class value : Option (List ℕ)) (indices list : List ℕ)
      → own ≡ name → value ≡ class → list ≡ indices → IsFound selectors own value indices
      → IsFound selectors name class list
  found_as name own class value indices list name_is class_is same found near near_name near_class
      starts =
      subst (AreKeyed near selectors) (sym same)
      (found near (near_name ∙ sym name_is) (near_class ∙ sym class_is) starts)

  pub slot_set : (slots : List (Option Slot)) (n : ℕ) (slot : Slot) → All (IsSlotOf selectors) slots
      → IsFound selectors (string_bytes slot.name) (option_map string_bytes slot.class)
      slot.indices.items → All (IsSlotOf selectors) (set slots n (Some slot))
  slot_set slots n slot all found = All-set (IsSlotOf selectors) slots n (Some slot) found all

pub no_items : (indices : List ℕ) → length indices ≡ 0 → indices ≡ []
no_items [] e = refl
no_items (x ∷ xs) e = absurd (omega (arith, e))
