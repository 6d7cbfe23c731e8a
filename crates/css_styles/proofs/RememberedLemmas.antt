-- What is remembered of winners.
-- Serves the functions of `finder`.
use Rattle.std.proofs.Common.{◌≡◌, ℕ, ◌<◌, List, [], ◌∷◌, ◌++◌, Option, None, Some, length, get_or, map, sym, ap, ◌∙◌, subst}
use Rattle.std.specs.List.{All}
use Rattle.std.proofs.lemmas.List.Elements.{All-push, All-set}
use Rattle.std.proofs.Math.ListN.{set}
use Rattle.css_sheet.specs.SheetOrder.{SheetRuleText}
use Rattle.css_styles.specs.StyleViews.{winner_of}
use Rattle.css_styles.specs.Winners.{winners}
use Rattle.css_styles.specs.declared.finder.Slot.{Slot}
use Rattle.css_styles.specs.declared.winner.Winner.{Winner}
use Rattle.css_styles.specs.internal.Remembered.{IsSlotOf, no_own}

module _ (rules : List SheetRuleText) where
  pub empty-push : (slots : List (Option Slot)) → All (IsSlotOf rules) slots
      → All (IsSlotOf rules) (slots ++ None ∷ [])
  empty-push slots all = All-push (IsSlotOf rules) slots None all tt

  -- what is in a slot that is read
  pub slot-read : (slots read : List (Option Slot)) (n : ℕ) (one : Option Slot) (slot : Slot)
      → read ≡ slots → All (IsSlotOf rules) slots → n < length read → one ≡ get_or read n one
      → one ≡ Some slot → IsSlotOf rules (Some slot)
  slot-read slots read n one slot same all lt is known =
      subst (IsSlotOf rules) known (subst (IsSlotOf rules) (sym is)
      (subst (All (IsSlotOf rules)) (sym same) all n one lt))

  -- what is in a slot serves equal indices
  pub slot-found : (slot : Slot) (indices : List ℕ) (found : List Winner) → slot.indices.items ≡ indices
      → found ≡ slot.found.items → IsSlotOf rules (Some slot)
      → map winner_of found ≡ winners rules indices no_own
  slot-found slot indices found equal same holds =
      ap (map winner_of) same ∙ holds ∙ ap (λ is. winners rules is no_own) equal

  pub slot-set : (slots : List (Option Slot)) (n : ℕ) (slot : Slot) (indices : List ℕ) (found : List Winner)
      → All (IsSlotOf rules) slots → slot.indices.items ≡ indices → slot.found.items ≡ found
      → map winner_of found ≡ winners rules indices no_own
      → All (IsSlotOf rules) (set slots n (Some slot))
  slot-set slots n slot indices found all equal same holds =
      All-set (IsSlotOf rules) slots n (Some slot)
      (ap (map winner_of) same ∙ holds ∙ ap (λ is. winners rules is no_own) (sym equal)) all
