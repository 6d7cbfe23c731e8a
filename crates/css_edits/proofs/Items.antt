-- Items that are read one after another, as entries.
-- Serves `entries::items_in`.
use Rattle.std.proofs.Common.{◌≡◌, ℕ, List, [], ◌∷◌, ◌++◌, Some, None, true, map, sym, ap, ◌∙◌, append_assoc, append-nil}
use Rattle.css_syntax.specs.DeclarationLists.{ListText, past_separators, next_item}
use Rattle.css_syntax.specs.Placed.{placed_items}
use Rattle.css_syntax.proofs.PlacedSteps.{placed-items-some, placed-items-none}
use Rattle.css_edits.specs.Entries.{EntryText, holds, item_entry}

-- one item more
pub one_more : (end : ℕ) (rest later from : List ℕ) (out all : List EntryText) (p : ListText)
    → next_item true rest ≡ Some (p, later) → from ≡ past_separators rest
    → all ≡ out ++ item_entry end (record { part = p; from = from }) ∷ []
    → all ++ map (item_entry end) (placed_items true later)
    ≡ out ++ map (item_entry end) (placed_items true rest)
one_more end rest later from out all p read is_from wrote =
    ap (λ t. t ++ map (item_entry end) (placed_items true later))
    (wrote ∙ ap (λ f. out ++ item_entry end (record { part = p; from = f }) ∷ []) is_from)
    ∙ append_assoc out (item_entry end (record { part = p; from = past_separators rest }) ∷ [])
    (map (item_entry end) (placed_items true later))
    ∙ ap (λ ps. out ++ map (item_entry end) ps) (sym (placed-items-some true rest later p read))

-- no item is left
pub all_done : (end : ℕ) (rest : List ℕ) (out all : List EntryText) → next_item true rest ≡ None
    → out ++ map (item_entry end) (placed_items true rest) ≡ all → out ≡ all
all_done end rest out all read so_far =
    sym (append-nil out)
    ∙ ap (λ ps. out ++ map (item_entry end) ps) (sym (placed-items-none true rest read))
    ∙ so_far
