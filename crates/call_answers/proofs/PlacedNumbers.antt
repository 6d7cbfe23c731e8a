-- Items that are read one after another, and their numbers.
-- Serves `items::item_numbers`.
use Rattle.std.proofs.Common.{◌≡◌, ℕ, Bool, List, ◌∷◌, ◌++◌, Some, None, sym, ap, ◌∙◌, append_assoc, append-nil}
use Rattle.std.specs.List.{flat_map}
use Rattle.css_syntax.specs.Contents.{item_contents}
use Rattle.css_syntax.specs.DeclarationLists.{ListText, past_separators, next_item}
use Rattle.css_syntax.specs.Placed.{placed_items}
use Rattle.css_syntax.proofs.PlacedSteps.{placed-items-some, placed-items-none}
use Rattle.call_answers.specs.ItemNumbers.{item_row, placed_row, item_numbers}

-- the numbers of one more
rows-some : {A : Type 0} (row : A → List ℕ) (x : A) (xs : List A) (out all : List ℕ)
    → all ≡ out ++ row x → all ++ flat_map row xs ≡ out ++ flat_map row (x ∷ xs)
rows-some row x xs out all wrote =
    ap (λ t. t ++ flat_map row xs) wrote ∙ append_assoc out (row x) (flat_map row xs)

-- an item that was read, as the definition has it
row-same : (end : ℕ) (in_block : Bool) (rest from inside : List ℕ) (p : ListText)
    → from ≡ past_separators rest → inside ≡ item_contents in_block (past_separators rest)
    → item_row end from inside p
    ≡ placed_row end in_block (record { part = p; from = past_separators rest })
row-same end in_block rest from inside p is_from is_inside =
    ap (λ f. item_row end f inside p) is_from
    ∙ ap (λ i. item_row end (past_separators rest) i p) is_inside

-- one item more
pub item-more : (end : ℕ) (in_block : Bool) (rest later from inside out all : List ℕ) (p : ListText)
    → next_item in_block rest ≡ Some (p, later) → from ≡ past_separators rest
    → inside ≡ item_contents in_block (past_separators rest)
    → all ≡ out ++ item_row end from inside p
    → all ++ item_numbers end in_block later ≡ out ++ item_numbers end in_block rest
item-more end in_block rest later from inside out all p read is_from is_inside wrote =
    rows-some (placed_row end in_block) (record { part = p; from = past_separators rest })
    (placed_items in_block later) out all
    (wrote ∙ ap (λ t. out ++ t) (row-same end in_block rest from inside p is_from is_inside))
    ∙ ap (λ ps. out ++ flat_map (placed_row end in_block) ps)
    (sym (placed-items-some in_block rest later p read))

-- no item is left
pub items-done : (end : ℕ) (in_block : Bool) (rest out all : List ℕ) → next_item in_block rest ≡ None
    → out ++ item_numbers end in_block rest ≡ all → out ≡ all
items-done end in_block rest out all read so_far =
    sym (append-nil out)
    ∙ ap (λ ps. out ++ flat_map (placed_row end in_block) ps)
    (sym (placed-items-none in_block rest read))
    ∙ so_far
