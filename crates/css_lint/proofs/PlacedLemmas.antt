-- Items and rule sets that are read one after another.
-- Serves `placed_rules::sets_in`, `placed_rules::inner_rules` and `refused::push_items`.
use Rattle.std.proofs.Common.{◌≡◌, ℕ, Bool, true, List, ◌∷◌, ◌++◌, ◌-◌, length, Some, None, sym, ap, ◌∙◌, append_assoc, append-nil}
use Rattle.std.specs.List.{flat_map}
use Rattle.css_syntax.specs.Contents.{statement_contents}
use Rattle.css_syntax.specs.DeclarationLists.{ListText, past_separators, next_item}
use Rattle.css_syntax.specs.Placed.{PlacedItem, placed_items, PlacedStatement, placed_statements}
use Rattle.css_syntax.specs.Statements.{SheetText, next_statement, past_between}
use Rattle.css_syntax.proofs.PlacedSteps.{placed-items-some, placed-items-none, placed-statements-some, placed-statements-none}
use Rattle.css_lint.specs.Places.{PlaceText}
use Rattle.css_lint.specs.Refused.{refused_at, refused_in, refused_item}
use Rattle.css_lint.specs.PlacedRules.{RuleAt, SetText, inner_at, inner_rule, inner_rules, set_at, set_of_item, sets_in}

-- what is made of one more
one-more : {A B : Type 0} (make : A → List B) (x : A) (xs : List A) (out all : List B)
    → all ≡ out ++ make x → all ++ flat_map make xs ≡ out ++ flat_map make (x ∷ xs)
one-more make x xs out all wrote =
    ap (λ t. t ++ flat_map make xs) wrote ∙ append_assoc out (make x) (flat_map make xs)

-- what is made of the items of a text, where one more was read
pub items-more : {B : Type 0} (make : PlacedItem → List B) (in_block : Bool) (rest later from : List ℕ)
    (out all : List B) (p : ListText)
    → next_item in_block rest ≡ Some (p, later) → from ≡ past_separators rest
    → all ≡ out ++ make (record { part = p; from = from })
    → all ++ flat_map make (placed_items in_block later) ≡ out ++ flat_map make (placed_items in_block rest)
items-more make in_block rest later from out all p read is_from wrote =
    one-more make (record { part = p; from = past_separators rest }) (placed_items in_block later) out all
    (wrote ∙ ap (λ f. out ++ make (record { part = p; from = f })) is_from)
    ∙ ap (λ ps. out ++ flat_map make ps) (sym (placed-items-some in_block rest later p read))

-- the same of declarations
pub sets-more : (in_block : Bool) (end start : ℕ) (rest later from : List ℕ) (out all : List SetText)
    (p : ListText)
    → next_item in_block rest ≡ Some (p, later) → from ≡ past_separators rest
    → start ≡ end - length from → all ≡ out ++ set_of_item start (length p.text) p.item
    → all ++ sets_in in_block end later ≡ out ++ sets_in in_block end rest
sets-more in_block end start rest later from out all p read is_from is_start wrote =
    items-more (set_at end) in_block rest later from out all p read is_from
    (wrote ∙ ap (λ (s : ℕ). out ++ set_of_item s (length p.text) p.item) is_start)

-- the same of declarations whose values no browser takes
pub refused-more : (in_quirks in_block : Bool) (end start : ℕ) (rest later from : List ℕ) (out all : List PlaceText)
    (p : ListText)
    → next_item in_block rest ≡ Some (p, later) → from ≡ past_separators rest
    → start ≡ end - length from → all ≡ out ++ refused_item in_quirks start (length p.text) p.item
    → all ++ refused_in in_quirks in_block end later ≡ out ++ refused_in in_quirks in_block end rest
refused-more in_quirks in_block end start rest later from out all p read is_from is_start wrote =
    items-more (refused_at in_quirks end) in_block rest later from out all p read is_from
    (wrote ∙ ap (λ (s : ℕ). out ++ refused_item in_quirks s (length p.text) p.item) is_start)

-- no item is left
pub items-done : {B : Type 0} (make : PlacedItem → List B) (in_block : Bool) (rest : List ℕ)
    (out all : List B) → next_item in_block rest ≡ None
    → out ++ flat_map make (placed_items in_block rest) ≡ all → out ≡ all
items-done make in_block rest out all read so_far =
    sym (append-nil out)
    ∙ ap (λ ps. out ++ flat_map make ps) (sym (placed-items-none in_block rest read))
    ∙ so_far

-- one statement more
pub inner-more : (end start at : ℕ) (rest later from inside : List ℕ) (out all : List RuleAt)
    (p : SheetText)
    → next_statement true rest ≡ Some (p, later) → from ≡ past_between true rest
    → inside ≡ statement_contents true (past_between true rest)
    → start ≡ end - length from → at ≡ end - length inside
    → all ≡ out ++ inner_rule start at p.statement
    → all ++ inner_rules end later ≡ out ++ inner_rules end rest
inner-more end start at rest later from inside out all p read is_from is_inside is_start is_at wrote =
    one-more (inner_at end) (record { part = p; from = past_between true rest; after = later })
    (placed_statements true later) out all
    (wrote
    ∙ ap (λ (s : ℕ). out ++ inner_rule s at p.statement) is_start
    ∙ ap (λ (a : ℕ). out ++ inner_rule (end - length from) a p.statement) is_at
    ∙ ap (λ (f : List ℕ). out ++ inner_rule (end - length f) (end - length inside) p.statement) is_from
    ∙ ap (λ (i : List ℕ). out ++ inner_rule (end - length (past_between true rest)) (end - length i) p.statement)
    is_inside)
    ∙ ap (λ ps. out ++ flat_map (inner_at end) ps) (sym (placed-statements-some true rest later p read))

-- no statement is left
pub statements-done : (end : ℕ) (rest : List ℕ) (out all : List RuleAt)
    → next_statement true rest ≡ None → out ++ inner_rules end rest ≡ all → out ≡ all
statements-done end rest out all read so_far =
    sym (append-nil out)
    ∙ ap (λ ps. out ++ flat_map (inner_at end) ps) (sym (placed-statements-none true rest read))
    ∙ so_far
