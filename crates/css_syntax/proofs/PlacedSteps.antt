-- Items and statements with where they are, one at a time.
-- Serves the loops over `read_part` and `read_next` in the crates above.
use Rattle.std.proofs.Common.{◌≡◌, ◌<◌, ℕ, Bool, List, [], ◌∷◌, length, Option, Some, None, ap}
use Rattle.std.specs.Option.{option_map}
use Rattle.css_text.proofs.reading.EachLemmas.{Takes, Shrinks, each-none, each-some, took}
use Rattle.css_syntax.specs.Statements.{SheetText, past_between, next_statement}
use Rattle.css_syntax.specs.DeclarationLists.{ListText, past_separators, next_item}
use Rattle.css_syntax.specs.Placed.{placed_item, next_placed_item, placed_items, placed_statement, next_placed_statement, placed_statements}
use Rattle.css_syntax.proofs.ItemLemmas.{next_item-takes, next_statement-takes}

-- what is found is changed, and not what is left
pub map-shrinks : {A B : Type 0} (text : List ℕ) (f : A × List ℕ → B × List ℕ)
    → ((x : A × List ℕ) → (f x).1 ≡ x.1) → (o : Option (A × List ℕ)) → Shrinks text o
    → Shrinks text (option_map f o)
map-shrinks text f same None h = tt
map-shrinks text f same (Some x) h = rw (same x) h

item-takes : (in_block : Bool) → Takes (next_placed_item in_block)
unfolding next_placed_item
item-takes in_block text =
    map-shrinks text (placed_item (past_separators text)) (λ x i. x.1) (next_item in_block text)
    (next_item-takes in_block text)

statement-takes : (in_block : Bool) → Takes (next_placed_statement in_block)
unfolding next_placed_statement
statement-takes in_block text =
    map-shrinks text (placed_statement (past_between in_block text)) (λ x i. x.1)
    (next_statement in_block text) (next_statement-takes in_block text)

pub placed-items-some : (in_block : Bool) (text rest : List ℕ) (p : ListText)
    → next_item in_block text ≡ Some (p, rest)
    → placed_items in_block text
    ≡ record { part = p; from = past_separators text } ∷ placed_items in_block rest
unfolding placed_items next_placed_item
placed-items-some in_block text rest p e =
    ap (λ r. r.0) (each-some (next_placed_item in_block) (item-takes in_block) text rest
    (record { part = p; from = past_separators text })
    (ap (option_map (placed_item (past_separators text))) e))

pub placed-items-none : (in_block : Bool) (text : List ℕ) → next_item in_block text ≡ None
    → placed_items in_block text ≡ []
unfolding placed_items next_placed_item
placed-items-none in_block text e =
    ap (λ r. r.0) (each-none (next_placed_item in_block) text
    (ap (option_map (placed_item (past_separators text))) e))

pub placed-statements-some : (in_block : Bool) (text rest : List ℕ) (p : SheetText)
    → next_statement in_block text ≡ Some (p, rest)
    → placed_statements in_block text
    ≡ record { part = p; from = past_between in_block text; after = rest }
    ∷ placed_statements in_block rest
unfolding placed_statements next_placed_statement
placed-statements-some in_block text rest p e =
    ap (λ r. r.0) (each-some (next_placed_statement in_block) (statement-takes in_block) text rest
    (record { part = p; from = past_between in_block text; after = rest })
    (ap (option_map (placed_statement (past_between in_block text))) e))

pub placed-statements-none : (in_block : Bool) (text : List ℕ)
    → next_statement in_block text ≡ None → placed_statements in_block text ≡ []
unfolding placed_statements next_placed_statement
placed-statements-none in_block text e =
    ap (λ r. r.0) (each-none (next_placed_statement in_block) text
    (ap (option_map (placed_statement (past_between in_block text))) e))

pub item-less : (in_block : Bool) (text rest : List ℕ) (p : ListText)
    → next_item in_block text ≡ Some (p, rest) → length rest < length text
item-less in_block text rest p e =
    took (next_item in_block) (next_item-takes in_block) text rest p e
