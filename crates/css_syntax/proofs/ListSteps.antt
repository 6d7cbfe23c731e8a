-- The items of a list and the statements of a sheet, one at a time.
-- Serves `next` of both iterators, and their constructors (how many are to come at most).
use Rattle.std.proofs.Common.{◌≡◌, ◌≤◌, ℕ, Bool, List, [], ◌∷◌, length, Some, None, ap, arith}
use Rattle.std.specs.Iterator.{MakesProgress, item_count}
use Rattle.std.proofs.iter.runs.Sources.{from_front}
use Rattle.css_text.specs.Reading.{each}
use Rattle.css_text.proofs.reading.EachLemmas.{each-none, each-some}
use Rattle.css_text.proofs.reading.LengthLemmas.{length-each}
use Rattle.css_syntax.specs.Statements.{SheetText, next_statement, statements}
use Rattle.css_syntax.specs.DeclarationLists.{ListText, next_item, items}
use Rattle.css_syntax.specs.Views.{list_part_of, sheet_part_of}
use Rattle.css_syntax.specs.ListReaders.{GivesItem, GivesItemsInTurn, items_to_come, GivesStatement, GivesStatementsInTurn, statements_to_come}
use Rattle.css_syntax.proofs.ItemLemmas.{next_item-takes, next_statement-takes}

-- an iterator that gave the first of those that were to come has fewer to come
pub item_goes : {S A B : Type 0} (can : S → Type 0) (to_come : S → List B) (s : S) (given : A) (t : S)
    (first : B) → can t → to_come s ≡ first ∷ to_come t
    → MakesProgress can (item_count to_come) s (Some given) t
item_goes can to_come s given t first goes is = record {
  on = λ _. (goes, tt, omega (arith, ap (λ l. length l) is));
  keeps = goes;
  rests = λ _. tt;
}

pub items-some : (in_block : Bool) (text rest : List ℕ) (p : ListText)
    → next_item in_block text ≡ Some (p, rest)
    → items in_block text ≡ p ∷ items in_block rest
unfolding items
items-some in_block text rest p e =
    ap (λ r. r.0) (each-some (next_item in_block) (next_item-takes in_block) text rest p e)

pub items-none : (in_block : Bool) (text : List ℕ) → next_item in_block text ≡ None
    → items in_block text ≡ []
unfolding items
items-none in_block text e = ap (λ r. r.0) (each-none (next_item in_block) text e)

pub statements-some : (in_block : Bool) (text rest : List ℕ) (p : SheetText)
    → next_statement in_block text ≡ Some (p, rest)
    → statements in_block text ≡ p ∷ statements in_block rest
unfolding statements
statements-some in_block text rest p e =
    ap (λ r. r.0) (each-some (next_statement in_block)
    (next_statement-takes in_block) text rest p e)

pub statements-none : (in_block : Bool) (text : List ℕ) → next_statement in_block text ≡ None
    → statements in_block text ≡ []
unfolding statements
statements-none in_block text e = ap (λ r. r.0) (each-none (next_statement in_block) text e)

pub items-few : (in_block : Bool) (text : List ℕ) → length (items in_block text) ≤ length text
unfolding items each
items-few in_block text = length-each (next_item in_block) text

pub statements-few : (in_block : Bool) (text : List ℕ)
    → length (statements in_block text) ≤ length text
unfolding statements each
statements-few in_block text = length-each (next_statement in_block) text

pub items-in_turn : GivesItemsInTurn
items-in_turn =
    from_front GivesItem list_part_of items_to_come (λ s t g. ap length g.items.0)
    (λ s x t g. g.items)

pub statements-in_turn : GivesStatementsInTurn
statements-in_turn =
    from_front GivesStatement sheet_part_of statements_to_come (λ s t g. ap length g.items.0)
    (λ s x t g. g.items)
