-- A list is cut into its items, and a sheet into its statements.
-- Serves `laws::nothing_is_lost`.
use Rattle.std.proofs.Common.{◌≡◌, ◌≤◌, ◌<◌, ℕ, zero, suc, Bool, true, false, List, ◌++◌, length, Option, Some, None, refl, sym, ap, ◌∙◌, subst, arith, if◌then◌else◌, inl, inr}
use Rattle.css_text.specs.Reading.{before}
use Rattle.css_text.proofs.reading.EachLemmas.{option_cases, took}
use Rattle.css_syntax.specs.Statements.{ends_block, past_between, SheetText, statement, statement_from, next_statement, statements, with_text}
use Rattle.css_syntax.specs.DeclarationLists.{past_separators, ListText, item, item_from, next_item, items, with_text as list_with_text}
use Rattle.css_syntax.specs.NothingLost.{IsCutUp, item_texts, statement_texts, LosesNoItem, LosesNoStatement}
use Rattle.css_syntax.specs.NothingLost.IsCutUp.{cut_ends, piece_then}
use Rattle.css_syntax.proofs.ItemLemmas.{item-ends, statement-ends, separators-well, between-well, next_item-takes, next_statement-takes}
use Rattle.css_syntax.proofs.ListSteps.{items-some, items-none, statements-some, statements-none}

-- ---- items

-- what an item from here on has: its text is all that it consumes
FoundItem : Bool → List ℕ → Option (ListText × List ℕ) → Type 0
FoundItem in_block start None = ends_block in_block start ≡ true
FoundItem in_block start (Some x) = x.0.text ++ x.1 ≡ start

item-found : (in_block : Bool) (start : List ℕ)
    → FoundItem in_block start (item_from in_block start)
unfolding FoundItem
item-found in_block start = by (ends_block in_block start) refl
  where
    by : (t : Bool) → ends_block in_block start ≡ t → FoundItem in_block start
        (if t then None else Some (list_with_text start (item in_block start)))
    by true e = e
    by false e = item-ends in_block start

next-found : (in_block : Bool) (text : List ℕ)
    → FoundItem in_block (past_separators text) (next_item in_block text)
unfolding next_item
next-found in_block text = item-found in_block (past_separators text)

items-end : (in_block : Bool) (text : List ℕ) → next_item in_block text ≡ None
    → LosesNoItem in_block text
unfolding FoundItem
items-end in_block text e =
    let start = past_separators text in
    subst (λ (ps : List ListText). IsCutUp in_block past_separators text (item_texts ps))
    (sym (items-none in_block text e))
    (cut_ends text (separators-well text).0
    (subst (FoundItem in_block start) e (next-found in_block text)))

items-then : (in_block : Bool) (text rest : List ℕ) (p : ListText)
    → next_item in_block text ≡ Some (p, rest) → LosesNoItem in_block rest
    → LosesNoItem in_block text
unfolding FoundItem
items-then in_block text rest p e more =
    let start = past_separators text in
    let piece : p.text ++ rest
    ≡ start = subst (FoundItem in_block start) e (next-found in_block text) in
    subst (λ (ps : List ListText). IsCutUp in_block past_separators text (item_texts ps))
    (sym (items-some in_block text rest p e))
    (piece_then text p.text rest (item_texts (items in_block rest))
    (ap (λ (t : List ℕ). before text start ++ t) piece ∙ (separators-well text).0) more)

items-cut : (in_block : Bool) (n : ℕ) (text : List ℕ) → length text ≤ n → LosesNoItem in_block text
items-cut in_block zero text h =
    elim (option_cases (next_item in_block text)) [
      | inl e ↦ items-end in_block text e
      | inr found ↦ absurd (omega (
        arith,
        took (next_item in_block) (next_item-takes in_block) text found.0.1 found.0.0 found.1,
      ))
    ]
items-cut in_block (suc n) text h =
    elim (option_cases (next_item in_block text)) [
      | inl e ↦ items-end in_block text e
      | inr found ↦
          let less : length found.0.1 < length text =
          took (next_item in_block) (next_item-takes in_block) text found.0.1 found.0.0 found.1 in
          items-then in_block text found.0.1 found.0.0 found.1
          (items-cut in_block n found.0.1 (omega arith))
    ]

pub loses-no_item : (in_block : Bool) (text : List ℕ) → LosesNoItem in_block text
loses-no_item in_block text = items-cut in_block (length text) text (omega arith)

-- ---- statements

FoundStatement : Bool → List ℕ → Option (SheetText × List ℕ) → Type 0
FoundStatement in_block start None = ends_block in_block start ≡ true
FoundStatement in_block start (Some x) = x.0.text ++ x.1 ≡ start

statement-found : (in_block : Bool) (start : List ℕ)
    → FoundStatement in_block start (statement_from in_block start)
unfolding FoundStatement
statement-found in_block start = by (ends_block in_block start) refl
  where
    by : (t : Bool) → ends_block in_block start ≡ t → FoundStatement in_block start
        (if t then None else Some (with_text start (statement in_block start)))
    by true e = e
    by false e = statement-ends in_block start

next_statement-found : (in_block : Bool) (text : List ℕ)
    → FoundStatement in_block (past_between in_block text) (next_statement in_block text)
unfolding next_statement
next_statement-found in_block text = statement-found in_block (past_between in_block text)

statements-end : (in_block : Bool) (text : List ℕ) → next_statement in_block text ≡ None
    → LosesNoStatement in_block text
unfolding FoundStatement
statements-end in_block text e =
    let start = past_between in_block text in
    subst (λ (ps : List SheetText).
    IsCutUp in_block (past_between in_block) text (statement_texts ps))
    (sym (statements-none in_block text e))
    (cut_ends text (between-well in_block text).0
    (subst (FoundStatement in_block start) e (next_statement-found in_block text)))

statements-then : (in_block : Bool) (text rest : List ℕ) (p : SheetText)
    → next_statement in_block text ≡ Some (p, rest) → LosesNoStatement in_block rest
    → LosesNoStatement in_block text
unfolding FoundStatement
statements-then in_block text rest p e more =
    let start = past_between in_block text in
    let piece : p.text ++ rest ≡ start =
    subst (FoundStatement in_block start) e (next_statement-found in_block text) in
    subst (λ (ps : List SheetText).
    IsCutUp in_block (past_between in_block) text (statement_texts ps))
    (sym (statements-some in_block text rest p e))
    (piece_then text p.text rest (statement_texts (statements in_block rest))
    (ap (λ (t : List ℕ). before text start ++ t) piece ∙ (between-well in_block text).0) more)

statements-cut : (in_block : Bool) (n : ℕ) (text : List ℕ) → length text ≤ n
    → LosesNoStatement in_block text
statements-cut in_block zero text h =
    elim (option_cases (next_statement in_block text)) [
      | inl e ↦ statements-end in_block text e
      | inr found ↦ absurd (omega (
        arith,
        took (next_statement in_block) (next_statement-takes in_block) text found.0.1 found.0.0
            found.1,
      ))
    ]
statements-cut in_block (suc n) text h =
    elim (option_cases (next_statement in_block text)) [
      | inl e ↦ statements-end in_block text e
      | inr found ↦
          let less : length found.0.1 < length text =
          took (next_statement in_block) (next_statement-takes in_block) text found.0.1 found.0.0
          found.1 in
          statements-then in_block text found.0.1 found.0.0 found.1
          (statements-cut in_block n found.0.1 (omega arith))
    ]

pub loses-no_statement : (in_block : Bool) (text : List ℕ) → LosesNoStatement in_block text
loses-no_statement in_block text = statements-cut in_block (length text) text (omega arith)
