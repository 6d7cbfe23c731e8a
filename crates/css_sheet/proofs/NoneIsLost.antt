-- The items of a text are all of it.
-- Serves `SheetReader::new` (that nothing is lost).
use Rattle.std.proofs.Common.{◌≡◌, ℕ, zero, suc, ◌+◌, ◌-◌, ◌<◌, ◌≤◌, Bool, true, false, List, [], ◌∷◌, ◌++◌, length, length-append, Option, Some, None, arith, refl, sym, ap, ◌∙◌, subst, if◌then◌else◌, inl, inr}
use Rattle.css_text.proofs.reading.EachLemmas.{option_cases}
use Rattle.css_syntax.specs.Statements.{SheetText, statement, ends_block, past_between, statement_from, next_statement, with_text}
use Rattle.css_syntax.specs.Contents.{statement_contents}
use Rattle.css_syntax.proofs.ItemLemmas.{statement-less, statement-ends, between-well}
use Rattle.css_sheet.specs.SheetItems.{ConditionText, SheetItemText, GroupText, group_of, condition_of, next_part, items_in}
use Rattle.css_sheet.specs.NothingLost.{BetweenTo, IsGroupRule, AreItemsOf}
use Rattle.css_sheet.specs.NothingLost.AreItemsOf.{no_item, item_then, group_then}
use Rattle.css_sheet.proofs.NextParts.{next-cases, next-none, rest-less}
use Rattle.css_sheet.proofs.Sizes.{group-read}
use Rattle.css_sheet.proofs.GroupPieces.{statement-pieces}
use Rattle.css_sheet.proofs.SheetSteps.{place, an_item, items-none, items-alone, items-plain, items-group}

-- ---- what was read at the start

FoundAt : Bool → List ℕ → Option (SheetText × List ℕ) → Type 0
FoundAt in_block start None = Unit {0}
FoundAt in_block start (Some x) = x ≡ with_text start (statement in_block start)

found-at : (in_block : Bool) (start : List ℕ) → FoundAt in_block start (statement_from in_block start)
unfolding FoundAt
found-at in_block start = by (ends_block in_block start)
  where
    by : (t : Bool) → FoundAt in_block start
        (if t then None else Some (with_text start (statement in_block start)))
    by true = tt
    by false = refl

read-at : (in_block : Bool) (text : List ℕ) (x : SheetText × List ℕ)
    → next_statement in_block text ≡ Some x
    → x ≡ with_text (past_between in_block text) (statement in_block (past_between in_block text))
unfolding next_statement FoundAt
read-at in_block text x e =
    subst (FoundAt in_block (past_between in_block text)) e
    (found-at in_block (past_between in_block text))

-- the text of an item is all that is read of it
item-text : (in_block : Bool) (text rest : List ℕ) (p : SheetText)
    → next_part in_block text ≡ Some (p, rest) → past_between in_block text ≡ p.text ++ rest
item-text in_block text rest p e =
    elim (next-cases in_block text rest p e) [
      | inl read ↦
          sym (ap (λ (x : SheetText × List ℕ). x.0.text ++ x.1) (read-at in_block text (p, rest) read)
          ∙ statement-ends in_block (past_between in_block text))
      | inr stray ↦
          stray.start_is ∙ sym (ap (λ (q : SheetText). q.text ++ rest) stray.part_is)
    ]

-- an item has a byte
LessAt : List ℕ → Option (SheetText × List ℕ) → Type 0
LessAt start None = Unit {0}
LessAt start (Some x) = length x.1 < length start

less-at : (in_block : Bool) (start : List ℕ) → LessAt start (statement_from in_block start)
unfolding LessAt
less-at in_block [] = tt
less-at in_block (b ∷ start) = by (ends_block in_block (b ∷ start)) refl
  where
    by : (t : Bool) → ends_block in_block (b ∷ start) ≡ t → LessAt (b ∷ start)
        (if t then None else Some (with_text (b ∷ start) (statement in_block (b ∷ start))))
    by true e = tt
    by false e = omega (arith, statement-less in_block b start e)

read-less : (in_block : Bool) (text : List ℕ) (x : SheetText × List ℕ)
    → next_statement in_block text ≡ Some x → length x.1 < length (past_between in_block text)
unfolding next_statement LessAt
read-less in_block text x e =
    subst (LessAt (past_between in_block text)) e (less-at in_block (past_between in_block text))

item-some : (in_block : Bool) (text rest : List ℕ) (p : SheetText)
    → next_part in_block text ≡ Some (p, rest) → 0 < length p.text
item-some in_block text rest p e =
    elim (next-cases in_block text rest p e) [
      | inl read ↦ omega (
        arith,
        read-less in_block text (p, rest) read,
        ap length (item-text in_block text rest p e),
        length-append p.text rest,
      )
      | inr stray ↦ omega (arith, ap (λ (q : SheetText). length q.text) stray.part_is)
    ]

between : (in_block : Bool) (text : List ℕ) → BetweenTo in_block text (past_between in_block text)
between in_block text = (refl, (between-well in_block text).0)

-- ---- one item, and then the others

item-first : (in_block : Bool) (conditions : List ConditionText) (end : ℕ) (text rest : List ℕ)
    (p : SheetText) (more : List SheetItemText) → next_part in_block text ≡ Some (p, rest)
    → AreItemsOf in_block conditions end rest more
    → AreItemsOf in_block conditions end text
    (an_item conditions p (place end in_block text p) ∷ more)
item-first in_block conditions end text rest p more e all =
    let is = item-text in_block text rest p e in
    item_then in_block conditions end text rest
    (an_item conditions p (place end in_block text p)) more
    (item-some in_block text rest p e)
    (subst (BetweenTo in_block text) is (between in_block text)) refl
    (ap (λ (t : List ℕ). end - length t) is) all

group-first : (in_block : Bool) (conditions : List ConditionText) (end : ℕ) (text rest : List ℕ)
    (p : SheetText) (group : GroupText) (items more : List SheetItemText)
    → next_part in_block text ≡ Some (p, rest) → group_of p.statement ≡ Some group
    → AreItemsOf true
    (conditions ++ condition_of group (place end in_block text p) (end - length rest) ∷ [])
    ((place end in_block text p).block + length group.text) group.text items
    → AreItemsOf in_block conditions end rest more
    → AreItemsOf in_block conditions end text (items ++ more)
group-first in_block conditions end text rest p group items more e g inner all =
    let start = past_between in_block text in
    let inside = statement_contents in_block start in
    let read = read-at in_block text (p, rest) (group-read in_block text rest p e group g) in
    let here : group_of (statement in_block start).0 ≡ Some group =
    sym (ap (λ (x : SheetText × List ℕ). group_of x.0.statement) read) ∙ g in
    let pieces : IsGroupRule group start inside rest =
    subst (IsGroupRule group start inside) (sym (ap (λ (x : SheetText × List ℕ). x.1) read))
    (statement-pieces in_block start group here) in
    group_then in_block conditions end text start inside rest group (place end in_block text p)
    items more (between in_block text) pieces refl refl inner all

-- no item, by what is left
none-left : (n : ℕ) (in_block : Bool) (conditions : List ConditionText) (end : ℕ) (text : List ℕ)
    → next_part in_block text ≡ None
    → AreItemsOf in_block conditions end text (items_in n in_block conditions end text)
none-left n in_block conditions end text e =
    subst (AreItemsOf in_block conditions end text)
    (sym (items-none n in_block conditions end text e))
    (no_item in_block conditions end text
    (subst (BetweenTo in_block text) (next-none in_block text e) (between in_block text)))

-- ---- all items

-- what the items of each text are
abbrev AllItems : (n : ℕ) → Type 0
AllItems n = (in_block : Bool) (conditions : List ConditionText) (end : ℕ) (text : List ℕ)
    → AreItemsOf in_block conditions end text (items_in n in_block conditions end text)

step : (n : ℕ) (in_block : Bool) (conditions : List ConditionText) (end : ℕ) (text : List ℕ)
    → ((rest : List ℕ) (p : SheetText) → next_part in_block text ≡ Some (p, rest)
    → AreItemsOf in_block conditions end text (items_in n in_block conditions end text))
    → AreItemsOf in_block conditions end text (items_in n in_block conditions end text)
step n in_block conditions end text some =
    elim (option_cases (next_part in_block text)) [
      | inl e ↦ none-left n in_block conditions end text e
      | inr found ↦ some found.0.1 found.0.0 found.1
    ]

alone : (m : ℕ) (in_block : Bool) (conditions : List ConditionText) (end : ℕ) (text : List ℕ)
    → length text ≤ m
    → AreItemsOf in_block conditions end text (items_in zero in_block conditions end text)
alone zero in_block conditions end text h =
    step zero in_block conditions end text (λ rest p e.
    absurd (omega (arith, h, rest-less in_block text rest p e)))
alone (suc m) in_block conditions end text h =
    step zero in_block conditions end text (λ rest p e.
    subst (AreItemsOf in_block conditions end text)
    (sym (items-alone in_block conditions end text rest p e))
    (item-first in_block conditions end text rest p _ e
    (alone m in_block conditions end rest (omega (arith, h, rest-less in_block text rest p e)))))

deeper : (n : ℕ) → AllItems n → (m : ℕ) (in_block : Bool) (conditions : List ConditionText) (end : ℕ)
    (text : List ℕ) → length text ≤ m
    → AreItemsOf in_block conditions end text (items_in (suc n) in_block conditions end text)
deeper n inner zero in_block conditions end text h =
    step (suc n) in_block conditions end text (λ rest p e.
    absurd (omega (arith, h, rest-less in_block text rest p e)))
deeper n inner (suc m) in_block conditions end text h =
    step (suc n) in_block conditions end text (λ rest p e.
    let more = deeper n inner m in_block conditions end rest
    (omega (arith, h, rest-less in_block text rest p e)) in
    elim (option_cases (group_of p.statement)) [
      | inl g ↦
          subst (AreItemsOf in_block conditions end text)
          (sym (items-plain (suc n) in_block conditions end text rest p e g))
          (item-first in_block conditions end text rest p _ e more)
      | inr found ↦
          subst (AreItemsOf in_block conditions end text)
          (sym (items-group n in_block conditions end text rest p found.0 e found.1))
          (group-first in_block conditions end text rest p found.0 _ _ e found.1
          (inner true _ _ found.0.text) more)
    ])

pub all-items : (n : ℕ) → AllItems n
all-items zero in_block conditions end text =
    alone (length text) in_block conditions end text (omega arith)
all-items (suc n) in_block conditions end text =
    deeper n (all-items n) (length text) in_block conditions end text (omega arith)
