-- A printed list of declarations, read again.
-- Serves `laws::printed_declarations_read_back` and Display of `DeclarationList`.
use Rattle.std.proofs.Common.{◌≡◌, ℕ, Bool, List, [], ◌∷◌, ◌++◌, append-nil, map, Some, None, refl, sym, ap, ◌∙◌, ◌⊎◌, inl, inr}
use Rattle.std.specs.List.{flat_map, join_with_byte}
use Rattle.std.proofs.lemmas.List.Elements.{All-head, All-tail}
use Rattle.css_text.specs.AsciiBytes.{semicolon, space}
use Rattle.css_text.proofs.reading.EachLemmas.{option_cases}
use Rattle.css_syntax.specs.Tokens.{gap_part}
use Rattle.css_syntax.specs.DeclarationLists.{DeclarationText, ListText, separator_part, item_from, next_item, items}
use Rattle.css_syntax.specs.Printing.{declaration_text, DeclarationReadsBack, printed_part, list_text, ListReadsBack}
use Rattle.css_syntax.proofs.Shorter.{each-goes, each-rests}
use Rattle.css_syntax.proofs.ItemLemmas.{separator_part-takes}
use Rattle.css_syntax.proofs.ListSteps.{items-some, items-none}

-- the same items follow what begins with a separator
next-same : (in_block : Bool) (text rest : List ℕ) → separator_part text ≡ Some (tt, rest)
    → next_item in_block text ≡ next_item in_block rest
unfolding next_item
next-same in_block text rest e =
    ap (item_from in_block) (sym (each-goes separator_part separator_part-takes text rest tt e))

items-same : (in_block : Bool) (text rest : List ℕ)
    → next_item in_block text ≡ next_item in_block rest
    → items in_block text ≡ items in_block rest
items-same in_block text rest e = by (option_cases (next_item in_block rest))
  where
    by : (next_item in_block rest ≡ None)
        ⊎ ((x : ListText × List ℕ) × (next_item in_block rest ≡ Some x))
        → items in_block text ≡ items in_block rest
    by (inl f) = items-none in_block text (e ∙ f) ∙ sym (items-none in_block rest f)
    by (inr x) =
        items-some in_block text x.0.1 x.0.0 (e ∙ x.1)
        ∙ sym (items-some in_block rest x.0.1 x.0.0 x.1)

-- a semicolon, and a space after it
after-semicolon : (in_block : Bool) (text : List ℕ)
    → items in_block (semicolon ∷ text) ≡ items in_block text
unfolding separator_part
after-semicolon in_block text =
    items-same in_block (semicolon ∷ text) text (next-same in_block (semicolon ∷ text) text refl)

after-space : (in_block : Bool) (text : List ℕ)
    → items in_block (space ∷ text) ≡ items in_block text
unfolding separator_part gap_part
after-space in_block text =
    items-same in_block (space ∷ text) text (next-same in_block (space ∷ text) text refl)

none-left : (in_block : Bool) → items in_block [] ≡ []
unfolding next_item separator_part
none-left in_block = items-none in_block []
    (ap (item_from in_block) (each-rests separator_part [] refl))

one-printed : (in_block : Bool) (d : DeclarationText) (text : List ℕ) → DeclarationReadsBack d
    → items in_block (declaration_text d ++ text) ≡ printed_part d ∷ items in_block text
one-printed in_block d text h =
    items-some in_block (declaration_text d ++ text) (semicolon ∷ text) (printed_part d)
    (h in_block text)
    ∙ ap (λ (xs : List ListText). printed_part d ∷ xs) (after-semicolon in_block text)

pub list-read_back : (declarations : List DeclarationText) → ListReadsBack declarations
list-read_back [] all in_block = none-left in_block
list-read_back (d ∷ []) all in_block =
    ap (items in_block) (sym (append-nil (declaration_text d)))
    ∙ one-printed in_block d [] (All-head DeclarationReadsBack d [] all)
    ∙ ap (λ (xs : List ListText). printed_part d ∷ xs) (none-left in_block)
list-read_back (d ∷ e ∷ more) all in_block =
    one-printed in_block d (space ∷ list_text (e ∷ more))
    (All-head DeclarationReadsBack d (e ∷ more) all)
    ∙ ap (λ (xs : List ListText). printed_part d ∷ xs)
    (after-space in_block (list_text (e ∷ more)) ∙ list-read_back (e ∷ more)
    (All-tail DeclarationReadsBack d (e ∷ more) all) in_block)

-- a join is its first piece, and then each other after the byte
pub join_first : {X : Type 0} (c : ℕ) (f : X → List ℕ) (x : X) (xs : List X)
    → join_with_byte c (map f (x ∷ xs)) ≡ f x ++ flat_map (λ y. c ∷ f y) xs
join_first c f x [] = sym (append-nil (f x))
join_first c f x (y ∷ ys) = ap (λ l. f x ++ (c ∷ l)) (join_first c f y ys)
