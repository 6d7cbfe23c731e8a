-- What follows a cleaned text is read as it is alone. Serves the law.
use Rattle.std.proofs.Common.{◌≡◌, ℕ, Bool, false, List, [], ◌∷◌, ◌++◌, map, Some, None, refl, sym, ap, ◌∙◌, ◌⊎◌, inl, inr}
use Rattle.std.proofs.lemmas.List.{append_assoc}
use Rattle.std.specs.List.{All}
use Rattle.std.proofs.lemmas.List.Elements.{All-head, All-tail}
use Rattle.css_text.specs.AsciiBytes.{semicolon, space}
use Rattle.css_text.proofs.reading.EachLemmas.{option_cases}
use Rattle.css_syntax.specs.Tokens.{gap_part}
use Rattle.css_syntax.specs.DeclarationLists.{DeclarationText, ListText, separator_part, item_from, next_item, items}
use Rattle.css_syntax.specs.Printing.{declaration_text, DeclarationReadsBack, printed_part, list_text}
use Rattle.css_syntax.proofs.Shorter.{each-goes}
use Rattle.css_syntax.proofs.ItemLemmas.{separator_part-takes}
use Rattle.css_syntax.proofs.ListSteps.{items-some, items-none}
use Rattle.css_syntax.proofs.PrintedAgain.{items-read_back}
use Rattle.css_syntax.proofs.PrintedLists.{list-read_back}
use Rattle.css_clean.specs.Policies.{PolicyText}
use Rattle.css_clean.specs.Cleaning.{kept, LeavesAlone}
use Rattle.css_clean.proofs.CleanLemmas.{kept-back}

-- the same items follow what begins with a separator
after-separator : (in_block : Bool) (text rest : List ℕ) → separator_part text ≡ Some (tt, rest)
    → items in_block text ≡ items in_block rest
unfolding next_item
after-separator in_block text rest e = by (option_cases (next_item in_block rest))
  where
    same : next_item in_block text ≡ next_item in_block rest
    same = ap (item_from in_block) (sym (each-goes separator_part separator_part-takes text rest tt e))

    by : (next_item in_block rest ≡ None)
        ⊎ ((x : ListText × List ℕ) × (next_item in_block rest ≡ Some x))
        → items in_block text ≡ items in_block rest
    by (inl f) = items-none in_block text (same ∙ f) ∙ sym (items-none in_block rest f)
    by (inr x) =
        items-some in_block text x.0.1 x.0.0 (same ∙ x.1)
        ∙ sym (items-some in_block rest x.0.1 x.0.0 x.1)

after-semicolon : (in_block : Bool) (text : List ℕ)
    → items in_block (semicolon ∷ text) ≡ items in_block text
unfolding separator_part
after-semicolon in_block text = after-separator in_block (semicolon ∷ text) text refl

after-space : (in_block : Bool) (text : List ℕ)
    → items in_block (space ∷ text) ≡ items in_block text
unfolding separator_part gap_part
after-space in_block text = after-separator in_block (space ∷ text) text refl

one-before : (in_block : Bool) (d : DeclarationText) (text : List ℕ) → DeclarationReadsBack d
    → items in_block (declaration_text d ++ text) ≡ printed_part d ∷ items in_block text
one-before in_block d text h =
    items-some in_block (declaration_text d ++ text) (semicolon ∷ text) (printed_part d)
    (h in_block text)
    ∙ ap (λ (xs : List ListText). printed_part d ∷ xs) (after-semicolon in_block text)

list-before : (in_block : Bool) (ds : List DeclarationText) → All DeclarationReadsBack ds
    → (more : List ℕ)
    → items in_block (list_text ds ++ more) ≡ map printed_part ds ++ items in_block more
list-before in_block [] all more = refl
list-before in_block (d ∷ []) all more =
    one-before in_block d more (All-head DeclarationReadsBack d [] all)
list-before in_block (d ∷ e ∷ ds) all more =
    ap (items in_block) (append_assoc (declaration_text d) (space ∷ list_text (e ∷ ds)) more)
    ∙ one-before in_block d (space ∷ (list_text (e ∷ ds) ++ more))
    (All-head DeclarationReadsBack d (e ∷ ds) all)
    ∙ ap (λ (xs : List ListText). printed_part d ∷ xs)
    (after-space in_block (list_text (e ∷ ds) ++ more)
    ∙ list-before in_block (e ∷ ds) (All-tail DeclarationReadsBack d (e ∷ ds) all) more)

pub leaves-alone : (p : PolicyText) (text : List ℕ) (in_block : Bool) (more : List ℕ)
    → LeavesAlone p text in_block more
leaves-alone p text in_block more =
    let all : All DeclarationReadsBack (kept p (items false text)) =
    kept-back p (items-read_back false) (items false text) (items-read_back false text) in
    list-before in_block (kept p (items false text)) all more
    ∙ ap (λ (xs : List ListText). xs ++ items in_block more)
    (sym (list-read_back (kept p (items false text)) all in_block))
