-- What a declaration skips of its value, and what a block then skips.
-- Serves `consume_declarations` (what it reports), `laws::skips_are_cut` and
-- `laws::nothing_is_lost`.
use Rattle.std.proofs.Common.{◌≡◌, ◌⊎◌, ◌<◌, ◌≤◌, ◌==◌, ◌||◌, ℕ, zero, suc, Bool, true, false, not, List, [], ◌∷◌, ◌++◌, if◌then◌else◌, ap, arith, inl, inr, length, refl, subst, sym, ◌∙◌, Some, None}
use Rattle.css_text.specs.Reading.{Reading, no_value, got, fails, Ends, each, follow, found, left_after}
use Rattle.css_text.specs.Characters.{Edition}
use Rattle.css_text.specs.Comments.{blank}
use Rattle.simplecss_grammar.specs.Terms.{term}
use Rattle.simplecss_grammar.specs.Declarations.{StyleDeclaration, declaration, importance, stated_name, terms, trailing, unless_empty, value}
use Rattle.simplecss_grammar.specs.Blocks.{declaration_in_block, ends_list}
use Rattle.simplecss_grammar.specs.Skipped.{Skip, open_value, block_skips, declaration_skips, is_open_term, list_skips, open_skips, skips_after_name}
use Rattle.css_text.proofs.reading.EachLemmas.{each-none, each-some, not_empty, option_cases, took}
use Rattle.css_text.proofs.reading.EndsLemmas.{ends-ends, no_texts, occurs-ends}
use Rattle.css_text.proofs.reading.TakesLemmas.{each-within}
use Rattle.simplecss_grammar.proofs.reading.DeclarationsLawful.{stated_name-occurs, stated_value, terms-well}
use Rattle.simplecss_grammar.proofs.reading.DeclarationLemmas.{declaration_in_block-takes}
use Rattle.simplecss_grammar.proofs.reading.SkipLemmas.{skips_of_each-some, skips_of_each-none}

-- ---- what a declaration skips

-- where a value begins, the first term that is not read begins in the text
pub declaration_skips-at : (edition : Edition) (text : List ℕ)
    → (declaration_skips edition text ≡ [])
    ⊎ ((from : List ℕ) × Ends text from
    × (declaration_skips edition text
    ≡ record { from = from; after = []; why = open_value } ∷ []))
unfolding declaration_skips
declaration_skips-at edition text =
    by (stated_name edition text)
    (occurs-ends text no_texts (stated_name edition text) (stated_name-occurs edition text))
  where
    by : (r : Reading (List ℕ)) → Ends text (left_after r)
        → (skips_after_name edition r ≡ [])
        ⊎ ((from : List ℕ) × Ends text from
        × (skips_after_name edition r
        ≡ record { from = from; after = []; why = open_value } ∷ []))
    by (fails fault rest) e = inl refl
    by (got property rest) e =
        is (length from == 0 || not (is_open_term (term edition from)))
      where
        from : List ℕ
        from = (terms edition rest).1

        lost : List Skip
        lost = record { from = from; after = []; why = open_value } ∷ []

        is : (k : Bool)
            → ((if k then [] else lost) ≡ [])
            ⊎ ((x : List ℕ) × Ends text x × ((if k then [] else lost)
            ≡ record { from = x; after = []; why = open_value } ∷ []))
        is true = inl refl
        is false = inr (from, ends-ends text rest from e (terms-well edition rest).0, refl)

-- where nothing is left after the term that is not read, nothing is left after the declaration
stated_value-ended : (edition : Edition) (property text rest : List ℕ) (p : StyleDeclaration)
    → left_after (term edition (terms edition text).1) ≡ []
    → stated_value property edition text ≡ got p rest → rest ≡ []
unfolding value trailing blank importance each
stated_value-ended edition property text rest p =
    by (left_after (term edition (terms edition text).1))
  where
    stated : Bool → StyleDeclaration
    stated important =
        record { name = property; value = (value edition text).0; important = important }

    by : (t : List ℕ) → t ≡ []
        → follow (trailing t) (λ important. unless_empty text (stated important)) ≡ got p rest
        → rest ≡ []
    by (b ∷ t) e h = absurd (cc)
    by [] e h = is (length (stated false).value == 0) h
      where
        is : (k : Bool)
            → (if k then fails (no_value text) [] else got (stated false) []) ≡ got p rest
            → rest ≡ []
        is true f = absurd (cc)
        is false f = cc

-- what is skipped of a value whose first term that is not read is not open
open_skips-closed : (text : List ℕ) (r : Reading (Unit {0}))
    → (open_skips text r ≡ []) ⊎ (left_after r ≡ [])
open_skips-closed text r = by (length text == 0) r
  where
    unless : Bool → List Skip
    unless k = if k then [] else record { from = text; after = []; why = open_value } ∷ []

    by : (k : Bool) (r : Reading (Unit {0}))
        → (unless (k || not (is_open_term r)) ≡ []) ⊎ (left_after r ≡ [])
    by true r = inl refl
    by false (got u rest) = inl refl
    by false (fails fault []) = inr refl
    by false (fails fault (b ∷ rest)) = inl (rw (not_empty b rest) refl)

-- after a declaration of which something is skipped, nothing is left
pub declaration_skips-ended : (edition : Edition) (text rest : List ℕ) (p : StyleDeclaration)
    → declaration edition text ≡ got p rest → (declaration_skips edition text ≡ []) ⊎ (rest ≡ [])
unfolding declaration declaration_skips
declaration_skips-ended edition text rest p e = by (stated_name edition text) e
  where
    by : (r : Reading (List ℕ)) → follow r (λ property. stated_value property edition) ≡ got p rest
        → (skips_after_name edition r ≡ []) ⊎ (rest ≡ [])
    by (fails fault left) h = inl refl
    by (got property left) h =
        is (open_skips-closed (terms edition left).1 (term edition (terms edition left).1))
      where
        is : (open_skips (terms edition left).1 (term edition (terms edition left).1) ≡ [])
            ⊎ (left_after (term edition (terms edition left).1) ≡ [])
            → (skips_after_name edition (got property left) ≡ []) ⊎ (rest ≡ [])
        is (inl none) = inl none
        is (inr ended) = inr (stated_value-ended edition property left rest p ended h)

-- ---- what a block skips

pub block_skips-some : (edition : Edition) (text rest : List ℕ) (p : StyleDeclaration)
    → declaration_in_block edition text ≡ Some (p, rest)
    → block_skips edition text ≡ declaration_skips edition text ++ block_skips edition rest
unfolding block_skips
block_skips-some edition text rest p e =
    skips_of_each-some (declaration_skips edition) (list_skips edition)
    (declaration_in_block edition) (declaration_in_block-takes edition) text rest p e

pub block_skips-none : (edition : Edition) (text : List ℕ)
    → declaration_in_block edition text ≡ None → block_skips edition text ≡ list_skips edition text
unfolding block_skips
block_skips-none edition text e =
    skips_of_each-none (declaration_skips edition) (list_skips edition)
    (declaration_in_block edition) text e

pub declaration_in_block-got : (edition : Edition) (text rest : List ℕ) (p : StyleDeclaration)
    → declaration_in_block edition text ≡ Some (p, rest) → declaration edition text ≡ got p rest
declaration_in_block-got edition text rest p e = by (ends_list text) (declaration edition text) e
  where
    by : (k : Bool) (r : Reading StyleDeclaration) → (if k then None else found r) ≡ Some (p, rest)
        → r ≡ got p rest
    by true r h = absurd (cc)
    by false (got q left) h =
        let same : (q, left) ≡ (p, rest) = cc in
        ap (λ (x : StyleDeclaration × List ℕ). got x.0 x.1) same
    by false (fails f left) h = absurd (cc)

-- what a block skips, where something is left after its declarations
abbrev LeftSkips : Edition → List ℕ → Type 0
LeftSkips edition text =
    0 < length (each (declaration_in_block edition) text).1
    → block_skips edition text ≡ list_skips edition (each (declaration_in_block edition) text).1

left_skips-step : (edition : Edition) (text : List ℕ)
    → ((rest : List ℕ) → length rest < length text → LeftSkips edition rest)
    → LeftSkips edition text
left_skips-step edition text more some =
    elim (option_cases (declaration_in_block edition text)) [
      | inl none ↦
          block_skips-none edition text none
          ∙ ap (λ (r : List StyleDeclaration × List ℕ). list_skips edition r.1)
          (sym (each-none (declaration_in_block edition) text none))
      | inr one ↦ by one.0.1 one.0.0 one.1
    ]
  where
    by : (rest : List ℕ) (p : StyleDeclaration)
        → declaration_in_block edition text ≡ Some (p, rest)
        → block_skips edition text
        ≡ list_skips edition (each (declaration_in_block edition) text).1
    by rest p e =
        let less : length rest < length text =
        took (declaration_in_block edition) (declaration_in_block-takes edition) text rest p e in
        let same : (each (declaration_in_block edition) text).1
        ≡ (each (declaration_in_block edition) rest).1 =
        ap (λ (r : List StyleDeclaration × List ℕ). r.1)
        (each-some (declaration_in_block edition) (declaration_in_block-takes edition) text rest
        p e) in
        let left : 0 < length (each (declaration_in_block edition) rest).1 =
        subst (λ (t : List ℕ). 0 < length t) same some in
        block_skips-some edition text rest p e
        ∙ ap (λ (xs : List Skip). xs ++ block_skips edition rest)
        (closed left (declaration_skips-ended edition text rest p
        (declaration_in_block-got edition text rest p e)))
        ∙ more rest less left
        ∙ ap (list_skips edition) (sym same)
      where
        closed : 0 < length (each (declaration_in_block edition) rest).1
            → (declaration_skips edition text ≡ []) ⊎ (rest ≡ [])
            → declaration_skips edition text ≡ []
        closed left (inl none) = none
        closed left (inr ended) =
            let within =
            each-within (declaration_in_block edition) (declaration_in_block-takes edition) rest in
            absurd (omega (arith, left, ap length ended, within))

left_skips-up_to : (edition : Edition) (n : ℕ) (text : List ℕ) → length text ≤ n
    → LeftSkips edition text
left_skips-up_to edition zero text l =
    left_skips-step edition text (λ rest less. absurd (omega (arith, l, less)))
left_skips-up_to edition (suc n) text l =
    left_skips-step edition text
    (λ rest less. left_skips-up_to edition n rest (omega (arith, l, less)))

pub block_skips-left : (edition : Edition) (text : List ℕ)
    → 0 < length (each (declaration_in_block edition) text).1
    → block_skips edition text ≡ list_skips edition (each (declaration_in_block edition) text).1
block_skips-left edition text =
    left_skips-up_to edition (length text) text (omega arith)
