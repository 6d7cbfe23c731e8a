-- What of a value is skipped, by where reading its terms stops.
-- Serves `reader::find_open_value` and `blocks::{report_declared, consume_declarations}`.
use Rattle.std.proofs.Common.{◌≡◌, ◌⊎◌, ◌==◌, ◌||◌, ℕ, Bool, true, false, not, List, [], ◌∷◌, if◌then◌else◌, ap, inl, inr, length, refl, subst, sym, ◌∙◌, Some, None}
use Rattle.css_text.specs.Reading.{Reading, got, fails, each}
use Rattle.css_text.specs.Characters.{Edition}
use Rattle.simplecss_grammar.specs.Terms.{term}
use Rattle.simplecss_grammar.specs.Declarations.{StyleDeclaration, declaration, stated_name, terms}
use Rattle.simplecss_grammar.specs.Blocks.{ends_list, declaration_in_block}
use Rattle.simplecss_grammar.specs.Skipped.{Skip, add_each, block_skips, declaration_skips, list_skips, open_skips, open_value, skips_after_name}
use Rattle.css_text.proofs.reading.EachLemmas.{Done, each-stops, not_empty}
use Rattle.simplecss_grammar.proofs.reading.DeclarationLemmas.{declaration_in_block-takes}
use Rattle.simplecss_grammar.proofs.reading.OpenValues.{block_skips-none, block_skips-some, declaration_skips-ended}
use Rattle.simplecss_grammar.proofs.reading.SkipLemmas.{add_each-append}
use Rattle.simplecss_declaration.specs.internal.OpenValues.{open_from}
use Rattle.simplecss_declaration.specs.internal.UnreportedFaults.{FailsAt}

-- without a name and a colon no value begins
pub declaration_skips-none : (edition : Edition) (text left : List ℕ)
    → FailsAt (stated_name edition text) left → declaration_skips edition text ≡ []
unfolding declaration_skips
declaration_skips-none edition text left h = by (stated_name edition text) h
  where
    by : (r : Reading (List ℕ)) → FailsAt r left → skips_after_name edition r ≡ []
    by (got property rest) f = absurd f
    by (fails fault rest) f = refl

-- what is skipped, if the terms stop at a rest of which this is left
abbrev pub open_at : (from left : List ℕ) → List Skip
open_at from left =
    if length from == 0 || not (length left == 0) then []
    else record { from = from; after = []; why = open_value } ∷ []

open_skips-at : (from left : List ℕ) (r : Reading (Unit {0})) → FailsAt r left
    → open_skips from r ≡ open_at from left
open_skips-at from left (got u rest) h = absurd h
open_skips-at from left (fails fault rest) h =
    ap (λ (t : List ℕ). open_at from t) (sym h)

pub declaration_skips-stated : (edition : Edition) (text start from left property : List ℕ)
    → stated_name edition text ≡ got property start → from ≡ (terms edition start).1
    → FailsAt (term edition from) left → declaration_skips edition text ≡ open_at from left
unfolding declaration_skips
declaration_skips-stated edition text start from left property e f h =
    ap (skips_after_name edition) e
    ∙ ap (λ (t : List ℕ). open_skips t (term edition t)) (sym f)
    ∙ open_skips-at from left (term edition from) h

pub open_at-empty : (from left : List ℕ) → (length from == 0) ≡ true → open_at from left ≡ []
open_at-empty from left e = rw e refl

pub open_at-left : (from left : List ℕ) → (left ≡ [] → ⊥) → open_at from left ≡ []
open_at-left from [] h = absurd (h refl)
open_at-left from (b ∷ left) h = rw (not_empty b left) (by (length from == 0))
  where
    by : (k : Bool)
        → (λ (xs : List Skip). xs ≡ [])
        (if k || true then [] else record { from = from; after = []; why = open_value } ∷ [])
    by true = refl
    by false = refl

pub open_at-all : (from left : List ℕ) → (length from == 0) ≡ false → left ≡ []
    → open_at from left ≡ open_from (Some from)
open_at-all from left e f = rw (f, e) refl

-- after a declaration that leaves something, nothing of it is skipped
pub declaration_skips-left : (edition : Edition) (text rest : List ℕ) (p : StyleDeclaration)
    → declaration edition text ≡ got p rest → (rest ≡ [] → ⊥) → declaration_skips edition text ≡ []
declaration_skips-left edition text rest p e some =
    by (declaration_skips-ended edition text rest p e)
  where
    by : (declaration_skips edition text ≡ []) ⊎ (rest ≡ []) → declaration_skips edition text ≡ []
    by (inl none) = none
    by (inr ended) = absurd (some ended)

-- what a declaration reports, and what is reported from there on, is what is reported from it on
pub add_each-declaration : {S : Type 0} (add : S → Skip → S) (edition : Edition)
    (text rest : List ℕ) (p : StyleDeclaration) (s0 s1 : S) → ends_list text ≡ false
    → declaration edition text ≡ got p rest
    → s1 ≡ add_each add s0 (declaration_skips edition text)
    → add_each add s1 (block_skips edition rest) ≡ add_each add s0 (block_skips edition text)
add_each-declaration {S = S} add edition text rest p s0 s1 goes e h =
    let read : declaration_in_block edition text ≡ Some (p, rest) = rw (goes, e) refl in
    ap (λ (s : S). add_each add s (block_skips edition rest)) h
    ∙ sym (add_each-append add s0 (declaration_skips edition text) (block_skips edition rest))
    ∙ ap (add_each add s0) (sym (block_skips-some edition text rest p read))

-- where the list of declarations ends, what follows it is left to report
pub add_each-end : {S : Type 0} (add : S → Skip → S) (edition : Edition)
    (front : List StyleDeclaration) (here text : List ℕ) (s0 s1 : S)
    → each (declaration_in_block edition) here ≡ ([], here)
    → Done (declaration_in_block edition) front here text
    → add_each add s1 (block_skips edition here) ≡ add_each add s0 (block_skips edition text)
    → add_each add s1 (list_skips edition (each (declaration_in_block edition) text).1)
    ≡ add_each add s0 (block_skips edition text)
add_each-end {S = S} add edition front here text s0 s1 e d h =
    let none : declaration_in_block edition here ≡ None = each-nothing here e in
    let left : (each (declaration_in_block edition) text).1 ≡ here =
    sym d.left ∙ ap (λ (r : List StyleDeclaration × List ℕ). r.1) e in
    ap (λ (t : List ℕ). add_each add s1 (list_skips edition t)) left
    ∙ ap (add_each add s1) (sym (block_skips-none edition here none)) ∙ h
  where
    each-nothing : (here : List ℕ) → each (declaration_in_block edition) here ≡ ([], here)
        → declaration_in_block edition here ≡ None
    each-nothing here e =
        subst (λ (r : List StyleDeclaration × List ℕ). declaration_in_block edition r.1 ≡ None) e
        (each-stops (declaration_in_block edition) (declaration_in_block-takes edition) here)

-- what is reported after the list of declarations, and nothing more is
pub add_each-list : {S : Type 0} (add : S → Skip → S) (s0 s1 : S) (xs ys : List Skip)
    → add_each add s1 xs ≡ add_each add s0 ys → xs ≡ [] → s1 ≡ add_each add s0 ys
add_each-list add s0 s1 xs ys h e = sym (ap (add_each add s1) e) ∙ h
