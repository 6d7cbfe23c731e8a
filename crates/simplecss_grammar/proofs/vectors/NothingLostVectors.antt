-- A worked text that is cut into pieces, and one that cannot be without something skipped.
-- Examples of `IsCutUp` and `IsAccountedFor` of `specs/NothingLost`.
use Rattle.std.proofs.Common.{◌++◌, ◌⊎◌, inl, inr, ap, sym, ◌∙◌, refl, ◌≡◌, ℕ, List, [], ◌∷◌, codes, false, true, Some, None}
use Rattle.css_text.specs.AsciiBytes.{close_brace, open_brace, slash}
use Rattle.css_text.specs.Reading.{fails, no_name}
use Rattle.css_text.specs.Bytes.{starts}
use Rattle.css_text.specs.Characters.{Edition, first_edition, second_edition, is_space}
use Rattle.simplecss_grammar.specs.Blanks.{IsBlank}
use Rattle.simplecss_grammar.specs.Blanks.IsBlank.{empty, space_then, comment_then}
use Rattle.simplecss_grammar.specs.Components.{Component}
use Rattle.simplecss_grammar.specs.Components.Combinator.{none}
use Rattle.simplecss_grammar.specs.Selectors.{reads}
use Rattle.simplecss_grammar.specs.Declarations.{StyleDeclaration, declaration}
use Rattle.simplecss_grammar.specs.Statements.{StyleRule}
use Rattle.simplecss_grammar.specs.Skipped.{Skip, broken_declaration, open_value}
use Rattle.simplecss_grammar.specs.NothingLost.{IsAccountedFor, IsCutUp, is_mark, blank_then, cut_ends, declaration_then, mark_then, open_declaration_then, selector_then, skip_then, statement_then, statements_end}
use Rattle.simplecss_grammar.proofs.vectors.OnLiterals.{simplecss_on_literals}

-- the selector `a`
abbrev just_a : List Component
just_a =
    record {
      combinator = none;
      compound = record { name = Some (codes "a"); subselectors = [] };
    } ∷ []

-- the declaration `b:c`
abbrev b_is_c : StyleDeclaration
b_is_c = record { name = codes "b"; value = codes "c"; important = false }

-- a text cut into its pieces: a selector, a brace, a declaration, one that is skipped, and a brace
pub account_of_text : (edition : Edition) → IsAccountedFor edition (codes "a{b:c;d}")
    ((record { components = just_a; declarations = b_is_c ∷ [] } ∷ []) ∷ [])
    (record { from = codes "d}"; after = codes "}"; why = broken_declaration } ∷ [])
unfolding simplecss_on_literals
account_of_text first_edition =
    statement_then (codes "a{b:c;d}") [] (just_a ∷ []) (b_is_c ∷ []) _ [] []
    (selector_then (codes "a") (codes "{b:c;d}") just_a [] (b_is_c ∷ []) _ refl
    (mark_then open_brace (codes "b:c;d}") [] (b_is_c ∷ []) _ refl
    (declaration_then (codes "b:c;") (codes "d}") b_is_c [] [] _ refl
    (skip_then (codes "d") (codes "}") broken_declaration [] [] []
    (mark_then close_brace [] [] [] [] refl cut_ends))))) tt (statements_end [] [] cut_ends)
account_of_text second_edition =
    statement_then (codes "a{b:c;d}") [] (just_a ∷ []) (b_is_c ∷ []) _ [] []
    (selector_then (codes "a") (codes "{b:c;d}") just_a [] (b_is_c ∷ []) _ refl
    (mark_then open_brace (codes "b:c;d}") [] (b_is_c ∷ []) _ refl
    (declaration_then (codes "b:c;") (codes "d}") b_is_c [] [] _ refl
    (skip_then (codes "d") (codes "}") broken_declaration [] [] []
    (mark_then close_brace [] [] [] [] refl cut_ends))))) tt (statements_end [] [] cut_ends)

-- a text whose last value has a string that is not closed
pub account_of_open_value : (edition : Edition) → IsAccountedFor edition (codes "a{b:c 'd}")
    ((record { components = just_a; declarations = b_is_c ∷ [] } ∷ []) ∷ [])
    (record { from = codes "'d}"; after = []; why = open_value } ∷ [])
unfolding simplecss_on_literals
account_of_open_value first_edition =
    statement_then (codes "a{b:c 'd}") [] (just_a ∷ []) (b_is_c ∷ []) _ [] []
    (selector_then (codes "a") (codes "{b:c 'd}") just_a [] (b_is_c ∷ []) _ refl
    (mark_then open_brace (codes "b:c 'd}") [] (b_is_c ∷ []) _ refl
    (open_declaration_then (codes "b:c ") (codes "'d}") b_is_c [] [] [] refl cut_ends))) tt
    (statements_end [] [] cut_ends)
account_of_open_value second_edition =
    statement_then (codes "a{b:c 'd}") [] (just_a ∷ []) (b_is_c ∷ []) _ [] []
    (selector_then (codes "a") (codes "{b:c 'd}") just_a [] (b_is_c ∷ []) _ refl
    (mark_then open_brace (codes "b:c 'd}") [] (b_is_c ∷ []) _ refl
    (open_declaration_then (codes "b:c ") (codes "'d}") b_is_c [] [] [] refl cut_ends))) tt
    (statements_end [] [] cut_ends)

-- ---- a byte that is neither read nor a blank or a mark

-- a less-than sign alone is neither a selector nor a declaration
less_is_not_read : (edition : Edition) → ((reads edition (codes "<")).0 ≡ None)
    × (declaration edition (codes "<") ≡ fails (no_name (codes "<")) (codes "<"))
unfolding simplecss_on_literals
less_is_not_read first_edition = (refl, refl)
less_is_not_read second_edition = (refl, refl)

-- nor does a blank begin with it
less_is_no_blank : {front : List ℕ} (more : List ℕ) → IsBlank front → front ≡ 60 ∷ more → ⊥
less_is_no_blank more empty e = cc
less_is_no_blank more (space_then b rest s h) e =
    let is : b ≡ 60 = cc in let no_space = sym (ap is_space is) ∙ s in cc
less_is_no_blank more (comment_then c rest i h) e =
    let begins : (47 ∷ 42 ∷ (i.inside ++ (42 ∷ 47 ∷ []))) ++ rest ≡ 60 ∷ more =
    sym (ap (λ (t : List ℕ). t ++ rest) i.is) ∙ e in
    let differs : true ≡ false = ap (starts slash) begins in
    cc

-- the front of a text of one byte
one_byte : (front text : List ℕ) (b : ℕ) → front ++ text ≡ b ∷ []
    → ((front ≡ []) × (text ≡ b ∷ [])) ⊎ (front ≡ b ∷ [])
one_byte [] text b e = inl (refl, e)
one_byte (c ∷ []) text b e =
    let is : c ≡ b = cc in inr (ap (λ (d : ℕ). d ∷ []) is)
one_byte (c ∷ d ∷ front) text b e = absurd (cc)

-- without something skipped no piece of it is cut off
less_stays : (edition : Edition) (end : List ℕ) {text : List ℕ} {ss : List (List Component)}
    {ds : List StyleDeclaration} {xs : List Skip} → IsCutUp edition end text ss ds xs
    → text ≡ codes "<" → xs ≡ [] → end ≡ codes "<"
less_stays edition end cut_ends e f = e
less_stays edition end (blank_then front text ss ds xs b h) e f =
    by (λ k. less_stays edition end h k f) (one_byte front text 60 e)
  where
    by : (text ≡ 60 ∷ [] → end ≡ 60 ∷ []) → ((front ≡ []) × (text ≡ 60 ∷ [])) ⊎ (front ≡ 60 ∷ [])
        → end ≡ 60 ∷ []
    by more (inl k) = more k.1
    by more (inr k) = absurd (less_is_no_blank [] b k)
less_stays edition end (mark_then b text ss ds xs m h) e f =
    let is : b ≡ 60 = cc in let no_mark = sym (ap is_mark is) ∙ m in absurd (cc)
less_stays edition end (selector_then front text s ss ds xs r h) e f =
    let none_read = sym (less_is_not_read edition).0 ∙ ap (λ t. (reads edition t).0) (sym e)
    ∙ ap (λ o. o.0) r in
    absurd (cc)
less_stays edition end (declaration_then front text p ss ds xs r h) e f =
    let none_read = sym (less_is_not_read edition).1 ∙ ap (declaration edition) (sym e) ∙ r in
    absurd (cc)
less_stays edition end (open_declaration_then front text p ss ds xs r h) e f = absurd (cc)
less_stays edition end (skip_then front text why ss ds xs h) e f = absurd (cc)

none_of : (xs ys : List Skip) → xs ++ ys ≡ [] → (xs ≡ []) × (ys ≡ [])
none_of [] ys e = (refl, e)
none_of (x ∷ xs) ys e = absurd (cc)

-- so it is not accounted for without something skipped, whatever its rules are
pub less_is_accounted_for : (edition : Edition) {text : List ℕ} {rules : List (List StyleRule)}
    {xs : List Skip} → IsAccountedFor edition text rules xs → text ≡ codes "<" → xs ≡ [] → ⊥
less_is_accounted_for edition (statements_end text xs h) e f =
    let left : [] ≡ codes "<" = less_stays edition [] h e f in cc
less_is_accounted_for edition (statement_then text rest ss ds xs later rules h reported k) e f =
    let both = none_of xs later f in
    less_is_accounted_for edition k (less_stays edition rest h e both.0) both.1
