-- Sheets of several texts.
-- Serves `StyleSheet::{parse_more, read}` and `laws::sheet_law` (the sheet of the texts).
use Rattle.std.proofs.Common.{◌≡◌, ℕ, zero, suc, Bool, true, false, cond, ◌&&◌, ◌||◌, ◌==◌, if◌then◌else◌, List, [], ◌∷◌, ◌++◌, length, None, Some, ap, ◌∙◌, sym, subst, refl, append-nil, flat_map, arith}
use Rattle.std.specs.List.{filter, AllPass}
use Rattle.std.proofs.lemmas.List.Elements.{filter-append, filter_agree}
use Rattle.std.proofs.lemmas.Grind.{flat_map-append}
use Rattle.css_text.specs.Characters.{Edition}
use Rattle.css_text.specs.Comments.{past_blank, opens_comment}
use Rattle.simplecss_grammar.specs.Statements.{has_declaration, kept, statement, statements, next_statement, ends_statements, is_open_comment}
use Rattle.simplecss_grammar.specs.Sheets.{is_smaller, ordered, sheet}
use Rattle.css_text.proofs.reading.EachLemmas.{each-none}
use Rattle.simplecss_grammar.proofs.order.OrderLemmas.{smaller_order}
use Rattle.css_text.proofs.order.ListFacts.{filter_and}
use Rattle.css_text.proofs.order.RankLemmas.{ordered_filter, ordered_front}

ends_open : (a b : Bool) → b ≡ true → (a || b) ≡ true
ends_open true b e = refl
ends_open false b e = e

and_itself : (b : Bool) → (b && b) ≡ b
and_itself true = refl
and_itself false = refl

-- a filter a second time leaves nothing out
pub filter_again : {X : Type 0} (p : X → Bool) (xs : List X) → filter p (filter p xs) ≡ filter p xs
filter_again p xs = filter_and p p xs ∙ filter_agree (λ x. p x && p x) p (λ x. and_itself (p x)) xs

-- the kept rules of a text have a declaration each
pub kept_filled : (e : Edition) (text : List ℕ) → filter has_declaration (kept e text) ≡ kept e text
kept_filled e text = filter_again has_declaration (flat_map (λ rules. rules) (statements e text))

all_filled : (e : Edition) (texts : List (List ℕ))
    → filter has_declaration (flat_map (kept e) texts) ≡ flat_map (kept e) texts
all_filled e [] = refl
all_filled e (t ∷ ts) =
    filter-append has_declaration (kept e t) (flat_map (kept e) ts)
    ∙ ap (λ l. l ++ filter has_declaration (flat_map (kept e) ts)) (kept_filled e t)
    ∙ ap (λ l. kept e t ++ l) (all_filled e ts)

-- the rules of a sheet have a declaration each
pub sheet_filled : (e : Edition) (texts : List (List ℕ))
    → filter has_declaration (sheet e texts) ≡ sheet e texts
sheet_filled e texts =
    sym (ordered_filter is_smaller smaller_order has_declaration (flat_map (kept e) texts))
    ∙ ap ordered (all_filled e texts)

passing_at : {X : Type 0} (p : X → Bool) (x : X) (xs : List X) (b : Bool) → p x ≡ b → AllPass p xs
    → AllPass p (cond b (x ∷ xs) xs)
passing_at p x xs true e h zero d l = e
passing_at p x xs true e h (suc k) d l = h k d (omega arith)
passing_at p x xs false e h k d l = h k d l

-- what a filter leaves of a list passes its test
pub AllPass-filter : {X : Type 0} (p : X → Bool) (xs : List X) → AllPass p (filter p xs)
AllPass-filter p [] k d l = absurd (omega arith)
AllPass-filter p (x ∷ xs) k d l =
    passing_at p x (filter p xs) (p x) refl (AllPass-filter p xs) k d l

-- each rule of a sheet has a declaration
pub AllPass-sheet : (e : Edition) (texts : List (List ℕ)) → AllPass has_declaration (sheet e texts)
AllPass-sheet e texts = subst (AllPass has_declaration) (sheet_filled e texts)
    (AllPass-filter has_declaration (sheet e texts))

-- a text that is an open comment has no rules
pub kept_open : (e : Edition) (text : List ℕ) → is_open_comment text ≡ true → kept e text ≡ []
unfolding statements
kept_open e text open_comment =
    let ends : ends_statements (past_blank text) ≡ true =
    ends_open (length (past_blank text) == 0) (opens_comment (past_blank text)) open_comment in
    let none : next_statement e text ≡ None =
    ap (λ b. if b then None else Some (statement e (past_blank text))) ends in
    ap (λ r. filter has_declaration (flat_map (λ rules. rules) r.0))
    (each-none (next_statement e) text none)

-- one more text, before the rules are in order
pub texts_more : (e : Edition) (texts : List (List ℕ)) (t : List ℕ)
    → flat_map (kept e) (texts ++ t ∷ []) ≡ flat_map (kept e) texts ++ kept e t
texts_more e texts t = flat_map-append (kept e) texts (t ∷ [])
    ∙ ap (λ l. flat_map (kept e) texts ++ l) (append-nil (kept e t))

-- one that is an open comment
pub texts_open : (e : Edition) (texts : List (List ℕ)) (t : List ℕ) → is_open_comment t ≡ true
    → flat_map (kept e) (texts ++ t ∷ []) ≡ flat_map (kept e) texts
texts_open e texts t open_comment =
    texts_more e texts t ∙ ap (λ l. flat_map (kept e) texts ++ l) (kept_open e t open_comment)
    ∙ append-nil (flat_map (kept e) texts)

-- so the sheet with it is the one without it
pub sheet_open : (e : Edition) (texts : List (List ℕ)) (t : List ℕ) → is_open_comment t ≡ true
    → sheet e (texts ++ t ∷ []) ≡ sheet e texts
sheet_open e texts t open_comment = ap ordered (texts_open e texts t open_comment)

-- one more text
pub sheet_more : (e : Edition) (texts : List (List ℕ)) (t : List ℕ)
    → sheet e (texts ++ t ∷ []) ≡ ordered (filter has_declaration (sheet e texts) ++ kept e t)
sheet_more e texts t =
    ap ordered (texts_more e texts t)
    ∙ sym (ordered_front is_smaller smaller_order (flat_map (kept e) texts) (kept e t))
    ∙ ap (λ l. ordered (l ++ kept e t)) (sym (sheet_filled e texts))
