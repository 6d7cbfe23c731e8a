-- One text more: whether all texts are open comments, and how many declarations their rules hold.
-- Serves `reading::read_all` (the limit over several texts).
use Rattle.std.proofs.Common.{◌≡◌, ◌+◌, ◌<◌, ◌∷◌, [], ◌++◌, ◌∙◌, ℕ, List, Bool, true, false, ◌&&◌, take, arith, refl, ap}
use Rattle.std.proofs.lemmas.List.Sums.{sum_by-take-le, sum_by_push}
use Rattle.std.proofs.lemmas.List.Folds.{list_all-append}
use Rattle.css_text.specs.Characters.{Edition}
use Rattle.simplecss_grammar.specs.Statements.{is_open_comment}
use Rattle.simplecss.specs.DeclarationCounts.{kept_declarations, kept_in_all}
use Rattle.simplecss.specs.Readings.{are_open_comments}

and_false : (a b : Bool) → b ≡ false → (a && b) ≡ false
and_false true b e = e
and_false false b e = refl

and_true : (a b : Bool) → b ≡ true → (a && b) ≡ a
and_true true b e = e
and_true false b e = refl

one_open : (t : List ℕ) → are_open_comments (t ∷ []) ≡ is_open_comment t
one_open t = by (is_open_comment t) refl
  where
    by : (b : Bool) → is_open_comment t ≡ b → are_open_comments (t ∷ []) ≡ is_open_comment t
    by true h = rw h refl
    by false h = rw h refl

open_more : (texts : List (List ℕ)) (t : List ℕ)
    → are_open_comments (texts ++ t ∷ []) ≡ (are_open_comments texts && is_open_comment t)
open_more texts t =
    list_all-append is_open_comment texts (t ∷ [])
    ∙ ap (λ b. are_open_comments texts && b) (one_open t)

-- after one more text that is none
pub open_not : (texts : List (List ℕ)) (t : List ℕ) → is_open_comment t ≡ false
    → are_open_comments (texts ++ t ∷ []) ≡ false
open_not texts t h = open_more texts t ∙ and_false (are_open_comments texts) (is_open_comment t) h

-- after one more that is one
pub open_still : (texts : List (List ℕ)) (t : List ℕ) → is_open_comment t ≡ true
    → are_open_comments (texts ++ t ∷ []) ≡ are_open_comments texts
open_still texts t h = open_more texts t ∙ and_true (are_open_comments texts) (is_open_comment t) h

-- what is left after one more text
pub left_of-more : (edition : Edition) (texts : List (List ℕ)) (t : List ℕ) (left after most : ℕ)
    → left + kept_in_all edition texts ≡ most → after + kept_declarations edition t ≡ left
    → after + kept_in_all edition (texts ++ t ∷ []) ≡ most
left_of-more edition texts t left after most was now =
    let more = sum_by_push (kept_declarations edition) texts t in
    omega (arith, more, was, now)

-- one more text exceeds what is left, so all texts exceed the limit
pub texts_exceed : (edition : Edition) (all texts : List (List ℕ)) (t : List ℕ) (n left most : ℕ)
    → take n all ≡ texts ++ t ∷ [] → left + kept_in_all edition texts ≡ most
    → left < kept_declarations edition t → most < kept_in_all edition all
texts_exceed edition all texts t n left most front was exceeds =
    let more = ap (kept_in_all edition) front ∙ sum_by_push (kept_declarations edition) texts t in
    let within = sum_by-take-le (kept_declarations edition) all n in
    omega (arith, more, within, was, exceeds)
