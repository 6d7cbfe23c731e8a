-- The line of an element, a rule after another, and the lines of all elements.
-- Serves `run_match` and `run_style` (a line for each element).
use Rattle.std.proofs.Common.{◌≡◌, ℕ, zero, suc, ◌+◌, ◌<◌, ◌↔◌, Bool, true, false, cond, List, [], ◌∷◌, ◌++◌, length, map, take, get_or, refl, sym, ap, ◌∙◌, subst, arith, append_assoc, append-nil}
use Rattle.std.specs.List.{AllZip, items_where_true, range_with_len, concat}
use Rattle.std.proofs.lemmas.List.{take_more, length-append, map-append}
use Rattle.simplecss.specs.Statements.{StyleRule}
use Rattle.cssq_tree.specs.PageNodes.{Spot}
use Rattle.cssq.specs.MatchRuns.{Takes, AreAnswers, numbers_of}

all_zip_push : {A B : Type 0} (R : A → B → Type 0) (xs : List A) (ys : List B) (x : A) (y : B)
    → AllZip R xs ys → R x y → AllZip R (xs ++ x ∷ []) (ys ++ y ∷ [])
all_zip_push R [] [] x y all r = (r, tt)
all_zip_push R [] (b ∷ ys) x y all r = absurd all
all_zip_push R (a ∷ xs) [] x y all r = absurd all
all_zip_push R (a ∷ xs) (b ∷ ys) x y all r = (all.0, all_zip_push R xs ys x y all.1 r)

-- one more answer adds its number, where it is a yes
numbers_push : (first : ℕ) (answers : List Bool) (answer : Bool)
    → items_where_true (answers ++ answer ∷ [])
    (range_with_len first (length (answers ++ answer ∷ []))) ≡ items_where_true answers
    (range_with_len first (length answers)) ++ cond answer ((first + length answers) ∷ []) []
numbers_push first [] true = let same : first ≡ first + 0 = omega arith in ap (λ n. n ∷ []) same
numbers_push first [] false = refl
numbers_push first (true ∷ answers) answer =
    let at : first + 1 + length answers ≡ first + suc (length answers) = omega arith in
    ap (λ ns. first ∷ ns) (numbers_push (first + 1) answers answer ∙ ap (λ n. items_where_true
    answers (range_with_len (first + 1) (length answers)) ++ cond answer (n ∷ []) []) at)
numbers_push first (false ∷ answers) answer =
    let at : first + 1 + length answers ≡ first + suc (length answers) = omega arith in
    numbers_push (first + 1) answers answer
    ∙ ap (λ n. items_where_true answers (range_with_len (first + 1) (length answers))
    ++ cond answer (n ∷ []) []) at

-- the answers for the first rules, of which those at these indices are a yes
pub record AnsweredSoFar (rules : List StyleRule) (element : Spot) (count : ℕ)
    (indices : List ℕ) : Type 0 where
  pub answers : List Bool
  pub are : AreAnswers answers (take count rules) element
  pub counted : length answers ≡ count
  pub numbers : numbers_of answers ≡ map (λ index. index + 1) indices

pub answered_none : (rules : List StyleRule) (element : Spot) → AnsweredSoFar rules element 0 []
answered_none rules element = record { answers = []; are = tt; counted = refl; numbers = refl }

module _ {rules : List StyleRule} {element : Spot} {i : ℕ} {indices : List ℕ}
    (so_far : AnsweredSoFar rules element i indices) (rule : StyleRule) (within : i < length rules)
    (at : get_or rules i rule ≡ rule) where
  more : (answer : Bool) → ((answer ≡ true) ↔ Takes rule element)
      → AreAnswers (so_far.answers ++ answer ∷ []) (take (i + 1) rules) element
  more answer reports =
      subst (λ rs. AreAnswers (so_far.answers ++ answer ∷ []) rs element)
      (sym (take_more rules i rule within ∙ ap (λ r. take i rules ++ r ∷ []) at))
      (all_zip_push (λ answer rule. (answer ≡ true) ↔ Takes rule element) so_far.answers
      (take i rules) answer rule so_far.are reports)

  longer : (answer : Bool) → length (so_far.answers ++ answer ∷ []) ≡ i + 1
  longer answer = length-append so_far.answers (answer ∷ []) ∙ ap (λ n. n + 1) so_far.counted

  pub answered_yes : Takes rule element → AnsweredSoFar rules element (i + 1) (indices ++ i ∷ [])
  answered_yes takes =
      let next : 1 + length so_far.answers ≡ i + 1 = omega (arith, so_far.counted) in
      record {
        answers = so_far.answers ++ true ∷ [];
        are = more true (λ _. takes, λ _. refl);
        counted = longer true;
        numbers = numbers_push 1 so_far.answers true
            ∙ ap (λ ns. ns ++ (1 + length so_far.answers) ∷ []) so_far.numbers
            ∙ ap (λ n. map (λ index. index + 1) indices ++ n ∷ []) next
            ∙ sym (map-append (λ index. index + 1) indices (i ∷ []));
      }

  pub answered_no : (Takes rule element → ⊥) → AnsweredSoFar rules element (i + 1) indices
  answered_no not_taken = record {
    answers = so_far.answers ++ false ∷ [];
    are = more false (λ e. absurd (cc), λ takes. absurd (not_taken takes));
    counted = longer false;
    numbers = numbers_push 1 so_far.answers false ∙ append-nil (numbers_of so_far.answers)
        ∙ so_far.numbers;
  }

range_push : (first n : ℕ)
    → range_with_len first (suc n) ≡ range_with_len first n ++ (first + n) ∷ []
range_push first zero = let same : first ≡ first + 0 = omega arith in ap (λ n. n ∷ []) same
range_push first (suc n) =
    let at : first + 1 + n ≡ first + suc n = omega arith in
    ap (λ ns. first ∷ ns)
    (range_push (first + 1) n ∙ ap (λ m. range_with_len (first + 1) n ++ m ∷ []) at)

concat_push : (lines : List (List ℕ)) (line : List ℕ)
    → concat (lines ++ line ∷ []) ≡ concat lines ++ line
concat_push [] line = append-nil line
concat_push (l ∷ lines) line =
    ap (λ t. l ++ t) (concat_push lines line) ∙ sym (append_assoc l (concat lines) line)

-- the lines of the first indices
pub record LinesSoFar (IsLine : ℕ → List ℕ → Type 0) (index : ℕ) (text : List ℕ) : Type 0 where
  pub lines : List (List ℕ)
  pub are : AllZip IsLine (range_with_len 0 index) lines
  pub whole : text ≡ concat lines

-- one more line
pub lines_more : {IsLine : ℕ → List ℕ → Type 0} {index : ℕ} {before : List ℕ}
    → LinesSoFar IsLine index before → (line text : List ℕ) → IsLine index line
    → text ≡ before ++ line → LinesSoFar IsLine (index + 1) text
lines_more {IsLine} {index} {before} so_far line text here added =
    let indices : range_with_len 0 (suc index) ≡ range_with_len 0 index ++ index ∷ [] =
    range_push 0 index ∙ (let same : 0 + index ≡ index = omega arith in
    ap (λ n. range_with_len 0 index ++ n ∷ []) same) in
    let next : suc index ≡ index + 1 = omega arith in
    record {
      lines = so_far.lines ++ line ∷ [];
      are = subst (λ ps. AllZip IsLine ps (so_far.lines ++ line ∷ []))
          (sym indices ∙ ap (range_with_len 0) next)
          (all_zip_push IsLine (range_with_len 0 index) so_far.lines index line so_far.are here);
      whole = added ∙ ap (λ t. t ++ line) so_far.whole ∙ sym (concat_push so_far.lines line);
    }
