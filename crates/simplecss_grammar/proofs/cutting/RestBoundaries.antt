-- Where the ends of a text begin is between two of its characters.
-- Serves `quoting::between`, and `Place::find` of simplecss.
use Rattle.std.proofs.Common.{◌≡◌, ℕ, ◌+◌, ◌-◌, ◌≤◌, List, drop, length, refl, sym, ap, ◌∙◌, subst, arith, Bool, true, false, nat_lt, ltb-true, ltb-false}
use Rattle.std.specs.Str.{IsCharBoundary, IsUtf8}
use Rattle.std.proofs.lemmas.List.{drop-drop}
use Rattle.std.proofs.lemmas.Str.{IsCharBoundary-from_drop}
use Rattle.css_text.specs.Reading.{Ends, rest_offset}
use Rattle.simplecss_grammar.proofs.cutting.CuttingLaws.{drop_rest_offset}
use Rattle.css_text.proofs.reading.EndsLemmas.{ends-drop, length-ends}

-- of two ends of a text the shorter one is an end of the other
pub ends-both : (text a b : List ℕ) → Ends text a → Ends text b → length b ≤ length a → Ends a b
ends-both text a b e f h =
    let n = length a - length b in
    let in_a : length a ≤ length text = length-ends text a e in
    let at : (length text - length a) + n ≡ length text - length b = omega (arith, h, in_a) in
    let same : drop n a ≡ b = ap (drop n) (sym (drop_rest_offset text a e))
    ∙ drop-drop n (length text - length a) text ∙ ap (λ k. drop k text) at
    ∙ drop_rest_offset text b f in
    subst (Ends a) same (ends-drop n a)

pub boundary_at_start : (text : List ℕ) → IsUtf8 text → IsCharBoundary text 0
boundary_at_start text i = IsCharBoundary-from_drop text 0 (omega arith) i

-- where an end of a text begins
pub boundary_at_rest : (text rest : List ℕ) → Ends text rest → IsUtf8 rest
    → IsCharBoundary text (rest_offset text rest)
boundary_at_rest text rest e i = IsCharBoundary-from_drop text (rest_offset text rest) (omega arith)
    (subst IsUtf8 (sym (drop_rest_offset text rest e)) i)

-- where the shorter of two ends of a text begins in the longer one
pub boundary-between : (text a b : List ℕ) → Ends text a → Ends text b → IsUtf8 a → IsUtf8 b
    → IsCharBoundary a (length a - length b)
boundary-between text a b e f i j = by (nat_lt (length a) (length b)) refl
  where
    by : (k : Bool) → nat_lt (length a) (length b) ≡ k → IsCharBoundary a (length a - length b)
    by true h =
        let none : length a - length b ≡ 0 = omega (arith, ltb-true (length a) (length b) h) in
        subst (IsCharBoundary a) (sym none) (boundary_at_start a i)
    by false h = boundary_at_rest a b (ends-both text a b e f (ltb-false (length a) (length b) h)) j
