-- What is skipped of a text that is cut where one of its statements ends.
-- Serves `laws::skips_are_cut` (what is skipped of a text in pieces).
use Rattle.std.proofs.Common.{◌≡◌, ◌<◌, ℕ, List, [], ◌++◌, ap, append_assoc, arith, get_or, length, map, refl, subst, sym, ◌∙◌, IsUtf8, Some}
use Rattle.std.proofs.lemmas.List.{get_or-map, length-map, map-append}
use Rattle.css_text.specs.Reading.{Ends, before, each, rest_offset}
use Rattle.css_text.specs.Characters.{Edition}
use Rattle.css_text.specs.Comments.{past_blank}
use Rattle.simplecss_grammar.specs.Statements.{StyleRule, next_statement}
use Rattle.simplecss_grammar.specs.Cutting.{rests_after, StatementEndsAt}
use Rattle.simplecss_grammar.specs.Skipped.{Skip, end_skips, skipped, statement_skips}
use Rattle.simplecss_grammar.specs.SkippedLaws.{skip_before, SkipsAcross}
use Rattle.simplecss_grammar.proofs.reading.SkipLemmas.{skipped-none, skips_of_each-some}
use Rattle.simplecss_grammar.proofs.reading.StatementTextLemmas.{next_statement-takes}
use Rattle.simplecss_grammar.proofs.cutting.AtRuleCuts.{nothing_in_front}
use Rattle.simplecss_grammar.proofs.cutting.StatementCuts.{next_statement-cut, next_statement-well}
use Rattle.simplecss_grammar.proofs.cutting.CuttingLaws.{Reaches, at_rest, following, drop_rest_offset, reaches-well, rests-reached}
use Rattle.simplecss_grammar.proofs.skipped.StatementSkipCuts.{statement_skips-cut}

-- what a blank and a statement skip, and what the rest does
pub skipped-next : (edition : Edition) (text rest : List ℕ) (rules : List StyleRule)
    → next_statement edition text ≡ Some (rules, rest)
    → skipped edition text
    ≡ statement_skips edition (past_blank text) ++ skipped edition rest
unfolding skipped
skipped-next edition text rest rules e =
    skips_of_each-some (λ t. statement_skips edition (past_blank t)) end_skips
    (next_statement edition) (next_statement-takes edition) text rest rules e

skipped-nil : (edition : Edition) → skipped edition [] ≡ []
unfolding each
skipped-nil edition = skipped-none edition [] refl

-- what is skipped of a text that is cut where a statement ends
skipped-cut : (edition : Edition) (v text : List ℕ) → Reaches (next_statement edition) v text
    → IsUtf8 text → (u : List ℕ) → text ≡ u ++ v
    → skipped edition text ≡ map (skip_before v) (skipped edition u) ++ skipped edition v
skipped-cut edition v text at_rest i u e =
    let none : skipped edition u ≡ [] =
    ap (skipped edition) (nothing_in_front u v (omega (arith, ap length e)))
    ∙ skipped-nil edition in
    rw none refl
skipped-cut edition v text (following _ next rules f r) i u e =
    let w : List ℕ = before next v in
    let parts : next ≡ w ++ v =
    sym (reaches-well (next_statement edition) (next_statement-well edition) v next r).0 in
    let whole : next_statement edition (u ++ v) ≡ Some (rules, w ++ v) =
    ap (next_statement edition) (sym e) ∙ f ∙ ap (λ (t : List ℕ). Some (rules, t)) parts in
    let on : IsUtf8 next = (next_statement-well edition text next rules f).1 i in
    let cut : IsUtf8 v =
    (reaches-well (next_statement edition) (next_statement-well edition) v next r).1 on in
    let joined : IsUtf8 (u ++ v) = subst IsUtf8 e i in
    let one : statement_skips edition (past_blank text)
    ≡ map (skip_before v) (statement_skips edition (past_blank u)) =
    ap (λ (t : List ℕ). statement_skips edition (past_blank t)) e
    ∙ statement_skips-cut edition u v w rules joined cut whole in
    let rests : skipped edition next ≡ map (skip_before v) (skipped edition w) ++ skipped edition v
    = skipped-cut edition v next r on w parts in
    let front : skipped edition u
    ≡ statement_skips edition (past_blank u) ++ skipped edition w =
    skipped-next edition u w rules
    (next_statement-cut edition u v w rules joined cut whole) in
    skipped-next edition text next rules f
    ∙ ap (λ (xs : List Skip). xs ++ skipped edition next) one
    ∙ ap (λ (xs : List Skip).
    map (skip_before v) (statement_skips edition (past_blank u)) ++ xs) rests
    ∙ sym (append_assoc (map (skip_before v) (statement_skips edition (past_blank u)))
    (map (skip_before v) (skipped edition w)) (skipped edition v))
    ∙ ap (λ (xs : List Skip). xs ++ skipped edition v)
    (sym (map-append (skip_before v) (statement_skips edition (past_blank u)) (skipped edition w)))
    ∙ ap (λ (xs : List Skip). map (skip_before v) xs ++ skipped edition v) (sym front)

pub skips_across : (edition : Edition) (text : List ℕ) (offset : ℕ) → IsUtf8 text
    → StatementEndsAt edition text offset → SkipsAcross edition text offset
skips_across edition text offset i (k, l, is) =
    let within : k < length (rests_after edition text) =
    omega (arith, l, length-map (rests_after edition text) (rest_offset text)) in
    let rest : List ℕ = get_or (rests_after edition text) k [] in
    let reached : Reaches (next_statement edition) rest text =
    rests-reached edition k text [] within in
    let ends : Ends text rest =
    (reaches-well (next_statement edition) (next_statement-well edition) rest text reached).0 in
    let here : rest_offset text rest ≡ offset =
    sym (get_or-map (rest_offset text) (rests_after edition text) k [] offset within) ∙ is in
    let there : SkipsAcross edition text (rest_offset text rest) =
    skipped-cut edition rest text reached i (before text rest) (sym ends)
    ∙ ap (λ (t : List ℕ). map (skip_before t) (skipped edition (before text rest))
    ++ skipped edition t) (sym (drop_rest_offset text rest ends)) in
    subst (SkipsAcross edition text) here there
