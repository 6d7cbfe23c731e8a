-- The number of declarations: of rules that share a block, of one statement more, and of a text.
-- Serves `StyleSheet::read` (when texts are refused).
use Rattle.std.proofs.Common.{◌≡◌, ◌+◌, ◌*◌, ◌<◌, ◌∷◌, [], ◌++◌, ℕ, List, Bool, true, false, length, arith, refl, ap, sym, ◌∙◌, map}
use Rattle.std.specs.Prelude.{None, Result, Ok, Err, ◌↔◌, ◌≤◌, ◌≢◌}
use Rattle.std.specs.Result.{OnOk, IfErr}
use Rattle.std.specs.List.{filter}
use Rattle.std.proofs.lemmas.List.Sums.{sum_by-append}
use Rattle.std.proofs.lemmas.List.{length-map}
use Rattle.std.proofs.lemmas.Bool.Decides.{nat_tests}
use Rattle.css_text.specs.Characters.{Edition}
use Rattle.simplecss_grammar.specs.Components.{Component}
use Rattle.simplecss_grammar.specs.Declarations.{StyleDeclaration}
use Rattle.simplecss_grammar.specs.Statements.{StyleRule, has_declaration, next_statement}
use Rattle.css_text.specs.declared.sheet_error.SheetError.{SheetError}
use Rattle.css_text.specs.declared.sheet_error.SheetError.TheVariants.{TooManyDeclarations, Memory}
use Rattle.simplecss.specs.internal.SharedBlocks.{rule_with, rules_with}
use Rattle.simplecss.specs.DeclarationCounts.{declaration_count, kept_declarations}
use Rattle.simplecss.proofs.StatementLemmas.{rules_from, rules_from-none}

pub count-append : (a b : List StyleRule)
    → declaration_count (a ++ b) ≡ declaration_count a + declaration_count b
count-append a b = sum_by-append (λ rule. length rule.declarations) a b

pub count-shared : (declarations : List StyleDeclaration) (selectors : List (List Component))
    → declaration_count (rules_with declarations selectors) ≡ length selectors * length declarations
count-shared declarations [] = omega arith
count-shared declarations (selector ∷ selectors) =
    let one =
    count-append (rule_with declarations selector ∷ []) (rules_with declarations selectors) in
    let more = count-shared declarations selectors in
    omega (arith, one, more)

-- the same by the lengths of two lists
pub count-read : {X : Type 0} (f : X → StyleDeclaration) (declarations : List X)
    (selectors : List (List Component)) (a b : ℕ) → a ≡ length selectors → b ≡ length declarations
    → declaration_count (rules_with (map f declarations) selectors) ≡ a * b
count-read f declarations selectors a b one two =
    count-shared (map f declarations) selectors
    ∙ ap (λ n. n * length (map f declarations)) (sym one)
    ∙ ap (λ n. a * n) (length-map declarations f ∙ sym two)

-- a rule without a declaration counts nothing
pub count-filled : (rules : List StyleRule)
    → declaration_count (filter has_declaration rules) ≡ declaration_count rules
count-filled [] = refl
count-filled (rule ∷ rules) = by (has_declaration rule) refl (count-filled rules)
  where
    by : (t : Bool) → has_declaration rule ≡ t
        → declaration_count (filter has_declaration rules) ≡ declaration_count rules
        → declaration_count (filter has_declaration (rule ∷ rules))
        ≡ declaration_count (rule ∷ rules)
    by true h more = rw h (count-append (rule ∷ []) (filter has_declaration rules)
        ∙ ap (λ n. declaration_count (rule ∷ []) + n) more ∙ sym (count-append (rule ∷ []) rules))
    by false h more =
        let none : length rule.declarations ≡ 0 = grind (arith, nat_tests) in
        let one = count-append (rule ∷ []) rules in
        rw h (omega (arith, none, one, more))

pub kept_declarations-of : (edition : Edition) (text : List ℕ)
    → kept_declarations edition text ≡ declaration_count (rules_from edition text)
unfolding kept_declarations
kept_declarations-of edition text = count-filled (rules_from edition text)

-- without a statement there is none
pub kept_declarations-none : (edition : Edition) (text : List ℕ)
    → next_statement edition text ≡ None → kept_declarations edition text ≡ 0
kept_declarations-none edition text none =
    kept_declarations-of edition text ∙ ap declaration_count (rules_from-none edition text none)

-- what is left after the rules of one statement more
pub left-more : (rules read : List StyleRule) (left after most : ℕ)
    → left + declaration_count rules ≡ most → after + declaration_count read ≡ left
    → after + declaration_count (rules ++ read) ≡ most
left-more rules read left after most was now =
    let both = count-append rules read in
    omega (arith, both, was, now)

-- one statement more exceeds what is left, so the whole text exceeds the limit
pub too_many : (edition : Edition) (text : List ℕ) (rules read more : List StyleRule)
    (left most : ℕ) → left + declaration_count rules ≡ most → left < declaration_count read
    → rules ++ (read ++ more) ≡ rules_from edition text → most < kept_declarations edition text
too_many edition text rules read more left most was exceeds whole =
    let one = count-append rules (read ++ more) in
    let two = count-append read more in
    let all = kept_declarations-of edition text ∙ ap declaration_count (sym whole) in
    omega (arith, one, two, all, was, exceeds)

-- unless memory is refused, a text is refused exactly if it exceeds the limit
pub refused-exactly : {X : Type 0} (r : Result X SheetError) (count most : ℕ)
    → OnOk r (count ≤ most) → IfErr r (λ error. error ≡ TooManyDeclarations → most < count)
    → r ≢ Err Memory → (r ≡ Err TooManyDeclarations) ↔ (most < count)
refused-exactly (Ok x) count most within exceeds other =
    ((λ e. absurd (cc)), (λ less. absurd (omega (arith, within, less))))
refused-exactly (Err TooManyDeclarations) count most within exceeds other =
    ((λ e. exceeds refl), (λ less. refl))
refused-exactly (Err Memory) count most within exceeds other = absurd (other refl)
