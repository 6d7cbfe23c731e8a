-- A sheet that was read, printed and read again.
-- Serves `prints_back` of `StyleSheet::{parse, parse_more, read}` (a sheet printed and read
-- again).
use Rattle.std.proofs.Common.{subst, ◌≡◌, ℕ, List, [], ◌∷◌, ◌++◌, Bool, true, false, if◌then◌else◌, ◌==◌, length, map, filter, refl, sym, ap, ◌∙◌, append-nil, Option, Some, None}
use Rattle.std.proofs.lemmas.Bool.{and_parts}
use Rattle.std.specs.List.{flat_map, AllByRecursion, All}
use Rattle.std.proofs.lemmas.List.Elements.{All-push, All-from_recursion, recursion_from_All}
use Rattle.css_text.specs.AsciiBytes.{newline}
use Rattle.css_text.specs.Reading.{each, followed_by}
use Rattle.css_text.specs.Characters.{Edition}
use Rattle.simplecss_grammar.specs.Declarations.{StyleDeclaration}
use Rattle.simplecss_grammar.specs.Statements.{StyleRule, statement, ends_statements, next_statement, statements, has_declaration, kept}
use Rattle.simplecss_grammar.specs.Sheets.{is_smaller, ordered, sheet}
use Rattle.simplecss_grammar.specs.Printing.{rule_text, sheet_text, is_clean}
use Rattle.simplecss_grammar.specs.PrintingLaws.{IsNarrow, DeclarationReadsBack, RuleReadsBack, are_clean, PrintsBack, PrintsBackAfter}
use Rattle.css_text.proofs.reading.EachLemmas.{each-none, each-some, not_empty}
use Rattle.simplecss_grammar.proofs.reading.StatementTextLemmas.{next_statement-takes}
use Rattle.simplecss_grammar.proofs.round_trip.BlankTails.{past_blank-space}
use Rattle.simplecss_grammar.proofs.round_trip.DeclarationsAgain.{printed_declaration-reads_back, IsDeclaration, narrow-end, declaration-is}
use Rattle.simplecss_grammar.proofs.round_trip.KeptRules.{Known, IsKept, sheet-are}
use Rattle.simplecss_grammar.proofs.round_trip.RulesAgain.{BeginsPart, part_calm, calm-blank, rule-reads_back, rule-begins}
use Rattle.css_text.proofs.order.RankLemmas.{ordered_twice}
use Rattle.simplecss_grammar.proofs.order.OrderLemmas.{smaller_order}

-- rules that read back
abbrev pub Printable : Edition → StyleRule → Type 0
Printable edition rule =
    IsKept edition (IsDeclaration edition) rule × (is_clean rule.components ≡ true)

-- statements

-- a statement, or none where the statements end
abbrev goes_on : Edition → Bool → List ℕ → Option (List StyleRule × List ℕ)
goes_on edition t text = if t then None else Some (statement edition text)

abbrev alone : StyleRule → List StyleRule
alone rule = rule ∷ []

each-alone : (rules : List StyleRule) → flat_map (λ rules. rules) (map alone rules) ≡ rules
each-alone [] = refl
each-alone (rule ∷ rules) = ap (λ l. rule ∷ l) (each-alone rules)

abbrev kept_of : List (List StyleRule) → List StyleRule
kept_of listed = filter has_declaration (flat_map (λ rules. rules) listed)

module _ (edition : Edition) where
  -- texts without white space past ASCII, and the declarations that are read from them
  pub narrow-known : Known edition IsNarrow (IsDeclaration edition)
  narrow-known =
      record { is_text = λ text n. n.0; of_end = narrow-end; declares = declaration-is edition }

  pub all-printable : (rules : List StyleRule)
      → AllByRecursion (IsKept edition (IsDeclaration edition)) rules → are_clean rules ≡ true
      → AllByRecursion (Printable edition) rules
  all-printable [] h clean = tt
  all-printable (rule ∷ rules) h clean =
      let parts = and_parts (is_clean rule.components) (are_clean rules) clean in
      ((h.0, parts.0), all-printable rules h.1 parts.1)

  statement-there : (text : List ℕ) → BeginsPart edition text
      → next_statement edition text ≡ Some (statement edition text)
  statement-there text w =
      let calm = part_calm edition text w in
      let some : (length text == 0) ≡ false =
      ap (λ t. length t == 0) w.is ∙ not_empty w.first w.others in
      let closed = calm.closed in
      let goes : ends_statements text ≡ false = rw (some, closed) refl in
      ap (λ t. goes_on edition (ends_statements t) t) (calm-blank text calm)
      ∙ ap (λ t. goes_on edition t text) goes

  -- a printed rule, with a text after it
  pub rule-there : (rule : StyleRule) (text : List ℕ) → Printable edition rule
      → next_statement edition (rule_text rule ++ text) ≡ Some (rule ∷ [], text)
  rule-there rule text w =
      statement-there (rule_text rule ++ text) (rule-begins edition rule text w.0.0.selector)
      ∙ ap (λ (r : List StyleRule × List ℕ). Some r) (rule-reads_back edition rule w.0 w.1 text)

  pub newline-there : (text : List ℕ)
      → next_statement edition (newline ∷ text) ≡ next_statement edition text
  newline-there text =
      ap (λ t. goes_on edition (ends_statements t) t) (past_blank-space newline text refl)

  pub nothing_left : next_statement edition [] ≡ None
  unfolding each
  nothing_left = refl

  -- the statements of printed rules, also after a newline
  statements-again : (rule : StyleRule) (rules : List StyleRule) (start : List ℕ)
      → AllByRecursion (Printable edition) (rule ∷ rules)
      → next_statement edition start ≡ next_statement edition (sheet_text (rule ∷ rules))
      → each (next_statement edition) start ≡ (map alone (rule ∷ rules), [])
  statements-again rule [] start w e =
      let there : next_statement edition start ≡ Some (rule ∷ [], []) =
      e ∙ ap (next_statement edition) (sym (append-nil (rule_text rule)))
      ∙ rule-there rule [] w.0 in
      each-some (next_statement edition) (next_statement-takes edition) start [] (rule ∷ []) there
      ∙ ap (followed_by (rule ∷ [])) (each-none (next_statement edition) [] nothing_left)
  statements-again rule (next ∷ rules) start w e =
      let following = newline ∷ sheet_text (next ∷ rules) in
      let there : next_statement edition start ≡ Some (rule ∷ [], following) =
      e ∙ rule-there rule following w.0 in
      each-some (next_statement edition) (next_statement-takes edition) start following
      (rule ∷ []) there
      ∙ ap (followed_by (rule ∷ [])) (statements-again next rules following w.1
      (newline-there (sheet_text (next ∷ rules))))

  all-have : (rules : List StyleRule) → AllByRecursion (Printable edition) rules
      → filter has_declaration rules ≡ rules
  all-have [] w = refl
  all-have (rule ∷ rules) w =
      let there = w.0.0.1 in let more = all-have rules w.1 in rw (there, more) refl

  -- The kept rules of a printed sheet are its rules.
  kept-again : (rules : List StyleRule) → AllByRecursion (Printable edition) rules
      → kept edition (sheet_text rules) ≡ rules
  unfolding statements
  kept-again [] w =
      ap (λ (r : List (List StyleRule) × List ℕ). kept_of r.0)
      (each-none (next_statement edition) [] nothing_left)
  kept-again (rule ∷ rules) w =
      ap (λ (r : List (List StyleRule) × List ℕ). kept_of r.0)
      (statements-again rule rules (sheet_text (rule ∷ rules)) w refl)
      ∙ ap (filter has_declaration) (each-alone (rule ∷ rules)) ∙ all-have (rule ∷ rules) w

  -- The printed sheet of rules that read back yields the rules, in their order.
  ordered-again : (rules : List StyleRule) → AllByRecursion (Printable edition) rules
      → sheet edition (sheet_text rules ∷ []) ≡ ordered rules
  ordered-again rules w =
      ap ordered (append-nil (kept edition (sheet_text rules)) ∙ kept-again rules w)

  declarations-back : (ps : List StyleDeclaration) → AllByRecursion (IsDeclaration edition) ps
      → AllByRecursion (DeclarationReadsBack edition) ps
  declarations-back [] w = tt
  declarations-back (p ∷ ps) w =
      (printed_declaration-reads_back edition p w.0, declarations-back ps w.1)

  each-declaration : (rules : List StyleRule)
      → AllByRecursion (IsKept edition (IsDeclaration edition)) rules
      → AllByRecursion (λ rule. All (DeclarationReadsBack edition) rule.declarations) rules
  each-declaration [] w = tt
  each-declaration (rule ∷ rules) w = (
    All-from_recursion (DeclarationReadsBack edition) rule.declarations
        (declarations-back rule.declarations w.0.0.declarations),
    each-declaration
        rules w.1,
  )

  each-rule : (rules : List StyleRule) → AllByRecursion (IsKept edition (IsDeclaration edition))
      rules → AllByRecursion (λ rule. is_clean rule.components ≡ true → RuleReadsBack edition rule)
      rules
  each-rule [] w = tt
  each-rule (rule ∷ rules) w = (rule-reads_back edition rule w.0, each-rule rules w.1)

  -- A sheet that was read from texts without white space past ASCII prints back.
  pub sheet-prints_back : (texts : List (List ℕ)) → All IsNarrow texts
      → PrintsBack edition (sheet edition texts)
  sheet-prints_back texts narrow =
      let rules = sheet edition texts in
      let are =
      sheet-are edition IsNarrow (IsDeclaration edition) narrow-known texts
      (recursion_from_All IsNarrow texts narrow) in
      record {
        declarations =
            All-from_recursion (λ rule. All (DeclarationReadsBack edition) rule.declarations) rules
            (each-declaration rules are);
        each_rule =
            All-from_recursion (λ rule. is_clean rule.components ≡ true
            → RuleReadsBack edition rule)
            rules (each-rule rules are);
        whole =
            λ clean. ordered-again rules (all-printable rules are clean)
            ∙ ordered_twice is_smaller smaller_order (flat_map (kept edition) texts);
      }

  -- So does one into which one more text was read.
  pub prints_back-after : (old : List StyleRule) (text : List ℕ) (new : List StyleRule)
      → ((texts : List (List ℕ)) → old ≡ sheet edition texts
      → new ≡ sheet edition (texts ++ text ∷ [])) → PrintsBackAfter edition old text new
  prints_back-after old text new read texts narrow also is =
      subst (PrintsBack edition) (sym (read texts is))
      (sheet-prints_back (texts ++ text ∷ []) (All-push IsNarrow texts text narrow also))

  -- So does one that is unchanged.
  pub prints_back-same : (old : List StyleRule) (text : List ℕ)
      → PrintsBackAfter edition old text old
  prints_back-same old text texts narrow also is =
      subst (PrintsBack edition) (sym is) (sheet-prints_back texts narrow)
