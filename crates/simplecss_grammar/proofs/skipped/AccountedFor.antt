-- Every byte of a text is accounted for.
-- Serves `laws::nothing_is_lost`.
use Rattle.std.proofs.Common.{◌≡◌, ◌≤◌, ◌<◌, ◌⊎◌, ℕ, zero, suc, Bool, true, false, if◌then◌else◌, List, [], ◌∷◌, ap, arith, length, refl, sym, Option, Some, None, inl, inr}
use Rattle.css_text.specs.AsciiBytes.{at_sign, comma}
use Rattle.css_text.specs.Bytes.{past_byte, past_one, starts}
use Rattle.css_text.specs.Characters.{Edition}
use Rattle.css_text.specs.Comments.{opens_comment, past_blank}
use Rattle.simplecss_grammar.specs.Components.{Component}
use Rattle.simplecss_grammar.specs.Declarations.{StyleDeclaration}
use Rattle.simplecss_grammar.specs.Statements.{StyleRule, at_rule_rest, ends_statements, next_block, next_statement, parts, rule_set, statement, statements}
use Rattle.simplecss_grammar.specs.Skipped.{open_comment, at_rule_skip, end_skips, skipped, statement_skips}
use Rattle.simplecss_grammar.specs.NothingLost.{IsCutUp, IsExplained, LosesNothing, cut_ends, rules_from, statement_then, statements_end}
use Rattle.css_text.proofs.reading.EachLemmas.{each-none, each-some, not_empty, took}
use Rattle.css_text.proofs.reading.EndsLemmas.{ends-ends, ends-nil, ends-past_one}
use Rattle.simplecss_grammar.proofs.reading.SkipLemmas.{skipped-none}
use Rattle.simplecss_grammar.proofs.reading.StatementTextLemmas.{next_statement-takes}
use Rattle.simplecss_grammar.proofs.cutting.SkipEnds.{ends-at_rule_rest}
use Rattle.simplecss_grammar.proofs.skipped.CutUps.{past_blank_to, skip_to}
use Rattle.simplecss_grammar.proofs.skipped.CutUpRuleSets.{rule_set-cut, rule_set-explained}
use Rattle.simplecss_grammar.proofs.skipped.SkipsAcross.{skipped-next}

-- a statement is cut into pieces, and has the rules that they make
record StatementCut (edition : Edition) (text : List ℕ) : Type 0 where
  selectors : List (List Component)
  declared : List StyleDeclaration
  cut : IsCutUp edition (statement edition text).1 text selectors declared
      (statement_skips edition text)
  rules : (statement edition text).0 ≡ rules_from selectors declared
  explained : IsExplained selectors (statement_skips edition text)

statement-cut : (edition : Edition) (text : List ℕ) → StatementCut edition text
unfolding statement statement_skips rule_set
statement-cut edition text = by (starts at_sign text) refl
  where
    after : List ℕ
    after = at_rule_rest edition (past_one text)

    by : (k : Bool) → starts at_sign text ≡ k → StatementCut edition text
    by true e = record {
      selectors = [];
      declared = [];
      cut = rw e (skip_to edition after text after (at_rule_skip edition text).why [] [] []
          (ends-ends text (past_one text) after (ends-past_one text)
          (ends-at_rule_rest edition (past_one text))) cut_ends);
      rules = rw e refl;
      explained = rw e tt;
    }
    by false e = record {
      selectors = (parts edition (past_byte comma text)).0;
      declared = (next_block edition (parts edition (past_byte comma text)).1).0;
      cut = rw e (rule_set-cut edition text);
      rules = rw e refl;
      explained = rw e (rule_set-explained edition text);
    }

-- after the last statement there is a blank, and maybe an open comment
end-cut : (edition : Edition) (text : List ℕ) → ends_statements (past_blank text) ≡ true
    → IsCutUp edition [] text [] [] (end_skips text)
end-cut edition text e =
    past_blank_to edition [] text [] [] (end_skips text)
    (by (past_blank text) (opens_comment (past_blank text)) refl e)
  where
    by : (start : List ℕ) (k : Bool) → opens_comment start ≡ k → ends_statements start ≡ true
        → IsCutUp edition [] start [] []
        (if k then record { from = start; after = []; why = open_comment } ∷ [] else [])
    by start true f ends =
        skip_to edition [] start [] open_comment [] [] [] (ends-nil start) cut_ends
    by [] false f ends = cut_ends
    by (b ∷ start) false f ends = absurd (cc (rw (not_empty b start, f) at ends))

statements-next : (edition : Edition) (text rest : List ℕ) (rules : List StyleRule)
    → next_statement edition text ≡ Some (rules, rest)
    → statements edition text ≡ rules ∷ statements edition rest
unfolding statements
statements-next edition text rest rules e =
    ap (λ (r : List (List StyleRule) × List ℕ). r.0)
    (each-some (next_statement edition) (next_statement-takes edition) text rest rules e)

statements-none : (edition : Edition) (text : List ℕ) → next_statement edition text ≡ None
    → statements edition text ≡ []
unfolding statements
statements-none edition text e =
    ap (λ (r : List (List StyleRule) × List ℕ). r.0) (each-none (next_statement edition) text e)

-- what the next statement is
next-is : (edition : Edition) (text : List ℕ) (o : Option (List StyleRule × List ℕ))
    → next_statement edition text ≡ o
    → ((ends_statements (past_blank text) ≡ true) × (o ≡ None))
    ⊎ (o ≡ Some (statement edition (past_blank text)))
next-is edition text o e = by (ends_statements (past_blank text)) e
  where
    by : (k : Bool) → (if k then None else Some (statement edition (past_blank text))) ≡ o
        → ((k ≡ true) × (o ≡ None)) ⊎ (o ≡ Some (statement edition (past_blank text)))
    by true h = inl (refl, sym h)
    by false h = inr (sym h)

account-step : (edition : Edition) (text : List ℕ)
    → ((rest : List ℕ) → length rest < length text → LosesNothing edition rest)
    → LosesNothing edition text
account-step edition text more = by (next-is edition text (next_statement edition text) refl)
  where
    by : ((ends_statements (past_blank text) ≡ true) × (next_statement edition text ≡ None))
        ⊎ (next_statement edition text ≡ Some (statement edition (past_blank text)))
        → LosesNothing edition text
    by (inl h) =
        rw (statements-none edition text h.1, skipped-none edition text h.1)
        (statements_end text (end_skips text) (end-cut edition text h.0))
    by (inr e) =
        let start : List ℕ = past_blank text in
        let rest : List ℕ = (statement edition start).1 in
        let rules : List StyleRule = (statement edition start).0 in
        let pieces = statement-cut edition start in
        let less = took (next_statement edition) (next_statement-takes edition) text rest rules e in
        let cut = past_blank_to edition rest text pieces.selectors pieces.declared
        (statement_skips edition start) pieces.cut in
        rw (
          statements-next edition text rest rules e,
          skipped-next edition text rest rules e,
          pieces.rules,
        )
        (statement_then text rest pieces.selectors pieces.declared (statement_skips edition start)
        (skipped edition rest) (statements edition rest) cut pieces.explained (more rest less))

account : (edition : Edition) (n : ℕ) (text : List ℕ) → length text ≤ n → LosesNothing edition text
account edition zero text l =
    account-step edition text (λ rest less. absurd (omega (arith, l, less)))
account edition (suc n) text l =
    account-step edition text (λ rest less. account edition n rest (omega (arith, l, less)))

pub loses_nothing : (edition : Edition) (text : List ℕ) → LosesNothing edition text
loses_nothing edition text = account edition (length text) text (omega arith)
