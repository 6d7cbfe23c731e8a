-- The parts of a rule set's head, and the statements of a text, one at a time.
-- Serves `StyleSheet::{parse, parse_more}` and `StatementReader::read_next` (a text statement by
-- statement).
use Rattle.std.proofs.Common.{◌≡◌, ◌==◌, ◌||◌, not, ℕ, ◌<◌, List, [], ◌∷◌, ◌++◌, Bool, true, false, if◌then◌else◌, length, Option, Some, None, option_to_list, refl, sym, ap, ◌∙◌, arith, inl, inr, subst, MatchBool, IsTrue, ◌↔◌}
use Rattle.std.proofs.lemmas.Bool.Decides.{nat_tests}
use Rattle.std.specs.List.{filter_map, flat_map}
use Rattle.css_text.specs.AsciiBytes.{comma}
use Rattle.css_text.specs.Reading.{Fault, no_comment, got, fails, each}
use Rattle.css_text.specs.Bytes.{past_byte, past_one, starts}
use Rattle.css_text.specs.Characters.{Edition}
use Rattle.css_text.specs.Comments.{opens_comment, past_blank, blank}
use Rattle.simplecss_grammar.specs.Components.{Component}
use Rattle.simplecss_grammar.specs.Statements.{StyleRule, part, part_and_comma, parts, statement, ends_statements, next_statement, statements}
use Rattle.simplecss_grammar.specs.Skipped.{Skip, add_each, statement_skips, skipped}
use Rattle.css_text.proofs.reading.EachLemmas.{took, option_cases, each-none, each-some}
use Rattle.simplecss_grammar.proofs.reading.SkipLemmas.{add_each-append, skipped-some}
use Rattle.css_text.proofs.bytes.ByteLemmas.{past_byte_there}
use Rattle.css_text.proofs.bytes.GapLemmas.{past_blank-again}
use Rattle.simplecss_grammar.proofs.reading.StatementTextLemmas.{part_and_comma-takes, next_statement-takes}

-- ---- parts

abbrev with_comma : Option (List Component) × List ℕ → Option (Option (List Component) × List ℕ)
with_comma p = if starts comma p.1 then Some (p.0, past_one p.1) else None

part_and_comma-some : (edition : Edition) (here rest : List ℕ) (o : Option (List Component))
    → part edition here ≡ (o, rest) → starts comma rest ≡ true
    → part_and_comma edition here ≡ Some (o, past_one rest)
part_and_comma-some edition here rest o p e = ap with_comma p ∙ rw e refl

first-some : (o : Option (List Component)) (more : List (Option (List Component)))
    → filter_map (λ s. s) (o ∷ more) ≡ option_to_list o ++ filter_map (λ s. s) more
first-some None more = refl
first-some (Some s) more = refl

only-some : (o : Option (List Component)) → filter_map (λ s. s) (o ∷ []) ≡ option_to_list o
only-some None = refl
only-some (Some s) = refl

abbrev finished : Edition → List (Option (List Component)) × List ℕ → List (List Component) × List ℕ
finished edition listed = (
  filter_map (λ selector. selector) (listed.0 ++ (part edition listed.1).0 ∷ []),
  (part edition listed.1).1,
)

-- a part with a comma after it
pub parts-some : (edition : Edition) (here rest : List ℕ) (o : Option (List Component))
    → part edition here ≡ (o, rest) → starts comma rest ≡ true
    → parts edition here
    ≡ (option_to_list o ++ (parts edition (past_one rest)).0, (parts edition (past_one rest)).1)
unfolding parts
parts-some edition here rest o p e =
    let more = each (part_and_comma edition) (past_one rest) in
    ap (finished edition) (each-some (part_and_comma edition) (part_and_comma-takes edition) here
    (past_one rest) o (part_and_comma-some edition here rest o p e))
    ∙ ap (λ (l : List (List Component)). (l, (part edition more.1).1))
    (first-some o (more.0 ++ (part edition more.1).0 ∷ []))

-- the last part
pub parts-last : (edition : Edition) (here rest : List ℕ) (o : Option (List Component))
    → part edition here ≡ (o, rest) → starts comma rest ≡ false
    → parts edition here ≡ (option_to_list o, rest)
unfolding parts
parts-last edition here rest o p e =
    let none : part_and_comma edition here ≡ None = ap with_comma p ∙ rw e refl in
    ap (finished edition) (each-none (part_and_comma edition) here none)
    ∙ ap (λ (q : Option (List Component) × List ℕ). (filter_map (λ s. s) (q.0 ∷ []), q.1)) p
    ∙ ap (λ (l : List (List Component)). (l, rest)) (only-some o)

pub parts-less : (edition : Edition) (here rest : List ℕ) (o : Option (List Component))
    → part edition here ≡ (o, rest) → starts comma rest ≡ true
    → length (past_one rest) < length here
parts-less edition here rest o p e = took (part_and_comma edition) (part_and_comma-takes edition)
    here (past_one rest) o (part_and_comma-some edition here rest o p e)

pub pair-of : {A B : Type 0} {a : A} {b : B} {r : A × B} → a ≡ r.0 → b ≡ r.1 → r ≡ (a, b)
pair-of e f = rw (e, f) refl

pub part-less : (edition : Edition) (here rest after : List ℕ) → rest ≡ (part edition here).1
    → starts comma rest ≡ true → after ≡ past_byte comma rest → length after < length here
part-less edition here rest after is e past = rw (past, past_byte_there comma rest e)
    (parts-less edition here rest (part edition here).0 (pair-of {r = part edition here} refl is) e)

-- ---- statements

-- the rules of all statements from here on
abbrev pub rules_from : Edition → List ℕ → List StyleRule
rules_from edition text = flat_map (λ rules. rules) (statements edition text)

pub rules_from-some : (edition : Edition) (text start : List ℕ)
    → next_statement edition text ≡ Some (statement edition start)
    → rules_from edition text
    ≡ (statement edition start).0 ++ rules_from edition (statement edition start).1
unfolding statements
rules_from-some edition text start e =
    ap (λ r. flat_map (λ rules. rules) r.0) (each-some (next_statement edition)
    (next_statement-takes edition) text (statement edition start).1 (statement edition start).0 e)

pub rules_from-none : (edition : Edition) (text : List ℕ) → next_statement edition text ≡ None
    → rules_from edition text ≡ []
unfolding statements
rules_from-none edition text e =
    ap (λ r. flat_map (λ rules. rules) r.0) (each-none (next_statement edition) text e)

pub statement-less : (edition : Edition) (text start next : List ℕ)
    → next_statement edition text ≡ Some (statement edition start)
    → next ≡ (statement edition start).1 → length next < length text
statement-less edition text start next e is = rw is (took (next_statement edition)
    (next_statement-takes edition) text (statement edition start).1 (statement edition start).0 e)

-- what is told of a statement and of those after it is told of all from its text on
pub told-some : {S : Type 0} (tell : S → Skip → S) (edition : Edition) (before after : S)
    (text start next : List ℕ) → next_statement edition text ≡ Some (statement edition start)
    → start ≡ past_blank text → next ≡ (statement edition start).1
    → after ≡ add_each tell before (statement_skips edition start)
    → add_each tell after (skipped edition next) ≡ add_each tell before (skipped edition text)
told-some tell edition before after text start next e s is told =
    ap (λ t. add_each tell t (skipped edition next)) told
    ∙ sym (add_each-append tell before (statement_skips edition start) (skipped edition next))
    ∙ ap (λ (t : List ℕ). add_each tell before (statement_skips edition start ++ skipped edition t)) is
    ∙ ap (add_each tell before) (sym (skipped-some edition text start e s))

-- a blank before statements makes no difference
pub rules_from-blank : (edition : Edition) (text : List ℕ)
    → rules_from edition (past_blank text) ≡ rules_from edition text
unfolding statements
rules_from-blank edition text =
    let same : next_statement edition (past_blank text) ≡ next_statement edition text =
    ap (λ (t : List ℕ). if ends_statements t then None else Some (statement edition t))
    (past_blank-again text) in
    elim (option_cases (next_statement edition text)) [
      | inl none ↦ rules_from-none edition (past_blank text) (same ∙ none)
          ∙ sym (rules_from-none edition text none)
      | inr found ↦
          ap (λ r. flat_map (λ rules. rules) r.0) (each-some (next_statement edition)
          (next_statement-takes edition) (past_blank text) found.0.1 found.0.0 (same ∙ found.1))
          ∙ sym (ap (λ r. flat_map (λ rules. rules) r.0) (each-some (next_statement edition)
          (next_statement-takes edition) text found.0.1 found.0.0 found.1))
    ]

-- ---- blanks before statements

pub blank-got : (text rest : List ℕ) → blank text ≡ got tt rest
    → (opens_comment (past_blank text) ≡ false) × (past_blank text ≡ rest)
unfolding blank
blank-got text rest = by (opens_comment (past_blank text)) refl
  where
    by : (t : Bool) → opens_comment (past_blank text) ≡ t
        → (if t then fails (no_comment (past_blank text)) [] else got (tt {0}) (past_blank text))
        ≡ got tt rest → (opens_comment (past_blank text) ≡ false) × (past_blank text ≡ rest)
    by true o e = absurd (cc)
    by false o e = (o, cc)

pub blank-open : (text rest : List ℕ) (fault : Fault) → blank text ≡ fails fault rest
    → opens_comment (past_blank text) ≡ true
unfolding blank
blank-open text rest fault = by (opens_comment (past_blank text)) refl
  where
    by : (t : Bool) → opens_comment (past_blank text) ≡ t
        → (if t then fails (no_comment (past_blank text)) [] else got (tt {0}) (past_blank text))
        ≡ fails fault rest → opens_comment (past_blank text) ≡ true
    by true o e = o
    by false o e = absurd (cc)

-- after an open comment there is no statement
pub next_statement-open : (edition : Edition) (text rest : List ℕ) (fault : Fault)
    → blank text ≡ fails fault rest → next_statement edition text ≡ None
next_statement-open edition text rest fault e =
    rw (blank-open text rest fault e) (by (length (past_blank text) == 0))
  where
    by : (t : Bool)
        → (if t || true then None else Some (statement edition (past_blank text))) ≡ None
    by true = refl
    by false = refl

-- after a blank there is a statement, unless the text ends there
pub next_statement-after : (edition : Edition) (text rest : List ℕ) (ended : Bool)
    → blank text ≡ got tt rest → IsTrue ended ↔ (rest ≡ [])
    → MatchBool (not ended) (next_statement edition text ≡ Some (statement edition rest))
    (next_statement edition text ≡ None)
next_statement-after edition text rest ended e h =
    let read = blank-got text rest e in
    let closed : opens_comment rest ≡ false =
    subst (λ (t : List ℕ). opens_comment t ≡ false) read.1 read.0 in
    by rest ended read.1 closed h
  where
    by : (rest : List ℕ) (ended : Bool) → past_blank text ≡ rest → opens_comment rest ≡ false
        → IsTrue ended ↔ (rest ≡ [])
        → MatchBool (not ended) (next_statement edition text ≡ Some (statement edition rest))
        (next_statement edition text ≡ None)
    by [] true is closed h = rw is refl
    by [] false is closed h = let same : false ≡ true = h.1 refl in absurd (cc)
    by (b ∷ rest) true is closed h = let none : b ∷ rest ≡ [] = h.0 refl in absurd (cc)
    by (b ∷ rest) false is closed h =
        let more : (length (b ∷ rest) == 0) ≡ false = grind (arith, nat_tests) in
        rw (is, closed, more) refl
