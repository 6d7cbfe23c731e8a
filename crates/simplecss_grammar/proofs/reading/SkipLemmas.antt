-- What is skipped, step by step, and the state of a reporter after it.
-- Serves `consume_parts`, `consume_statement` and `read_rules` (what they report).
use Rattle.std.proofs.Common.{◌≡◌, ℕ, List, [], ◌∷◌, ◌++◌, true, false, if◌then◌else◌, Option, Some, None, refl, sym, ap, ◌∙◌, append_assoc, append-nil, inl, inr}
use Rattle.std.specs.Prelude.{Result, Ok, Err}
use Rattle.std.specs.Result.{OnOk}
use Rattle.std.specs.Option.{option_map}
use Rattle.std.specs.List.{flat_map}
use Rattle.css_text.specs.AsciiBytes.{at_sign, comma}
use Rattle.css_text.specs.Reading.{each}
use Rattle.css_text.specs.Bytes.{past_one, past_byte, starts}
use Rattle.css_text.specs.Names.{name}
use Rattle.css_text.specs.Characters.{Edition}
use Rattle.simplecss_grammar.specs.Components.{Component}
use Rattle.css_text.specs.Comments.{past_blank, opens_comment}
use Rattle.simplecss_grammar.specs.Statements.{StyleRule, part, part_and_comma, parts, at_rule_rest, statement, ends_statements, next_statement}
use Rattle.simplecss_grammar.specs.Skipped.{Skip, open_comment, at_rule, name_of, selector_skips, skips_after_read, comma_skips, next_block_skips, rule_set_skips, skips_with, skips_of_each, part_skips, parts_skips, statement_skips, end_skips, skipped, add_each}
use Rattle.css_text.proofs.bytes.GapLemmas.{past_blank-again}
use Rattle.css_text.proofs.reading.EachLemmas.{Shrinks, Takes, each-none, each-some, option_cases}
use Rattle.simplecss_grammar.proofs.reading.StatementTextLemmas.{part_and_comma-takes, next_statement-takes}

-- ---- reporting

pub add_each-append : {S : Type 0} (tell : S → Skip → S) (s : S) (xs ys : List Skip)
    → add_each tell s (xs ++ ys) ≡ add_each tell (add_each tell s xs) ys
add_each-append tell s [] ys = refl
add_each-append tell s (x ∷ xs) ys = add_each-append tell (tell s x) xs ys

-- first these, then those
pub add-both : {S : Type 0} (add : S → Skip → S) (xs ys : List Skip) (s0 s1 s2 : S)
    → s1 ≡ add_each add s0 xs → s2 ≡ add_each add s1 ys → s2 ≡ add_each add s0 (xs ++ ys)
add-both {S = S} add xs ys s0 s1 s2 a b =
    b ∙ ap (λ (s : S). add_each add s ys) a ∙ sym (add_each-append add s0 xs ys)

-- the same where the second reports may have failed
pub add-both_ok : {S X E : Type 0} (add : S → Skip → S) (xs ys : List Skip) (s0 s1 s2 : S)
    (r : Result X E) → s1 ≡ add_each add s0 xs → OnOk r (s2 ≡ add_each add s1 ys)
    → OnOk r (s2 ≡ add_each add s0 (xs ++ ys))
add-both_ok add xs ys s0 s1 s2 (Ok x) a b = add-both add xs ys s0 s1 s2 a b
add-both_ok add xs ys s0 s1 s2 (Err e) a b = tt

-- a reporter that keeps all
pub add_each-kept : (before skips : List Skip)
    → add_each (λ l x. l ++ x ∷ []) before skips ≡ before ++ skips
add_each-kept before [] = sym (append-nil before)
add_each-kept before (x ∷ xs) =
    add_each-kept (before ++ x ∷ []) xs ∙ append_assoc before (x ∷ []) xs

-- ---- one thing after another

skips_with-takes : {A B : Type 0} (tell : List ℕ → B) (read : List ℕ → Option (A × List ℕ))
    → Takes read → Takes (skips_with tell read)
skips_with-takes {A = A} {B = B} tell read takes text = by (read text) (takes text)
  where
    by : (o : Option (A × List ℕ)) → Shrinks text o
        → Shrinks text (option_map (λ (x : A × List ℕ). (tell text, x.1)) o)
    by None h = tt
    by (Some x) h = h

pub skips_of_each-some : {A : Type 0} (tell last : List ℕ → List Skip)
    (read : List ℕ → Option (A × List ℕ)) → Takes read → (text rest : List ℕ) (x : A)
    → read text ≡ Some (x, rest)
    → skips_of_each tell last read text ≡ tell text ++ skips_of_each tell last read rest
unfolding skips_of_each
skips_of_each-some {A = A} tell last read takes text rest x e =
    let found : skips_with tell read text ≡ Some (tell text, rest) =
    ap (option_map (λ (y : A × List ℕ). (tell text, y.1))) e in
    let more = each (skips_with tell read) rest in
    ap (λ (found : List (List Skip) × List ℕ). flat_map (λ skips. skips) found.0 ++ last found.1)
    (each-some (skips_with tell read) (skips_with-takes tell read takes) text rest (tell text)
    found)
    ∙ append_assoc (tell text) (flat_map (λ skips. skips) more.0) (last more.1)

pub skips_of_each-none : {A : Type 0} (tell last : List ℕ → List Skip)
    (read : List ℕ → Option (A × List ℕ)) (text : List ℕ) → read text ≡ None
    → skips_of_each tell last read text ≡ last text
unfolding skips_of_each
skips_of_each-none {A = A} tell last read text e =
    let found : skips_with tell read text ≡ None =
    ap (option_map (λ (y : A × List ℕ). (tell text, y.1))) e in
    ap (λ (found : List (List Skip) × List ℕ). flat_map (λ skips. skips) found.0 ++ last found.1)
    (each-none (skips_with tell read) text found)

-- ---- parts

abbrev with_comma : Option (List Component) × List ℕ → Option (Option (List Component) × List ℕ)
with_comma p = if starts comma p.1 then Some (p.0, past_one p.1) else None

-- a part with a comma after it
pub parts_skips-some : (edition : Edition) (here rest : List ℕ) → (part edition here).1 ≡ rest
    → starts comma rest ≡ true → parts_skips edition here ≡ part_skips edition here ++ parts_skips
    edition (past_one rest)
unfolding parts_skips
parts_skips-some edition here rest p e =
    let read : part_and_comma edition here ≡ Some ((part edition here).0, past_one rest) =
    rw (p, e) refl in
    skips_of_each-some (part_skips edition) (part_skips edition) (part_and_comma edition)
    (part_and_comma-takes edition) here (past_one rest) (part edition here).0 read

-- the last part
pub parts_skips-last : (edition : Edition) (here rest : List ℕ) → (part edition here).1 ≡ rest
    → starts comma rest ≡ false → parts_skips edition here ≡ part_skips edition here
unfolding parts_skips
parts_skips-last edition here rest p e =
    let read : part_and_comma edition here ≡ None = rw (p, e) refl in
    skips_of_each-none (part_skips edition) (part_skips edition) (part_and_comma edition) here read

-- ---- statements

pub skipped-some : (edition : Edition) (text start : List ℕ)
    → next_statement edition text ≡ Some (statement edition start) → start ≡ past_blank text
    → skipped edition text ≡ statement_skips edition start ++ skipped edition
    (statement edition start).1
unfolding skipped
skipped-some edition text start e s =
    skips_of_each-some (λ t. statement_skips edition (past_blank t)) end_skips
    (next_statement edition) (next_statement-takes edition) text (statement edition start).1
    (statement edition start).0 e
    ∙ ap (λ (t : List ℕ). statement_skips edition t ++ skips_of_each
    (λ t. statement_skips edition (past_blank t)) end_skips (next_statement edition)
    (statement edition start).1) (sym s)

pub skipped-none : (edition : Edition) (text : List ℕ) → next_statement edition text ≡ None
    → skipped edition text ≡ end_skips text
unfolding skipped
skipped-none edition text e =
    skips_of_each-none (λ t. statement_skips edition (past_blank t)) end_skips
    (next_statement edition) text e

-- a blank before statements makes no difference
skipped-blank_some : (edition : Edition) (text rest : List ℕ) (rules : List StyleRule)
    → next_statement edition text ≡ Some (rules, rest)
    → next_statement edition (past_blank text) ≡ Some (rules, rest)
    → skipped edition (past_blank text) ≡ skipped edition text
unfolding skipped
skipped-blank_some edition text rest rules e f =
    skips_of_each-some (λ t. statement_skips edition (past_blank t)) end_skips
    (next_statement edition) (next_statement-takes edition) (past_blank text) rest rules f
    ∙ ap (λ (t : List ℕ). statement_skips edition t ++ skips_of_each
    (λ t. statement_skips edition (past_blank t)) end_skips (next_statement edition) rest)
    (past_blank-again text)
    ∙ sym (skips_of_each-some (λ t. statement_skips edition (past_blank t)) end_skips
    (next_statement edition) (next_statement-takes edition) text rest rules e)

pub skipped-blank : (edition : Edition) (text : List ℕ)
    → skipped edition (past_blank text) ≡ skipped edition text
skipped-blank edition text =
    let same : next_statement edition (past_blank text) ≡ next_statement edition text =
    ap (λ (t : List ℕ). if ends_statements t then None else Some (statement edition t))
    (past_blank-again text) in
    elim (option_cases (next_statement edition text)) [
      | inl none ↦
          skipped-none edition (past_blank text) (same ∙ none)
          ∙ ap (λ (t : List ℕ). if opens_comment t then record
          { from = t; after = []; why = open_comment } ∷ [] else []) (past_blank-again text)
          ∙ sym (skipped-none edition text none)
      | inr found ↦ skipped-blank_some edition text found.0.1 found.0.0 found.1 (same ∙ found.1)
    ]

-- ---- what statements report

-- by a part: first its selector, then what follows that
pub add-part : {S : Type 0} (add : S → Skip → S) (edition : Edition) (text rest : List ℕ)
    (o : Option (List Component)) (s0 s1 s2 : S)
    → s1 ≡ add_each add s0 (selector_skips edition text) → o ≡ (part edition text).0
    → rest ≡ (part edition text).1 → s2 ≡ add_each add s1 (skips_after_read o rest)
    → s2 ≡ add_each add s0 (part_skips edition text)
unfolding part_skips
add-part {S = S} add edition text rest o s0 s1 s2 a p r b =
    add-both add (selector_skips edition text) (skips_after_read o rest) s0 s1 s2 a b
    ∙ ap (λ (x : Option (List Component)). add_each add s0
    (selector_skips edition text ++ skips_after_read x rest)) p
    ∙ ap (λ (t : List ℕ). add_each add s0
    (selector_skips edition text ++ skips_after_read (part edition text).0 t)) r

-- by a rule set: first a comma, then its parts, then its block
pub add-rule_set : {S : Type 0} (add : S → Skip → S) (edition : Edition) (text head left : List ℕ)
    (s0 s1 s2 s3 : S) → head ≡ past_byte comma text → left ≡ (parts edition head).1
    → s1 ≡ add_each add s0 (comma_skips text) → s2 ≡ add_each add s1 (parts_skips edition head)
    → s3 ≡ add_each add s2 (next_block_skips edition left)
    → s3 ≡ add_each add s0 (rule_set_skips edition text)
unfolding rule_set_skips
add-rule_set {S = S} add edition text head left s0 s1 s2 s3 h l a b c =
    add-both add (comma_skips text) (parts_skips edition head ++ next_block_skips edition left) s0
    s1 s3 a (add-both add (parts_skips edition head) (next_block_skips edition left) s1 s2 s3 b
    c)
    ∙ ap (λ (t : List ℕ). add_each add s0
    (comma_skips text ++ (parts_skips edition head ++ next_block_skips edition t))) l
    ∙ ap (λ (t : List ℕ). add_each add s0
    (comma_skips text ++
    (parts_skips edition t ++ next_block_skips edition (parts edition t).1))) h

-- what an at-rule skips
pub skips-at_rule : (edition : Edition) (text from begun rest : List ℕ) (n : Option (List ℕ))
    → starts at_sign text ≡ true → from ≡ text → begun ≡ past_one text
    → rest ≡ at_rule_rest edition begun → n ≡ name_of (name edition begun)
    → record { from = from; after = rest; why = at_rule n } ∷ [] ≡ statement_skips edition text
unfolding statement_skips
skips-at_rule edition text from begun rest n e f a b c = rw (e, c, b, a, f) refl

-- what another statement skips
pub skips-rule_set : (edition : Edition) (text : List ℕ) → starts at_sign text ≡ false
    → rule_set_skips edition text ≡ statement_skips edition text
unfolding statement_skips
skips-rule_set edition text e = rw e refl
