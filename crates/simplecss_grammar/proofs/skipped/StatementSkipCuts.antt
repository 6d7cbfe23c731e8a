-- A statement skips the same where the text is cut after it or later.
-- Serves `laws::skips_are_cut` (what is skipped of a text in pieces).
use Rattle.std.proofs.Common.{◌≡◌, ◌<◌, ◌⊎◌, ℕ, Bool, true, false, if◌then◌else◌, List, [], ◌∷◌, ◌++◌, ap, append_assoc, append-nil, arith, bytes_eq, codes, inl, inr, length, map, refl, subst, sym, ◌∙◌, IsUtf8, Some, None}
use Rattle.std.proofs.lemmas.Slice.Eq.{bytes_eq-Decides}
use Rattle.std.specs.Str.{chars}
use lib.Utf8.{encode}
use Rattle.css_text.specs.AsciiBytes.{at_sign as at_sign_byte, close_brace, hyphen, open_brace, semicolon}
use Rattle.css_text.specs.Reading.{Ends, Fault, Reading, got, fails, before}
use Rattle.css_text.specs.Bytes.{is_neither, past, past_one, starts}
use Rattle.css_text.specs.Characters.{Edition, first_edition, second_edition}
use Rattle.css_text.specs.Comments.{past_blank}
use Rattle.css_text.specs.Names.{begins_name, name, past_name_chars}
use Rattle.simplecss_grammar.specs.Blocks.{from_block_end}
use Rattle.simplecss_grammar.specs.Statements.{StyleRule, at_rule_rest, ends_statements, next_statement, statement, rule_set}
use Rattle.simplecss_grammar.specs.PrintingLaws.{is_hyphen_name}
use Rattle.simplecss_grammar.specs.Skipped.{Refusal, faulty, unknown_class, Why, leading_comma, refused_selector, after_selector, missing_block, broken_declaration, open_value, extra_brace, open_comment, at_rule, Skip, name_of, rule_set_skips, statement_skips}
use Rattle.simplecss_grammar.specs.SkippedLaws.{refusal_before, name_before, why_before, skip_before}
use Rattle.css_text.proofs.bytes.Utf8Lemmas.{utf8-after, utf8-first}
use Rattle.simplecss_grammar.proofs.reading.PrintedNames.{IsName}
use Rattle.simplecss_grammar.proofs.reading.ReadNames.{name-fails, name-is, name-none_begins}
use Rattle.simplecss_grammar.proofs.round_trip.ReadSelectors.{hyphen_no_name}
use Rattle.css_text.proofs.reading.EndsLemmas.{ends-ends, ends-same}
use Rattle.simplecss_grammar.proofs.reading.NameLocal.{name-same}
use Rattle.simplecss_grammar.proofs.reading.OccurrenceLemmas.{ends-past_blank}
use Rattle.css_text.proofs.reading.TakesLemmas.{length-past}
use Rattle.simplecss_grammar.proofs.reading.DeclarationLemmas.{length-from_block_end}
use Rattle.css_text.proofs.reading.WellLemmas.{well-past_blank}
use Rattle.simplecss_grammar.proofs.reading.LocalLemmas.{Diverge, Guard, Equal, quiet-brace, quiet-semicolon, ContinuesNothing, starts-diverge}
use Rattle.simplecss_grammar.proofs.reading.SearchLemmas.{brace_plain}
use Rattle.simplecss_grammar.proofs.cutting.BlockCuts.{Lost}
use Rattle.simplecss_grammar.proofs.cutting.AtRuleCuts.{diverge-at, no_name-front}
use Rattle.simplecss_grammar.proofs.cutting.StatementEnds.{AtRuleEnds, at_block, at_fault, at_semicolon, uses_up}
use Rattle.simplecss_grammar.proofs.cutting.StatementCuts.{NextEnds, diverge-of, at_rule-cut, at_rule-well, block-front, next_statement-ends, past_blank-diverge, semicolon-front, sign_plain}
use Rattle.simplecss_grammar.proofs.cutting.StatementCuts.NextEnds.{text_ends, rules_end, at_rule_ends}
use Rattle.simplecss_grammar.proofs.skipped.RuleSetSkipCuts.{rule_set_skips-same}

-- ---- where nothing follows

refusal-nil : (r : Refusal) → refusal_before [] r ≡ r
refusal-nil (faulty within error) = rw (append-nil within) refl
refusal-nil (unknown_class n) = refl

why-nil : (w : Why) → why_before [] w ≡ w
why-nil (refused_selector r) = ap refused_selector (refusal-nil r)
why-nil (at_rule n) = refl
why-nil leading_comma = refl
why-nil after_selector = refl
why-nil missing_block = refl
why-nil broken_declaration = refl
why-nil open_value = refl
why-nil extra_brace = refl
why-nil open_comment = refl

skip-nil : (s : Skip) → skip_before [] s ≡ s
skip-nil s = rw (append-nil s.from, append-nil s.after, why-nil s.why) refl

pub skips-nil : (xs : List Skip) → map (skip_before []) xs ≡ xs
skips-nil [] = refl
skips-nil (x ∷ xs) = rw (skip-nil x, skips-nil xs) refl

-- a text before another one, where both together are empty
none-after : (w v : List ℕ) → w ++ v ≡ [] → v ≡ []
none-after [] v e = e
none-after (b ∷ w) v e = absurd (cc)

-- ---- the names of at-rules

-- no name that occurs before more text is a single hyphen
name-no_hyphen : (edition : Edition) (text n rest : List ℕ) → IsUtf8 text
    → name edition text ≡ got n rest → (rest ≡ [] → ⊥) → is_hyphen_name (Some n) ≡ false
name-no_hyphen edition text n rest u e some = by (name-is edition text n rest u e).is
  where
    decided : (w : IsName edition n) (k : Bool) → bytes_eq n (codes "-") ≡ k → k ≡ false
    decided w true h = absurd (hyphen_no_name edition n w ((bytes_eq-Decides n (codes "-")).0 h))
    decided w false h = refl

    by : IsName edition n ⊎ ((n ≡ hyphen ∷ []) × (rest ≡ [])) → bytes_eq n (codes "-") ≡ false
    by (inl w) = decided w (bytes_eq n (codes "-")) refl
    by (inr h) = absurd (some h.1)

kept-name : (v n : List ℕ) → is_hyphen_name (Some n) ≡ false → Some n ≡ name_before v (Some n)
kept-name [] n e = refl
kept-name (b ∷ v) n e = rw e refl

-- a name that is read alike
name-alike : (edition : Edition) (g : ℕ) (s v w n x : List ℕ) → ContinuesNothing edition g
    → IsUtf8 (s ++ v)
    → Diverge (g ∷ (w ++ v)) (g ∷ w) (s ++ v) s → name edition (s ++ v) ≡ got n x
    → length (w ++ v) < length x
    → name_of (name edition (s ++ v)) ≡ name_before v (name_of (name edition s))
name-alike edition g s v w n x quiet u h e less =
    by (name edition (s ++ v)) (name edition s) e
    (name-same edition g (w ++ v) w quiet (s ++ v) s u h)
  where
    full : x ≡ [] → ⊥
    full none = absurd (omega (arith, less, ap length none))

    by : (a b : Reading (List ℕ)) → a ≡ got n x → Guard Equal true (g ∷ (w ++ v)) (g ∷ w) a b
        → name_of a ≡ name_before v (name_of b)
    by (fails f y) b i k = absurd (cc)
    by (got m y) b i (inl l) =
        let same : y ≡ x = cc in absurd (omega (arith, l, less, ap length same))
    by (got m y) (fails f z) i (inr k) = absurd k
    by (got m y) (got o z) i (inr k) =
        let first : m ≡ n = cc in
        let same : m ≡ o = k.0 in
        let kept = kept-name v n (name-no_hyphen edition (s ++ v) n x u e full) in
        ap (λ (n : List ℕ). Some n) first ∙ kept
        ∙ ap (λ (n : List ℕ). name_before v (Some n)) (sym first ∙ same)

hyphen-name : (edition : Edition) → name edition (hyphen ∷ []) ≡ got (hyphen ∷ []) []
unfolding name past_name_chars chars encode
hyphen-name first_edition = refl
hyphen-name second_edition = refl

-- a name that is missing, or the single hyphen that is one if the text is cut after it
name-missing : (edition : Edition) (s v rest : List ℕ) (b : ℕ) (f : Fault) → IsUtf8 s
    → name edition (s ++ (b ∷ v)) ≡ fails f rest
    → name_of (name edition (s ++ (b ∷ v))) ≡ name_before (b ∷ v) (name_of (name edition s))
name-missing edition s v rest b f u e =
    ap name_of e
    ∙ by (no_name-front edition s (b ∷ v) u
    (name-fails edition (s ++ (b ∷ v)) rest f e).0)
  where
    by : (begins_name edition (chars s) ≡ false) ⊎ (s ≡ hyphen ∷ [])
        → None ≡ name_before (b ∷ v) (name_of (name edition s))
    by (inl none) = rw (name-none_begins edition s none) refl
    by (inr is) = rw (is, hyphen-name edition) refl

name-cut : (edition : Edition) (s v w : List ℕ) → IsUtf8 (s ++ v) → IsUtf8 v
    → AtRuleEnds edition (s ++ v) (w ++ v)
    → (w ++ v ≡ []) ⊎ (name_of (name edition (s ++ v)) ≡ name_before v (name_of (name edition s)))
name-cut edition s [] w whole cut ends =
    inr (ap (λ (t : List ℕ). name_of (name edition t)) (append-nil s))
name-cut edition s (b ∷ v) w whole cut ends = by (w ++ (b ∷ v)) refl ends
  where
    by : (rest : List ℕ) → rest ≡ w ++ (b ∷ v) → AtRuleEnds edition (s ++ (b ∷ v)) rest
        → (w ++ (b ∷ v) ≡ [])
        ⊎ (name_of (name edition (s ++ (b ∷ v))) ≡ name_before (b ∷ v) (name_of (name edition s)))
    by rest e uses_up = inl (sym e)
    by rest e (at_fault f left g) =
        inr (name-missing edition s v left b f (utf8-first s (b ∷ v) whole cut) g)
    by rest e (at_semicolon n x left f g) =
        let following : past (is_neither semicolon open_brace) x ≡ semicolon ∷ (w ++ (b ∷ v)) =
        g ∙ ap (λ (t : List ℕ). semicolon ∷ t) e in
        inr (name-alike edition semicolon s (b ∷ v) w n x (quiet-semicolon edition) whole
        (diverge-of semicolon s (b ∷ v) w
        (semicolon-front edition (s ++ (b ∷ v)) n x (w ++ (b ∷ v)) f following)) f
        (omega (arith, ap length following, length-past (is_neither semicolon open_brace) x)))
    by rest e (at_block n x inner left f g h) =
        let following : from_block_end inner ≡ close_brace ∷ (w ++ (b ∷ v)) =
        h ∙ ap (λ (t : List ℕ). close_brace ∷ t) e in
        inr (name-alike edition close_brace s (b ∷ v) w n x (quiet-brace edition) whole
        (diverge-of close_brace s (b ∷ v) w
        (block-front edition (s ++ (b ∷ v)) n x inner (w ++ (b ∷ v)) f g following)) f
        (omega (
          arith,
          ap length following,
          length-from_block_end inner,
          ap length g,
          length-past (is_neither semicolon open_brace) x,
        )))

-- where a text begins with an at-rule
at_rule-left : (edition : Edition) (text t rest : List ℕ) (rules : List StyleRule)
    → next_statement edition text ≡ Some (rules, rest) → past_blank text ≡ at_sign_byte ∷ t
    → at_rule_rest edition t ≡ rest
unfolding statement
at_rule-left edition text t rest rules e is =
    by (past_blank text) is (ends_statements (past_blank text)) e
  where
    read : List ℕ → List StyleRule × List ℕ
    read start =
        if starts at_sign_byte start then ([], at_rule_rest edition (past_one start))
        else rule_set edition start

    by : (start : List ℕ) → start ≡ at_sign_byte ∷ t → (k : Bool)
        → (if k then None else Some (read start)) ≡ Some (rules, rest)
        → at_rule_rest edition t ≡ rest
    by start is true f = absurd (cc)
    by start is false f =
        let found : read start ≡ (rules, rest) = cc in
        ap (λ (t : List ℕ). (read t).1) (sym is)
        ∙ ap (λ (r : List StyleRule × List ℕ). r.1) found

-- ---- statements

-- what a statement of a text that is cut after it skips
pub statement_skips-cut : (edition : Edition) (u v w : List ℕ) (rules : List StyleRule)
    → IsUtf8 (u ++ v) → IsUtf8 v → next_statement edition (u ++ v) ≡ Some (rules, w ++ v)
    → statement_skips edition (past_blank (u ++ v))
    ≡ map (skip_before v) (statement_skips edition (past_blank u))
unfolding statement_skips
statement_skips-cut edition u v w rules whole cut e =
    by (next_statement-ends edition (u ++ v) rules (w ++ v) e).1
  where
    Cut : Type 0
    Cut =
        statement_skips edition (past_blank (u ++ v))
        ≡ map (skip_before v) (statement_skips edition (past_blank u))

    nil : (v : List ℕ) → v ≡ []
        → statement_skips edition (past_blank (u ++ v))
        ≡ map (skip_before v) (statement_skips edition (past_blank u))
    nil [] n =
        ap (λ (t : List ℕ). statement_skips edition (past_blank t)) (append-nil u)
        ∙ sym (skips-nil (statement_skips edition (past_blank u)))
    nil (b ∷ v) n = absurd (cc)

    none : w ++ v ≡ [] → Cut
    none n = nil v (none-after w v n)

    ruled : Diverge (close_brace ∷ (w ++ v)) (close_brace ∷ w) (past_blank (u ++ v)) (past_blank u)
        → starts at_sign_byte (past_blank (u ++ v)) ≡ false
        → rule_set edition (past_blank (u ++ v)) ≡ (rules, w ++ v)
        → Lost (w ++ v) (rule_set edition (past_blank (u ++ v))).1
        ⊎ (rule_set_skips edition (past_blank (u ++ v))
        ≡ map (skip_before v) (rule_set_skips edition (past_blank u))) → Cut
    ruled diverge other r (inl (inl l)) =
        absurd (omega (arith, l, ap (λ (c : List StyleRule × List ℕ). length c.1) r))
    ruled diverge other r (inl (inr k)) =
        none (sym (ap (λ (c : List StyleRule × List ℕ). c.1) r) ∙ k)
    ruled diverge other r (inr same) =
        let sign : starts at_sign_byte (past_blank u) ≡ false =
        sym (starts-diverge close_brace (w ++ v) w at_sign_byte (past_blank (u ++ v))
        (past_blank u) diverge)
        ∙ other in
        rw (other, sign) same

    at_sign : (s : List ℕ) → past_blank (u ++ v) ≡ at_sign_byte ∷ (s ++ v)
        → past_blank u ≡ at_sign_byte ∷ s
        → (w ++ v ≡ [])
        ⊎ (name_of (name edition (s ++ v)) ≡ name_before v (name_of (name edition s)))
        → at_rule_rest edition (s ++ v) ≡ w ++ v
        → (w ++ v ≡ []) ⊎ (at_rule_rest edition s ≡ w) → Cut
    at_sign s start is (inl n) left rest = none n
    at_sign s start is (inr n) left (inl m) = none m
    at_sign s start is (inr n) left (inr rest) =
        ap (statement_skips edition) start
        ∙ at_rule-skip s n left rest
        ∙ ap (λ (t : List ℕ). map (skip_before v) (statement_skips edition t)) (sym is)
      where
        at_rule-skip : (s : List ℕ)
            → name_of (name edition (s ++ v)) ≡ name_before v (name_of (name edition s))
            → at_rule_rest edition (s ++ v) ≡ w ++ v → at_rule_rest edition s ≡ w
            → statement_skips edition (at_sign_byte ∷ (s ++ v))
            ≡ map (skip_before v) (statement_skips edition (at_sign_byte ∷ s))
        at_rule-skip s n left rest = rw (n, left, rest) refl

    by : NextEnds edition (past_blank (u ++ v)) rules (w ++ v) → Cut
    by (text_ends n) = none n
    by (rules_end other r h) =
        let diverge : Diverge (close_brace ∷ (w ++ v)) (close_brace ∷ w) (past_blank (u ++ v))
        (past_blank u) =
        past_blank-diverge close_brace u v w brace_plain h in
        ruled diverge other r
        (rule_set_skips-same edition w v (past_blank (u ++ v)) (past_blank u)
        ((well-past_blank (u ++ v)).1 whole) diverge)
    by (at_rule_ends after is none h) =
        let s : List ℕ = before after (w ++ v) ++ w in
        let parts : after ≡ s ++ v =
        sym (append_assoc (before after (w ++ v)) w v
        ∙ (at_rule-well edition after (w ++ v) h).0) in
        let start : past_blank (u ++ v) ≡ at_sign_byte ∷ (s ++ v) =
        is ∙ ap (λ (t : List ℕ). at_sign_byte ∷ t) parts in
        let following : Ends (past_blank (u ++ v)) (at_sign_byte ∷ (s ++ v)) =
        subst (Ends (past_blank (u ++ v))) start (ends-same (past_blank (u ++ v))) in
        let diverge : Diverge (at_sign_byte ∷ (s ++ v)) (at_sign_byte ∷ s) (past_blank (u ++ v))
        (past_blank u) =
        past_blank-diverge at_sign_byte u v s sign_plain following in
        let whole_after : IsUtf8 (s ++ v) =
        utf8-after (u ++ v) (s ++ v) at_sign_byte (omega arith) whole
        (ends-ends (u ++ v) (past_blank (u ++ v)) (at_sign_byte ∷ (s ++ v))
        (ends-past_blank (u ++ v))
        following) in
        let ends : AtRuleEnds edition (s ++ v) (w ++ v) =
        subst (λ (t : List ℕ). AtRuleEnds edition t (w ++ v)) parts h in
        at_sign s start
        (diverge-at at_sign_byte (s ++ v) s (past_blank (u ++ v)) (past_blank u) diverge start)
        (name-cut edition s v w whole_after cut ends)
        (at_rule-left edition (u ++ v) (s ++ v) (w ++ v) rules e start)
        (at_rule-cut edition s v w (w ++ v) whole_after cut refl ends)
