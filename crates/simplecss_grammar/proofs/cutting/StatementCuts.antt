-- A statement reads the same where the text is cut after it or later.
-- Serves `StyleSheet::parse_more` and `laws::cutting_law` (a text read in pieces),
-- `StyleSheet::parse` and `laws::edition_law`.
use Rattle.std.proofs.Common.{Bool, IsUtf8, List, None, Some, [], ap, arith, eqb-true, false, if◌then◌else◌, inl, inr, refl, subst, sym, true, ℕ, ◌==◌, ◌∙◌, ◌∷◌, ◌≡◌, append_assoc, length, ◌++◌, ◌⊎◌, append-nil, length-append}
use Rattle.std.proofs.lemmas.List.{append_cancel_right}
use Rattle.css_text.specs.AsciiBytes.{at_sign, close_brace, open_brace, semicolon}
use Rattle.css_text.specs.Reading.{Ends, got, before, fails, left_after}
use Rattle.css_text.specs.Bytes.{is_neither, past, starts}
use Rattle.css_text.specs.Characters.{Edition}
use Rattle.css_text.specs.Comments.{past_blank}
use Rattle.css_text.specs.Names.{name}
use Rattle.simplecss_grammar.specs.Blocks.{from_block_end}
use Rattle.simplecss_grammar.specs.Statements.{StyleRule, ends_statements, next_statement, at_rule_rest, rule_set, statement}
use Rattle.css_text.proofs.reading.EndsLemmas.{ends-ends, ends-got, ends-past, ends-same, ends-tail, length-ends}
use Rattle.simplecss_grammar.proofs.reading.OccurrenceLemmas.{name-occurs, ends-past_blank}
use Rattle.css_text.proofs.bytes.Utf8Lemmas.{utf8-after, utf8-first}
use Rattle.css_text.proofs.reading.WellLemmas.{EndsWell, well-after, well-nil, well-past_blank, well-then}
use Rattle.simplecss_grammar.proofs.reading.WellNames.{well-name}
use Rattle.css_text.proofs.reading.EachLemmas.{not_empty}
use Rattle.simplecss_grammar.proofs.reading.LocalLemmas.{Diverge, To, diverge-front, at, longer-diverge, on, starts-diverge}
use Rattle.simplecss_grammar.proofs.reading.SearchLemmas.{Plain, brace_plain, opens_comment-diverge, past_blank-to}
use Rattle.simplecss_grammar.proofs.reading.DeclarationsLawful.{ends-from_block_end}
use Rattle.simplecss_grammar.proofs.cutting.BlockEndGuards.{Exact, before_it, after_it}
use Rattle.simplecss_grammar.proofs.cutting.RuleSetCuts.{RulesSame, rule_set-same}
use Rattle.simplecss_grammar.proofs.cutting.AtRuleCuts.{at_rule-block, at_rule-fault, at_rule-semicolon, diverge-at}
use Rattle.simplecss_grammar.proofs.cutting.StatementEnds.{AtRuleEnds, AfterBrace, at_block, at_fault, at_rule-ends, at_semicolon, rule_set-after, uses_up}

-- ---- how a blank and a statement end

-- How a statement ends after a blank: the text is used up, or it is a rule set that ends after a
-- brace, or an at-rule.
pub data NextEnds (edition : Edition) (text : List ℕ) (rules : List StyleRule)
    (rest : List ℕ) : Type 0
  where
    text_ends : rest ≡ [] → NextEnds edition text rules rest
    rules_end : starts at_sign text ≡ false → rule_set edition text ≡ (rules, rest)
        → Ends text (close_brace ∷ rest) → NextEnds edition text rules rest
    at_rule_ends : (after : List ℕ) → text ≡ at_sign ∷ after → rules ≡ []
        → AtRuleEnds edition after rest
        → NextEnds edition text rules rest

-- ---- the texts before and after a cut

-- a text and its front, from after an ASCII byte on
pub diverge-of : (g : ℕ) (u v w : List ℕ) → Ends (u ++ v) (g ∷ (w ++ v))
    → Diverge (g ∷ (w ++ v)) (g ∷ w) (u ++ v) u
diverge-of g u v w e =
    let front : List ℕ = before (u ++ v) (g ∷ (w ++ v)) in
    let parts : front ++ g ∷ (w ++ v) ≡ u ++ v = e in
    let same : front ++ g ∷ w ≡ u =
    append_cancel_right (front ++ g ∷ w) u v (append_assoc front (g ∷ w) v ∙ parts) in
    let diverge : Diverge (g ∷ (w ++ v)) (g ∷ w) (front ++ g ∷ (w ++ v)) (front ++ g ∷ w) =
    diverge-front (g ∷ (w ++ v)) (g ∷ w) front in
    subst (λ (s : List ℕ). Diverge (g ∷ (w ++ v)) (g ∷ w) (u ++ v) s) same
    (subst (λ (r : List ℕ). Diverge (g ∷ (w ++ v)) (g ∷ w) r (front ++ g ∷ w)) parts diverge)

-- after the blanks at their fronts
pub past_blank-diverge : (g : ℕ) (u v w : List ℕ) → Plain g
    → Ends (past_blank (u ++ v)) (g ∷ (w ++ v))
    → Diverge (g ∷ (w ++ v)) (g ∷ w) (past_blank (u ++ v)) (past_blank u)
past_blank-diverge g u v w plain e =
    by (past_blank-to g w v plain (u ++ v) u
    (diverge-of g u v w
    (ends-ends (u ++ v) (past_blank (u ++ v)) (g ∷ (w ++ v)) (ends-past_blank (u ++ v)) e)))
  where
    by : To true (g ∷ (w ++ v)) (g ∷ w) (past_blank (u ++ v)) (past_blank u)
        → Diverge (g ∷ (w ++ v)) (g ∷ w) (past_blank (u ++ v)) (past_blank u)
    by (inl less) = absurd (omega (arith, less, length-ends (past_blank (u ++ v)) (g ∷ (w ++ v)) e))
    by (inr diverge) = diverge

-- ---- statements

pub sign_plain : Plain at_sign
sign_plain = record { space = refl; slash = refl; star = refl }

exact-second : (g : ℕ) (t u r s : List ℕ) → Exact g t u r s → r ≡ t → s ≡ u
exact-second g t u r s after_it e = refl
exact-second g t u r s (before_it a b h) e =
    absurd (omega (arith, longer-diverge (g ∷ t) (g ∷ u) r s h, ap length e))

ends_statements-diverge : (t u r s : List ℕ) → Diverge (close_brace ∷ t) (close_brace ∷ u) r s
    → ends_statements r ≡ ends_statements s
ends_statements-diverge t u r s at = rw (not_empty close_brace t, not_empty close_brace u) refl
ends_statements-diverge t u r s (on b r1 s1 h) =
    rw (not_empty b r1, not_empty b s1)
    (opens_comment-diverge close_brace t u brace_plain (b ∷ r1) (b ∷ s1) (on b r1 s1 h))

module _ (edition : Edition) where
  statement-ends : (text : List ℕ) (rules : List StyleRule) (rest : List ℕ)
      → statement edition text ≡ (rules, rest) → NextEnds edition text rules rest
  unfolding statement
  statement-ends [] rules rest e = of_rules (rule_set-after edition [])
    where
      of_rules : AfterBrace [] (rule_set edition []).1 → NextEnds edition [] rules rest
      of_rules (inl h) = text_ends (sym (ap (λ r. r.1) e) ∙ h)
      of_rules (inr h) =
          rules_end refl e (subst (λ (x : List ℕ). Ends [] (close_brace ∷ x)) (ap (λ r. r.1) e) h)
  statement-ends (b ∷ text) rules rest e = by (b == at_sign) refl e
    where
      of_rules : (b == at_sign) ≡ false → rule_set edition (b ∷ text) ≡ (rules, rest)
          → AfterBrace (b ∷ text) (rule_set edition (b ∷ text)).1
          → NextEnds edition (b ∷ text) rules rest
      of_rules f g (inl h) = text_ends (sym (ap (λ r. r.1) g) ∙ h)
      of_rules f g (inr h) =
          rules_end f g
          (subst (λ (x : List ℕ). Ends (b ∷ text) (close_brace ∷ x)) (ap (λ r. r.1) g) h)

      by : (k : Bool) → (b == at_sign) ≡ k
          → (if k then ([], at_rule_rest edition text) else rule_set edition (b ∷ text))
          ≡ (rules, rest) → NextEnds edition (b ∷ text) rules rest
      by true f g =
          at_rule_ends text (ap (λ (c : ℕ). c ∷ text) (eqb-true b at_sign f))
          (sym (ap (λ r. r.0) g))
          (subst (AtRuleEnds edition text) (ap (λ r. r.1) g) (at_rule-ends edition text))
      by false f g = of_rules f g (rule_set-after edition (b ∷ text))

  -- where the statements continue, and how the next one ends
  pub next_statement-ends : (text : List ℕ) (rules : List StyleRule) (rest : List ℕ)
      → next_statement edition text ≡ Some (rules, rest)
      → (ends_statements (past_blank text) ≡ false) × NextEnds edition (past_blank text) rules rest
  next_statement-ends text rules rest e = by (ends_statements (past_blank text)) refl e
    where
      by : (k : Bool) → ends_statements (past_blank text) ≡ k
          → (if k then None else Some (statement edition (past_blank text))) ≡ Some (rules, rest)
          → (ends_statements (past_blank text) ≡ false) × NextEnds edition (past_blank text) rules
          rest
      by true f g = absurd (cc)
      by false f g =
          let same : statement edition (past_blank text) ≡ (rules, rest) = cc in
          (f, statement-ends (past_blank text) rules rest same)

  -- ---- what is left is an end of the text, and the UTF-8 of some characters

  -- an at-rule that ends after a semicolon or a block ends after that byte
  pub semicolon-front : (text n rest left : List ℕ) → name edition text ≡ got n rest
      → past (is_neither semicolon open_brace) rest ≡ semicolon ∷ left
      → Ends text (semicolon ∷ left)
  semicolon-front text n rest left e f =
      ends-ends text rest (semicolon ∷ left)
      (ends-got _ _ _ _ _ (name-occurs edition text) e)
      (subst (Ends rest) f (ends-past (is_neither semicolon open_brace) rest))

  pub block-front : (text n rest inner left : List ℕ) → name edition text ≡ got n rest
      → past (is_neither semicolon open_brace) rest ≡ open_brace ∷ inner
      → from_block_end inner ≡ close_brace ∷ left
      → Ends text (close_brace ∷ left)
  block-front text n rest inner left e f g =
      let opened : Ends text (open_brace ∷ inner) =
      ends-ends text rest (open_brace ∷ inner)
      (ends-got _ _ _ _ _ (name-occurs edition text) e)
      (subst (Ends rest) f (ends-past (is_neither semicolon open_brace) rest)) in
      ends-ends text inner (close_brace ∷ left)
      (ends-ends text (open_brace ∷ inner) inner opened (ends-tail open_brace inner))
      (subst (Ends inner) g (ends-from_block_end inner))

  pub at_rule-well : (text rest : List ℕ) → AtRuleEnds edition text rest → EndsWell text rest
  at_rule-well text rest uses_up = well-nil text
  at_rule-well text rest (at_fault fault left e) =
      subst (λ r. EndsWell text (left_after r)) e (well-name edition text)
  at_rule-well text rest (at_semicolon n x left e f) =
      well-after semicolon text rest (omega arith) (semicolon-front text n x rest e f)
  at_rule-well text rest (at_block n x inner left e f g) =
      well-after close_brace text rest (omega arith) (block-front text n x inner rest e f g)

  -- what is left after a blank and a statement
  next-well : (text start : List ℕ) (rules : List StyleRule) (rest : List ℕ) → Ends text start
      → NextEnds edition start rules rest → EndsWell text rest
  next-well text start rules rest b (text_ends e) =
      subst (EndsWell text) (sym e) (well-nil text)
  next-well text start rules rest b (rules_end e f h) =
      well-after close_brace text rest (omega arith) (ends-ends text start (close_brace ∷ rest) b h)
  next-well text start rules rest b (at_rule_ends after e f h) =
      well-then text after rest
      (well-after at_sign text after (omega arith) (subst (Ends text) e b))
      (at_rule-well after rest h)

  pub next_statement-well : (text rest : List ℕ) (rules : List StyleRule)
      → next_statement edition text ≡ Some (rules, rest) → EndsWell text rest
  next_statement-well text rest rules e =
      next-well text (past_blank text) rules rest (ends-past_blank text)
      (next_statement-ends text rules rest e).1

  -- a rule set that ends after a brace
  rule_set-cut : (w v r s : List ℕ) (rules : List StyleRule) → IsUtf8 r
      → Diverge (close_brace ∷ (w ++ v)) (close_brace ∷ w) r s
      → rule_set edition r ≡ (rules, w ++ v)
      → (w ++ v ≡ []) ⊎ (rule_set edition s ≡ (rules, w))
  rule_set-cut w v r s rules z h e =
      by (rule_set edition r) (rule_set edition s) e (rule_set-same edition w v r s z h)
    where
      by : (a b : List StyleRule × List ℕ) → a ≡ (rules, w ++ v) → RulesSame (w ++ v) w a b
          → (w ++ v ≡ []) ⊎ (b ≡ (rules, w))
      by (x, p) b f (inl (inl l)) =
          absurd (omega (arith, l, ap (λ (c : List StyleRule × List ℕ). length c.1) f))
      by (x, p) b f (inl (inr k)) = inl (sym (ap (λ (c : List StyleRule × List ℕ). c.1) f) ∙ k)
      by (x, p) (y, q) f (inr (k, exact)) =
          let rest : p ≡ w ++ v = ap (λ (c : List StyleRule × List ℕ). c.1) f in
          let same : q ≡ w = exact-second close_brace (w ++ v) w p q exact rest in
          let ruled : y ≡ rules = sym k ∙ ap (λ (c : List StyleRule × List ℕ). c.0) f in
          inr (rw (same, ruled) refl)

  -- an at-rule, from after its sign
  pub at_rule-cut : (s v w rest : List ℕ) → IsUtf8 (s ++ v) → IsUtf8 v → rest ≡ w ++ v
      → AtRuleEnds edition (s ++ v) rest → (w ++ v ≡ []) ⊎ (at_rule_rest edition s ≡ w)
  at_rule-cut s v w rest whole cut e uses_up = inl (sym e)
  at_rule-cut s v w rest whole cut e (at_fault fault left f) =
      inr (at_rule-fault edition s v w fault (utf8-first s v whole cut) (f ∙ ap (fails fault) e))
  at_rule-cut s v w rest whole cut e (at_semicolon n x left f g) =
      let following : past (is_neither semicolon open_brace) x ≡ semicolon ∷ (w ++ v) = g
      ∙ ap (λ (t : List ℕ). semicolon ∷ t) e in
      inr (at_rule-semicolon edition (w ++ v) w (s ++ v) s n x whole
      (diverge-of semicolon s v w (semicolon-front (s ++ v) n x (w ++ v) f following)) f following)
  at_rule-cut s v w rest whole cut e (at_block n x inner left f g h) =
      let following : from_block_end inner ≡ close_brace ∷ (w ++ v) =
      h ∙ ap (λ (t : List ℕ). close_brace ∷ t) e in
      inr (at_rule-block edition w v (s ++ v) s n x inner whole
      (diverge-of close_brace s v w (block-front (s ++ v) n x inner (w ++ v) f g following)) f g
      following)

  -- ---- the next statement

  next-nil : (u v w : List ℕ) (rules : List StyleRule) → w ++ v ≡ []
      → next_statement edition (u ++ v) ≡ Some (rules, w ++ v)
      → next_statement edition u ≡ Some (rules, w)
  next-nil u [] w rules e f =
      subst (λ (t : List ℕ). next_statement edition t ≡ Some (rules, w)) (append-nil u)
      (f ∙ ap (λ (t : List ℕ). Some (rules, t)) (append-nil w))
  next-nil u (b ∷ v) w rules e f =
      absurd (omega (arith, ap length e, length-append w (b ∷ v)))

  next_statement-reads : (u w : List ℕ) (rules : List StyleRule)
      → ends_statements (past_blank u) ≡ false → statement edition (past_blank u) ≡ (rules, w)
      → next_statement edition u ≡ Some (rules, w)
  next_statement-reads u w rules e f = rw (e, f) refl

  -- What follows the end of a statement makes no difference to it.
  pub next_statement-cut : (u v w : List ℕ) (rules : List StyleRule) → IsUtf8 (u ++ v) → IsUtf8 v
      → next_statement edition (u ++ v) ≡ Some (rules, w ++ v)
      → next_statement edition u ≡ Some (rules, w)
  unfolding statement
  next_statement-cut u v w rules whole cut e =
      by (next_statement-ends (u ++ v) rules (w ++ v) e).0
      (next_statement-ends (u ++ v) rules (w ++ v) e).1
    where
      nil : w ++ v ≡ [] → next_statement edition u ≡ Some (rules, w)
      nil n = next-nil u v w rules n e

      ruled : Diverge (close_brace ∷ (w ++ v)) (close_brace ∷ w) (past_blank (u ++ v))
          (past_blank u)
          → ends_statements (past_blank (u ++ v)) ≡ false
          → starts at_sign (past_blank (u ++ v)) ≡ false
          → (w ++ v ≡ []) ⊎ (rule_set edition (past_blank u) ≡ (rules, w))
          → next_statement edition u ≡ Some (rules, w)
      ruled diverge more other (inl n) = nil n
      ruled diverge more other (inr r) =
          let sign : starts at_sign (past_blank u) ≡ false =
          sym (starts-diverge close_brace (w ++ v) w at_sign (past_blank (u ++ v))
          (past_blank u) diverge)
          ∙ other in
          let goes : ends_statements (past_blank u) ≡ false =
          sym (ends_statements-diverge (w ++ v) w (past_blank (u ++ v)) (past_blank u) diverge)
          ∙ more in
          next_statement-reads u w rules goes (rw sign r)

      from_sign : (s : List ℕ) → past_blank u ≡ at_sign ∷ s → rules ≡ []
          → (w ++ v ≡ []) ⊎ (at_rule_rest edition s ≡ w) → next_statement edition u ≡ Some
          (rules, w)
      from_sign s is none (inl n) = nil n
      from_sign s is none (inr r) =
          let goes : ends_statements (past_blank u) ≡ false =
          ap ends_statements is ∙ rw (not_empty at_sign s) refl in
          let read : statement edition (past_blank u) ≡ (rules, w) =
          ap (statement edition) is ∙ rw (r, none) refl in
          next_statement-reads u w rules goes read

      by : ends_statements (past_blank (u ++ v)) ≡ false
          → NextEnds edition (past_blank (u ++ v)) rules (w ++ v)
          → next_statement edition u ≡ Some (rules, w)
      by more (text_ends n) = nil n
      by more (rules_end other r h) =
          let diverge : Diverge (close_brace ∷ (w ++ v)) (close_brace ∷ w) (past_blank (u ++ v))
          (past_blank u) =
          past_blank-diverge close_brace u v w brace_plain h in
          ruled diverge more other (rule_set-cut w v (past_blank (u ++ v)) (past_blank u) rules
          ((well-past_blank (u ++ v)).1 whole) diverge r)
      by more (at_rule_ends after is none h) =
          let s : List ℕ = before after (w ++ v) ++ w in
          let parts : after ≡ s ++ v =
          sym (append_assoc (before after (w ++ v)) w v
          ∙ (at_rule-well after (w ++ v) h).0) in
          let start : past_blank (u ++ v) ≡ at_sign ∷ (s ++ v) = is ∙ ap (λ
          (t : List ℕ). at_sign ∷ t) parts in
          let following : Ends (past_blank (u ++ v)) (at_sign ∷ (s ++ v)) =
          subst (Ends (past_blank (u ++ v))) start (ends-same (past_blank (u ++ v))) in
          let diverge : Diverge (at_sign ∷ (s ++ v)) (at_sign ∷ s) (past_blank (u ++ v))
          (past_blank u) =
          past_blank-diverge at_sign u v s sign_plain following in
          let whole_after : IsUtf8 (s ++ v) =
          utf8-after (u ++ v) (s ++ v) at_sign (omega arith) whole
          (ends-ends (u ++ v) (past_blank (u ++ v)) (at_sign ∷ (s ++ v)) (ends-past_blank (u ++ v))
          following) in
          from_sign s
          (diverge-at at_sign (s ++ v) s (past_blank (u ++ v)) (past_blank u) diverge start) none
          (at_rule-cut s v w (w ++ v) whole_after cut refl
          (subst (λ (t : List ℕ). AtRuleEnds edition t (w ++ v)) parts h))
