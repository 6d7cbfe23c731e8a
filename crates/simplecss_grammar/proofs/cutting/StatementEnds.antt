-- Where blocks, rule sets and at-rules end.
-- Serves `StyleSheet::parse_more` and `laws::cutting_law` (a text read in pieces),
-- `StyleSheet::parse` and `laws::edition_law`.
use Rattle.std.proofs.Common.{Bool, List, arith, None, Some, [], ap, eqb-true, false, if◌then◌else◌, inl, inr, not, refl, subst, sym, true, ℕ, ◌&&◌, ◌==◌, ◌∙◌, ◌∷◌, ◌≡◌, ◌⊎◌}
use Rattle.css_text.specs.AsciiBytes.{close_brace, comma, open_brace, semicolon}
use Rattle.css_text.specs.Reading.{Ends, Fault, Reading, each, fails, found, got}
use Rattle.css_text.specs.Bytes.{is_neither, past, past_byte, past_one, starts}
use Rattle.css_text.specs.Characters.{Edition, is_space}
use Rattle.css_text.specs.Names.{name}
use Rattle.simplecss_grammar.specs.Selectors.{reads}
use Rattle.simplecss_grammar.specs.Declarations.{StyleDeclaration, declaration}
use Rattle.simplecss_grammar.specs.Blocks.{block, declaration_in_block, ends_list, from_block_end, past_broken}
use Rattle.simplecss_grammar.specs.Statements.{next_block, part, part_and_comma, parts, past_semicolon_or_block, at_rule_rest_by_name, at_rule_rest, rule_set}
use Rattle.css_text.proofs.reading.EachLemmas.{each-stops, not_empty}
use Rattle.simplecss_grammar.proofs.reading.DeclarationLemmas.{declaration_in_block-takes}
use Rattle.css_text.proofs.reading.EndsLemmas.{EndsFound, Occurs, each-ends, ends-ends, ends-past, ends-past_byte, ends-past_one, ends-tail, no_texts}
use Rattle.css_text.proofs.reading.WellLemmas.{WellFound, found-ends, well-after}
use Rattle.css_text.proofs.reading.GotLemmas.{starts-cons}
use Rattle.simplecss_grammar.proofs.reading.SequenceEndLemmas.{reads-ends}
use Rattle.simplecss_grammar.proofs.reading.DeclarationsLawful.{declaration-occurs, declaration_in_block-ends, ends-from_block_end}
use Rattle.simplecss_grammar.proofs.cutting.BlockEndGuards.{no_brace}
use Rattle.simplecss_grammar.proofs.cutting.BlockCuts.{at_brace, none_broken}
use Rattle.css_text.proofs.bytes.RunLemmas.{past-stops}

-- a byte that is there
pub starts-is : (c : ℕ) (text : List ℕ) → starts c text ≡ true → text ≡ c ∷ past_byte c text
starts-is c [] e = absurd (cc)
starts-is c (b ∷ text) e = rw e (ap (λ (x : ℕ). x ∷ text) (eqb-true b c e))

-- nothing is left, or what is left directly follows a closing brace
abbrev pub AfterBrace : List ℕ → List ℕ → Type 0
AfterBrace text rest = (rest ≡ []) ⊎ Ends text (close_brace ∷ rest)

after-from : (text middle rest : List ℕ) → Ends text middle → AfterBrace middle rest
    → AfterBrace text rest
after-from text middle rest h (inl e) = inl e
after-from text middle rest h (inr k) = inr (ends-ends text middle (close_brace ∷ rest) h k)

after-brace : (text rest : List ℕ) → Ends text rest → (rest ≡ []) ⊎ (starts close_brace rest ≡ true)
    → AfterBrace text (past_byte close_brace rest)
after-brace text rest h (inl e) = inl (ap (past_byte close_brace) e)
after-brace text rest h (inr e) = inr (subst (Ends text) (starts-is close_brace rest e) h)

after-further : (text rest : List ℕ) → AfterBrace text rest
    → AfterBrace text (past_byte close_brace rest)
after-further text rest (inl e) = inl (ap (past_byte close_brace) e)
after-further text rest (inr h) = by (starts close_brace rest) refl
  where
    by : (k : Bool) → starts close_brace rest ≡ k → AfterBrace text (past_byte close_brace rest)
    by true e =
        inr (subst (Ends text) (starts-is close_brace rest e)
        (ends-ends text (close_brace ∷ rest) rest h (ends-tail close_brace rest)))
    by false e = inr (subst (λ (x : List ℕ). Ends text (close_brace ∷ x)) (sym (no_brace rest e)) h)

-- ---- blocks

list_end : (text : List ℕ) → ends_list text ≡ true → (text ≡ []) ⊎ (starts close_brace text ≡ true)
list_end [] e = inl refl
list_end (b ∷ text) e = inr (rw (not_empty b text) at e)

-- ---- at-rules

-- How an at-rule ends that has this text after its sign: it uses the text up, or ends at the fault
-- of its name, or after a semicolon, or after a block.
pub data AtRuleEnds (edition : Edition) (text : List ℕ) : List ℕ → Type 0 where
  uses_up : AtRuleEnds edition text []
  at_fault : (fault : Fault) (left : List ℕ) → name edition text ≡ fails fault left
      → AtRuleEnds edition text left
  at_semicolon : (n rest left : List ℕ) → name edition text ≡ got n rest
      → past (is_neither semicolon open_brace) rest ≡ semicolon ∷ left
      → AtRuleEnds edition text left
  at_block : (n rest inner left : List ℕ) → name edition text ≡ got n rest
      → past (is_neither semicolon open_brace) rest ≡ open_brace ∷ inner
      → from_block_end inner ≡ close_brace ∷ left
      → AtRuleEnds edition text left

neither_one : (b : ℕ) → is_neither semicolon open_brace b ≡ false → (b == open_brace) ≡ false
    → (b == semicolon) ≡ true
neither_one b e f = by (b == semicolon) (rw f at e)
  where
    by : (k : Bool) → (not k && true) ≡ false → k ≡ true
    by true h = refl
    by false h = absurd (cc)

module _ (edition : Edition) where
  broken-after : (text : List ℕ) → found (declaration edition text) ≡ None
      → AfterBrace text (past_byte close_brace (past_broken (declaration edition text)))
  broken-after text none =
      by (declaration edition text) (declaration-occurs edition text) none
    where
      by : (r : Reading StyleDeclaration) → Occurs text no_texts r → found r ≡ None
          → AfterBrace text (past_byte close_brace (past_broken r))
      by (got declared rest) h e = absurd (cc)
      by (fails fault rest) h e =
          after-further text (past_byte close_brace (from_block_end rest))
          (after-brace text (from_block_end rest)
          (ends-ends text rest (from_block_end rest) h.at (ends-from_block_end rest))
          (at_brace rest))

  block-after : (text : List ℕ) → AfterBrace text (block edition text).1
  unfolding block
  block-after text = by (ends_list a) refl
    where
      a : List ℕ
      a = (each (declaration_in_block edition) text).1

      left : Ends text a
      left = each-ends (declaration_in_block edition) (declaration_in_block-ends edition) text

      by : (k : Bool) → ends_list a ≡ k
          → AfterBrace text
          (past_byte close_brace (if k then a else past_broken (declaration edition a)))
      by true e = after-brace text a left (list_end a e)
      by false e =
          after-from text a _ left (broken-after a (none_broken edition a e
          (each-stops (declaration_in_block edition) (declaration_in_block-takes edition) text)))

  -- ---- rule sets

  next_block-after : (text : List ℕ) → AfterBrace text (next_block edition text).1
  unfolding next_block
  next_block-after text = by (starts open_brace opened)
    where
      opened : List ℕ
      opened = past (λ b. not (b == open_brace)) text

      inside : Ends text (past_one opened)
      inside =
          ends-ends text opened (past_one opened) (ends-past (λ b. not (b == open_brace)) text)
          (ends-past_one opened)

      by : (k : Bool) → AfterBrace text (if k then block edition (past_one opened) else ([], [])).1
      by true = after-from text (past_one opened) _ inside (block-after (past_one opened))
      by false = inl refl

  pub part-ends : (text : List ℕ) → Ends text (part edition text).1
  unfolding part
  part-ends text =
      ends-ends text (reads edition text).1 (past is_space (reads edition text).1)
      (reads-ends edition text) (ends-past is_space (reads edition text).1)

  pub part_and_comma-well : (text : List ℕ) → WellFound text (part_and_comma edition text)
  part_and_comma-well text = by (starts comma rest) refl
    where
      rest : List ℕ
      rest = (part edition text).1

      by : (k : Bool) → starts comma rest ≡ k
          → WellFound text (if k then Some ((part edition text).0, past_one rest) else None)
      by true e =
          well-after comma text (past_one rest) (omega arith)
          (subst (Ends text) (starts-cons comma rest e) (part-ends text))
      by false e = tt

  pub part_and_comma-ends : (text : List ℕ) → EndsFound text (part_and_comma edition text)
  part_and_comma-ends text =
      found-ends text (part_and_comma edition text) (part_and_comma-well text)

  pub parts-ends : (text : List ℕ) → Ends text (parts edition text).1
  unfolding parts
  parts-ends text =
      let rest = (each (part_and_comma edition) text).1 in
      ends-ends text rest (part edition rest).1
      (each-ends (part_and_comma edition) part_and_comma-ends text) (part-ends rest)

  -- a rule set uses up the text, or ends directly after a closing brace
  pub rule_set-after : (text : List ℕ) → AfterBrace text (rule_set edition text).1
  unfolding rule_set
  rule_set-after text =
      let head = (parts edition (past_byte comma text)).1 in
      after-from text head _ (ends-ends text (past_byte comma text) head (ends-past_byte comma text)
      (parts-ends (past_byte comma text))) (next_block-after head)

  at_block-ends : (text n rest inner : List ℕ) → name edition text ≡ got n rest
      → past (is_neither semicolon open_brace) rest ≡ open_brace ∷ inner
      → AtRuleEnds edition text (past_byte close_brace (from_block_end inner))
  at_block-ends text n rest inner e f = by (at_brace inner)
    where
      by : (from_block_end inner ≡ []) ⊎ (starts close_brace (from_block_end inner) ≡ true)
          → AtRuleEnds edition text (past_byte close_brace (from_block_end inner))
      by (inl h) = rw h uses_up
      by (inr h) =
          at_block n rest inner (past_byte close_brace (from_block_end inner)) e f
          (starts-is close_brace (from_block_end inner) h)

  at_end-ends : (text n rest : List ℕ) → name edition text ≡ got n rest → (x : List ℕ)
      → past (is_neither semicolon open_brace) rest ≡ x
      → AtRuleEnds edition text (past_semicolon_or_block x)
  at_end-ends text n rest e [] f = uses_up
  at_end-ends text n rest e (b ∷ x) f = by (b == open_brace) refl
    where
      by : (j : Bool) → (b == open_brace) ≡ j
          → AtRuleEnds edition text
          (if j then past_byte close_brace (from_block_end x)
          else (if b == semicolon then x else b ∷ x))
      by true g =
          at_block-ends text n rest x e (f ∙ ap (λ (c : ℕ). c ∷ x) (eqb-true b open_brace g))
      by false g =
          let is_semicolon : (b == semicolon) ≡ true =
          neither_one b (past-stops (is_neither semicolon open_brace) rest b x f) g in
          rw is_semicolon (at_semicolon n rest x e (f ∙ ap (λ (c : ℕ). c ∷ x)
          (eqb-true b semicolon is_semicolon)))

  pub at_rule-ends : (text : List ℕ) → AtRuleEnds edition text (at_rule_rest edition text)
  unfolding at_rule_rest
  at_rule-ends text = by (name edition text) refl
    where
      by : (r : Reading (List ℕ)) → name edition text ≡ r
          → AtRuleEnds edition text (at_rule_rest_by_name r)
      by (fails fault left) e = at_fault fault left e
      by (got n rest) e =
          at_end-ends text n rest e (past (is_neither semicolon open_brace) rest) refl
