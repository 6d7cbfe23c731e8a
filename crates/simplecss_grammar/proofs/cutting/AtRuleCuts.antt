-- An at-rule ends at the same offset where the text is cut there.
-- Serves `StyleSheet::parse_more` and `laws::cutting_law` (a text read in pieces).
use Rattle.std.proofs.Common.{◌⊎◌, Bool, List, [], ap, arith, false, if◌then◌else◌, inl, inr, length, refl, subst, true, ℕ, ◌&&◌, ◌++◌, ◌<◌, ◌==◌, ◌∙◌, ◌∷◌, ◌≡◌, IsUtf8, encode_utf8_all, eqb-true, sym, length-append, ◌≤◌}
use Rattle.std.proofs.lemmas.Bool.{or_parts}
use Rattle.std.proofs.lemmas.List.{append_cancel_right}
use Rattle.std.proofs.lemmas.Str.{chars-append, encodes-chars}
use Rattle.std.specs.Str.{chars}
use lib.Utf8.{encode}
use Rattle.css_text.specs.AsciiBytes.{close_brace, hyphen, open_brace, semicolon}
use Rattle.css_text.specs.Reading.{Fault, Reading, fails, got}
use Rattle.css_text.specs.Bytes.{is_neither, past, past_byte}
use Rattle.css_text.specs.Characters.{Edition, first_edition, is_name_start, second_edition}
use Rattle.css_text.specs.Names.{begins_name, name, past_name_chars}
use Rattle.simplecss_grammar.specs.Blocks.{from_block_end}
use Rattle.simplecss_grammar.specs.Statements.{past_semicolon_or_block, at_rule_rest_by_name, at_rule_rest}
use Rattle.css_text.proofs.reading.TakesLemmas.{length-past, length-past_byte}
use Rattle.simplecss_grammar.proofs.reading.DeclarationLemmas.{length-from_block_end}
use Rattle.simplecss_grammar.proofs.reading.ReadNames.{name-fails}
use Rattle.simplecss_grammar.proofs.reading.LocalLemmas.{Diverge, Equal, Guard, To, at, longer-diverge, on, past-diverge, past-both, quiet-brace, quiet-semicolon}
use Rattle.simplecss_grammar.proofs.reading.NameLocal.{name-same}
use Rattle.simplecss_grammar.proofs.cutting.BlockEndGuards.{from_block_end-to}

-- where the first text has come to the byte g, so has the second
pub diverge-at : (g : ℕ) (t u r s : List ℕ) → Diverge (g ∷ t) (g ∷ u) r s → r ≡ g ∷ t → s ≡ g ∷ u
diverge-at g t u r s at e = refl
diverge-at g t u r s (on b r1 s1 h) e =
    absurd (omega (arith, longer-diverge (g ∷ t) (g ∷ u) r1 s1 h, ap length e))

-- where a byte is before it in the first text, that byte is in the second
diverge-next : (g : ℕ) (t u : List ℕ) (c : ℕ) (x r s : List ℕ) → Diverge (g ∷ t) (g ∷ u) r s
    → r ≡ c ∷ x
    → length t < length x → (y : List ℕ) × ((s ≡ c ∷ y) × Diverge (g ∷ t) (g ∷ u) x y)
diverge-next g t u c x r s at e l = absurd (omega (arith, ap length e, l))
diverge-next g t u c x r s (on b r1 s1 h) e l =
    let first : b ≡ c = cc in
    let rest : r1 ≡ x = cc in (
      s1,
      (ap (λ (d : ℕ). d ∷ s1) first, subst (λ (z : List ℕ). Diverge (g ∷ t) (g ∷ u) z s1) rest h),
    )

-- an at-rule that ends after a semicolon
pub at_rule-semicolon : (edition : Edition) (t u r s n rest : List ℕ) → IsUtf8 r
    → Diverge (semicolon ∷ t) (semicolon ∷ u) r s → name edition r ≡ got n rest
    → past (is_neither semicolon open_brace) rest ≡ semicolon ∷ t → at_rule_rest edition s ≡ u
unfolding at_rule_rest
at_rule-semicolon edition t u r s n rest w h e f =
    by (name edition r) (name edition s) e
    (name-same edition semicolon t u (quiet-semicolon edition) r s w h)
  where
    by : (a b : Reading (List ℕ)) → a ≡ got n rest
        → Guard Equal true (semicolon ∷ t) (semicolon ∷ u) a b
        → at_rule_rest_by_name b ≡ u
    by (fails q x) b g k = absurd (cc)
    by (got m x) b g (inl l) =
        let same : x ≡ rest = cc in
        absurd (omega
        (arith, l, ap length same, ap length f, length-past (is_neither semicolon open_brace) rest))
    by (got m x) (fails q y) g (inr k) = absurd k
    by (got m x) (got o y) g (inr k) =
        let same : x ≡ rest = cc in
        let there : past (is_neither semicolon open_brace) x ≡ semicolon ∷ t =
        ap (past (is_neither semicolon open_brace)) same ∙ f in
        ap past_semicolon_or_block
        (diverge-at semicolon t u (past (is_neither semicolon open_brace) x)
        (past (is_neither semicolon open_brace) y)
        (past-diverge semicolon t u (is_neither semicolon open_brace) refl x y k.1) there)

-- a block that ends after the brace
block_end-at : (u v inner y : List ℕ) → Diverge (close_brace ∷ (u ++ v)) (close_brace ∷ u) inner y
    → from_block_end inner ≡ close_brace ∷ (u ++ v) → past_byte close_brace (from_block_end y) ≡ u
block_end-at u v inner y h e = by (from_block_end-to u v inner y h)
  where
    by : To true (close_brace ∷ (u ++ v)) (close_brace ∷ u) (from_block_end inner)
        (from_block_end y)
        → past_byte close_brace (from_block_end y) ≡ u
    by (inl l) = absurd (omega (arith, l, ap length e))
    by (inr k) =
        ap (past_byte close_brace)
        (diverge-at close_brace (u ++ v) u (from_block_end inner) (from_block_end y) k e)

-- an at-rule that ends after a block
pub at_rule-block : (edition : Edition) (u v r s n rest inner : List ℕ) → IsUtf8 r
    → Diverge (close_brace ∷ (u ++ v)) (close_brace ∷ u) r s → name edition r ≡ got n rest
    → past (is_neither semicolon open_brace) rest ≡ open_brace ∷ inner
    → from_block_end inner ≡ close_brace ∷ (u ++ v)
    → at_rule_rest edition s ≡ u
unfolding at_rule_rest
at_rule-block edition u v r s n rest inner w h e f g =
    by (name edition r) (name edition s) e
    (name-same edition close_brace (u ++ v) u (quiet-brace edition) r s w h)
  where
    long : length (u ++ v) < length inner
    long = omega (arith, ap length g, length-from_block_end inner)

    opened : (x y : List ℕ) → x ≡ open_brace ∷ inner
        → To true (close_brace ∷ (u ++ v)) (close_brace ∷ u) x y
        → past_semicolon_or_block y ≡ u
    opened x y k (inl l) = absurd (omega (arith, l, ap length k, long))
    opened x y k (inr diverge) =
        let found = diverge-next close_brace (u ++ v) u open_brace inner x y diverge k long in
        ap past_semicolon_or_block found.1.0 ∙ block_end-at u v inner found.0 found.1.1 g

    by : (a b : Reading (List ℕ)) → a ≡ got n rest
        → Guard Equal true (close_brace ∷ (u ++ v)) (close_brace ∷ u) a b
        → at_rule_rest_by_name b ≡ u
    by (fails q x) b k diverge = absurd (cc)
    by (got m x) b k (inl l) =
        let same : x ≡ rest = cc in
        absurd (omega (
          arith,
          l,
          ap length same,
          ap length f,
          length-past (is_neither semicolon open_brace) rest,
          long,
        ))
    by (got m x) (fails q y) k (inr diverge) = absurd diverge
    by (got m x) (got o y) k (inr diverge) =
        let same : x ≡ rest = cc in
        opened (past (is_neither semicolon open_brace) x) (past (is_neither semicolon open_brace) y)
        (ap (past (is_neither semicolon open_brace)) same ∙ f)
        (past-both close_brace (u ++ v) u (is_neither semicolon open_brace) x y diverge.1)

-- ---- a faulty name

at_rule-no_name : (edition : Edition) (text : List ℕ) → begins_name edition (chars text) ≡ false
    → at_rule_rest edition text ≡ past_byte hyphen text
unfolding at_rule_rest name
at_rule-no_name edition text e = rw e refl

-- a lone hyphen that ends the text is a name
at_rule-hyphen : (edition : Edition) → at_rule_rest edition (hyphen ∷ []) ≡ []
unfolding at_rule_rest name past_name_chars chars encode
at_rule-hyphen first_edition = refl
at_rule-hyphen second_edition = refl

-- Where no name begins in a text none begins in its front, but for a lone hyphen.
pub no_name-front : (edition : Edition) (s v : List ℕ) → IsUtf8 s
    → begins_name edition (chars (s ++ v)) ≡ false
    → (begins_name edition (chars s) ≡ false) ⊎ (s ≡ hyphen ∷ [])
unfolding encode
no_name-front edition s v u e =
    by (chars s) (encodes-chars s u) (ap (begins_name edition) (sym (chars-append s v u)) ∙ e)
  where
    start : (c : ℕ) (ds : List ℕ) → begins_name edition (c ∷ ds) ≡ false
        → is_name_start edition c ≡ false
    start c [] h = (or_parts (is_name_start edition c) (c == hyphen) h).0
    start c (d ∷ ds) h =
        (or_parts (is_name_start edition c) (c == hyphen && is_name_start edition d) h).0

    by : (cs : List ℕ) → encode_utf8_all cs ≡ s → begins_name edition (cs ++ chars v) ≡ false
        → (begins_name edition cs ≡ false) ⊎ (s ≡ hyphen ∷ [])
    by [] f h = inl refl
    by (c ∷ []) f h = one (c == hyphen) refl
      where
        one : (k : Bool) → (c == hyphen) ≡ k
            → (begins_name edition (c ∷ []) ≡ false) ⊎ (s ≡ hyphen ∷ [])
        one true k = inr (sym f ∙ ap (λ d. encode_utf8_all (d ∷ [])) (eqb-true c hyphen k))
        one false k = let none_there = start c (chars v) h in inl (rw (none_there, k) refl)
    by (c ∷ d ∷ cs) f h = inl h

-- a text before another one that is as long as both is empty
pub nothing_in_front : (w v : List ℕ) → length (w ++ v) ≤ length v → w ≡ []
nothing_in_front [] v l = refl
nothing_in_front (b ∷ w) v l = absurd (omega (arith, l, length-append w v))

-- an at-rule that ends at the fault of its name
pub at_rule-fault : (edition : Edition) (s v w : List ℕ) (fault : Fault) → IsUtf8 s
    → name edition (s ++ v) ≡ fails fault (w ++ v) → at_rule_rest edition s ≡ w
at_rule-fault edition s v w fault u e = by (no_name-front edition s v u failed.0)
  where
    failed : (begins_name edition (chars (s ++ v)) ≡ false) × (w ++ v ≡ past_byte hyphen (s ++ v))
    failed = name-fails edition (s ++ v) (w ++ v) fault e

    front : (s : List ℕ) → w ++ v ≡ past_byte hyphen (s ++ v) → past_byte hyphen s ≡ w
    front [] g = sym (nothing_in_front w v (omega (arith, ap length g, length-past_byte hyphen v)))
    front (b ∷ s) g = by_hyphen (b == hyphen) g
      where
        by_hyphen : (k : Bool) → w ++ v ≡ (if k then s ++ v else b ∷ (s ++ v))
            → (if k then s else b ∷ s) ≡ w
        by_hyphen true k = sym (append_cancel_right w s v k)
        by_hyphen false k = sym (append_cancel_right w (b ∷ s) v k)

    by : (begins_name edition (chars s) ≡ false) ⊎ (s ≡ hyphen ∷ []) → at_rule_rest edition s ≡ w
    by (inl none) = at_rule-no_name edition s none ∙ front s failed.1
    by (inr is) =
        ap (at_rule_rest edition) is ∙ at_rule-hyphen edition
        ∙ front (hyphen ∷ []) (failed.1 ∙ ap (λ t. past_byte hyphen (t ++ v)) is)
