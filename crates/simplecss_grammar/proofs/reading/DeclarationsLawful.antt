-- Terms, values and declarations owe what every reader owes, and consume bytes.
-- Serves `DeclarationTokenizer`, `read_value`, `StyleSheet::{parse, parse_more}` and
-- `laws::{cutting_law, edition_law}`.
use Rattle.std.proofs.Common.{◌≡◌, ◌⊎◌, ◌≤◌, Bool, List, None, Option, Some, [], ap, arith, codes, drop, IsUtf8, ◌<◌, subst, sym, take, eqb, false, if◌then◌else◌, inl, inr, length, length-append, not, refl, true, ℕ, ◌&&◌, ◌++◌, ◌==◌, ◌||◌, ◌∙◌, ◌∷◌, eqb-true}
use Rattle.std.specs.List.{starts_with}
use Rattle.std.specs.Str.{chars, trim}
use lib.Utf8.{encode}
use Rattle.std.proofs.lemmas.Bool.Decides.{nat_tests}
use Rattle.std.proofs.lemmas.List.{take-append-drop}
use Rattle.std.proofs.lemmas.Slice.Eq.{bytes_eq-Decides}
use Rattle.css_text.specs.AsciiBytes.{asterisk, close_brace, close_parenthesis, colon, comma, exclamation_mark, full_stop, hyphen, number_sign, open_parenthesis, percent_sign, semicolon as semicolon_byte, slash}
use Rattle.css_text.specs.Reading.{Reader, Ends, Reading, before, each, ended, fails, follow, found, give, no_name, got, here, left_after, ◌>>=◌, ◌>>◌, last_or}
use Rattle.css_text.specs.Bytes.{after_byte, byte, closed_or, is_digit, optional, past, past_byte, past_one, starts, is_hex_digit}
use Rattle.css_text.specs.Characters.{Edition, first_edition, second_edition}
use Rattle.css_text.specs.Comments.{blank, past_blank}
use Rattle.css_text.specs.Strings.{is_quote}
use Rattle.simplecss_grammar.specs.Terms.{arguments, begins_number, is_slash_term, past_decimals, past_hash, past_number, past_unit, quoted, term, word}
use Rattle.simplecss_grammar.specs.Declarations.{StyleDeclaration, after_term, declaration, importance, important_word, semicolon, semicolons, stated_name, term_in_value, terms, trailing, unless_empty, value, value_reader}
use Rattle.simplecss_grammar.specs.Blocks.{block_end, declaration_in_block, ends_list, from_block_end}
use Rattle.css_text.specs.Names.{begins_name, name}
use Rattle.css_text.proofs.reading.EndsLemmas.{EndsFound, Occurs, ends-drop, length-ends, no_texts}
use Rattle.css_text.proofs.reading.WellLemmas.{EndsWell, WellFound, each-well, found-ends, found-text, well-blank, well-closed, well-past, well-past_blank, well-tail, well-then}
use Rattle.simplecss_grammar.proofs.reading.WellNames.{well-name}
use Rattle.css_text.proofs.bytes.Utf8Lemmas.{utf8-second, chars-byte}
use Rattle.css_text.proofs.reading.GotLemmas.{IfAfter, after_byte-after, starts-cons}
use Rattle.simplecss_grammar.proofs.reading.ReadValues.{quote_low}
use Rattle.css_text.proofs.reading.TakesLemmas.{Cuts, cuts-follow, cuts-if, cuts-so, follow-cuts, length-past_blank, length-past_byte, name-cuts}
use Rattle.css_text.proofs.reading.EachLemmas.{Shrinks, Takes}
use Rattle.simplecss_grammar.proofs.reading.LocalLemmas.{Diverge, Equal, Guard, Never, Pairs, Passed, Repeats, Seam, Step, To, at, at-brace, before-diverge, drop-to, each-repeats, guard-got, left-to, on, starts-seam}
use Rattle.simplecss_grammar.proofs.reading.LocalLemmas.Seam.{at_brace, at_quiet}
use Rattle.simplecss_grammar.proofs.reading.NameLocal.{past_hash-seam}
use Rattle.simplecss_grammar.proofs.reading.SearchLemmas.{brace_plain, closed-diverge, past_blank-to}
use Rattle.simplecss_grammar.proofs.reading.ReadNames.{name-none_begins}
use Rattle.simplecss_grammar.proofs.reading.EditionLaws.{Shared, each-editions, name-editions, shared-ends}
use Rattle.simplecss_grammar.proofs.reading.Lawful.{Lawful, Owes, blank-lawful, byte-lawful, lawful-cases, lawful-guarded, lawful-keeps, lawful-occurs, name-lawful, name-owes, optional-lawful, owes-choice, owes-cuts, owes-fails, owes-follow, owes-give, owes-if, owes-past, owes-sign, owes-so, owes-starts, passes-sign, past-lawful, past_name-lawful, string_after-lawful, takes-passed}

-- ---- terms

-- digits are ASCII
pub digit_low : (b : ℕ) → is_digit b ≡ true → b < 128
digit_low b e = grind (arith, nat_tests)

-- hexadecimal digits are ASCII
pub hex_low : (b : ℕ) → is_hex_digit b ≡ true → b < 128
hex_low b e = grind (arith, nat_tests)

-- what begins a number is ASCII
pub number_low : (b : ℕ) → begins_number b ≡ true → b < 128
number_low b e = grind (arith, nat_tests)

-- a comma and a slash are ASCII
pub single-low : (edition : Edition) (b : ℕ) (text : List ℕ)
    → (b == comma || is_slash_term edition b text) ≡ true → b < 128
single-low first_edition b text e = grind (arith, nat_tests)
single-low second_edition b text e = by (b == comma) (b == slash) refl refl e
  where
    by : (x y : Bool) → (b == comma) ≡ x → (b == slash) ≡ y
        → (x || (y && not (starts asterisk text))) ≡ true
        → b < 128
    by true y h k e = let same = eqb-true b comma h in omega arith
    by false true h k e = let same = eqb-true b slash k in omega arith
    by false false h k e = absurd (cc)

arguments-lawful : (c : Bool) → Lawful c (λ edition. arguments) (λ edition. arguments)
arguments-lawful c r s =
    owes-starts open_parenthesis (λ edition q e w. w.no_opening)
    (λ e edition. shorter (after_byte close_parenthesis r) (after_byte-after close_parenthesis r)
    (starts-cons open_parenthesis r e))
    (λ e. record {
      left =
          λ edition.
          well-closed close_parenthesis r ended (after_byte close_parenthesis r) (omega arith)
          (after_byte-after close_parenthesis r);
      same = λ h. refl;
      guard = λ edition t u m v h. closed-diverge c t u close_parenthesis ended ended r s h;
    })
    (owes-give tt r s)
  where
    shorter : (o : Option (List ℕ)) → IfAfter close_parenthesis r o
        → r ≡ open_parenthesis ∷ past_one r
        → length (left_after (closed_or ended o)) < length r
    shorter None h e = omega (arith, ap length e)
    shorter (Some rest) h e =
        omega (arith, ap length h.1, length-append h.0 (close_parenthesis ∷ rest))

past_hash-lawful : (c : Bool)
    → Lawful c (λ edition text. got (tt {0}) (past_hash (name edition text)))
    (λ edition text. got tt (past_hash (name edition text)))
past_hash-lawful c r s = record {
  left = λ edition. by (name edition r) (well-name edition r);
  same = λ h. ap (λ o. got tt (past_hash o)) (name-editions r h);
  guard =
      λ edition t u m v h. guard-got Equal c t u tt tt _ _ refl (past_hash-seam c t u m r s v h);
}
  where
    by : (o : Reading (List ℕ)) → EndsWell r (left_after o) → EndsWell r (past_hash o)
    by (got n rest) h = h
    by (fails fault rest) h =
        well-then r rest (past is_hex_digit rest) h (well-past is_hex_digit hex_low rest)

pub past_decimals-lawful : (c : Bool)
    → Lawful c (λ edition text. got (tt {0}) (past_decimals text))
    (λ edition text. got tt (past_decimals text))
past_decimals-lawful c r s =
    passes-sign full_stop (omega arith) (λ edition q e w. w.no_point) _ _ _ _
    (past-lawful c is_digit digit_low (λ edition q w. w.no_digit) (past_one r) (past_one s))
    (owes-give tt r s)

pub past_unit-lawful : (c : Bool) → Lawful c (λ edition text. got (tt {0}) (past_unit edition text))
    (λ edition text. got tt (past_unit edition text))
past_unit-lawful c r s =
    passes-sign percent_sign (omega arith) (λ edition q e w. w.no_percent) _ _ _ _
    (owes-give tt (past_one r) (past_one s)) (past_name-lawful c r s)

past_number-lawful : (c : Bool) → Lawful c (λ edition text. got (tt {0}) (past_number edition text))
    (λ edition text. got tt (past_number edition text))
unfolding past_number
past_number-lawful c r s =
    owes-follow (λ u edition t. got tt (past_unit edition (past_decimals t)))
    (λ u edition t. got tt (past_unit edition (past_decimals t)))
    (past-lawful c is_digit digit_low (λ edition q w. w.no_digit) r s) (λ u t w.
    owes-follow (λ x edition y. got tt (past_unit edition y))
    (λ x edition y. got tt (past_unit edition y)) (past_decimals-lawful c t w)
    (λ x. past_unit-lawful c))

-- a word, where the text is no lone hyphen
word-owes : (c : Bool) (r s : List ℕ) → (c ≡ false → r ≡ hyphen ∷ [] → ⊥)
    → Owes c r s (λ edition. word edition r) (λ edition. word edition s)
unfolding word
word-owes c r s some = owes-follow _ _ (name-owes c r s some) (λ n. arguments-lawful c)

quoted-lawful : (c : Bool) (quote : ℕ) → is_quote quote ≡ true
    → Lawful c (λ edition. quoted quote) (λ edition. quoted quote)
quoted-lawful c quote e r s =
    owes-follow _ _ (string_after-lawful c quote e r s) (λ inside. owes-give tt)

-- no slash begins a term
slash-editions : (b : ℕ) (text : List ℕ) → (b == slash) ≡ false
    → is_slash_term first_edition b text ≡ is_slash_term second_edition b text
slash-editions b text e = rw e refl

word-cuts : (edition : Edition) (text : List ℕ) → Cuts text (word edition text)
unfolding word
word-cuts edition text =
    cuts-follow text (name edition text) (λ n. arguments) (name-cuts edition text)
    (λ n rest. lawful-keeps _ _ (arguments-lawful true) edition rest)

-- a term consumes a byte or more
pub term-cuts : (edition : Edition) (text : List ℕ) → Cuts text (term edition text)
unfolding term
term-cuts edition [] = omega arith
term-cuts edition (b ∷ text) =
    cuts-if (b ∷ text) (b == number_sign) _ _
    (owes-cuts b (past_hash-lawful true text text) edition)
    (cuts-if (b ∷ text) (begins_number b) _ _
    (owes-cuts b (past_number-lawful true text text) edition)
    (cuts-so (b ∷ text) (is_quote b) _ _
    (λ e. owes-cuts b (quoted-lawful true b e text text) edition)
    (cuts-if (b ∷ text) (b == comma || is_slash_term edition b text) _ _ (omega arith)
    (word-cuts edition (b ∷ text)))))

-- what begins no number is no hyphen
number_hyphen : (b : ℕ) → begins_number b ≡ false → b ≡ hyphen → ⊥
number_hyphen b e is = let here : begins_number b ≡ true = ap begins_number is in cc

-- a slash that is no term begins none
pub slash_word : (edition : Edition) (text : List ℕ)
    → word edition (slash ∷ text) ≡ fails (no_name (slash ∷ text)) (slash ∷ text)
unfolding word
slash_word edition text =
    rw (name-none_begins edition (slash ∷ text)
    (ap (begins_name edition) (chars-byte slash text (omega arith)) ∙ by edition (chars text))) refl
  where
    by : (edition : Edition) (cs : List ℕ) → begins_name edition (slash ∷ cs) ≡ false
    by first_edition [] = refl
    by first_edition (c ∷ cs) = refl
    by second_edition [] = refl
    by second_edition (c ∷ cs) = refl

-- a comma, or a slash that opens no comment
abbrev is_single : Edition → ℕ → List ℕ → Bool
is_single edition b text = b == comma || is_slash_term edition b text

abbrev single : Edition → ℕ → List ℕ → Reading (Unit {0})
single edition b text = if is_single edition b text then got tt text else word edition (b ∷ text)

single-cuts : (edition : Edition) (b : ℕ) (text : List ℕ) → Cuts (b ∷ text) (single edition b text)
single-cuts edition b text =
    cuts-if (b ∷ text) (is_single edition b text) (got tt text) (word edition (b ∷ text))
    (omega arith) (word-cuts edition (b ∷ text))

slash_passed : (t text : List ℕ) (b : ℕ) → (b == slash) ≡ true
    → Passed false t (word second_edition (b ∷ text))
slash_passed t text b e =
    subst (Passed false t) (sym (slash_word second_edition text)
    ∙ ap (λ (k : ℕ). word second_edition (k ∷ text)) (sym (eqb-true b slash e))) tt

-- The test comes out the same. Or a comment opens in the first tail: then the slash begins no term.
single-after : (edition : Edition) (c : Bool) (t : List ℕ) (b : ℕ) (r s : List ℕ)
    → (starts asterisk r ≡ starts asterisk s) ⊎ ((c ≡ false) × (r ≡ t) × (starts asterisk r ≡ true))
    → (is_single edition b r ≡ is_single edition b s) ⊎ Passed c t (single edition b r)
single-after first_edition c t b r s h = inl refl
single-after second_edition c t b r s (inl e) =
    inl (ap (λ (k : Bool). b == comma || (b == slash && not k)) e)
single-after second_edition true t b r s (inr h) = absurd (let e : true ≡ false = h.0 in cc)
single-after second_edition false t b r s (inr h) = rw h.2 (by (b == comma) (b == slash) refl)
  where
    by : (j k : Bool) → (b == slash) ≡ k
        → ((j || (k && false)) ≡ (j || (k && not (starts asterisk s)))) ⊎ Passed false t
        (if j || (k && false) then got (tt {0}) r else word second_edition (b ∷ r))
    by true k f = inl refl
    by false false f = inl refl
    by false true f = inr (slash_passed t r b f)

single-seam : (edition : Edition) (c : Bool) (t u : List ℕ) → Seam edition c t u
    → (b d : ℕ) (r s : List ℕ) → Diverge t u (b ∷ r) (d ∷ s)
    → (is_single edition b r ≡ is_single edition d s) ⊎ Passed c t (single edition b r)
single-seam edition c t u m b d r s (on _ _ _ h) =
    single-after edition c t b r s (starts-seam c t u asterisk (λ q e w. w.no_star) m r s h)
single-seam first_edition c t u (at_brace x y) b d r s at = inl refl
single-seam second_edition c t u (at_brace x y) b d r s at = inl refl
single-seam edition c t u (at_quiet _ q more w z) b d r s at =
    inr (takes-passed (b ∷ r) (single edition b r) (single-cuts edition b r))

pub term-lawful : (c : Bool) → Lawful c term term
unfolding term
term-lawful c = lawful-cases term term (λ e. term-cuts) (owes-fails ended ended [] []) (λ b r s.
    owes-so (b == number_sign) _ _
    (λ e. owes-past b (omega (arith, eqb-true b number_sign e)) (past_hash-lawful c r s)) (λ e0.
    owes-so (begins_number b) _ _ (λ e. owes-past b (number_low b e) (past_number-lawful c r s))
    (λ e1.
    owes-so (is_quote b) _ _ (λ e. owes-past b (quote_low b e) (quoted-lawful c b e r s)) (λ e2.
    owes-choice (b ∷ r) (b ∷ s) (λ edition. is_single edition b r)
    (λ edition. is_single edition b s) _ _ _ _
    (λ h. ap (λ (k : Bool). b == comma || k) (slash-editions b r h.0.1))
    (λ edition t u m h. single-seam edition c t u m b b r s h)
    (λ edition e. owes-past b (single-low edition b r e) (owes-give tt r s))
    (word-owes c (b ∷ r) (b ∷ s) (λ e is. number_hyphen b e1 (cc)))))))

pub term-occurs : (edition : Edition) (text : List ℕ) → Occurs text no_texts (term edition text)
term-occurs edition text = lawful-occurs term term (term-lawful true) edition text

-- ---- values

term_in_value-well : (edition : Edition) (text : List ℕ)
    → WellFound text (term_in_value edition text)
term_in_value-well edition text = by (term edition text) ((term-lawful true text text).left edition)
  where
    by : (r : Reading (Unit {0})) → EndsWell text (left_after r) → WellFound text (after_term r)
    by (got x rest) h = well-then text rest (past_blank rest) h (well-past_blank rest)
    by (fails fault rest) h = tt

after_term-shrinks : (text : List ℕ) (r : Reading (Unit {0})) → Cuts text r
    → Shrinks text (after_term r)
after_term-shrinks text (got u rest) h = omega (arith, length-past_blank rest)
after_term-shrinks text (fails fault rest) h = tt

pub term_in_value-takes : (edition : Edition) → Takes (term_in_value edition)
term_in_value-takes edition text =
    after_term-shrinks text (term edition text) (term-cuts edition text)

-- what is left after the terms of a value
pub terms-well : (edition : Edition) (text : List ℕ) → EndsWell text (terms edition text).1
terms-well edition text = each-well (term_in_value edition) (term_in_value-well edition) text

terms-editions : (text : List ℕ) → Shared text
    → terms first_edition text ≡ terms second_edition text
terms-editions text h =
    each-editions (term_in_value first_edition) (term_in_value second_edition)
    (λ t k. ap after_term ((term-lawful true t t).same k))
    (λ t. found-ends t (term_in_value first_edition t) (term_in_value-well first_edition t)) text h

-- reading a term would pass the brace
abbrev TermPasses : Edition → List ℕ → List ℕ → Type 0
TermPasses edition t a = length (left_after (term edition a)) ≤ length t

after_term-step : (u v r : List ℕ) (Stuck : List ℕ → Type 0) (a b : Reading (Unit {0}))
    → Guard Equal true (close_brace ∷ (u ++ v)) (close_brace ∷ u) a b
    → (length (left_after a) ≤ length (u ++ v) → Stuck r)
    → Step (Diverge (close_brace ∷ (u ++ v)) (close_brace ∷ u)) Stuck close_brace (u ++ v) u r
    (after_term a) (after_term b)
after_term-step u v r Stuck (got x p) (got y q) (inl h) stuck =
    inl (omega (arith, length-past_blank p))
after_term-step u v r Stuck (got x p) (fails f q) (inl h) stuck = omega (arith, length-past_blank p)
after_term-step u v r Stuck (fails f p) (got y q) (inl h) stuck = stuck h
after_term-step u v r Stuck (fails f p) (fails e q) (inl h) stuck = tt
after_term-step u v r Stuck (got x p) (got y q) (inr h) stuck =
    by (past_blank p) (past_blank q) (past_blank-to close_brace u v brace_plain p q h.1)
  where
    by : (c d : List ℕ) → To true (close_brace ∷ (u ++ v)) (close_brace ∷ u) c d
        → (length c ≤ length (u ++ v))
        ⊎ (Diverge (close_brace ∷ (u ++ v)) (close_brace ∷ u) p q
        × Diverge (close_brace ∷ (u ++ v)) (close_brace ∷ u) c d)
    by c d (inl k) = inl k
    by c d (inr k) = inr (h.1, k)
after_term-step u v r Stuck (got x p) (fails f q) (inr h) stuck = absurd h
after_term-step u v r Stuck (fails f p) (got y q) (inr h) stuck = absurd h
after_term-step u v r Stuck (fails f p) (fails e q) (inr h) stuck = tt

terms-repeats : (edition : Edition) (u v r s : List ℕ) → IsUtf8 r
    → Diverge (close_brace ∷ (u ++ v)) (close_brace ∷ u) r s
    → Repeats (Diverge (close_brace ∷ (u ++ v)) (close_brace ∷ u))
    (TermPasses edition (u ++ v)) close_brace (u ++ v) u
    (terms edition r) (terms edition s)
terms-repeats edition u v r s w h =
    each-repeats IsUtf8 (Diverge (close_brace ∷ (u ++ v)) (close_brace ∷ u))
    (TermPasses edition (u ++ v)) close_brace
    (u ++ v) u (term_in_value edition) (term_in_value-takes edition)
    (found-text (term_in_value edition) (term_in_value-well edition))
    (λ a b x k. after_term-step u v a (TermPasses edition (u ++ v)) (term edition a)
    (term edition b) (lawful-guarded term term (term-lawful true) edition u v a b x k) (λ l. l))
    (length r) r s (omega arith) w h

last_or-diverge : (t u r s : List ℕ) (xs ys : List (List ℕ))
    → Diverge (close_brace ∷ t) (close_brace ∷ u) r s
    → Pairs (Diverge (close_brace ∷ t) (close_brace ∷ u)) xs ys
    → Diverge (close_brace ∷ t) (close_brace ∷ u) (last_or r xs) (last_or s ys)
last_or-diverge t u r s [] [] h p = h
last_or-diverge t u r s [] (y ∷ ys) h p = absurd p
last_or-diverge t u r s (x ∷ xs) [] h p = absurd p
last_or-diverge t u r s (x ∷ xs) (y ∷ ys) h p = last_or-diverge t u x y xs ys p.0 p.1

-- a value, by its terms
abbrev value_by : Edition → List ℕ → List (List ℕ) × List ℕ → Reading (List ℕ)
value_by edition text a =
    got (trim (before text (last_or text a.0))) (left_after (term edition a.1))

value-lawful : Lawful true value_reader value_reader
unfolding value
value-lawful r s = record {
  left =
      λ edition. well-then r (terms edition r).1 _ (terms-well edition r)
      ((term-lawful true (terms edition r).1 []).left edition);
  same = λ h. both h;
  guard =
      λ edition t u m w h. at-brace (λ t u. Diverge t u r s
      → Guard Equal true t u (value_reader edition r) (value_reader edition s))
      (λ u v h. by edition u v w h (terms edition r) (terms edition s) ((terms-well edition r).1 w)
      (terms-repeats edition u v r s w h)) t u m h;
}
  where
    both : Shared r → value_by first_edition r (terms first_edition r) ≡ value_by second_edition r
        (terms second_edition r)
    both h =
        let rest : List ℕ = (terms first_edition r).1 in
        let shared : Shared rest = shared-ends r rest (terms-well first_edition r).0 h in
        ap (λ (o : Reading (Unit {0})). got (trim (before r (last_or r (terms first_edition r).0)))
        (left_after o)) ((term-lawful true rest rest).same shared)
        ∙ ap (value_by second_edition r) (terms-editions r h)

    by : (edition : Edition) (u v : List ℕ) → IsUtf8 r
        → Diverge (close_brace ∷ (u ++ v)) (close_brace ∷ u) r s
        → (a b : List (List ℕ) × List ℕ) → IsUtf8 a.1
        → Repeats (Diverge (close_brace ∷ (u ++ v)) (close_brace ∷ u))
        (TermPasses edition (u ++ v)) close_brace (u ++ v) u a
        b → Guard Equal true (close_brace ∷ (u ++ v)) (close_brace ∷ u) (value_by edition r a)
        (value_by edition s b)
    by edition u v w h a b z (inl k) =
        inl (omega (
          arith,
          length-ends a.1 (left_after (term edition a.1))
              ((term-lawful true a.1 a.1).left edition).0,
        ))
    by edition u v w h a b z (inr (inl k)) = inl k
    by edition u v w h a b z (inr (inr k)) =
        let same : before r (last_or r a.0) ≡ before s (last_or s b.0) =
        before-diverge (close_brace ∷ (u ++ v)) (close_brace ∷ u) r s _ _ h
        (last_or-diverge (u ++ v) u r s a.0 b.0 h k.0) in
        guard-got Equal true (close_brace ∷ (u ++ v)) (close_brace ∷ u) _ _ _ _ (ap trim same)
        (left-to Equal (close_brace ∷ (u ++ v)) (close_brace ∷ u) (term edition a.1)
        (term edition b.1)
        (lawful-guarded term term (term-lawful true) edition u v a.1 b.1 z k.1))

-- ---- what follows a value

semicolon-well : (text : List ℕ) → WellFound text (semicolon text)
semicolon-well [] = tt
semicolon-well (b ∷ text) = by (b == semicolon_byte) refl
  where
    by : (k : Bool) → (b == semicolon_byte) ≡ k
        → WellFound {A = Unit {0}} (b ∷ text) (if k then Some (tt, past_blank text) else None)
    by true e =
        well-then (b ∷ text) text (past_blank text)
        (well-tail b text (omega (arith, eqb-true b semicolon_byte e))) (well-past_blank text)
    by false e = tt

pub semicolon-takes : Takes semicolon
semicolon-takes [] = tt
semicolon-takes (b ∷ text) = by (b == semicolon_byte)
  where
    by : (t : Bool) → Shrinks (b ∷ text) (if t then Some (tt {0}, past_blank text) else None)
    by true = omega (arith, length-past_blank text)
    by false = tt

semicolon-step : (u v r s : List ℕ) → Diverge (close_brace ∷ (u ++ v)) (close_brace ∷ u) r s
    → Step Equal Never close_brace (u ++ v) u r (semicolon r) (semicolon s)
semicolon-step u v r s at = tt
semicolon-step u v r s (on b r1 s1 h) = by (b == semicolon_byte)
  where
    inner : (c d : List ℕ) → To true (close_brace ∷ (u ++ v)) (close_brace ∷ u) c d
        → Step {A = Unit {0}} Equal Never close_brace (u ++ v) u (b ∷ r1) (Some (tt, c))
        (Some (tt, d))
    inner c d (inl k) = inl k
    inner c d (inr k) = inr (refl, k)

    by : (k : Bool)
        → Step {A = Unit {0}} Equal Never close_brace (u ++ v) u (b ∷ r1)
        (if k then Some (tt, past_blank r1) else None)
        (if k then Some (tt, past_blank s1) else None)
    by true =
        inner (past_blank r1) (past_blank s1) (past_blank-to close_brace u v brace_plain r1 s1 h)
    by false = tt

semicolons-guarded : (u v r s : List ℕ) → IsUtf8 r
    → Diverge (close_brace ∷ (u ++ v)) (close_brace ∷ u) r s
    → Guard Equal true (close_brace ∷ (u ++ v)) (close_brace ∷ u) (semicolons r) (semicolons s)
semicolons-guarded u v r s w h =
    by (each semicolon r) (each semicolon s)
    (each-repeats IsUtf8 Equal Never close_brace (u ++ v) u semicolon semicolon-takes
    (found-text semicolon semicolon-well) (λ a b x. semicolon-step u v a b) (length r) r s
    (omega arith) w h)
  where
    by : (a b : List (Unit {0}) × List ℕ) → Repeats Equal Never close_brace (u ++ v) u a b
        → Guard {A = Unit {0}} Equal true (close_brace ∷ (u ++ v)) (close_brace ∷ u) (got tt a.1)
        (got tt b.1)
    by a b (inl k) = inl k
    by a b (inr (inl k)) = absurd k
    by a b (inr (inr k)) = inr (refl, k.1)

semicolons-lawful : Lawful true (λ edition. semicolons) (λ edition. semicolons)
semicolons-lawful r s = record {
  left = λ edition. each-well semicolon semicolon-well r;
  same = λ h. refl;
  guard =
      λ edition t u m w h. at-brace (λ t u. Diverge t u r s
      → Guard Equal true t u (semicolons r) (semicolons s)) (λ u v. semicolons-guarded u v r s w) t
      u m h;
}

-- no byte of the word is a closing brace
abbrev NoBrace : List ℕ → Type 0
NoBrace [] = Unit {0}
NoBrace (c ∷ word) = (eqb c close_brace ≡ false) × NoBrace word

-- a word without a brace is at both or at neither
begins-diverge : (t u word : List ℕ) → NoBrace word → (r s : List ℕ)
    → Diverge (close_brace ∷ t) (close_brace ∷ u) r s
    → starts_with eqb r word ≡ starts_with eqb s word
begins-diverge t u [] n r s h = refl
begins-diverge t u (c ∷ word) n r s at = let e : eqb c close_brace ≡ false = n.0 in rw e refl
begins-diverge t u (c ∷ word) n r s (on b r1 s1 h) =
    ap (λ (k : Bool). eqb c b && k) (begins-diverge t u word n.1 r1 s1 h)

important_word-well : (text : List ℕ) → starts_with eqb text (codes "important") ≡ true
    → EndsWell text (drop 9 text)
unfolding encode
important_word-well text e =
    let same = (bytes_eq-Decides (codes "important") (take 9 text)).0 e in
    let whole : text ≡ codes "important" ++ drop 9 text =
    sym (take-append-drop 9 text) ∙ ap (λ l. l ++ drop 9 text) (sym same) in (
      ends-drop 9 text,
      λ u. utf8-second (codes "important") (drop 9 text) (subst IsUtf8 whole u)
          (codes "important", (refl, refl)),
    )

important_word-lawful : Lawful true (λ edition. important_word) (λ edition. important_word)
important_word-lawful r s =
    owes-choice r s (λ edition. starts_with eqb r (codes "important"))
    (λ edition. starts_with eqb s (codes "important")) _ _ _ _ (λ h. refl)
    (λ edition t u m h. inl
    (at-brace (λ t u. Diverge t u r s
    → starts_with eqb r (codes "important") ≡ starts_with eqb s (codes "important"))
    (λ u v. begins-diverge (u ++ v) u (codes "important")
    (refl, (refl, (refl, (refl, (refl, (refl, (refl, (refl, (refl, tt))))))))) r s) t u m h))
    (λ edition e. record {
      left = λ edition. important_word-well r e;
      same = λ h. refl;
      guard =
          λ edition t u m v h. guard-got Equal true t u true true (drop 9 r) (drop 9 s) refl
          (at-brace (λ t u. Diverge t u r s → To true t u (drop 9 r) (drop 9 s))
          (λ u v. drop-to close_brace (u ++ v) u 9 r s) t u m h);
    })
    (owes-give false r s)

importance-lawful : Lawful true (λ edition. importance) (λ edition. importance)
unfolding importance
importance-lawful r s =
    owes-sign exclamation_mark (omega arith) (λ edition q e w. absurd (cc))
    (owes-follow _ _ (blank-lawful (past_one r) (past_one s)) (λ u. important_word-lawful))
    (owes-give false r s)

trailing-lawful : Lawful true (λ edition. trailing) (λ edition. trailing)
unfolding trailing
trailing-lawful r s =
    owes-follow _ _ (blank-lawful r s) (λ u r s.
    owes-follow _ _ (importance-lawful r s) (λ important r s.
    owes-follow _ _ (blank-lawful r s) (λ u r s.
    owes-follow _ _ (semicolons-lawful r s) (λ u r s.
    owes-follow _ _ (blank-lawful r s) (λ u. owes-give important)))))

pub trailing-occurs : (text : List ℕ) → Occurs text no_texts (trailing text)
trailing-occurs text =
    lawful-occurs (λ edition. trailing) (λ edition. trailing) trailing-lawful first_edition text

-- ---- declarations

unless_empty-lawful : (start other : List ℕ) (declared : StyleDeclaration)
    → Lawful true (λ edition. unless_empty start declared) (λ edition. unless_empty other declared)
unless_empty-lawful start other declared r s =
    owes-if (length declared.value == 0) (owes-fails _ _ r s) (owes-give declared r s)

-- what follows the name, up to the value
abbrev name_end : List ℕ → Edition → Reader (List ℕ)
name_end property edition = do
  blank
  byte colon
  blank
  give property

name_end-lawful : (property : List ℕ) → Lawful true (name_end property) (name_end property)
name_end-lawful property r s =
    owes-follow _ _ (blank-lawful r s) (λ u r s.
    owes-follow _ _ (byte-lawful colon (omega arith) r s) (λ u r s.
    owes-follow _ _ (blank-lawful r s) (λ u. owes-give property)))

stated_name-lawful : Lawful true stated_name stated_name
unfolding stated_name
stated_name-lawful r s =
    owes-follow _ _ (blank-lawful r s) (λ u r s.
    owes-follow _ _ (optional-lawful asterisk (omega arith) refl r s) (λ u r s.
    owes-follow _ _ (name-lawful r s) name_end-lawful))

stated_name-cuts : (edition : Edition) (text : List ℕ) → Cuts text (stated_name edition text)
unfolding stated_name
stated_name-cuts edition text =
    follow-cuts text (blank text) _ (length-ends text (left_after (blank text)) (well-blank text).0)
    (λ u a.
    follow-cuts a (optional asterisk a) _ (length-past_byte asterisk a) (λ u b.
    cuts-follow b (name edition b) (λ property. name_end property edition) (name-cuts edition b)
    (λ property. lawful-keeps (name_end property) (name_end property)
    (name_end-lawful property) edition)))

pub stated_name-occurs : (edition : Edition) (text : List ℕ)
    → Occurs text no_texts (stated_name edition text)
stated_name-occurs edition text =
    lawful-occurs stated_name stated_name stated_name-lawful edition text

-- a declaration after its name and its colon
abbrev pub stated_value : List ℕ → Edition → Reader StyleDeclaration
stated_value property edition = do
  start ← here
  stated ← value_reader edition
  important ← trailing
  unless_empty start (record { name = property; value = stated; important = important })

stated_value-lawful : (property : List ℕ)
    → Lawful true (stated_value property) (stated_value property)
stated_value-lawful property start other =
    owes-follow _ _ (value-lawful start other) (λ stated r s.
    owes-follow _ _ (trailing-lawful r s) (λ important.
    unless_empty-lawful start other
    (record { name = property; value = stated; important = important })))

pub declaration-lawful : Lawful true declaration declaration
unfolding declaration
declaration-lawful r s = owes-follow _ _ (stated_name-lawful r s) stated_value-lawful

-- it consumes a byte or more
pub declaration-cuts : (edition : Edition) (text : List ℕ) → Cuts text (declaration edition text)
unfolding declaration
declaration-cuts edition text =
    cuts-follow text (stated_name edition text) (λ property. stated_value property edition)
    (stated_name-cuts edition text)
    (λ property. lawful-keeps (stated_value property) (stated_value property)
    (stated_value-lawful property) edition)

-- after two readers, of which the second is itself followed by one, all three follow one another
follow-follow : {A B C : Type 0} (r : Reading A) (next : A → Reader B) (more : B → Reader C)
    (both : A → Reader C) → ((x : A) (t : List ℕ) → follow (next x t) more ≡ both x t)
    → follow (follow r next) more ≡ follow r both
follow-follow (got x rest) next more both h = h x rest
follow-follow (fails fault rest) next more both h = refl

-- a declaration, one reader after another
pub declaration-steps : (edition : Edition) (text : List ℕ)
    → declaration edition text
    ≡ follow (blank text)
    (λ u a. follow (name edition (past_byte asterisk a))
    (λ property c. follow (blank c)
    (λ u d. follow (byte colon d)
    (λ u e. follow (blank e) (λ u start. stated_value property edition start)))))
unfolding declaration stated_name
declaration-steps edition text =
    let more : List ℕ → Reader StyleDeclaration = λ property. stated_value property edition in
    follow-follow (blank text) _ more _ (λ u a.
    follow-follow (name edition (past_byte asterisk a)) _ more _ (λ property c.
    follow-follow (blank c) _ more _ (λ u d.
    follow-follow (byte colon d) _ more _ (λ u e.
    follow-follow (blank e) (λ u. give property) more _ (λ u start. refl)))))

pub declaration-occurs : (edition : Edition) (text : List ℕ)
    → Occurs text no_texts (declaration edition text)
declaration-occurs edition text =
    lawful-occurs declaration declaration declaration-lawful edition text

-- ---- blocks

pub declaration_in_block-well : (edition : Edition) (text : List ℕ)
    → WellFound text (declaration_in_block edition text)
declaration_in_block-well edition text =
    by (ends_list text) (declaration edition text) ((declaration-lawful text text).left edition)
  where
    by : (k : Bool) (r : Reading StyleDeclaration) → EndsWell text (left_after r)
        → WellFound text (if k then None else found r)
    by true r h = tt
    by false (got declared rest) h = h
    by false (fails fault rest) h = tt

pub declaration_in_block-ends : (edition : Edition) (text : List ℕ)
    → EndsFound text (declaration_in_block edition text)
declaration_in_block-ends edition text =
    found-ends text (declaration_in_block edition text) (declaration_in_block-well edition text)

pub ends-from_block_end : (text : List ℕ) → Ends text (from_block_end text)
ends-from_block_end text = ends-drop (block_end text) text
