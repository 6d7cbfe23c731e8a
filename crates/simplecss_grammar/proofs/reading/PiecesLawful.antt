-- The pieces of a selector owe what every reader owes, and consume bytes.
-- Serves `SelectorTokenizer`, `StyleSheet::{parse, parse_more}` and `laws::{cutting_law,
-- edition_law}`.
use Rattle.std.proofs.Common.{◌≡◌, ◌≤◌, Bool, List, [], ap, arith, bytes_eq, codes, false, if◌then◌else◌, inl, inr, length, not, refl, subst, true, ℕ, ◌++◌, ◌==◌, ◌∷◌, ◌<◌, eqb-true}
use Rattle.std.specs.List.{list_any}
use Rattle.std.specs.Str.{trim}
use Rattle.css_text.specs.AsciiBytes.{close_brace, close_bracket, close_parenthesis, equals_sign, open_parenthesis, tilde, vertical_bar}
use Rattle.css_text.specs.Reading.{Ends, Reading, before, each, ended, fails, follow, got, left_after, no_attribute_form, no_comment, no_language, no_selector}
use Rattle.css_text.specs.Bytes.{all_before, past, past_one}
use Rattle.simplecss_grammar.specs.declared.next_kind.NextKind.{NextKind}
use Rattle.simplecss_grammar.specs.declared.next_kind.NextKind.TheVariants.{Stop, Slash, Child, Adjacent, Universal, Id, Class, Attribute, Colon, Other}
use Rattle.css_text.specs.Characters.{Edition}
use Rattle.css_text.specs.Comments.{blank, blank_part, gap, opens_comment}
use Rattle.css_text.specs.Names.{name}
use Rattle.css_text.specs.Strings.{is_quote, string_or_name}
use Rattle.simplecss_grammar.specs.Components.{Operator}
use Rattle.simplecss_grammar.specs.Components.Operator.{begins_with, equals, exists, has_word}
use Rattle.simplecss_grammar.specs.Tokens.{Token}
use Rattle.simplecss_grammar.specs.Tokens.Token.{adjacent_combinator, attribute_selector, child_combinator, class_selector, id_selector, lang_pseudo_class, named_pseudo_class, type_selector, universal_selector}
use Rattle.simplecss_grammar.specs.Pieces.{attribute_after, attribute_operator, next_kind, solid_as, equated, lang_after, lang_of, named_token, next_piece, piece, pseudo_class_after, pseudo_class_named, solid}
use Rattle.css_text.proofs.reading.EachLemmas.{Takes}
use Rattle.css_text.proofs.reading.TakesLemmas.{Cuts, cuts-follow, follow-cuts, found-shrinks, name-cuts}
use Rattle.css_text.proofs.reading.EndsLemmas.{ends-same, length-ends}
use Rattle.simplecss_grammar.proofs.reading.KindLemmas.{HasSign, sign-begins}
use Rattle.css_text.proofs.reading.WellLemmas.{well-after, well-gap, well-until}
use Rattle.simplecss_grammar.proofs.reading.ReadValues.{quote_low}
use Rattle.simplecss_grammar.proofs.reading.Lawful.{Lawful, Owes, byte-lawful, lawful-cases, name-lawful, owes-alike, owes-cuts, owes-fails, owes-follow, owes-give, owes-if, owes-past, owes-past_one, owes-so, string_after-lawful}
use Rattle.simplecss_grammar.proofs.reading.LocalLemmas.{Diverge, Equal, Guard, Never, Repeats, To, at, at-brace, before-diverge, on, pairs-equal, past-both}
use Rattle.simplecss_grammar.proofs.reading.SearchLemmas.{blank-repeats, brace_plain, opens_comment-diverge}

pub string_or_name-lawful : Lawful true string_or_name string_or_name
unfolding string_or_name
string_or_name-lawful =
    lawful-cases string_or_name string_or_name (λ e. absurd (cc)) (owes-fails ended ended [] [])
    (λ b r s.
    owes-so (is_quote b) _ _ (λ e. owes-past b (quote_low b e) (string_after-lawful true b e r s))
    (λ e. name-lawful (b ∷ r) (b ∷ s)))

named_token-lawful : (token : List ℕ → Token)
    → Lawful true (λ edition. named_token edition token) (λ edition. named_token edition token)
unfolding named_token
named_token-lawful token r s = owes-follow _ _ (name-lawful r s) (λ n. owes-give (token n))

-- ---- attributes

equated-lawful : (operator : List ℕ → Operator)
    → Lawful true (λ edition. equated edition operator) (λ edition. equated edition operator)
equated-lawful operator r s =
    owes-follow _ _ (byte-lawful equals_sign (omega arith) r s) (λ u r s.
    owes-follow _ _ (string_or_name-lawful r s) (λ value. owes-give (operator value)))

pub attribute_operator-lawful : Lawful true attribute_operator attribute_operator
unfolding attribute_operator
attribute_operator-lawful =
    lawful-cases attribute_operator attribute_operator (λ e. absurd (cc))
    (owes-fails ended ended [] []) (λ b r s.
    owes-if (b == close_bracket) (owes-give exists (b ∷ r) (b ∷ s))
    (owes-if (b == equals_sign) (equated-lawful equals (b ∷ r) (b ∷ s))
    (owes-so (b == tilde) _ _
    (λ e. owes-past b (omega (arith, eqb-true b tilde e)) (equated-lawful has_word r s)) (λ f.
    owes-so (b == vertical_bar) _ _
    (λ e. owes-past b (omega (arith, eqb-true b vertical_bar e)) (equated-lawful begins_with r s))
    (λ g.
    owes-fails no_attribute_form no_attribute_form (b ∷ r) (b ∷ s))))))

attribute_after-lawful : Lawful true attribute_after attribute_after
unfolding attribute_after
attribute_after-lawful r s =
    owes-follow _ _ (name-lawful r s) (λ n r s.
    owes-follow _ _ (attribute_operator-lawful r s) (λ operator r s.
    owes-follow _ _ (byte-lawful close_bracket (omega arith) r s)
    (λ u. owes-give (attribute_selector n operator))))

-- ---- pseudo-classes

pub all_before-lawful : (c : ℕ) → c < 128
    → Lawful true (λ edition. all_before c) (λ edition. all_before c)
all_before-lawful c low r s = record {
  left = λ edition. well-until c low r;
  same = λ h. refl;
  guard =
      λ edition t u m w h. at-brace (λ t u. Diverge t u r s
      → Guard Equal true t u (all_before c r) (all_before c s))
      (λ u v h. by u v h (past (λ b. not (b == c)) r) (past (λ b. not (b == c)) s)
      (past-both close_brace (u ++ v) u (λ b. not (b == c)) r s h)) t u m h;
}
  where
    by : (u v : List ℕ) → Diverge (close_brace ∷ (u ++ v)) (close_brace ∷ u) r s → (x y : List ℕ)
        → To true (close_brace ∷ (u ++ v)) (close_brace ∷ u) x y
        → Guard Equal true (close_brace ∷ (u ++ v)) (close_brace ∷ u) (got (before r x) x)
        (got (before s y) y)
    by u v h x y (inl l) = inl l
    by u v h x y (inr k) =
        inr (before-diverge (close_brace ∷ (u ++ v)) (close_brace ∷ u) r s x y h k, k)

lang_of-lawful : (value : List ℕ)
    → Lawful true (λ edition. lang_of value) (λ edition. lang_of value)
lang_of-lawful value r s =
    owes-if (length value == 0) (owes-fails no_language no_language r s)
    (owes-give (lang_pseudo_class value) r s)

lang_after-lawful : Lawful true (λ edition. lang_after) (λ edition. lang_after)
unfolding lang_after
lang_after-lawful r s =
    owes-follow _ _ (byte-lawful open_parenthesis (omega arith) r s) (λ u r s.
    owes-follow _ _ (all_before-lawful close_parenthesis (omega arith) r s) (λ value r s.
    owes-follow _ _ (byte-lawful close_parenthesis (omega arith) r s)
    (λ u. lang_of-lawful (trim value))))

pseudo_class_after-lawful : Lawful true pseudo_class_after pseudo_class_after
unfolding pseudo_class_after
pseudo_class_after-lawful r s =
    owes-follow (λ n edition. pseudo_class_named n) (λ n edition. pseudo_class_named n)
    (name-lawful r s)
    (λ n r s. owes-if (bytes_eq n (codes "lang")) (lang_after-lawful r s)
    (owes-give (named_pseudo_class n) r s))

-- ---- solid pieces

-- what follows the sign that a kind begins with
owes-sign_of : {A : Type 0} {a b : Edition → Reading A} (kind : NextKind) (r s : List ℕ)
    → HasSign kind → next_kind r ≡ kind → Owes true (past_one r) (past_one s) a b
    → Owes true r s a b
owes-sign_of kind r s h k p =
    let sign = sign-begins kind r h k in
    owes-past_one r s (omega (arith, ap length sign.is))
    (well-after sign.byte r (past_one r) sign.ascii (subst (Ends r) sign.is (ends-same r))) p

solid_as-lawful : (r s : List ℕ) (kind : NextKind) → next_kind r ≡ kind
    → Owes true r s (λ edition. solid_as edition kind r) (λ edition. solid_as edition kind s)
solid_as-lawful r s Stop k = owes-fails no_selector no_selector r s
solid_as-lawful r s Slash k = owes-fails no_selector no_selector r s
solid_as-lawful r s Child k =
    owes-sign_of Child r s tt k (owes-give child_combinator (past_one r) (past_one s))
solid_as-lawful r s Adjacent k =
    owes-sign_of Adjacent r s tt k (owes-give adjacent_combinator (past_one r) (past_one s))
solid_as-lawful r s Universal k =
    owes-sign_of Universal r s tt k (owes-give universal_selector (past_one r) (past_one s))
solid_as-lawful r s Id k =
    owes-sign_of Id r s tt k (named_token-lawful id_selector (past_one r) (past_one s))
solid_as-lawful r s Class k =
    owes-sign_of Class r s tt k (named_token-lawful class_selector (past_one r) (past_one s))
solid_as-lawful r s Attribute k =
    owes-sign_of Attribute r s tt k (attribute_after-lawful (past_one r) (past_one s))
solid_as-lawful r s Colon k =
    owes-sign_of Colon r s tt k (pseudo_class_after-lawful (past_one r) (past_one s))
solid_as-lawful r s Other k = named_token-lawful type_selector r s

pub next_kind-diverge : (g : ℕ) (t u r s : List ℕ) → Diverge (g ∷ t) (g ∷ u) r s
    → next_kind r ≡ next_kind s
unfolding next_kind
next_kind-diverge g t u r s at = refl
next_kind-diverge g t u r s (on b r1 s1 h) = refl

pub solid-lawful : Lawful true solid solid
unfolding solid
solid-lawful r s =
    owes-alike
    (λ edition t u m h. ap (λ k. solid_as edition k s)
    (at-brace (λ t u. Diverge t u r s → next_kind r ≡ next_kind s)
    (λ u v. next_kind-diverge close_brace (u ++ v) u r s) t u m h))
    (solid_as-lawful r s (next_kind r) refl)

-- ---- gaps

abbrev gap_of : List Bool × List ℕ → Reading Bool
gap_of a =
    follow (if opens_comment a.1 then fails (no_comment a.1) [] else got (tt {0}) a.1)
    (λ x. got (list_any (λ is_space_byte. is_space_byte) a.0))

gap_of-to : (t u : List ℕ) (a b : List Bool × List ℕ) → Repeats Equal Never close_brace t u a b
    → Guard Equal true (close_brace ∷ t) (close_brace ∷ u) (gap_of a) (gap_of b)
gap_of-to t u a b (inl l) = inl (by (opens_comment a.1))
  where
    by : (k : Bool)
        → length (left_after
        (follow (if k then fails (no_comment a.1) [] else got (tt {0}) a.1)
        (λ x. got (list_any (λ is_space_byte. is_space_byte) a.0)))) ≤ length t
    by true = omega arith
    by false = l
gap_of-to t u a b (inr (inl k)) = absurd k
gap_of-to t u a b (inr (inr k)) =
    by (opens_comment a.1) (opens_comment b.1)
    (opens_comment-diverge close_brace t u brace_plain a.1 b.1 k.1)
  where
    spaces : list_any (λ is_space_byte. is_space_byte) a.0 ≡ list_any
        (λ is_space_byte. is_space_byte) b.0
    spaces =
        ap (λ (xs : List Bool). list_any (λ is_space_byte. is_space_byte) xs)
        (pairs-equal a.0 b.0 k.0)

    by : (i j : Bool) → i ≡ j
        → Guard Equal true (close_brace ∷ t) (close_brace ∷ u)
        (follow (if i then fails (no_comment a.1) [] else got (tt {0}) a.1)
        (λ x. got (list_any (λ is_space_byte. is_space_byte) a.0)))
        (follow (if j then fails (no_comment b.1) [] else got (tt {0}) b.1)
        (λ x. got (list_any (λ is_space_byte. is_space_byte) b.0)))
    by true true e = inl (omega arith)
    by true false e = absurd (cc)
    by false true e = absurd (cc)
    by false false e = inr (spaces, k.1)

pub gap-guarded : (u v r s : List ℕ) → Diverge (close_brace ∷ (u ++ v)) (close_brace ∷ u) r s
    → Guard Equal true (close_brace ∷ (u ++ v)) (close_brace ∷ u) (gap r) (gap s)
unfolding gap blank
gap-guarded u v r s h =
    gap_of-to (u ++ v) u (each blank_part r) (each blank_part s)
    (blank-repeats close_brace u v brace_plain r s h)

-- ---- pieces consume a byte or more

named_token-cuts : (edition : Edition) (token : List ℕ → Token) (text : List ℕ)
    → Cuts text (named_token edition token text)
unfolding named_token
named_token-cuts edition token text =
    cuts-follow text (name edition text) (λ n. got (token n)) (name-cuts edition text)
    (λ n rest. omega arith)

solid_as-cuts : (edition : Edition) (kind : NextKind) (b : ℕ) (text : List ℕ)
    → Cuts (b ∷ text) (solid_as edition kind (b ∷ text))
solid_as-cuts edition Stop b text = omega arith
solid_as-cuts edition Slash b text = omega arith
solid_as-cuts edition Child b text = omega arith
solid_as-cuts edition Adjacent b text = omega arith
solid_as-cuts edition Universal b text = omega arith
solid_as-cuts edition Id b text = owes-cuts b (named_token-lawful id_selector text text) edition
solid_as-cuts edition Class b text =
    owes-cuts b (named_token-lawful class_selector text text) edition
solid_as-cuts edition Attribute b text = owes-cuts b (attribute_after-lawful text text) edition
solid_as-cuts edition Colon b text = owes-cuts b (pseudo_class_after-lawful text text) edition
solid_as-cuts edition Other b text = named_token-cuts edition type_selector (b ∷ text)

-- a solid piece consumes a byte or more
pub solid-cuts : (edition : Edition) (text : List ℕ) → Cuts text (solid edition text)
unfolding solid next_kind
solid-cuts edition [] = omega arith
solid-cuts edition (b ∷ text) = solid_as-cuts edition (next_kind (b ∷ text)) b text

piece-cuts : (edition : Edition) (text : List ℕ) → Cuts text (piece edition text)
unfolding piece
piece-cuts edition text =
    follow-cuts text (gap text) _ (length-ends text (left_after (gap text)) (well-gap text).0)
    (λ spaced start.
    cuts-follow start (solid edition start) _ (solid-cuts edition start)
    (λ token after. omega arith))

pub next_piece-takes : (edition : Edition) → Takes (next_piece edition)
next_piece-takes edition text = found-shrinks text (piece edition text) (piece-cuts edition text)
