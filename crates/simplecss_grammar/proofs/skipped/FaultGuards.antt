-- The readers of selectors fail by the same fault where the text is cut after a closing brace or
-- later.
-- Serves `laws::skips_are_cut` (what is skipped of a text in pieces).
use Rattle.std.proofs.Common.{◌≡◌, ◌≤◌, ◌⊎◌, ℕ, Bool, true, false, if◌then◌else◌, ◌==◌, List, ◌∷◌, ◌++◌, arith, bytes_eq, codes, inl, inr, length, refl, subst, IsUtf8, eqb-true, ◌<◌, Option, Some, None}
use Rattle.std.specs.Str.{trim, chars}
use Rattle.css_text.specs.AsciiBytes.{close_brace, close_bracket, close_parenthesis, equals_sign, open_parenthesis, tilde, vertical_bar}
use Rattle.css_text.specs.Reading.{Ends, Fault, wrong_byte, no_name, no_comment, no_attribute_form, no_language, no_selector, Reading, got, fails, follow, Reader, give, left_after}
use Rattle.css_text.specs.Bytes.{byte, all_before, past_one}
use Rattle.css_text.specs.Errors.{error_of}
use Rattle.css_text.specs.Characters.{Edition}
use Rattle.css_text.specs.Names.{begins_name, name}
use Rattle.css_text.specs.Strings.{is_quote, string_or_name, string_after, string_up_to, from_quote}
use Rattle.simplecss_grammar.specs.Components.{Operator}
use Rattle.simplecss_grammar.specs.Components.Operator.{equals, has_word, begins_with}
use Rattle.simplecss_grammar.specs.Tokens.{Token}
use Rattle.simplecss_grammar.specs.Tokens.Token.{type_selector, id_selector, class_selector, attribute_selector, named_pseudo_class, lang_pseudo_class}
use Rattle.simplecss_grammar.specs.declared.next_kind.NextKind.{NextKind}
use Rattle.simplecss_grammar.specs.declared.next_kind.NextKind.TheVariants.{Stop, Slash, Child, Adjacent, Universal, Id, Class, Attribute, Colon, Other}
use Rattle.simplecss_grammar.specs.Pieces.{equated, attribute_operator, attribute_after, lang_of, lang_after, pseudo_class_named, pseudo_class_after, named_token, next_kind, solid_as}
use Rattle.css_text.proofs.bytes.Utf8Lemmas.{utf8-after}
use Rattle.css_text.proofs.reading.EndsLemmas.{ends-same}
use Rattle.simplecss_grammar.proofs.reading.KindLemmas.{HasSign, sign-begins}
use Rattle.css_text.proofs.reading.WellLemmas.{well-after}
use Rattle.simplecss_grammar.proofs.reading.LocalLemmas.{Diverge, at, on, Guard, Equal, past_one-diverge}
use Rattle.simplecss_grammar.proofs.reading.Lawful.{Lawful, byte-lawful, name-lawful, owes-give, owes-fails, owes-follow, owes-if, lawful-guarded, lawful-keeps, lawful-text}
use Rattle.simplecss_grammar.proofs.reading.PiecesLawful.{string_or_name-lawful, attribute_operator-lawful, all_before-lawful}

-- the same fault, at the same offset
pub data FaultsAlike (t u : List ℕ) : Fault → Fault → Type 0 where
  no_position : (f : Fault) → ((text other : List ℕ) → error_of text f ≡ error_of other f)
      → FaultsAlike t u f f
  byte_position : (expected : ℕ) (r s : List ℕ) → Diverge (close_brace ∷ t) (close_brace ∷ u) r s
      → FaultsAlike t u (wrong_byte expected r) (wrong_byte expected s)
  name_position : (r s : List ℕ) → Diverge (close_brace ∷ t) (close_brace ∷ u) r s
      → FaultsAlike t u (no_name r) (no_name s)
  comment_position : (r s : List ℕ) → Diverge (close_brace ∷ t) (close_brace ∷ u) r s
      → FaultsAlike t u (no_comment r) (no_comment s)

-- where both fail, the faults are alike
abbrev pub Reports : {A : Type 0} → List ℕ → List ℕ → Reading A → Reading A → Type 0
Reports t u (fails f r) (fails e s) = FaultsAlike t u f e
Reports t u (fails f r) (got y s) = Unit {0}
Reports t u (got x r) b = Unit {0}

-- of two readings, the first has passed the brace, or their faults are alike
abbrev pub FaultGuard : {A : Type 0} → List ℕ → List ℕ → Reading A → Reading A → Type 0
FaultGuard t u a b = (length (left_after a) ≤ length t) ⊎ Reports t u a b

-- a reader that owes what every reader owes, and the same faults
pub record Heard {A : Type 0} (m : Edition → Reader A) : Type 0 where
  pub lawful : Lawful true m m
  pub reports : (edition : Edition) (u v r s : List ℕ) → IsUtf8 r
      → Diverge (close_brace ∷ (u ++ v)) (close_brace ∷ u) r s
      → FaultGuard (u ++ v) u (m edition r) (m edition s)

heard-give : {A : Type 0} (x : A) → Heard (λ edition. give x)
heard-give x = record { lawful = owes-give x; reports = λ edition u v r s w h. inr tt }

heard-follow : {A B : Type 0} (m : Edition → Reader A) (n : A → Edition → Reader B) → Heard m
    → ((x : A) → Heard (n x)) → Heard (λ edition text. follow (m edition text) (λ x. n x edition))
heard-follow {A = A} {B = B} m n p q = record {
  lawful = λ r s. owes-follow n n (p.lawful r s) (λ x. (q x).lawful);
  reports = λ edition u v r s w h. by edition u v (m edition r) (m edition s)
      (lawful-text m m p.lawful edition r w)
      (lawful-guarded m m p.lawful edition u v r s w h) (p.reports edition u v r s w h);
}
  where
    by : (edition : Edition) (u v : List ℕ) (a b : Reading A) → IsUtf8 (left_after a)
        → Guard Equal true (close_brace ∷ (u ++ v)) (close_brace ∷ u) a b
        → FaultGuard (u ++ v) u a b
        → FaultGuard (u ++ v) u (follow a (λ x. n x edition)) (follow b (λ x. n x edition))
    by edition u v (got x i) b z (inl l) k =
        inl (omega (arith, l, lawful-keeps (n x) (n x) (q x).lawful edition i))
    by edition u v (fails f i) b z (inl l) k = inl l
    by edition u v (got x i) (got y j) z (inr g) k =
        subst (λ (d : A). FaultGuard (u ++ v) u (n x edition i) (n d edition j)) g.0
        ((q x).reports edition u v i j z g.1)
    by edition u v (got x i) (fails f j) z (inr g) k = absurd g
    by edition u v (fails f i) (got y j) z (inr g) k = absurd g
    by edition u v (fails f i) (fails e j) z (inr g) (inl l) = inl l
    by edition u v (fails f i) (fails e j) z (inr g) (inr a) = inr a

heard-if : {A : Type 0} (k : Bool) (m n : Edition → Reader A) → Heard m → Heard n
    → Heard (λ edition text. if k then m edition text else n edition text)
heard-if true m n p q = record {
  lawful = λ r s. owes-if true (p.lawful r s) (q.lawful r s);
  reports = λ edition u v r s w h. p.reports edition u v r s w h;
}
heard-if false m n p q = record {
  lawful = λ r s. owes-if false (p.lawful r s) (q.lawful r s);
  reports = λ edition u v r s w h. q.reports edition u v r s w h;
}

-- ---- bytes, names, strings

heard-byte : (c : ℕ) → c < 128 → Heard (λ edition. byte c)
heard-byte c low =
    record { lawful = byte-lawful c low; reports = λ edition u v r s w h. by (u ++ v) u r s h }
  where
    one : (t u : List ℕ) (b : ℕ) (r s : List ℕ)
        → Diverge (close_brace ∷ t) (close_brace ∷ u) (b ∷ r) (b ∷ s)
        → (k : Bool)
        → FaultGuard t u
        (if k then got (tt {0}) r else fails (wrong_byte c (b ∷ r)) (b ∷ r))
        (if k then got (tt {0}) s else fails (wrong_byte c (b ∷ s)) (b ∷ s))
    one t u b r s h true = inr tt
    one t u b r s h false = inr (byte_position c (b ∷ r) (b ∷ s) h)

    by : (t u r s : List ℕ) → Diverge (close_brace ∷ t) (close_brace ∷ u) r s
        → FaultGuard t u (byte c r) (byte c s)
    by t u r s at = one t u close_brace t u at (close_brace == c)
    by t u r s (on b r1 s1 h) = one t u b r1 s1 (on b r1 s1 h) (b == c)

name-fault : (edition : Edition) (text left : List ℕ) (f : Fault) → name edition text ≡ fails f left
    → f ≡ no_name text
unfolding name
name-fault edition text left f e = by _ _ _ (begins_name edition (chars text)) e
  where
    by : (n after other : List ℕ) (k : Bool)
        → (if k then got n after else fails (no_name text) other) ≡ fails f left
        → f ≡ no_name text
    by n after other true h = absurd (cc)
    by n after other false h = cc

heard-name : Heard name
heard-name = record {
  lawful = name-lawful;
  reports = λ edition u v r s w h. by edition u v r s h (name edition r) (name edition s) refl refl;
}
  where
    by : (edition : Edition) (u v r s : List ℕ)
        → Diverge (close_brace ∷ (u ++ v)) (close_brace ∷ u) r s
        → (a b : Reading (List ℕ)) → name edition r ≡ a → name edition s ≡ b
        → FaultGuard (u ++ v) u a b
    by edition u v r s h (got x i) b e k = inr tt
    by edition u v r s h (fails f i) (got y j) e k = inr tt
    by edition u v r s h (fails f i) (fails g j) e k =
        rw (name-fault edition r i f e, name-fault edition s j g k) (inr (name_position r s h))

string-reported : (t u r s : List ℕ) (o p : Option (List ℕ))
    → FaultGuard t u (string_up_to r o) (string_up_to s p)
string-reported t u r s None p = inl (omega arith)
string-reported t u r s (Some x) p = inr tt

heard-string_or_name : Heard string_or_name
unfolding string_or_name
heard-string_or_name = record {
  lawful = string_or_name-lawful;
  reports = λ edition u v r s w h. by edition u v r s w h;
}
  where
    quoted : (edition : Edition) (u v : List ℕ) (b : ℕ) (r s : List ℕ) (k : Bool)
        → FaultGuard (u ++ v) u (name edition (b ∷ r)) (name edition (b ∷ s))
        → FaultGuard (u ++ v) u (if k then string_after b r else name edition (b ∷ r))
        (if k then string_after b s else name edition (b ∷ s))
    quoted edition u v b r s true h =
        string-reported (u ++ v) u r s (from_quote b b r) (from_quote b b s)
    quoted edition u v b r s false h = h

    by : (edition : Edition) (u v r s : List ℕ) → IsUtf8 r
        → Diverge (close_brace ∷ (u ++ v)) (close_brace ∷ u) r s
        → FaultGuard (u ++ v) u (string_or_name edition r) (string_or_name edition s)
    by edition u v r s w at =
        heard-name.reports edition u v (close_brace ∷ (u ++ v)) (close_brace ∷ u) w at
    by edition u v r s w (on b r1 s1 h) =
        quoted edition u v b r1 s1 (is_quote b)
        (heard-name.reports edition u v (b ∷ r1) (b ∷ s1) w (on b r1 s1 h))

-- ---- attributes and pseudo-classes

named : (token : List ℕ → Token) → Heard (λ edition. named_token edition token)
unfolding named_token
named token = heard-follow name (λ n edition. give (token n)) heard-name (λ n. heard-give (token n))

heard-equated : (operator : List ℕ → Operator) → Heard (λ edition. equated edition operator)
heard-equated operator =
    heard-follow (λ edition. byte equals_sign)
    (λ u edition text. follow (string_or_name edition text) (λ value. give (operator value)))
    (heard-byte equals_sign (omega arith))
    (λ u. heard-follow string_or_name (λ value edition. give (operator value)) heard-string_or_name
    (λ value. heard-give (operator value)))

heard-attribute_operator : Heard attribute_operator
unfolding attribute_operator
heard-attribute_operator = record {
  lawful = attribute_operator-lawful;
  reports = λ edition u v r s w h. by edition u v r s w h;
}
  where
    choose : {A : Type 0} (t u : List ℕ) (k : Bool) (a b x y : Reading A)
        → (k ≡ true → FaultGuard t u a b) → (k ≡ false → FaultGuard t u x y)
        → FaultGuard t u (if k then a else x) (if k then b else y)
    choose t u true a b x y p q = p refl
    choose t u false a b x y p q = q refl

    following : (b : ℕ) (r : List ℕ) → b < 128 → IsUtf8 (b ∷ r) → IsUtf8 r
    following b r low w = utf8-after (b ∷ r) r b low w (ends-same (b ∷ r))

    by : (edition : Edition) (u v r s : List ℕ) → IsUtf8 r
        → Diverge (close_brace ∷ (u ++ v)) (close_brace ∷ u) r s
        → FaultGuard (u ++ v) u (attribute_operator edition r) (attribute_operator edition s)
    by edition u v r s w at = inr (no_position no_attribute_form (λ text other. refl))
    by edition u v r s w (on b r1 s1 h) =
        choose (u ++ v) u (b == close_bracket) _ _ _ _ (λ e. inr tt) (λ e1.
        choose (u ++ v) u (b == equals_sign) _ _ _ _
        (λ e. (heard-equated equals).reports edition u v (b ∷ r1) (b ∷ s1) w (on b r1 s1 h)) (λ e2.
        choose (u ++ v) u (b == tilde) _ _ _ _
        (λ e. (heard-equated has_word).reports edition u v r1 s1
        (following b r1 (omega (arith, eqb-true b tilde e)) w) h) (λ e3.
        choose (u ++ v) u (b == vertical_bar) _ _ _ _
        (λ e. (heard-equated begins_with).reports edition u v r1 s1
        (following b r1 (omega (arith, eqb-true b vertical_bar e)) w) h)
        (λ e4. inr (no_position no_attribute_form (λ text other. refl))))))

heard-attribute_after : Heard attribute_after
unfolding attribute_after
heard-attribute_after =
    heard-follow name
    (λ n edition text. follow (attribute_operator edition text)
    (λ operator text. follow (byte close_bracket text) (λ u. give (attribute_selector n operator))))
    heard-name
    (λ n. heard-follow attribute_operator
    (λ operator edition text.
    follow (byte close_bracket text) (λ u. give (attribute_selector n operator)))
    heard-attribute_operator
    (λ operator. heard-follow (λ edition. byte close_bracket)
    (λ u edition. give (attribute_selector n operator)) (heard-byte close_bracket (omega arith))
    (λ u. heard-give (attribute_selector n operator))))

heard-all_before : (c : ℕ) → c < 128 → Heard (λ edition. all_before c)
heard-all_before c low =
    record { lawful = all_before-lawful c low; reports = λ edition u v r s w h. inr tt }

heard-no_language : Heard {A = Token} (λ edition text. fails no_language text)
heard-no_language = record {
  lawful = owes-fails no_language no_language;
  reports = λ edition u v r s w h. inr (no_position no_language (λ text other. refl));
}

heard-lang_of : (value : List ℕ) → Heard (λ edition. lang_of value)
heard-lang_of value =
    heard-if (length value == 0) (λ edition text. fails no_language text)
    (λ edition. give (lang_pseudo_class value)) heard-no_language
    (heard-give (lang_pseudo_class value))

heard-lang_after : Heard (λ edition. lang_after)
unfolding lang_after
heard-lang_after =
    heard-follow (λ edition. byte open_parenthesis)
    (λ u edition text. follow (all_before close_parenthesis text)
    (λ value text. follow (byte close_parenthesis text) (λ u. lang_of (trim value))))
    (heard-byte open_parenthesis (omega arith))
    (λ u. heard-follow (λ edition. all_before close_parenthesis)
    (λ value edition text. follow (byte close_parenthesis text) (λ u. lang_of (trim value)))
    (heard-all_before close_parenthesis (omega arith))
    (λ value. heard-follow (λ edition. byte close_parenthesis) (λ u edition. lang_of (trim value))
    (heard-byte close_parenthesis (omega arith)) (λ u. heard-lang_of (trim value))))

heard-pseudo_class_after : Heard pseudo_class_after
unfolding pseudo_class_after
heard-pseudo_class_after =
    heard-follow name (λ n edition. pseudo_class_named n) heard-name
    (λ n. heard-if (bytes_eq n (codes "lang")) (λ edition. lang_after)
    (λ edition. give (named_pseudo_class n)) heard-lang_after (heard-give (named_pseudo_class n)))

-- ---- solid pieces and gaps

-- what follows the sign that a kind begins with
after-sign : {A : Type 0} (m : Edition → Reader A) → Heard m → (edition : Edition)
    (kind : NextKind) (u v r s : List ℕ) → IsUtf8 r
    → Diverge (close_brace ∷ (u ++ v)) (close_brace ∷ u) r s
    → HasSign kind → next_kind r ≡ kind
    → FaultGuard (u ++ v) u (m edition (past_one r)) (m edition (past_one s))
after-sign m p edition kind u v r s w h sign k = by (past_one-diverge close_brace (u ++ v) u r s h)
  where
    text : IsUtf8 (past_one r)
    text =
        let begins = sign-begins kind r sign k in
        (well-after begins.byte r (past_one r) begins.ascii
        (subst (λ (x : List ℕ). Ends r x) begins.is (ends-same r))).1 w

    by : (length (past_one r) ≤ length (u ++ v))
        ⊎ Diverge (close_brace ∷ (u ++ v)) (close_brace ∷ u) (past_one r)
        (past_one s) → FaultGuard (u ++ v) u (m edition (past_one r)) (m edition (past_one s))
    by (inl l) = inl (omega (arith, l, lawful-keeps m m p.lawful edition (past_one r)))
    by (inr diverge) = p.reports edition u v (past_one r) (past_one s) text diverge

pub solid_as-reported : (edition : Edition) (u v r s : List ℕ) → IsUtf8 r
    → Diverge (close_brace ∷ (u ++ v)) (close_brace ∷ u) r s → (kind : NextKind)
    → next_kind r ≡ kind
    → FaultGuard (u ++ v) u (solid_as edition kind r) (solid_as edition kind s)
solid_as-reported edition u v r s w h Stop k = inr (no_position no_selector (λ text other. refl))
solid_as-reported edition u v r s w h Slash k = inr (no_position no_selector (λ text other. refl))
solid_as-reported edition u v r s w h Child k = inr tt
solid_as-reported edition u v r s w h Adjacent k = inr tt
solid_as-reported edition u v r s w h Universal k = inr tt
solid_as-reported edition u v r s w h Id k =
    after-sign (λ edition. named_token edition id_selector) (named id_selector) edition Id u v r s
    w h tt k
solid_as-reported edition u v r s w h Class k =
    after-sign (λ edition. named_token edition class_selector) (named class_selector) edition Class
    u v r s w h tt k
solid_as-reported edition u v r s w h Attribute k =
    after-sign attribute_after heard-attribute_after edition Attribute u v r s w h tt k
solid_as-reported edition u v r s w h Colon k =
    after-sign pseudo_class_after heard-pseudo_class_after edition Colon u v r s w h tt k
solid_as-reported edition u v r s w h Other k = (named type_selector).reports edition u v r s w h
