-- What the solid pieces are that were read from a text.
-- Serves `Selector::{parse, parse_front}` and `StyleSheet::parse` (a selector printed and read
-- again).
use Rattle.std.proofs.Common.{◌≡◌, ℕ, ◌⊎◌, inl, inr, List, [], ◌∷◌, ◌++◌, Bool, true, not, ◌==◌, length, codes, bytes_eq, arith, refl, sym, ap, ◌∙◌, subst, IsUtf8}
use Rattle.std.specs.Str.{trim}
use Rattle.std.specs.List.{list_all, prefix_len, take_while}
use Rattle.std.proofs.lemmas.List.{take-append-drop}
use Rattle.css_text.proofs.reading.EndsLemmas.{before-append}
use Rattle.css_text.specs.AsciiBytes.{close_bracket, close_parenthesis, hyphen, open_parenthesis}
use Rattle.css_text.specs.Reading.{Reading, ended, got, fails, before}
use Rattle.css_text.specs.Bytes.{past_one, past, all_before}
use Rattle.simplecss_grammar.specs.declared.next_kind.NextKind.{NextKind}
use Rattle.simplecss_grammar.specs.declared.next_kind.NextKind.TheVariants.{Stop, Slash, Child, Adjacent, Universal, Id, Class, Attribute, Colon, Other}
use Rattle.css_text.specs.Characters.{Edition}
use Rattle.css_text.specs.Names.{name}
use Rattle.simplecss_grammar.specs.Components.{Operator}
use Rattle.simplecss_grammar.specs.Tokens.{Token}
use Rattle.simplecss_grammar.specs.Tokens.Token.{universal_selector, type_selector, id_selector, class_selector, attribute_selector, named_pseudo_class, lang_pseudo_class, descendant_combinator, child_combinator, adjacent_combinator}
use Rattle.simplecss_grammar.specs.Pieces.{attribute_operator, attribute_after, lang_of, lang_after, pseudo_class_after, named_token, next_kind, solid_as, solid}
use Rattle.simplecss_grammar.proofs.reading.KindLemmas.{HasSign, sign-begins}
use Rattle.simplecss_grammar.proofs.reading.PrintedNames.{IsName}
use Rattle.simplecss_grammar.proofs.reading.PrintedPieces.{IsValue, IsOperator, IsLanguage}
use Rattle.css_text.proofs.bytes.Utf8Lemmas.{utf8-past_byte, utf8-before_byte}
use Rattle.simplecss_grammar.proofs.bytes.TrimLemmas.{Trimmed, trim-is}
use Rattle.css_text.proofs.bytes.RunLemmas.{list_all-parts}
use Rattle.css_text.proofs.reading.GotLemmas.{IfGot, if_got, if_got-follow, if_got-if, byte-is}
use Rattle.simplecss_grammar.proofs.reading.ReadNames.{ReadName, name-is, taken_pass}
use Rattle.simplecss_grammar.proofs.reading.ReadValues.{name-value_is}
use Rattle.simplecss_grammar.proofs.round_trip.ReadOperators.{GoodOperator, attribute_operator-gives}

-- what a token satisfies that was read as a solid piece, where this is left after it
abbrev pub GoodToken : Edition → Token → List ℕ → Type 0
GoodToken edition universal_selector rest = Unit {0}
GoodToken edition (type_selector n) rest = IsName edition n ⊎ ((n ≡ hyphen ∷ []) × (rest ≡ []))
GoodToken edition (id_selector n) rest = IsValue n
GoodToken edition (class_selector n) rest = IsValue n
GoodToken edition (attribute_selector n o) rest = IsName edition n × IsOperator o
GoodToken edition (named_pseudo_class n) rest = Unit {0}
GoodToken edition (lang_pseudo_class v) rest = IsLanguage v
GoodToken edition descendant_combinator rest = ⊥
GoodToken edition child_combinator rest = Unit {0}
GoodToken edition adjacent_combinator rest = Unit {0}

both_got : {A : Type 0} (P Q : A → List ℕ → Type 0) (r : Reading A) → IfGot P r → IfGot Q r
    → IfGot (λ x rest. P x rest × Q x rest) r
both_got P Q (got x rest) p q = (p, q)
both_got P Q (fails fault rest) p q = tt

-- what is before a byte, and the text from there on
abbrev OccursBefore : List ℕ → List ℕ → List ℕ → Type 0
OccursBefore text value rest =
    (text ≡ value ++ rest) × (list_all (λ b. not (b == close_parenthesis)) value ≡ true)

all_before-is : (text : List ℕ) → IfGot (OccursBefore text) (all_before close_parenthesis text)
all_before-is text =
    let test = λ (b : ℕ). not (b == close_parenthesis) in
    let front = take_while test text in
    let rest = past test text in
    let is : text ≡ front ++ rest = sym (take-append-drop (prefix_len test text) text) in
    let value : before text rest ≡ front = ap (λ t. before t rest) is ∙ before-append front rest in
    rw value (is, taken_pass test text)

inside_all : (test : ℕ → Bool) (v inside : List ℕ) → Trimmed v inside → list_all test v ≡ true
    → list_all test inside ≡ true
inside_all test v inside w h =
    let first =
    list_all-parts test w.front (inside ++ w.following) (ap (list_all test) (sym w.is) ∙ h) in
    (list_all-parts test inside w.following first.1).0

-- what is left after an ASCII byte
utf8-past : (kind : NextKind) (text : List ℕ) → HasSign kind → next_kind text ≡ kind → IsUtf8 text
    → IsUtf8 (past_one text)
utf8-past kind text h k u =
    let sign = sign-begins kind text h k in utf8-past_byte sign.byte (past_one text) sign.ascii
    (subst IsUtf8 sign.is u)

module _ (edition : Edition) where
  -- where a name was read
  name-gives : (text : List ℕ) → IsUtf8 text
      → IfGot (λ n rest. ReadName edition text n rest) (name edition text)
  name-gives text u =
      if_got (λ n rest. ReadName edition text n rest) (name edition text)
      (λ n rest e. name-is edition text n rest u e)

  -- a name that was read is a value of an attribute
  read_name-value : (text n rest : List ℕ) → ReadName edition text n rest → IsValue n
  read_name-value text n rest w =
      elim (w.is) [ inl i ↦ name-value_is edition n i | inr h ↦ subst IsValue (sym h.0) refl ]

  named_token-gives : (token : List ℕ → Token) (text : List ℕ)
      → ((n rest : List ℕ) → ReadName edition text n rest → GoodToken edition (token n) rest)
      → IsUtf8 text → IfGot (GoodToken edition) (named_token edition token text)
  unfolding named_token
  named_token-gives token text each u =
      if_got-follow (λ n rest. ReadName edition text n rest) (GoodToken edition) _ _
      (name-gives text u) each

  -- a name that more follows is no lone hyphen
  name_before : (text n rest : List ℕ) → ReadName edition text n rest → (rest ≡ [] → ⊥)
      → IsName edition n
  name_before text n rest w some = elim (w.is) [ inl i ↦ i | inr h ↦ absurd (some h.1) ]

  operator-nil : attribute_operator edition [] ≡ fails ended []
  unfolding attribute_operator
  operator-nil = refl

  -- where an operator was read, the text had not ended
  operator_text_is : (rest : List ℕ) → IfGot (λ o next. rest ≡ [] → ⊥)
      (attribute_operator edition rest)
  operator_text_is rest =
      if_got (λ o next. rest ≡ [] → ⊥) (attribute_operator edition rest) (λ o next e h.
      let both : Path (Reading Operator) (fails ended []) (got o next) =
      sym operator-nil ∙ ap (attribute_operator edition) (sym h) ∙ e in absurd (cc))

  attribute_after-gives : (text : List ℕ) → IsUtf8 text
      → IfGot (GoodToken edition) (attribute_after edition text)
  unfolding attribute_after
  attribute_after-gives text u =
      if_got-follow (λ n rest. ReadName edition text n rest) (GoodToken edition)
      _ _
      (name-gives text u) (λ n rest w.
      if_got-follow (λ o next. GoodOperator o next × (rest ≡ [] → ⊥)) (GoodToken edition)
      _ _
      (both_got GoodOperator (λ o next. rest ≡ [] → ⊥) (attribute_operator edition rest)
      (attribute_operator-gives edition rest w.rest_is) (operator_text_is rest)) (λ o next x.
      if_got-follow (λ y last. next ≡ close_bracket ∷ last) (GoodToken edition) _ _
      (byte-is close_bracket next)
      (λ y last e.
      (name_before text n rest w x.1, x.0))))

  lang_of-gives : (v text : List ℕ) → IsUtf8 v
      → list_all (λ b. not (b == close_parenthesis)) v ≡ true
      → IfGot (GoodToken edition) (lang_of (trim v) text)
  lang_of-gives v text u h =
      let w = trim-is v u in
      if_got-if (GoodToken edition) (length (trim v) == 0) _ _ (λ e. tt) (λ e. record {
        trimmed = w.again;
        some = e;
        within = inside_all (λ b. not (b == close_parenthesis)) v (trim v) w h;
      })

  lang_after-gives : (text : List ℕ) → IsUtf8 text → IfGot (GoodToken edition) (lang_after text)
  unfolding lang_after
  lang_after-gives text u =
      if_got-follow (λ x rest. text ≡ open_parenthesis ∷ rest) (GoodToken edition) _ _
      (byte-is open_parenthesis text) (λ x rest e.
      if_got-follow (OccursBefore rest) (GoodToken edition) (all_before close_parenthesis rest) _
      (all_before-is rest) (λ value next w.
      if_got-follow (λ y last. next ≡ close_parenthesis ∷ last) (GoodToken edition) _ _
      (byte-is close_parenthesis next) (λ y last f.
      let all : IsUtf8 (value ++ (close_parenthesis ∷ last)) =
      subst IsUtf8 (w.0 ∙ ap (λ l. value ++ l) f)
      (utf8-past_byte open_parenthesis rest (omega arith) (subst IsUtf8 e u)) in
      lang_of-gives value last
      (utf8-before_byte value close_parenthesis last (omega arith) all) w.1)))

  pseudo_class_after-gives : (text : List ℕ) → IsUtf8 text
      → IfGot (GoodToken edition) (pseudo_class_after edition text)
  unfolding pseudo_class_after
  pseudo_class_after-gives text u =
      if_got-follow (λ n rest. ReadName edition text n rest) (GoodToken edition) _ _
      (name-gives text u) (λ n rest w.
      if_got-if (GoodToken edition) (bytes_eq n (codes "lang")) _ _
      (λ e. lang_after-gives rest w.rest_is) (λ e. tt))

  solid_as-gives : (text : List ℕ) (kind : NextKind) → next_kind text ≡ kind → IsUtf8 text
      → IfGot (GoodToken edition) (solid_as edition kind text)
  solid_as-gives text Stop k u = tt
  solid_as-gives text Slash k u = tt
  solid_as-gives text Child k u = tt
  solid_as-gives text Adjacent k u = tt
  solid_as-gives text Universal k u = tt
  solid_as-gives text Id k u =
      named_token-gives id_selector (past_one text)
      (λ n rest w. read_name-value (past_one text) n rest w) (utf8-past Id text tt k u)
  solid_as-gives text Class k u =
      named_token-gives class_selector (past_one text)
      (λ n rest w. read_name-value (past_one text) n rest w) (utf8-past Class text tt k u)
  solid_as-gives text Attribute k u =
      attribute_after-gives (past_one text) (utf8-past Attribute text tt k u)
  solid_as-gives text Colon k u =
      pseudo_class_after-gives (past_one text) (utf8-past Colon text tt k u)
  solid_as-gives text Other k u =
      named_token-gives type_selector text (λ n rest w. w.is) u

  -- a solid piece that was read from a text
  pub solid-gives : (text : List ℕ) → IsUtf8 text → IfGot (GoodToken edition) (solid edition text)
  unfolding solid
  solid-gives text u = solid_as-gives text (next_kind text) refl u
