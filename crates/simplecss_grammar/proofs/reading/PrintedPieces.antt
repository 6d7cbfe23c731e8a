-- Printed subselectors read back.
-- Serves `Selector::{parse, parse_front}` and `StyleSheet::parse` (a selector printed and read
-- again).
use Rattle.std.proofs.Common.{◌≡◌, ℕ, List, [], ◌∷◌, ◌++◌, Bool, true, false, ◌||◌, ◌&&◌, not, ◌==◌, length, drop, arith, refl, ap, ◌∙◌, append_assoc, encode_utf8_all, codes, bytes_eq, Some}
use Rattle.std.specs.Str.{all_scalars, trim}
use Rattle.std.specs.List.{list_all}
use Rattle.std.proofs.Math.Seq.{drop-append_seam}
use lib.Utf8.{encode}
use Rattle.css_text.proofs.reading.EndsLemmas.{before-append}
use Rattle.css_text.specs.AsciiBytes.{backslash, close_bracket, close_parenthesis, colon, equals_sign, open_bracket, open_parenthesis, single_quote, tilde, vertical_bar}
use Rattle.css_text.specs.Reading.{Reading, got, follow, before}
use Rattle.css_text.specs.Bytes.{all_before, byte}
use Rattle.css_text.specs.Characters.{Edition, first_edition, second_edition, is_name_char}
use Rattle.css_text.specs.Strings.{from_quote, string_or_name}
use Rattle.simplecss_grammar.specs.Components.{Operator, KnownPseudoClass, Subselector}
use Rattle.simplecss_grammar.specs.Components.Operator.{exists, equals, has_word, begins_with}
use Rattle.simplecss_grammar.specs.Components.KnownPseudoClass.{first_child, link, visited, hover, active, focus, lang}
use Rattle.simplecss_grammar.specs.Components.Subselector.{attribute, pseudo_class}
use Rattle.simplecss_grammar.specs.Tokens.{Token}
use Rattle.simplecss_grammar.specs.Tokens.Token.{attribute_selector, named_pseudo_class, lang_pseudo_class}
use Rattle.simplecss_grammar.specs.Pieces.{attribute_operator, equated, attribute_after, lang_of, lang_after, pseudo_class_named, pseudo_class_after, next_kind, solid}
use Rattle.simplecss_grammar.specs.Selectors.{role_of}
use Rattle.simplecss_grammar.specs.Selectors.Part.{with}
use Rattle.simplecss_grammar.specs.Selectors.Role.{part}
use Rattle.simplecss_grammar.specs.Printing.{pseudo_class_text, operator_text, subselector_text, escaped_after, is_clean_operator, is_clean_subselector}
use Rattle.simplecss_grammar.proofs.reading.PrintedNames.{IsName, name-reads, ends_names, ends_names-byte, begins_any_name}
use Rattle.simplecss_grammar.proofs.reading.EditionLaws.{in_either}
use Rattle.css_text.proofs.bytes.RunLemmas.{prefix_len-append}

-- the last byte of a text, before which is `previous`
abbrev pub last_after : ℕ → List ℕ → ℕ
last_after previous [] = previous
last_after previous (b ∷ text) = last_after b text

-- a value that ends with no backslash
abbrev pub IsValue : List ℕ → Type 0
IsValue value = (last_after 0 value == backslash) ≡ false

-- in a clean value no apostrophe closes the string
from_quote-clean : (previous : ℕ) (v tail : List ℕ) → escaped_after previous v ≡ true
    → (last_after previous v == backslash) ≡ false
    → from_quote single_quote previous (v ++ (single_quote ∷ tail)) ≡ Some (single_quote ∷ tail)
from_quote-clean previous [] tail c l = rw l refl
from_quote-clean previous (b ∷ v) tail c l =
    by (b == single_quote) (previous == backslash) refl refl c (λ h. from_quote-clean b v tail h l)
  where
    by : (q p : Bool) → (b == single_quote) ≡ q → (previous == backslash) ≡ p
        → ((not q || p) && escaped_after b v) ≡ true
        → (escaped_after b v ≡ true
        → from_quote single_quote b (v ++ (single_quote ∷ tail)) ≡ Some (single_quote ∷ tail))
        → from_quote single_quote previous (b ∷ (v ++ (single_quote ∷ tail)))
        ≡ Some (single_quote ∷ tail)
    by true true eq ep h more = rw (eq, ep) (more h)
    by true false eq ep h more = absurd (cc)
    by false p eq ep h more = rw eq (more h)

-- where an apostrophe follows no backslash, the string ends there
record CutShort (previous : ℕ) (v tail : List ℕ) : Type 0 where
  pub front : List ℕ
  pub more : List ℕ
  pub is : v ≡ front ++ (single_quote ∷ more)
  pub closes : from_quote single_quote previous (v ++ tail) ≡ Some (single_quote ∷ (more ++ tail))

cut_later : (previous b : ℕ) (v tail : List ℕ)
    → from_quote single_quote previous (b ∷ (v ++ tail)) ≡ from_quote single_quote b (v ++ tail)
    → CutShort b v tail
    → CutShort previous (b ∷ v) tail
cut_later previous b v tail e s =
    record { front = b ∷ s.front; more = s.more; is = ap (λ l. b ∷ l) s.is; closes = e ∙ s.closes }

-- in another one an apostrophe does
from_quote-unclean : (previous : ℕ) (v tail : List ℕ) → escaped_after previous v ≡ false
    → CutShort previous v tail
from_quote-unclean previous [] tail c = absurd (cc)
from_quote-unclean previous (b ∷ v) tail c =
    by (b == single_quote) (previous == backslash) refl refl c (λ h. from_quote-unclean b v tail h)
  where
    by : (q p : Bool) → (b == single_quote) ≡ q → (previous == backslash) ≡ p
        → ((not q || p) && escaped_after b v) ≡ false
        → (escaped_after b v ≡ false → CutShort b v tail) → CutShort previous (b ∷ v) tail
    by true true eq ep h more = cut_later previous b v tail (rw (eq, ep) refl) (more h)
    by true false eq ep h more =
        let e : b ≡ single_quote = grind arith in
        record {
          front = [];
          more = v;
          is = ap (λ k. k ∷ v) e;
          closes = rw (eq, ep)
              (ap (λ k. Some (k ∷ (v ++ tail))) e);
        }
    by false p eq ep h more = cut_later previous b v tail (rw eq refl) (more h)

-- the opening quote is no backslash
escaped-start : (v : List ℕ) → escaped_after single_quote v ≡ escaped_after 0 v
escaped-start [] = refl
escaped-start (b ∷ v) = refl

-- nor does it end an empty value
last-start : (v : List ℕ) → IsValue v → (last_after single_quote v == backslash) ≡ false
last-start [] h = refl
last-start (b ∷ v) h = h

-- its value ends with no backslash
abbrev pub IsOperator : Operator → Type 0
IsOperator exists = Unit {0}
IsOperator (equals value) = IsValue value
IsOperator (has_word value) = IsValue value
IsOperator (begins_with value) = IsValue value

-- the closing quote and the closing bracket
pub quoted : (v tail : List ℕ)
    → (v ++ (single_quote ∷ [])) ++ (close_bracket ∷ tail)
    ≡ v ++ (single_quote ∷ (close_bracket ∷ tail))
quoted v tail = append_assoc v (single_quote ∷ []) (close_bracket ∷ tail)

-- no name continues with it
pub operator-ends : (edition : Edition) (o : Operator) (tail : List ℕ)
    → ends_names edition (operator_text o ++ (close_bracket ∷ tail)) ≡ false
operator-ends edition exists tail = ends_names-byte edition close_bracket _ (omega arith) refl refl
operator-ends edition (equals v) tail =
    ends_names-byte edition equals_sign _ (omega arith) refl refl
operator-ends edition (has_word v) tail = ends_names-byte edition tilde _ (omega arith) refl refl
operator-ends edition (begins_with v) tail =
    ends_names-byte edition vertical_bar _ (omega arith) refl refl

-- a language, without white space round it and without a closing parenthesis
pub record IsLanguage (v : List ℕ) : Type 0 where
  pub trimmed : trim v ≡ v
  pub some : (length v == 0) ≡ false
  pub within : list_all (λ b. not (b == close_parenthesis)) v ≡ true

-- all up to the first closing parenthesis
all_before-reads : (v tail : List ℕ) → list_all (λ b. not (b == close_parenthesis)) v ≡ true
    → all_before close_parenthesis (v ++ (close_parenthesis ∷ tail))
    ≡ got v (close_parenthesis ∷ tail)
all_before-reads v tail h =
    let n =
    prefix_len-append (λ b. not (b == close_parenthesis)) v (close_parenthesis ∷ tail) h refl in
    let left : drop (length v) (v ++ (close_parenthesis ∷ tail)) ≡ close_parenthesis ∷ tail =
    drop-append_seam v (close_parenthesis ∷ tail) in
    let value = before-append v (close_parenthesis ∷ tail) in
    rw (n, left, value) refl

-- a language is read back
lang-reads : (v tail : List ℕ) → IsLanguage v
    → lang_after (open_parenthesis ∷ (v ++ (close_parenthesis ∷ tail)))
    ≡ got (lang_pseudo_class v) tail
unfolding lang_after
lang-reads v tail w =
    let next : List ℕ → List ℕ → Reading Token =
    λ value text. follow (byte close_parenthesis text) (λ u. lang_of (trim value)) in
    let some = w.some in
    ap (λ r. follow r next) (all_before-reads v tail w.within) ∙ ap (λ t. lang_of t tail) w.trimmed
    ∙ rw some refl

-- the names of the pseudo-classes
abbrev pub IsClass : KnownPseudoClass → Type 0
IsClass first_child = Unit {0}
IsClass link = Unit {0}
IsClass visited = Unit {0}
IsClass hover = Unit {0}
IsClass active = Unit {0}
IsClass focus = Unit {0}
IsClass (lang v) = IsLanguage v

-- a name of ASCII letters and hyphens
pub word_name : {n : List ℕ} → all_scalars n ≡ true → encode_utf8_all n ≡ n
    → list_all (is_name_char first_edition) n ≡ true
    → list_all (is_name_char second_edition) n ≡ true → begins_any_name first_edition n ≡ true
    → begins_any_name second_edition n ≡ true → (edition : Edition) → IsName edition n
word_name {n} s e p q b c = in_either (λ edition. IsName edition n)
    (record { letters = n; scalars = s; spell = e; pass = p; begins = b })
    (record { letters = n; scalars = s; spell = e; pass = q; begins = c })

lang_name : (edition : Edition) → IsName edition (codes "lang")
unfolding encode
lang_name = word_name refl refl refl refl refl refl

-- the token of a printed pseudo-class
abbrev pub class_token : KnownPseudoClass → Token
class_token first_child = named_pseudo_class (codes "first-child")
class_token link = named_pseudo_class (codes "link")
class_token visited = named_pseudo_class (codes "visited")
class_token hover = named_pseudo_class (codes "hover")
class_token active = named_pseudo_class (codes "active")
class_token focus = named_pseudo_class (codes "focus")
class_token (lang v) = lang_pseudo_class v

open_ends : (edition : Edition) (text : List ℕ)
    → ends_names edition (open_parenthesis ∷ text) ≡ false
open_ends edition text = ends_names-byte edition open_parenthesis text (omega arith) refl refl

closed : (v tail : List ℕ)
    → (codes "lang(" ++ (v ++ codes ")")) ++ tail
    ≡ codes "lang" ++ (open_parenthesis ∷ (v ++ (close_parenthesis ∷ tail)))
closed v tail = ap (λ l. codes "lang(" ++ l) (append_assoc v (codes ")") tail)

-- what a subselector that was read satisfies
abbrev pub IsSubselector : Edition → Subselector → Type 0
IsSubselector edition (attribute n o) = IsName edition n × IsOperator o
IsSubselector edition (pseudo_class class) = IsClass class

-- the token that a printed subselector reads as
abbrev pub printed_token : Subselector → Token
printed_token (attribute n o) = attribute_selector n o
printed_token (pseudo_class class) = class_token class

class-role : (class : KnownPseudoClass)
    → role_of (class_token class) ≡ Some (part (with (pseudo_class class)))
class-role first_child = refl
class-role link = refl
class-role visited = refl
class-role hover = refl
class-role active = refl
class-role focus = refl
class-role (lang v) = refl

-- its role is the subselector
pub printed_token-role : (s : Subselector) → role_of (printed_token s) ≡ Some (part (with s))
printed_token-role (attribute n o) = refl
printed_token-role (pseudo_class class) = class-role class

-- a printed attribute, part by part
pub bracketed : (n o tail : List ℕ)
    → ((n ++ o) ++ (close_bracket ∷ [])) ++ tail ≡ n ++ (o ++ (close_bracket ∷ tail))
bracketed n o tail =
    append_assoc (n ++ o) (close_bracket ∷ []) tail ∙ append_assoc n o (close_bracket ∷ tail)

module _ (edition : Edition) where
  -- a clean value is read back between apostrophes
  string-reads : (v tail : List ℕ) → IsValue v → escaped_after 0 v ≡ true
      → string_or_name edition (single_quote ∷ (v ++ (single_quote ∷ tail))) ≡ got v tail
  unfolding string_or_name
  string-reads v tail l c =
      let closes = from_quote-clean single_quote v tail (escaped-start v ∙ c) (last-start v l) in
      let value = before-append v (single_quote ∷ tail) in
      rw (closes, value) refl

  -- one that is not clean is cut short
  pub string-cut : (v tail : List ℕ) → escaped_after 0 v ≡ false
      → (front more : List ℕ) × (v ≡ front ++ (single_quote ∷ more))
      × (string_or_name edition (single_quote ∷ (v ++ tail)) ≡ got front (more ++ tail))
  unfolding string_or_name
  string-cut v tail c =
      let s = from_quote-unclean single_quote v tail (escaped-start v ∙ c) in
      let closing = single_quote ∷ (s.more ++ tail) in
      let text : v ++ tail ≡ s.front ++ (single_quote ∷ (s.more ++ tail)) =
      ap (λ l. l ++ tail) s.is ∙ append_assoc s.front (single_quote ∷ s.more) tail in
      let value : before (v ++ tail) (single_quote ∷ (s.more ++ tail)) ≡ s.front =
      ap (λ l. before l (single_quote ∷ (s.more ++ tail))) text
      ∙ before-append s.front (single_quote ∷ (s.more ++ tail)) in
      (s.front, s.more, s.is, rw (s.closes, value) refl)

  -- an equals sign and a clean value are read back
  equated-reads : (operator : List ℕ → Operator) (v tail : List ℕ) → IsValue v
      → escaped_after 0 v ≡ true → equated edition operator
      (equals_sign ∷ (single_quote ∷ ((v ++ (single_quote ∷ [])) ++ (close_bracket ∷ tail))))
      ≡ got (operator v) (close_bracket ∷ tail)
  equated-reads operator v tail l c =
      let s = string-reads v (close_bracket ∷ tail) l c in rw (quoted v tail, s) refl

  -- so is what is required of an attribute
  operator-reads : (o : Operator) (tail : List ℕ) → IsOperator o → is_clean_operator o ≡ true
      → attribute_operator edition (operator_text o ++ (close_bracket ∷ tail))
      ≡ got o (close_bracket ∷ tail)
  unfolding attribute_operator
  operator-reads exists tail w c = refl
  operator-reads (equals v) tail w c = equated-reads equals v tail w c
  operator-reads (has_word v) tail w c = equated-reads has_word v tail w c
  operator-reads (begins_with v) tail w c = equated-reads begins_with v tail w c

  -- so is a clean attribute after its bracket
  attribute-reads : (n : List ℕ) (o : Operator) (tail : List ℕ) → IsName edition n → IsOperator o
      → is_clean_operator o ≡ true
      → attribute_after edition (n ++ (operator_text o ++ (close_bracket ∷ tail)))
      ≡ got (attribute_selector n o) tail
  unfolding attribute_after
  attribute-reads n o tail w x c =
      let first =
      name-reads edition n (operator_text o ++ (close_bracket ∷ tail)) w
      (operator-ends edition o tail) in
      let second = operator-reads o tail x c in
      rw (first, second) refl

  named-reads : (n tail : List ℕ) → IsName edition n → bytes_eq n (codes "lang") ≡ false
      → ends_names edition tail ≡ false → pseudo_class_after edition (n ++ tail)
      ≡ got (named_pseudo_class n) tail
  unfolding pseudo_class_after
  named-reads n tail w l s =
      ap (λ r. follow r pseudo_class_named) (name-reads edition n tail w s) ∙ rw l refl

  lang_class-reads : (v tail : List ℕ) → IsLanguage v
      → pseudo_class_after edition
      (codes "lang" ++ (open_parenthesis ∷ (v ++ (close_parenthesis ∷ tail))))
      ≡ got (lang_pseudo_class v) tail
  unfolding pseudo_class_after
  lang_class-reads v tail w =
      ap (λ r. follow r pseudo_class_named)
      (name-reads edition (codes "lang") (open_parenthesis ∷ (v ++ (close_parenthesis ∷ tail)))
      (lang_name edition)
      (open_ends edition (v ++ (close_parenthesis ∷ tail)))) ∙ lang-reads v tail w

  -- a pseudo-class is read back
  class-reads : (class : KnownPseudoClass) (tail : List ℕ) → IsClass class
      → ends_names edition tail ≡ false → pseudo_class_after edition
      (pseudo_class_text class ++ tail) ≡ got (class_token class) tail
  unfolding encode
  class-reads first_child tail w s = named-reads (codes "first-child") tail
      (word_name refl refl refl refl refl refl edition) refl s
  class-reads link tail w s = named-reads (codes "link") tail
      (word_name refl refl refl refl refl refl edition) refl s
  class-reads visited tail w s = named-reads (codes "visited") tail
      (word_name refl refl refl refl refl refl edition) refl s
  class-reads hover tail w s = named-reads (codes "hover") tail
      (word_name refl refl refl refl refl refl edition) refl s
  class-reads active tail w s = named-reads (codes "active") tail
      (word_name refl refl refl refl refl refl edition) refl s
  class-reads focus tail w s = named-reads (codes "focus") tail
      (word_name refl refl refl refl refl refl edition) refl s
  class-reads (lang v) tail w s =
      ap (pseudo_class_after edition) (closed v tail) ∙ lang_class-reads v tail w

  -- a bracket begins an attribute, and a colon a pseudo-class
  pub solid-attribute : (text : List ℕ)
      → solid edition (open_bracket ∷ text) ≡ attribute_after edition text
  unfolding solid next_kind
  solid-attribute text = refl

  solid-pseudo_class : (text : List ℕ)
      → solid edition (colon ∷ text) ≡ pseudo_class_after edition text
  unfolding solid next_kind
  solid-pseudo_class text = refl

  -- a printed subselector is one solid piece
  pub subselector-reads : (s : Subselector) (tail : List ℕ) → IsSubselector edition s
      → is_clean_subselector s ≡ true → ends_names edition tail ≡ false
      → solid edition (subselector_text s ++ tail) ≡ got (printed_token s) tail
  subselector-reads (attribute n o) tail w c e =
      solid-attribute (((n ++ operator_text o) ++ (close_bracket ∷ [])) ++ tail)
      ∙ ap (attribute_after edition) (bracketed n (operator_text o) tail)
      ∙ attribute-reads n o tail w.0 w.1 c
  subselector-reads (pseudo_class class) tail w c e =
      solid-pseudo_class (pseudo_class_text class ++ tail)
      ∙ class-reads class tail w e
