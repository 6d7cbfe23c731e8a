-- What each reader leaves is an end of the text, and what it yields is before that end.
-- Serves `next` of `SelectorTokenizer` (slices in order), `take_declaration`,
-- `laws::cutting_law` and `laws::edition_law`.
use Rattle.std.proofs.Common.{◌≡◌, ℕ, ◌<◌, List, [], ◌∷◌, ◌++◌, Bool, true, false, if◌then◌else◌, ◌&&◌, ◌==◌, not, bytes_eq, length, take, Option, Some, None, arith, refl, sym, ap, ◌∙◌, subst, encode_utf8_all, codes, append_assoc, append-nil, IsUtf8, length-drop, cond}
use Rattle.std.specs.Str.{chars, trim, trim_start, trim_end, skip_leading_whitespace, drop_trailing_whitespace, all_scalars}
use Rattle.std.specs.Char.{is_whitespace}
use Rattle.std.specs.List.{prefix_len}
use Rattle.std.proofs.lemmas.Str.{encodes-append, encodes-chars, scalars-chars, chars-encodes, IsUtf8-take}
use Rattle.std.proofs.lemmas.List.Sums.{prefix_len-le-length}
use Rattle.std.proofs.lemmas.Bool.{eqb-true}
use Rattle.std.proofs.lemmas.Slice.Eq.{bytes_eq-Decides}
use Rattle.css_text.specs.AsciiBytes.{backslash, close_bracket, close_parenthesis, equals_sign, hyphen, open_parenthesis, tilde, vertical_bar}
use Rattle.css_text.specs.Reading.{no_name, wrong_byte, Reading, got, fails, before, Ends}
use Rattle.css_text.specs.Bytes.{past, past_one, past_byte, byte}
use Rattle.simplecss_grammar.specs.declared.next_kind.NextKind.{NextKind}
use Rattle.simplecss_grammar.specs.declared.next_kind.NextKind.TheVariants.{Stop, Slash, Child, Adjacent, Universal, Id, Class, Attribute, Colon, Other}
use Rattle.css_text.specs.Characters.{Edition}
use Rattle.css_text.specs.Comments.{past_blank, blank, gap}
use Rattle.css_text.specs.Names.{begins_name, past_name_chars, name}
use Rattle.css_text.specs.Strings.{is_quote, from_quote, string_up_to, string_or_name}
use Rattle.css_text.specs.Slices.{OccurBetween}
use Rattle.simplecss_grammar.specs.Components.{Operator}
use Rattle.simplecss_grammar.specs.Components.Operator.{equals, has_word, begins_with}
use Rattle.simplecss_grammar.specs.Tokens.{Token, token_texts, operator_texts}
use Rattle.simplecss_grammar.specs.Tokens.Token.{universal_selector, type_selector, id_selector, class_selector, attribute_selector, named_pseudo_class, lang_pseudo_class, child_combinator, adjacent_combinator}
use Rattle.simplecss_grammar.specs.Pieces.{attribute_operator, equated, attribute_after, lang_of, lang_after, pseudo_class_named, pseudo_class_after, named_token, next_kind, solid_as, solid}
use Rattle.simplecss_grammar.proofs.reading.KindLemmas.{sign-begins}
use Rattle.css_text.proofs.reading.WellLemmas.{ends-past_name_chars, well-blank, well-gap, well-past_blank}
use Rattle.css_text.proofs.bytes.Utf8Lemmas.{until-boundary, utf8-after, all_scalars-append}
use Rattle.css_text.proofs.reading.EndsLemmas.{before-append, ends-append, ends-by, ends-same, ends-nil, ends-tail, ends-past_one, ends-past_byte, ends-past, EndsSome, ends_some-if, ends_some-ends, occur-from, occur-to, occur-ends, occur-before, Occurs, no_texts, itself, occurs-unseen, occurs-from, occurs-if, occurs-none, occurs-then, occurs-follow}

-- ---- bytes, comments and blanks

pub byte-occurs : (c : ℕ) (text : List ℕ) → Occurs text no_texts (byte c text)
byte-occurs c [] = record { at = ends-same [] }
byte-occurs c (b ∷ text) =
    occurs-if (b == c) (record { at = ends-tail b text })
    (record { at = ends-same (b ∷ text) })

pub ends-past_blank : (text : List ℕ) → Ends text (past_blank text)
ends-past_blank text = (well-past_blank text).0

pub blank-occurs : (text : List ℕ) → Occurs text no_texts (blank text)
blank-occurs text = occurs-none text (blank text) (well-blank text).0

pub gap-occurs : (text : List ℕ) → Occurs text no_texts (gap text)
gap-occurs text = occurs-none text (gap text) (well-gap text).0

-- ---- names and values

pub name-occurs : (edition : Edition) (text : List ℕ) → Occurs text itself (name edition text)
unfolding name
name-occurs edition text =
    occurs-if (begins_name edition (chars text))
    (record {
      at = occur-before text (past_name_chars edition text)
          (ends-past_name_chars edition text);
    }) (record { at = ends-past_byte hyphen text })

pub from_quote-ends : (quote previous : ℕ) (text : List ℕ)
    → EndsSome text (from_quote quote previous text)
from_quote-ends quote previous [] = tt
from_quote-ends quote previous (b ∷ text) =
    ends_some-if (b ∷ text) (b == quote && not (previous == backslash)) (Some (b ∷ text))
    (from_quote quote b text) (ends-same (b ∷ text))
    (ends_some-ends (b ∷ text) text (from_quote quote b text) (ends-tail b text)
    (from_quote-ends quote b text))

pub string_up_to-occurs : (text : List ℕ) (o : Option (List ℕ)) → EndsSome text o
    → Occurs text itself (string_up_to text o)
string_up_to-occurs text None h = record { at = ends-nil text }
string_up_to-occurs text (Some closing) h =
    record {
      at = occur-to text closing (past_one closing) (before text closing ∷ [])
          (occur-before text closing h) (ends-past_one closing);
    }

string_or_name-occurs : (edition : Edition) (text : List ℕ)
    → Occurs text itself (string_or_name edition text)
unfolding string_or_name
string_or_name-occurs edition [] = record { at = ends-same [] }
string_or_name-occurs edition (b ∷ text) =
    occurs-if (is_quote b)
    (occurs-from (b ∷ text) text itself (string_up_to text (from_quote b b text)) (ends-tail b text)
    (string_up_to-occurs text (from_quote b b text) (from_quote-ends b b text)))
    (name-occurs edition (b ∷ text))

-- ---- attributes

equated-occurs : (edition : Edition) (operator : List ℕ → Operator)
    → ((value : List ℕ) → operator_texts (operator value) ≡ itself value) → (text : List ℕ)
    → Occurs text operator_texts (equated edition operator text)
equated-occurs edition operator is text =
    occurs-follow text no_texts operator_texts (byte equals_sign text) _
    (byte-occurs equals_sign text) (λ u rest e h.
    occurs-from text rest operator_texts _ h
    (occurs-follow rest itself operator_texts (string_or_name edition rest)
    (λ value. got (operator value)) (string_or_name-occurs edition rest) (λ value last f k.
    record { at = subst (OccurBetween rest last) (sym (is value)) k })))

attribute_operator-occurs : (edition : Edition) (text : List ℕ)
    → Occurs text operator_texts (attribute_operator edition text)
unfolding attribute_operator
attribute_operator-occurs edition [] = record { at = ends-same [] }
attribute_operator-occurs edition (b ∷ text) =
    occurs-if (b == close_bracket) (record { at = ends-same (b ∷ text) })
    (occurs-if (b == equals_sign)
    (equated-occurs edition equals (λ v. refl) (b ∷ text))
    (occurs-if (b == tilde)
    (occurs-from (b ∷ text) text operator_texts (equated edition has_word text)
    (ends-tail b text) (equated-occurs edition has_word (λ v. refl) text))
    (occurs-if (b == vertical_bar)
    (occurs-from (b ∷ text) text operator_texts (equated edition begins_with text)
    (ends-tail b text) (equated-occurs edition begins_with (λ v. refl) text))
    (record { at = ends-same (b ∷ text) }))))

attribute_after-occurs : (edition : Edition) (text : List ℕ)
    → Occurs text token_texts (attribute_after edition text)
unfolding attribute_after
attribute_after-occurs edition text =
    occurs-follow text itself token_texts (name edition text) _ (name-occurs edition text)
    (λ n rest e h.
    occurs-then text rest (itself n) operator_texts token_texts (attribute_operator edition rest) _
    h (attribute_operator-occurs edition rest) (λ operator next f k.
    occurs-then text next (n ∷ operator_texts operator) no_texts token_texts
    (byte close_bracket next)
    (λ u. got (attribute_selector n operator)) k (byte-occurs close_bracket next) (λ u last g l.
    record { at = subst (OccurBetween text last) (append-nil (n ∷ operator_texts operator)) l })))

-- ---- languages

-- what is before the first such byte is UTF-8
utf8-before : (text : List ℕ) (c : ℕ) → c < 128 → IsUtf8 text
    → IsUtf8 (take (prefix_len (λ b. not (b == c)) text) text)
utf8-before text c ascii u =
    IsUtf8-take text (prefix_len (λ b. not (b == c)) text) u (until-boundary text c ascii u)

-- what trim leaves is between the white space at both ends
skip-case : (c : ℕ) (cs k w : List ℕ) (t : Bool) → cs ≡ w ++ k
    → (v : List ℕ) × (c ∷ cs ≡ v ++ cond t k (c ∷ cs))
skip-case c cs k w true is = (c ∷ w, ap (λ x. c ∷ x) is)
skip-case c cs k w false is = ([], refl)

skip-leading : (cs : List ℕ) → (w : List ℕ) × (cs ≡ w ++ skip_leading_whitespace cs)
skip-leading [] = ([], refl)
skip-leading (c ∷ cs) =
    let rest = skip-leading cs in skip-case c cs (skip_leading_whitespace cs) rest.0
    (is_whitespace c) rest.1

drop-case : (c : ℕ) (cs k w : List ℕ) (t : Bool) → cs ≡ k ++ w
    → (v : List ℕ) × (c ∷ cs ≡ cond t [] (c ∷ k) ++ v)
drop-case c cs k w true is = (c ∷ cs, refl)
drop-case c cs k w false is = (w, ap (λ x. c ∷ x) is)

drop-trailing : (cs : List ℕ) → (v : List ℕ) × (cs ≡ drop_trailing_whitespace cs ++ v)
drop-trailing [] = ([], refl)
drop-trailing (c ∷ cs) =
    let rest = drop-trailing cs in drop-case c cs (drop_trailing_whitespace cs) rest.0
    (is_whitespace c && length (drop_trailing_whitespace cs) == 0) rest.1

-- a text is what its trim takes off its front, what is left of it, and what the trim takes off its
-- end
pub trim-parts : (bs : List ℕ) → IsUtf8 bs
    → (a : List ℕ) × (c : List ℕ) × (bs ≡ a ++ (trim bs ++ c))
unfolding trim_start trim_end
trim-parts bs u =
    let cs = chars bs in
    let k = skip_leading_whitespace cs in
    let d = drop_trailing_whitespace k in
    let front = skip-leading cs in
    let back = drop-trailing k in
    let good : all_scalars k ≡ true =
    (all_scalars-append front.0 k (sym (ap all_scalars front.1) ∙ scalars-chars bs u)).1 in
    let trimmed : trim bs ≡ encode_utf8_all d =
    ap (λ x. encode_utf8_all (drop_trailing_whitespace x)) (chars-encodes k good) in (
      encode_utf8_all front.0,
      encode_utf8_all back.0,
      sym (encodes-chars bs u)
          ∙ ap encode_utf8_all front.1 ∙ encodes-append front.0 k
          ∙ ap (λ x. encode_utf8_all front.0 ++ x) (ap encode_utf8_all back.1
          ∙ encodes-append d back.0 ∙ ap (λ x. x ++ encode_utf8_all back.0) (sym trimmed)),
    )

-- a trimmed text is in it
pub occur-trim : (text rest : List ℕ) → Ends text rest → IsUtf8 (before text rest)
    → OccurBetween text rest (trim (before text rest) ∷ [])
occur-trim text rest e u =
    let v = before text rest in
    let cut = trim-parts v u in
    let a = cut.0 in
    let c = cut.1 in
    let whole : a ++ (trim v ++ (c ++ rest)) ≡ text =
    ap (λ t. a ++ t) (sym (append_assoc (trim v) c rest)) ∙ sym (append_assoc a (trim v ++ c) rest)
    ∙ ap (λ t. t ++ rest) (sym cut.2) ∙ e in (
      trim v ++ (c ++ rest),
      c ++ rest,
      ends-by text a (trim v ++ (c ++ rest)) whole,
      ends-append
          (trim v) (c ++ rest),
      sym (before-append (trim v) (c ++ rest)),
      ends-append c rest,
    )

-- the language in the parentheses of a `:lang`, up to the closing one
language-occurs : (text : List ℕ) → IsUtf8 text
    → OccurBetween text (past (λ b. not (b == close_parenthesis)) text)
    (trim (before text (past (λ b. not (b == close_parenthesis)) text)) ∷ [])
language-occurs text u =
    let k = prefix_len (λ b. not (b == close_parenthesis)) text in
    let same : before text (past (λ b. not (b == close_parenthesis)) text) ≡ take k text =
    ap (λ n. take n text)
    (omega
    (arith, length-drop k text, prefix_len-le-length (λ b. not (b == close_parenthesis)) text)) in
    occur-trim text (past (λ b. not (b == close_parenthesis)) text)
    (ends-past (λ b. not (b == close_parenthesis)) text)
    (subst IsUtf8 (sym same) (utf8-before text close_parenthesis (omega arith) u))

-- ---- pieces

-- Which texts of a token are to be seen, of texts that are good. Of one that need not be the UTF-8
-- of characters a language may be trimmed to what does not are in it, so there no texts are seen.
pub record Sees (Good : List ℕ → Type 0) (texts : Token → List (List ℕ)) : Type 0 where
  pub following : (text rest : List ℕ) (b : ℕ) → b < 128 → Good text → Ends text (b ∷ rest)
      → Good rest
  pub seen : (text : List ℕ) (r : Reading Token) → Occurs text token_texts r → Occurs text texts r
  pub language : (text : List ℕ) → Good text
      → OccurBetween text (past (λ b. not (b == close_parenthesis)) text)
      (texts
      (lang_pseudo_class (trim (before text (past (λ b. not (b == close_parenthesis)) text)))))

-- any text
abbrev pub Any : List ℕ → Type 0
Any text = Unit {0}

pub sees_nothing : Sees Any no_texts
sees_nothing = record {
  following = λ text rest b a g e. tt;
  seen = λ text r h. occurs-unseen text token_texts r h;
  language = λ text g. ends-past (λ b. not (b == close_parenthesis)) text;
}

pub sees_texts : Sees IsUtf8 token_texts
sees_texts = record {
  following = utf8-after;
  seen = λ text r h. h;
  language = language-occurs;
}

byte-is : (c : ℕ) (text rest : List ℕ) (u : Unit {0}) → byte c text ≡ got u rest → text ≡ c ∷ rest
byte-is c [] rest u e = absurd (cc)
byte-is c (b ∷ text) rest u e = by (b == c) refl e
  where
    by : (t : Bool) → (b == c) ≡ t
        → (if t then got (tt {0}) text else fails (wrong_byte c (b ∷ text)) (b ∷ text)) ≡ got u rest
        → b ∷ text ≡ c ∷ rest
    by true t e = let same : b ≡ c = eqb-true b c t in cc
    by false t e = absurd (cc)

lang_after-occurs : {Good : List ℕ → Type 0} {texts : Token → List (List ℕ)} → Sees Good texts
    → (text : List ℕ) → Good text → Occurs text texts (lang_after text)
unfolding lang_after
lang_after-occurs {Good = Good} {texts = texts} sees text good =
    occurs-follow text no_texts texts (byte open_parenthesis text) _
    (byte-occurs open_parenthesis text) (λ u rest e h.
    let end = past (λ b. not (b == close_parenthesis)) rest in
    let value = trim (before rest end) in
    let opened : Ends text (open_parenthesis ∷ rest) =
    subst (λ (t : List ℕ). Ends t (open_parenthesis ∷ rest))
    (sym (byte-is open_parenthesis text rest u e))
    (ends-same (open_parenthesis ∷ rest)) in
    let front : OccurBetween text end (texts (lang_pseudo_class value)) =
    occur-from text rest end _ h
    (sees.language rest (sees.following text rest open_parenthesis (omega arith) good opened)) in
    occurs-then text end (texts (lang_pseudo_class value)) no_texts texts
    (byte close_parenthesis end)
    (λ u. lang_of value) front (byte-occurs close_parenthesis end) (λ u last f k.
    let k : OccurBetween text last (texts (lang_pseudo_class value)) =
    subst (OccurBetween text last) (append-nil (texts (lang_pseudo_class value))) k in
    occurs-if (length value == 0) (record { at = occur-ends text last _ k })
    (record { at = k })))

-- a name that was read is what is before the rest
name-got : (edition : Edition) (text rest n : List ℕ) → name edition text ≡ got n rest
    → n ≡ before text rest
unfolding name
name-got edition text rest n = by (begins_name edition (chars text))
  where
    by : (t : Bool)
        → (if t then got (before text (past_name_chars edition text)) (past_name_chars edition text)
        else fails (no_name text) (past_byte hyphen text)) ≡ got n rest → n ≡ before text rest
    by true e =
        let left : past_name_chars edition text ≡ rest = cc in
        let read : before text (past_name_chars edition text) ≡ n = cc in
        sym read ∙ ap (before text) left
    by false e = absurd (cc)

pseudo_class_after-occurs : {Good : List ℕ → Type 0} {texts : Token → List (List ℕ)}
    → Sees Good texts → (edition : Edition) (text : List ℕ) → Good text
    → Occurs text texts (pseudo_class_after edition text)
unfolding pseudo_class_after
pseudo_class_after-occurs {Good = Good} {texts = texts} sees edition text good =
    occurs-follow text itself texts (name edition text) pseudo_class_named
    (name-occurs edition text) (λ n rest e h.
    by n rest h (name-got edition text rest n e) (bytes_eq n (codes "lang")) refl)
  where
    by : (n rest : List ℕ) → OccurBetween text rest (n ∷ []) → n ≡ before text rest → (t : Bool)
        → bytes_eq n (codes "lang") ≡ t
        → Occurs text texts (if t then lang_after rest else got (named_pseudo_class n) rest)
    by n rest h is true t =
        let lang : n ≡ 108 ∷ 97 ∷ 110 ∷ 103 ∷ [] = (bytes_eq-Decides n (codes "lang")).0 t in
        let whole : (108 ∷ 97 ∷ 110 ∷ []) ++ (103 ∷ rest) ≡ text =
        ap (λ s. s ++ rest) (sym lang ∙ is) ∙ occur-ends text rest (n ∷ []) h in
        occurs-from text rest texts (lang_after rest) (occur-ends text rest (n ∷ []) h)
        (lang_after-occurs sees rest
        (sees.following text rest 103 (omega arith) good
        (ends-by text (108 ∷ 97 ∷ 110 ∷ []) (103 ∷ rest) whole)))
    by n rest h is false t = sees.seen text (got (named_pseudo_class n) rest) (record { at = h })

named_token-occurs : (edition : Edition) (token : List ℕ → Token)
    → ((n : List ℕ) → token_texts (token n) ≡ itself n) → (text : List ℕ)
    → Occurs text token_texts (named_token edition token text)
unfolding named_token
named_token-occurs edition token is text =
    occurs-follow text itself token_texts (name edition text) (λ n. got (token n))
    (name-occurs edition text) (λ n rest e h.
    record { at = subst (OccurBetween text rest) (sym (is n)) h })

solid_as-occurs : {Good : List ℕ → Type 0} {texts : Token → List (List ℕ)} → Sees Good texts
    → (edition : Edition) (whole text : List ℕ) → Good whole → Ends whole text → (kind : NextKind)
    → next_kind text ≡ kind → Occurs text texts (solid_as edition kind text)
solid_as-occurs {Good = Good} {texts = texts} sees edition whole text good e = by
  where
    more : (r : Reading Token) → Occurs (past_one text) token_texts r → Occurs text texts r
    more r h =
        sees.seen text r (occurs-from text (past_one text) token_texts r (ends-past_one text) h)

    by : (kind : NextKind) → next_kind text ≡ kind → Occurs text texts (solid_as edition kind text)
    by Stop k = record { at = ends-same text }
    by Slash k = record { at = ends-same text }
    by Child k =
        sees.seen text (got child_combinator (past_one text)) (record { at = ends-past_one text })
    by Adjacent k =
        sees.seen text (got adjacent_combinator (past_one text))
        (record { at = ends-past_one text })
    by Universal k =
        sees.seen text (got universal_selector (past_one text)) (record { at = ends-past_one text })
    by Id k = more _ (named_token-occurs edition id_selector (λ n. refl) (past_one text))
    by Class k = more _ (named_token-occurs edition class_selector (λ n. refl) (past_one text))
    by Attribute k = more _ (attribute_after-occurs edition (past_one text))
    by Colon k =
        let sign = sign-begins Colon text tt k in
        occurs-from text (past_one text) texts _ (ends-past_one text)
        (pseudo_class_after-occurs sees edition (past_one text)
        (sees.following whole (past_one text) sign.byte sign.ascii good
        (subst (Ends whole) sign.is e)))
    by Other k = sees.seen text _ (named_token-occurs edition type_selector (λ n. refl) text)

pub solid-occurs : {Good : List ℕ → Type 0} {texts : Token → List (List ℕ)} → Sees Good texts
    → (edition : Edition) (whole text : List ℕ) → Good whole → Ends whole text
    → Occurs text texts (solid edition text)
unfolding solid
solid-occurs sees edition whole text good e =
    solid_as-occurs sees edition whole text good e (next_kind text) refl
