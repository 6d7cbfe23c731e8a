-- Printed simple selectors read back.
-- Serves `printing_laws::printing_law`.
use Rattle.std.proofs.Common.{◌≡◌, ℕ, zero, suc, ◌<◌, ◌≤◌, ◌==◌, ◌||◌, ◌&&◌, not, Bool, true, false, List, [], ◌∷◌, ◌++◌, Option, None, Some, All, length, length-append, option_map, flat_map, append_assoc, arith, refl, sym, ap, ◌∙◌, subst, eqb-true}
use Rattle.std.specs.Prelude.{codes, if◌then◌else◌}
use Rattle.std.proofs.lemmas.List.Elements.{All-head, All-tail}
use Rattle.css_text.specs.AsciiBytes.{backslash, asterisk, close_bracket, close_parenthesis, colon, comma, double_quote, equals_sign, form_feed, full_stop, hyphen, newline, carriage_return, number_sign, open_bracket, open_parenthesis, slash, space, tab, vertical_bar}
use Rattle.css_text.specs.Bytes.{starts_by, starts, past_one}
use Rattle.css_text.specs.Comments.{opens_comment}
use Rattle.css_text.proofs.bytes.GapLemmas.{NoGap, no_gap-byte}
use Rattle.css_syntax.specs.Tokens.{is_name_byte}
use Rattle.css_selector_text.specs.declared.components.Numbering.{Numbering}
use Rattle.css_selector_text.specs.declared.components.Numbering.TheVariants.{Child as OfChild, LastChild as OfLastChild, OfType, LastOfType as OfLastType}
use Rattle.css_selector_text.specs.declared.components.Function.TheVariants.{Numbered, Language}
use Rattle.css_selector_text.specs.Components.{Comparison, Progression, Structure, Namespace, Local, Simple, ListTest, Condition}
use Rattle.css_selector_text.specs.Components.Comparison.{equals, has_word, has_subtag, starts as starts_with, ends as ends_with, contains}
use Rattle.css_selector_text.specs.Components.Structure.{root, scope, empty, first_child, last_child, only_child, first_of_type, last_of_type, only_of_type, nth_child, nth_last_child, nth_of_type, nth_last_of_type}
use Rattle.css_selector_text.specs.Components.Namespace.{absent, any_namespace, of_prefix, default}
use Rattle.css_selector_text.specs.Components.Local.{any_type, a_type, some_attribute, an_attribute, implied}
use Rattle.css_selector_text.specs.Components.Simple.{universal, type_name, id, class, has_attribute, attribute, structure, language, state, function, named_element, nesting, namespaced}
use Rattle.css_selector_text.specs.Components.Condition.{simple}
use Rattle.css_selector_text.specs.reading.Readings.{got, follow, give, ◌>>=◌, ◌>>◌, Step, item, none, as_item, with_first, go_on, items, items_up_to}
use Rattle.css_selector_text.specs.reading.Grammar.{gap, past_comments, name, begins_name, begins_word, begins_compound, ampersand, value, comparison, flag, flag_named, compared, by_comparison, is_bar, at_bar, prefix, if_declared, of_declared, namespace, in_namespace, attribute_from_name, attribute_selector, closing, progression, one_more, plain_structure, plain_pseudo, list_kind, function_named, numbered_by, next_range, range_after, language_ranges, argument_of, of_list, after_word, list_test, after_progression, functional, is_old_element, next_simple, simple_item, ListReader, with_argument, pseudo_condition, condition_here, condition_by}
use Rattle.css_selector_text.specs.printing.Printing.{identifier_text, string_text, progression_text, comparison_text, flag_text, structure_text, further_text, list_text, namespace_text, simple_text}
use Rattle.css_selector_text.specs.reading.KnownNames.{functions}
use Rattle.css_selector_text.specs.printing.WellFormed.{IsDenoted, IsName, IsArgumentOf, IsProgression, IsStructure, IsNamespace, IsFurther}
use Rattle.css_selector_text.proofs.round_trip.ArgumentLemmas.{argument-again}
use Rattle.css_syntax.proofs.CommentLemmas.{no_comments}
use Rattle.css_selector_text.proofs.round_trip.SpelledAgain.{EndsName, ident-again, name-again, begins-again, word-again, decoded-again, value-again, all_below, passes, either_fails}
use Rattle.css_selector_text.proofs.round_trip.NumbersAgain.{no_gap, one_blank, gapped_next, closed_end, of_end, progression-again, progression_calm}
use Rattle.css_selector_text.specs.Names.{Names}

-- ---- items

-- each text is read as its item before what follows it, and nothing more after the last
abbrev pub EachReads : {A : Type 0} → (List ℕ → Step A) → (A → List ℕ) → List A → List ℕ → Type 0
EachReads read text_of [] rest = read rest ≡ none
EachReads read text_of (x ∷ xs) rest =
    (1 ≤ length (text_of x))
    × (read (text_of x ++ (flat_map text_of xs ++ rest)) ≡ item x (flat_map text_of xs ++ rest))
    × EachReads read text_of xs rest

module _ {A : Type 0} (read : List ℕ → Step A) (text_of : A → List ℕ) where
  up_to : (xs : List A) (rest : List ℕ) (n : ℕ) → length xs ≤ n → EachReads read text_of xs rest
      → items_up_to n read (flat_map text_of xs ++ rest) ≡ got xs rest
  up_to [] rest zero less reads = refl
  up_to [] rest (suc n) less reads = ap (λ s. go_on rest s (items_up_to n read)) reads
  up_to (x ∷ xs) rest zero less reads = absurd (omega arith)
  up_to (x ∷ xs) rest (suc n) less reads =
      ap (λ l. go_on l (read l) (items_up_to n read))
      (append_assoc (text_of x) (flat_map text_of xs) rest)
      ∙ ap (λ s. go_on (text_of x ++ (flat_map text_of xs ++ rest)) s (items_up_to n read))
      reads.1
      ∙ ap (with_first x) (up_to xs rest n (omega arith) reads.2)

  each_some : (xs : List A) (rest : List ℕ) → EachReads read text_of xs rest
      → length xs ≤ length (flat_map text_of xs ++ rest)
  each_some [] rest reads = omega arith
  each_some (x ∷ xs) rest reads =
      omega (
        arith,
        reads.0,
        each_some xs rest reads.2,
        length-append (text_of x) (flat_map text_of xs),
        length-append (text_of x ++ flat_map text_of xs) rest,
        length-append (flat_map text_of xs) rest,
      )

  pub items-again : (xs : List A) (rest : List ℕ) → EachReads read text_of xs rest
      → items read (flat_map text_of xs ++ rest) ≡ got xs rest
  items-again xs rest reads =
      up_to xs rest (length (flat_map text_of xs ++ rest)) (each_some xs rest reads) reads

-- ---- what is around a simple selector

-- a byte before which a simple selector ends
abbrev pub is_end : ℕ → Bool
is_end b =
    b == number_sign || b == full_stop || b == open_bracket || b == colon || b == space || b ==
    comma
    || b == close_parenthesis || b == ampersand

-- a simple selector ends there
abbrev pub ends : List ℕ → Bool
ends [] = true
ends (b ∷ text) = is_end b

end_low : (b : ℕ) → is_end b ≡ true → b < 128
end_low b h =
    by (b == number_sign) (b == full_stop) (b == open_bracket) (b == colon) (b == space)
    (b == comma) (b == close_parenthesis) (b == ampersand) refl refl refl refl refl refl refl refl h
  where
    by : (n f o c s k p a : Bool) → (b == number_sign) ≡ n → (b == full_stop) ≡ f
        → (b == open_bracket) ≡ o → (b == colon) ≡ c → (b == space) ≡ s → (b == comma) ≡ k
        → (b == close_parenthesis) ≡ p → (b == ampersand) ≡ a
        → (n || f || o || c || s || k || p || a) ≡ true → b < 128
    by true f o c s k p a en ef eo ec es ek ep ea h = omega (arith, eqb-true b number_sign en)
    by false true o c s k p a en ef eo ec es ek ep ea h = omega (arith, eqb-true b full_stop ef)
    by false false true c s k p a en ef eo ec es ek ep ea h =
        omega (arith, eqb-true b open_bracket eo)
    by false false false true s k p a en ef eo ec es ek ep ea h = omega (arith, eqb-true b colon ec)
    by false false false false true k p a en ef eo ec es ek ep ea h = omega (arith, eqb-true b space es)
    by false false false false false true p a en ef eo ec es ek ep ea h =
        omega (arith, eqb-true b comma ek)
    by false false false false false false true a en ef eo ec es ek ep ea h =
        omega (arith, eqb-true b close_parenthesis ep)
    by false false false false false false false true en ef eo ec es ek ep ea h =
        omega (arith, eqb-true b ampersand ea)
    by false false false false false false false false en ef eo ec es ek ep ea h = absurd (cc)

-- no such byte passes a test that none passes
end_fails : (test : ℕ → Bool) → all_below (λ k. not (is_end k && test k)) 128 ≡ true → (b : ℕ)
    → is_end b ≡ true → test b ≡ false
end_fails test all b h =
    either_fails (is_end b) (test b)
    (passes (λ k. not (is_end k && test k)) 128 b all (end_low b h)) h

pub ends_name : (text : List ℕ) → ends text ≡ true → EndsName text
ends_name [] h = record { bare = refl; calm = refl; apart = refl }
ends_name (b ∷ text) h = record {
  bare = end_fails is_name_byte refl b h;
  calm = let stops = end_fails (λ k. k == backslash) refl b h in rw stops refl;
  apart = end_fails (λ k. k == 62) refl b h;
}

-- a comment begins with a slash
pub no_comment_here : (text : List ℕ) → starts slash text ≡ false → opens_comment text ≡ false
no_comment_here [] h = refl
no_comment_here (b ∷ text) h = rw h refl

pub opens_none : (text : List ℕ) → ends text ≡ true → starts open_parenthesis text ≡ false
opens_none [] h = refl
opens_none (b ∷ text) h = end_fails (λ k. k == open_parenthesis) refl b h

-- two bytes differ of which a test is true and false
pub differ : (test : ℕ → Bool) (b c : ℕ) → test b ≡ true → test c ≡ false → (b == c) ≡ false
differ test b c holds stops = by (b == c) refl
  where
    by : (t : Bool) → (b == c) ≡ t → t ≡ false
    by true e = absurd (let k = ap test (eqb-true b c e) in cc)
    by false e = refl

-- a text that begins a compound selector begins no gap
pub begins_solid : (text : List ℕ) → starts_by begins_compound text ≡ true → NoGap text
begins_solid [] h = absurd (cc)
begins_solid (b ∷ text) h =
    no_gap-byte b text
    (rw (
      differ begins_compound b space h refl,
      differ begins_compound b tab h refl,
      differ begins_compound b newline h refl,
      differ begins_compound b carriage_return h refl,
      differ begins_compound b form_feed h refl,
    ) refl)
    (differ begins_compound b slash h refl)

-- a byte that a name may begin with
abbrev pub may_begin : ℕ → Bool
may_begin b = begins_word b || b == backslash || b == hyphen

pub name_first : (text : List ℕ) → begins_name text ≡ true → starts_by may_begin text ≡ true
name_first [] h = absurd (cc)
name_first (b ∷ text) h = by (begins_word b) (b == backslash) (b == hyphen) _ _ h
  where
    by : (w s y : Bool) (x z : Bool) → ((w || (s && x)) || (y && z)) ≡ true → (w || s || y) ≡ true
    by true s y x z h = refl
    by false true y x z h = refl
    by false false true x z h = refl
    by false false false x z h = absurd (cc)

pub name_other : (c : ℕ) (text : List ℕ) → begins_name text ≡ true → may_begin c ≡ false
    → starts c text ≡ false
name_other c [] h stops = refl
name_other c (b ∷ text) h stops = differ may_begin b c (name_first (b ∷ text) h) stops

pub name_compound : (text : List ℕ) → begins_name text ≡ true
    → starts_by begins_compound text ≡ true
name_compound [] h = absurd (cc)
name_compound (b ∷ text) h =
    by (begins_word b) (b == backslash) (b == hyphen) refl refl refl (name_first (b ∷ text) h)
  where
    by : (w s y : Bool) → begins_word b ≡ w → (b == backslash) ≡ s → (b == hyphen) ≡ y
        → (w || s || y) ≡ true → begins_compound b ≡ true
    by true s y ew es ey h = rw ew refl
    by false true y ew es ey h =
        subst (λ k. begins_compound k ≡ true) (sym (eqb-true b backslash es)) refl
    by false false true ew es ey h =
        subst (λ k. begins_compound k ≡ true) (sym (eqb-true b hyphen ey)) refl
    by false false false ew es ey h = absurd (cc)

-- a printed name begins a name
pub named_text : (n rest : List ℕ) → IsName n → ends rest ≡ true
    → begins_name (identifier_text n ++ rest) ≡ true
named_text n rest some h = begins-again n rest some (ends_name rest h)

-- ---- simple selectors but pseudo-classes

-- no gap begins with what a printed name begins with
name_solid : (n rest : List ℕ) → IsName n → EndsName rest → NoGap (identifier_text n ++ rest)
name_solid n rest some e =
    begins_solid (identifier_text n ++ rest)
    (name_compound (identifier_text n ++ rest) (begins-again n rest some e))

-- no comment is where a simple selector ends, and no bar
pub ends_calm : (text : List ℕ) → ends text ≡ true → opens_comment text ≡ false
ends_calm [] h = refl
ends_calm (b ∷ text) h =
    no_comment_here (b ∷ text) (end_fails (λ k. k == slash) refl b h)

pub ends_barless : (text : List ℕ) → ends text ≡ true → is_bar text ≡ false
ends_barless [] h = refl
ends_barless (b ∷ text) h =
    let other = end_fails (λ k. k == vertical_bar) refl b h in rw other refl

-- where a bar may be after a printed name
bar_after : (n rest : List ℕ) → IsName n → EndsName rest → opens_comment rest ≡ false
    → at_bar (identifier_text n ++ rest) ≡ rest
unfolding at_bar
bar_after n rest some e calm =
    let text : List ℕ = identifier_text n ++ rest in
    let begins = begins-again n rest some e in
    let star : starts asterisk text ≡ false = name_other asterisk text begins refl in
    rw (star, begins) (ap past_comments (word-again n rest some e) ∙ no_comments rest calm)

-- a printed name without a bar after it has no namespace
pub bare-again : (names : Names) (n rest : List ℕ) → IsName n → EndsName rest → opens_comment rest ≡ false
    → is_bar rest ≡ false
    → namespace names (identifier_text n ++ rest) ≡ got None (identifier_text n ++ rest)
unfolding namespace
bare-again names n rest some e calm bare =
    let text : List ℕ = identifier_text n ++ rest in
    ap (λ l. if is_bar l then if_declared text (prefix names text) (past_comments (past_one l)) else got None text)
    (bar_after n rest some e calm)
    ∙ ap (λ (t : Bool). if t then if_declared text (prefix names text) (past_comments (past_one rest))
    else got None text) bare

-- a bar, and what is before it
barred : (names : Names) (text rest : List ℕ) (p : Namespace) → at_bar text ≡ vertical_bar ∷ rest
    → prefix names text ≡ Some p → opens_comment rest ≡ false → starts equals_sign rest ≡ false
    → namespace names text ≡ got (Some p) rest
unfolding namespace
barred names text rest p at is calm other =
    let bar : is_bar (vertical_bar ∷ rest) ≡ true = rw other refl in
    ap (λ l. if is_bar l then if_declared text (prefix names text) (past_comments (past_one l)) else got None text)
    at
    ∙ ap (λ (t : Bool). if t then if_declared text (prefix names text) (past_comments rest)
    else got None text) bar
    ∙ ap (λ q. if_declared text q (past_comments rest)) is
    ∙ ap (got (Some p)) (no_comments rest calm)

-- a printed namespace is read before what begins neither a comment nor with an equals sign
pub namespace-again : (names : Names) (p : Namespace) (rest : List ℕ) → IsNamespace names p → opens_comment rest ≡ false
    → starts equals_sign rest ≡ false → namespace names (namespace_text p ++ rest) ≡ got (Some p) rest
unfolding at_bar prefix
namespace-again names absent rest w calm other =
    barred names (vertical_bar ∷ rest) rest absent (no_comments (vertical_bar ∷ rest) refl) refl calm other
namespace-again names any_namespace rest w calm other =
    barred names (asterisk ∷ vertical_bar ∷ rest) rest any_namespace (no_comments (vertical_bar ∷ rest) refl)
    refl calm other
namespace-again names (default k) rest w calm other = absurd w
namespace-again names (of_prefix n k) rest w calm other =
    let bar : List ℕ = vertical_bar ∷ rest in
    let text : List ℕ = identifier_text n ++ bar in
    let e : EndsName bar = record { bare = refl; calm = refl; apart = refl } in
    let begins = begins-again n bar w.0 e in
    let star : starts asterisk text ≡ false = name_other asterisk text begins refl in
    ap (namespace names) (append_assoc (identifier_text n) (vertical_bar ∷ []) rest)
    ∙ barred names text rest (of_prefix n k) (bar_after n bar w.0 e refl)
    (rw (star, begins) (ap (of_declared names) (decoded-again n bar w.0 e)
    ∙ ap (option_map (of_prefix n)) w.1)) calm other

pub namespace_begins : (names : Names) (p : Namespace) (rest : List ℕ) → IsNamespace names p
    → starts_by begins_compound (namespace_text p ++ rest) ≡ true
namespace_begins names absent rest w = refl
namespace_begins names any_namespace rest w = refl
namespace_begins names (default k) rest w = absurd w
namespace_begins names (of_prefix n k) rest w =
    let bar : List ℕ = vertical_bar ∷ rest in
    ap (starts_by begins_compound) (append_assoc (identifier_text n) (vertical_bar ∷ []) rest)
    ∙ name_compound (identifier_text n ++ bar)
    (begins-again n bar w.0 (record { bare = refl; calm = refl; apart = refl }))

-- and before a printed name
pub namespace_name : (names : Names) (p : Namespace) (n rest : List ℕ) → IsNamespace names p → IsName n → EndsName rest
    → namespace names (namespace_text p ++ (identifier_text n ++ rest))
    ≡ got (Some p) (identifier_text n ++ rest)
namespace_name names p n rest w some e =
    let text : List ℕ = identifier_text n ++ rest in
    let begins = begins-again n rest some e in
    namespace-again names p text w (no_comment_here text (name_other slash text begins refl))
    (name_other equals_sign text begins refl)

-- an attribute selector from its name on, as far as its operator
attribute_front : (n rest : List ℕ) → IsName n → EndsName rest → NoGap rest
    → attribute_from_name (identifier_text n ++ rest)
    ≡ follow (comparison rest) (by_comparison n)
unfolding attribute_from_name
attribute_front n rest some e calm =
    ap (λ r. follow r (λ m. gap >> (comparison >>= by_comparison m)))
    (name-again n rest some e)
    ∙ ap (λ r. follow r (λ x. comparison >>= by_comparison n)) (no_gap rest calm)

bracket_end : (rest : List ℕ) → EndsName (close_bracket ∷ rest)
bracket_end rest = record { bare = refl; calm = refl; apart = refl }

some_attribute-again : (n rest : List ℕ) → IsName n
    → attribute_from_name (identifier_text n ++ (close_bracket ∷ rest))
    ≡ got (some_attribute n) rest
unfolding comparison
some_attribute-again n rest some =
    attribute_front n (close_bracket ∷ rest) some (bracket_end rest)
    (no_gap-byte close_bracket rest refl refl)

-- the flag and the bracket at the end
flag_end : (rest n v : List ℕ) (c : Comparison) (ignores : Bool)
    → follow (gap (flag_text ignores ++ (close_bracket ∷ rest)))
    (λ x. flag >>= λ i. gap >> (closing close_bracket >> give (an_attribute n c v i)))
    ≡ got (an_attribute n c v ignores) rest
unfolding flag
flag_end rest n v c ignores = by ignores
  where
    closed : (i : Bool) → gap (close_bracket ∷ rest) ≡ got false (close_bracket ∷ rest)
        → (gap >> (closing close_bracket >> give (an_attribute n c v i))) (close_bracket ∷ rest)
        ≡ got (an_attribute n c v i) rest
    closed i calm =
        ap (λ r. follow r (λ x. closing close_bracket >> give (an_attribute n c v i))) calm

    calm : gap (close_bracket ∷ rest) ≡ got false (close_bracket ∷ rest)
    calm = no_gap (close_bracket ∷ rest) (no_gap-byte close_bracket rest refl refl)

    by : (i : Bool) → follow (gap (flag_text i ++ (close_bracket ∷ rest)))
        (λ x. flag >>= λ j. gap >> (closing close_bracket >> give
        (an_attribute n c v j)))
        ≡ got (an_attribute n c v i) rest
    by false =
        ap (λ r. follow r (λ x. flag >>= λ j. gap >>
        (closing close_bracket >> give (an_attribute n c v j)))) calm
        ∙ closed false calm
    by true =
        ap (λ r. follow r (λ x. flag >>= λ j. gap >>
        (closing close_bracket >> give (an_attribute n c v j))))
        (one_blank (105 ∷ close_bracket ∷ rest) (no_gap-byte 105 (close_bracket ∷ rest) refl refl))
        ∙ ap (λ r. follow (follow r (flag_named (105 ∷ close_bracket ∷ rest))) (λ j. gap >>
        (closing close_bracket >> give (an_attribute n c v j))))
        (name-again (codes "i") (close_bracket ∷ rest) (omega arith, refl)
        (record { bare = refl; calm = refl; apart = refl }))
        ∙ closed true calm

-- the operator of an attribute selector
operator-again : (rest : List ℕ) (c : Comparison)
    → comparison (comparison_text c ++ (double_quote ∷ rest))
    ≡ got (Some c) (double_quote ∷ rest)
unfolding comparison
operator-again rest equals = refl
operator-again rest has_word = refl
operator-again rest has_subtag = refl
operator-again rest starts_with = refl
operator-again rest ends_with = refl
operator-again rest contains = refl

operator_end : (c : Comparison) (rest : List ℕ)
    → EndsName (comparison_text c ++ rest) × NoGap (comparison_text c ++ rest)
operator_end equals rest =
    (record { bare = refl; calm = refl; apart = refl }, no_gap-byte 61 rest refl refl)
operator_end has_word rest =
    (record { bare = refl; calm = refl; apart = refl }, no_gap-byte 126 (61 ∷ rest) refl refl)
operator_end has_subtag rest =
    (record { bare = refl; calm = refl; apart = refl }, no_gap-byte 124 (61 ∷ rest) refl refl)
operator_end starts_with rest =
    (record { bare = refl; calm = refl; apart = refl }, no_gap-byte 94 (61 ∷ rest) refl refl)
operator_end ends_with rest =
    (record { bare = refl; calm = refl; apart = refl }, no_gap-byte 36 (61 ∷ rest) refl refl)
operator_end contains rest =
    (record { bare = refl; calm = refl; apart = refl }, no_gap-byte 42 (61 ∷ rest) refl refl)

-- what follows the name of an attribute that is compared
abbrev tested : Comparison → List ℕ → Bool → List ℕ → List ℕ
tested c v ignores rest =
    comparison_text c ++ (string_text v ++ (flag_text ignores ++ (close_bracket ∷ rest)))

tested_end : (c : Comparison) (v : List ℕ) (ignores : Bool) (rest : List ℕ)
    → EndsName (tested c v ignores rest)
tested_end c v ignores rest =
    (operator_end c (string_text v ++ (flag_text ignores ++ (close_bracket ∷ rest)))).0

operator_calm : (c : Comparison) (rest : List ℕ) → opens_comment (comparison_text c ++ rest) ≡ false
operator_calm equals rest = refl
operator_calm has_word rest = refl
operator_calm has_subtag rest = refl
operator_calm starts_with rest = refl
operator_calm ends_with rest = refl
operator_calm contains rest = refl

-- no operator is a bar after a namespace
operator_bare : (c : Comparison) (rest : List ℕ) → is_bar (comparison_text c ++ rest) ≡ false
operator_bare equals rest = refl
operator_bare has_word rest = refl
operator_bare has_subtag rest = refl
operator_bare starts_with rest = refl
operator_bare ends_with rest = refl
operator_bare contains rest = refl

an_attribute-again : (n v rest : List ℕ) (c : Comparison) (ignores : Bool) → IsName n → IsDenoted v
    → attribute_from_name (identifier_text n ++ (comparison_text c ++ (string_text v
    ++ (flag_text ignores ++ (close_bracket ∷ rest)))))
    ≡ got (an_attribute n c v ignores) rest
unfolding compared
an_attribute-again n v rest c ignores some denoted =
    let end : List ℕ = flag_text ignores ++ (close_bracket ∷ rest) in
    let quoted : List ℕ = string_text v ++ end in
    let p = operator_end c quoted in
    attribute_front n (comparison_text c ++ quoted) some p.0 p.1
    ∙ ap (λ r. follow r (by_comparison n)) (operator-again _ c)
    ∙ ap (λ r. follow r (λ x. value >>= λ t. gap >> (flag >>= λ i. gap >>
    (closing close_bracket >> give (an_attribute n c t i)))))
    (no_gap quoted (no_gap-byte double_quote _ refl refl))
    ∙ ap (λ r. follow r (λ t. gap >> (flag >>= λ i. gap >>
    (closing close_bracket >> give (an_attribute n c t i)))))
    (value-again v end denoted)
    ∙ flag_end rest n v c ignores

-- an attribute selector, by the namespace before its name
attribute_by : (names : Names) (text mid rest : List ℕ) (p : Option Namespace) (local : Local) → NoGap text
    → namespace names text ≡ got p mid → attribute_from_name mid ≡ got local rest
    → attribute_selector names text ≡ got (in_namespace p local) rest
unfolding attribute_selector
attribute_by names text mid rest p local solid spaced reads =
    ap (λ r. follow r (λ x. namespace names >>= λ n. attribute_from_name >>= λ l.
    give (in_namespace n l))) (no_gap text solid)
    ∙ ap (λ r. follow r (λ n. attribute_from_name >>= λ l. give (in_namespace n l))) spaced
    ∙ ap (λ r. follow r (λ l. give (in_namespace p l))) reads

-- without a namespace
attribute_bare : (names : Names) (n after rest : List ℕ) (local : Local) → IsName n → EndsName after
    → opens_comment after ≡ false → is_bar after ≡ false
    → attribute_from_name (identifier_text n ++ after) ≡ got local rest
    → attribute_selector names (identifier_text n ++ after) ≡ got (in_namespace None local) rest
attribute_bare names n after rest local some e calm bare reads =
    attribute_by names (identifier_text n ++ after) (identifier_text n ++ after) rest None local
    (name_solid n after some e) (bare-again names n after some e calm bare) reads

-- with one
attribute_in : (names : Names) (p : Namespace) (n after rest : List ℕ) (local : Local) → IsNamespace names p → IsName n
    → EndsName after → attribute_from_name (identifier_text n ++ after) ≡ got local rest
    → attribute_selector names (namespace_text p ++ (identifier_text n ++ after))
    ≡ got (namespaced p local) rest
attribute_in names p n after rest local w some e reads =
    let text : List ℕ = namespace_text p ++ (identifier_text n ++ after) in
    attribute_by names text (identifier_text n ++ after) rest (Some p) local
    (begins_solid text (namespace_begins names p (identifier_text n ++ after) w))
    (namespace_name names p n after w some e) reads

-- ---- arguments of pseudo-classes

-- the argument of a pseudo-class with `An+B`
numbered_argument : (names : Names) (list : ListReader) (opened n rest : List ℕ) (kind : Numbering) (p : Progression)
    → IsProgression p
    → functional names list opened n (Some (Numbered kind)) (progression_text p ++ (close_parenthesis ∷ rest))
    ≡ got (simple (structure (numbered_by kind p))) rest
numbered_argument names list opened n rest kind p w =
    let end : List ℕ = close_parenthesis ∷ rest in
    ap (λ r. follow r (λ x. progression >>= λ q. gap >>
    after_progression list opened kind q (list_test kind q)))
    (no_gap _ (progression_calm p end w.0 w.1))
    ∙ gapped_next (progression (progression_text p ++ end))
    (λ q. after_progression list opened kind q (list_test kind q)) p end
    (progression-again p end end w.0 w.1 (closed_end rest))
    ∙ by (list_test kind p)
  where
    by : (o : Option ListTest)
        → after_progression list opened kind p o (close_parenthesis ∷ rest)
        ≡ got (simple (structure (numbered_by kind p))) rest
    by None = refl
    by (Some test) = refl

-- a list after it is read by what reads lists, from the blank after `of` on
pub of_argument : (names : Names) (list : ListReader) (opened n a : List ℕ) (kind : Numbering) (test : ListTest)
    (p : Progression) → list_test kind p ≡ Some test → IsProgression p
    → functional names list opened n (Some (Numbered kind)) (progression_text p ++ (codes " of " ++ a))
    ≡ of_list list test opened (space ∷ a)
of_argument names list opened n a kind test p is_test w =
    let listed : List ℕ = space ∷ a in
    let left : List ℕ = 111 ∷ 102 ∷ listed in
    let end : List ℕ = space ∷ left in
    ap (λ r. follow r (λ x. progression >>= λ q. gap >>
    after_progression list opened kind q (list_test kind q)))
    (no_gap _ (progression_calm p end w.0 w.1))
    ∙ gapped_next (progression (progression_text p ++ end))
    (λ q. after_progression list opened kind q (list_test kind q)) p left
    (progression-again p end left w.0 w.1 (of_end (102 ∷ listed)))
    ∙ ap (λ o. after_progression list opened kind p o left) is_test
    ∙ ap (λ r. follow r (after_word list opened test left))
    (name-again (codes "of") listed (omega arith, refl) (record { bare = refl; calm = refl; apart = refl }))

-- a further language range
range-again : (range rest : List ℕ) → IsDenoted range
    → next_range (further_text string_text range ++ rest) ≡ item range rest
unfolding next_range
range-again range rest denoted =
    let text : List ℕ = string_text range ++ rest in
    ap range_after (no_gap (comma ∷ space ∷ text) (no_gap-byte comma (space ∷ text) refl refl))
    ∙ ap (λ r. as_item (λ x. x) (follow r (λ x. value)))
    (one_blank text (no_gap-byte double_quote _ refl refl))
    ∙ ap (as_item (λ x. x)) (value-again range rest denoted)

range_end : (rest : List ℕ) → next_range (close_parenthesis ∷ rest) ≡ none
unfolding next_range
range_end rest =
    ap range_after
    (no_gap (close_parenthesis ∷ rest) (no_gap-byte close_parenthesis rest refl refl))

each_range : (ranges : List (List ℕ)) (rest : List ℕ) → All IsDenoted ranges
    → EachReads next_range (further_text string_text) ranges (close_parenthesis ∷ rest)
each_range [] rest all = range_end rest
each_range (range ∷ ranges) rest all = (
  omega arith,
  range-again range _ (All-head IsDenoted range ranges all),
  each_range ranges rest (All-tail IsDenoted range ranges all),
)

ranges-again : (rest : List ℕ) (ranges : List (List ℕ)) → 0 < length ranges → All IsDenoted ranges
    → language_ranges (list_text string_text ranges ++ (close_parenthesis ∷ rest))
    ≡ got ranges rest
unfolding language_ranges
ranges-again rest [] some all = absurd (omega arith)
ranges-again rest (range ∷ ranges) some all =
    let end : List ℕ = close_parenthesis ∷ rest in
    let others : List ℕ = flat_map (further_text string_text) ranges ++ end in
    ap language_ranges
    (append_assoc (string_text range) (flat_map (further_text string_text) ranges) end)
    ∙ ap (λ r. follow r (λ x. value >>= λ first. one_more first (items next_range) >>= λ all.
    gap >> (closing close_parenthesis >> give all)))
    (no_gap (string_text range ++ others) (no_gap-byte double_quote _ refl refl))
    ∙ ap (λ r. follow r (λ first. one_more first (items next_range) >>= λ all.
    gap >> (closing close_parenthesis >> give all)))
    (value-again range others (All-head IsDenoted range ranges all))
    ∙ ap (λ r. follow (with_first range r) (λ all.
    gap >> (closing close_parenthesis >> give all)))
    (items-again next_range (further_text string_text) ranges end
    (each_range ranges rest (All-tail IsDenoted range ranges all)))
    ∙ ap (λ r. follow r (λ x. closing close_parenthesis >> give (range ∷ ranges)))
    (no_gap end (no_gap-byte close_parenthesis rest refl refl))

language_argument : (names : Names) (list : ListReader) (opened n rest : List ℕ) (ranges : List (List ℕ))
    → 0 < length ranges × All IsDenoted ranges
    → functional names list opened n (Some Language) (list_text string_text ranges ++ (close_parenthesis ∷ rest))
    ≡ got (simple (language ranges)) rest
language_argument names list opened n rest ranges w =
    ap (λ r. follow r (λ all. give (simple (language all)))) (ranges-again rest ranges w.0 w.1)

-- ---- pseudo-classes without a list

-- the bytes that begin simple selectors but types
abbrev pub is_start : ℕ → Bool
is_start b =
    b == number_sign || b == full_stop || b == open_bracket || b == colon || b == ampersand

pub by_start : (P : ℕ → Type 0) → P number_sign → P full_stop → P open_bracket → P colon
    → P ampersand → (b : ℕ) → is_start b ≡ true → P b
by_start P pn pf po pc pa b h =
    by (b == number_sign) (b == full_stop) (b == open_bracket) (b == colon) (b == ampersand)
    refl refl refl refl refl h
  where
    by : (n f o c a : Bool) → (b == number_sign) ≡ n → (b == full_stop) ≡ f
        → (b == open_bracket) ≡ o → (b == colon) ≡ c → (b == ampersand) ≡ a
        → (n || f || o || c || a) ≡ true → P b
    by true f o c a en ef eo ec ea h = subst P (sym (eqb-true b number_sign en)) pn
    by false true o c a en ef eo ec ea h = subst P (sym (eqb-true b full_stop ef)) pf
    by false false true c a en ef eo ec ea h = subst P (sym (eqb-true b open_bracket eo)) po
    by false false false true a en ef eo ec ea h = subst P (sym (eqb-true b colon ec)) pc
    by false false false false true en ef eo ec ea h = subst P (sym (eqb-true b ampersand ea)) pa
    by false false false false false en ef eo ec ea h = absurd (cc)

-- a further simple selector is no type
pub further_starts : (names : Names) (s : Simple) → IsFurther names s → starts_by is_start (simple_text s) ≡ true
further_starts names universal w = absurd w
further_starts names (type_name n) w = absurd w
further_starts names (id n) w = refl
further_starts names (class n) w = refl
further_starts names (has_attribute n) w = refl
further_starts names (attribute n c v ignores) w = refl
further_starts names (structure s) w = by s
  where
    by : (s : Structure) → starts_by is_start (structure_text s) ≡ true
    by root = refl
    by scope = refl
    by empty = refl
    by first_child = refl
    by last_child = refl
    by only_child = refl
    by first_of_type = refl
    by last_of_type = refl
    by only_of_type = refl
    by (nth_child p) = refl
    by (nth_last_child p) = refl
    by (nth_of_type p) = refl
    by (nth_last_of_type p) = refl
further_starts names (language ranges) w = refl
further_starts names (state n) w = refl
further_starts names (function n a) w = refl
further_starts names (named_element n a) w = absurd w
further_starts names (nesting list) w = refl
further_starts names (namespaced p any_type) w = absurd w.1
further_starts names (namespaced p implied) w = absurd w.1
further_starts names (namespaced p (a_type n)) w = absurd w.1
further_starts names (namespaced p (some_attribute n)) w = refl
further_starts names (namespaced p (an_attribute n c v ignores)) w = refl

pub call_end : (argument : List ℕ) → EndsName (open_parenthesis ∷ argument)
call_end argument = record { bare = refl; calm = refl; apart = refl }

attribute_assoc : (a b c d e f : List ℕ)
    → (((((a ++ b) ++ c) ++ d) ++ e)) ++ f ≡ a ++ (b ++ (c ++ (d ++ (e ++ f))))
attribute_assoc a b c d e f = simp append_assoc

pub nth_assoc : (a b c d e : List ℕ) → (((a ++ b) ++ c) ++ d) ++ e ≡ a ++ (b ++ (c ++ (d ++ e)))
nth_assoc a b c d e = simp append_assoc

some_assoc : (a b c d : List ℕ) → ((a ++ b) ++ c) ++ d ≡ a ++ (b ++ (c ++ d))
some_assoc a b c d = simp append_assoc

-- a name and an argument in parentheses, before more
pub call_assoc : (n a rest : List ℕ)
    → (n ++ (open_parenthesis ∷ (a ++ (close_parenthesis ∷ [])))) ++ rest
    ≡ n ++ (open_parenthesis ∷ (a ++ (close_parenthesis ∷ rest)))
call_assoc n a rest =
    append_assoc n (open_parenthesis ∷ (a ++ (close_parenthesis ∷ []))) rest
    ∙ ap (λ l. n ++ (open_parenthesis ∷ l)) (append_assoc a (close_parenthesis ∷ []) rest)

-- the argument of what has this name
pub argument_of-again : (names : List (List ℕ)) (opened n a rest : List ℕ) → IsArgumentOf names n a
    → argument_of names opened n (a ++ (close_parenthesis ∷ rest)) ≡ got a rest
argument_of-again names opened n a rest w =
    let known = w.0 in
    rw known (argument-again (a ++ (close_parenthesis ∷ [])) a [] w.1 rest)

module _ (names : Names) (list : ListReader) where
  -- a pseudo-class is read by its name
  pseudo_named : (n rest : List ℕ) → IsName n → EndsName rest
      → condition_by names list (colon ∷ (identifier_text n ++ rest))
      ≡ pseudo_condition names list (colon ∷ (identifier_text n ++ rest)) n rest
  pseudo_named n rest some e =
      let text : List ℕ = identifier_text n ++ rest in
      let one : starts colon text ≡ false =
      name_other colon text (begins-again n rest some e) refl in
      let none : past_comments text ≡ text =
      no_comments text (no_comment_here text (name_other slash text (begins-again n rest some e) refl))
      in
      let reads = name-again n rest some e in
      ap (condition_here names list) (no_comments (colon ∷ text) refl) ∙ rw (none, one, reads) refl

  -- a pseudo-class that is only a name
  plain-again : (n rest : List ℕ) (s : Simple) → IsName n → is_old_element n ≡ false
      → ends rest ≡ true
      → ((opened : List ℕ) → plain_pseudo names opened n (plain_structure n) rest ≡ got s rest)
      → condition_by names list (colon ∷ (identifier_text n ++ rest)) ≡ item (simple s) rest
  plain-again n rest s some other h is =
      let stops = opens_none rest h in
      pseudo_named n rest some (ends_name rest h)
      ∙ rw (stops, other) (ap (λ r. simple_item (as_item (λ x. x) r)) (is _))

  -- a functional pseudo-class, by what its argument is read as
  pub call-again : (n argument rest : List ℕ) (c : Condition) → IsName n
      → ((opened : List ℕ)
      → with_argument names list opened n (list_kind n) (function_named n) argument ≡ got c rest)
      → condition_by names list (colon ∷ (identifier_text n ++ (open_parenthesis ∷ argument)))
      ≡ item c rest
  call-again n argument rest c some reads =
      pseudo_named n (open_parenthesis ∷ argument) some (call_end argument)
      ∙ ap (as_item (λ x. x)) (reads _)

  numbered-again : (n rest : List ℕ) (kind : Numbering) (p : Progression) → IsName n
      → list_kind n ≡ None → function_named n ≡ Some (Numbered kind) → IsProgression p
      → condition_by names list (colon ∷ (identifier_text n ++ (open_parenthesis ∷ ((progression_text p
      ++ (close_parenthesis ∷ [])) ++ rest))))
      ≡ item (simple (structure (numbered_by kind p))) rest
  numbered-again n rest kind p some no_list is w =
      call-again n argument rest (simple (structure (numbered_by kind p))) some reads
    where
      argument : List ℕ
      argument = (progression_text p ++ (close_parenthesis ∷ [])) ++ rest

      reads : (opened : List ℕ)
          → with_argument names list opened n (list_kind n) (function_named n) argument
          ≡ got (simple (structure (numbered_by kind p))) rest
      reads opened =
          ap (λ k. with_argument names list opened n k (function_named n) argument) no_list
          ∙ ap (λ f. with_argument names list opened n None f argument) is
          ∙ ap (with_argument names list opened n None (Some (Numbered kind)))
          (append_assoc (progression_text p) (close_parenthesis ∷ []) rest)
          ∙ numbered_argument names list opened n rest kind p w

  structure-again : (s : Structure) (rest : List ℕ) → IsStructure s → ends rest ≡ true
      → condition_by names list (structure_text s ++ rest) ≡ item (simple (structure s)) rest
  structure-again root rest w h = plain-again (codes "root") rest _ (omega arith, refl) refl h (λ opened. refl)
  structure-again scope rest w h = plain-again (codes "scope") rest _ (omega arith, refl) refl h (λ opened. refl)
  structure-again empty rest w h = plain-again (codes "empty") rest _ (omega arith, refl) refl h (λ opened. refl)
  structure-again first_child rest w h =
      plain-again (codes "first-child") rest _ (omega arith, refl) refl h (λ opened. refl)
  structure-again last_child rest w h =
      plain-again (codes "last-child") rest _ (omega arith, refl) refl h (λ opened. refl)
  structure-again only_child rest w h =
      plain-again (codes "only-child") rest _ (omega arith, refl) refl h (λ opened. refl)
  structure-again first_of_type rest w h =
      plain-again (codes "first-of-type") rest _ (omega arith, refl) refl h (λ opened. refl)
  structure-again last_of_type rest w h =
      plain-again (codes "last-of-type") rest _ (omega arith, refl) refl h (λ opened. refl)
  structure-again only_of_type rest w h =
      plain-again (codes "only-of-type") rest _ (omega arith, refl) refl h (λ opened. refl)
  structure-again (nth_child p) rest w h =
      numbered-again (codes "nth-child") rest OfChild p (omega arith, refl) refl refl w
  structure-again (nth_last_child p) rest w h =
      numbered-again (codes "nth-last-child") rest OfLastChild p (omega arith, refl) refl refl w
  structure-again (nth_of_type p) rest w h =
      numbered-again (codes "nth-of-type") rest OfType p (omega arith, refl) refl refl w
  structure-again (nth_last_of_type p) rest w h =
      numbered-again (codes "nth-last-of-type") rest OfLastType p (omega arith, refl) refl refl w

  language-again : (ranges : List (List ℕ)) (rest : List ℕ) → 0 < length ranges × All IsDenoted ranges
      → condition_by names list (simple_text (language ranges) ++ rest)
      ≡ item (simple (language ranges)) rest
  language-again ranges rest some =
      call-again (codes "lang") ((list_text string_text ranges ++ (close_parenthesis ∷ [])) ++ rest)
      rest (simple (language ranges)) (omega arith, refl) (λ opened.
      ap (with_argument names list opened (codes "lang") None (Some Language))
      (append_assoc (list_text string_text ranges) (close_parenthesis ∷ []) rest)
      ∙ language_argument names list opened (codes "lang") rest ranges some)

  -- one that has no meaning here
  called-again : (n a rest : List ℕ) → IsFurther names (function n a)
      → condition_by names list (simple_text (function n a) ++ rest) ≡ item (simple (function n a)) rest
  called-again n a rest w =
      ap (λ l. condition_by names list (colon ∷ l)) (call_assoc (identifier_text n) a rest)
      ∙ call-again n (a ++ (close_parenthesis ∷ rest)) rest (simple (function n a)) w.0 reads
    where
      reads : (opened : List ℕ)
          → with_argument names list opened n (list_kind n) (function_named n)
          (a ++ (close_parenthesis ∷ rest)) ≡ got (simple (function n a)) rest
      reads opened =
          rw (w.1, w.2) (ap (λ r. follow r (λ b. give (simple (function n b))))
          (argument_of-again (functions names) opened n a rest w.3))

  -- a simple selector that is no type
  pub further-again : (s : Simple) (rest : List ℕ) → IsFurther names s → ends rest ≡ true
      → condition_by names list (simple_text s ++ rest) ≡ item (simple s) rest
  unfolding next_simple
  further-again universal rest w h = absurd w
  further-again (type_name n) rest w h = absurd w
  further-again (id n) rest w h =
      ap (condition_here names list) (no_comments (number_sign ∷ (identifier_text n ++ rest)) refl)
      ∙ ap (λ r. simple_item (as_item id r)) (ident-again n rest w (ends_name rest h))
  further-again (class n) rest w h =
      ap (condition_here names list) (no_comments (full_stop ∷ (identifier_text n ++ rest)) refl)
      ∙ ap (λ l. simple_item (as_item class (name l))) (no_comments (identifier_text n ++ rest)
      (no_comment_here (identifier_text n ++ rest)
      (name_other slash (identifier_text n ++ rest) (named_text n rest w h) refl)))
      ∙ ap (λ r. simple_item (as_item class r)) (name-again n rest w (ends_name rest h))
  further-again (has_attribute n) rest w h =
      ap (condition_here names list) (no_comments (simple_text (has_attribute n) ++ rest) refl)
      ∙ ap (λ l. simple_item (next_simple names (open_bracket ∷ l)))
      (append_assoc (identifier_text n) (close_bracket ∷ []) rest)
      ∙ ap (λ r. simple_item (as_item (λ s. s) r))
      (attribute_bare names n (close_bracket ∷ rest) rest (some_attribute n) w (bracket_end rest) refl refl
      (some_attribute-again n rest w))
  further-again (attribute n c v ignores) rest w h =
      ap (condition_here names list)
      (no_comments (simple_text (attribute n c v ignores) ++ rest) refl)
      ∙ ap (λ l. simple_item (next_simple names (open_bracket ∷ l)))
      (attribute_assoc (identifier_text n) (comparison_text c) (string_text v) (flag_text ignores)
      (close_bracket ∷ []) rest)
      ∙ ap (λ r. simple_item (as_item (λ s. s) r))
      (attribute_bare names n (tested c v ignores rest) rest (an_attribute n c v ignores) w.0
      (tested_end c v ignores rest) (operator_calm c _) (operator_bare c _)
      (an_attribute-again n v rest c ignores w.0 w.1))
  further-again (structure s) rest w h = structure-again s rest w h
  further-again (language ranges) rest w h = language-again ranges rest w
  further-again (state n) rest w h =
      let known = w.3 in
      plain-again n rest (state n) w.0 w.2 h
      (λ opened. ap (λ o. plain_pseudo names opened n o rest) w.1 ∙ rw known refl)
  further-again (function n a) rest w h = called-again n a rest w
  further-again (named_element n a) rest w h = absurd w
  further-again (nesting stands) rest w h =
      ap (condition_here names list) (no_comments (ampersand ∷ rest) refl)
      ∙ ap (λ l. item (simple (nesting l)) rest) (sym w)
  further-again (namespaced p any_type) rest w h = absurd w.1
  further-again (namespaced p implied) rest w h = absurd w.1
  further-again (namespaced p (a_type n)) rest w h = absurd w.1
  further-again (namespaced p (some_attribute n)) rest w h =
      ap (condition_here names list)
      (no_comments (simple_text (namespaced p (some_attribute n)) ++ rest) refl)
      ∙ ap (λ l. simple_item (next_simple names (open_bracket ∷ l)))
      (some_assoc (namespace_text p) (identifier_text n) (close_bracket ∷ []) rest)
      ∙ ap (λ r. simple_item (as_item (λ s. s) r))
      (attribute_in names p n (close_bracket ∷ rest) rest (some_attribute n) w.0 w.1 (bracket_end rest)
      (some_attribute-again n rest w.1))
  further-again (namespaced p (an_attribute n c v ignores)) rest w h =
      ap (condition_here names list)
      (no_comments (simple_text (namespaced p (an_attribute n c v ignores)) ++ rest) refl)
      ∙ ap (λ l. simple_item (next_simple names (open_bracket ∷ l)))
      (attribute_assoc (namespace_text p ++ identifier_text n) (comparison_text c) (string_text v)
      (flag_text ignores) (close_bracket ∷ []) rest
      ∙ append_assoc (namespace_text p) (identifier_text n) (tested c v ignores rest))
      ∙ ap (λ r. simple_item (as_item (λ s. s) r))
      (attribute_in names p n (tested c v ignores rest) rest (an_attribute n c v ignores) w.0
      w.1.0 (tested_end c v ignores rest) (an_attribute-again n v rest c ignores w.1.0 w.1.1))
