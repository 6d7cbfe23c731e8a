-- Worked sequences of tokens, computed.
-- Computes `tokens_of` and `sequence_of` of `specs/TokenSequences`.
use Rattle.std.specs.Prelude.{◌≡◌, refl, [], ◌∷◌, codes, Ok, Err, encode_utf8_all}
use Rattle.css_text.specs.declared.error.Error.TheVariants.{InvalidIdent, InvalidComment, InvalidByte, SelectorMissing, UnexpectedSelector, UnexpectedCombinator, InvalidAttributeSelector, InvalidLanguagePseudoClass, UnexpectedEndOfStream}
use Rattle.css_text.specs.AsciiBytes.{close_bracket, equals_sign, open_parenthesis, space}
use Rattle.css_text.specs.Reading.{ended, wrong_byte, no_name, no_comment, no_selector, unexpected_selector, unexpected_combinator, no_attribute_form, no_language}
use Rattle.css_text.specs.Characters.{Edition, first_edition, second_edition}
use Rattle.simplecss_grammar.specs.Components.Operator.{exists, equals, has_word, begins_with}
use Rattle.simplecss_grammar.specs.Tokens.Token.{universal_selector, type_selector, id_selector, class_selector, attribute_selector, named_pseudo_class, lang_pseudo_class, descendant_combinator, child_combinator, adjacent_combinator}
use Rattle.simplecss_grammar.specs.TokenSequences.{tokens_of, sequence_of}
use Rattle.simplecss_grammar.specs.TokenSequences.TokenSequence.{item, sequence_end}
use Rattle.simplecss_grammar.proofs.vectors.OnLiterals.{simplecss_on_literals}

-- one simple piece, up to a stop
pub simple_pieces : (edition : Edition) →
    (tokens_of edition (codes "*") ≡ Ok universal_selector ∷ [])
    × (tokens_of edition (codes "div") ≡ Ok (type_selector (codes "div")) ∷ [])
    × (tokens_of edition (codes "div {") ≡ Ok (type_selector (codes "div")) ∷ [])
    × (tokens_of edition (codes "div,") ≡ Ok (type_selector (codes "div")) ∷ [])
    × (tokens_of edition (codes "div{") ≡ Ok (type_selector (codes "div")) ∷ [])
    × (tokens_of edition (codes "div ,") ≡ Ok (type_selector (codes "div")) ∷ [])
    × (tokens_of edition (codes "/**/a") ≡ Ok (type_selector (codes "a")) ∷ [])
    × (tokens_of edition (codes "/* */a") ≡ Ok (type_selector (codes "a")) ∷ [])
    × (tokens_of edition (codes "/* comment */a") ≡ Ok (type_selector (codes "a")) ∷ [])
    × (tokens_of edition (codes "/**/ /**/a") ≡ Ok (type_selector (codes "a")) ∷ [])
    × (tokens_of edition (codes "/**/ a /**/") ≡ Ok (type_selector (codes "a")) ∷ [])
    × (tokens_of edition (codes "#div") ≡ Ok (id_selector (codes "div")) ∷ [])
    × (tokens_of edition (codes ".div") ≡ Ok (class_selector (codes "div")) ∷ [])
    × (tokens_of edition (codes ":first-child")
    ≡ Ok (named_pseudo_class (codes "first-child")) ∷ [])
    × (tokens_of edition (codes ":lang(en)") ≡ Ok (lang_pseudo_class (codes "en")) ∷ [])
    × (tokens_of edition (codes "-") ≡ Ok (type_selector (codes "-")) ∷ [])
unfolding simplecss_on_literals
simple_pieces first_edition =
    (refl, refl, refl, refl, refl, refl, refl, refl, refl, refl, refl, refl, refl, refl, refl, refl)
simple_pieces second_edition =
    (refl, refl, refl, refl, refl, refl, refl, refl, refl, refl, refl, refl, refl, refl, refl, refl)

-- attributes, with and without a value
pub attributes : (edition : Edition) →
    (tokens_of edition (codes "[id]") ≡ Ok (attribute_selector (codes "id") exists) ∷ [])
    × (tokens_of edition (codes "[id=test]")
    ≡ Ok (attribute_selector (codes "id") (equals (codes "test"))) ∷ [])
    × (tokens_of edition (codes "[id='test']")
    ≡ Ok (attribute_selector (codes "id") (equals (codes "test"))) ∷ [])
    × (tokens_of edition (codes "[id=\"test\"]")
    ≡ Ok (attribute_selector (codes "id") (equals (codes "test"))) ∷ [])
    × (tokens_of edition (codes "[id~=test]")
    ≡ Ok (attribute_selector (codes "id") (has_word (codes "test"))) ∷ [])
    × (tokens_of edition (codes "[id|=test]")
    ≡ Ok (attribute_selector (codes "id") (begins_with (codes "test"))) ∷ [])
    × (tokens_of edition (codes "[id='te\\'st']")
    ≡ Ok (attribute_selector (codes "id") (equals (codes "te\\'st"))) ∷ [])
    × (tokens_of edition (codes "[id=\"te\\\"st\"]")
    ≡ Ok (attribute_selector (codes "id") (equals (codes "te\\\"st"))) ∷ [])
unfolding simplecss_on_literals
attributes first_edition = (refl, refl, refl, refl, refl, refl, refl, refl)
attributes second_edition = (refl, refl, refl, refl, refl, refl, refl, refl)

-- simple pieces of one simple selector
pub compounds : (edition : Edition) →
    (tokens_of edition (codes "div:first-child")
    ≡ Ok (type_selector (codes "div")) ∷ Ok (named_pseudo_class (codes "first-child")) ∷ [])
    × (tokens_of edition (codes "div.test")
    ≡ Ok (type_selector (codes "div")) ∷ Ok (class_selector (codes "test")) ∷ [])
    × (tokens_of edition (codes "div.test.warn") ≡ Ok (type_selector (codes "div"))
    ∷ Ok (class_selector (codes "test")) ∷ Ok (class_selector (codes "warn")) ∷ [])
    × (tokens_of edition (codes "div#id")
    ≡ Ok (type_selector (codes "div")) ∷ Ok (id_selector (codes "id")) ∷ [])
    × (tokens_of edition (codes "*[id]")
    ≡ Ok universal_selector ∷ Ok (attribute_selector (codes "id") exists) ∷ [])
    × (tokens_of edition (codes "*.test")
    ≡ Ok universal_selector ∷ Ok (class_selector (codes "test")) ∷ [])
    × (tokens_of edition (codes "*#id")
    ≡ Ok universal_selector ∷ Ok (id_selector (codes "id")) ∷ [])
    × (tokens_of edition (codes "div[id=test][color=red]") ≡ Ok (type_selector (codes "div"))
    ∷ Ok (attribute_selector (codes "id") (equals (codes "test")))
    ∷ Ok (attribute_selector (codes "color") (equals (codes "red"))) ∷ [])
    × (tokens_of edition (codes "a.external:visited") ≡ Ok (type_selector (codes "a"))
    ∷ Ok (class_selector (codes "external")) ∷ Ok (named_pseudo_class (codes "visited")) ∷ [])
unfolding simplecss_on_literals
compounds first_edition = (refl, refl, refl, refl, refl, refl, refl, refl, refl)
compounds second_edition = (refl, refl, refl, refl, refl, refl, refl, refl, refl)

-- a gap with a space byte joins two compounds
pub descendants : (edition : Edition) →
    (tokens_of edition (codes "div p") ≡ Ok (type_selector (codes "div")) ∷ Ok descendant_combinator
    ∷ Ok (type_selector (codes "p")) ∷ [])
    × (tokens_of edition (codes "a\nb") ≡ Ok (type_selector (codes "a")) ∷ Ok descendant_combinator
    ∷ Ok (type_selector (codes "b")) ∷ [])
    × (tokens_of edition (codes "a /**/ b") ≡ Ok (type_selector (codes "a"))
    ∷ Ok descendant_combinator ∷ Ok (type_selector (codes "b")) ∷ [])
    × (tokens_of edition (codes "a /**/b") ≡ Ok (type_selector (codes "a"))
    ∷ Ok descendant_combinator ∷ Ok (type_selector (codes "b")) ∷ [])
    × (tokens_of edition (codes "a/**/ b") ≡ Ok (type_selector (codes "a"))
    ∷ Ok descendant_combinator ∷ Ok (type_selector (codes "b")) ∷ [])
    × (tokens_of edition (codes "a/**/ /**/b") ≡ Ok (type_selector (codes "a"))
    ∷ Ok descendant_combinator ∷ Ok (type_selector (codes "b")) ∷ [])
    × (tokens_of edition (codes "a /**/ /**/ b") ≡ Ok (type_selector (codes "a"))
    ∷ Ok descendant_combinator ∷ Ok (type_selector (codes "b")) ∷ [])
    × (tokens_of edition (codes "a /**//**/ b") ≡ Ok (type_selector (codes "a"))
    ∷ Ok descendant_combinator ∷ Ok (type_selector (codes "b")) ∷ [])
    × (tokens_of edition (codes "div p a")
    ≡ Ok (type_selector (codes "div")) ∷ Ok descendant_combinator ∷ Ok (type_selector (codes "p"))
    ∷ Ok descendant_combinator ∷ Ok (type_selector (codes "a")) ∷ [])
    × (tokens_of edition (codes "div * p")
    ≡ Ok (type_selector (codes "div")) ∷ Ok descendant_combinator ∷ Ok universal_selector
    ∷ Ok descendant_combinator ∷ Ok (type_selector (codes "p")) ∷ [])
    × (tokens_of edition (codes "div .p") ≡ Ok (type_selector (codes "div"))
    ∷ Ok descendant_combinator ∷ Ok (class_selector (codes "p")) ∷ [])
    × (tokens_of edition (codes "div *")
    ≡ Ok (type_selector (codes "div")) ∷ Ok descendant_combinator ∷ Ok universal_selector ∷ [])
    × (tokens_of edition (codes "div #p") ≡ Ok (type_selector (codes "div"))
    ∷ Ok descendant_combinator ∷ Ok (id_selector (codes "p")) ∷ [])
    × (tokens_of edition (codes "div [id]") ≡ Ok (type_selector (codes "div"))
    ∷ Ok descendant_combinator ∷ Ok (attribute_selector (codes "id") exists) ∷ [])
    × (tokens_of edition (codes "div :link") ≡ Ok (type_selector (codes "div"))
    ∷ Ok descendant_combinator ∷ Ok (named_pseudo_class (codes "link")) ∷ [])
    × (tokens_of edition (codes ".warn :first-child") ≡ Ok (class_selector (codes "warn"))
    ∷ Ok descendant_combinator ∷ Ok (named_pseudo_class (codes "first-child")) ∷ [])
unfolding simplecss_on_literals
descendants first_edition =
    (refl, refl, refl, refl, refl, refl, refl, refl, refl, refl, refl, refl, refl, refl, refl, refl)
descendants second_edition =
    (refl, refl, refl, refl, refl, refl, refl, refl, refl, refl, refl, refl, refl, refl, refl, refl)

-- child and adjacent combinators
pub combinators : (edition : Edition) →
    (tokens_of edition (codes "div>p")
    ≡ Ok (type_selector (codes "div")) ∷ Ok child_combinator ∷ Ok (type_selector (codes "p")) ∷ [])
    × (tokens_of edition (codes "div >p")
    ≡ Ok (type_selector (codes "div")) ∷ Ok child_combinator ∷ Ok (type_selector (codes "p")) ∷ [])
    × (tokens_of edition (codes "div> p")
    ≡ Ok (type_selector (codes "div")) ∷ Ok child_combinator ∷ Ok (type_selector (codes "p")) ∷ [])
    × (tokens_of edition (codes "div > p")
    ≡ Ok (type_selector (codes "div")) ∷ Ok child_combinator ∷ Ok (type_selector (codes "p")) ∷ [])
    × (tokens_of edition (codes "div+p") ≡ Ok (type_selector (codes "div")) ∷ Ok adjacent_combinator
    ∷ Ok (type_selector (codes "p")) ∷ [])
    × (tokens_of edition (codes "div +p") ≡ Ok (type_selector (codes "div"))
    ∷ Ok adjacent_combinator ∷ Ok (type_selector (codes "p")) ∷ [])
    × (tokens_of edition (codes "div+ p") ≡ Ok (type_selector (codes "div"))
    ∷ Ok adjacent_combinator ∷ Ok (type_selector (codes "p")) ∷ [])
    × (tokens_of edition (codes "div + p") ≡ Ok (type_selector (codes "div"))
    ∷ Ok adjacent_combinator ∷ Ok (type_selector (codes "p")) ∷ [])
    × (tokens_of edition (codes "div > p:first-child")
    ≡ Ok (type_selector (codes "div")) ∷ Ok child_combinator ∷ Ok (type_selector (codes "p"))
    ∷ Ok (named_pseudo_class (codes "first-child")) ∷ [])
unfolding simplecss_on_literals
combinators first_edition = (refl, refl, refl, refl, refl, refl, refl, refl, refl)
combinators second_edition = (refl, refl, refl, refl, refl, refl, refl, refl, refl)

-- pieces where none may be, and none where one must be
pub misplaced : (edition : Edition) →
    (tokens_of edition (codes ">") ≡ Err UnexpectedCombinator ∷ [])
    × (tokens_of edition (codes "+") ≡ Err UnexpectedCombinator ∷ [])
    × (tokens_of edition (codes "> a") ≡ Err UnexpectedCombinator ∷ [])
    × (tokens_of edition (codes "a > >")
    ≡ Ok (type_selector (codes "a")) ∷ Ok child_combinator ∷ Err UnexpectedCombinator ∷ [])
    × (tokens_of edition (codes "a >")
    ≡ Ok (type_selector (codes "a")) ∷ Ok child_combinator ∷ Err SelectorMissing ∷ [])
    × (tokens_of edition (codes "a > ,")
    ≡ Ok (type_selector (codes "a")) ∷ Ok child_combinator ∷ Err SelectorMissing ∷ [])
    × (tokens_of edition (codes "a > {")
    ≡ Ok (type_selector (codes "a")) ∷ Ok child_combinator ∷ Err SelectorMissing ∷ [])
    × (tokens_of edition (codes "*a") ≡ Ok universal_selector ∷ Err UnexpectedSelector ∷ [])
    × (tokens_of edition (codes "a*")
    ≡ Ok (type_selector (codes "a")) ∷ Err UnexpectedSelector ∷ [])
unfolding simplecss_on_literals
misplaced first_edition = (refl, refl, refl, refl, refl, refl, refl, refl, refl)
misplaced second_edition = (refl, refl, refl, refl, refl, refl, refl, refl, refl)

-- faults inside pieces
pub faults_in_pieces : (edition : Edition) →
    (tokens_of edition (codes "a < b") ≡ Ok (type_selector (codes "a")) ∷ Ok descendant_combinator
    ∷ Err (InvalidIdent (record { row = 1; col = 3 })) ∷ Err SelectorMissing ∷ [])
    × (tokens_of edition (codes "::first-child")
    ≡ Err (InvalidIdent (record { row = 1; col = 2 })) ∷ [])
    × (tokens_of edition (codes ":lang()") ≡ Err InvalidLanguagePseudoClass ∷ [])
    × (tokens_of edition (codes ":lang( )") ≡ Err InvalidLanguagePseudoClass ∷ [])
    × (tokens_of edition (codes "[olor:red") ≡ Err InvalidAttributeSelector ∷ [])
unfolding simplecss_on_literals
faults_in_pieces first_edition = (refl, refl, refl, refl, refl)
faults_in_pieces second_edition = (refl, refl, refl, refl, refl)

-- a second fault where a head is missing or a comment is open after an open left side
pub second_faults : (edition : Edition) →
    (tokens_of edition (codes "<")
    ≡ Err (InvalidIdent (record { row = 1; col = 1 })) ∷ Err SelectorMissing ∷ [])
    × (tokens_of edition (codes "a <") ≡ Ok (type_selector (codes "a")) ∷ Ok descendant_combinator
    ∷ Err (InvalidIdent (record { row = 1; col = 3 })) ∷ Err SelectorMissing ∷ [])
    × (tokens_of edition (codes "a<")
    ≡ Ok (type_selector (codes "a")) ∷ Err (InvalidIdent (record { row = 1; col = 2 })) ∷ [])
    × (tokens_of edition (codes "/* x")
    ≡ Err (InvalidComment (record { row = 1; col = 1 })) ∷ Err SelectorMissing ∷ [])
    × (tokens_of edition (codes "a /* x")
    ≡ Ok (type_selector (codes "a")) ∷ Err (InvalidComment (record { row = 1; col = 3 })) ∷ [])
unfolding simplecss_on_literals
second_faults first_edition = (refl, refl, refl, refl, refl)
second_faults second_edition = (refl, refl, refl, refl, refl)

-- comments, slashes and hyphens between pieces
pub gaps : (edition : Edition) →
    (tokens_of edition (codes "a/**/b")
    ≡ Ok (type_selector (codes "a")) ∷ Err UnexpectedSelector ∷ [])
    × (tokens_of edition (codes "a/**/.b")
    ≡ Ok (type_selector (codes "a")) ∷ Ok (class_selector (codes "b")) ∷ [])
    × (tokens_of edition (codes "a /**/.b") ≡ Ok (type_selector (codes "a"))
    ∷ Ok descendant_combinator ∷ Ok (class_selector (codes "b")) ∷ [])
    × (tokens_of edition (codes "a/ b") ≡ Ok (type_selector (codes "a")) ∷ [])
    × (tokens_of edition (codes "a / b")
    ≡ Ok (type_selector (codes "a")) ∷ Err (InvalidComment (record { row = 1; col = 3 })) ∷ [])
    × (tokens_of edition (codes "- a")
    ≡ Err (InvalidIdent (record { row = 1; col = 1 })) ∷ Err SelectorMissing ∷ [])
    × (tokens_of edition [] ≡ Err SelectorMissing ∷ [])
    × (tokens_of edition (codes " ") ≡ Err SelectorMissing ∷ [])
    × (tokens_of edition (codes "/**/") ≡ Err SelectorMissing ∷ [])
    × (tokens_of edition (codes "a/* */b")
    ≡ Ok (type_selector (codes "a")) ∷ Err UnexpectedSelector ∷ [])
unfolding simplecss_on_literals
gaps first_edition = (refl, refl, refl, refl, refl, refl, refl, refl, refl, refl)
gaps second_edition = (refl, refl, refl, refl, refl, refl, refl, refl, refl, refl)

-- rows and columns count newlines and characters
pub positions : (edition : Edition) →
    (tokens_of edition (codes "a\nbc <") ≡ Ok (type_selector (codes "a")) ∷ Ok descendant_combinator
    ∷ Ok (type_selector (codes "bc")) ∷ Ok descendant_combinator
    ∷ Err (InvalidIdent (record { row = 2; col = 4 })) ∷ Err SelectorMissing ∷ [])
    × (tokens_of edition (encode_utf8_all (codes "[a=\"x\"é]"))
    ≡ Err (InvalidByte close_bracket 195 (record { row = 1; col = 7 })) ∷ [])
    × (tokens_of edition (codes "*[x='a'b']")
    ≡ Ok universal_selector ∷ Err (InvalidByte close_bracket 98 (record { row = 1; col = 8 })) ∷ [])
unfolding simplecss_on_literals
positions first_edition = (refl, refl, refl)
positions second_edition = (refl, refl, refl)

-- the first wide character of a name in both editions
pub wide_characters : (edition : Edition) →
    (tokens_of edition (encode_utf8_all (codes "î"))
    ≡ Ok (type_selector (encode_utf8_all (codes "î"))) ∷ [])
    × (tokens_of edition (codes "\\26")
    ≡ Err (InvalidIdent (record { row = 1; col = 1 })) ∷ Err SelectorMissing ∷ [])
unfolding simplecss_on_literals
wide_characters first_edition = (refl, refl)
wide_characters second_edition = (refl, refl)

-- and what the two editions read apart
pub wide_characters-editions :
    (tokens_of second_edition (encode_utf8_all (codes "é"))
    ≡ Ok (type_selector (encode_utf8_all (codes "é"))) ∷ [])
    × (tokens_of first_edition (encode_utf8_all (codes "é"))
    ≡ Err (InvalidIdent (record { row = 1; col = 1 })) ∷ Err SelectorMissing ∷ [])
unfolding simplecss_on_literals
wide_characters-editions = (refl, refl)

-- pieces that break off or go wrong after their first byte
pub unfinished_pieces : (edition : Edition) →
    (tokens_of edition (codes "#") ≡ Err (InvalidIdent (record { row = 1; col = 2 })) ∷ [])
    × (tokens_of edition (codes "[") ≡ Err (InvalidIdent (record { row = 1; col = 2 })) ∷ [])
    × (tokens_of edition (codes "a#")
    ≡ Ok (type_selector (codes "a")) ∷ Err (InvalidIdent (record { row = 1; col = 3 })) ∷ [])
    × (tokens_of edition (codes "#-]") ≡ Err (InvalidIdent (record { row = 1; col = 2 })) ∷ [])
    × (tokens_of edition (codes "a>[") ≡ Ok (type_selector (codes "a")) ∷ Ok child_combinator
    ∷ Err (InvalidIdent (record { row = 1; col = 4 })) ∷ [])
    × (tokens_of edition (codes "[a=b") ≡ Err UnexpectedEndOfStream ∷ [])
    × (tokens_of edition (codes "[a~b]")
    ≡ Err (InvalidByte equals_sign 98 (record { row = 1; col = 4 })) ∷ [])
    × (tokens_of edition (codes ":lang en")
    ≡ Err (InvalidByte open_parenthesis space (record { row = 1; col = 6 })) ∷ [])
    × (tokens_of edition (codes ":lang(en") ≡ Err UnexpectedEndOfStream ∷ [])
unfolding simplecss_on_literals
unfinished_pieces first_edition = (refl, refl, refl, refl, refl, refl, refl, refl, refl)
unfinished_pieces second_edition = (refl, refl, refl, refl, refl, refl, refl, refl, refl)

-- pieces that look like others
pub near_misses : (edition : Edition) →
    (tokens_of edition (codes "[a='']") ≡ Ok (attribute_selector (codes "a") (equals [])) ∷ [])
    × (tokens_of edition (codes ":langx") ≡ Ok (named_pseudo_class (codes "langx")) ∷ [])
    × (tokens_of edition (codes "a[b]c") ≡ Ok (type_selector (codes "a"))
    ∷ Ok (attribute_selector (codes "b") exists) ∷ Err UnexpectedSelector ∷ [])
    × (tokens_of edition (codes "a + + b")
    ≡ Ok (type_selector (codes "a")) ∷ Ok adjacent_combinator ∷ Err UnexpectedCombinator ∷ [])
    × (tokens_of edition (codes "a /b")
    ≡ Ok (type_selector (codes "a")) ∷ Err (InvalidComment (record { row = 1; col = 3 })) ∷ [])
    × (tokens_of edition (codes "a/*/.b")
    ≡ Ok (type_selector (codes "a")) ∷ Err (InvalidComment (record { row = 1; col = 2 })) ∷ [])
    × (tokens_of edition (codes "--")
    ≡ Err (InvalidIdent (record { row = 1; col = 1 })) ∷ Err SelectorMissing ∷ [])
unfolding simplecss_on_literals
near_misses first_edition = (refl, refl, refl, refl, refl, refl, refl)
near_misses second_edition = (refl, refl, refl, refl, refl, refl, refl)

-- a vertical tab is white space only of a language, and a form feed is a space byte
pub white_space : (edition : Edition) →
    (tokens_of edition (97 ∷ 11 ∷ [])
    ≡ Ok (type_selector (codes "a")) ∷ Err (InvalidIdent (record { row = 1; col = 2 })) ∷ [])
    × (tokens_of edition (97 ∷ 12 ∷ []) ≡ Ok (type_selector (codes "a")) ∷ [])
    × (tokens_of edition (58 ∷ 108 ∷ 97 ∷ 110 ∷ 103 ∷ 40 ∷ 11 ∷ 41 ∷ [])
    ≡ Err InvalidLanguagePseudoClass ∷ [])
unfolding simplecss_on_literals
white_space first_edition = (refl, refl, refl)
white_space second_edition = (refl, refl, refl)

-- the characters at the borders of what a name may have
pub borders_of_names : (edition : Edition) →
    (tokens_of edition (encode_utf8_all (codes "xî"))
    ≡ Ok (type_selector (encode_utf8_all (codes "xî"))) ∷ [])
    × (tokens_of edition (encode_utf8_all (codes "î<")) ≡ Ok (type_selector
    (encode_utf8_all (codes "î"))) ∷ Err (InvalidIdent (record { row = 1; col = 2 })) ∷ [])
    × (tokens_of edition (194 ∷ 159 ∷ [])
    ≡ Err (InvalidIdent (record { row = 1; col = 1 })) ∷ Err SelectorMissing ∷ [])
unfolding simplecss_on_literals
borders_of_names first_edition = (refl, refl, refl)
borders_of_names second_edition = (refl, refl, refl)

-- and what the two editions read apart
pub borders_of_names-editions :
    (tokens_of second_edition (encode_utf8_all (codes "xí"))
    ≡ Ok (type_selector (encode_utf8_all (codes "xí"))) ∷ [])
    × (tokens_of second_edition (encode_utf8_all (codes "[aí]"))
    ≡ Ok (attribute_selector (encode_utf8_all (codes "aí")) exists) ∷ [])
    × (tokens_of second_edition (194 ∷ 160 ∷ []) ≡ Ok (type_selector (194 ∷ 160 ∷ [])) ∷ [])
    × (tokens_of first_edition (encode_utf8_all (codes "xí"))
    ≡ Ok (type_selector (codes "x")) ∷ Err (InvalidIdent (record { row = 1; col = 2 })) ∷ [])
    × (tokens_of first_edition (encode_utf8_all (codes "[aí]")) ≡ Err InvalidAttributeSelector ∷ [])
unfolding simplecss_on_literals
borders_of_names-editions = (refl, refl, refl, refl, refl)

-- a slash is no piece in the second edition either
pub slashes : (edition : Edition) →
    (tokens_of edition (codes "a/ b") ≡ Ok (type_selector (codes "a")) ∷ [])
    × (tokens_of edition (codes "a / b")
    ≡ Ok (type_selector (codes "a")) ∷ Err (InvalidComment (record { row = 1; col = 3 })) ∷ [])
    × (tokens_of edition (codes "/") ≡ Err SelectorMissing ∷ [])
unfolding simplecss_on_literals
slashes first_edition = (refl, refl, refl)
slashes second_edition = (refl, refl, refl)

-- what is left where a name is missing: a hyphen is consumed, and after an open left side a missing
-- head is reported twice
pub positions_of_missing_names : (edition : Edition) →
    (sequence_of edition (codes "<,b") ≡ item (Err (no_name (codes "<,b"))) (codes "<,b")
    (item (Err no_selector) (codes "<,b") (sequence_end (codes "<,b"))))
    × (sequence_of edition (codes "-,b") ≡ item (Err (no_name (codes "-,b"))) (codes ",b")
    (item (Err no_selector) (codes ",b") (sequence_end (codes ",b"))))
    × (sequence_of edition (codes "#,b")
    ≡ item (Err (no_name (codes ",b"))) (codes ",b") (sequence_end (codes ",b")))
    × (sequence_of edition (codes ".-,b")
    ≡ item (Err (no_name (codes "-,b"))) (codes ",b") (sequence_end (codes ",b")))
    × (sequence_of edition (codes "[-,b")
    ≡ item (Err (no_name (codes "-,b"))) (codes ",b") (sequence_end (codes ",b")))
    × (sequence_of edition (codes ":,b")
    ≡ item (Err (no_name (codes ",b"))) (codes ",b") (sequence_end (codes ",b")))
    × (sequence_of edition (codes "[a=-,b")
    ≡ item (Err (no_name (codes "-,b"))) (codes ",b") (sequence_end (codes ",b")))
    × (sequence_of edition (codes "a <,b") ≡ item (Ok (type_selector (codes "a"))) (codes " <,b")
    (item (Ok descendant_combinator) (codes "<,b") (item (Err (no_name (codes "<,b"))) (codes "<,b")
    (item (Err no_selector) (codes "<,b") (sequence_end (codes "<,b"))))))
    × (sequence_of edition (codes "a -,b") ≡ item (Ok (type_selector (codes "a"))) (codes " -,b")
    (item (Ok descendant_combinator) (codes "-,b") (item (Err (no_name (codes "-,b"))) (codes ",b")
    (item (Err no_selector) (codes ",b") (sequence_end (codes ",b"))))))
    × (sequence_of edition (codes "a>-,b") ≡ item (Ok (type_selector (codes "a"))) (codes ">-,b")
    (item (Ok child_combinator) (codes "-,b") (item (Err (no_name (codes "-,b"))) (codes ",b")
    (item (Err no_selector) (codes ",b") (sequence_end (codes ",b"))))))
    × (sequence_of edition (codes "a .,b")
    ≡ item (Ok (type_selector (codes "a"))) (codes " .,b") (item (Ok descendant_combinator)
    (codes ".,b") (item (Err (no_name (codes ",b"))) (codes ",b") (sequence_end (codes ",b")))))
    × (sequence_of edition (codes "a/**/<") ≡ item (Ok (type_selector (codes "a"))) (codes "/**/<")
    (item (Err (no_name (codes "<"))) (codes "<") (sequence_end (codes "<"))))
unfolding simplecss_on_literals
positions_of_missing_names first_edition =
    (refl, refl, refl, refl, refl, refl, refl, refl, refl, refl, refl, refl)
positions_of_missing_names second_edition =
    (refl, refl, refl, refl, refl, refl, refl, refl, refl, refl, refl, refl)

-- what is left after a fault of an attribute or a language
pub positions_within_attributes : (edition : Edition) →
    (sequence_of edition (codes "[a") ≡ item (Err ended) [] (sequence_end []))
    × (sequence_of edition (codes "[a,b")
    ≡ item (Err no_attribute_form) (codes ",b") (sequence_end (codes ",b")))
    × (sequence_of edition (codes "[a ]")
    ≡ item (Err no_attribute_form) (codes " ]") (sequence_end (codes " ]")))
    × (sequence_of edition (codes "[a~,b")
    ≡ item (Err (wrong_byte equals_sign (codes ",b"))) (codes ",b") (sequence_end (codes ",b")))
    × (sequence_of edition (codes "[a|,b")
    ≡ item (Err (wrong_byte equals_sign (codes ",b"))) (codes ",b") (sequence_end (codes ",b")))
    × (sequence_of edition (codes "[a|") ≡ item (Err ended) [] (sequence_end []))
    × (sequence_of edition (codes "[a=") ≡ item (Err ended) [] (sequence_end []))
    × (sequence_of edition (codes "[a='x,b") ≡ item (Err ended) [] (sequence_end []))
    × (sequence_of edition (codes "[a=b,c")
    ≡ item (Err (wrong_byte close_bracket (codes ",c"))) (codes ",c") (sequence_end (codes ",c")))
    × (sequence_of edition (codes "[a='b'c]")
    ≡ item (Err (wrong_byte close_bracket (codes "c]"))) (codes "c]") (sequence_end (codes "c]")))
    × (sequence_of edition (codes ":lang,b") ≡ item (Err (wrong_byte open_parenthesis (codes ",b")))
    (codes ",b") (sequence_end (codes ",b")))
    × (sequence_of edition (codes ":lang") ≡ item (Err ended) [] (sequence_end []))
    × (sequence_of edition (codes ":lang(a,b") ≡ item (Err ended) [] (sequence_end []))
    × (sequence_of edition (codes ":lang(),b")
    ≡ item (Err no_language) (codes ",b") (sequence_end (codes ",b")))
unfolding simplecss_on_literals
positions_within_attributes first_edition =
    (refl, refl, refl, refl, refl, refl, refl, refl, refl, refl, refl, refl, refl, refl)
positions_within_attributes second_edition =
    (refl, refl, refl, refl, refl, refl, refl, refl, refl, refl, refl, refl, refl, refl)

-- what is left after each token, at a stop, and after a neighbour that may not be there
pub positions_of_neighbours : (edition : Edition) →
    (sequence_of edition (codes "> a")
    ≡ item (Err unexpected_combinator) (codes "> a") (sequence_end (codes "> a")))
    × (sequence_of edition (codes "a>+b")
    ≡ item (Ok (type_selector (codes "a"))) (codes ">+b") (item (Ok child_combinator) (codes "+b")
    (item (Err unexpected_combinator) (codes "+b") (sequence_end (codes "+b")))))
    × (sequence_of edition (codes " ,b")
    ≡ item (Err no_selector) (codes ",b") (sequence_end (codes ",b")))
    × (sequence_of edition (codes " /b")
    ≡ item (Err no_selector) (codes "/b") (sequence_end (codes "/b")))
    × (sequence_of edition (codes "a> {")
    ≡ item (Ok (type_selector (codes "a"))) (codes "> {") (item (Ok child_combinator) (codes " {")
    (item (Err no_selector) (codes "{") (sequence_end (codes "{")))))
    × (sequence_of edition (codes "a*,b") ≡ item (Ok (type_selector (codes "a"))) (codes "*,b")
    (item (Err unexpected_selector) (codes "*,b") (sequence_end (codes "*,b"))))
    × (sequence_of edition (codes "[a]b,c") ≡ item (Ok (attribute_selector (codes "a") exists))
    (codes "b,c") (item (Err unexpected_selector) (codes ",c") (sequence_end (codes ",c"))))
    × (sequence_of edition (codes "a/* */b,c") ≡ item (Ok (type_selector (codes "a")))
    (codes "/* */b,c") (item (Err unexpected_selector) (codes ",c") (sequence_end (codes ",c"))))
    × (sequence_of edition (codes "a b,c")
    ≡ item (Ok (type_selector (codes "a"))) (codes " b,c") (item (Ok descendant_combinator)
    (codes "b,c") (item (Ok (type_selector (codes "b"))) (codes ",c") (sequence_end (codes ",c")))))
    × (sequence_of edition (codes "a ,b")
    ≡ item (Ok (type_selector (codes "a"))) (codes " ,b") (sequence_end (codes ",b")))
    × (sequence_of edition (codes "a/**/ {")
    ≡ item (Ok (type_selector (codes "a"))) (codes "/**/ {") (sequence_end (codes "{")))
    × (sequence_of edition (codes "a/b")
    ≡ item (Ok (type_selector (codes "a"))) (codes "/b") (sequence_end (codes "/b")))
    × (sequence_of edition (codes "a/**//b")
    ≡ item (Ok (type_selector (codes "a"))) (codes "/**//b") (sequence_end (codes "/b")))
    × (sequence_of edition (codes "a /b") ≡ item (Ok (type_selector (codes "a"))) (codes " /b")
    (item (Err (no_comment (codes "/b"))) (codes "b") (sequence_end (codes "b"))))
    × (sequence_of edition (codes "a/*b") ≡ item (Ok (type_selector (codes "a"))) (codes "/*b")
    (item (Err (no_comment (codes "/*b"))) [] (sequence_end [])))
    × (sequence_of edition (codes "a>/*b")
    ≡ item (Ok (type_selector (codes "a"))) (codes ">/*b") (item (Ok child_combinator) (codes "/*b")
    (item (Err (no_comment (codes "/*b"))) [] (item (Err no_selector) [] (sequence_end [])))))
    × (sequence_of edition (codes "a /*/b") ≡ item (Ok (type_selector (codes "a"))) (codes " /*/b")
    (item (Err (no_comment (codes "/*/b"))) [] (sequence_end [])))
unfolding simplecss_on_literals
positions_of_neighbours first_edition = (
  refl,
  refl,
  refl,
  refl,
  refl,
  refl,
  refl,
  refl,
  refl,
  refl,
  refl,
  refl,
  refl,
  refl,
  refl,
  refl,
  refl,
)
positions_of_neighbours second_edition = (
  refl,
  refl,
  refl,
  refl,
  refl,
  refl,
  refl,
  refl,
  refl,
  refl,
  refl,
  refl,
  refl,
  refl,
  refl,
  refl,
  refl,
)
