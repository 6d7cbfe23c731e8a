-- Worked readings of single things, computed.
-- Computes `name`, `string_or_name`, `comment`, `blank`, `gap`, `term`, `block_end`, `position` and
-- `error_text`.
use Rattle.std.specs.Prelude.{◌≡◌, refl, [], ◌∷◌, ◌++◌, codes, true, false, encode_utf8_all}
use Rattle.css_text.specs.declared.error.Error.TheVariants.{UnexpectedEndOfStream, InvalidIdent, InvalidComment, InvalidByte, InvalidValue, SelectorMissing, UnexpectedSelector, UnexpectedCombinator, InvalidAttributeSelector, InvalidLanguagePseudoClass}
use Rattle.css_text.specs.AsciiBytes.{close_bracket, colon, equals_sign, open_parenthesis, space}
use Rattle.css_text.specs.Reading.{got, fails, no_name, no_comment, ended, wrong_byte}
use Rattle.css_text.specs.Positions.{position}
use Rattle.css_text.specs.Errors.{error_of, error_text, position_text}
use Rattle.css_text.specs.Comments.{comment, blank, gap}
use Rattle.css_text.specs.Names.{name}
use Rattle.css_text.specs.Strings.{string_or_name}
use Rattle.css_text.specs.Characters.{Edition, first_edition, second_edition}
use Rattle.simplecss_grammar.specs.Terms.{term}
use Rattle.simplecss_grammar.specs.Blocks.{block_end}
use Rattle.simplecss_grammar.proofs.vectors.OnLiterals.{simplecss_on_literals}

-- comments, closed and open
pub comments :
    (comment (codes "/**/a") ≡ got tt (codes "a"))
    × (comment (codes "/* * / */ b") ≡ got tt (codes " b"))
    × (comment (codes "/*/") ≡ fails (no_comment (codes "/*/")) [])
    × (comment (codes "/ b") ≡ fails (no_comment (codes "/ b")) (codes " b"))
    × (comment (codes "ab") ≡ fails (no_comment (codes "ab")) (codes "ab"))
    × (comment [] ≡ fails (no_comment []) [])
unfolding simplecss_on_literals
comments = (refl, refl, refl, refl, refl, refl)

-- blanks
pub blanks :
    (blank (codes "/**/ /* */a") ≡ got tt (codes "a"))
    × (blank (codes "a") ≡ got tt (codes "a"))
    × (blank (codes " /*/") ≡ fails (no_comment (codes "/*/")) [])
unfolding simplecss_on_literals
blanks = (refl, refl, refl)

-- blanks, and whether a space byte is in them
pub gaps :
    (gap (codes "a") ≡ got false (codes "a"))
    × (gap (32 ∷ 47 ∷ 42 ∷ 32 ∷ 42 ∷ 47 ∷ 9 ∷ 13 ∷ 10 ∷ 12 ∷ 97 ∷ []) ≡ got true (codes "a"))
    × (gap (codes "/* */a") ≡ got false (codes "a"))
    × (gap (11 ∷ 97 ∷ []) ≡ got false (11 ∷ 97 ∷ []))
    × (gap (codes " /* x") ≡ fails (no_comment (codes "/* x")) [])
    × (gap (codes "/ ") ≡ got false (codes "/ "))
unfolding simplecss_on_literals
gaps = (refl, refl, refl, refl, refl, refl)

-- names
pub names : (edition : Edition) →
    (name edition (codes "-a1 b") ≡ got (codes "-a1") (codes " b"))
    × (name edition (codes "-") ≡ got (codes "-") [])
    × (name edition (codes "- a") ≡ fails (no_name (codes "- a")) (codes " a"))
    × (name edition (codes "--x") ≡ fails (no_name (codes "--x")) (codes "-x"))
    × (name edition [] ≡ fails (no_name []) [])
    × (name edition (codes "1a") ≡ fails (no_name (codes "1a")) (codes "1a"))
    × (name edition (97 ∷ 227 ∷ 128 ∷ 128 ∷ 98 ∷ 32 ∷ 99 ∷ [])
    ≡ got (97 ∷ 227 ∷ 128 ∷ 128 ∷ 98 ∷ []) (codes " c"))
unfolding simplecss_on_literals
names first_edition = (refl, refl, refl, refl, refl, refl, refl)
names second_edition = (refl, refl, refl, refl, refl, refl, refl)

-- and what the two editions read apart
pub names-editions :
    (name second_edition (encode_utf8_all (codes "aé")) ≡ got (encode_utf8_all (codes "aé")) [])
    × (name first_edition (encode_utf8_all (codes "aé"))
    ≡ got (codes "a") (encode_utf8_all (codes "é")))
unfolding simplecss_on_literals
names-editions = (refl, refl)

-- strings and what may be in their place
pub strings : (edition : Edition) →
    (string_or_name edition (codes "'a\"b' c") ≡ got (codes "a\"b") (codes " c"))
    × (string_or_name edition (codes "''a") ≡ got [] (codes "a"))
    × (string_or_name edition (codes "'a\\'") ≡ fails ended [])
    × (string_or_name edition (codes "ab]") ≡ got (codes "ab") (codes "]"))
    × (string_or_name edition [] ≡ fails ended [])
unfolding simplecss_on_literals
strings first_edition = (refl, refl, refl, refl, refl)
strings second_edition = (refl, refl, refl, refl, refl)

-- terms
pub terms : (edition : Edition) →
    (term edition (codes "#fff;") ≡ got tt (codes ";"))
    × (term edition (codes "#-12") ≡ got tt [])
    × (term edition (codes "1-2") ≡ got tt (codes "2"))
    × (term edition (codes ".5%x") ≡ got tt (codes "x"))
    × (term edition (codes "url(a b) c") ≡ got tt (codes " c"))
    × (term edition (codes "url(a") ≡ fails ended [])
    × (term edition (codes "\"a") ≡ fails ended [])
    × (term edition (codes "/* */") ≡ fails (no_name (codes "/* */")) (codes "/* */"))
    × (term edition (codes ",a") ≡ got tt (codes "a"))
unfolding simplecss_on_literals
terms first_edition = (refl, refl, refl, refl, refl, refl, refl, refl, refl)
terms second_edition = (refl, refl, refl, refl, refl, refl, refl, refl, refl)

-- and what the two editions read apart
pub terms-editions :
    (term second_edition (codes "/1") ≡ got tt (codes "1"))
    × (term first_edition (codes "/1") ≡ fails (no_name (codes "/1")) (codes "/1"))
unfolding simplecss_on_literals
terms-editions = (refl, refl)

-- where a block ends
pub block_ends :
    (block_end (codes "a{}}b") ≡ 3)
    × (block_end (codes "a}b") ≡ 1)
    × (block_end (codes "{ab") ≡ 3)
    × (block_end [] ≡ 0)
unfolding simplecss_on_literals
block_ends = (refl, refl, refl, refl)

-- the errors that report faults
pub errors :
    (error_of (codes "a\nbc <") (no_name (codes "<")) ≡ InvalidIdent (record { row = 2; col = 4 }))
    × (error_of (encode_utf8_all (codes "[a=\"x\"é]")) (wrong_byte close_bracket
    (encode_utf8_all (codes "é]"))) ≡ InvalidByte close_bracket 195 (record { row = 1; col = 7 }))
    × (error_of (codes "a") (wrong_byte colon []) ≡ UnexpectedEndOfStream)
    × (error_of (encode_utf8_all (codes "é / b")) (no_comment (codes "/ b"))
    ≡ InvalidComment (record { row = 1; col = 3 }))
    × (error_text (InvalidByte close_bracket 195 (record { row = 1; col = 7 }))
    ≡ codes "expected ']' not '" ++ (encode_utf8_all (codes "Ã")) ++ codes "' at "
    ++ position_text (record { row = 1; col = 7 }))
unfolding simplecss_on_literals
errors = (refl, refl, refl, refl, refl)

-- the shortest comment, and what is shorter
pub shortest_comments :
    (comment (codes "/***/a") ≡ got tt (codes "a"))
    × (comment (codes "/*/*/a") ≡ got tt (codes "a"))
    × (comment (codes "/**/*/") ≡ got tt (codes "*/"))
    × (comment (codes "/*") ≡ fails (no_comment (codes "/*")) [])
    × (comment (codes "/**") ≡ fails (no_comment (codes "/**")) [])
    × (comment (codes "/") ≡ fails (no_comment (codes "/")) [])
    × (comment (codes "//**/") ≡ fails (no_comment (codes "//**/")) (codes "/**/"))
unfolding simplecss_on_literals
shortest_comments = (refl, refl, refl, refl, refl, refl, refl)

-- blanks up to the end of the text, or up to a comment that is not closed
pub gaps_at_the_end :
    (blank [] ≡ got tt [])
    × (blank (codes " /**/") ≡ got tt [])
    × (blank (codes "/**//*") ≡ fails (no_comment (codes "/*")) [])
    × (blank (codes "/ a") ≡ got tt (codes "/ a"))
    × (gap (codes "/* */ ") ≡ got true [])
    × (gap (codes "/* *//*") ≡ fails (no_comment (codes "/*")) [])
unfolding simplecss_on_literals
gaps_at_the_end = (refl, refl, refl, refl, refl, refl)

-- names with hyphens
pub hyphens : (edition : Edition) →
    (name edition (codes "-") ≡ got (codes "-") [])
    × (name edition (codes "a-") ≡ got (codes "a-") [])
    × (name edition (codes "-a") ≡ got (codes "-a") [])
    × (name edition (codes "-_-1 ") ≡ got (codes "-_-1") (codes " "))
    × (name edition (codes "--") ≡ fails (no_name (codes "--")) (codes "-"))
    × (name edition (codes "-1") ≡ fails (no_name (codes "-1")) (codes "1"))
    × (name edition (codes "-/**/") ≡ fails (no_name (codes "-/**/")) (codes "/**/"))
    × (name edition (codes "_") ≡ got (codes "_") [])
    × (name edition (97 ∷ 90 ∷ 57 ∷ 11 ∷ []) ≡ got (codes "aZ9") (11 ∷ []))
    × (name edition (codes "\\a") ≡ fails (no_name (codes "\\a")) (codes "\\a"))
unfolding simplecss_on_literals
hyphens first_edition = (refl, refl, refl, refl, refl, refl, refl, refl, refl, refl)
hyphens second_edition = (refl, refl, refl, refl, refl, refl, refl, refl, refl, refl)

-- names of wide characters, in both editions
pub wide_names : (edition : Edition) →
    (name edition (227 ∷ 128 ∷ 128 ∷ []) ≡ got (227 ∷ 128 ∷ 128 ∷ []) [])
unfolding simplecss_on_literals
wide_names first_edition = refl
wide_names second_edition = refl

-- and what the two editions read apart
pub wide_names-editions :
    (name second_edition (encode_utf8_all (codes "-é")) ≡ got (encode_utf8_all (codes "-é")) [])
    × (name second_edition (encode_utf8_all (codes "aîé")) ≡ got (encode_utf8_all (codes "aîé")) [])
    × (name second_edition (encode_utf8_all (codes "í")) ≡ got (encode_utf8_all (codes "í")) [])
    × (name second_edition (194 ∷ 160 ∷ []) ≡ got (194 ∷ 160 ∷ []) [])
    × (name first_edition (encode_utf8_all (codes "-é"))
    ≡ fails (no_name (encode_utf8_all (codes "-é"))) (encode_utf8_all (codes "é")))
    × (name first_edition (encode_utf8_all (codes "aîé"))
    ≡ got (encode_utf8_all (codes "aî")) (encode_utf8_all (codes "é")))
    × (name first_edition (encode_utf8_all (codes "í"))
    ≡ fails (no_name (encode_utf8_all (codes "í"))) (encode_utf8_all (codes "í")))
unfolding simplecss_on_literals
wide_names-editions = (refl, refl, refl, refl, refl, refl, refl)

-- strings and the quotes and backslashes in them
pub quotes : (edition : Edition) →
    (string_or_name edition (codes "'\\\\'b' c") ≡ got (codes "\\\\'b") (codes " c"))
    × (string_or_name edition (codes "\"'\"a") ≡ got (codes "'") (codes "a"))
    × (string_or_name edition (codes "\"\"") ≡ got [] [])
    × (string_or_name edition (codes "'a") ≡ fails ended [])
    × (string_or_name edition (codes "'") ≡ fails ended [])
    × (string_or_name edition (codes "'\\'") ≡ fails ended [])
    × (string_or_name edition (codes "'{/*\n' ") ≡ got (codes "{/*\n") (codes " "))
    × (string_or_name edition (codes "-") ≡ got (codes "-") [])
    × (string_or_name edition (codes "-]") ≡ fails (no_name (codes "-]")) (codes "]"))
    × (string_or_name edition (codes "]") ≡ fails (no_name (codes "]")) (codes "]"))
unfolding simplecss_on_literals
quotes first_edition = (refl, refl, refl, refl, refl, refl, refl, refl, refl, refl)
quotes second_edition = (refl, refl, refl, refl, refl, refl, refl, refl, refl, refl)

-- terms that begin with a sign, a point, a digit or a number sign
pub numbers : (edition : Edition) →
    (term edition (codes "1%%") ≡ got tt (codes "%"))
    × (term edition (codes "1-%") ≡ got tt (codes "%"))
    × (term edition (codes "1.5.5") ≡ got tt (codes ".5"))
    × (term edition (codes "1.px,") ≡ got tt (codes ","))
    × (term edition (codes ".") ≡ got tt [])
    × (term edition (codes "+") ≡ got tt [])
    × (term edition (codes "-") ≡ got tt [])
    × (term edition (codes "--") ≡ got tt [])
    × (term edition (codes "-- ") ≡ got tt (codes " "))
    × (term edition (codes "+-a b") ≡ got tt (codes " b"))
    × (term edition (codes "-2em 3") ≡ got tt (codes " 3"))
    × (term edition (codes ".a(b)") ≡ got tt (codes "(b)"))
    × (term edition (codes "#") ≡ got tt [])
    × (term edition (codes "#-%") ≡ got tt (codes "%"))
    × (term edition (codes "#12g") ≡ got tt (codes "g"))
    × (term edition (codes "#a-g ") ≡ got tt (codes " "))
    × (term edition (codes "#--f") ≡ got tt (codes "-f"))
    × (term edition (codes "#-1g") ≡ got tt (codes "g"))
unfolding simplecss_on_literals
numbers first_edition = (
  refl,
  refl,
  refl,
  refl,
  refl,
  refl,
  refl,
  refl,
  refl,
  refl,
  refl,
  refl,
  refl,
  refl,
  refl,
  refl,
  refl,
  refl,
)
numbers second_edition = (
  refl,
  refl,
  refl,
  refl,
  refl,
  refl,
  refl,
  refl,
  refl,
  refl,
  refl,
  refl,
  refl,
  refl,
  refl,
  refl,
  refl,
  refl,
)

-- strings, commas, names and functions, and what is no term
pub other_terms : (edition : Edition) →
    (term edition (codes "'a'b") ≡ got tt (codes "b"))
    × (term edition (codes ",,") ≡ got tt (codes ","))
    × (term edition (codes "a (b)") ≡ got tt (codes " (b)"))
    × (term edition (codes "a(b)c)") ≡ got tt (codes "c)"))
    × (term edition (codes "a(')')") ≡ got tt (codes "')"))
    × (term edition (codes "(a)") ≡ fails (no_name (codes "(a)")) (codes "(a)"))
    × (term edition (codes ";") ≡ fails (no_name (codes ";")) (codes ";"))
    × (term edition (codes "!") ≡ fails (no_name (codes "!")) (codes "!"))
    × (term edition [] ≡ fails ended [])
    × (term edition (codes "/*") ≡ fails (no_name (codes "/*")) (codes "/*"))
unfolding simplecss_on_literals
other_terms first_edition = (refl, refl, refl, refl, refl, refl, refl, refl, refl, refl)
other_terms second_edition = (refl, refl, refl, refl, refl, refl, refl, refl, refl, refl)

-- and what the two editions read apart
pub other_terms-editions :
    (term second_edition (encode_utf8_all (codes "é")) ≡ got tt [])
    × (term second_edition (codes "/") ≡ got tt [])
    × (term second_edition (codes "//*") ≡ got tt (codes "/*"))
    × (term first_edition (encode_utf8_all (codes "é"))
    ≡ fails (no_name (encode_utf8_all (codes "é"))) (encode_utf8_all (codes "é")))
unfolding simplecss_on_literals
other_terms-editions = (refl, refl, refl, refl)

-- quotes and comments do not hide the end of a block
pub unread_braces :
    (block_end (codes "'}'}") ≡ 1)
    × (block_end (codes "/*}*/}") ≡ 2)
    × (block_end (codes "{}{}}") ≡ 4)
    × (block_end (codes "}") ≡ 0)
    × (block_end (codes "{{}") ≡ 3)
unfolding simplecss_on_literals
unread_braces = (refl, refl, refl, refl, refl)

-- rows and columns count newlines and characters
pub positions :
    (position [] 0 ≡ record { row = 1; col = 1 })
    × (position (codes "a\nb") 1 ≡ record { row = 1; col = 2 })
    × (position (codes "a\nb") 2 ≡ record { row = 2; col = 1 })
    × (position (codes "\n\n") 2 ≡ record { row = 3; col = 1 })
    × (position (codes "\n\nab") 4 ≡ record { row = 3; col = 3 })
    × (position (encode_utf8_all (codes "éa\né")) 3 ≡ record { row = 1; col = 3 })
    × (position (encode_utf8_all (codes "éa\né")) 6 ≡ record { row = 2; col = 2 })
unfolding simplecss_on_literals
positions = (refl, refl, refl, refl, refl, refl, refl)

-- the printed errors
pub printed_errors :
    (error_text UnexpectedEndOfStream ≡ (codes "unexpected end of stream"))
    × (error_text (InvalidIdent (record { row = 1; col = 3 })) ≡ (codes "invalid ident at 1:3"))
    × (error_text (InvalidComment (record { row = 2; col = 40 }))
    ≡ (codes "invalid comment at 2:40"))
    × (error_text (InvalidValue (record { row = 10; col = 1 })) ≡ (codes "invalid value at 10:1"))
    × (error_text (InvalidByte close_bracket 98 (record { row = 1; col = 8 }))
    ≡ (codes "expected ']' not 'b' at 1:8"))
    × (error_text (InvalidByte equals_sign 98 (record { row = 1; col = 4 }))
    ≡ (codes "expected '=' not 'b' at 1:4"))
    × (error_text (InvalidByte open_parenthesis space (record { row = 1; col = 6 }))
    ≡ (codes "expected '(' not ' ' at 1:6"))
    × (error_text (InvalidByte close_bracket 195 (record { row = 1; col = 7 }))
    ≡ (encode_utf8_all (codes "expected ']' not 'Ã' at 1:7")))
    × (error_text SelectorMissing ≡ (codes "selector missing"))
    × (error_text UnexpectedSelector ≡ (codes "unexpected selector"))
    × (error_text UnexpectedCombinator ≡ (codes "unexpected combinator"))
    × (error_text InvalidAttributeSelector ≡ (codes "invalid or unsupported attribute selector"))
    × (error_text InvalidLanguagePseudoClass ≡ (codes "invalid language pseudo-class"))
    × (error_text (InvalidIdent (record { row = 4294967295; col = 4294967295 }))
    ≡ (codes "invalid ident at 4294967295:4294967295"))
unfolding simplecss_on_literals
printed_errors =
    (refl, refl, refl, refl, refl, refl, refl, refl, refl, refl, refl, refl, refl, refl)
