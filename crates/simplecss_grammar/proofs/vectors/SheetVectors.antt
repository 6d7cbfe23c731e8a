-- Worked sheets, computed: what the sheet of some texts prints.
-- Computes `sheet` and `ordered` of `specs/Sheets`, and `sheet_text` of `specs/Printing`.
use Rattle.std.specs.Prelude.{◌≡◌, refl, List, [], ◌∷◌, ◌++◌, codes, encode_utf8_all, Some, None, false, filter}
use Rattle.css_text.specs.Characters.{Edition, first_edition, second_edition}
use Rattle.simplecss_grammar.specs.Declarations.{StyleDeclaration}
use Rattle.simplecss_grammar.specs.Statements.{has_declaration, kept}
use Rattle.simplecss_grammar.specs.Sheets.{sheet, ordered}
use Rattle.simplecss_grammar.specs.Printing.{sheet_text}
use Rattle.simplecss_grammar.specs.Components.{Component}
use Rattle.simplecss_grammar.specs.Components.Operator.{equals}
use Rattle.simplecss_grammar.specs.Components.Subselector.{attribute}
use Rattle.simplecss_grammar.specs.Components.Combinator.{none}
use Rattle.simplecss_grammar.proofs.vectors.OnLiterals.{simplecss_on_literals}

-- the parts of a rule set, refused ones among them
pub rule_sets : (edition : Edition) →
    (sheet_text (sheet edition ((codes "a, b { color:red }") ∷ []))
    ≡ (codes "a { color:red; }\nb { color:red; }"))
    × (sheet_text (sheet edition ((codes "#x { color:red } a { color:blue }") ∷ []))
    ≡ (codes "a { color:blue; }\n*[id='x'] { color:red; }"))
    × (sheet_text (sheet edition ((codes ":le, b { color:red }") ∷ []))
    ≡ (codes "b { color:red; }"))
    × (sheet_text (sheet edition ((codes "a, b < c { color:red }") ∷ []))
    ≡ (codes "a { color:red; }"))
    × (sheet_text (sheet edition ((codes "a /, b { color:red }") ∷ []))
    ≡ (codes "b { color:red; }"))
unfolding simplecss_on_literals
rule_sets first_edition = (refl, refl, refl, refl, refl)
rule_sets second_edition = (refl, refl, refl, refl, refl)

-- braces after a block
pub braces : (edition : Edition) →
    (sheet_text (sheet edition ((codes "a { }} b { color:red }") ∷ []))
    ≡ (codes "b { color:red; }"))
    × (sheet_text (sheet edition ((codes "a { } } b { color:red }") ∷ [])) ≡ [])
    × (sheet_text (sheet edition ((codes "a {}} b { color:red }") ∷ [])) ≡ [])
unfolding simplecss_on_literals
braces first_edition = (refl, refl, refl)
braces second_edition = (refl, refl, refl)

-- blocks with a broken declaration
pub broken_declarations : (edition : Edition) →
    (sheet_text (sheet edition ((codes "p { color:green; color{;color:maroon} }") ∷ []))
    ≡ (codes "p { color:green; }"))
    × (sheet_text (sheet edition ((codes "a { b:c; color:red; /* open") ∷ []))
    ≡ (codes "a { b:c; }"))
    × (sheet_text (sheet edition ((codes "a { color:red 'x") ∷ [])) ≡ (codes "a { color:red; }"))
    × (sheet_text (sheet edition ((codes "a { color:red") ∷ [])) ≡ (codes "a { color:red; }"))
    × (sheet_text (sheet edition ((codes "p { color; color:green }") ∷ [])) ≡ [])
    × (sheet_text (sheet edition ((codes "p { color{;color:maroon} color:green; }") ∷ [])) ≡ [])
unfolding simplecss_on_literals
broken_declarations first_edition = (refl, refl, refl, refl, refl, refl)
broken_declarations second_edition = (refl, refl, refl, refl, refl, refl)

-- and what the two editions read apart
pub broken_declarations-editions :
    (sheet_text
    (sheet second_edition ((codes "p { font:12px/1.5 serif; color:red } q { color:blue }") ∷ []))
    ≡ (codes "p { font:12px/1.5 serif;color:red; }\nq { color:blue; }"))
    × (sheet_text
    (sheet first_edition ((codes "p { font:12px/1.5 serif; color:red } q { color:blue }") ∷ []))
    ≡ (codes "p { font:12px; }\nq { color:blue; }"))
unfolding simplecss_on_literals
broken_declarations-editions = (refl, refl)

-- at-rules are skipped
pub at_rules : (edition : Edition) →
    (sheet_text (sheet edition ((codes "@ a { color:red }") ∷ [])) ≡ (codes "a { color:red; }"))
    × (sheet_text (sheet edition
    ((codes "@media screen { p:before { content: 'Hello'; } } a { color:red }") ∷ []))
    ≡ (codes "a { color:red; }"))
    × (sheet_text (sheet edition ((codes "<!-- a { b:c } --> d { e:f }") ∷ [])) ≡ [])
unfolding simplecss_on_literals
at_rules first_edition = (refl, refl, refl)
at_rules second_edition = (refl, refl, refl)

-- texts read into one sheet, one after another
pub sheets_of_texts : (edition : Edition) →
    (sheet_text (sheet edition ([])) ≡ [])
    × (sheet_text (sheet edition ([] ∷ [])) ≡ [])
    × (sheet_text (sheet edition ((codes "#x { a:b }") ∷ (codes "p { c:d }") ∷ []))
    ≡ (codes "p { c:d; }\n*[id='x'] { a:b; }"))
    × (sheet_text (sheet edition ((codes "#x { a:b }") ∷ (codes "p { c:d }") ∷ (codes "/* open")
    ∷ [])) ≡ (codes "p { c:d; }\n*[id='x'] { a:b; }"))
    × (sheet_text (sheet edition ((codes "a > b { c:d } b { e:f }") ∷ []))
    ≡ (codes "b { e:f; }\na > b { c:d; }"))
unfolding simplecss_on_literals
sheets_of_texts first_edition = (refl, refl, refl, refl, refl)
sheets_of_texts second_edition = (refl, refl, refl, refl, refl)

-- sheets without a rule that is kept
pub no_rules : (edition : Edition) →
    (sheet_text (sheet edition ((codes "a {}") ∷ [])) ≡ [])
    × (sheet_text (sheet edition ((codes "/**/") ∷ [])) ≡ [])
    × (sheet_text (sheet edition ((codes "a > { color:red }") ∷ [])) ≡ [])
    × (sheet_text (sheet edition ((codes ":le>*") ∷ [])) ≡ [])
    × (sheet_text (sheet edition ((codes "> {}") ∷ [])) ≡ [])
    × (sheet_text (sheet edition ((codes "@import 'subs.css';") ∷ [])) ≡ [])
    × (sheet_text (sheet edition ((codes ":le {}") ∷ [])) ≡ [])
unfolding simplecss_on_literals
no_rules first_edition = (refl, refl, refl, refl, refl, refl, refl)
no_rules second_edition = (refl, refl, refl, refl, refl, refl, refl)

-- empty parts, comments after a block, and at-rules without one
pub commas_and_comments : (edition : Edition) →
    (sheet_text (sheet edition ((codes "a { color:red }") ∷ [])) ≡ (codes "a { color:red; }"))
    × (sheet_text (sheet edition ((codes "a { b:c }") ∷ [])) ≡ (codes "a { b:c; }"))
    × (sheet_text (sheet edition ((codes "#x { a:b }") ∷ [])) ≡ (codes "*[id='x'] { a:b; }"))
    × (sheet_text (sheet edition ((codes "a { color:red } /**/") ∷ []))
    ≡ (codes "a { color:red; }"))
    × (sheet_text (sheet edition ((codes "a, { color:red }") ∷ [])) ≡ (codes "a { color:red; }"))
    × (sheet_text (sheet edition ((codes "a,, { color:red }") ∷ [])) ≡ (codes "a { color:red; }"))
    × (sheet_text (sheet edition ((codes ",a { color:red }") ∷ [])) ≡ (codes "a { color:red; }"))
    × (sheet_text (sheet edition ((codes "a,,b { color:red }") ∷ []))
    ≡ (codes "a { color:red; }\nb { color:red; }"))
    × (sheet_text (sheet edition ((codes "@import \"subs.css\";\na { color:red }") ∷ []))
    ≡ (codes "a { color:red; }"))
    × (sheet_text (sheet edition
    ((codes "h1 { color: green }\nh2 & h3 { color: red }\nh4 { color: black }\n") ∷ []))
    ≡ (codes "h1 { color:green; }\nh4 { color:black; }"))
unfolding simplecss_on_literals
commas_and_comments first_edition = (refl, refl, refl, refl, refl, refl, refl, refl, refl, refl)
commas_and_comments second_edition = (refl, refl, refl, refl, refl, refl, refl, refl, refl, refl)

-- blocks with a declaration that breaks off
pub cut_blocks : (edition : Edition) →
    (sheet_text (sheet edition ((codes "p { color:green; color }") ∷ []))
    ≡ (codes "p { color:green; }"))
    × (sheet_text (sheet edition ((codes "p { color:green; color: }") ∷ []))
    ≡ (codes "p { color:green; }"))
    × (sheet_text (sheet edition ((codes "p { color:green; color:; color:red; }") ∷ []))
    ≡ (codes "p { color:green; }"))
unfolding simplecss_on_literals
cut_blocks first_edition = (refl, refl, refl)
cut_blocks second_edition = (refl, refl, refl)

-- the beginnings of a sheet of one rule
pub beginnings : (edition : Edition) →
    (sheet_text (sheet edition ((codes "a") ∷ [])) ≡ [])
    × (sheet_text (sheet edition ((codes "a ") ∷ [])) ≡ [])
    × (sheet_text (sheet edition ((codes "a {") ∷ [])) ≡ [])
    × (sheet_text (sheet edition ((codes "a { ") ∷ [])) ≡ [])
    × (sheet_text (sheet edition ((codes "a { b") ∷ [])) ≡ [])
    × (sheet_text (sheet edition ((codes "a { b:") ∷ [])) ≡ [])
    × (sheet_text (sheet edition ((codes "a { b:\"") ∷ [])) ≡ [])
    × (sheet_text (sheet edition ((codes "a { b:\"c") ∷ [])) ≡ [])
    × (sheet_text (sheet edition ((codes "a { b:\"c\"") ∷ [])) ≡ (codes "a { b:\"c\"; }"))
    × (sheet_text (sheet edition ((codes "a { b:\"c\" ") ∷ [])) ≡ (codes "a { b:\"c\"; }"))
    × (sheet_text (sheet edition ((codes "a { b:\"c\" }") ∷ [])) ≡ (codes "a { b:\"c\"; }"))
unfolding simplecss_on_literals
beginnings first_edition = (refl, refl, refl, refl, refl, refl, refl, refl, refl, refl, refl)
beginnings second_edition = (refl, refl, refl, refl, refl, refl, refl, refl, refl, refl, refl)

-- a text read in two pieces: cut where a statement ends, and where none does
pub cut_texts : (edition : Edition) →
    (sheet_text (sheet edition ((codes "a { }} b { c:d }") ∷ [])) ≡ (codes "b { c:d; }"))
    × (sheet_text (sheet edition ((codes "a { }}") ∷ (codes " b { c:d }") ∷ []))
    ≡ (codes "b { c:d; }"))
    × (sheet_text (sheet edition ((codes "a { }") ∷ (codes "} b { c:d }") ∷ [])) ≡ [])
    × (sheet_text (sheet edition ((codes "x { y:z }") ∷ (codes "a, b { c:d }") ∷ []))
    ≡ (codes "x { y:z; }\na { c:d; }\nb { c:d; }"))
unfolding simplecss_on_literals
cut_texts first_edition = (refl, refl, refl, refl)
cut_texts second_edition = (refl, refl, refl, refl)

-- a printed sheet read again, where a value has a bare apostrophe or white space past ASCII
pub printed_sheets : (edition : Edition) →
    (sheet_text (sheet edition ((codes "[x=\"a'b\"] { c:d } e { f:g }") ∷ []))
    ≡ (codes "e { f:g; }\n*[x='a'b'] { c:d; }"))
    × (sheet_text (sheet edition ((codes "e { f:g; }\n*[x='a'b'] { c:d; }") ∷ []))
    ≡ (codes "e { f:g; }"))
    × (sheet_text (sheet edition ((97 ∷ 32 ∷ 123 ∷ 32 ∷ 98 ∷ 58 ∷ 227 ∷ 128 ∷ 128 ∷ 40 ∷ 120 ∷ 41
    ∷ 32 ∷ 125 ∷ []) ∷ [])) ≡ (codes "a { b:(x); }"))
    × (sheet_text (sheet edition ((codes "a { b:(x); }") ∷ [])) ≡ [])
unfolding simplecss_on_literals
printed_sheets first_edition = (refl, refl, refl, refl)
printed_sheets second_edition = (refl, refl, refl, refl)

-- wide characters of names, in both editions
pub wide_names :
    (sheet_text (sheet second_edition ((encode_utf8_all (codes "xí{a:b}")) ∷ []))
    ≡ (encode_utf8_all (codes "xí { a:b; }")))
    × (sheet_text (sheet second_edition ((encode_utf8_all (codes "é { a:b }")) ∷ []))
    ≡ (encode_utf8_all (codes "é { a:b; }")))
    × (sheet_text (sheet first_edition ((encode_utf8_all (codes "xí{a:b}")) ∷ [])) ≡ [])
    × (sheet_text (sheet first_edition ((encode_utf8_all (codes "é { a:b }")) ∷ [])) ≡ [])
unfolding simplecss_on_literals
wide_names = (refl, refl, refl, refl)

-- where reading continues after a part that is refused
pub parts_after_refusals : (edition : Edition) →
    (sheet_text (sheet edition ((codes "[a]b,c{d:e}") ∷ [])) ≡ (codes "c { d:e; }"))
    × (sheet_text (sheet edition ((codes "a*,c{d:e}") ∷ [])) ≡ [])
    × (sheet_text (sheet edition ((codes ">,a{b:c}") ∷ [])) ≡ [])
    × (sheet_text (sheet edition ((codes "-,b{c:d}") ∷ [])) ≡ (codes "b { c:d; }"))
    × (sheet_text (sheet edition ((codes "[a,b{c:d}") ∷ [])) ≡ (codes "b { c:d; }"))
    × (sheet_text (sheet edition ((codes "[a~,b{c:d}") ∷ [])) ≡ (codes "b { c:d; }"))
    × (sheet_text (sheet edition ((codes ":lang,b{c:d}") ∷ [])) ≡ (codes "b { c:d; }"))
    × (sheet_text (sheet edition ((codes ":lang(),b{c:d}") ∷ [])) ≡ (codes "b { c:d; }"))
    × (sheet_text (sheet edition ((codes "a,/*{b:c}") ∷ [])) ≡ [])
    × (sheet_text (sheet edition ((codes "- ,b{c:d}") ∷ [])) ≡ (codes "b { c:d; }"))
    × (sheet_text (sheet edition ((codes "-/**/,b{c:d}") ∷ [])) ≡ [])
    × (sheet_text (sheet edition ((codes "@--x{b:c}") ∷ [])) ≡ (codes "-x { b:c; }"))
    × (sheet_text (sheet edition ((codes "a>,b{c:d}") ∷ [])) ≡ (codes "b { c:d; }"))
    × (sheet_text (sheet edition ((codes "a /,b{c:d}") ∷ [])) ≡ (codes "b { c:d; }"))
    × (sheet_text (sheet edition ((codes "@m}x{y:z}c{d:e}") ∷ [])) ≡ (codes "c { d:e; }"))
    × (sheet_text (sheet edition ((97 ∷ 13 ∷ 98 ∷ 123 ∷ 99 ∷ 58 ∷ 100 ∷ 125 ∷ []) ∷ []))
    ≡ (codes "a b { c:d; }"))
unfolding simplecss_on_literals
parts_after_refusals first_edition =
    (refl, refl, refl, refl, refl, refl, refl, refl, refl, refl, refl, refl, refl, refl, refl, refl)
parts_after_refusals second_edition =
    (refl, refl, refl, refl, refl, refl, refl, refl, refl, refl, refl, refl, refl, refl, refl, refl)

-- where reading continues after a declaration that is broken
pub blocks_after_faults : (edition : Edition) →
    (sheet_text (sheet edition ((codes "a{b:/*}d{e:f}") ∷ [])) ≡ [])
    × (sheet_text (sheet edition ((codes "a{b:'}d{e:f}") ∷ [])) ≡ [])
    × (sheet_text (sheet edition ((codes "a{b:f(}d{e:f}") ∷ [])) ≡ [])
    × (sheet_text (sheet edition ((codes "a{b}c{d:e}") ∷ [])) ≡ (codes "c { d:e; }"))
    × (sheet_text (sheet edition ((codes "a{b:;{}}c{d:e}") ∷ [])) ≡ (codes "c { d:e; }"))
    × (sheet_text (sheet edition ((codes "a{b:;/*}*/}c{d:e}") ∷ [])) ≡ (codes "c { d:e; }"))
    × (sheet_text (sheet edition ((codes "a{b{}}}c{d:e}") ∷ [])) ≡ (codes "c { d:e; }"))
    × (sheet_text (sheet edition ((codes "a{b:c;}}d{e:f}") ∷ [])) ≡ (codes "a { b:c; }"))
    × (sheet_text (sheet edition ((codes "a{b/*}*/}c{d:e}") ∷ [])) ≡ (codes "c { d:e; }"))
    × (sheet_text (sheet edition ((codes "a{/*}*/b}c{d:e}") ∷ [])) ≡ (codes "c { d:e; }"))
unfolding simplecss_on_literals
blocks_after_faults first_edition = (refl, refl, refl, refl, refl, refl, refl, refl, refl, refl)
blocks_after_faults second_edition = (refl, refl, refl, refl, refl, refl, refl, refl, refl, refl)

-- and what the two editions read apart
pub blocks_after_faults-editions :
    (sheet_text (sheet second_edition ((codes "a{b:/c{}}d{e:f}") ∷ []))
    ≡ (codes "a { b:/c; }\nd { e:f; }"))
    × (sheet_text (sheet first_edition ((codes "a{b:/c{}}d{e:f}") ∷ [])) ≡ (codes "d { e:f; }"))
unfolding simplecss_on_literals
blocks_after_faults-editions = (refl, refl)

-- rules of equal specificity and declarations of a rule keep their order
pub order_in_rules : (edition : Edition) →
    (sheet_text (sheet edition ((codes "a{c:x;c:y}a{c:z}") ∷ []))
    ≡ (codes "a { c:x;c:y; }\na { c:z; }"))
    × (sheet_text (sheet edition ((codes "a { c:red !important; c:blue } a { c:green }") ∷ []))
    ≡ (codes "a { c:red !important;c:blue; }\na { c:green; }"))
    × (sheet_text (sheet edition ((codes "a { c:red } .x { c:blue } a { c:green }") ∷ []))
    ≡ (codes "a { c:red; }\na { c:green; }\n*[class~='x'] { c:blue; }"))
    × (sheet_text (sheet edition ((codes ".a{b:c}#a{b:c}a{b:c}*{b:c}[id]{b:d}a b{b:c}") ∷ []))
    ≡ (codes
    "* { b:c; }\na { b:c; }\na b { b:c; }\n*[class~='a'] { b:c; }\n*[id='a'] { b:c; }\n*[id] { b:d; }"))
unfolding simplecss_on_literals
order_in_rules first_edition = (refl, refl, refl, refl)
order_in_rules second_edition = (refl, refl, refl, refl)

-- the components of `#b` and of `a`, and what `x:y` says
abbrev id_of_b : List Component
id_of_b = record {
  combinator = none;
  compound =
      record { name = None; subselectors = attribute (codes "id") (equals (codes "b")) ∷ [] };
} ∷ []

abbrev type_a : List Component
type_a =
    record { combinator = none; compound = record { name = Some (codes "a"); subselectors = [] } }
    ∷ []

abbrev one_declaration : List StyleDeclaration
one_declaration = record { name = codes "x"; value = codes "y"; important = false } ∷ []

-- a text read into a sheet whose rules were edited, and a printed rule without declarations
pub edited_sheets : (edition : Edition) →
    (sheet_text (ordered (filter has_declaration (record {
      components = id_of_b;
      declarations = one_declaration;
    } ∷ record { components = type_a; declarations = [] } ∷ []) ++ kept edition []))
    ≡ (codes "*[id='b'] { x:y; }"))
    × (sheet_text (ordered (filter has_declaration (record {
      components = id_of_b;
      declarations = one_declaration;
    } ∷ record { components = type_a; declarations = one_declaration } ∷ []) ++ kept edition
    (codes "b { c:d } *{}"))) ≡ (codes "a { x:y; }\nb { c:d; }\n*[id='b'] { x:y; }"))
    × (sheet_text (record { components = type_a; declarations = [] } ∷ record {
      components = id_of_b;
      declarations = one_declaration;
    } ∷ []) ≡ (codes "a {  }\n*[id='b'] { x:y; }"))
unfolding simplecss_on_literals
edited_sheets first_edition = (refl, refl, refl)
edited_sheets second_edition = (refl, refl, refl)
