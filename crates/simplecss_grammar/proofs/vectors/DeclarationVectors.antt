-- Worked declarations, computed.
-- Computes `declaration` and `declarations` of `specs/Declarations`, and so the terms of values.
use Rattle.std.specs.Prelude.{◌≡◌, refl, [], ◌∷◌, codes, true, false}
use Rattle.css_text.specs.AsciiBytes.{colon}
use Rattle.css_text.specs.Reading.{fails, no_name, no_comment, no_value, wrong_byte, ended, got}
use Rattle.css_text.specs.Characters.{Edition, first_edition, second_edition}
use Rattle.simplecss_grammar.specs.Declarations.{declaration, declarations}
use Rattle.simplecss_grammar.proofs.vectors.OnLiterals.{simplecss_on_literals}

-- texts without a declaration at the front
pub no_declaration : (edition : Edition) →
    (declarations edition [] ≡ [])
    × (declarations edition (codes " ") ≡ [])
    × (declarations edition (codes "/**/") ≡ [])
    × (declarations edition (codes "{color:red}") ≡ [])
    × (declarations edition (codes "(color:red)") ≡ [])
    × (declarations edition (codes "[color:red]") ≡ [])
    × (declarations edition (codes "color:") ≡ [])
unfolding simplecss_on_literals
no_declaration first_edition = (refl, refl, refl, refl, refl, refl, refl)
no_declaration second_edition = (refl, refl, refl, refl, refl, refl, refl)

-- one declaration, with blanks round its parts
pub one_declaration : (edition : Edition) →
    (declarations edition (codes "color:red")
    ≡ record { name = (codes "color"); value = (codes "red"); important = false } ∷ [])
    × (declarations edition (codes "color:red;")
    ≡ record { name = (codes "color"); value = (codes "red"); important = false } ∷ [])
    × (declarations edition (codes "color:red ")
    ≡ record { name = (codes "color"); value = (codes "red"); important = false } ∷ [])
    × (declarations edition (codes " color: red; ")
    ≡ record { name = (codes "color"); value = (codes "red"); important = false } ∷ [])
    × (declarations edition (codes "  color  :  red  ; ")
    ≡ record { name = (codes "color"); value = (codes "red"); important = false } ∷ [])
    × (declarations edition (codes "/**/color:red")
    ≡ record { name = (codes "color"); value = (codes "red"); important = false } ∷ [])
    × (declarations edition (codes "/* *\\/*/color: red;")
    ≡ record { name = (codes "color"); value = (codes "red"); important = false } ∷ [])
    × (declarations edition (codes "/**/color/**/:/**/red/**/;/**/")
    ≡ record { name = (codes "color"); value = (codes "red"); important = false } ∷ [])
    × (declarations edition (codes "\ncolor\n:\nred\n;\n")
    ≡ record { name = (codes "color"); value = (codes "red"); important = false } ∷ [])
unfolding simplecss_on_literals
one_declaration first_edition = (refl, refl, refl, refl, refl, refl, refl, refl, refl)
one_declaration second_edition = (refl, refl, refl, refl, refl, refl, refl, refl, refl)

-- two declarations
pub two_declarations : (edition : Edition) →
    (declarations edition (codes "  color:red;;;;color:red; ")
    ≡ record { name = (codes "color"); value = (codes "red"); important = false }
    ∷ record { name = (codes "color"); value = (codes "red"); important = false } ∷ [])
    × (declarations edition (codes "background: url(\"img.png\"); color:red !important") ≡ record {
      name = (codes "background");
      value = (codes "url(\"img.png\")");
      important = false;
    } ∷ record { name = (codes "color"); value = (codes "red"); important = true } ∷ [])
unfolding simplecss_on_literals
two_declarations first_edition = (refl, refl)
two_declarations second_edition = (refl, refl)

-- the word important
pub important_declarations : (edition : Edition) →
    (declarations edition (codes "color: red ! important")
    ≡ record { name = (codes "color"); value = (codes "red"); important = true } ∷ [])
    × (declarations edition (codes "color: red !important")
    ≡ record { name = (codes "color"); value = (codes "red"); important = true } ∷ [])
    × (declarations edition (codes "color: red!important")
    ≡ record { name = (codes "color"); value = (codes "red"); important = true } ∷ [])
    × (declarations edition (codes "color: red !/**/important")
    ≡ record { name = (codes "color"); value = (codes "red"); important = true } ∷ [])
    × (declarations edition (codes "color:red !importantly:x") ≡ record {
      name = (codes "color");
      value = (codes "red");
      important = true;
    } ∷ record { name = (codes "ly"); value = (codes "x"); important = false } ∷ [])
    × (declarations edition (codes "color:red ! foo:x") ≡ record {
      name = (codes "color");
      value = (codes "red");
      important = false;
    } ∷ record { name = (codes "foo"); value = (codes "x"); important = false } ∷ [])
    × (declarations edition (codes "a:b !IMPORTANT")
    ≡ record { name = (codes "a"); value = (codes "b"); important = false } ∷ [])
unfolding simplecss_on_literals
important_declarations first_edition = (refl, refl, refl, refl, refl, refl, refl)
important_declarations second_edition = (refl, refl, refl, refl, refl, refl, refl)

-- values of many terms
pub values : (edition : Edition) →
    (declarations edition (codes "background:url(\"img.png\")")
    ≡ record { name = (codes "background"); value = (codes "url(\"img.png\")"); important = false }
    ∷ [])
    × (declarations edition (codes "background:url(\"{}\")")
    ≡ record { name = (codes "background"); value = (codes "url(\"{}\")"); important = false } ∷ [])
    × (declarations edition (codes "background:navy url(support/diamond.png) -2em -2em no-repeat")
    ≡ record {
      name = (codes "background");
      value = (codes "navy url(support/diamond.png) -2em -2em no-repeat");
      important = false;
    } ∷ [])
    × (declarations edition (codes "border:1em solid blue")
    ≡ record { name = (codes "border"); value = (codes "1em solid blue"); important = false } ∷ [])
    × (declarations edition (codes "value:\"text\"")
    ≡ record { name = (codes "value"); value = (codes "\"text\""); important = false } ∷ [])
    × (declarations edition (codes "value:'text'")
    ≡ record { name = (codes "value"); value = (codes "'text'"); important = false } ∷ [])
    × (declarations edition (codes "color:#fff")
    ≡ record { name = (codes "color"); value = (codes "#fff"); important = false } ∷ [])
    × (declarations edition (codes "color:#FFF")
    ≡ record { name = (codes "color"); value = (codes "#FFF"); important = false } ∷ [])
    × (declarations edition (codes "color:0.5")
    ≡ record { name = (codes "color"); value = (codes "0.5"); important = false } ∷ [])
    × (declarations edition (codes "color:.5")
    ≡ record { name = (codes "color"); value = (codes ".5"); important = false } ∷ [])
    × (declarations edition (codes "content:counter(chapno, upper-roman) \". \"") ≡ record {
      name = (codes "content");
      value = (codes "counter(chapno, upper-roman) \". \"");
      important = false;
    } ∷ [])
    × (declarations edition (codes "font-family:'Noto Serif','DejaVu Serif',serif") ≡ record {
      name = (codes "font-family");
      value = (codes "'Noto Serif','DejaVu Serif',serif");
      important = false;
    } ∷ [])
unfolding simplecss_on_literals
values first_edition = (refl, refl, refl, refl, refl, refl, refl, refl, refl, refl, refl, refl)
values second_edition = (refl, refl, refl, refl, refl, refl, refl, refl, refl, refl, refl, refl)

-- numbers, hashes and hyphens
pub terms_in_values : (edition : Edition) →
    (declarations edition (codes "a:1-2")
    ≡ record { name = (codes "a"); value = (codes "1-2"); important = false } ∷ [])
    × (declarations edition (codes "a:#-12")
    ≡ record { name = (codes "a"); value = (codes "#-12"); important = false } ∷ [])
    × (declarations edition (codes "color:; x:y") ≡ [])
    × (declarations edition (codes "*zoom:1;")
    ≡ record { name = (codes "zoom"); value = (codes "1"); important = false } ∷ [])
    × (declarations edition (97 ∷ 58 ∷ 227 ∷ 128 ∷ 128 ∷ []) ≡ [])
unfolding simplecss_on_literals
terms_in_values first_edition = (refl, refl, refl, refl, refl)
terms_in_values second_edition = (refl, refl, refl, refl, refl)

-- a slash is a term only in the second edition
pub slashes : (edition : Edition) →
    (declarations edition (codes "a:b/* x") ≡ [])
unfolding simplecss_on_literals
slashes first_edition = refl
slashes second_edition = refl

-- and what the two editions read apart
pub slashes-editions :
    (declarations second_edition (codes "font:12px/1.5 serif")
    ≡ record { name = (codes "font"); value = (codes "12px/1.5 serif"); important = false } ∷ [])
    × (declarations first_edition (codes "font:12px/1.5 serif")
    ≡ record { name = (codes "font"); value = (codes "12px"); important = false } ∷ [])
unfolding simplecss_on_literals
slashes-editions = (refl, refl)

-- the first fault of a declaration, and what is left after it
pub first_faults : (edition : Edition) →
    (declaration edition (codes "{a") ≡ fails (no_name (codes "{a")) (codes "{a"))
    × (declaration edition (codes "--x") ≡ fails (no_name (codes "--x")) (codes "-x"))
    × (declaration edition (codes "color;") ≡ fails (wrong_byte colon (codes ";")) (codes ";"))
    × (declaration edition (codes "color") ≡ fails ended [])
    × (declaration edition (codes "a: ;x") ≡ fails (no_value (codes ";x")) (codes "x"))
    × (declaration edition (codes "a:;/*") ≡ fails (no_comment (codes "/*")) [])
    × (declaration edition (codes "a:b; /* open") ≡ fails (no_comment (codes "/* open")) [])
unfolding simplecss_on_literals
first_faults first_edition = (refl, refl, refl, refl, refl, refl, refl)
first_faults second_edition = (refl, refl, refl, refl, refl, refl, refl)

-- strings and functions that are not closed, comments that are open, and marks without the word
pub broken_off : (edition : Edition) →
    (declarations edition (codes "a:b!c:d")
    ≡ record { name = codes "a"; value = codes "b"; important = false }
    ∷ record { name = codes "c"; value = codes "d"; important = false } ∷ [])
    × (declarations edition (codes "a:f(x") ≡ [])
    × (declarations edition (codes "a:b f(x")
    ≡ record { name = codes "a"; value = codes "b"; important = false } ∷ [])
    × (declarations edition (codes "a:b /* x") ≡ [])
    × (declarations edition (codes "**a:b") ≡ [])
unfolding simplecss_on_literals
broken_off first_edition = (refl, refl, refl, refl, refl)
broken_off second_edition = (refl, refl, refl, refl, refl)

-- numbers, hashes, backslashes and percent signs
pub more_terms : (edition : Edition) →
    (declarations edition (codes "a:1.5.5")
    ≡ record { name = codes "a"; value = codes "1.5.5"; important = false } ∷ [])
    × (declarations edition (codes "a:1%")
    ≡ record { name = codes "a"; value = codes "1%"; important = false } ∷ [])
    × (declarations edition (codes "a:1-%")
    ≡ record { name = codes "a"; value = codes "1-"; important = false } ∷ [])
    × (declarations edition (codes "a:#-%")
    ≡ record { name = codes "a"; value = codes "#-"; important = false } ∷ [])
    × (declarations edition (codes "a:'\\\\'b'")
    ≡ record { name = codes "a"; value = codes "'\\\\'b'"; important = false } ∷ [])
unfolding simplecss_on_literals
more_terms first_edition = (refl, refl, refl, refl, refl)
more_terms second_edition = (refl, refl, refl, refl, refl)

-- slashes and wide characters of a value in the second edition
pub slash_terms : (edition : Edition) →
    (declarations edition (codes "a:/**/b")
    ≡ record { name = codes "a"; value = codes "b"; important = false } ∷ [])
unfolding simplecss_on_literals
slash_terms first_edition = refl
slash_terms second_edition = refl

-- and what the two editions read apart
pub slash_terms-editions :
    (declarations second_edition (codes "a:/")
    ≡ record { name = codes "a"; value = codes "/"; important = false } ∷ [])
    × (declarations second_edition (codes "a:b//c")
    ≡ record { name = codes "a"; value = codes "b//c"; important = false } ∷ [])
    × (declarations second_edition (codes "a:b//**/c")
    ≡ record { name = codes "a"; value = codes "b//**/c"; important = false } ∷ [])
    × (declarations second_edition (97 ∷ 58 ∷ 194 ∷ 160 ∷ []) ≡ [])
unfolding simplecss_on_literals
slash_terms-editions = (refl, refl, refl, refl)

-- what is left after a declaration
pub declaration_ends : (edition : Edition) →
    (declaration edition (codes "a:b}c")
    ≡ got (record { name = codes "a"; value = codes "b"; important = false }) (codes "}c"))
    × (declaration edition (codes "a:b ;/**/; c:d")
    ≡ got (record { name = codes "a"; value = codes "b"; important = false }) (codes "c:d"))
    × (declaration edition (codes "a:b!importantc:d")
    ≡ got (record { name = codes "a"; value = codes "b"; important = true }) (codes "c:d"))
    × (declaration edition (codes "a:b! c:d")
    ≡ got (record { name = codes "a"; value = codes "b"; important = false }) (codes "c:d"))
    × (declaration edition (codes "a:b 'x;c:d")
    ≡ got (record { name = codes "a"; value = codes "b"; important = false }) [])
    × (declaration edition (codes "a:b f(x;c:d")
    ≡ got (record { name = codes "a"; value = codes "b"; important = false }) [])
    × (declaration edition (codes "a:-")
    ≡ got (record { name = codes "a"; value = codes "-"; important = false }) [])
    × (declaration edition (codes "a:f(b)c")
    ≡ got (record { name = codes "a"; value = codes "f(b)c"; important = false }) [])
    × (declaration edition (codes "a:b (c);d:e")
    ≡ got (record { name = codes "a"; value = codes "b"; important = false }) (codes "(c);d:e"))
unfolding simplecss_on_literals
declaration_ends first_edition = (refl, refl, refl, refl, refl, refl, refl, refl, refl)
declaration_ends second_edition = (refl, refl, refl, refl, refl, refl, refl, refl, refl)

-- and what the two editions read apart
pub declaration_ends-editions :
    (declaration second_edition (codes "a:b/c;d:e")
    ≡ got (record { name = codes "a"; value = codes "b/c"; important = false }) (codes "d:e"))
    × (declaration first_edition (codes "a:b/c;d:e")
    ≡ got (record { name = codes "a"; value = codes "b"; important = false }) (codes "/c;d:e"))
unfolding simplecss_on_literals
declaration_ends-editions = (refl, refl)

-- faults of blanks, names, colons and empty values, and what is left after them
pub more_faults : (edition : Edition) →
    (declaration edition (codes "/*") ≡ fails (no_comment (codes "/*")) [])
    × (declaration edition (codes "a/*b:c") ≡ fails (no_comment (codes "/*b:c")) [])
    × (declaration edition (codes "a:/*b") ≡ fails (no_comment (codes "/*b")) [])
    × (declaration edition (codes "a:b !/*c") ≡ fails (no_comment (codes "/*c")) [])
    × (declaration edition (codes "a:b;;/*c") ≡ fails (no_comment (codes "/*c")) [])
    × (declaration edition (codes "a:b/*c") ≡ fails (no_comment (codes "/*c")) [])
    × (declaration edition (codes "*-a") ≡ fails ended [])
    × (declaration edition (codes "*") ≡ fails (no_name []) [])
    × (declaration edition (codes "-:b") ≡ fails (no_name (codes "-:b")) (codes ":b"))
    × (declaration edition (codes "a;b") ≡ fails (wrong_byte colon (codes ";b")) (codes ";b"))
    × (declaration edition (codes "a /**/ ;b") ≡ fails (wrong_byte colon (codes ";b")) (codes ";b"))
    × (declaration edition (codes "a:") ≡ fails (no_value []) [])
    × (declaration edition (codes "a: ! important ;; }")
    ≡ fails (no_value (codes "! important ;; }")) (codes "}"))
    × (declaration edition (codes "a:'x;b:c") ≡ fails (no_value (codes "'x;b:c")) [])
    × (declaration edition (codes "a:f(x;b:c") ≡ fails (no_value (codes "f(x;b:c")) [])
    × (declaration edition (codes "a:(b)") ≡ fails (no_value (codes "(b)")) (codes "(b)"))
unfolding simplecss_on_literals
more_faults first_edition =
    (refl, refl, refl, refl, refl, refl, refl, refl, refl, refl, refl, refl, refl, refl, refl, refl)
more_faults second_edition =
    (refl, refl, refl, refl, refl, refl, refl, refl, refl, refl, refl, refl, refl, refl, refl, refl)

-- and what the two editions read apart
pub more_faults-editions :
    (declaration second_edition (codes "a:/b")
    ≡ got (record { name = codes "a"; value = codes "/b"; important = false }) [])
    × (declaration first_edition (codes "a:/b") ≡ fails (no_value (codes "/b")) (codes "/b"))
unfolding simplecss_on_literals
more_faults-editions = (refl, refl)
