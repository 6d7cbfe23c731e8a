-- Worked texts, computed with the definitions.
-- Computes `name`, `ident_sequence`, `progression`, `attribute_selector`, `next_condition` and
-- `complex_list`.
use Rattle.std.specs.Prelude.{◌≡◌, refl, ℕ, List, [], ◌∷◌, map, codes, true, false, None}
use Rattle.css_matching.specs.declared.Combinator.TheVariants.{Descendant}
use Rattle.css_text.specs.Comments.{blank, comment, gap as gap_before}
use Rattle.css_text.specs.Reading.{each}
use Rattle.css_syntax.specs.Tokens.{past_escape, past_letter, spells, past_comment, gap_part, name_part, string_part, past_string, url_part, remnant_part, past_url, token}
use Rattle.css_syntax.specs.ComponentValues.{block_of, past_open, component_value}
use Rattle.css_syntax.specs.Escapes.{decoded_part, unescaped_in}
use Rattle.css_selector_text.specs.declared.refusal.Why.TheVariants.{NoSelector, NoName, NoProgression, NoValue, UnknownName, UnknownFunction, TooDeep, UnknownPrefix}
use Rattle.css_selector_text.specs.Components.{Part}
use Rattle.css_selector_text.specs.Components.Comparison.{equals, has_subtag}
use Rattle.css_selector_text.specs.Components.Namespace.{absent, any_namespace, of_prefix}
use Rattle.css_selector_text.specs.Components.Local.{any_type, a_type, some_attribute, an_attribute}
use Rattle.css_selector_text.specs.Components.Simple.{type_name, class, has_attribute, attribute, state, namespaced}
use Rattle.css_selector_text.specs.Components.Condition.{simple}
use Rattle.css_selector_text.specs.Names.{Names, no_names}
use Rattle.css_selector_text.specs.reading.Readings.{got, refused, item, stop}
use Rattle.css_selector_text.specs.declared.components.ListKind.TheVariants.{Not, Is}
use Rattle.css_selector_text.specs.reading.Grammar.{gap, ident_sequence, name, string, value, comparison, flag, compared, namespace, at_bar, prefix, attribute_from_name, attribute_selector, signed, stepping, offset_or_none, with_offset, subtracted, by_tail, n_word, progression, any_or_name, type_selector, next_simple, Finder, condition_at, next_condition, compound, complex_by, complex, next_part_in, listed_part, next_listed, past_part, complex_list}

-- `-->` is no name, but in a hash its hyphens are one; a backslash before a newline is no escape; U+0000
-- is U+FFFD
pub names :
    (name (codes "-->c") ≡ refused NoName (codes "-->c"))
    × (ident_sequence (codes "-->c") ≡ got (codes "--") (codes ">c"))
    × (name (codes "\\61 \\62/**/") ≡ got (codes "ab") (codes "/**/"))
    × (name (codes "\\\na") ≡ refused NoName (codes "\\\na"))
    × (name (97 ∷ 0 ∷ codes "b") ≡ got (97 ∷ 239 ∷ 191 ∷ 189 ∷ codes "b") [])
    × (name (92 ∷ 0 ∷ []) ≡ got (239 ∷ 191 ∷ 189 ∷ []) [])
unfolding each past_escape name_part decoded_part unescaped_in ident_sequence name lib.Utf8.encode
names = (refl, refl, refl, refl, refl, refl)

-- `An+B`, by its tokens
pub progressions :
    (progression (codes "2\\6e -1)") ≡ got (stepping (signed false 2) (signed true 1)) (codes ")"))
    × (progression (codes "+/**/N") ≡ got (stepping (signed false 1) (signed false 0)) [])
    × (progression (codes "-/**/n") ≡ refused NoName (codes "-/**/n"))
    × (progression (codes "\\-n+2") ≡ got (stepping (signed true 1) (signed false 2)) [])
    × (progression (codes "2n-/**/1") ≡ got (stepping (signed false 2) (signed true 1)) [])
    × (progression (codes "e\\76 en)") ≡ got (stepping (signed false 2) (signed false 0)) (codes ")"))
    × (progression (codes "2/**/n") ≡ got (stepping (signed false 0) (signed false 2)) (codes "/**/n"))
    × (progression (codes "+odd") ≡ refused NoProgression (codes "+odd"))
    × (progression (codes "2e1") ≡ refused NoProgression (codes "2e1"))
unfolding each past_escape past_comment name_part decoded_part unescaped_in blank comment gap_before gap
    ident_sequence name offset_or_none with_offset subtracted by_tail n_word progression lib.Utf8.encode
progressions = (refl, refl, refl, refl, refl, refl, refl, refl, refl)

-- the end of the text closes what is open; a backslash there denotes nothing in a string
pub attributes :
    (attribute_selector no_names (codes "a=\"b") ≡ got (attribute (codes "a") equals (codes "b") false) [])
    × (attribute_selector no_names (codes "a='b\\") ≡ got (attribute (codes "a") equals (codes "b") false) [])
    × (attribute_selector no_names (codes "a=b/**/\\69") ≡ got (attribute (codes "a") equals (codes "b") true) [])
    × (attribute_selector no_names (codes "a/*") ≡ got (has_attribute (codes "a")) [])
    × (attribute_selector no_names (codes "a=") ≡ refused NoValue [])
    × (attribute_selector no_names (codes "*=b]") ≡ refused NoName (codes "*=b]"))
unfolding each past_escape past_comment name_part string_part decoded_part unescaped_in blank comment gap_before
    gap ident_sequence name string value comparison flag compared namespace at_bar attribute_from_name
    attribute_selector lib.Utf8.encode
attributes = (refl, refl, refl, refl, refl, refl)

-- a prefix that is declared twice
abbrev own : Names
own = record {
  states = [];
  functions = [];
  elements = [];
  element_functions = [];
  default_namespace = None;
  prefixes = (codes "n", 1) ∷ (codes "n", 2) ∷ [];
}

-- a namespace, which comments may be in, and white space may not
pub namespaces :
    (attribute_selector own (codes "n/**/|/**/a]") ≡ got (namespaced (of_prefix (codes "n") 2) (some_attribute (codes "a"))) [])
    × (attribute_selector own (codes "*|a=b]") ≡ got (namespaced any_namespace (an_attribute (codes "a") equals (codes "b") false)) [])
    × (attribute_selector own (codes "a|=b]") ≡ got (attribute (codes "a") has_subtag (codes "b") false) [])
    × (type_selector own (codes "n|*.c") ≡ item (namespaced (of_prefix (codes "n") 2) any_type) (codes ".c"))
    × (type_selector own (codes "|a") ≡ item (namespaced absent (a_type (codes "a"))) [])
    × (type_selector own (codes "n| a") ≡ stop NoName (codes " a"))
    × (type_selector own (codes "N|a") ≡ stop UnknownPrefix (codes "N|a"))
unfolding each past_escape past_comment name_part string_part decoded_part unescaped_in blank comment gap_before
    gap ident_sequence name string value comparison flag compared namespace at_bar prefix attribute_from_name
    attribute_selector any_or_name type_selector lib.Utf8.encode
namespaces = (refl, refl, refl, refl, refl, refl, refl)

-- where no list may be open
abbrev nowhere : Finder
nowhere = next_condition (record { depth = 0; in_has = false; names = no_names })

-- comments are between any two tokens; a url is no function; unknown names are refused
pub conditions :
    (nowhere (codes "/**/./**/b") ≡ item (simple (class (codes "b"))) [])
    × (nowhere (codes ":/**/hov\\65 r/") ≡ item (simple (state (codes "hover"))) (codes "/"))
    × (nowhere (codes "#/**/a") ≡ stop NoName (codes "/**/a"))
    × (nowhere (codes ":url(x)") ≡ stop UnknownFunction (codes ":url(x)"))
    × (nowhere (codes ":foo.b") ≡ stop UnknownName (codes ":foo.b"))
unfolding each past_escape past_comment name_part decoded_part unescaped_in ident_sequence name
    next_simple condition_at lib.Utf8.encode
conditions = (refl, refl, refl, refl, refl)

-- a compound selector of a type
abbrev types : List (List ℕ) → List (List Part)
types names = map (λ n. (record { combinator = Descendant; conditions = simple (type_name n) ∷ [] }) ∷ []) names

-- a forgiving list leaves out what is no selector, up to a comma or parenthesis outside brackets
pub lists :
    (complex_list no_names Is nowhere (codes "a, %%, b)c") ≡ got (types (codes "a" ∷ codes "b" ∷ [])) (codes "c"))
    × (complex_list no_names Is nowhere (codes ")") ≡ got [] [])
    × (complex_list no_names Is nowhere (codes ",/**/,a 5,b,)") ≡ got (types (codes "b" ∷ [])) [])
    × (complex_list no_names Is nowhere (codes "{),},],b") ≡ got (types (codes "b" ∷ [])) [])
    × (complex_list no_names Is nowhere (codes "a!b,c") ≡ got (types (codes "c" ∷ [])) [])
    × (complex_list no_names Is nowhere (codes "a,:is(b))") ≡ refused TooDeep (codes ":is(b))"))
    × (complex_list no_names Not nowhere (codes "a, %%)") ≡ refused NoSelector (codes "%%)"))
unfolding each past_escape past_comment name_part decoded_part unescaped_in blank comment gap_before gap
    ident_sequence name namespace at_bar any_or_name type_selector next_simple condition_at compound complex_by complex next_part_in listed_part
    next_listed past_part complex_list token block_of past_open component_value gap_part string_part
    past_string url_part remnant_part past_url spells past_letter lib.Utf8.encode
lists = (refl, refl, refl, refl, refl, refl, refl)
