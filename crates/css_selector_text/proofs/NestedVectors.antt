-- Lists of nested rules, computed with the definitions: each as Chromium serializes it, but for invalid parts
-- of forgiving lists, which are left out here.
use Rattle.std.specs.Prelude.{◌≡◌, refl, ℕ, [], ◌∷◌, List, codes, map}
use Rattle.css_text.specs.Comments.{blank, comment, gap as gap_before}
use Rattle.css_text.specs.Reading.{each}
use Rattle.css_syntax.specs.Tokens.{past_escape, past_comment, spells, gap_part, past_letter, past_string, name_part, string_part, token, comment_quality, past_url, url_part, remnant_part}
use Rattle.css_syntax.specs.ComponentValues.{block_of, past_open, component_value}
use Rattle.css_syntax.specs.Escapes.{decoded_part, unescaped_in}
use Rattle.css_selector_text.specs.declared.components.Nesting.{Nesting}
use Rattle.css_selector_text.specs.declared.refusal.Why.TheVariants.{NoSelector, Unexpected}
use Rattle.css_selector_text.specs.Components.{Placed}
use Rattle.css_selector_text.specs.reading.Grammar.{gap, ident_sequence, name, string, value, comparison, flag, compared, namespace, at_bar, attribute_from_name, attribute_selector, any_or_name, type_selector, next_simple, compound, next_part_in, complex_by, complex, past_part, listed_part, next_listed, complex_list, condition_at, conditions, next_part, element_argument, element_name, after_element, pseudo_element, parts, relative_parts, placed_by, next_placed, placed_list_by}
use Rattle.css_selector_text.specs.reading.Nested.{nested_list, token_before}
use Rattle.css_selector_text.specs.printing.Printing.{selector_text}
use Rattle.css_selector_text.specs.Names.{no_names}
use Rattle.css_selector_text.specs.reading.Readings.{Reading, got, refused}

abbrev parent : Nesting
parent = record { number = 7; specificity = record { ids = 0; classes = 2; names = 0 } }

-- how each selector prints
abbrev shown : Reading (List Placed) → Reading (List (List ℕ))
shown (got all rest) = got (map (λ p. selector_text p.selector) all) rest
shown (refused why rest) = refused why rest

abbrev read : List ℕ → Reading (List (List ℕ))
read text = shown (nested_list no_names parent text)

abbrev prints : List ℕ → Reading (List (List ℕ))
prints text = got (text ∷ []) []

pub joined :
    (read (codes ".x") ≡ prints (codes "& .x"))
    × (read (codes "& .x") ≡ prints (codes "& .x"))
    × (read (codes ".x &") ≡ prints (codes ".x &"))
    × (read (codes "a&") ≡ prints (codes "a&"))
    × (read (codes "a b") ≡ prints (codes "& a b"))
    × (read (codes "::before") ≡ prints (codes "& ::before"))
    × (read (codes "&::before") ≡ prints (codes "&::before"))
    × (read (codes "[a='&']") ≡ prints (codes "& [a=\"&\"]"))
unfolding each past_escape past_comment name_part string_part decoded_part unescaped_in blank comment gap_before gap
    ident_sequence name string value comparison flag compared namespace at_bar attribute_from_name
    attribute_selector any_or_name type_selector next_simple
    condition_at conditions next_part element_argument element_name after_element pseudo_element parts
    relative_parts placed_by next_placed placed_list_by token_before token past_letter past_string comment_quality
    lib.Utf8.encode
joined = (refl, refl, refl, refl, refl, refl, refl, refl)

pub relative :
    (read (codes "> b") ≡ prints (codes "& > b"))
    × (read (codes "~b") ≡ prints (codes "& ~ b"))
    × (read (codes "> & b") ≡ prints (codes "& > & b"))
    × (read (codes "+ &") ≡ prints (codes "& + &"))
    × (read (codes ">::before") ≡ prints (codes "& > ::before"))
    × (read (codes "/**/> /**/ b") ≡ prints (codes "& > b"))
    × (read (codes ">b,c") ≡ got (codes "& > b" ∷ codes "& c" ∷ []) [])
    × (read (codes ">> b") ≡ refused NoSelector (codes "> b"))
    × (read (codes "> ") ≡ refused NoSelector [])
    × (read (codes "&a") ≡ refused Unexpected (codes "a"))
    × (read (codes "&*") ≡ refused Unexpected (codes "*"))
    × (read (codes "&1") ≡ refused Unexpected (codes "1"))
unfolding each past_escape past_comment name_part decoded_part unescaped_in blank comment gap_before gap
    ident_sequence name namespace at_bar any_or_name type_selector next_simple condition_at conditions next_part element_argument
    element_name after_element pseudo_element parts relative_parts placed_by next_placed placed_list_by token_before token past_letter past_string comment_quality
    lib.Utf8.encode
relative = (refl, refl, refl, refl, refl, refl, refl, refl, refl, refl, refl, refl)

pub in_lists :
    (read (codes ":is(&)") ≡ prints (codes ":is(&)"))
    × (read (codes ":not(.x)") ≡ prints (codes "& :not(.x)"))
    × (read (codes ":is(.x, &) y") ≡ prints (codes ":is(.x, &) y"))
    × (read (codes ":is(:is(&))") ≡ prints (codes ":is(:is(&))"))
    × (read (codes ":scope > b") ≡ prints (codes "& :scope > b"))
unfolding each past_escape past_comment name_part decoded_part unescaped_in blank comment gap_before gap
    ident_sequence name namespace at_bar any_or_name type_selector next_simple compound next_part_in complex_by complex past_part listed_part
    next_listed complex_list condition_at conditions next_part element_argument
    element_name after_element pseudo_element parts relative_parts placed_by next_placed placed_list_by token_before token past_letter past_string comment_quality
    lib.Utf8.encode
in_lists = (refl, refl, refl, refl, refl)

-- An `&` counts also in a part that is left out, but not as a part of another token.
pub in_left_out :
    (read (codes ":is(b, !&)") ≡ prints (codes ":is(b)"))
    × (read (codes ":is(b, [&])") ≡ prints (codes ":is(b)"))
    × (read (codes ":is(b, !a&)") ≡ prints (codes ":is(b)"))
    × (read (codes ":is(b, &::before)") ≡ prints (codes ":is(b)"))
    × (read (codes ":is(b, !)") ≡ prints (codes "& :is(b)"))
    × (read (codes ":is(b, !'&')") ≡ prints (codes "& :is(b)"))
    × (read (codes ":is(b, !/*&*/)") ≡ prints (codes "& :is(b)"))
    × (read (codes ":is(b, !url(&))") ≡ prints (codes "& :is(b)"))
    × (read (codes ":is(b, !), :is(!&)") ≡ got (codes "& :is(b)" ∷ codes ":is()" ∷ []) [])
unfolding each past_escape past_comment name_part string_part decoded_part unescaped_in blank comment gap_before gap
    ident_sequence name namespace at_bar attribute_from_name attribute_selector any_or_name type_selector next_simple compound next_part_in complex_by complex past_part listed_part
    next_listed complex_list condition_at conditions next_part element_argument
    element_name after_element pseudo_element parts relative_parts placed_by next_placed placed_list_by
    token_before token past_letter spells gap_part past_string past_url url_part remnant_part comment_quality
    block_of past_open component_value lib.Utf8.encode
in_left_out = (refl, refl, refl, refl, refl, refl, refl, refl, refl)
