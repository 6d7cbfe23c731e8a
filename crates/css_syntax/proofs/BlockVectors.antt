-- Worked blocks, computed with the definitions. A browser reads the same texts so.
use Rattle.std.specs.Prelude.{◌≡◌, refl, ℕ, List, [], ◌∷◌, codes, true, false, None}
use Rattle.css_text.specs.Reading.{each}
use Rattle.css_syntax.specs.declared.quality.Quality.TheVariants.{Whole}
use Rattle.css_syntax.specs.declared.quality.Fault.TheVariants as faults
use Rattle.css_syntax.specs.Tokens.{past_escape, past_comment, comment_quality, gap_part, string_part, past_string, name_part, url_part, remnant_part, past_url, past_letter, spells, token}
use Rattle.css_syntax.specs.ComponentValues.{block_of, component_value}
use Rattle.css_syntax.specs.Parts.{parts}
use Rattle.css_syntax.specs.DeclarationLists.{declared, skipped_item, at_rule_item, declaration, separator_part}
use Rattle.css_syntax.specs.Blocks.{BlockPart, listed, opens_rule, opens_at_rule, closes, at_rule_opened, block_part, next_block_part}

-- the parts of a text after an opening brace, also beyond the brace that closes it
abbrev parts_in : List ℕ → List BlockPart
parts_in text = (each next_block_part text).0

abbrev plain : List ℕ → List ℕ → BlockPart
plain name value =
    listed (declared (record { name = name; value = value; important = false; closed = true }))

abbrev rule : List ℕ → BlockPart
rule prelude = opens_rule (record { text = prelude; quality = Whole })

abbrev bad : BlockPart
bad = listed (skipped_item faults.BrokenDeclaration)

pub nested :
    -- declarations before and after a nested rule
    (parts_in (codes " .b{c:d} e:f }")
    ≡ rule (codes ".b") ∷ plain (codes "c") (codes "d") ∷ closes ∷ plain (codes "e") (codes "f")
    ∷ closes ∷ [])
    -- what begins as a declaration is a rule, if a block follows before a semicolon
    × (parts_in (codes "p:not(.z){c:d}e:f")
    ≡ rule (codes "p:not(.z)") ∷ plain (codes "c") (codes "d") ∷ closes
    ∷ plain (codes "e") (codes "f") ∷ [])
    × (parts_in (codes "c:x{}e:f}")
    ≡ rule (codes "c:x") ∷ closes ∷ plain (codes "e") (codes "f") ∷ closes ∷ [])
    × (parts_in (codes "c:d!important{}e:f")
    ≡ rule (codes "c:d!important") ∷ closes ∷ plain (codes "e") (codes "f") ∷ [])
    -- a semicolon ends what is broken
    × (parts_in (codes "!x;c:d") ≡ bad ∷ plain (codes "c") (codes "d") ∷ [])
    × (parts_in (codes "p;q{}") ≡ bad ∷ rule (codes "q") ∷ closes ∷ [])
    -- custom properties have blocks
    × (parts_in (codes "--x:{a:b};c:d")
    ≡ plain (codes "--x") (codes "{a:b}") ∷ plain (codes "c") (codes "d") ∷ [])
    × (parts_in (codes "--x:hover{c:d}e:f;c:d")
    ≡ plain (codes "--x") (codes "hover{c:d}e:f") ∷ plain (codes "c") (codes "d") ∷ [])
    -- at-rules
    × (parts_in (codes "@media x{c:d}@y z;e:f")
    ≡ opens_at_rule (codes "media") (record { text = codes "x"; quality = Whole })
    ∷ plain (codes "c") (codes "d") ∷ closes
    ∷ listed (at_rule_item (record {
      name = codes "y";
      prelude = record { text = codes "z"; quality = Whole };
      block = None;
    }))
    ∷ plain (codes "e") (codes "f") ∷ [])
unfolding each past_escape past_comment comment_quality gap_part string_part past_string name_part
    url_part remnant_part past_url past_letter spells token block_of component_value parts
    separator_part declaration at_rule_opened block_part next_block_part
nested = (refl, refl, refl, refl, refl, refl, refl, refl, refl)

-- In place: a string that lacks its quote at the end of a line is bad, also on the last line of a
-- block, and a backslash before a newline begins no escape.
pub in_place :
    (parts_in (codes "c:d;e:\"f;\n}\n") ≡ plain (codes "c") (codes "d") ∷ listed (skipped_item faults.BadString) ∷ closes ∷ [])
unfolding each past_escape past_comment comment_quality gap_part string_part past_string name_part
    url_part remnant_part past_url past_letter spells token block_of component_value parts
    separator_part declaration at_rule_opened block_part next_block_part
in_place = refl
