-- Worked texts, computed with the definitions.
-- Computes `component_value`, `value`, `items` and `statements`.
use Rattle.std.specs.Prelude.{◌≡◌, refl, [], ◌∷◌, codes, true, false, None, Some}
use Rattle.css_text.specs.Reading.{each}
use Rattle.css_syntax.specs.declared.quality.Quality.TheVariants.{Whole, Open, BadString, BadUrl, StrayBracket, TooDeep}
use Rattle.css_syntax.specs.declared.quality.Fault.TheVariants as faults
use Rattle.css_syntax.specs.Tokens.{past_escape, past_comment, comment_quality, gap_part, string_part, past_string, name_part, url_part, remnant_part, past_url, past_letter, spells, token}
use Rattle.css_syntax.specs.ComponentValues.{block_of, past_open, component_value}
use Rattle.css_syntax.specs.Parts.{parts}
use Rattle.css_syntax.specs.Statements.{block, at_rule, statement, between_part, next_statement, statements, rule_set, at_rule_statement, skipped_statement}
use Rattle.css_syntax.specs.DeclarationLists.{value, declaration, item, separator_part, next_item, items, declared, skipped_item}

-- brackets: one of another kind closes nothing, and makes what it is in bad
pub brackets :
    (component_value 64 (codes "(a[b]{c;d!})e") ≡ (Whole, codes "e"))
    × (component_value 64 (codes "([)])e") ≡ (StrayBracket, codes "e"))
    × (component_value 64 (codes "(')')e") ≡ (Whole, codes "e"))
    × (component_value 64 (codes "(/*)*/)e") ≡ (Whole, codes "e"))
    × (component_value 64 (codes "url(a'b)c") ≡ (BadUrl, codes "c"))
    × (component_value 64 (codes "uRl( a(b\\)c )d") ≡ (BadUrl, codes "d"))
    × (component_value 64 (codes "url( a\\)b )d") ≡ (Whole, codes "d"))
    × (component_value 64 (codes "'a\\'b\\\nc'd") ≡ (Whole, codes "d"))
    × (component_value 64 (codes "'a\n;b") ≡ (BadString, codes ";b"))
    × (component_value 1 (codes "(([)]b)a") ≡ (TooDeep, codes "a"))
    × (component_value 64 (codes "\\75 \\R\\00006c(a'b)c") ≡ (BadUrl, codes "c"))
    × (component_value 64 (codes "(a['b") ≡ (Open, []))
unfolding each past_escape past_comment comment_quality gap_part string_part past_string name_part
    url_part remnant_part past_url past_letter token block_of past_open component_value
brackets = (refl, refl, refl, refl, refl, refl, refl, refl, refl, refl, refl, refl)

-- values
pub values :
    (value false (codes "calc(1px + (2px)) ;c:d")
    ≡ (record { text = codes "calc(1px + (2px))"; quality = Whole }, codes ";c:d"))
    × (value false (codes "-webkit-f(1;2)!x")
    ≡ (record { text = codes "-webkit-f(1;2)"; quality = Whole }, codes "!x"))
    × (value false (codes "url(a;b)/**/} d")
    ≡ (record { text = codes "url(a;b)"; quality = Whole }, codes "} d"))
unfolding each past_escape past_comment comment_quality gap_part string_part past_string name_part
    url_part remnant_part past_url past_letter token block_of component_value parts
values = (refl, refl, refl)

-- items, each on its own
pub lists :
    (items false (codes "x:y;bad;c:d!IMPORTANT")
    ≡ record {
      text = codes "x:y";
      item = declared (record {
        name = codes "x";
        value = codes "y";
        important = false;
        closed = true;
      });
    }
    ∷ record { text = codes "bad"; item = skipped_item faults.BrokenDeclaration }
    ∷ record {
      text = codes "c:d!IMPORTANT";
      item = declared (record {
        name = codes "c";
        value = codes "d";
        important = true;
        closed = true;
      });
    }
    ∷ [])
    × (items false (codes "a:b)c;--d:f(")
    ≡ record { text = codes "a:b)c"; item = skipped_item faults.StrayBracket }
    ∷ record {
      text = codes "--d:f(";
      item = declared (record {
        name = codes "--d";
        value = codes "f(";
        important = false;
        closed = false;
      });
    }
    ∷ [])
    × (items false (codes "a:'\n;b}:c")
    ≡ record { text = codes "a:'\n"; item = skipped_item faults.BadString }
    ∷ record { text = codes "b}:c"; item = skipped_item faults.BrokenDeclaration } ∷ [])
    × (items true (codes "a:hover{b:c}d:e")
    ≡ record { text = codes "a:hover{b:c}"; item = skipped_item faults.NestedRule }
    ∷ record {
      text = codes "d:e";
      item = declared (record {
        name = codes "d";
        value = codes "e";
        important = false;
        closed = true;
      });
    }
    ∷ [])
    × (items false (codes "a:b{c}d:e;")
    ≡ record { text = codes "a:b{c}d:e"; item = skipped_item faults.BrokenDeclaration } ∷ [])
    × (items true (codes "--a:b{c}d}e:f")
    ≡ record {
      text = codes "--a:b{c}d";
      item = declared (record {
        name = codes "--a";
        value = codes "b{c}d";
        important = false;
        closed = true;
      });
    }
    ∷ [])
    × (items true (codes "a:;b:c}d:e")
    ≡ record { text = codes "a:"; item = skipped_item faults.BrokenDeclaration }
    ∷ record {
      text = codes "b:c";
      item = declared (record {
        name = codes "b";
        value = codes "c";
        important = false;
        closed = true;
      });
    }
    ∷ [])
unfolding each past_escape past_comment comment_quality gap_part string_part past_string name_part
    url_part remnant_part past_url past_letter spells token block_of component_value parts block at_rule
    declaration item separator_part next_item items
lists = (refl, refl, refl, refl, refl, refl, refl)

-- statements
pub sheets :
    (statements false (codes "<!--a>b {c:d}@media x{e{}}")
    ≡ record {
      text = codes "a>b {c:d}";
      statement = rule_set (record { text = codes "a>b"; quality = Whole })
          (record { text = codes "c:d"; closed = true });
    }
    ∷ record {
      text = codes "@media x{e{}}";
      statement = at_rule_statement (record {
        name = codes "media";
        prelude = record { text = codes "x"; quality = Whole };
        block = Some (record { text = codes "e{}"; closed = true });
      });
    }
    ∷ [])
    × (statements true (codes "a{b}}c{d}")
    ≡ record {
      text = codes "a{b}";
      statement = rule_set (record { text = codes "a"; quality = Whole })
          (record { text = codes "b"; closed = true });
    }
    ∷ [])
    × (statements false (codes "@import'x';g")
    ≡ record {
      text = codes "@import'x';";
      statement = at_rule_statement (record {
        name = codes "import";
        prelude = record { text = codes "'x'"; quality = Whole };
        block = None;
      });
    }
    ∷ record { text = codes "g"; statement = skipped_statement faults.NoBlock } ∷ [])
unfolding each past_escape past_comment comment_quality gap_part string_part past_string name_part
    url_part remnant_part past_url past_letter token block_of component_value parts block at_rule
    statement between_part next_statement statements
sheets = (refl, refl, refl)
