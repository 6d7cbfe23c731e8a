-- Where in a text something is skipped.
use Rattle.std.specs.Prelude.{ℕ, List}
use Rattle.css_text.specs.Reading.{Ends}
use Rattle.simplecss_grammar.specs.Skipped.{Refusal, faulty, unknown_class, Why, leading_comma, refused_selector, after_selector, missing_block, broken_declaration, open_value, extra_brace, open_comment, at_rule, Skip}

-- the text in which an error is reported is a suffix of the text
abbrev pub IsRefusalWithin : List ℕ → Refusal → Type 0
IsRefusalWithin text (faulty within error) = Ends text within
IsRefusalWithin text (unknown_class name) = Unit {0}

-- the same for the reason why something is skipped
abbrev pub IsWhyWithin : List ℕ → Why → Type 0
IsWhyWithin text (refused_selector r) = IsRefusalWithin text r
IsWhyWithin text leading_comma = Unit {0}
IsWhyWithin text after_selector = Unit {0}
IsWhyWithin text missing_block = Unit {0}
IsWhyWithin text broken_declaration = Unit {0}
IsWhyWithin text open_value = Unit {0}
IsWhyWithin text extra_brace = Unit {0}
IsWhyWithin text open_comment = Unit {0}
IsWhyWithin text (at_rule name) = Unit {0}

-- it begins and ends in the text
abbrev pub IsWithin : List ℕ → Skip → Type 0
IsWithin text skip = Ends text skip.from × Ends text skip.after × IsWhyWithin text skip.why
