-- Errors, and why something is skipped, in a few words.
use Rattle.std.specs.Prelude.{ℕ, List, ◌++◌, codes}
use Rattle.simplecss_grammar.specs.Skipped.{Why, leading_comma, refused_selector, after_selector, missing_block, broken_declaration, open_value, extra_brace, open_comment, at_rule, faulty, unknown_class}
use Rattle.css_text.specs.Errors.{error_words}

-- why something is skipped, in a few words
abbrev pub why_words : Why → List ℕ
why_words leading_comma = codes "comma before a selector"
why_words (refused_selector (faulty within error)) = error_words error
why_words (refused_selector (unknown_class name)) = codes "unknown pseudo-class"
why_words after_selector = codes "unexpected text after a selector"
why_words missing_block = codes "block missing"
why_words broken_declaration = codes "broken declaration"
why_words open_value = codes "string or function not closed"
why_words extra_brace = codes "unexpected closing brace"
why_words open_comment = codes "comment not closed"
why_words (at_rule name) = codes "at-rule not supported"

-- that a pseudo-class of this name is not known
abbrev pub class_text : List ℕ → List ℕ
class_text name = codes "unknown pseudo-class ':" ++ name ++ codes "'"

-- the same with the name of a pseudo-class that is not known
abbrev pub why_text : Why → List ℕ
why_text (refused_selector (unknown_class name)) = class_text name
why_text (refused_selector (faulty within error)) = error_words error
why_text leading_comma = why_words leading_comma
why_text after_selector = why_words after_selector
why_text missing_block = why_words missing_block
why_text broken_declaration = why_words broken_declaration
why_text open_value = why_words open_value
why_text extra_brace = why_words extra_brace
why_text open_comment = why_words open_comment
why_text (at_rule name) = why_words (at_rule name)
