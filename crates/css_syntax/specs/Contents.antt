-- Where the pieces of what was read begin: what is left of the text from there on.
use Rattle.std.specs.Prelude.{ℕ, Bool, if◌then◌else◌, List}
use Rattle.css_text.specs.AsciiBytes.{colon, open_brace, at_sign}
use Rattle.css_text.specs.Bytes.{past_byte, starts}
use Rattle.css_syntax.specs.Tokens.{past_gap, past_word}
use Rattle.css_syntax.specs.Parts.{parts}
use Rattle.css_syntax.specs.Statements.{at_rule_ends, rule_set_ends, begins_at_rule}

-- from the contents on, where a block follows a prelude: after its brace and blanks; else all
abbrev pub contents_after : List ℕ → List ℕ
contents_after rest =
    if starts open_brace rest then past_gap (past_byte open_brace rest) else rest

-- from the prelude of an at-rule on, after its name and blanks
abbrev pub at_rule_prelude : List ℕ → List ℕ
at_rule_prelude text = past_gap (past_word (past_byte at_sign text))

-- from the contents of the block of an at-rule on
abbrev pub at_rule_contents : Bool → List ℕ → List ℕ
at_rule_contents in_block text =
    contents_after (parts (at_rule_ends in_block) (at_rule_prelude text)).1

-- the same of a statement
abbrev pub statement_contents : Bool → List ℕ → List ℕ
statement_contents in_block text =
    if begins_at_rule text then at_rule_contents in_block text
    else contents_after (parts (rule_set_ends in_block) text).1

-- the same of an item of a list of declarations, if it is an at-rule; else from the item on
abbrev pub item_contents : Bool → List ℕ → List ℕ
item_contents in_block text =
    if begins_at_rule text then at_rule_contents in_block text else text

-- from the value of a declaration on, after its name, a colon and blanks
abbrev pub declaration_value : List ℕ → List ℕ
declaration_value text = past_gap (past_byte colon (past_gap (past_word text)))
