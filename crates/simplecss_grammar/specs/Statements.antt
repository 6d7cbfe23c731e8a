-- Rule sets, at-rules, and the rules of a text.
use Rattle.std.specs.Prelude.{ℕ, Bool, not, ◌||◌, ◌==◌, if◌then◌else◌, List, [], ◌∷◌, ◌++◌, length, map, filter, Option, Some, None}
use Rattle.std.specs.List.{filter_map, flat_map}
use Rattle.css_text.specs.AsciiBytes.{comma, semicolon, at_sign, open_brace, close_brace}
use Rattle.css_text.specs.Reading.{Reading, got, fails, each}
use Rattle.css_text.specs.Bytes.{past_one, starts, is_neither, past, past_byte}
use Rattle.css_text.specs.Characters.{Edition, is_space}
use Rattle.css_text.specs.Comments.{opens_comment, past_blank}
use Rattle.css_text.specs.Names.{name}
use Rattle.simplecss_grammar.specs.Components.{Component}
use Rattle.simplecss_grammar.specs.Selectors.{reads}
use Rattle.simplecss_grammar.specs.Declarations.{StyleDeclaration}
use Rattle.simplecss_grammar.specs.Blocks.{block, from_block_end}

-- A rule of a sheet: the components of its selector, and its declarations.
pub record StyleRule : Type 0 where
  pub components : List Component
  pub declarations : List StyleDeclaration

-- A part of a rule set: its selector, if one is accepted, and the rest after it and the space bytes
-- that follow.
unfoldable pub part : Edition → List ℕ → Option (List Component) × List ℕ
part edition text = ((reads edition text).0, past is_space (reads edition text).1)

-- a part before a comma, and the rest after the comma
abbrev pub part_and_comma : Edition → List ℕ → Option (Option (List Component) × List ℕ)
part_and_comma edition text =
    if starts comma (part edition text).1
    then Some ((part edition text).0, past_one (part edition text).1)
    else None

-- The selectors of the parts, with a comma after each but the last, and the rest after it.
unfoldable pub parts : Edition → List ℕ → List (List Component) × List ℕ
parts edition text =
    let listed = each (part_and_comma edition) text in
    let last = part edition listed.1 in
    (filter_map (λ selector. selector) (listed.0 ++ last.0 ∷ []), last.1)

-- The declarations of the block that the next opening brace begins, and the rest after it. Without
-- a brace there are no declarations, and nothing is left.
unfoldable pub next_block : Edition → List ℕ → List StyleDeclaration × List ℕ
next_block edition text =
    let opened = past (λ b. not (b == open_brace)) text in
    if starts open_brace opened then block edition (past_one opened) else ([], [])

-- A rule set: an optional comma, the parts, and the block. Each part with a selector is a rule with
-- all declarations. (In CSS 2.1, section 4.1.7, one part that is refused drops the whole rule set.)
unfoldable pub rule_set : Edition → List ℕ → List StyleRule × List ℕ
rule_set edition text =
    let head = parts edition (past_byte comma text) in
    let body = next_block edition head.1 in
    (map (λ selector. record { components = selector; declarations = body.0 }) head.0, body.1)

-- the rest after a semicolon, or after a block and its closing brace
abbrev pub past_semicolon_or_block : List ℕ → List ℕ
past_semicolon_or_block text =
    if starts open_brace text then past_byte close_brace (from_block_end (past_one text))
    else past_byte semicolon text

-- After the name of an at-rule everything is skipped up to a semicolon or a block. Without a name
-- the at-rule ends where the fault leaves reading.
abbrev pub at_rule_rest_by_name : Reading (List ℕ) → List ℕ
at_rule_rest_by_name (got n rest) =
    past_semicolon_or_block (past (is_neither semicolon open_brace) rest)
at_rule_rest_by_name (fails fault rest) = rest

-- the rest after an at-rule, from after its sign
unfoldable pub at_rule_rest : Edition → List ℕ → List ℕ
at_rule_rest edition text = at_rule_rest_by_name (name edition text)

-- a statement: its rules, and the rest after it
unfoldable pub statement : Edition → List ℕ → List StyleRule × List ℕ
statement edition text =
    if starts at_sign text then ([], at_rule_rest edition (past_one text))
    else rule_set edition text

-- after a blank: the text ends, or a comment is open
abbrev pub ends_statements : List ℕ → Bool
ends_statements text = length text == 0 || opens_comment text

-- a blank and a statement, if the statements continue
abbrev pub next_statement : Edition → List ℕ → Option (List StyleRule × List ℕ)
next_statement edition text =
    if ends_statements (past_blank text) then None else Some (statement edition (past_blank text))

-- the rules of each statement of a text, in order
unfoldable pub statements : Edition → List ℕ → List (List StyleRule)
statements edition text = (each (next_statement edition) text).0

-- the rule has a declaration
abbrev pub has_declaration : StyleRule → Bool
has_declaration rule = not (length rule.declarations == 0)

-- the rules of all statements of a text that have a declaration, in order
abbrev pub kept : Edition → List ℕ → List StyleRule
kept edition text = filter has_declaration (flat_map (λ rules. rules) (statements edition text))

-- the text is a blank and then a comment that is not closed
abbrev pub is_open_comment : List ℕ → Bool
is_open_comment text = opens_comment (past_blank text)
