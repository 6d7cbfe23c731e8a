-- What the calls of the port write of rules, of declarations and of what is skipped: each text after a line
-- with its length.
use Rattle.std.specs.Prelude.{ℕ, List, [], ◌∷◌, ◌++◌, length, map, decimal}
use Rattle.std.specs.List.{flat_map, join_with_byte}
use Rattle.simplecss.specs.AsciiBytes.{newline, space}
use Rattle.simplecss.specs.Declarations.{StyleDeclaration}
use Rattle.simplecss.specs.Errors.{position_of}
use Rattle.simplecss.specs.Printing.{selector_text}
use Rattle.simplecss.specs.Quotes.{quote}
use Rattle.simplecss.specs.Skipped.{Skip}
use Rattle.simplecss.specs.Specificity.{specificity}
use Rattle.simplecss.specs.Statements.{StyleRule}
use Rattle.simplecss.specs.Words.{why_words}
use Rattle.css_text.specs.declared.TextPos.{TextPos}
use Rattle.call_answers.specs.Numbers.{number_if}

-- a text, and a newline
abbrev pub line : List ℕ → List ℕ
line text = text ++ newline ∷ []

-- texts with a space between them, and a newline
abbrev pub line_of : List (List ℕ) → List ℕ
line_of texts = line (join_with_byte space texts)

-- The lengths of the name and of the value of a declaration, and whether it is important, on a line; and the name
-- and the value on another.
abbrev pub declaration_text : StyleDeclaration → List ℕ
declaration_text p =
    line_of (decimal (length p.name) ∷ decimal (length p.value) ∷ decimal (number_if p.important) ∷ [])
    ++ line (p.name ++ p.value)

-- those of declarations, in order
abbrev pub declaration_texts : List StyleDeclaration → List ℕ
declaration_texts declarations = flat_map declaration_text declarations

-- how many declarations there are, on a line, and their texts
abbrev pub counted_texts : List StyleDeclaration → List ℕ
counted_texts declarations =
    line (decimal (length declarations)) ++ declaration_texts declarations

-- The specificity of a rule, the length of its printed selector, and how many declarations it has, on a line;
-- the selector on another; and the texts of the declarations.
abbrev pub rule_text : StyleRule → List ℕ
rule_text rule =
    line_of (map decimal (specificity rule.components)
    ++ decimal (length (selector_text rule.components)) ∷ decimal (length rule.declarations) ∷ [])
    ++ (line (selector_text rule.components) ++ declaration_texts rule.declarations)

-- those of rules, in order
abbrev pub rule_texts : List StyleRule → List ℕ
rule_texts rules = flat_map rule_text rules

-- The row and the column where a piece of a text begins that is skipped, the length of what is quoted of it, and
-- why it is skipped, on a line; and what is quoted on another.
abbrev pub piece_text : TextPos → (quoted reason : List ℕ) → List ℕ
piece_text pos quoted reason =
    line_of (decimal pos.row ∷ decimal pos.col ∷ decimal (length quoted) ∷ reason ∷ [])
    ++ line quoted

abbrev pub skipped_text : (text : List ℕ) → Skip → List ℕ
skipped_text text skip = piece_text (position_of text skip.from) (quote skip) (why_words skip.why)

-- those of all that is skipped of a text, in order
abbrev pub skipped_texts : (text : List ℕ) → List Skip → List ℕ
skipped_texts text skips = flat_map (skipped_text text) skips
