-- How many declarations the rules of a text hold.
use Rattle.std.specs.Prelude.{ℕ, List, length}
use Rattle.std.specs.List.{sum_by}
use Rattle.css_text.specs.Characters.{Edition}
use Rattle.simplecss_grammar.specs.Statements.{StyleRule, kept}

-- The number of declarations of all rules. The rules of one rule set have the same declarations,
-- which count once for each of them.
abbrev pub declaration_count : List StyleRule → ℕ
declaration_count rules = sum_by (λ rule. length rule.declarations) rules

-- the number of declarations of all rules that reading a text keeps
unfoldable pub kept_declarations : Edition → List ℕ → ℕ
kept_declarations edition text = declaration_count (kept edition text)

-- the number of declarations of all rules that reading texts keeps
abbrev pub kept_in_all : Edition → List (List ℕ) → ℕ
kept_in_all edition texts = sum_by (kept_declarations edition) texts
