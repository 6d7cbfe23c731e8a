-- Laws of what is skipped: of a text that is cut where a statement ends, and of a printed sheet.
use Rattle.std.specs.Prelude.{◌≡◌, ℕ, true, List, [], ◌∷◌, ◌++◌, if◌then◌else◌, take, drop, map, Option, None}
use Rattle.css_text.specs.Characters.{Edition}
use Rattle.simplecss_grammar.specs.Statements.{StyleRule}
use Rattle.simplecss_grammar.specs.Sheets.{sheet}
use Rattle.simplecss_grammar.specs.Printing.{sheet_text}
use Rattle.simplecss_grammar.specs.PrintingLaws.{are_clean, is_hyphen_name}
use Rattle.simplecss_grammar.specs.Skipped.{Refusal, faulty, unknown_class, Why, leading_comma, refused_selector, after_selector, missing_block, broken_declaration, open_value, extra_brace, open_comment, at_rule, Skip, skipped}

-- the refusal, where `more` follows the text
abbrev pub refusal_before : (more : List ℕ) → Refusal → Refusal
refusal_before more (faulty within error) = faulty (within ++ more) error
refusal_before more (unknown_class name) = unknown_class name

-- The name of an at-rule, where `more` follows the text. A single hyphen is a name only if it ends
-- the text.
abbrev pub name_before : (more : List ℕ) → Option (List ℕ) → Option (List ℕ)
name_before [] name = name
name_before (b ∷ more) name = if is_hyphen_name name then None else name

-- the reason, where `more` follows the text
abbrev pub why_before : (more : List ℕ) → Why → Why
why_before more (refused_selector r) = refused_selector (refusal_before more r)
why_before more (at_rule name) = at_rule (name_before more name)
why_before more leading_comma = leading_comma
why_before more after_selector = after_selector
why_before more missing_block = missing_block
why_before more broken_declaration = broken_declaration
why_before more open_value = open_value
why_before more extra_brace = extra_brace
why_before more open_comment = open_comment

-- What is skipped of a text, where `more` follows the text: it begins and ends at the same offsets.
abbrev pub skip_before : (more : List ℕ) → Skip → Skip
skip_before more s =
    record { from = s.from ++ more; after = s.after ++ more; why = why_before more s.why }

-- What is skipped of the text is what is skipped of what precedes the offset, followed by what is
-- skipped of what follows it.
abbrev pub SkipsAcross : Edition → List ℕ → ℕ → Type 0
SkipsAcross edition text offset =
    skipped edition text
    ≡ map (skip_before (drop offset text)) (skipped edition (take offset text))
    ++ skipped edition (drop offset text)

-- If all selectors are clean, a new sheet that reads the printed rules has these rules, in their
-- order, and nothing of the printed text is skipped.
pub record PrintsWhole (edition : Edition) (rules : List StyleRule) : Type 0 where
  pub same : are_clean rules ≡ true → sheet edition (sheet_text rules ∷ []) ≡ rules
  pub nothing : are_clean rules ≡ true → skipped edition (sheet_text rules) ≡ []
