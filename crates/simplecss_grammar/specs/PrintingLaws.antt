-- Laws of printing: what reading a printed text returns.
use Rattle.std.specs.Prelude.{◌≡◌, ◌↔◌, ℕ, Bool, true, false, ◌&&◌, ◌==◌, nat_le, List, [], ◌∷◌, ◌++◌, length, bytes_eq, codes, chars, IsUtf8, Option, None, Some}
use Rattle.std.specs.Char.{is_whitespace}
use Rattle.std.specs.List.{All, list_any, list_all}
use Rattle.css_text.specs.AsciiBytes.{semicolon}
use Rattle.css_text.specs.Reading.{got}
use Rattle.css_text.specs.Bytes.{starts}
use Rattle.css_text.specs.Characters.{Edition}
use Rattle.css_text.specs.Comments.{opens_comment, past_blank}
use Rattle.simplecss_grammar.specs.Components.{Component}
use Rattle.simplecss_grammar.specs.Selectors.{reads}
use Rattle.simplecss_grammar.specs.Declarations.{StyleDeclaration, declaration}
use Rattle.simplecss_grammar.specs.Statements.{StyleRule, statement}
use Rattle.simplecss_grammar.specs.Sheets.{sheet}
use Rattle.simplecss_grammar.specs.Printing.{selector_text, declaration_text, rule_text, sheet_text, is_clean}

-- Printed and read again, the selector is itself, with nothing left, exactly if it is clean.
abbrev pub ReadsBack : Edition → List Component → Type 0
ReadsBack edition s = (reads edition (selector_text s) ≡ (Some s, [])) ↔ (is_clean s ≡ true)

-- Printed before a space and a block, and read again, the selector is itself, with the opening
-- brace and what follows it left, exactly if it is clean. This holds whatever follows the brace.
abbrev pub ReadsBackBeforeBlock : Edition → List Component → Type 0
ReadsBackBeforeBlock edition s =
    (text : List ℕ)
    → (reads edition (selector_text s ++ (codes " {" ++ text)) ≡ (Some s, codes "{" ++ text))
    ↔ (is_clean s ≡ true)

-- the type name is a single hyphen
abbrev pub is_hyphen_name : Option (List ℕ) → Bool
is_hyphen_name None = false
is_hyphen_name (Some name) = bytes_eq name (codes "-")

-- The type name of the last component is a single hyphen. A single hyphen is a name only if it ends
-- the text, so before a block it is not read.
abbrev pub ends_in_hyphen : List Component → Bool
ends_in_hyphen [] = false
ends_in_hyphen (c ∷ []) = is_hyphen_name c.compound.name && length c.compound.subselectors == 0
ends_in_hyphen (c ∷ d ∷ components) = ends_in_hyphen (d ∷ components)

-- The law of a selector that was read: printed, it reads back as a whole text, and before a block
-- unless it ends in a single hyphen.
pub record SelectorReadsBack (edition : Edition) (s : List Component) : Type 0 where
  pub alone : ReadsBack edition s
  pub before_block : ends_in_hyphen s ≡ false → ReadsBackBeforeBlock edition s

-- Of selectors that read back, two clean ones have the same printed text exactly if they are equal.
abbrev pub PrintAlikeIfEqual : Edition → List Component → List Component → Type 0
PrintAlikeIfEqual edition s t =
    ReadsBack edition s → ReadsBack edition t → is_clean s ≡ true → is_clean t ≡ true
    → (selector_text s ≡ selector_text t) ↔ (s ≡ t)

-- The selector of each rule reads back, and none ends in a single hyphen, since a block followed
-- it.
pub record SelectorsReadBack (edition : Edition) (rules : List StyleRule) : Type 0 where
  pub each_selector : All (λ rule. SelectorReadsBack edition rule.components) rules
  pub no_hyphen : All (λ rule. ends_in_hyphen rule.components ≡ false) rules

-- white space past ASCII, such as the no-break space or the ideographic space
abbrev pub is_wide_space : ℕ → Bool
is_wide_space c = nat_le 128 c && is_whitespace c

-- The text has white space past ASCII. A name may have some of it, such as the ideographic space,
-- yet it is trimmed off the ends of a value. So a value that had it there may print as the text of
-- another value, or of none.
abbrev pub has_wide_space : List ℕ → Bool
has_wide_space text = list_any is_wide_space (chars text)

-- a text in UTF-8 without white space past ASCII
abbrev pub IsNarrow : List ℕ → Type 0
IsNarrow text = IsUtf8 text × (has_wide_space text ≡ false)

-- Printed before a text and read again, the declaration is itself, and the blank at the start of
-- that text is skipped, if no semicolon and no open comment follow that blank. So before a name the
-- rest begins at that name, and before ` }` at the brace.
abbrev pub DeclarationReadsBack : Edition → StyleDeclaration → Type 0
DeclarationReadsBack edition p =
    (text : List ℕ) → opens_comment (past_blank text) ≡ false
    → starts semicolon (past_blank text) ≡ false
    → declaration edition (declaration_text p ++ text) ≡ got p (past_blank text)

-- Printed before any text, the rule is one statement, which has this rule only and leaves that
-- text.
abbrev pub RuleReadsBack : Edition → StyleRule → Type 0
RuleReadsBack edition rule =
    (text : List ℕ) → statement edition (rule_text rule ++ text) ≡ (rule ∷ [], text)

-- the selectors of all the rules are clean
abbrev pub are_clean : List StyleRule → Bool
are_clean rules = list_all (λ rule. is_clean rule.components) rules

-- The declarations of the rules read back, and so do the rules whose selectors are clean. If all
-- selectors are clean, a new sheet that reads the printed rules has these rules, in their order.
pub record PrintsBack (edition : Edition) (rules : List StyleRule) : Type 0 where
  pub declarations : All (λ rule. All (DeclarationReadsBack edition) rule.declarations) rules
  pub each_rule : All (λ rule. is_clean rule.components ≡ true → RuleReadsBack edition rule) rules
  pub whole : are_clean rules ≡ true → sheet edition (sheet_text rules ∷ []) ≡ rules

-- A sheet had the rules `old`, then read `text`, and now has the rules `new`. If `old` are the
-- rules of texts without white space past ASCII, and `text` is such a text too, then `new` prints
-- back.
abbrev pub PrintsBackAfter :
    Edition → (old : List StyleRule) → (text : List ℕ) → (new : List StyleRule) → Type 0
PrintsBackAfter edition old text new =
    (texts : List (List ℕ)) → All IsNarrow texts → IsNarrow text → old ≡ sheet edition texts
    → PrintsBack edition new
