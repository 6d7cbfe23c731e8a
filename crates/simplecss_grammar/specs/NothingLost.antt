-- Nothing is lost: every byte of a text belongs to a blank, to a comma or a brace, to a selector or
-- a declaration that is read, or to something that is skipped.
use Rattle.std.specs.Prelude.{◌≡◌, ℕ, Bool, true, ◌==◌, ◌||◌, List, [], ◌∷◌, ◌++◌, map, Some}
use Rattle.css_text.specs.AsciiBytes.{comma, open_brace, close_brace}
use Rattle.css_text.specs.Reading.{got}
use Rattle.css_text.specs.Characters.{Edition}
use Rattle.simplecss_grammar.specs.Blanks.{IsBlank}
use Rattle.simplecss_grammar.specs.Components.{Component}
use Rattle.simplecss_grammar.specs.Selectors.{reads}
use Rattle.simplecss_grammar.specs.Declarations.{StyleDeclaration, declaration}
use Rattle.simplecss_grammar.specs.Statements.{StyleRule, statements}
use Rattle.simplecss_grammar.specs.Skipped.{Why, open_value, Skip, skipped}

-- a comma or a brace
abbrev pub is_mark : ℕ → Bool
is_mark b = b == comma || b == open_brace || b == close_brace

-- The text up to the rest `end` is cut into pieces, one after another: blanks, commas and braces,
-- selectors and declarations that are read, and what is skipped. The lists are its selectors, its
-- declarations and what is skipped of it, in order.
pub data IsCutUp (edition : Edition) (end : List ℕ) :
    List ℕ → List (List Component) → List StyleDeclaration → List Skip → Type 0 where
  -- nothing more
  cut_ends : IsCutUp edition end end [] [] []
  -- a blank, and then more
  blank_then : (front text : List ℕ) (selectors : List (List Component))
      (declared : List StyleDeclaration) (skips : List Skip) → IsBlank front
      → IsCutUp edition end text selectors declared skips
      → IsCutUp edition end (front ++ text) selectors declared skips
  -- a comma or a brace, and then more
  mark_then : (mark : ℕ) (text : List ℕ) (selectors : List (List Component))
      (declared : List StyleDeclaration) (skips : List Skip) → is_mark mark ≡ true
      → IsCutUp edition end text selectors declared skips
      → IsCutUp edition end (mark ∷ text) selectors declared skips
  -- a selector that is read, and then more
  selector_then : (front text : List ℕ) (selector : List Component)
      (selectors : List (List Component)) (declared : List StyleDeclaration) (skips : List Skip)
      → reads edition (front ++ text) ≡ (Some selector, text)
      → IsCutUp edition end text selectors declared skips
      → IsCutUp edition end (front ++ text) (selector ∷ selectors) declared skips
  -- a declaration that is read, and then more
  declaration_then : (front text : List ℕ) (one : StyleDeclaration)
      (selectors : List (List Component)) (declared : List StyleDeclaration) (skips : List Skip)
      → declaration edition (front ++ text) ≡ got one text
      → IsCutUp edition end text selectors declared skips
      → IsCutUp edition end (front ++ text) selectors (one ∷ declared) skips
  -- a declaration that is read, up to a string or a function of its value that is not closed, which
  -- is skipped with all that follows it
  open_declaration_then : (front text : List ℕ) (one : StyleDeclaration)
      (selectors : List (List Component)) (declared : List StyleDeclaration) (skips : List Skip)
      → declaration edition (front ++ text) ≡ got one []
      → IsCutUp edition end [] selectors declared skips
      → IsCutUp edition end (front ++ text) selectors (one ∷ declared)
      (record { from = text; after = []; why = open_value } ∷ skips)
  -- something that is skipped, and then more
  skip_then : (front text : List ℕ) (why : Why) (selectors : List (List Component))
      (declared : List StyleDeclaration) (skips : List Skip)
      → IsCutUp edition end text selectors declared skips
      → IsCutUp edition end (front ++ text) selectors declared
      (record { from = front ++ text; after = text; why = why } ∷ skips)

-- the rules of a statement: each selector is one, with all the declarations
abbrev pub rules_from : List (List Component) → List StyleDeclaration → List StyleRule
rules_from selectors declared =
    map (λ selector. record { components = selector; declarations = declared }) selectors

-- A statement without a selector has something skipped: it is an at-rule, or a rule set whose
-- selectors are refused, and then its declarations are in no rule.
abbrev pub IsExplained : List (List Component) → List Skip → Type 0
IsExplained [] [] = ⊥
IsExplained [] (x ∷ skips) = Unit {0}
IsExplained (selector ∷ selectors) skips = Unit {0}

-- The text is cut into statements, each of which is cut into pieces and has the rules that its
-- selectors and its declarations make. The lists are the rules of each statement and what is
-- skipped of all, in order. After the last statement no rule follows.
pub data IsAccountedFor (edition : Edition) :
    List ℕ → List (List StyleRule) → List Skip → Type 0 where
  statements_end : (text : List ℕ) (skips : List Skip) → IsCutUp edition [] text [] [] skips
      → IsAccountedFor edition text [] skips
  statement_then : (text rest : List ℕ) (selectors : List (List Component))
      (declared : List StyleDeclaration) (skips later : List Skip) (rules : List (List StyleRule))
      → IsCutUp edition rest text selectors declared skips → IsExplained selectors skips
      → IsAccountedFor edition rest rules later
      → IsAccountedFor edition text (rules_from selectors declared ∷ rules) (skips ++ later)

-- Every byte of the text is accounted for: all but blanks, commas and braces is a selector or a
-- declaration that is read, or it is skipped. A declaration of a block that is not read is within
-- something skipped, and one that is read is in each rule of its rule set, or all its selectors are
-- refused and skipped. So of a text that skips nothing all is read and is among the rules. (A sheet
-- keeps the rules that have a declaration: that of `a{}` it does not. What a declaration is read
-- from may have more than its name and its value: an asterisk before the name, and after the value
-- an exclamation mark without `important`.)
abbrev pub LosesNothing : Edition → List ℕ → Type 0
LosesNothing edition text =
    IsAccountedFor edition text (statements edition text) (skipped edition text)
