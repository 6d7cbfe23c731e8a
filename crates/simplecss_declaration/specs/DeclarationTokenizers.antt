-- What a tokenizer of declarations is still to yield.
use Rattle.std.specs.Prelude.{◌≡◌, ℕ, ◌≤◌, List, [], ◌∷◌, length, Option, None, Some}
use Rattle.std.specs.Iterator.{YieldsFirstBy}
use Rattle.std.specs.Iterator.Runs.{EveryRun, ItemsMapTo}
use Rattle.css_text.specs.Slices.{OccurBetween}
use Rattle.css_text.specs.Cursor.{text_of, rest_of, offset_of}
use Rattle.css_text.specs.ThisEdition.{this_edition}
use Rattle.simplecss_grammar.specs.Declarations.{StyleDeclaration, next_declaration, declarations}
use Rattle.simplecss_declaration.specs.declared.declarations.Declaration.{Declaration}
use Rattle.simplecss_declaration.specs.declared.tokenizer.DeclarationTokenizer.{DeclarationTokenizer}
use Rattle.simplecss_declaration.specs.DeclarationViews.{declaration_of}

-- the whole text
abbrev pub whole_text : DeclarationTokenizer → List ℕ
whole_text t = text_of t.stream

-- how many bytes of it have been read
abbrev pub offset_in : DeclarationTokenizer → ℕ
offset_in t = offset_of t.stream

-- what is left to read
abbrev pub left_of : DeclarationTokenizer → List ℕ
left_of t = rest_of t.stream

-- the declarations that are still to come
abbrev pub still_to_come : DeclarationTokenizer → List StyleDeclaration
still_to_come t = declarations this_edition (left_of t)

-- A call read the declaration at the start of a text and left `left`, or there was none, and then
-- nothing is left.
abbrev pub GivesNext : List ℕ → Option Declaration → (left : List ℕ) → Type 0
GivesNext text None left = (next_declaration this_edition text ≡ None) × (left ≡ [])
GivesNext text (Some d) left = next_declaration this_edition text ≡ Some (declaration_of d, left)

-- the name and the value of a declaration, if one is returned
abbrev pub given_texts : Option Declaration → List (List ℕ)
given_texts None = []
given_texts (Some d) = d.name.now ∷ d.value.now ∷ []

-- A call of `next` on the tokenizer `before` returned `result` and left the tokenizer `after`.
pub record GivesDeclaration (before : DeclarationTokenizer) (result : Option Declaration)
    (after : DeclarationTokenizer) : Type 0 where
  -- the first of the declarations that were to come, and the others still are; or none was to
  -- come, and none is
  pub items : YieldsFirstBy declaration_of still_to_come before result after
  -- the text is unchanged
  pub text : whole_text after ≡ whole_text before
  -- it was read from the start of the rest
  pub reads : GivesNext (left_of before) result (left_of after)
  -- its name and its value occur in what was consumed
  pub slices : OccurBetween (left_of before) (left_of after) (given_texts result)
  -- the offset does not fall
  pub forward : offset_in before ≤ offset_in after

-- What calls of `next` return, from any tokenizer on, is a prefix of the declarations that are
-- still to come there, and all of them if the calls continued to `None`.
abbrev pub GivesInTurn : Type 0
GivesInTurn =
    EveryRun GivesDeclaration (λ calls. ItemsMapTo calls declaration_of (still_to_come calls.from))

-- a tokenizer at the start of a text
pub record Begins (text : List ℕ) (t : DeclarationTokenizer) : Type 0 where
  pub whole_text_is : whole_text t ≡ text
  pub at_start : offset_in t ≡ 0
  -- the declarations of the text are still to come: at most as many as it has bytes
  pub to_come : still_to_come t ≡ declarations this_edition text
  pub few : length (still_to_come t) ≤ length text
  pub in_turn : GivesInTurn
