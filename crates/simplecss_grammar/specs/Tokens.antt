-- The tokens of a selector.
use Rattle.std.specs.Prelude.{ℕ, List, [], ◌∷◌}
use Rattle.simplecss_grammar.specs.Components.{Operator}
use Rattle.simplecss_grammar.specs.Components.Operator.{exists, equals, has_word, begins_with}

-- a token, with the texts of its names and values
pub data Token : Type 0 where
  universal_selector : Token
  type_selector : List ℕ → Token
  id_selector : List ℕ → Token
  class_selector : List ℕ → Token
  attribute_selector : List ℕ → Operator → Token
  named_pseudo_class : List ℕ → Token
  lang_pseudo_class : List ℕ → Token
  descendant_combinator : Token
  child_combinator : Token
  adjacent_combinator : Token

-- the value of an operator, if it has one
abbrev pub operator_texts : Operator → List (List ℕ)
operator_texts exists = []
operator_texts (equals value) = value ∷ []
operator_texts (has_word value) = value ∷ []
operator_texts (begins_with value) = value ∷ []

-- the names and values of a token, in their order
abbrev pub token_texts : Token → List (List ℕ)
token_texts universal_selector = []
token_texts (type_selector n) = n ∷ []
token_texts (id_selector n) = n ∷ []
token_texts (class_selector n) = n ∷ []
token_texts (attribute_selector n operator) = n ∷ operator_texts operator
token_texts (named_pseudo_class n) = n ∷ []
token_texts (lang_pseudo_class value) = value ∷ []
token_texts descendant_combinator = []
token_texts child_combinator = []
token_texts adjacent_combinator = []
