-- What contracts see of the tokens and errors that a tokenizer yields.
use Rattle.std.specs.Prelude.{ℕ, List, [], Option, None, Some, Result, Ok, Err}
use Rattle.css_text.specs.declared.error.Error.{Error}
use Rattle.simplecss_grammar.specs.Tokens.{Token, token_texts}
use Rattle.simplecss_grammar.specs.Tokens.Token.{universal_selector, type_selector, id_selector, class_selector, attribute_selector, named_pseudo_class, lang_pseudo_class, descendant_combinator, child_combinator, adjacent_combinator}
use Rattle.simplecss_selector.specs.declared.token.SelectorToken.{SelectorToken}
use Rattle.simplecss_selector.specs.declared.token.SelectorToken.TheVariants.{UniversalSelector, TypeSelector, ClassSelector, IdSelector, AttributeSelector, PseudoClass, LangPseudoClass, DescendantCombinator, ChildCombinator, AdjacentCombinator}
use Rattle.simplecss_selector.specs.OperatorViews.{operator_of}

-- a token, wherever its texts are stored
abbrev pub token_of : SelectorToken → Token
token_of UniversalSelector = universal_selector
token_of (TypeSelector n) = type_selector n.now
token_of (ClassSelector n) = class_selector n.now
token_of (IdSelector n) = id_selector n.now
token_of (AttributeSelector n operator) = attribute_selector n.now (operator_of operator)
token_of (PseudoClass n) = named_pseudo_class n.now
token_of (LangPseudoClass value) = lang_pseudo_class value.now
token_of DescendantCombinator = descendant_combinator
token_of ChildCombinator = child_combinator
token_of AdjacentCombinator = adjacent_combinator

-- what the definitions see of an item
abbrev pub item_view : Result SelectorToken Error → Result Token Error
item_view (Ok token) = Ok (token_of token)
item_view (Err error) = Err error

-- the names and values in what a call of a tokenizer returns
abbrev pub given_texts : Option (Result SelectorToken Error) → List (List ℕ)
given_texts None = []
given_texts (Some (Ok token)) = token_texts (token_of token)
given_texts (Some (Err error)) = []
