-- The tokens of a text and the names in selectors, as numbers.
use Rattle.std.specs.Prelude.{◌≡◌, ℕ, List, [], ◌∷◌, ◌++◌, length, Result, Ok, Err}
use Rattle.std.specs.List.{flat_map}
use Rattle.std.specs.Str.{IsUtf8}
use Rattle.css_text.specs.Bytes.{past_one}
use Rattle.css_syntax.specs.declared.tokenizer.TokenKind.{TokenKind}
use Rattle.css_syntax.specs.declared.tokenizer.TokenKind.TheVariants as kinds
use Rattle.css_syntax.specs.declared.names.NameKind.{NameKind}
use Rattle.css_syntax.specs.declared.names.NameKind.TheVariants as named
use Rattle.css_syntax.specs.TokenLists.{PlacedToken, tokens}
use Rattle.css_syntax.specs.NameLists.{PlacedName, names}
use Rattle.call_answers.specs.declared.answer.CallError.{CallError}
use Rattle.call_answers.specs.Calls.{FailsFor, HasTexts, HasBadEnds, IsBrokenUtf8}
use Rattle.call_answers.specs.Numbers.{offset}

-- the number of a kind of tokens
abbrev pub kind_number : TokenKind → ℕ
kind_number kinds.Whitespace = 0
kind_number kinds.Comment = 1
kind_number kinds.Ident = 2
kind_number kinds.Function = 3
kind_number kinds.AtKeyword = 4
kind_number kinds.Hash = 5
kind_number kinds.IdHash = 6
kind_number kinds.String = 7
kind_number kinds.BadString = 8
kind_number kinds.Url = 9
kind_number kinds.BadUrl = 10
kind_number kinds.Number = 11
kind_number kinds.Percentage = 12
kind_number kinds.Dimension = 13
kind_number kinds.Cdo = 14
kind_number kinds.Cdc = 15
kind_number kinds.Delim = 16

-- the number of a kind of names
abbrev pub name_number : NameKind → ℕ
name_number named.Type = 0
name_number named.Class = 1
name_number named.Id = 2
name_number named.Attribute = 3
name_number named.PseudoClass = 4
name_number named.PseudoClassFunction = 5
name_number named.PseudoElement = 6
name_number named.PseudoElementFunction = 7
name_number named.Namespace = 8
name_number named.Close = 9

-- of a token: its kind, where it begins and ends, and where what is in it does
abbrev pub token_numbers : (end : ℕ) → PlacedToken → List ℕ
token_numbers end t =
    kind_number t.kind ∷ offset end t.from ∷ offset end t.rest ∷ offset end t.inside
    ∷ offset end t.inside_end ∷ []

-- of a name: its kind, where its sign, the name and what follows it begin, its depth, and that in a
-- `:not()`
abbrev pub name_numbers : (end : ℕ) → PlacedName → List ℕ
name_numbers end n =
    name_number n.kind ∷ offset end n.from ∷ offset end n.name ∷ offset end n.rest ∷ n.depth
    ∷ n.negated ∷ []

-- of the names in a text that ends at this offset
abbrev pub names_numbers : (end : ℕ) → List ℕ → List ℕ
names_numbers end text = flat_map (name_numbers end) (names text)

-- the first of some ends, if there is one
abbrev pub first_end : List ℕ → ℕ
first_end [] = 0
first_end (end ∷ ends) = end

-- of the names in texts that end at these offsets, one for each
abbrev pub texts_numbers : List (List ℕ) → (ends : List ℕ) → List ℕ
texts_numbers [] ends = []
texts_numbers (text ∷ texts) ends =
    names_numbers (first_end ends) text ++ texts_numbers texts (past_one ends)

-- five numbers of each token of the text
abbrev pub IsTokensCall : List ℕ → Result (List ℕ) CallError → Type 0
IsTokensCall text (Ok numbers) =
    IsUtf8 text × (numbers ≡ flat_map (token_numbers (length text)) (tokens text))
IsTokensCall text (Err failure) = FailsFor ⊥ (λ fault. ⊥) (¬ (IsUtf8 text)) failure

-- six numbers of each name in the texts of a buffer
abbrev pub IsNamesCall : List ℕ → List ℕ → Result (List ℕ) CallError → Type 0
IsNamesCall buffer ends (Ok numbers) =
    (texts : List (List ℕ)) × HasTexts buffer ends texts × (numbers ≡ texts_numbers texts ends)
IsNamesCall buffer ends (Err failure) =
    FailsFor (HasBadEnds buffer ends) (λ fault. ⊥) (IsBrokenUtf8 buffer ends) failure
