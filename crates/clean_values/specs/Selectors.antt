-- Selectors, with a prefix of ids and classes.
use Rattle.std.specs.Prelude.{ℕ, Bool, true, false, not, ◌||◌, ◌&&◌, ◌==◌, if◌then◌else◌, length, List, [], ◌∷◌, codes, Option, Some, None}
use Rattle.css_text.specs.Bytes.{starts}
use Rattle.css_syntax.specs.TokenLists.{PlacedToken, tokens}
use Rattle.css_syntax.specs.TokenViews.{text_of}
use Rattle.css_syntax.specs.declared.tokenizer.TokenKind.{TokenKind}
use Rattle.css_syntax.specs.declared.tokenizer.TokenKind.TheVariants as kinds
use Rattle.clean_values.specs.Values.{inside_of, PieceText, same_piece, name_piece, if_text, then_written}
use Rattle.clean_values.specs.Checks.{begins_with}

-- a full stop, after which the name of a class follows
abbrev pub is_stop_by : TokenKind → (from : List ℕ) → Bool
is_stop_by kinds.Delim from = starts 46 from
is_stop_by _ from = false

abbrev pub is_stop : PlacedToken → Bool
is_stop token = is_stop_by token.kind token.from

-- ---- with the prefix

-- an id with the prefix
abbrev pub id_piece : (prefix name : List ℕ) → PieceText
id_piece prefix name = record { opened = codes "#"; prefix = prefix; text = name; closed = [] }

-- a name, which is that of a class after a full stop
abbrev pub class_piece : (prefix : List ℕ) → (stop : Bool) → List ℕ → PieceText
class_piece prefix stop name = if stop then name_piece prefix name else same_piece name

-- what is written of a token of this kind
abbrev pub named_by :
    (prefix : List ℕ) → (stop : Bool) → TokenKind → (inside text : List ℕ) → Option PieceText
named_by prefix stop kinds.Hash inside text = if_text (id_piece prefix) inside
named_by prefix stop kinds.IdHash inside text = if_text (id_piece prefix) inside
named_by prefix stop kinds.Ident inside text = if_text (class_piece prefix stop) text
named_by prefix stop _ inside text = if_text same_piece text

-- the tokens, one after another
abbrev pub named_tokens : (prefix : List ℕ) → (stop : Bool) → List PlacedToken → Option (List ℕ)
named_tokens prefix stop [] = Some []
named_tokens prefix stop (token ∷ more) =
    then_written (named_by prefix stop token.kind (inside_of token) (text_of token))
    (named_tokens prefix (is_stop token) more)

-- A selector in which each id and each class has the prefix.
abbrev pub named_selector : (prefix text : List ℕ) → Option (List ℕ)
named_selector prefix text =
    if length prefix == 0 then Some text else named_tokens prefix false (tokens text)

-- ---- whether names have it

abbrev pub is_named_by : (prefix : List ℕ) → (stop : Bool) → TokenKind → (inside : List ℕ) → Bool
is_named_by prefix stop kinds.Hash inside = begins_with prefix inside
is_named_by prefix stop kinds.IdHash inside = begins_with prefix inside
is_named_by prefix stop kinds.Ident inside = not stop || begins_with prefix inside
is_named_by prefix stop _ inside = true

abbrev pub are_named : (prefix : List ℕ) → (stop : Bool) → List PlacedToken → Bool
are_named prefix stop [] = true
are_named prefix stop (token ∷ more) =
    is_named_by prefix stop token.kind (inside_of token) && are_named prefix (is_stop token) more

-- Each id and each class of a selector begins with the prefix.
abbrev pub is_selector_named : (prefix text : List ℕ) → Bool
is_selector_named prefix text = length prefix == 0 || are_named prefix false (tokens text)
