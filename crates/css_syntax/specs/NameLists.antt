-- The names in a list of selectors, with their places. They are defined over the tokens of a text, so
-- any text has them, be it a list of selectors or not.
use Rattle.std.specs.Prelude.{ℕ, suc, ◌-◌, Bool, true, false, not, ◌||◌, ◌&&◌, ◌==◌, nat_le, if◌then◌else◌, List, [], ◌∷◌, Option, Some, None, codes}
use Rattle.css_text.specs.AsciiBytes.{full_stop, colon, equals_sign, vertical_bar, open_parenthesis, close_parenthesis, open_bracket, close_bracket}
use Rattle.css_text.specs.Reading.{before}
use Rattle.css_text.specs.Bytes.{past_byte, starts}
use Rattle.css_syntax.specs.Tokens.{spells}
use Rattle.css_syntax.specs.TokenLists.{PlacedToken, tokens}
use Rattle.css_syntax.specs.declared.tokenizer.TokenKind.{TokenKind}
use Rattle.css_syntax.specs.declared.tokenizer.TokenKind.TheVariants as kinds
use Rattle.css_syntax.specs.declared.names.NameKind.{NameKind}
use Rattle.css_syntax.specs.declared.names.NameKind.TheVariants as sorts
use Rattle.css_syntax.specs.declared.names.Mark.{Mark}
use Rattle.css_syntax.specs.declared.names.Mark.TheVariants as marks
use Rattle.css_syntax.specs.declared.names.Bracket.{Bracket}
use Rattle.css_syntax.specs.declared.names.Role.{Role}
use Rattle.css_syntax.specs.declared.names.Role.TheVariants as roles
use Rattle.css_syntax.specs.declared.names.Bracket.TheVariants as brackets

-- A name: its kind, what is left from its sign on, as `.` or `::`, from the name on, and after it. Its
-- depth is how many parentheses are open around it; how many of them are from the first one of the
-- outermost `:not()` around it up to all is `negated`, which is 0 in no `:not()`.
pub record PlacedName : Type 0 where
  pub kind : NameKind
  pub from : List ℕ
  pub name : List ℕ
  pub rest : List ℕ
  pub depth : ℕ
  pub negated : ℕ

-- What is known between two tokens: the sign directly before, and what is left from it on; how many
-- parentheses are open, up to the first of `:not()` and to the first without selectors in it, or 0;
-- and the bracket of an attribute.
pub record Scan : Type 0 where
  pub mark : Mark
  pub from : List ℕ
  pub depth : ℕ
  pub negated : ℕ
  pub plain : ℕ
  pub bracket : Bracket

-- before the first token
abbrev pub scan_start : Scan
scan_start = record {
  mark = marks.Unmarked;
  from = [];
  depth = 0;
  negated = 0;
  plain = 0;
  bracket = brackets.Outside;
}

-- ---- names of tokens

-- what is in a token
abbrev pub word_of : PlacedToken → List ℕ
word_of t = before t.inside t.inside_end

-- in the parentheses of a function with this name is a compound selector
abbrev pub takes_compound : List ℕ → Bool
takes_compound name =
    spells (codes "host") name || spells (codes "host-context") name
    || spells (codes "slotted") name || spells (codes "cue") name

-- in the parentheses of a function with this name are selectors
abbrev pub takes_selectors : List ℕ → Bool
takes_selectors name =
    spells (codes "is") name || spells (codes "where") name || spells (codes "not") name
    || spells (codes "has") name || takes_compound name

-- the name of a token, from its sign on
abbrev pub named : NameKind → Scan → (from name rest : List ℕ) → PlacedName
named kind s from name rest = record {
  kind = kind;
  from = from;
  name = name;
  rest = rest;
  depth = s.depth;
  negated = s.negated;
}

-- a bar after a namespace: not one of `|=` or `||`
abbrev pub is_bar : List ℕ → Bool
is_bar text =
    starts vertical_bar text && not (starts equals_sign (past_byte vertical_bar text))
    && not (starts vertical_bar (past_byte vertical_bar text))

-- a namespace, if a bar follows the name, or else a name of this kind
abbrev pub kind_before : NameKind → (rest : List ℕ) → NameKind
kind_before kind rest = if is_bar rest then sorts.Namespace else kind

-- a name after no sign: a type, where selectors are
abbrev pub type_name : Scan → PlacedToken → Option PlacedName
type_name s t =
    if s.plain == 0
    then Some (named (kind_before sorts.Type t.rest) s t.from t.inside t.rest) else None

-- a name outside of the brackets of attributes, after this sign
abbrev pub signed_name : Mark → Scan → PlacedToken → Option PlacedName
signed_name marks.Unmarked s t = type_name s t
signed_name marks.Dot s t = Some (named sorts.Class s s.from t.inside t.rest)
signed_name marks.Colon s t = Some (named sorts.PseudoClass s s.from t.inside t.rest)
signed_name marks.Colons s t = Some (named sorts.PseudoElement s s.from t.inside t.rest)

-- a name and a parenthesis, after this sign
abbrev pub function_name : Mark → Scan → PlacedToken → Option PlacedName
function_name marks.Unmarked s t = None
function_name marks.Dot s t = None
function_name marks.Colon s t =
    Some (named sorts.PseudoClassFunction s s.from t.inside t.inside_end)
function_name marks.Colons s t =
    Some (named sorts.PseudoElementFunction s s.from t.inside t.inside_end)

-- ---- from token to token

-- no sign is before what follows
abbrev pub unmarked : Scan → Scan
unmarked s = record {
  mark = marks.Unmarked;
  from = [];
  depth = s.depth;
  negated = s.negated;
  plain = s.plain;
  bracket = s.bracket;
}

-- this sign is before what follows, or the same with that before it
abbrev pub marked_by : Mark → (from : List ℕ) → Scan → Scan
marked_by mark from s = record {
  mark = mark;
  from = from;
  depth = s.depth;
  negated = s.negated;
  plain = s.plain;
  bracket = s.bracket;
}

-- a colon, which is the second of two, or the first
abbrev pub colon_after : Mark → (from : List ℕ) → Scan → Scan
colon_after marks.Colon from s = marked_by marks.Colons s.from s
colon_after marks.Unmarked from s = marked_by marks.Colon from s
colon_after marks.Dot from s = marked_by marks.Colon from s
colon_after marks.Colons from s = marked_by marks.Colon from s

abbrev pub bracketed : Bracket → Scan → Scan
bracketed bracket s = record {
  mark = marks.Unmarked;
  from = [];
  depth = s.depth;
  negated = s.negated;
  plain = s.plain;
  bracket = bracket;
}

-- the number of this parenthesis, if it is the first one
abbrev pub first_of : Bool → (depth so_far : ℕ) → ℕ
first_of is depth so_far = if is && so_far == 0 then depth else so_far

-- one more parenthesis is open, that of `:not()` or not, with selectors in it or without
abbrev pub opened : (is_negation is_plain : Bool) → Scan → Scan
opened is_negation is_plain s = record {
  mark = marks.Unmarked;
  from = [];
  depth = suc s.depth;
  negated = first_of is_negation (suc s.depth) s.negated;
  plain = first_of is_plain (suc s.depth) s.plain;
  bracket = s.bracket;
}

-- the number of a parenthesis, if it is still open
abbrev pub kept_in : (depth so_far : ℕ) → ℕ
kept_in depth so_far = if nat_le so_far depth then so_far else 0

-- the last open parenthesis is closed
abbrev pub closed : Scan → Scan
closed s = record {
  mark = marks.Unmarked;
  from = [];
  depth = s.depth - 1;
  negated = kept_in (s.depth - 1) s.negated;
  plain = kept_in (s.depth - 1) s.plain;
  bracket = s.bracket;
}

-- after `of` in parentheses without selectors, as those of `:nth-child()`, are selectors
abbrev pub after_word : Scan → PlacedToken → Scan
after_word s t = record {
  mark = marks.Unmarked;
  from = [];
  depth = s.depth;
  negated = s.negated;
  plain = if s.plain == s.depth && spells (codes "of") (word_of t) then 0 else s.plain;
  bracket = s.bracket;
}

-- a sign is one of a pseudo-class
abbrev pub is_colon : Mark → Bool
is_colon marks.Unmarked = false
is_colon marks.Dot = false
is_colon marks.Colon = true
is_colon marks.Colons = false

abbrev pub after_function : Scan → PlacedToken → Scan
after_function s t =
    opened (is_colon s.mark && spells (codes "not") (word_of t))
    (not (takes_selectors (word_of t))) s

-- after a token that is one byte, outside of the brackets of attributes
abbrev pub after_sign : Scan → (from : List ℕ) → Scan
after_sign s from =
    if starts full_stop from then marked_by marks.Dot from s
    else (if starts colon from then colon_after s.mark from s
    else (if starts open_bracket from then bracketed brackets.Opened s
    else (if starts open_parenthesis from then opened false true s
    else (if starts close_parenthesis from then closed s
    else unmarked s))))

-- after a token in the brackets of an attribute, whose name was found or not
abbrev pub after_inner : Scan → PlacedToken → Scan
after_inner s t =
    if starts close_bracket t.from then bracketed brackets.Outside s else s

-- ---- names

-- what a token is where names are found
abbrev pub role_of : TokenKind → Role
role_of kinds.Whitespace = roles.Other
role_of kinds.Comment = roles.Nothing
role_of kinds.Ident = roles.Ident
role_of kinds.Function = roles.Function
role_of kinds.AtKeyword = roles.Other
role_of kinds.Hash = roles.Other
role_of kinds.IdHash = roles.Id
role_of kinds.String = roles.Other
role_of kinds.BadString = roles.Other
role_of kinds.Url = roles.Other
role_of kinds.BadUrl = roles.Other
role_of kinds.Number = roles.Other
role_of kinds.Percentage = roles.Other
role_of kinds.Dimension = roles.Other
role_of kinds.Cdo = roles.Other
role_of kinds.Cdc = roles.Other
role_of kinds.Delim = roles.Sign

-- a closing parenthesis, as a name that is empty, with the depth outside of it
abbrev pub close_name : Scan → PlacedToken → Option PlacedName
close_name s t =
    if starts close_parenthesis t.from
    then Some (named sorts.Close (closed s) t.from t.rest t.rest) else None

-- the name of a token of this role, outside of the brackets of attributes
abbrev pub outer_name : Role → Scan → PlacedToken → Option PlacedName
outer_name roles.Nothing s t = None
outer_name roles.Ident s t = signed_name s.mark s t
outer_name roles.Function s t = function_name s.mark s t
outer_name roles.Id s t = Some (named sorts.Id s t.from t.inside t.rest)
outer_name roles.Sign s t = close_name s t
outer_name roles.Other s t = None

-- a token of this role is a name
abbrev pub is_ident : Role → Bool
is_ident roles.Nothing = false
is_ident roles.Ident = true
is_ident roles.Function = false
is_ident roles.Id = false
is_ident roles.Sign = false
is_ident roles.Other = false

-- the first name in the brackets of an attribute
abbrev pub attribute_name : Scan → PlacedToken → Option PlacedName
attribute_name s t =
    if is_ident (role_of t.kind)
    then Some (named (kind_before sorts.Attribute t.rest) s t.from t.inside t.rest) else None

-- the name that a token is or ends with
abbrev pub name_by : Bracket → Scan → PlacedToken → Option PlacedName
name_by brackets.Outside s t = outer_name (role_of t.kind) s t
name_by brackets.Opened s t = attribute_name s t
name_by brackets.Named s t = None

unfoldable pub name_in : Scan → PlacedToken → Option PlacedName
name_in s t = name_by s.bracket s t

-- after a token of this role, outside of the brackets of attributes
abbrev pub after_role : Role → Scan → PlacedToken → Scan
after_role roles.Nothing s t = s
after_role roles.Ident s t = after_word s t
after_role roles.Function s t = after_function s t
after_role roles.Id s t = unmarked s
after_role roles.Sign s t = after_sign s t.from
after_role roles.Other s t = unmarked s

-- in the brackets of an attribute, before its name
abbrev pub after_opened : Scan → PlacedToken → Scan
after_opened s t =
    if is_ident (role_of t.kind) && not (is_bar t.rest) then bracketed brackets.Named s
    else after_inner s t

-- what is known after a token
abbrev pub after_by : Bracket → Scan → PlacedToken → Scan
after_by brackets.Outside s t = after_role (role_of t.kind) s t
after_by brackets.Opened s t = after_opened s t
after_by brackets.Named s t = after_inner s t

unfoldable pub after_token : Scan → PlacedToken → Scan
after_token s t = after_by s.bracket s t

-- a name before others, if there is one
abbrev pub with_name : Option PlacedName → List PlacedName → List PlacedName
with_name None more = more
with_name (Some name) more = name ∷ more

-- the names of tokens, from what is known before them on
abbrev pub names_from : Scan → List PlacedToken → List PlacedName
names_from s [] = []
names_from s (t ∷ more) = with_name (name_in s t) (names_from (after_token s t) more)

-- the names in a text
abbrev pub names : List ℕ → List PlacedName
names text = names_from scan_start (tokens text)
