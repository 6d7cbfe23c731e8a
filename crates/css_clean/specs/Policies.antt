-- What a policy allows of declarations, and why it refuses one.
use Rattle.std.specs.Prelude.{ℕ, Bool, true, false, not, ◌||◌, ◌&&◌, ◌==◌, if◌then◌else◌, List, [], ◌∷◌, codes}
use Rattle.std.specs.Option.{is_some}
use Rattle.css_text.specs.AsciiBytes.{colon as colon_sign}
use Rattle.css_text.specs.Bytes.{is_within, starts, starts_by, starts_two}
use Rattle.css_syntax.specs.TokenLists.{PlacedToken, tokens}
use Rattle.css_syntax.specs.DeclarationLists.{DeclarationText}
use Rattle.css_syntax.specs.Printing.{ends_lone}
use Rattle.css_syntax.specs.declared.tokenizer.TokenKind.{TokenKind}
use Rattle.css_syntax.specs.declared.tokenizer.TokenKind.TheVariants as kinds
use Rattle.clean_values.specs.Limits.{LimitsText, is_within_limit}
use Rattle.clean_values.specs.Values.{ChangesText, is_listed, inside_of, has_source, has_loader}
use Rattle.clean_values.specs.Checks.{has_prefix, is_custom, is_one_of, is_beside_urls}
use Rattle.css_clean.specs.Groups.{group_of}
use Rattle.css_clean.specs.declared.dropped.Reason.{Reason}
use Rattle.css_clean.specs.declared.dropped.Reason.TheVariants as reasons

-- What is allowed: properties and functions, by their names in lower case, the properties of which
-- values may have strings, important declarations, limits of values, and the most bytes of a text; and what is
-- changed in values.
pub record PolicyText : Type 0 where
  pub properties : List (List ℕ)
  pub functions : List (List ℕ)
  pub strings : List (List ℕ)
  pub important : Bool
  pub limits : LimitsText
  pub longest : ℕ
  pub changes : ChangesText

-- A byte that may be written: no control character but a tab, a line feed and a carriage return, no
-- angle bracket, no brace, no backslash and no `@`.
abbrev pub is_safe_byte : ℕ → Bool
is_safe_byte b =
    not (is_within 0 8 b || b == 11 || b == 12 || is_within 14 31 b || b == 127
    || b == 60 || b == 62 || b == 123 || b == 125 || b == 92 || b == 64)

abbrev pub are_safe : List ℕ → Bool
are_safe [] = true
are_safe (b ∷ text) = is_safe_byte b && are_safe text

-- ---- tokens, by the place in which they are

-- A value: the functions that it may have, whether it may have strings, whether each string of it is a
-- url, whether a function of it loads a string, whether its words are names, and what is changed in values.
pub record ValuePlace : Type 0 where
  pub functions : List (List ℕ)
  pub strings : Bool
  pub sources : Bool
  pub loads : Bool
  pub named : Bool
  pub changes : ChangesText

-- A place in a sheet: a value; a selector, with its pseudo-classes and pseudo-elements; a media query, with its words; a condition of
-- `@supports`; a name; the frames of a rule in `@keyframes`; the scope; or the whole sheet, with functions of values and of selectors,
-- and what is listed of media queries.
pub data PlaceText : Type 0 where
  in_value : ValuePlace → PlaceText
  in_selector : (pseudos : List (List ℕ)) → PlaceText
  in_media : (words : List (List ℕ)) → PlaceText
  in_supports : PlaceText
  in_name : PlaceText
  in_frames : PlaceText
  in_scope : PlaceText
  in_sheet : (functions pseudos media : List (List ℕ)) → PlaceText

-- a function that is listed, and brings no string to one that loads it
abbrev pub function_allowed : ValuePlace → (name : List ℕ) → Bool
function_allowed place name =
    is_listed place.functions name && (not place.loads || is_beside_urls name)

-- a string that is an answer, where strings are urls; elsewhere perhaps any, but no name
abbrev pub string_allowed : ValuePlace → (inside : List ℕ) → Bool
string_allowed place inside =
    if place.sources then is_one_of place.changes.answers inside else place.strings && not place.named

-- in a value: words, of which names have the prefix, functions and strings that are allowed; no url, no string or url that is bad, no name
-- after `@`, no comment, no `<!--` and no `-->`
abbrev pub value_allows : ValuePlace → TokenKind → (inside : List ℕ) → Bool
value_allows place kinds.Whitespace inside = true
value_allows place kinds.Comment inside = false
value_allows place kinds.Ident inside = has_prefix place.changes place.named inside
value_allows place kinds.Function inside = function_allowed place inside
value_allows place kinds.AtKeyword inside = false
value_allows place kinds.Hash inside = true
value_allows place kinds.IdHash inside = true
value_allows place kinds.String inside = string_allowed place inside
value_allows place kinds.BadString inside = false
value_allows place kinds.Url inside = false
value_allows place kinds.BadUrl inside = false
value_allows place kinds.Number inside = true
value_allows place kinds.Percentage inside = true
value_allows place kinds.Dimension inside = true
value_allows place kinds.Cdo inside = false
value_allows place kinds.Cdc inside = false
value_allows place kinds.Delim inside = true

-- a byte that may be a token of a selector: one of `.*>+-~:,[]=^$()`
abbrev pub is_selector_mark : ℕ → Bool
is_selector_mark b =
    b == 46 || b == 42 || b == 62 || b == 43 || b == 45 || b == 126 || b == 58 || b == 44
    || b == 91 || b == 93 || b == 61 || b == 94 || b == 36 || b == 40 || b == 41

-- such a byte is next, or `|=`
abbrev pub begins_mark : List ℕ → Bool
begins_mark text = starts_by is_selector_mark text || starts_two 124 61 text

-- in a selector, after a colon or not: after a colon a name that is listed, with its arguments or not;
-- elsewhere any name, hash, number or string, and blanks
abbrev pub selector_allows :
    List (List ℕ) → (after_colon : Bool) → TokenKind → (from inside : List ℕ) → Bool
selector_allows pseudos colon kinds.Whitespace from inside = not colon
selector_allows pseudos colon kinds.Comment from inside = false
selector_allows pseudos colon kinds.Ident from inside = not colon || is_listed pseudos inside
selector_allows pseudos colon kinds.Function from inside = colon && is_listed pseudos inside
selector_allows pseudos colon kinds.AtKeyword from inside = false
selector_allows pseudos colon kinds.Hash from inside = not colon
selector_allows pseudos colon kinds.IdHash from inside = not colon
selector_allows pseudos colon kinds.String from inside = not colon
selector_allows pseudos colon kinds.BadString from inside = false
selector_allows pseudos colon kinds.Url from inside = false
selector_allows pseudos colon kinds.BadUrl from inside = false
selector_allows pseudos colon kinds.Number from inside = not colon
selector_allows pseudos colon kinds.Percentage from inside = false
selector_allows pseudos colon kinds.Dimension from inside = not colon
selector_allows pseudos colon kinds.Cdo from inside = false
selector_allows pseudos colon kinds.Cdc from inside = false
selector_allows pseudos colon kinds.Delim from inside = begins_mark from

-- a byte that may be a token of a media query: one of `():,/`
abbrev pub is_media_mark : ℕ → Bool
is_media_mark b = b == 40 || b == 41 || b == 58 || b == 44 || b == 47

-- in a media query: names that are listed, numbers and blanks
abbrev pub media_allows : List (List ℕ) → TokenKind → (from inside : List ℕ) → Bool
media_allows words kinds.Whitespace from inside = true
media_allows words kinds.Ident from inside = is_listed words inside
media_allows words kinds.Number from inside = true
media_allows words kinds.Dimension from inside = true
media_allows words kinds.Delim from inside = starts_by is_media_mark from
media_allows words _ from inside = false

-- in a condition of `@supports`: any name, hash and number, and blanks. (A condition changes nothing, and loads nothing.)
abbrev pub supports_allows : TokenKind → (from : List ℕ) → Bool
supports_allows kinds.Whitespace from = true
supports_allows kinds.Ident from = true
supports_allows kinds.Hash from = true
supports_allows kinds.IdHash from = true
supports_allows kinds.Number from = true
supports_allows kinds.Percentage from = true
supports_allows kinds.Dimension from = true
supports_allows kinds.Delim from = starts_by is_media_mark from
supports_allows _ from = false

-- a name, and nothing else
abbrev pub name_allows : TokenKind → Bool
name_allows kinds.Ident = true
name_allows _ = false

abbrev pub frame_words : List (List ℕ)
frame_words = codes "from" ∷ codes "to" ∷ []

-- in the frames of a rule: `from`, `to`, percentages, blanks and commas
abbrev pub frames_allow : TokenKind → (from inside : List ℕ) → Bool
frames_allow kinds.Whitespace from inside = true
frames_allow kinds.Ident from inside = is_listed frame_words inside
frames_allow kinds.Percentage from inside = true
frames_allow kinds.Delim from inside = starts 44 from
frames_allow _ from inside = false

-- in the scope: names, hashes and full stops, so that it is one compound
abbrev pub scope_allows : TokenKind → (from : List ℕ) → Bool
scope_allows kinds.Ident from = true
scope_allows kinds.Hash from = true
scope_allows kinds.IdHash from = true
scope_allows kinds.Delim from = starts 46 from
scope_allows _ from = false

-- anywhere in a sheet: no url, no comment, no `<!--` and no `-->`, no function but those that are
-- listed, and no name after `@` but `media` and those that are listed
abbrev pub sheet_allows :
    (functions pseudos media : List (List ℕ)) → TokenKind → (inside : List ℕ) → Bool
sheet_allows functions pseudos media kinds.Comment inside = false
sheet_allows functions pseudos media kinds.Function inside =
    is_listed functions inside || is_listed pseudos inside
sheet_allows functions pseudos media kinds.AtKeyword inside = is_some (group_of media inside)
sheet_allows functions pseudos media kinds.BadString inside = false
sheet_allows functions pseudos media kinds.Url inside = false
sheet_allows functions pseudos media kinds.BadUrl inside = false
sheet_allows functions pseudos media kinds.Cdo inside = false
sheet_allows functions pseudos media kinds.Cdc inside = false
sheet_allows functions pseudos media _ inside = true

-- the place allows this token, which follows a colon or does not
abbrev pub token_allowed : PlaceText → (after_colon : Bool) → PlacedToken → Bool
token_allowed (in_value place) colon token = value_allows place token.kind (inside_of token)
token_allowed (in_selector pseudos) colon token =
    selector_allows pseudos colon token.kind token.from (inside_of token)
token_allowed (in_media words) colon token = media_allows words token.kind token.from (inside_of token)
token_allowed in_supports colon token = supports_allows token.kind token.from
token_allowed in_name colon token = name_allows token.kind
token_allowed in_frames colon token = frames_allow token.kind token.from (inside_of token)
token_allowed in_scope colon token = scope_allows token.kind token.from
token_allowed (in_sheet functions pseudos media) colon token =
    sheet_allows functions pseudos media token.kind (inside_of token)

-- the token is a byte that is no other token
abbrev pub is_delim : TokenKind → Bool
is_delim kinds.Delim = true
is_delim _ = false

-- The token is a colon. (No other token begins with one.)
abbrev pub is_colon : PlacedToken → Bool
is_colon token = is_delim token.kind && starts colon_sign token.from

-- the place may end after a colon, or after another token
abbrev pub may_end : PlaceText → (after_colon : Bool) → Bool
may_end (in_value place) colon = true
may_end (in_selector pseudos) colon = not colon
may_end (in_media words) colon = true
may_end in_supports colon = true
may_end in_name colon = true
may_end in_frames colon = true
may_end in_scope colon = true
may_end (in_sheet functions pseudos media) colon = true

-- the place allows each token, and may end after the last
abbrev pub all_allowed : PlaceText → (after_colon : Bool) → List PlacedToken → Bool
all_allowed place colon [] = may_end place colon
all_allowed place colon (token ∷ more) =
    token_allowed place colon token && all_allowed place (is_colon token) more

-- each token of a text
abbrev pub tokens_allowed : PlaceText → List ℕ → Bool
tokens_allowed place text = all_allowed place false (tokens text)

-- ---- declarations

-- a value of this property
abbrev pub place_of_value : PolicyText → (name value : List ℕ) → PlaceText
place_of_value policy name value = in_value
    (record {
      functions = policy.functions;
      strings = is_listed policy.strings name;
      sources = has_source (tokens value);
      loads = has_source (tokens value) && has_loader (tokens value);
      named = is_listed policy.changes.named name;
      changes = policy.changes;
    })

-- any value
abbrev pub any_value : PolicyText → PlaceText
any_value policy = in_value
    (record {
      functions = policy.functions;
      strings = true;
      sources = false;
      loads = false;
      named = false;
      changes = policy.changes;
    })

-- each token of a value of this property
abbrev pub value_allowed : PolicyText → (name value : List ℕ) → Bool
value_allowed policy name value = tokens_allowed (place_of_value policy name value) value

-- a property that is listed, or a custom one whose name has the prefix
abbrev pub is_property : PolicyText → (name : List ℕ) → Bool
is_property policy name = is_listed policy.properties name || is_custom policy.changes name

-- A declaration: closed, of a property that is listed or a custom one, with nothing but bytes that may be written and
-- tokens that are allowed, important only if that is allowed, and within the limit of the property.
abbrev pub is_allowed : PolicyText → DeclarationText → Bool
is_allowed policy d =
    d.closed && not (ends_lone d.value) && (policy.important || not d.important)
    && is_property policy d.name && are_safe d.name && are_safe d.value
    && value_allowed policy d.name d.value && is_within_limit policy.limits d.name d.value

-- ---- why a declaration is refused

-- why a token of this kind is
abbrev pub kind_reason : TokenKind → Reason
kind_reason kinds.Function = reasons.Function
kind_reason kinds.Url = reasons.Url
kind_reason kinds.BadUrl = reasons.Url
kind_reason kinds.String = reasons.String
kind_reason kinds.BadString = reasons.String
kind_reason _ = reasons.Token

-- why the first token is that the place refuses
abbrev pub tokens_reason : PlaceText → List PlacedToken → Reason
tokens_reason place [] = reasons.Token
tokens_reason place (token ∷ more) =
    if token_allowed place false token then tokens_reason place more else kind_reason token.kind

-- why a value is: for a token, or since it is beyond the limit of its property
abbrev pub value_reason : PolicyText → (name value : List ℕ) → Reason
value_reason policy name value =
    if value_allowed policy name value && not (is_within_limit policy.limits name value)
    then reasons.Beyond else tokens_reason (place_of_value policy name value) (tokens value)

-- the first reason of a declaration that is not allowed
abbrev pub reason_of : PolicyText → DeclarationText → Reason
reason_of policy d =
    if not (is_property policy d.name) then reasons.Property
    else (if d.important && not policy.important then reasons.Important
    else (if not d.closed || ends_lone d.value then reasons.Open
    else (if not (are_safe d.name && are_safe d.value) then reasons.Byte
    else value_reason policy d.name d.value)))
