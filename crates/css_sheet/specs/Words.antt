-- The words of a text: its tokens, without comments, and without the blanks that no meaning depends on.
-- A blank is kept as one space, unless one of the marks `{`, `}`, `;` and `,` or the inside of a parenthesis is
-- beside it, or it is beside a combinator of selectors, or after the colon of a feature or of a declaration.
-- Where two tokens would be others without it, it is always kept, and there a comment is, too.
use Rattle.std.specs.Prelude.{ℕ, Bool, true, false, not, ◌||◌, ◌&&◌, ◌==◌, if◌then◌else◌, List, [], ◌∷◌, ◌++◌, codes, length, Option, Some, None}
use Rattle.css_text.specs.AsciiBytes.{hyphen, backslash}
use Rattle.css_text.specs.Bytes.{starts, past_one, past_byte}
use Rattle.css_syntax.specs.declared.tokenizer.TokenKind.{TokenKind}
use Rattle.css_syntax.specs.declared.tokenizer.TokenKind.TheVariants as kinds
use Rattle.css_syntax.specs.TokenLists.{PlacedToken, next_token, tokens}
use Rattle.css_syntax.specs.TokenViews.{text_of}
use Rattle.css_sheet.specs.declared.words.Way.{Way}
use Rattle.css_sheet.specs.declared.words.Way.TheVariants as ways
use Rattle.css_sheet.specs.declared.words.Class.{Class}
use Rattle.css_sheet.specs.declared.words.Class.TheVariants as classes
use Rattle.css_sheet.specs.declared.words.Gap.{Gap}
use Rattle.css_sheet.specs.declared.words.Gap.TheVariants as gaps
use Rattle.css_sheet.specs.declared.words.Feature.{Feature}
use Rattle.css_sheet.specs.declared.words.Feature.TheVariants as features
use Rattle.css_sheet.specs.Pieces.{PieceText, word, colon, semicolon, opens, closes}

-- ---- words

-- A token, by its class and its text.
pub record WordText : Type 0 where
  pub class : Class
  pub text : List ℕ

abbrev pub class_of : TokenKind → Class
class_of kinds.Whitespace = classes.Blank
class_of kinds.Comment = classes.Comment
class_of kinds.Ident = classes.Ident
class_of kinds.Function = classes.Function
class_of kinds.AtKeyword = classes.Other
class_of kinds.Hash = classes.Other
class_of kinds.IdHash = classes.Other
class_of kinds.String = classes.Other
class_of kinds.BadString = classes.Other
class_of kinds.Url = classes.Other
class_of kinds.BadUrl = classes.Other
class_of kinds.Number = classes.Other
class_of kinds.Percentage = classes.Other
class_of kinds.Dimension = classes.Other
class_of kinds.Cdo = classes.Other
class_of kinds.Cdc = classes.Other
class_of kinds.Delim = classes.Mark

abbrev pub word_of : PlacedToken → WordText
word_of token = record { class = class_of token.kind; text = text_of token }

abbrev pub first_or_zero : List ℕ → ℕ
first_or_zero [] = 0
first_or_zero (b ∷ text) = b

abbrev pub mark_in : Class → List ℕ → ℕ
mark_in classes.Blank text = 0
mark_in classes.Comment text = 0
mark_in classes.Ident text = 0
mark_in classes.Function text = 0
mark_in classes.Mark text = first_or_zero text
mark_in classes.Other text = 0

-- the byte that a word is, or 0 if it is no mark
abbrev pub mark : WordText → ℕ
mark one = mark_in one.class one.text

abbrev pub is_function : Class → Bool
is_function classes.Blank = false
is_function classes.Comment = false
is_function classes.Ident = false
is_function classes.Function = true
is_function classes.Mark = false
is_function classes.Other = false

abbrev pub is_ident : Class → Bool
is_ident classes.Blank = false
is_ident classes.Comment = false
is_ident classes.Ident = true
is_ident classes.Function = false
is_ident classes.Mark = false
is_ident classes.Other = false

-- ---- which blanks are free

-- one of `{`, `}`, `;`, `,` and `(`, which no blank has to follow
abbrev pub is_opening : ℕ → Bool
is_opening b = b == 123 || b == 125 || b == 59 || b == 44 || b == 40

-- one of `{`, `}`, `;`, `,` and `)`, which no blank has to be before
abbrev pub is_closing : ℕ → Bool
is_closing b = b == 123 || b == 125 || b == 59 || b == 44 || b == 41

-- Between these two words nothing has to be, whatever the text is.
abbrev pub is_tight : WordText → WordText → Bool
is_tight before after =
    is_opening (mark before) || is_closing (mark after) || is_function before.class

-- one of `>`, `+` and `~`
abbrev pub is_combinator : ℕ → Bool
is_combinator b = b == 62 || b == 43 || b == 126

-- a name that may be an `n`, which is a number with a sign after `+`
abbrev pub begins_step : List ℕ → Bool
begins_step text = starts 110 text || starts 78 text || starts backslash text

-- In selectors: inside `[` and `]`, between a name, `=` and a value, and beside a combinator, unless another
-- one, an `=` or the name of an `n` makes one of two.
abbrev pub is_free_in_selector : WordText → WordText → Bool
is_free_in_selector before after =
    mark before == 91 || mark after == 93
    || mark after == 61 && mark before == 0
    || mark before == 61 && mark after == 0
    || is_combinator (mark after) && not (is_combinator (mark before))
    || is_combinator (mark before) && not (is_combinator (mark after)) && not (mark after == 61)
    && not (mark before == 43 && begins_step after.text)

abbrev pub is_stated : Feature → Bool
is_stated features.Other = false
is_stated features.Opened = false
is_stated features.Named = false
is_stated features.Stated = true

-- Nothing has to be between these two words of such a text, where the first is this in a feature.
abbrev pub is_free : Way → Feature → WordText → WordText → Bool
is_free ways.Selectors feature before after = is_free_in_selector before after
is_free ways.Condition feature before after = is_stated feature
is_free ways.Value feature before after = false
is_free ways.Declarations feature before after = mark before == 58

-- ---- what is between two words

abbrev pub rest_length : Option (PlacedToken × List ℕ) → ℕ
rest_length None = 0
rest_length (Some found) = length found.1

-- With nothing between them, they begin with another token than the first.
abbrev pub joins : List ℕ → List ℕ → Bool
joins first second = not (rest_length (next_token (first ++ second)) == length second)

-- where comments are between them
abbrev pub commented : WordText → WordText → List PieceText
commented before after =
    if joins before.text after.text then word (codes "/**/") ∷ [] else []

-- where blanks are between them
abbrev pub spaced : Way → Feature → WordText → WordText → List PieceText
spaced way feature before after =
    if is_free way feature before after && not (joins before.text after.text) then []
    else word (codes " ") ∷ []

abbrev pub gap_pieces : Gap → Way → Feature → WordText → WordText → List PieceText
gap_pieces gaps.Nothing way feature before after = []
gap_pieces gaps.Comments way feature before after =
    if is_tight before after then [] else commented before after
gap_pieces gaps.Blanks way feature before after =
    if is_tight before after then [] else spaced way feature before after
gap_pieces gaps.Semicolons way feature before after = semicolon ∷ []

-- What was seen of a text: the last word, what it is in a feature, and what is after it.
pub record SeenText : Type 0 where
  pub word : Option WordText
  pub feature : Feature
  pub gap : Gap

abbrev pub nothing_seen : SeenText
nothing_seen = record { word = None; feature = features.Other; gap = gaps.Nothing }

abbrev pub is_declarations : Way → Bool
is_declarations ways.Selectors = false
is_declarations ways.Condition = false
is_declarations ways.Value = false
is_declarations ways.Declarations = true

-- A declaration ends with this word, unless a block begins or ends there.
abbrev pub is_open : Option WordText → Bool
is_open None = false
is_open (Some before) = not (mark before == 123) && not (mark before == 125)

-- what is between the last word and the end of a block of declarations
abbrev pub ending : Gap → Option WordText → List PieceText
ending gaps.Nothing before = if is_open before then semicolon ∷ [] else []
ending gaps.Comments before = if is_open before then semicolon ∷ [] else []
ending gaps.Blanks before = if is_open before then semicolon ∷ [] else []
ending gaps.Semicolons before = semicolon ∷ []

abbrev pub first_gap : Gap → List PieceText
first_gap gaps.Nothing = []
first_gap gaps.Comments = []
first_gap gaps.Blanks = []
first_gap gaps.Semicolons = semicolon ∷ []

abbrev pub inner_gap : Way → SeenText → Option WordText → WordText → List PieceText
inner_gap way seen None after = first_gap seen.gap
inner_gap way seen (Some before) after = gap_pieces seen.gap way seen.feature before after

-- what is between what was seen and this word
abbrev pub between : Way → SeenText → WordText → List PieceText
between way seen after =
    if is_declarations way && mark after == 125 then ending seen.gap seen.word
    else inner_gap way seen seen.word after

-- a word of declarations
abbrev pub declarations_piece : WordText → PieceText
declarations_piece one =
    if mark one == 123 then opens
    else (if mark one == 125 then closes
    else (if mark one == 58 then colon else word one.text))

abbrev pub word_piece : Way → WordText → PieceText
word_piece way one = if is_declarations way then declarations_piece one else word one.text

-- ---- all words

-- what a token is, if it is between words
abbrev pub gap_by : Class → Way → WordText → Option Gap
gap_by classes.Blank way one = Some gaps.Blanks
gap_by classes.Comment way one = Some gaps.Comments
gap_by classes.Ident way one = None
gap_by classes.Function way one = None
gap_by classes.Mark way one =
    if is_declarations way && mark one == 59 then Some gaps.Semicolons else None
gap_by classes.Other way one = None

abbrev pub gap_of : Way → WordText → Option Gap
gap_of way one = gap_by one.class way one

-- the more of two that are between the same words
abbrev pub wider : Gap → Gap → Gap
wider gaps.Nothing more = more
wider gaps.Comments gaps.Nothing = gaps.Comments
wider gaps.Comments gaps.Comments = gaps.Comments
wider gaps.Comments gaps.Blanks = gaps.Blanks
wider gaps.Comments gaps.Semicolons = gaps.Semicolons
wider gaps.Blanks gaps.Nothing = gaps.Blanks
wider gaps.Blanks gaps.Comments = gaps.Blanks
wider gaps.Blanks gaps.Blanks = gaps.Blanks
wider gaps.Blanks gaps.Semicolons = gaps.Semicolons
wider gaps.Semicolons more = gaps.Semicolons

abbrev pub feature_by : Feature → WordText → Feature
feature_by features.Other one = features.Other
feature_by features.Opened one = if is_ident one.class then features.Named else features.Other
feature_by features.Named one = if mark one == 58 then features.Stated else features.Other
feature_by features.Stated one = features.Other

-- what a word is in a feature, after what the last one is
abbrev pub feature_after : Feature → WordText → Feature
feature_after feature one = if mark one == 40 then features.Opened else feature_by feature one

abbrev pub after_word : SeenText → WordText → SeenText
after_word seen one = record {
  word = Some one;
  feature = feature_after seen.feature one;
  gap = gaps.Nothing;
}

abbrev pub after_gap : SeenText → Gap → SeenText
after_gap seen gap = record {
  word = seen.word;
  feature = seen.feature;
  gap = wider seen.gap gap;
}

abbrev pub words_end : Way → SeenText → List PieceText
words_end way seen = if is_declarations way then ending seen.gap seen.word else []

-- what a token says, if it is between words or is a word
abbrev pub pieces_at : Way → SeenText → WordText → Option Gap → List PieceText
pieces_at way seen one (Some gap) = []
pieces_at way seen one None = between way seen one ++ word_piece way one ∷ []

abbrev pub seen_after : SeenText → WordText → Option Gap → SeenText
seen_after seen one (Some gap) = after_gap seen gap
seen_after seen one None = after_word seen one

-- the words of these tokens, after what was seen
abbrev pub words_from : Way → SeenText → List PlacedToken → List PieceText
words_from way seen [] = words_end way seen
words_from way seen (token ∷ tokens) =
    pieces_at way seen (word_of token) (gap_of way (word_of token))
    ++ words_from way (seen_after seen (word_of token) (gap_of way (word_of token))) tokens

-- the words of a text
abbrev pub words : Way → List ℕ → List PieceText
words way text = words_from way nothing_seen (tokens text)

-- ---- custom properties

-- two hyphens, each as it is or perhaps as an escape
abbrev pub begins_custom : List ℕ → Bool
begins_custom text =
    starts backslash text
    || starts hyphen text && (starts hyphen (past_one text) || starts backslash (past_one text))

abbrev pub is_custom_word : WordText → Bool
is_custom_word one = is_ident one.class && begins_custom one.text

abbrev pub custom_after : (custom : Bool) → WordText → Option Gap → Bool
custom_after custom one (Some gap) = custom
custom_after custom one None = is_custom_word one

abbrev pub is_colon_after : (custom : Bool) → WordText → Bool
is_colon_after custom one = custom && mark one == 58

-- The name of a custom property is among these tokens, directly before a colon; or the word before them is
-- one, and they begin with a colon.
abbrev pub sets_custom : (custom : Bool) → List PlacedToken → Bool
sets_custom custom [] = false
sets_custom custom (token ∷ tokens) =
    is_colon_after custom (word_of token)
    || sets_custom (custom_after custom (word_of token) (gap_of ways.Value (word_of token))) tokens
