-- The printed text of a declaration, and what reading it again returns.
use Rattle.std.specs.Prelude.{◌≡◌, ℕ, Bool, true, false, not, ◌||◌, ◌==◌, if◌then◌else◌, List, [], ◌∷◌, ◌++◌, codes, map, Some}
use Rattle.std.specs.List.{All, join_with_byte}
use Rattle.css_text.specs.AsciiBytes.{space, backslash}
use Rattle.css_syntax.specs.declared.quality.Quality.TheVariants.{Whole}
use Rattle.css_syntax.specs.Tokens.{past_gap}
use Rattle.css_syntax.specs.DeclarationLists.{DeclarationText, ItemText, declared, at_rule_item, skipped_item, value, is_empty, is_custom, ListText, next_item, items}

-- The text ends in a lone backslash: where each backslash is taken with the byte after it, the last
-- one has none.
abbrev pub ends_lone : List ℕ → Bool
ends_lone [] = false
ends_lone (b ∷ []) = b == backslash
ends_lone (b ∷ c ∷ text) = if b == backslash then ends_lone text else ends_lone (c ∷ text)

-- U+FFFD after a value that ends in a lone backslash, which is at the end of its text and denotes
-- that character there.
abbrev pub lone_end : List ℕ → List ℕ
lone_end value = if ends_lone value then 239 ∷ 191 ∷ 189 ∷ [] else []

-- The importance of a declaration. No blank is before it, since an escape at the end of the value
-- would consume that blank.
abbrev pub important_text : Bool → List ℕ
important_text important = if important then codes "!important" else []

-- a declaration without the semicolon after it
abbrev pub stated_text : DeclarationText → List ℕ
stated_text d =
    d.name ++ codes ": " ++ d.value ++ lone_end d.value ++ important_text d.important

-- a printed declaration
abbrev pub declaration_text : DeclarationText → List ℕ
declaration_text d = stated_text d ++ codes ";"

-- Printed before any text and read again, the declaration is itself, and its semicolon and that
-- text are left.
abbrev pub DeclarationReadsBack : DeclarationText → Type 0
DeclarationReadsBack d =
    (in_block : Bool) (text : List ℕ)
    → next_item in_block (declaration_text d ++ text)
    ≡ Some (record { text = stated_text d; item = declared d }, codes ";" ++ text)

-- a printed declaration, as a part of a list
abbrev pub printed_part : DeclarationText → ListText
printed_part d = record { text = stated_text d; item = declared d }

-- declarations one after another, with a space between two
abbrev pub list_text : List DeclarationText → List ℕ
list_text declarations = join_with_byte space (map declaration_text declarations)

-- Declarations that read back are the items of their printed list, in their order.
abbrev pub ListReadsBack : List DeclarationText → Type 0
ListReadsBack declarations =
    All DeclarationReadsBack declarations → (in_block : Bool)
    → items in_block (list_text declarations) ≡ map printed_part declarations

-- This holds of a declaration that was read, if nothing of its value is open at the end of the text
-- and its value does not end in a lone backslash.
abbrev pub ItemReadsBack : ItemText → Type 0
ItemReadsBack (declared d) =
    d.closed ≡ true → ends_lone d.value ≡ false → DeclarationReadsBack d
ItemReadsBack (at_rule_item a) = Unit {0}
ItemReadsBack (skipped_item fault) = Unit {0}

-- A text that is read whole as a value of a custom property or of another, with nothing left, and
-- begins with no blank.
pub record IsWholeValue (custom : Bool) (text : List ℕ) : Type 0 where
  pub no_blank : past_gap text ≡ text
  pub whole : value custom text ≡ (record { text = text; quality = Whole }, [])

-- The text begins with this value, and is read whole.
pub record IsClosed (v text : List ℕ) : Type 0 where
  pub more : List ℕ
  pub front : text ≡ v ++ more
  pub whole : IsWholeValue true text

-- The name of a declaration that was read with a value that is whole for it, and with any
-- importance, is a declaration that reads back, unless that value ends in a lone backslash, or is
-- empty and the property is no custom one.
abbrev pub ReadsBackWith : ItemText → (text : List ℕ) → Bool → Type 0
ReadsBackWith (declared d) text important =
    IsWholeValue (is_custom d.name) text → ends_lone text ≡ false
    → (not (is_empty text) || is_custom d.name) ≡ true → DeclarationReadsBack
    (record { name = d.name; value = text; important = important; closed = true })
ReadsBackWith (at_rule_item a) text important = Unit {0}
ReadsBackWith (skipped_item fault) text important = Unit {0}

-- each item of a list of declarations, with any whole value
abbrev pub ItemsReadBackWith : Bool → List ℕ → Type 0
ItemsReadBackWith in_block text =
    (v : List ℕ) (important : Bool)
    → All (λ p. ReadsBackWith p.item v important) (items in_block text)

-- each item of a list of declarations
abbrev pub ItemsReadBack : Bool → List ℕ → Type 0
ItemsReadBack in_block text = All (λ p. ItemReadsBack p.item) (items in_block text)
