-- A text cut at its first newline or TAB.
-- Serves `tree::{cut_line, cut_field}` (lines and fields of a text).
use Rattle.std.proofs.Common.{◌≡◌, ℕ, ◌+◌, ◌<◌, ◌≤◌, Bool, false, List, [], ◌∷◌, length, take, drop, get_or, refl, sym, ap, ◌∙◌, subst, lit<, arith, eqb-true, ◌==◌, ⊎_elim, Option, None, Some}
use Rattle.std.specs.Prelude.{not}
use Rattle.std.specs.Borrow.{Bor}
use Rattle.std.specs.Str.{IsUtf8, IsCharBoundary}
use Rattle.std.proofs.lemmas.Str.Pattern.{IsSplitOnceResult, split_once_first}
use Rattle.css_text.specs.AsciiBytes.{newline}
use Rattle.std.specs.List.{slice_split, slice_range, before_first, after_first, position_or_len}
use Rattle.std.proofs.lemmas.List.{length-take, length-drop, take_all, drop_all}
use Rattle.std.proofs.lemmas.Bool.{cases_lt}
use Rattle.std.proofs.lemmas.List.Splits.{slice_split_first, slice_split_none, length-slice_split}
use Rattle.std.proofs.lemmas.List.Sums.{fails_before_first, passes_at_first, prefix_len-le-length}
use Rattle.std.proofs.lemmas.Grind.{common_steps}
use Rattle.std.proofs.lemmas.Str.{IsCharBoundary-after_ascii}
use Rattle.std.proofs.lemmas.List.Elements.{All-from_get_or}
use Rattle.cssq_tree.specs.TreeText.{is_newline, is_tab, without_empty_last, lines_of, fields_of}
use Rattle.cssq_tree.specs.internal.Spans.{name_in, attribute_text}

-- what precedes the first such byte of a text
module _ (text : List ℕ) (byte n : ℕ) (is : n ≡ position_or_len (λ b. b == byte) text) where
  pub offset_within : n ≤ length text
  offset_within = omega (arith, is, prefix_len-le-length (λ b. not (b == byte)) text)

  byte_there : byte < 128 → n < length text → get_or text n 0 < 128
  byte_there ascii lt =
      let found = passes_at_first (λ b. b == byte) text 0 (omega (arith, is)) in
      omega (
        arith,
        eqb-true (get_or text (position_or_len (λ b. b == byte) text) 0) byte found,
        ap (λ k. get_or text k 0) is,
      )

  pub offset_boundary : byte < 128 → IsCharBoundary text n
  offset_boundary ascii = (offset_within, λ lt wide. absurd (omega (arith, byte_there ascii lt)))

  pub offset_after : IsUtf8 text → byte < 128 → n < length text → IsCharBoundary text (n + 1)
  offset_after u ascii lt = IsCharBoundary-after_ascii text n u lt (byte_there ascii lt)

range_front : (text : List ℕ) (n : ℕ) → slice_range text 0 n ≡ take n text
range_front text n = grind (arith, common_steps)

-- a text cut at that byte
pub cut_at : (text : List ℕ) (byte n : ℕ) → n ≡ position_or_len (λ b. b == byte) text
    → (front others : List ℕ) → front ≡ slice_range text 0 n → others ≡ drop (n + 1) text
    → n < length text
    → (front ≡ before_first (λ b. b == byte) text) × (others ≡ after_first (λ b. b == byte) text)
    × (position_or_len (λ b. b == byte) text < length text)
cut_at text byte n is front others front_is others_is lt = (
  front_is ∙ range_front text n ∙ ap (λ k. take k text) is,
  others_is ∙ ap (λ k. drop (k + 1) text) is,
  omega (arith, is),
)

first_kept : (line : List ℕ) (lines : List (List ℕ)) → 0 < length lines
    → without_empty_last (line ∷ lines) ≡ line ∷ without_empty_last lines
first_kept line [] some = absurd (omega arith)
first_kept [] (next ∷ lines) some = refl
first_kept (b ∷ line) (next ∷ lines) some = refl

pub split_whole : (p : ℕ → Bool) (text : List ℕ) → position_or_len p text ≡ length text
    → slice_split p text ≡ text ∷ []
split_whole p text none = slice_split_none p text (All-from_get_or (λ b. p b ≡ false) text 0
    (λ i lt. fails_before_first p text i 0 (omega arith)))

-- the first line and the text after its newline
module _ (text line others : List ℕ)
    (cut : (line ≡ before_first is_newline text) × (others ≡ after_first is_newline text)
    × (position_or_len is_newline text < length text)) where
  pub line_cut : lines_of text ≡ line ∷ lines_of others
  line_cut =
      ap without_empty_last (slice_split_first is_newline text 0 cut.2)
      ∙ first_kept (before_first is_newline text)
      (slice_split is_newline (after_first is_newline text))
      (omega (arith, length-slice_split is_newline (after_first is_newline text)))
      ∙ (λ k. sym cut.0 k ∷ lines_of (sym cut.1 k))

  pub lines_shorter : length others < length text
  lines_shorter =
      omega (arith, ap length cut.1, length-drop (position_or_len is_newline text + 1) text, cut.2)

whole_kept : (line : List ℕ) → 0 < length line → without_empty_last (line ∷ []) ≡ line ∷ []
whole_kept [] some = absurd (omega arith)
whole_kept (b ∷ line) some = refl

pub lines_whole : (text : List ℕ) → 0 < length text → position_or_len is_newline text ≡ length text
    → lines_of text ≡ text ∷ []
lines_whole text some none =
    ap without_empty_last (split_whole is_newline text none) ∙ whole_kept text some

-- a text that is split at its first newline
abbrev IsLineCut : List ℕ → Bor (List ℕ) × Bor (List ℕ) → Type 0
IsLineCut text parts = (parts.0.now ≡ before_first is_newline text)
    × (parts.1.now ≡ after_first is_newline text)
    × (position_or_len is_newline text < length text)

pub some_split : (text : List ℕ) (r : Option (Bor (List ℕ) × Bor (List ℕ)))
    → IsSplitOnceResult newline text r → (parts : Bor (List ℕ) × Bor (List ℕ))
    → r ≡ Some parts → IsLineCut text parts
some_split text None h parts is = absurd (cc)
some_split text (Some found) h parts is =
    let cut = split_once_first newline text (Some found) h (lit< tt) in
    let same : found ≡ parts = cc in
    subst (IsLineCut text) same (cut.1, cut.2, cut.0)

pub none_split : (text : List ℕ) (r : Option (Bor (List ℕ) × Bor (List ℕ)))
    → IsSplitOnceResult newline text r → r ≡ None → position_or_len is_newline text ≡ length text
none_split text None h is = split_once_first newline text None h (lit< tt)
none_split text (Some found) h is = absurd (cc)

-- the first field and the text of the others
module _ (text field others : List ℕ) (cut : (field ≡ before_first is_tab text)
    × (others ≡ after_first is_tab text) × (position_or_len is_tab text < length text)) where
  pub field_cut : fields_of text ≡ field ∷ fields_of others
  field_cut = slice_split_first is_tab text 0 cut.2 ∙ (λ k. sym cut.0 k ∷ fields_of (sym cut.1 k))

  pub field_within : length field ≤ length text
  field_within = omega (arith, ap length cut.0, length-take (position_or_len is_tab text) text)

  pub others_shorter : length others < length text
  others_shorter =
      omega (arith, ap length cut.1, length-drop (position_or_len is_tab text + 1) text, cut.2)

pub fields_whole : (text : List ℕ) → position_or_len is_tab text ≡ length text
    → fields_of text ≡ text ∷ []
fields_whole text none = split_whole is_tab text none

-- ---- the text from the name on, cut where the name ends

module _ (text : List ℕ) (n : ℕ) (is : n ≡ position_or_len is_tab text) where
  cut_fields : n < length text → fields_of text ≡ take n text ∷ fields_of (drop (n + 1) text)
  cut_fields lt = field_cut text (take n text) (drop (n + 1) text)
      (ap (λ k. take k text) is, ap (λ k. drop (k + 1) text) is, omega (arith, is))

  whole_fields : length text ≤ n → fields_of text ≡ text ∷ []
  whole_fields le =
      fields_whole text (omega (arith, is, le, prefix_len-le-length (λ b. not (is_tab b)) text))

  pub name_front : slice_range text 0 n ≡ name_in text
  name_front =
      range_front text n
      ∙ ⊎_elim
      (λ lt. sym (ap (λ fs. get_or fs 0 []) (cut_fields lt)))
      (λ le. take_all n text le ∙ sym (ap (λ fs. get_or fs 0 []) (whole_fields le)))
      (cases_lt n (length text))

  pub text_after : drop (n + 1) text ≡ attribute_text text
  text_after = ap (λ k. drop (k + 1) text) is

  pub fields_after : n < length text → fields_of (drop (n + 1) text) ≡ drop 1 (fields_of text)
  fields_after lt = sym (ap (drop 1) (cut_fields lt))

  pub text_none : length text ≤ n → [] ≡ attribute_text text
  text_none le = sym (drop_all (n + 1) text (omega (arith, le))) ∙ text_after

  pub fields_none : length text ≤ n → [] ≡ drop 1 (fields_of text)
  fields_none le = sym (ap (drop 1) (whole_fields le))
