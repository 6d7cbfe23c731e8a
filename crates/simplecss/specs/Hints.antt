-- Hints: parts of a style sheet that are kept, and that its author hardly meant.
use Rattle.std.specs.Prelude.{ℕ, Bool, not, ◌||◌, ◌&&◌, ◌==◌, eqb, is_some, if◌then◌else◌, List, [], ◌∷◌, ◌++◌, length, codes, Option, Some, None}
use Rattle.std.specs.List.{flat_map, list_any, starts_with}
use Rattle.css_text.specs.AsciiBytes.{comma, semicolon, exclamation_mark, at_sign, open_brace, close_brace}
use Rattle.css_text.specs.Reading.{Reading, got, fails, each}
use Rattle.css_text.specs.Bytes.{past_one, past_byte, starts, from_brace}
use Rattle.css_text.specs.Characters.{Edition}
use Rattle.css_text.specs.Comments.{past_blank}
use Rattle.simplecss_grammar.specs.Declarations.{StyleDeclaration, declaration}
use Rattle.simplecss_grammar.specs.Blocks.{declaration_in_block}
use Rattle.simplecss_grammar.specs.Statements.{part, part_and_comma, parts, next_statement}
use Rattle.simplecss_grammar.specs.Skipped.{skips_with}
use Rattle.simplecss_declaration.specs.ValueStarts.{value_from, value_end}
use Rattle.simplecss.specs.OpenParentheses.{leaves_open}

-- What is surprising about a part of a text.
pub data Surprise : Type 0 where
  -- a byte order mark belongs to the first name
  byte_order_mark : Surprise
  -- a selector is the `*` of a `*/` that closes no comment
  stray_comment_end : Surprise
  -- a selector of a rule set is refused, and the others are kept
  other_selectors : Surprise
  -- the value ends before something that cannot be part of a value
  cut_value : List ℕ → Surprise
  -- the value leaves a parenthesis open
  open_parenthesis : List ℕ → Surprise
  -- a `!` without `important` follows the value
  mark_without_important : List ℕ → Surprise

-- A hint: the text from the part on, and what is surprising about it.
pub record Hint : Type 0 where
  pub from : List ℕ
  pub surprise : Surprise

-- this hint, if the test is true
abbrev pub hint_if : Bool → (from : List ℕ) → Surprise → List Hint
hint_if test from surprise =
    if test then record { from = from; surprise = surprise } ∷ [] else []

-- The hints wherever `read` finds something, one after another.
unfoldable pub hints_of_each : {A : Type 0} → (hints : List ℕ → List Hint)
    → (read : List ℕ → Option (A × List ℕ)) → List ℕ → List Hint
hints_of_each hints read text = flat_map (λ found. found) (each (skips_with hints read) text).0

-- ---- the head of a rule set

-- A part of a rule set's head: the text from its start on, and whether its selector is kept.
pub record HeadPart : Type 0 where
  pub from : List ℕ
  pub is_kept : Bool

-- the part at the start of a text
abbrev pub head_part : Edition → List ℕ → HeadPart
head_part edition text = record { from = text; is_kept = is_some (part edition text).0 }

-- the parts of a head, with a comma after each but the last
unfoldable pub head_parts : Edition → List ℕ → List HeadPart
head_parts edition text =
    let listed = each (skips_with (head_part edition) (part_and_comma edition)) text in
    listed.0 ++ head_part edition listed.1 ∷ []

-- a selector of the head is kept
abbrev pub keeps_one : List HeadPart → Bool
keeps_one head = list_any (λ part. part.is_kept) head

-- a selector of the head is refused
abbrev pub refuses_one : List HeadPart → Bool
refuses_one head = list_any (λ part. not part.is_kept) head

-- the part's selector is the `*` of a `*/` that closes no comment
abbrev pub is_stray : HeadPart → Bool
is_stray part = part.is_kept && starts_with eqb (past_blank part.from) (codes "*/")

-- the hint on a part, if there is one
abbrev pub part_hints : HeadPart → List Hint
part_hints part = hint_if (is_stray part) (past_blank part.from) stray_comment_end

-- The hints on the head of the rule set at the start of a text: that some of its selectors are
-- refused and others kept, and each stray end of a comment.
abbrev pub head_hints : (text : List ℕ) → List HeadPart → List Hint
head_hints text head =
    hint_if (keeps_one head && refuses_one head) text other_selectors ++ flat_map part_hints head

-- ---- values

-- after a value and its blank a declaration, its block or the text ends
abbrev pub ends_value : List ℕ → Bool
ends_value after = length after == 0 || starts semicolon after || starts close_brace after

-- What is surprising about the value of a declaration, with what follows the value and what is left
-- after the declaration. After the last declaration of a text a value is not cut: what follows it is
-- skipped, and reported as that.
abbrev pub value_surprise : StyleDeclaration → (after left : List ℕ) → Option Surprise
value_surprise declared after left =
    if leaves_open declared.value then Some (open_parenthesis declared.value)
    else (if starts exclamation_mark after
    then (if declared.important then None else Some (mark_without_important declared.value))
    else (if ends_value after || length left == 0 then None else Some (cut_value declared.value)))

-- the hint on a value, from its start on
abbrev pub surprise_hints : (from : List ℕ) → Option Surprise → List Hint
surprise_hints from None = []
surprise_hints from (Some surprise) = record { from = from; surprise = surprise } ∷ []

-- the same, where a value begins and ends
abbrev pub value_hints : StyleDeclaration → (left : List ℕ) → (from after : Option (List ℕ))
    → List Hint
value_hints declared left (Some from) (Some after) =
    surprise_hints from (value_surprise declared after left)
value_hints declared left (Some from) None = []
value_hints declared left None after = []

-- the hint on the value of a declaration that was read at the start of a text
abbrev pub hints_of_read : Edition → List ℕ → Reading StyleDeclaration → List Hint
hints_of_read edition text (got declared left) =
    value_hints declared left (value_from edition text) (value_end edition text)
hints_of_read edition text (fails fault rest) = []

-- the hint on the value of the declaration at the start of a text
abbrev pub declaration_hints : Edition → List ℕ → List Hint
declaration_hints edition text = hints_of_read edition text (declaration edition text)

-- the hints on the values of a block, from after its opening brace
abbrev pub block_hints : Edition → List ℕ → List Hint
block_hints edition text =
    hints_of_each (declaration_hints edition) (declaration_in_block edition) text

-- the same of the block that begins at the start of a text, if one does
abbrev pub opened_hints : Edition → List ℕ → List Hint
opened_hints edition text =
    if starts open_brace text then block_hints edition (past_one text) else []

-- ---- statements

-- the hints on a rule set whose head has these parts and then the rest: those on the head, and if a
-- selector is kept, those on the values of the block
abbrev pub headed_hints : Edition → (text : List ℕ) → List HeadPart → (rest : List ℕ) → List Hint
headed_hints edition text head rest =
    head_hints text head
    ++ (if keeps_one head then opened_hints edition (from_brace rest) else [])

-- the hints on a rule set; a comma before its head belongs to it
abbrev pub rule_set_hints : Edition → List ℕ → List Hint
rule_set_hints edition text =
    headed_hints edition text (head_parts edition (past_byte comma text))
    (parts edition (past_byte comma text)).1

-- the hints on a statement; an at-rule has none
abbrev pub statement_hints : Edition → List ℕ → List Hint
statement_hints edition text =
    if starts at_sign text then [] else rule_set_hints edition text

-- the three bytes of a byte order mark
abbrev pub mark_bytes : List ℕ
mark_bytes = 239 ∷ 187 ∷ 191 ∷ []

-- the hint on a byte order mark at the start of a text, if there is one
abbrev pub mark_hints : List ℕ → List Hint
mark_hints text = hint_if (starts_with eqb text mark_bytes) text byte_order_mark

-- The hints on a style sheet's text: that it begins with a byte order mark, and then those on its
-- statements, in order.
unfoldable pub hints : Edition → List ℕ → List Hint
hints edition text =
    mark_hints text
    ++ hints_of_each (λ t. statement_hints edition (past_blank t)) (next_statement edition) text
