-- Blocks: the declarations between two braces, and the end of a block after a broken declaration.
use Rattle.std.specs.Prelude.{ℕ, zero, suc, Bool, ◌||◌, ◌&&◌, ◌==◌, nat_lt, if◌then◌else◌, List, length, take, drop, slice_index, count_by, Option, None}
use Rattle.css_text.specs.AsciiBytes.{open_brace, close_brace}
use Rattle.css_text.specs.Reading.{Reading, got, fails, each}
use Rattle.css_text.specs.Bytes.{starts, past_byte}
use Rattle.css_text.specs.Characters.{Edition}
use Rattle.simplecss_grammar.specs.Declarations.{StyleDeclaration, declaration, next_declaration}

-- The least number below `n` for which the test is true, or `n` if there is none. Below `n + 1`
-- that is the least one below `n` if there is one, and else `n` itself if the test is true of it:
-- so the number is the least, though the definition counts down from `n`.
abbrev pub least : (ℕ → Bool) → ℕ → ℕ
least test zero = 0
least test (suc n) = if nat_lt (least test n) n then least test n else (if test n then n else suc n)

-- how often the byte occurs in the text
abbrev pub count_of : ℕ → List ℕ → ℕ
count_of byte text = count_by (λ b. b == byte) text

-- a closing brace is at the offset, with as many opening as closing ones before it
abbrev pub closes_block : List ℕ → ℕ → Bool
closes_block text offset =
    slice_index text offset == close_brace
    && count_of open_brace (take offset text) == count_of close_brace (take offset text)

-- The end of the current block: the least offset that closes it, else the end of the text. Quotes
-- and comments are not considered.
unfoldable pub block_end : List ℕ → ℕ
block_end text = least (closes_block text) (length text)

-- the rest from the block's end on
abbrev pub from_block_end : List ℕ → List ℕ
from_block_end text = drop (block_end text) text

-- the text ends, or a closing brace follows
abbrev pub ends_list : List ℕ → Bool
ends_list text = length text == 0 || starts close_brace text

-- a declaration, if the list of declarations continues
abbrev pub declaration_in_block : Edition → List ℕ → Option (StyleDeclaration × List ℕ)
declaration_in_block edition text = if ends_list text then None else next_declaration edition text

-- The rest after a declaration. After a broken one everything is skipped up to the end of the
-- current block, and its brace.
abbrev pub past_broken : Reading StyleDeclaration → List ℕ
past_broken (got declared rest) = rest
past_broken (fails fault rest) = past_byte close_brace (from_block_end rest)

-- the rest after the list of declarations
abbrev pub past_list : Edition → List ℕ → List ℕ
past_list edition text = if ends_list text then text else past_broken (declaration edition text)

-- The declarations of a block after its opening brace, and the rest after the block. One closing
-- brace that follows directly is consumed, so a block that a broken declaration ended may consume a
-- further one.
unfoldable pub block : Edition → List ℕ → List StyleDeclaration × List ℕ
block edition text =
    let listed = each (declaration_in_block edition) text in
    (listed.0, past_byte close_brace (past_list edition listed.1))
