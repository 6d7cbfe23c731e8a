-- Which pieces of a selector may follow each other. Solid pieces, simple pieces, heads and
-- subselectors are defined in `Pieces`.
use Rattle.std.specs.Prelude.{ℕ, Bool, true, false, List}
use Rattle.css_text.specs.Reading.{Fault, no_comment, no_selector, unexpected_selector, unexpected_combinator}
use Rattle.simplecss_grammar.specs.declared.next_kind.NextKind.{NextKind}
use Rattle.simplecss_grammar.specs.declared.next_kind.NextKind.TheVariants.{Stop, Slash, Child, Adjacent, Universal, Id, Class, Attribute, Colon, Other}

-- The left side of a gap: open at the start of the text and after a combinator, closed after a
-- simple piece.
pub data Side : Type 0 where
  open_side : Side
  closed_side : Side

-- What is between the left side and what follows the gap.
pub data Answer : Type 0 where
  -- nothing: what follows is added as it is; at a stop and at a `/` the tokens end
  nothing : Answer
  -- a descendant combinator
  descends : Answer
  -- a fault, and what is left after it
  refuses : Fault → (after : List ℕ) → Answer

-- The table of neighbours, by the left side, whether the gap has a space byte, and the kind of what
-- follows it, with the rest where that begins and the rest after it. (A fault in place of a simple
-- piece, and a comment in the gap that is not closed, are defined with the endings.)
abbrev pub between : Side → Bool → NextKind → (start after : List ℕ) → Answer
-- at the start of the text, or after a combinator: only a simple piece may follow
between open_side spaced Stop start after = refuses no_selector start
between open_side spaced Slash start after = refuses no_selector start
between open_side spaced Child start after = refuses unexpected_combinator start
between open_side spaced Adjacent start after = refuses unexpected_combinator start
between open_side spaced Universal start after = nothing
between open_side spaced Id start after = nothing
between open_side spaced Class start after = nothing
between open_side spaced Attribute start after = nothing
between open_side spaced Colon start after = nothing
between open_side spaced Other start after = nothing
-- after a simple piece, whatever the gap: the end, or a combinator
between closed_side spaced Stop start after = nothing
between closed_side spaced Child start after = nothing
between closed_side spaced Adjacent start after = nothing
-- after a simple piece, without a space byte: a subselector continues the compound; another head
-- may not follow
between closed_side false Slash start after = nothing
between closed_side false Universal start after = refuses unexpected_selector start
between closed_side false Other start after = refuses unexpected_selector after
between closed_side false Id start after = nothing
between closed_side false Class start after = nothing
between closed_side false Attribute start after = nothing
between closed_side false Colon start after = nothing
-- after a simple piece and a space byte: a simple piece has a descendant combinator before it
between closed_side true Slash start after = refuses (no_comment start) after
between closed_side true Universal start after = descends
between closed_side true Id start after = descends
between closed_side true Class start after = descends
between closed_side true Attribute start after = descends
between closed_side true Colon start after = descends
between closed_side true Other start after = descends

-- the left side of the gap after a piece: open after a combinator, closed after a simple piece
abbrev pub side_after : NextKind → Side
side_after Child = open_side
side_after Adjacent = open_side
side_after Stop = closed_side
side_after Slash = closed_side
side_after Universal = closed_side
side_after Id = closed_side
side_after Class = closed_side
side_after Attribute = closed_side
side_after Colon = closed_side
side_after Other = closed_side
