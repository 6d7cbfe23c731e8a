-- What a sheet with edits is.
use Rattle.std.specs.Prelude.{◌≡◌, ℕ, true, List, length}
use Rattle.css_edits.specs.Changes.{edited, may_be_made}
use Rattle.css_edits.specs.Entries.{entries, said_in}
use Rattle.css_edits.specs.Splicing.{are_in_order, spliced}
use Rattle.css_edits.specs.declared.edits.Edit.{Edit}

-- A text is a sheet with edits. It is the sheet with the text of each edit in its place, and every other byte is
-- there, in order. Read again, it says what the sheet said, but for what the edits change; and no edit begins or
-- ends a rule that it does not end or begin.
pub record IsEdited (sheet : List ℕ) (edits : List Edit) (text : List ℕ) : Type 0 where
  pub order : are_in_order 0 (length sheet) edits ≡ true
  pub written : text ≡ spliced sheet 0 edits
  pub read : said_in text ≡ edited (entries sheet) edits
  pub made : may_be_made 0 (entries sheet) edits ≡ true
