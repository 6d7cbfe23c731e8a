-- The lines that a page keeps, and their relations.
use Rattle.std.specs.Prelude.{◌≡◌, ℕ, ◌+◌, ◌≤◌, List, [], ◌∷◌, ◌++◌, length, map, Some}
use Rattle.std.specs.List.{slice_get}
use Rattle.cssq_tree.specs.declared.tree.entry.Entry.{Entry}
use Rattle.cssq_tree.specs.declared.tree.Line.{Line}
use Rattle.cssq_tree.specs.declared.tree.TreeFault.{TreeFault}
use Rattle.cssq_tree.specs.declared.tree.TreeFault.TheVariants.{BadDepth, EmptyName, NoEquals, RepeatedKey, Memory}
use Rattle.cssq_tree.specs.TreeText.{Row, fields_of, row_of, faults_of_line}
use Rattle.cssq_tree.specs.internal.Spans.{name_in, attributes_in}
use Rattle.cssq_tree.specs.ParentsAndSiblings.{parent_index, previous_index}

-- what contracts see of a line
abbrev pub row : Entry → Row
row e =
    record { depth = e.depth; name = name_in e.fields.now; attributes = attributes_in e.fields.now }

-- what contracts see of all lines
abbrev pub rows : List Line → List Row
rows lines = map (λ l. row l.entry) lines

-- the depths of all lines
abbrev pub depths : List Line → List ℕ
depths lines = map (λ l. l.entry.depth) lines

-- each line keeps the indices of its parent and of its previous sibling
abbrev pub AreLinked : List Line → Type 0
AreLinked lines =
    (i : ℕ) (l : Line) → slice_get lines i ≡ Some l
    → (l.parent ≡ parent_index (depths lines) i) × (l.previous ≡ previous_index (depths lines) i)

-- ---- what the reader of a line reports

-- the first of a line's faults, or out of memory at the line if it has none
abbrev pub IsReportedFor : ℕ → List TreeFault → TreeFault → Type 0
IsReportedFor number faults (Memory line) = (line ≡ number) × (faults ≡ [])
IsReportedFor number faults (BadDepth line) = slice_get faults 0 ≡ Some (BadDepth line)
IsReportedFor number faults (EmptyName line) = slice_get faults 0 ≡ Some (EmptyName line)
IsReportedFor number faults (NoEquals line) = slice_get faults 0 ≡ Some (NoEquals line)
IsReportedFor number faults (RepeatedKey line) = slice_get faults 0 ≡ Some (RepeatedKey line)

-- the line has no fault, and is read as this entry
abbrev pub Says : ℕ → ℕ → List ℕ → Entry → Type 0
Says number limit line e =
    (faults_of_line number limit (fields_of line) ≡ []) × (row_of (fields_of line) ≡ row e)

-- A line was appended to others: it keeps what the text says, at a depth that is allowed. The next
-- line's depth is at most one more.
pub record IsAdded (old : List Line) (limit : ℕ) (text : List ℕ) (new : List Line) (next : ℕ)
    : Type 0 where
  pub line : Line
  pub added : new ≡ old ++ line ∷ []
  pub says : Says (length old + 1) limit text line.entry
  pub within : line.entry.depth ≤ limit
  pub next_limit : next ≡ line.entry.depth + 1
  pub linked : AreLinked new
