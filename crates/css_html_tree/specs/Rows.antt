-- The nodes of a page in document order.
use Rattle.std.specs.Prelude.{◌≡◌, ℕ, suc, ◌<◌, List, [], ◌∷◌, ◌++◌, length, MatchOption, IfSome, slice_index_or}
use Rattle.css_html_tree.specs.declared.page.Row.{Row}

-- The node is a child of one of these, and its depth is one more, or it has no parent and depth 0.
abbrev pub IsBelow : List Row → Row → Type 0
IsBelow rows row =
    MatchOption row.parent (row.depth ≡ 0)
    (λ p. (p < length rows) × (row.depth ≡ suc (slice_index_or rows p row).depth))

-- Nodes, each of which comes after its parent, with their depths, and start tags of so many.
pub data AreRows (tags : ℕ) : List Row → Type 0 where
  no_rows : AreRows tags []
  one_more : (rows : List Row) (row : Row) → AreRows tags rows → IsBelow rows row
      → IfSome row.tag (λ k. k < tags) → AreRows tags (rows ++ row ∷ [])
