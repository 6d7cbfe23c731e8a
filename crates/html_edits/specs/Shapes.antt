-- The shape of a page's tree, without sheets.
use Rattle.std.specs.Prelude.{ℕ, suc, Bool, true, false, ◌||◌, ◌==◌, if◌then◌else◌, nat_lt, List, [], ◌∷◌, Option, Some, None, slice_get}
use Rattle.css_html.specs.Tokens.{PlacedToken}
use Rattle.css_html_tree.specs.declared.page.Row.{Row}
use Rattle.css_html_tree.specs.declared.page.NodeKind.{NodeKind}
use Rattle.css_html_tree.specs.declared.page.NodeKind.TheVariants.{Document, Element, Text, Cdata, Comment, Doctype}
use Rattle.html_edits.specs.Attributes.{is_style_tag, is_link_tag}
use Rattle.html_edits.specs.declared.edits.Language.{Language}
use Rattle.html_edits.specs.declared.shapes.Shape.{Shape}
use Rattle.html_edits.specs.declared.shapes.Mark.{Mark}
use Rattle.html_edits.specs.declared.shapes.Mark.TheVariants.{Implied, Sheet, Tag}

-- the tag is that of a sheet
abbrev pub is_sheet_tag : Language → PlacedToken → Bool
is_sheet_tag language t = is_style_tag language t || is_link_tag language t

-- The index of each tag among those that are not of sheets, of which the first gets this one.
abbrev pub ranks_from : Language → ℕ → List PlacedToken → List (Option ℕ)
ranks_from language n [] = []
ranks_from language n (t ∷ tags) =
    if is_sheet_tag language t then None ∷ ranks_from language n tags
    else Some n ∷ ranks_from language (suc n) tags

-- a tag by its rank, if it has one
abbrev pub mark_of_rank : Option (Option ℕ) → Mark
mark_of_rank None = Sheet
mark_of_rank (Some None) = Sheet
mark_of_rank (Some (Some n)) = Tag n

-- the start tag of a node
abbrev pub mark_of : List (Option ℕ) → Option ℕ → Mark
mark_of ranks None = Implied
mark_of ranks (Some k) = mark_of_rank (slice_get ranks k)

-- a sheet hides what is below its depth
abbrev pub hidden_by : ℕ → Mark → Option ℕ
hidden_by depth Implied = None
hidden_by depth Sheet = Some depth
hidden_by depth (Tag n) = None

-- below which depth nodes are hidden from a node of this depth on, where those below another one were
abbrev pub hidden_after : Option ℕ → (depth : ℕ) → Mark → Option ℕ
hidden_after None depth mark = hidden_by depth mark
hidden_after (Some above) depth mark =
    if nat_lt above depth then Some above else hidden_by depth mark

-- what is compared of a node: all but its places
abbrev pub shape_of : Row → Mark → Shape
shape_of row mark = record {
  kind = row.kind;
  space = row.space;
  name = row.name;
  depth = row.depth;
  mark = mark;
}

-- what a node is where trees are compared
pub data Sort : Type 0 where
  text : Sort
  comment : Sort
  other : Sort

-- what a node of this kind is
abbrev pub sort_of : NodeKind → Sort
sort_of Document = other
sort_of Element = other
sort_of Text = text
sort_of Cdata = text
sort_of Comment = comment
sort_of Doctype = other

-- the text before is of this depth
abbrev pub is_after_text : Option ℕ → (depth : ℕ) → Bool
is_after_text None depth = false
is_after_text (Some before) depth = before == depth

-- A node that is not hidden is left out if it is a comment, or a text beside another one: texts may join where
-- a sheet was between them.
abbrev pub is_left : Sort → (texts : Option ℕ) → (depth : ℕ) → Bool
is_left text texts depth = is_after_text texts depth
is_left comment texts depth = true
is_left other texts depth = false

-- a node is left out, also because it is hidden
abbrev pub is_left_out : (hidden : Option ℕ) → Sort → (texts : Option ℕ) → (depth : ℕ) → Bool
is_left_out None sort texts depth = is_left sort texts depth
is_left_out (Some above) sort texts depth = true

-- of what depth the text is that a text after this node would be beside
abbrev pub texts_after : (hidden : Option ℕ) → Sort → (texts : Option ℕ) → (depth : ℕ) → Option ℕ
texts_after None text texts depth = Some depth
texts_after None comment texts depth = texts
texts_after None other texts depth = None
texts_after (Some above) sort texts depth = texts

-- The shapes of the nodes that are not sheets and not in one, and not comments. Texts beside one another are one.
abbrev pub shapes_from : List (Option ℕ) → (hidden texts : Option ℕ) → List Row → List Shape
shapes_from ranks hidden texts [] = []
shapes_from ranks hidden texts (row ∷ rows) =
    let mark = mark_of ranks row.tag in
    let now = hidden_after hidden row.depth mark in
    let more = shapes_from ranks now (texts_after now (sort_of row.kind) texts row.depth) rows in
    if is_left_out now (sort_of row.kind) texts row.depth then more else shape_of row mark ∷ more
