-- What a page with edits is.
use Rattle.std.specs.Prelude.{◌≡◌, ℕ, true, None, List, length, map}
use Rattle.css_html.specs.Views.{token_of}
use Rattle.css_html.specs.declared.tokenizer.Token.{Token}
use Rattle.css_html_tree.specs.Reads.{AreStartTags}
use Rattle.css_html_tree.specs.Rows.{AreRows}
use Rattle.css_html_tree.specs.declared.page.Row.{Row}
use Rattle.css_xml.specs.Documents.{IsDocument}
use Rattle.html_edits.specs.Placing.{AreSplices, begin_tags, put_places}
use Rattle.html_edits.specs.Shapes.{ranks_from, shapes_from}
use Rattle.html_edits.specs.Splicing.{are_in_order, spliced}
use Rattle.html_edits.specs.declared.edits.Edit.{Edit}
use Rattle.html_edits.specs.declared.edits.Language.{Language}
use Rattle.html_edits.specs.declared.edits.Language.TheVariants.{Html, Xml}
use Rattle.html_edits.specs.declared.splicing.Splice.{Splice}
use Rattle.html_edits.specs.declared.shapes.Shape.{Shape}

-- the start tags that were read of a page, or those of a document
abbrev pub AreTags : Language → (page : List ℕ) → List Token → Type 0
AreTags Html page tags = AreStartTags page (map token_of tags)
AreTags Xml page tags = IsDocument page (map token_of tags)

-- what was read of a page: start tags, and nodes in document order
pub record IsRead (language : Language) (page : List ℕ) (tags : List Token) (rows : List Row) : Type 0 where
  pub start_tags : AreTags language page tags
  pub nodes : AreRows (length tags) rows

-- the shapes of the nodes of a page, which has these tags
abbrev pub tree_of : Language → List Token → List Row → List Shape
tree_of language tags rows = shapes_from (ranks_from language 0 (map token_of tags)) None None rows

-- A text was read as tags and nodes. Its tree is this one, and start tags begin at these places.
pub record HasTree (language : Language) (tree : List Shape) (places : List ℕ) (text : List ℕ) : Type 0
  where
    pub tags : List Token
    pub rows : List Row
    pub read : IsRead language text tags rows
    pub same : tree_of language tags rows ≡ tree
    pub elements : begin_tags text places tags ≡ true

-- A text is a page with edits. It is the page with what each edit writes in its place, and every other byte
-- is there, in order. Both were read, and their trees are the same: each node that is not a sheet, not in one
-- and not a comment has the same kind, name, namespace, depth and start tag. Each element that is put in is
-- read as one, and so is in no comment, no tag and no other text. In XML both are documents.
pub record IsEdited (language : Language) (page : List ℕ) (edits : List Edit) (text : List ℕ) : Type 0 where
  pub tags : List Token
  pub rows : List Row
  pub splices : List Splice
  pub read : IsRead language page tags rows
  pub made : AreSplices language page tags edits splices
  pub order : are_in_order 0 (length page) splices ≡ true
  pub written : text ≡ spliced page 0 splices
  pub tree : HasTree language (tree_of language tags rows) (put_places 0 0 edits splices) text
