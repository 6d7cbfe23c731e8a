-- What elements say of sheets.
use Rattle.std.specs.Prelude.{ℕ, Bool, List}
use Rattle.page_sheets.specs.declared.nodes.Role.{Role}
use Rattle.page_sheets.specs.declared.nodes.SheetNode.{SheetNode}

-- An element that says something of sheets: its number, where its end tag begins or where it ends without one, and
-- what its attributes stand for, of which missing ones are empty.
pub record NodeText : Type 0 where
  pub role : Role
  pub number : ℕ
  pub place : ℕ
  pub rel : List ℕ
  pub type_name : List ℕ
  pub title : List ℕ
  pub href : List ℕ
  pub has_href : Bool
  pub is_disabled : Bool

-- an element by its texts
abbrev pub text_of : SheetNode → NodeText
text_of n = record {
  role = n.role;
  number = n.number;
  place = n.place;
  rel = n.rel.items;
  type_name = n.type_name.items;
  title = n.title.items;
  href = n.href.items;
  has_href = n.has_href;
  is_disabled = n.is_disabled;
}
