-- What a page is that was read and counted.
use Rattle.std.specs.Prelude.{List, [], map, false, Option, None, Some}
use Rattle.css_selector_text.specs.NameViews.{prefix_of}
use Rattle.css_elements.specs.Rows.{Row}
use Rattle.css_tree.specs.Pages.{Page}
use Rattle.css_tree.specs.TreeNumbers.{AreNumbersOf, page_by}
use Rattle.css_tree.specs.declared.numbered_tree.tree_numbers.TreeNumbers.{TreeNumbers}
use Rattle.call_answers.specs.Calls.{declared_by}
use Rattle.call_answers.specs.declared.elements.ReadTree.{ReadTree}
use Rattle.page_calls.specs.declared.modern.document_kind.DocumentKind.{DocumentKind}
use Rattle.kept_pages.specs.Pages.{PageText}

-- what was counted is there, and is of these elements
abbrev pub AreCounted : List Row → Option TreeNumbers → Type 0
AreCounted rows None = ⊥
AreCounted rows (Some numbers) = AreNumbersOf rows numbers

-- the page by what was counted
abbrev pub counted_page : List Row → Option TreeNumbers → Page
counted_page rows None = record {
  rows = rows;
  given = record { texts = []; scope = None; states = []; namespaces = []; attributes = [] };
  marks = [];
  is_html = false;
}
counted_page rows (Some numbers) = page_by rows numbers

abbrev pub page_text : DocumentKind → ReadTree → Option TreeNumbers → PageText
page_text kind read numbers = record {
  kind = kind;
  names = declared_by (map (λ name. name.now) read.states.items) (map prefix_of read.prefixes.items);
  page = counted_page read.rows numbers;
}
