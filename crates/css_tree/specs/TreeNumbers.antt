-- What is counted of a tree and said of it, without the tree.
use Rattle.std.specs.Prelude.{◌≡◌, ◌<◌, ◌^◌, List, [], length, map, None, IfSome, is_some}
use Rattle.css_elements.specs.Rows.{Row}
use Rattle.css_tree.specs.declared.numbered_tree.tree_numbers.TreeNumbers.{TreeNumbers}
use Rattle.css_tree.specs.Attributes.{AreFound}
use Rattle.css_tree.specs.HtmlViews.{AreStates}
use Rattle.css_tree.specs.Keys.{AreFamilies, AreKinds, AreLanguages}
use Rattle.css_tree.specs.Pages.{Page}
use Rattle.css_tree.specs.PageViews.{attributes_of, state_of}

-- all is counted of these elements
abbrev pub AreNumbersOf : List Row → TreeNumbers → Type 0
AreNumbersOf rows numbers =
    AreFamilies rows numbers.families
    × AreKinds rows numbers.namespaces.items numbers.kinds
    × AreLanguages rows numbers.languages.items (length rows)
    × AreFound rows numbers.attributes
    × (length numbers.texts.items ≡ length rows)
    × IfSome numbers.html (λ states. AreStates rows states.items (length rows))
    × (length rows < 2 ^ 32)

-- the page of elements, with what is said of them, of which no question is asked: no element is named as the scoping
-- root, and no list has a number
abbrev pub page_by : List Row → TreeNumbers → Page
page_by rows numbers = record {
  rows = rows;
  given = record {
    texts = numbers.texts.items;
    scope = None;
    states = map state_of numbers.states.items;
    namespaces = numbers.namespaces.items;
    attributes = map attributes_of numbers.namespaced_attributes.items;
  };
  marks = [];
  is_html = is_some numbers.html;
}

-- the page without what belongs to a question
abbrev pub unasked : Page → Page
unasked page = record {
  rows = page.rows;
  given = record {
    texts = page.given.texts;
    scope = None;
    states = page.given.states;
    namespaces = page.given.namespaces;
    attributes = page.given.attributes;
  };
  marks = [];
  is_html = page.is_html;
}
