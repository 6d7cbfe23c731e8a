-- What a query is that was read.
use Rattle.std.specs.Prelude.{ℕ, Vec, List, map, Option}
use Rattle.std.specs.Borrow.{Bor}
use Rattle.css_styles.specs.StyleViews.{StyleRulesText}
use Rattle.css_tree.specs.declared.numbered_tree.tree_numbers.TreeNumbers.{TreeNumbers}
use Rattle.call_answers.specs.declared.elements.ReadTree.{ReadTree}
use Rattle.page_calls.specs.declared.modern.document_kind.DocumentKind.{DocumentKind}
use Rattle.kept_pages.specs.ReadPages.{counted_page}
use Rattle.kept_queries.specs.Queries.{QueryText}

abbrev pub query_text : {Z : Type 0} → DocumentKind → ReadTree → Option TreeNumbers → StyleRulesText
    → Vec (Bor (List ℕ)) Z → QueryText
query_text kind read numbers rules own = record {
  kind = kind;
  page = counted_page read.rows numbers;
  rules = rules.rules;
  lists = rules.lists;
  own = map (λ (text : Bor (List ℕ)). text.now) own.items;
}
