-- What queries are made of.
use Rattle.std.specs.Prelude.{ℕ, List}
use Rattle.call_answers.specs.Calls.{Passed, passed_of}
use Rattle.page_calls.specs.declared.modern.document_kind.DocumentKind.{DocumentKind}
use Rattle.simplecss_calls.specs.WinnerNumbers.{PassedSheets, sheets_of}
use Rattle.kept_pages.specs.Sources.{passed_in}
use Rattle.kept_queries.specs.declared.arrays.PassedQuery.{PassedQuery}
use Rattle.kept_queries.specs.declared.arrays.QueryArrays.{QueryArrays}
use Rattle.kept_queries.specs.declared.arrays.SheetArrays.{SheetArrays}

-- What a query is made of: a tree that is passed, and how its document reads the names of selectors; style sheets, and
-- the most declarations that their rules may hold; and two texts of declarations for each element, with their ends.
pub record QuerySource : Type 0 where
  pub kind : DocumentKind
  pub passed : Passed
  pub sheets : PassedSheets
  pub limit : ℕ
  pub own : List ℕ
  pub own_ends : List ℕ

-- what contracts see of what is passed
abbrev pub source_of : PassedQuery → QuerySource
source_of p = record {
  kind = p.kind;
  passed = passed_of p.tree;
  sheets = sheets_of p.sheets;
  limit = p.limit;
  own = p.own.texts.now;
  own_ends = p.own.ends.now;
}

-- the sheets of which this is the copy
abbrev pub sheets_in : SheetArrays → PassedSheets
sheets_in arrays = record {
  texts = arrays.texts.items;
  ends = arrays.ends.items;
  origins = arrays.origins.items;
  groups = arrays.groups.items;
  group_ends = arrays.group_ends.items;
  around = arrays.around.items;
  depths = arrays.depths.items;
  namespaces = arrays.namespaces.items;
  namespace_ends = arrays.namespace_ends.items;
}

-- what the copy is made of
abbrev pub made_of : QueryArrays → QuerySource
made_of arrays = record {
  kind = arrays.kind;
  passed = passed_in arrays.page;
  sheets = sheets_in arrays.sheets;
  limit = arrays.limit;
  own = arrays.own.items;
  own_ends = arrays.own_ends.items;
}
