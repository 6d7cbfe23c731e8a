-- What a query is that is kept.
use Rattle.std.specs.Prelude.{[], Option, None, Some}
use Rattle.kept_pages.specs.Objects.{nothing_passed}
use Rattle.page_calls.specs.declared.modern.document_kind.DocumentKind.TheVariants.{AsWritten}
use Rattle.kept_queries.specs.Sources.{QuerySource, made_of}
use Rattle.kept_queries.specs.Visits.{HoldsQuery}
use Rattle.kept_queries.specs.declared.kept.Kept.{Kept}

-- what is made of no sheets and a tree without elements
abbrev pub nothing : QuerySource
nothing = record {
  kind = AsWritten;
  passed = nothing_passed;
  sheets = record {
    texts = [];
    ends = [];
    origins = [];
    groups = [];
    group_ends = [];
    around = [];
    depths = [];
    namespaces = [];
    namespace_ends = [];
  };
  limit = 0;
  own = [];
  own_ends = [];
}

-- what an object is made of, and that its query is there and is that of it
abbrev pub kept_source : Option Kept → QuerySource
kept_source None = nothing
kept_source (Some kept) = made_of kept.read_of

abbrev pub IsOpen : Option Kept → Type 0
IsOpen None = ⊥
IsOpen (Some kept) = HoldsQuery (made_of kept.read_of) kept.value
