-- The offsets of statements in the text of a style sheet.
use Rattle.std.specs.Prelude.{◌≡◌, ℕ, ◌<◌, ◌≤◌, List, length, drop, Some, option_map}
use Rattle.std.specs.Str.{IsCharBoundary}
use Rattle.css_text.specs.Comments.{past_blank}
use Rattle.simplecss_grammar.specs.Statements.{next_statement}
use Rattle.css_text.specs.ThisEdition.{this_edition}
use Rattle.simplecss.specs.declared.sheet.statement_reader.Statement.{Statement}
use Rattle.simplecss.specs.RuleViews.{rules_of}

-- The next statement after an offset of the text begins after the blank there and ends where the rest
-- is the grammar's. Both are character boundaries.
pub record IsNextRange (text : List ℕ) (offset start end : ℕ) : Type 0 where
  pub starts : drop start text ≡ past_blank (drop offset text)
  pub ends : option_map (λ read. read.1) (next_statement this_edition (drop offset text))
      ≡ Some (drop end text)
  pub rising : (offset ≤ start) × (start < end) × (end ≤ length text)
  pub starts_at : IsCharBoundary text start
  pub ends_at : IsCharBoundary text end

-- The statement is the next one after an offset of the text: it begins after the blank there, has
-- the rules of the grammar, and the rest after it is the grammar's.
pub record OccursNext (text : List ℕ) (offset : ℕ) (statement : Statement) : Type 0 where
  pub start : drop statement.start text ≡ past_blank (drop offset text)
  pub reads : next_statement this_edition (drop offset text)
      ≡ Some (rules_of statement.rules.items, drop statement.end text)
  pub rising : (offset ≤ statement.start) × (statement.start < statement.end)
      × (statement.end ≤ length text)
  pub starts_at : IsCharBoundary text statement.start
  pub ends_at : IsCharBoundary text statement.end
