-- Where a statement is, from what is left before it and after it.
-- Serves `StatementReader::{read_next, next_range}` (where a statement begins and ends).
use Rattle.std.proofs.Common.{◌≡◌, ℕ, ◌<◌, ◌≤◌, List, length, drop, Some, None, sym, ap, ◌∙◌, subst, arith, if◌then◌else◌, option_map}
use Rattle.std.specs.Str.{IsCharBoundary}
use Rattle.std.proofs.lemmas.List.{length-drop}
use Rattle.css_text.specs.Comments.{past_blank}
use Rattle.simplecss_grammar.specs.Statements.{statement, ends_statements, next_statement}
use Rattle.css_text.specs.ThisEdition.{this_edition}
use Rattle.css_text.proofs.bytes.GapLemmas.{past_blank-again}
use Rattle.css_text.proofs.reading.TakesLemmas.{length-past_blank}
use Rattle.simplecss.specs.declared.sheet.statement_reader.Statement.{Statement}
use Rattle.simplecss.specs.StatementOffsets.{IsNextRange, OccursNext}
use Rattle.simplecss.specs.RuleViews.{rules_of}
use Rattle.simplecss.proofs.StatementLemmas.{statement-less, pair-of}

module _ (text : List ℕ) (offset start end : ℕ)
    (starts : drop start text ≡ past_blank (drop offset text)) (next : next_statement this_edition
    (drop offset text) ≡ Some (statement this_edition (drop start text)))
    (ends : drop end text ≡ (statement this_edition (drop start text)).1) where
  next_there : next_statement this_edition (drop start text)
      ≡ Some (statement this_edition (drop start text))
  next_there =
      ap (next_statement this_edition) starts
      ∙ ap (λ (t : List ℕ). if ends_statements t then None else Some (statement this_edition t))
      (past_blank-again (drop offset text))
      ∙ next

  -- a statement consumes something
  longer : length (drop end text) < length (drop start text)
  longer = statement-less this_edition (drop start text) (drop start text) (drop end text) next_there ends

  pub next_range : offset ≤ length text → IsCharBoundary text start → IsCharBoundary text end
      → IsNextRange text offset start end
  next_range within starts_at ends_at =
      let blank : length (drop start text) ≤ length (drop offset text) = subst (λ (t : List ℕ).
      length t ≤ length (drop offset text)) (sym starts) (length-past_blank (drop offset text)) in
      record {
        starts = starts;
        ends = ap (option_map (λ read. read.1)) next ∙ ap Some (sym ends);
        rising = (
          omega (
            arith,
            blank,
            within,
            starts_at.0,
            length-drop start text,
            length-drop offset text,
          ),
          omega (
            arith,
            longer,
            starts_at.0,
            ends_at.0,
            length-drop start text,
            length-drop end text,
          ),
          ends_at.0,
        );
        starts_at = starts_at;
        ends_at = ends_at;
      }

-- the same of a statement with its rules
pub occurs_next : (text : List ℕ) (offset : ℕ) (s : Statement)
    → drop s.start text ≡ past_blank (drop offset text)
    → next_statement this_edition (drop offset text)
    ≡ Some (statement this_edition (drop s.start text))
    → drop s.end text ≡ (statement this_edition (drop s.start text)).1
    → offset ≤ length text → IsCharBoundary text s.start → IsCharBoundary text s.end
    → rules_of s.rules.items ≡ (statement this_edition (drop s.start text)).0
    → OccursNext text offset s
occurs_next text offset s starts next ends within starts_at ends_at rules =
    let range = next_range text offset s.start s.end starts next ends within starts_at ends_at in
    record {
      start = starts;
      reads = next ∙ ap Some (pair-of rules ends);
      rising = range.rising;
      starts_at = starts_at;
      ends_at = ends_at;
    }
