-- What a caller in C makes a query of, and asks it.
use Rattle.std.specs.Prelude.{ℕ, ◌==◌, if◌then◌else◌, Option, None, Some, option_map}
use Rattle.call_answers.specs.Calls.{passed_of}
use Rattle.call_answers.specs.declared.elements.PassedTree.{PassedTree}
use Rattle.page_calls.specs.declared.modern.document_kind.DocumentKind.{DocumentKind}
use Rattle.page_calls.specs.declared.modern.ranges.ElementRange.{ElementRange}
use Rattle.simplecss_calls.specs.Grammars.{document_kind_of, grammar_of}
use Rattle.simplecss_calls.specs.WinnerNumbers.{sheets_of}
use Rattle.simplecss_calls.specs.declared.contents.AskedNames.{AskedNames}
use Rattle.simplecss_calls.specs.declared.contents.ElementContent.{ElementContent}
use Rattle.simplecss_calls.specs.declared.contents.ElementContent.TheVariants.{Explained, Matches, Named, Winners}
use Rattle.simplecss_calls.specs.declared.contents.OwnTexts.{OwnTexts}
use Rattle.simplecss_calls.specs.declared.winners.Sheets.{Sheets}
use Rattle.kept_queries.specs.Sources.{QuerySource}
use Rattle.kept_queries.specs.declared.read_query.NumbersAsked.{NumbersAsked}
use Rattle.kept_queries.specs.declared.read_query.NumbersAsked.TheVariants.{Elements, Rules}

-- what is passed, where the grammar is a modern one
abbrev pub source_passed : PassedTree → (grammar : ℕ) → Sheets → (limit : ℕ) → OwnTexts → Option QuerySource
source_passed tree grammar sheets limit own =
    option_map (λ (kind : DocumentKind). record {
      kind = kind;
      passed = passed_of tree;
      sheets = sheets_of sheets;
      limit = limit;
      own = own.texts.now;
      own_ends = own.ends.now;
    }) (document_kind_of (grammar_of grammar))

abbrev pub of_elements : ElementContent → ElementRange → (most : ℕ) → NumbersAsked
of_elements content range most = Elements (record { content = content; range = range; most = most })

-- What is asked by a number: 0 is what wins, 1 what wins of each of some properties, 2 which rules match, 3 all that
-- applies of a property, each of the elements of a range; and 4 is the rules. By others nothing is asked.
abbrev pub numbers_asked : (number : ℕ) → AskedNames → ElementRange → (most : ℕ) → Option NumbersAsked
numbers_asked number names range most =
    if number == 0 then Some (of_elements Winners range most)
    else (if number == 1 then Some (of_elements (Named names) range most)
    else (if number == 2 then Some (of_elements Matches range most)
    else (if number == 3 then Some (of_elements (Explained names) range most)
    else (if number == 4 then Some Rules
    else None))))
