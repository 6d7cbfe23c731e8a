-- What is shown of a style sheet, with a reporter and a limit.
use Rattle.std.specs.Prelude.{◌≡◌, ◌≢◌, ◌↔◌, ◌<◌, ℕ, List, ◌++◌, Option, Result, Ok, Err}
use Rattle.simplecss.specs.ThisEdition.{this_edition}
use Rattle.simplecss.specs.Statements.{StyleRule}
use Rattle.simplecss.specs.Sheets.{sheet}
use Rattle.simplecss.specs.Skipped.{Skip}
use Rattle.simplecss.specs.DeclarationCounts.{kept_in_all}
use Rattle.simplecss.specs.Readings.{read_into, reports_of}
use Rattle.cssq.specs.declared.runs.RunFault.{RunFault}
use Rattle.cssq.specs.declared.runs.RunFault.TheVariants.{Refused, Tree, Memory, Output}
use Rattle.cssq.specs.declared.show.View.{View}
use Rattle.cssq.specs.declared.show.View.TheVariants.{Rules, Matches, Winners}
use Rattle.cssq.specs.declared.show.ShowError.{ShowError}
use Rattle.cssq.specs.declared.show.ShowError.TheVariants.{TooManyDeclarations, Run}
use Rattle.cssq.specs.SheetRuns.{IsSheetText}
use Rattle.cssq.specs.MatchRuns.{IsMatchOutput}
use Rattle.cssq.specs.StyleRuns.{IsStyleOutput}
use Rattle.cssq.specs.Writing.{Writes}

-- what must be written of a sheet with these rules, or the fault of the tree
abbrev pub IsShown : View → List StyleRule → Result (List ℕ) RunFault → Type 0
IsShown Rules rules = IsSheetText rules
IsShown (Matches tree) rules = IsMatchOutput rules tree.now
IsShown (Winners tree name) rules = IsStyleOutput rules tree.now name.now

-- the fault of a run for the same reason: more declarations than are allowed are want of memory
abbrev pub run_fault_of : ShowError → RunFault
run_fault_of TooManyDeclarations = Memory
run_fault_of (Run fault) = fault

-- the outcome of a run that ends in the same way
abbrev pub run_outcome : Result (Unit {0}) ShowError → Result (Unit {0}) RunFault
run_outcome (Ok x) = Ok x
run_outcome (Err error) = Err (run_fault_of error)

-- the texts were read: nothing failed, or only the tree or the writer did
abbrev pub WereRead : Result (Unit {0}) ShowError → Type 0
WereRead (Ok x) = Unit {0}
WereRead (Err (Run (Tree fault))) = Unit {0}
WereRead (Err (Run Output)) = Unit {0}
WereRead (Err (Run Refused)) = ⊥
WereRead (Err (Run Memory)) = ⊥
WereRead (Err TooManyDeclarations) = ⊥

-- A sheet had the rules `old`; `texts` were to be read into it, with at most `most` declarations, and
-- a view of it was to be written. Now it has the rules `new`, the reporter, which begins a text by
-- `begun` and adds a report by `add`, went from the state `before` to the state `after`, and the
-- writer from what it `had` to what it `has`.
pub record Shows {S : Type 0} (begun : S → List ℕ → S) (add : S → Skip → S) (view : View)
    (old : List StyleRule) (texts : List (List ℕ)) (most : ℕ) (before : S)
    (result : Result (Unit {0}) ShowError) (new : List StyleRule) (after : S)
    (had has : Option (List ℕ)) : Type 0 where
  -- On a new sheet, and on one that has the rules of earlier texts, what is due of all texts
  -- was written as a run does.
  pub runs : (earlier : List (List ℕ)) → old ≡ sheet this_edition earlier
      → Writes (IsShown view (sheet this_edition (earlier ++ texts))) (run_outcome result) had has
  -- On any sheet, whatever was done to its rules, it is what is due of the rules that reading gives.
  pub edited : Writes (IsShown view (read_into this_edition old texts)) (run_outcome result) had has
  -- The texts are refused exactly if their rules would hold more declarations than the limit, unless
  -- an allocation fails.
  pub limit : result ≢ Err (Run Memory)
      → (result ≡ Err TooManyDeclarations) ↔ (most < kept_in_all this_edition texts)
  pub read : WereRead result → new ≡ read_into this_edition old texts
  pub unread : result ≡ Err TooManyDeclarations → new ≡ old
  pub reported : WereRead result → after ≡ reports_of begun add this_edition before texts
