-- What is shown of a sheet that was read, or was not.
-- Serves `show::show` and the runs.
use Rattle.std.proofs.Common.{◌≡◌, ◌≢◌, ℕ, List, Option, refl, sym, subst}
use Rattle.std.specs.Prelude.{Result, Ok, Err}
use Rattle.simplecss.specs.ThisEdition.{this_edition}
use Rattle.simplecss.specs.Statements.{StyleRule}
use Rattle.simplecss.specs.Skipped.{Skip}
use Rattle.simplecss.specs.Readings.{ReadsInto}
use Rattle.simplecss.specs.declared.SheetError.TheVariants as sheet_error
use Rattle.cssq.specs.declared.runs.RunFault.{RunFault}
use Rattle.cssq.specs.declared.show.View.{View}
use Rattle.cssq.specs.declared.show.ShowError.{ShowError}
use Rattle.cssq.specs.declared.show.ShowError.TheVariants.{TooManyDeclarations, Run}
use Rattle.cssq.specs.Showing.{IsShown, Shows, run_outcome}
use Rattle.cssq.specs.Writing.{Writes}
use Rattle.cssq.proofs.Written.{keeps_itself}

-- the outcome of what was to be written after the texts were read
abbrev pub shown_outcome : Result (Unit {0}) RunFault → Result (Unit {0}) ShowError
shown_outcome (Ok x) = Ok x
shown_outcome (Err fault) = Err (Run fault)

same_outcome : (w : Result (Unit {0}) RunFault) → run_outcome (shown_outcome w) ≡ w
same_outcome (Ok x) = refl
same_outcome (Err fault) = refl

never_too_many : (w : Result (Unit {0}) RunFault) → shown_outcome w ≢ Err TooManyDeclarations
never_too_many (Ok x) is = absurd (cc)
never_too_many (Err fault) is = absurd (cc)

module _ {S : Type 0} {begun : S → List ℕ → S} {add : S → Skip → S} {view : View}
    {old : List StyleRule} {texts : List (List ℕ)} {most : ℕ} {before : S}
    {new : List StyleRule} {after : S} where
  -- beyond the limit nothing was written
  pub too_many_shown : (known : Option (List ℕ))
      → ReadsInto {T = Unit {0}} begun add this_edition old texts most before
      (Err sheet_error.TooManyDeclarations) new after
      → Shows begun add view old texts most before (Err TooManyDeclarations) new after known known
  too_many_shown known reads = record {
    runs = λ earlier is. keeps_itself known;
    edited = keeps_itself known;
    limit = λ ne. (λ is. (reads.limit (λ e. absurd (cc))).0 refl, λ lt. refl);
    read = λ were. absurd were;
    unread = λ is. reads.err;
    reported = λ were. absurd were;
  }

  -- the texts were read, and then written as far as the writer took them
  pub read_shown : (w : Result (Unit {0}) RunFault) (had has : Option (List ℕ))
      → ReadsInto {T = Unit {0}} begun add this_edition old texts most before (Ok tt) new after
      → Writes (IsShown view new) w had has
      → Shows begun add view old texts most before (shown_outcome w) new after had has
  read_shown w had has reads wrote =
      let due : (rules : List StyleRule) → new ≡ rules
      → Writes (IsShown view rules) (run_outcome (shown_outcome w)) had has =
      λ rules is. subst (λ w. Writes (IsShown view rules) w had has) (sym (same_outcome w))
      (subst (λ rules. Writes (IsShown view rules) w had has) is wrote) in
      record {
        runs = λ earlier is. due _ (reads.sheet_of earlier is);
        edited = due _ reads.ok;
        limit = λ ne. (
          λ is. absurd (never_too_many w is),
          λ lt. let refused = (reads.limit (λ e. absurd (cc))).1 lt in absurd (cc),
        );
        read = λ were. reads.ok;
        unread = λ is. absurd (never_too_many w is);
        reported = λ were. reads.reported;
      }
