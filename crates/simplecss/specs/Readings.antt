-- What reading texts into a style sheet gives.
use Rattle.std.specs.Prelude.{◌≡◌, ◌≢◌, ◌↔◌, ◌<◌, ℕ, Bool, false, if◌then◌else◌, List, [], ◌∷◌, ◌++◌, filter, Result, Err, OnOk, OnErr}
use Rattle.std.specs.List.{All, AllPass, flat_map, list_all}
use Rattle.css_text.specs.Characters.{Edition}
use Rattle.simplecss_grammar.specs.Statements.{StyleRule, has_declaration, kept, is_open_comment}
use Rattle.simplecss_grammar.specs.Sheets.{ordered, sheet}
use Rattle.simplecss_grammar.specs.Skipped.{Skip, add_each, skipped}
use Rattle.simplecss_grammar.specs.PrintingLaws.{IsNarrow, SelectorsReadBack, PrintsBack, has_wide_space}
use Rattle.css_text.specs.declared.sheet_error.SheetError.{SheetError}
use Rattle.css_text.specs.declared.sheet_error.SheetError.TheVariants.{TooManyDeclarations, Memory}
use Rattle.simplecss.specs.DeclarationCounts.{kept_in_all}

-- each text is a blank and then a comment that is not closed
abbrev pub are_open_comments : List (List ℕ) → Bool
are_open_comments texts = list_all is_open_comment texts

-- The rules of a sheet after texts were read into it: the old rules that have a declaration and then
-- those of the texts, in order. Texts that are all open comments change nothing.
abbrev pub read_into : Edition → (old : List StyleRule) → (texts : List (List ℕ)) → List StyleRule
read_into edition old texts =
    if are_open_comments texts then old
    else ordered (filter has_declaration old ++ flat_map (kept edition) texts)

-- The state of a reporter after texts were read: each text is begun, and then what reading it skips
-- is added, in order.
abbrev pub reports_of : {S : Type 0} → (begun : S → List ℕ → S) → (add : S → Skip → S) → Edition
    → S → (texts : List (List ℕ)) → S
reports_of begun add edition state [] = state
reports_of begun add edition state (text ∷ texts) =
    reports_of begun add edition (add_each add (begun state text) (skipped edition text)) texts

-- A sheet had the rules `old`, then was to read `texts` with at most `most` declarations, and now
-- has the rules `new`. Its reporter, which begins a text by `begun` and adds a report by `add`, was
-- in the state `before` and is in the state `after`.
pub record ReadsInto {S T : Type 0} (begun : S → List ℕ → S) (add : S → Skip → S) (edition : Edition)
    (old : List StyleRule) (texts : List (List ℕ)) (most : ℕ) (before : S)
    (result : Result T SheetError) (new : List StyleRule) (after : S) : Type 0 where
  -- The texts are refused exactly if their rules would hold more declarations, unless an allocation
  -- fails first.
  pub limit : (result ≢ Err Memory)
      → (result ≡ Err TooManyDeclarations) ↔ (most < kept_in_all edition texts)
  pub ok : OnOk result (new ≡ read_into edition old texts)
  pub err : OnErr result (new ≡ old)
  -- If the old rules are the sheet of some texts, the new ones are the sheet of these and those that
  -- were read. Each of them has a declaration.
  pub sheet_of : (earlier : List (List ℕ)) → old ≡ sheet edition earlier
      → OnOk result (new ≡ sheet edition (earlier ++ texts))
  pub filled : (earlier : List (List ℕ)) → old ≡ sheet edition earlier
      → AllPass has_declaration new
  -- Printed selectors and printed sheets read as what was printed.
  pub selectors : SelectorsReadBack edition old → SelectorsReadBack edition new
  pub prints_back : (earlier : List (List ℕ)) → All IsNarrow earlier
      → All (λ text. has_wide_space text ≡ false) texts → old ≡ sheet edition earlier
      → OnOk result (PrintsBack edition new)
  -- The reporter is told of each text once, before it is read, and then receives exactly what reading
  -- it skips, in order.
  pub reported : OnOk result (after ≡ reports_of begun add edition before texts)
