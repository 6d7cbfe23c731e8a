-- What reading texts into a sheet gives, from the rules that it has then; and the same of one text.
-- Serves `StyleSheet::{read, parse, parse_more}` and the other calls that read.
use Rattle.std.proofs.Common.{◌≡◌, ◌<◌, ◌∷◌, [], ◌++◌, ◌∙◌, ℕ, suc, List, Bool, true, false, cond, ◌&&◌, arith, refl, ap, sym, subst, append-nil, append_assoc, flat_map, IsUtf8}
use Rattle.std.specs.Prelude.{◌≤◌, Result, Ok, Err, IfErr}
use Rattle.std.specs.Result.{IsErr}
use Rattle.std.specs.List.{All, filter, AllPass}
use Rattle.std.proofs.lemmas.List.Elements.{filter-append, All-append}
use Rattle.std.proofs.lemmas.Bool.{false≢true}
use Rattle.std.proofs.lemmas.Grind.{flat_map-append}
use Rattle.css_text.specs.Characters.{Edition}
use Rattle.simplecss_grammar.specs.Statements.{StyleRule, has_declaration, kept, is_open_comment}
use Rattle.simplecss_grammar.specs.Sheets.{is_smaller, ordered, sheet}
use Rattle.simplecss_grammar.specs.Skipped.{Skip}
use Rattle.simplecss_grammar.specs.PrintingLaws.{IsNarrow, SelectorsReadBack, PrintsBack}
use Rattle.simplecss_grammar.proofs.order.OrderLemmas.{smaller_order}
use Rattle.css_text.proofs.order.RankLemmas.{ordered_filter, ordered_front}
use Rattle.simplecss_grammar.proofs.round_trip.KeptSelectors.{more-reads_back}
use Rattle.simplecss_grammar.proofs.round_trip.SheetsAgain.{sheet-prints_back}
use Rattle.css_text.specs.declared.sheet_error.SheetError.{SheetError}
use Rattle.css_text.specs.declared.sheet_error.SheetError.TheVariants.{TooManyDeclarations}
use Rattle.simplecss.specs.DeclarationCounts.{kept_in_all}
use Rattle.simplecss.specs.Readings.{are_open_comments, read_into, reports_of, ReadsInto}
use Rattle.simplecss.proofs.DeclarationSums.{refused-exactly}
use Rattle.simplecss.proofs.SheetLemmas.{AllPass-sheet, kept_filled, kept_open, sheet_filled, filter_again}

module _ (edition : Edition) where
  -- what reading the texts adds to the rules
  abbrev adds : List StyleRule → List (List ℕ) → List StyleRule
  adds old texts = ordered (filter has_declaration old ++ flat_map (kept edition) texts)

  both_true : (a b : Bool) → (a && b) ≡ true → (a ≡ true) × (b ≡ true)
  both_true true b h = (refl, h)
  both_true false b h = absurd (false≢true h)

  -- texts that are all open comments have no rules
  none_kept : (texts : List (List ℕ)) → are_open_comments texts ≡ true
      → flat_map (kept edition) texts ≡ []
  none_kept [] h = refl
  none_kept (t ∷ ts) h =
      let each = both_true (is_open_comment t) (are_open_comments ts) h in
      ap (λ (l : List StyleRule). l ++ flat_map (kept edition) ts) (kept_open edition t each.0)
      ∙ none_kept ts each.1

  -- the sheet of earlier texts and of these
  sheets_more : (earlier texts : List (List ℕ))
      → sheet edition (earlier ++ texts) ≡ adds (sheet edition earlier) texts
  sheets_more earlier texts =
      ap ordered (flat_map-append (kept edition) earlier texts)
      ∙ sym (ordered_front is_smaller smaller_order (flat_map (kept edition) earlier)
      (flat_map (kept edition) texts))
      ∙ ap (λ l. ordered (l ++ flat_map (kept edition) texts)) (sym (sheet_filled edition earlier))

  -- which is what reading these into the sheet of the earlier ones gives
  sheet_is : (old : List StyleRule) (earlier texts : List (List ℕ)) → old ≡ sheet edition earlier
      → read_into edition old texts ≡ sheet edition (earlier ++ texts)
  sheet_is old earlier texts was = by (are_open_comments texts) refl
    where
      by : (b : Bool) → are_open_comments texts ≡ b
          → read_into edition old texts ≡ sheet edition (earlier ++ texts)
      by true h = rw h (was ∙ sym (ap ordered (flat_map-append (kept edition) earlier texts
          ∙ ap (λ l. flat_map (kept edition) earlier ++ l) (none_kept texts h)
          ∙ append-nil (flat_map (kept edition) earlier))))
      by false h = rw h (ap (λ l. adds l texts) was ∙ sym (sheets_more earlier texts))

  -- reading a text and then others is reading them all
  adds_both : (old : List StyleRule) (t : List ℕ) (ts : List (List ℕ))
      → adds (ordered (filter has_declaration old ++ kept edition t)) ts ≡ adds old (t ∷ ts)
  adds_both old t ts =
      let front = filter has_declaration old ++ kept edition t in
      ap (λ l. ordered (l ++ flat_map (kept edition) ts))
      (sym (ordered_filter is_smaller smaller_order has_declaration front)
      ∙ ap ordered (filter-append has_declaration (filter has_declaration old) (kept edition t)
      ∙ ap (λ l. l ++ filter has_declaration (kept edition t)) (filter_again has_declaration old)
      ∙ ap (λ l. filter has_declaration old ++ l) (kept_filled edition t)))
      ∙ ordered_front is_smaller smaller_order front (flat_map (kept edition) ts)
      ∙ ap ordered (append_assoc (filter has_declaration old) (kept edition t)
      (flat_map (kept edition) ts))

  -- the selectors of the old rules and of the texts read back, so do those of both
  all-read_back : (old : List StyleRule) (t : List ℕ) (ts : List (List ℕ)) → All IsUtf8 (t ∷ ts)
      → SelectorsReadBack edition old → SelectorsReadBack edition (adds old (t ∷ ts))
  all-read_back old t [] u back =
      subst (λ l. SelectorsReadBack edition (ordered (filter has_declaration old ++ l)))
      (sym (append-nil (kept edition t)))
      (more-reads_back edition old t back (u 0 t (omega arith)))
  all-read_back old t (s ∷ ts) u back =
      subst (SelectorsReadBack edition) (adds_both old t (s ∷ ts))
      (all-read_back (ordered (filter has_declaration old ++ kept edition t)) s ts
      (λ k d less. u (suc k) d (omega (arith, less)))
      (more-reads_back edition old t back (u 0 t (omega arith))))

  into-read_back : (old : List StyleRule) (texts : List (List ℕ)) → All IsUtf8 texts
      → SelectorsReadBack edition old → SelectorsReadBack edition (read_into edition old texts)
  into-read_back old [] u back = back
  into-read_back old (t ∷ ts) u back = by (are_open_comments (t ∷ ts)) refl
    where
      by : (b : Bool) → are_open_comments (t ∷ ts) ≡ b
          → SelectorsReadBack edition (read_into edition old (t ∷ ts))
      by true h = rw h back
      by false h = rw h (all-read_back old t ts u back)

  -- what merging the rules of the texts into the old ones gives
  pub into : (old : List StyleRule) (texts : List (List ℕ)) (more new : List StyleRule)
      → (are_open_comments texts ≡ false)
      × (filter has_declaration more ≡ flat_map (kept edition) texts)
      → new ≡ ordered (filter has_declaration (old ++ more)) → new ≡ read_into edition old texts
  into old texts more new read is =
      is ∙ ap ordered (filter-append has_declaration old more
      ∙ ap (λ l. filter has_declaration old ++ l) read.1)
      ∙ sym (ap (λ b. cond b old (adds old texts)) read.0)

  pub into_none : (old : List StyleRule) (texts : List (List ℕ)) → are_open_comments texts ≡ true
      → read_into edition old texts ≡ old
  into_none old texts h = rw h refl

  module _ {S T : Type 0} (begun : S → List ℕ → S) (add : S → Skip → S) (old : List StyleRule)
      (texts : List (List ℕ)) (most : ℕ) (before : S) (new : List StyleRule) (after : S) where
    pub reads-ok : (x : T) → kept_in_all edition texts ≤ most → All IsUtf8 texts
        → new ≡ read_into edition old texts
        → after ≡ reports_of begun add edition before texts
        → ReadsInto {T = T} begun add edition old texts most before (Ok x) new after
    reads-ok x within u is told = record {
      limit = refused-exactly {X = T} (Ok x) (kept_in_all edition texts) most within tt;
      ok = is;
      err = tt;
      sheet_of = λ earlier was. is ∙ sheet_is old earlier texts was;
      filled = λ earlier was. subst (AllPass has_declaration)
          (sym (is ∙ sheet_is old earlier texts was)) (AllPass-sheet edition (earlier ++ texts));
      selectors = λ back. subst (SelectorsReadBack edition) (sym is)
          (into-read_back old texts u back);
      prints_back = λ earlier narrow wide was. subst (PrintsBack edition)
          (sym (is ∙ sheet_is old earlier texts was))
          (sheet-prints_back edition (earlier ++ texts) (All-append IsNarrow earlier texts narrow
          (λ k d less. (u k d less, wide k d less))));
      reported = told;
    }

    pub reads-err : (r : Result T SheetError) → IsErr r
        → IfErr r (λ error. error ≡ TooManyDeclarations → most < kept_in_all edition texts)
        → new ≡ old → ReadsInto begun add edition old texts most before r new after
    reads-err (Ok x) is exceeds same = absurd (false≢true is)
    reads-err (Err e) is exceeds same = record {
      limit = refused-exactly {X = T} (Err e) (kept_in_all edition texts) most tt exceeds;
      ok = tt;
      err = same;
      sheet_of = λ earlier was. tt;
      filled = λ earlier was. subst (AllPass has_declaration) (sym (same ∙ was))
          (AllPass-sheet edition earlier);
      selectors = λ back. subst (SelectorsReadBack edition) (sym same) back;
      prints_back = λ earlier narrow wide was. tt;
      reported = tt;
    }
