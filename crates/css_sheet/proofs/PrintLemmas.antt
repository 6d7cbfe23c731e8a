-- Printed style sheets that are their own text.
-- Serves `printing::print_sheet`.
use Rattle.std.proofs.Common.{◌≡◌, ℕ, List, Option, None, Result, Ok, Err, sym, subst}
use Rattle.std.specs.Prelude.{IfOk, IfNone, string_bytes}
use Rattle.std.specs.declared.string.String.{String}
use Rattle.css_sheet.specs.declared.printing.Layout.{Layout}
use Rattle.css_sheet.specs.PrintedSheets.{ReadsBack, IsPrinted}

module _ (Z E : Type 0) (layout : Layout) (text : List ℕ) where
  -- printed again, the text stays
  pub same-again : (found : Option (String Z)) → found ≡ None
      → IfNone found (ReadsBack layout text → ⊥) → (r : Result (String Z) E)
      → IfOk r (λ out. string_bytes out ≡ text)
      → IfOk r (λ out. (more : List ℕ) → IsPrinted layout (string_bytes out) more
      → more ≡ string_bytes out)
  same-again found is never (Ok out) same =
      let not_back = subst (λ (o : Option (String Z)). IfNone o (ReadsBack layout text → ⊥)) is never in
      λ more printed.
      printed.same (subst (λ (t : List ℕ). ReadsBack layout t → ⊥) (sym same) not_back)
  same-again found is never (Err error) same = tt
