-- The empty sheet is clean. Serves `clean_sheet`.
use Rattle.std.proofs.Common.{◌≡◌, ◌∙◌, ℕ, List, [], true, refl, ap}
use Rattle.css_text.specs.Reading.{each}
use Rattle.css_syntax.specs.TokenLists.{tokens}
use Rattle.css_syntax.specs.Statements.{statements}
use Rattle.css_clean.specs.Selectors.{SheetPolicyText}
use Rattle.css_clean.specs.Sheets.{is_clean}

pub nil-clean : (p : SheetPolicyText) (text : List ℕ) → text ≡ [] → is_clean p text ≡ true
unfolding tokens statements each
nil-clean p text e = ap (is_clean p) e ∙ refl
