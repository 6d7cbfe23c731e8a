-- The page of a question.
-- Serves `select_on`.
use Rattle.std.proofs.Common.{◌≡◌, ℕ, ap, ◌∙◌}
use Rattle.css_tree.specs.Pages.{Page, with_scope}
use Rattle.kept_pages.specs.Pages.{scope_of, scoped}

-- the page with the scoping root of a question
pub scoped-same : (old new : Page) (number : ℕ) → new.rows ≡ old.rows
    → new.given ≡ with_scope old.given (scope_of number) → new.marks ≡ old.marks → new.is_html ≡ old.is_html
    → new ≡ scoped old number
scoped-same old new number rows given marks html =
    ap (λ r. record { rows = r; given = new.given; marks = new.marks; is_html = new.is_html }) rows
    ∙ ap (λ g. record { rows = old.rows; given = g; marks = new.marks; is_html = new.is_html }) given
    ∙ ap (λ m. record { rows = old.rows; given = with_scope old.given (scope_of number); marks = m; is_html = new.is_html }) marks
    ∙ ap (λ h. record { rows = old.rows; given = with_scope old.given (scope_of number); marks = old.marks; is_html = h }) html
