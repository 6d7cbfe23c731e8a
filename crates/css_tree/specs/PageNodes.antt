-- The nodes that are the elements of one page.
use Rattle.std.specs.Prelude.{◌≡◌, ℕ, ◌<◌, length}
use Rattle.css_tree.specs.Pages.{Page}

abbrev pub IsOfPage : Page → Page × ℕ → Type 0
IsOfPage page n = (n.0 ≡ page) × (n.1 < length page.rows)
