-- Where a condition is read.
use Rattle.std.specs.Prelude.{ℕ, Bool}
use Rattle.css_selector_text.specs.Names.{Names}

-- Which lists of pseudo-classes may be open: how many, one within another, and whether one that is open
-- already is of `:has()`. And which names are declared.
pub record Room : Type 0 where
  pub depth : ℕ
  pub in_has : Bool
  pub names : Names
