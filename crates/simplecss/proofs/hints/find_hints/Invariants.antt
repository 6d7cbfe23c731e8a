use Rattle.std.proofs.Common.{◌≡◌, ◌++◌, ◌-◌, length, drop}
use Rattle.css_text.specs.ThisEdition.{this_edition}
use Rattle.simplecss.specs.Hints.{hints}
use Rattle.simplecss.specs.HintViews.{hints_of}
use Rattle.simplecss.proofs.HintLemmas.{hints_from}
use Rattle.simplecss.proofs.hints.find_hints.Given as goal

-- The hints so far and those of the statements from here on are those of the text.
abbrev pub invariant-statements : goal.invariant-statements
invariant-statements l = record {
  same : l.reader.0 ≡ l.text;
  found : hints_of l.found.items ++ hints_from this_edition (drop l.reader.1 l.text)
      ≡ hints this_edition l.text;
}

abbrev pub decreases-statements : goal.decreases-statements
decreases-statements l = length l.text - l.reader.1
