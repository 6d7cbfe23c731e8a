use Rattle.html_edits.specs.Placing.{EndsElement}
use Rattle.html_edits.proofs.elements.ends_element.Given as goal

abbrev pub invariant-content : goal.invariant-content
invariant-content l = EndsElement l.name l.rest → EndsElement l.name l.text
