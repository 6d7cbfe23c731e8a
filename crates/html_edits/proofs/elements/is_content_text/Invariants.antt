use Rattle.html_edits.specs.Placing.{IsContent}
use Rattle.html_edits.proofs.elements.is_content_text.Given as goal

abbrev pub invariant-content : goal.invariant-content
invariant-content l = IsContent l.rest → IsContent l.text
