use Rattle.css_xml.specs.Documents.{state_of, Reads}
use Rattle.css_xml.proofs.documents.read_tokens.Given as goal

abbrev pub invariant-tokens : goal.invariant-tokens
invariant-tokens l = Reads l.text (state_of l.nesting) l.rest
