use Rattle.std.proofs.Common.{◌≡◌, [], List, ℕ, length, sym, subst, arith}
use Rattle.std.proofs.lemmas.Grind.{common_steps}
use Rattle.std.proofs.lemmas.List.{nil_from_length}
use Rattle.css_html.specs.Views.{token_of}
use Rattle.css_xml.specs.Documents.{State, state_of, Reads}
use Rattle.css_xml.specs.Documents.Reads.{reads_none, reads_one}
use Rattle.css_xml.proofs.documents.read_tokens.Goals as goal

pub tokens-init : goal.tokens-init
tokens-init c =
    subst (λ (s : State). Reads c.args.text.now s c.args.text.now) (sym c.new-nesting.ensures) reads_none

pub tokens-preserved : goal.tokens-preserved
tokens-preserved c =
    reads_one (state_of c.tokens.nesting) (state_of c.take_at.new.nesting) c.tokens.rest.now
    (token_of c.in-Some.token) c.tokens.invariant c.in-Some.ensures c.in_ok-take_at.ensures
