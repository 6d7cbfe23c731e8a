use Rattle.std.proofs.Common.{List, map, sym, subst}
use Rattle.css_html.specs.Tokens.{PlacedToken}
use Rattle.css_html.specs.Views.{token_of}
use Rattle.css_html.specs.declared.tokenizer.Token.{Token}
use Rattle.css_html_tree.specs.Reads.{Reads}
use Rattle.css_html_tree.specs.Reads.Reads.{reads_none, reads_one}
use Rattle.css_html_tree.proofs.reading.read_tags.Goals as goal

pub tokens-init : goal.tokens-init
tokens-init c =
    subst (λ (xs : List Token). Reads c.args.text.now (map token_of xs) c.args.text.now)
    (sym c.new-tags.ensures.items) reads_none

pub tokens-preserved : goal.tokens-preserved
tokens-preserved c =
    subst (λ (xs : List PlacedToken). Reads c.args.text.now xs c.in-Some.token.rest.now)
    (sym c.in_ok-note_tag.ensures)
    (reads_one c.reader_mode-mode.result (map token_of c.tokens.tags.items) c.tokens.rest.now
    (token_of c.in-Some.token) c.tokens.invariant c.in-Some.ensures)
