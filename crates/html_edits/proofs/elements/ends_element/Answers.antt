use Rattle.std.proofs.Common.{◌≡◌, ◌∙◌, true, List, ℕ, [], ap, Some, arith}
use Rattle.std.proofs.lemmas.Grind.{common_steps}
use Rattle.css_html.specs.Tokens.{PlacedToken}
use Rattle.css_html.specs.Views.{token_of}
use Rattle.css_xml.specs.Tokens.{next_token}
use Rattle.html_edits.specs.Placing.{is_content}
use Rattle.html_edits.specs.Placing.EndsElement.{ends, has_content}
use Rattle.html_edits.proofs.elements.ends_element.Goals as goal

pub content-preserved : goal.content-preserved
content-preserved c = λ e.
    let t : PlacedToken = token_of c.in-Some.token in
    let fits : is_content t.kind ≡ true = grind (arith, common_steps) in
    c.content.invariant (has_content c.content.rest.now t c.in-Some.ensures fits e)

pub returns-then-not-is_content : goal.returns-then-not-is_content
returns-then-not-is_content c = λ h.
    let t : PlacedToken = token_of c.in-Some.token in
    let whole : next_token c.content.rest.now ≡ Some (t, []) =
    c.in-Some.ensures ∙ ap (λ (r : List ℕ). Some (t, r)) (c.is_last_end.ensures.last h) in
    c.content.invariant (ends c.content.rest.now t whole (c.is_last_end.ensures.kind h) (c.is_last_end.ensures.name h))
