use Rattle.std.proofs.Common.{◌≡◌, true, [], length, sym, subst, arith}
use Rattle.std.proofs.lemmas.Grind.{common_steps}
use Rattle.std.proofs.lemmas.List.{nil_from_length}
use Rattle.css_html.specs.Tokens.{PlacedToken}
use Rattle.css_html.specs.Views.{token_of}
use Rattle.html_edits.specs.Placing.{IsContent, is_content}
use Rattle.html_edits.specs.Placing.IsContent.{no_content, one_more_content}
use Rattle.html_edits.proofs.elements.is_content_text.Goals as goal

pub content-preserved : goal.content-preserved
content-preserved c = λ e.
    let t : PlacedToken = token_of c.in-Some.token in
    let fits : is_content t.kind ≡ true = grind (arith, common_steps) in
    c.content.invariant (one_more_content c.content.rest.now t c.in-Some.ensures fits e)

pub returns : goal.returns
returns c = λ h.
    let none : length c.content.rest.now ≡ 0 = grind (arith, common_steps) in
    let e : c.content.rest.now ≡ [] = nil_from_length c.content.rest.now none in
    c.content.invariant (subst IsContent (sym e) no_content)
