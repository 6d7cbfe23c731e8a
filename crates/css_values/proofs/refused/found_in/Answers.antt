use Rattle.std.proofs.Common.{◌≡◌, ◌∙◌, ◌<◌, ◌+◌, length, arith, ap, sym}
use Rattle.css_text.proofs.reading.EachLemmas.{took}
use Rattle.css_syntax.specs.TokenLists.{next_token}
use Rattle.css_syntax.specs.TokenViews.{token_of}
use Rattle.css_syntax.proofs.TokenSteps.{next_token-takes}
use Rattle.css_values.specs.Refused.{Found, component_by, found_in, listed_component, of_token}
use Rattle.css_values.specs.RefusedViews.{found_of}
use Rattle.css_values.specs.internal.Joined.{joined}
use Rattle.css_values.proofs.RefusedLemmas.{found-none, found-some, one_component}
use Rattle.css_values.proofs.refused.found_in.Goals as goal

pub tokens-smaller : goal.tokens-smaller
tokens-smaller c =
    took next_token next_token-takes c.tokens.rest.now c.in-Some.token.rest.now (token_of c.in-Some.token)
    c.in-Some.ensures

pub tokens-preserved : goal.tokens-preserved
tokens-preserved c =
    let token = token_of c.in-Some.token in
    let more : found_of c.with_component-found.result ≡ joined (found_of c.tokens.found) (found_in (of_token token)) =
    c.with_component-found.ensures
    ∙ ap (λ one. joined (found_of c.tokens.found) (found_in (listed_component one))) c.component_of.ensures in
    let less : length c.in-Some.token.rest.now < length c.tokens.rest.now =
    took next_token next_token-takes c.tokens.rest.now c.in-Some.token.rest.now token c.in-Some.ensures in
    let many : c.with_component-found.result.count ≡ c.tokens.found.count + length (of_token token) =
    ap (λ (found : Found). found.count) more in
    record {
      so_far = sym (found-some (found_of c.tokens.found) (found_of c.with_component-found.result) c.tokens.rest.now
          c.in-Some.token.rest.now token c.in-Some.ensures more) ∙ c.tokens.invariant.so_far;
      few = omega (arith, less, many, one_component (component_by token.kind token), c.tokens.invariant.few);
    }

pub returns : goal.returns
returns c =
    sym (found-none (found_of c.tokens.found) c.tokens.rest.now c.in_default.ensures) ∙ c.tokens.invariant.so_far
