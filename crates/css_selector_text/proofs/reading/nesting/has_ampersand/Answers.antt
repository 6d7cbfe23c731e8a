use Rattle.std.proofs.Common.{rules, arith, ◌≡◌, ◌<◌, ◌≤◌, ◌||◌, true, false, length, sym, ap, ◌∙◌, subst}
use Rattle.std.proofs.lemmas.Grind.{common_steps}
use Rattle.css_text.specs.Bytes.{starts}
use Rattle.css_syntax.specs.Tokens.{token}
use Rattle.css_selector_text.specs.reading.Grammar.{ampersand}
use Rattle.css_selector_text.specs.reading.Nested.{has_ampersand}
use Rattle.css_selector_text.proofs.AmpersandLemmas.{ampersand_next, ampersand_none, token_less}
use Rattle.css_selector_text.proofs.reading.nesting.has_ampersand.Goals as goal

pub tokens-init : goal.tokens-init
tokens-init c = search rules

pub returns-then-starts : goal.returns-then-starts
returns-then-starts c =
    let more : length c.args.left.now < length c.tokens.rest.now = search (rules, arith) in
    let is_one : starts ampersand c.tokens.rest.now ≡ true = search rules in
    sym (ap (λ b. b || has_ampersand (token c.tokens.rest.now).1 c.args.left.now) is_one)
    ∙ sym (ampersand_next c.tokens.rest.now c.args.left.now more)
    ∙ c.tokens.invariant.1

pub tokens-smaller : goal.tokens-smaller
tokens-smaller c =
    let more : length c.args.left.now < length c.tokens.rest.now = search (rules, arith) in
    subst (λ l. length l < length c.tokens.rest.now) (ap (λ p. p.1) c.read_token.ensures)
    (token_less c.tokens.rest.now c.args.left.now more)

pub tokens-preserved : goal.tokens-preserved
tokens-preserved c =
    let more : length c.args.left.now < length c.tokens.rest.now = search (rules, arith) in
    let is_none : starts ampersand c.tokens.rest.now ≡ false = search rules in (
      first_of (search rules, grind (arith, common_steps)),
      ap (λ l. has_ampersand l c.args.left.now) (sym (ap (λ p. p.1) c.read_token.ensures))
          ∙ sym (ap (λ b. b || has_ampersand (token c.tokens.rest.now).1 c.args.left.now) is_none)
          ∙ sym (ampersand_next c.tokens.rest.now c.args.left.now more)
          ∙ c.tokens.invariant.1,
    )

pub returns : goal.returns
returns c =
    let no_more : length c.tokens.rest.now ≤ length c.args.left.now = search (rules, arith) in
    sym (ampersand_none c.tokens.rest.now c.args.left.now no_more) ∙ c.tokens.invariant.1
