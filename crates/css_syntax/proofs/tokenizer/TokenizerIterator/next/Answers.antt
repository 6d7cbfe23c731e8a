use Rattle.std.proofs.Common.{refl}
use Rattle.css_syntax.specs.TokenViews.{token_of, tokens_to_come}
use Rattle.css_syntax.proofs.ListSteps.{item_goes}
use Rattle.css_syntax.proofs.TokenSteps.{tokens-some, tokens-none}
use Rattle.css_syntax.proofs.tokenizer.TokenizerIterator.next.Goals as goal

pub returns-in-Some-clause-steps : goal.returns-in-Some-clause-steps
returns-in-Some-clause-steps c =
    let text = c.args.self.now.rest.now in
    let token = c.in-Some.token in
    record {
      items = tokens-some text token.rest.now (token_of token) c.in-Some.ensures;
      reads = c.in-Some.ensures;
    }

pub returns-in-Some-clause-goes : goal.returns-in-Some-clause-goes
returns-in-Some-clause-goes c =
    let text = c.args.self.now.rest.now in
    let token = c.in-Some.token in
    item_goes _ tokens_to_come _ _ _ (token_of token) tt
    (tokens-some text token.rest.now (token_of token) c.in-Some.ensures)

pub returns-in-None-clause-steps : goal.returns-in-None-clause-steps
returns-in-None-clause-steps c =
    let none = tokens-none c.args.self.now.rest.now c.in-None.ensures in
    record { items = (none, none); reads = (c.in-None.ensures, refl) }
