use Rattle.css_syntax.proofs.parts.past_words.Goals as goal

pub returns-else-stops-clause-goes : goal.returns-else-stops-clause-goes
returns-else-stops-clause-goes c = c.past_plain.ensures.goes c.args.stops c.if-stops.false
