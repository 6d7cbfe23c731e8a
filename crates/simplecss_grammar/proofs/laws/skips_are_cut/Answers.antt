use Rattle.simplecss_grammar.proofs.skipped.SkipsAcross.{skips_across}
use Rattle.simplecss_grammar.proofs.laws.skips_are_cut.Goals as goal

pub returns : goal.returns
returns c = skips_across
