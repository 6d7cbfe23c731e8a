use Rattle.simplecss_grammar.proofs.skipped.PrintedSkips.{prints_whole}
use Rattle.simplecss_grammar.proofs.laws.printed_skips_nothing.Goals as goal

pub returns : goal.returns
returns c = prints_whole
