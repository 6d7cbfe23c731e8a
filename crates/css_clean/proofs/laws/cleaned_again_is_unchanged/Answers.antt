use Rattle.std.proofs.Common.{false}
use Rattle.css_syntax.proofs.PrintedAgain.{items-read_back}
use Rattle.css_syntax.proofs.PrintedLists.{list-read_back}
use Rattle.css_clean.proofs.CleanLemmas.{clean-again}
use Rattle.css_clean.proofs.laws.cleaned_again_is_unchanged.Goals as goal

pub returns : goal.returns
returns c policy text = clean-again policy text (items-read_back false) list-read_back
