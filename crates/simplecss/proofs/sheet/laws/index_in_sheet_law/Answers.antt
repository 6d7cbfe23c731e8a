use Rattle.std.specs.List.{flat_map}
use Rattle.simplecss_grammar.specs.Statements.{kept}
use Rattle.css_text.specs.ThisEdition.{this_edition}
use Rattle.simplecss.proofs.RuleRanks.{comes_before}
use Rattle.simplecss.proofs.sheet.laws.index_in_sheet_law.Goals as goal

pub returns : goal.returns
returns c texts = comes_before (flat_map (kept this_edition) texts)
