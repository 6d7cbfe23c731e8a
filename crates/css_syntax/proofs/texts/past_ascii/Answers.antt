use Rattle.css_syntax.proofs.PartTexts.{boundary-one}
use Rattle.css_syntax.proofs.texts.past_ascii.Goals as goal

pub range_from-requires : goal.range_from-requires
range_from-requires c = λ some. boundary-one c.args.text.now c.utf8.text c.requires
