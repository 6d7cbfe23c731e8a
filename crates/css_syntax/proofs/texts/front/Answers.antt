use Rattle.css_syntax.proofs.PartTexts.{boundary-front}
use Rattle.css_syntax.proofs.texts.front.Goals as goal

pub range-requires-clause-end_boundary : goal.range-requires-clause-end_boundary
range-requires-clause-end_boundary c =
    boundary-front c.args.text.now c.args.rest.now c.utf8.rest c.requires
