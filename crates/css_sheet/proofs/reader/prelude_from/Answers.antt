use Rattle.std.proofs.Common.{ap, length, arith}
use Rattle.css_syntax.proofs.PlaceBounds.{prelude-within}
use Rattle.css_sheet.proofs.reader.prelude_from.Goals as goal

pub returns-in-AtRule-clause-within : goal.returns-in-AtRule-clause-within
returns-in-AtRule-clause-within c =
    omega (
      arith,
      ap length c.at_rule_prelude.ensures,
      prelude-within c.args.found.now.from.now,
    )
