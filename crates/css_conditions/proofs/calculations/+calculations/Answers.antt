use Rattle.std.proofs.Common.{◌≡◌, ◌∙◌, ◌-◌, arith, suc}
use Rattle.css_conditions.proofs.Steps.{operand_bare}
use Rattle.css_conditions.proofs.calculations.+calculations.Goals as goal

pub read_operand-returns-in-None : goal.read_operand-returns-in-None
read_operand-returns-in-None t c =
    let deep : c.args.depth ≡ suc (c.args.depth - 1) = omega (arith, c.if-depth-eq0.false) in
    operand_bare c.args.view c.args.depth (c.args.depth - 1) c.args.bytes.now deep c.in-None.ensures
    ∙ c.read_dimension.ensures
