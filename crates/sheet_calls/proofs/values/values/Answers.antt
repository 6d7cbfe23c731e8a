use Rattle.std.proofs.Common.{ℕ, List, ◌<◌, length}
use Rattle.sheet_calls.specs.Values.{AreValues, IsResolveCall}
use Rattle.call_answers.proofs.Handing.{handed-on}
use Rattle.sheet_calls.proofs.ValueCalls.{fails-longer}
use Rattle.sheet_calls.proofs.values.values.Goals as goal

pub returns-in_err-out : goal.returns-in_err-out
returns-in_err-out c =
    handed-on (IsResolveCall c.args.wanted c.args.registered c.args.limit c.args.most c.args.texts.now c.args.ends.now)
    c.from_residual.result c.in_err-out.field-0.0 c.from_residual.ensures.1
    (fails-longer c.args.texts.now c.args.ends.now
    ((bytes : List ℕ) × (AreValues c.args.wanted c.args.registered c.args.limit c.args.texts.now c.args.ends.now bytes
    × (c.args.most < length bytes))) c.in_err-out.field-0.0 c.in_err-out.ensures)
