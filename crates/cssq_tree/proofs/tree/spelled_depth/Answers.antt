use Rattle.cssq_tree.proofs.DepthDigits.{depth_unparsed}
use Rattle.std.proofs.Common.{sym}
use Rattle.cssq_tree.proofs.tree.spelled_depth.Goals as goal

-- a number that does not fit is above the limit
pub returns-in_default-clause-value : goal.returns-in_default-clause-value
returns-in_default-clause-value c = depth_unparsed c.args.limit c.args.field.now _ _
    c.parse.ensures.value.0 (sym (c.if-not-is_depth.ensures)) c.in_default.is (c.ranges.limit.fits)
