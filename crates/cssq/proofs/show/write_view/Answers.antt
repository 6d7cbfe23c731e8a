use Rattle.std.proofs.Common.{Ok, subst, sym}
use Rattle.simplecss.specs.RuleViews.{rules_in}
use Rattle.cssq.specs.Showing.{IsShown}
use Rattle.cssq.proofs.Written.{runs_written, runs_failed}
use Rattle.cssq.proofs.show.write_view.Goals as goal

pub returns-in_err-text : goal.returns-in_err-text
returns-in_err-text g c =
    runs_failed (IsShown c.args.view (rules_in c.args.sheet.now)) c.from_residual.result
    c.in_err-text.field-0.0
    (g.W.Write.contents c.args.out.now) c.from_residual.ensures.1 c.in_err-text.ensures.fault

pub returns : goal.returns
returns g c =
    runs_written (IsShown c.args.view (rules_in c.args.sheet.now)) c.as_bytes.result.now
    c.write_out.result (g.W.Write.contents c.args.out.now) (g.W.Write.contents c.write_out.new.out)
    (subst (λ bytes. IsShown c.args.view (rules_in c.args.sheet.now) (Ok bytes))
    (sym c.as_bytes.ensures.value) c.in_ok-text.ensures.ok)
    c.write_out.ensures.ok c.write_out.ensures.err c.write_out.ensures.fault
