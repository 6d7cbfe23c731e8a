use Rattle.std.proofs.Common.{◌∙◌, ap, sym, Ok}
use Rattle.cssq.specs.SelectorRuns.{line_or_refused, IsSelectorRun}
use Rattle.cssq.proofs.Written.{runs_written}
use Rattle.cssq.proofs.runs.run_selector.Goals as goal

pub returns : goal.returns
returns g c =
    runs_written (IsSelectorRun c.args.text.now) c.as_bytes.result.now c.write_out.result
    (g.W.Write.contents c.args.out.now) (g.W.Write.contents c.write_out.new.out)
    (ap Ok (c.as_bytes.ensures.value ∙ c.in_ok-line.ensures)
    ∙ ap line_or_refused (sym c.in-Some.is ∙ c.in_ok-selector.ensures.selector))
    c.write_out.ensures.ok c.write_out.ensures.err c.write_out.ensures.fault
