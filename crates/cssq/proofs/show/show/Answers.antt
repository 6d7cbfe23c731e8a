use Rattle.std.proofs.Common.{Ok, Err, ap, ◌∙◌, subst}
use Rattle.simplecss.specs.RuleViews.{rules_in}
use Rattle.cssq.specs.Showing.{IsShown}
use Rattle.cssq.specs.Writing.{Writes}
use Rattle.cssq.proofs.Showing.{read_shown, too_many_shown}
use Rattle.cssq.proofs.show.show.Goals as goal

pub returns-in-Ok-write_view : goal.returns-in-Ok-write_view
returns-in-Ok-write_view g c =
    read_shown (Ok tt) (g.W.Write.contents c.args.out.now) (g.W.Write.contents c.write_view.new.out)
    c.in-Ok.ensures
    (subst (λ w. Writes (IsShown c.args.view (rules_in c.read.new.self)) w
    (g.W.Write.contents c.args.out.now) (g.W.Write.contents c.write_view.new.out))
    c.in-Ok-write_view.is c.write_view.ensures)

pub returns-in-Err : goal.returns-in-Err
returns-in-Err g c =
    read_shown (Err c.in-Err.fault) (g.W.Write.contents c.args.out.now)
    (g.W.Write.contents c.write_view.new.out) c.in-Ok.ensures
    (subst (λ w. Writes (IsShown c.args.view (rules_in c.read.new.self)) w
    (g.W.Write.contents c.args.out.now) (g.W.Write.contents c.write_view.new.out))
    c.in-Err.is c.write_view.ensures)

pub returns-in-Err-TooManyDeclarations : goal.returns-in-Err-TooManyDeclarations
returns-in-Err-TooManyDeclarations g c =
    too_many_shown (g.W.Write.contents c.args.out.now)
    (rw (c.in-Err-TooManyDeclarations.is ∙ ap Err c.in-Err-TooManyDeclarations.field-0-is)
    at c.read.ensures)
