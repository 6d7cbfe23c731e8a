use Rattle.std.proofs.Common.{string_bytes}
use Rattle.simplecss.specs.DeclarationViews.{declaration_of}
use Rattle.call_answers.specs.PortTexts.{declaration_text}
use Rattle.call_answers.proofs.LineTexts.{line_more}
use Rattle.call_answers.proofs.port_texts.push_declarations.Goals as goal

-- one declaration more
pub loop-declaration-preserved : goal.loop-declaration-preserved
loop-declaration-preserved c =
    line_more declaration_text declaration_of c.args.declarations.now
    c.loop-declaration.declaration-index _ (string_bytes c.args.out.now)
    (string_bytes c.loop-declaration.out) (string_bytes c.push_declaration.new.out)
    c.loop-declaration-test.true c.loop-declaration.invariant c.in_ok-push_declaration.ensures
