use Rattle.std.proofs.Common.{string_bytes, refl}
use Rattle.std.proofs.lemmas.Result.{on_ok_weaker}
use Rattle.simplecss.specs.DeclarationViews.{declaration_of}
use Rattle.call_answers.proofs.PortSteps.{declaration_written}
use Rattle.call_answers.proofs.port_texts.push_declaration.Goals as goal

pub returns : goal.returns
returns c =
    on_ok_weaker c.write.result
    (λ wrote. declaration_written (declaration_of c.args.declaration.now)
    (string_bytes c.args.out.now) (string_bytes c.write.new.self) _ _ _
    refl refl c.from-important.ensures wrote)
    c.write.ensures.bytes
