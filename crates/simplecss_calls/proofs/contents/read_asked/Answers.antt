use Rattle.std.proofs.Common.{ℕ, List, map, refl}
use Rattle.std.specs.Borrow.{Bor}
use Rattle.call_answers.specs.Calls.{FailsFor}
use Rattle.simplecss_calls.specs.Asked.{IsContent, HasBadContent, IsBrokenContent}
use Rattle.simplecss_calls.specs.declared.contents.ElementContent.TheVariants.{Named}
use Rattle.simplecss_calls.specs.internal.Contents.{content_of}
use Rattle.call_answers.proofs.Handing.{handed-match}
use Rattle.simplecss_calls.proofs.contents.read_asked.Goals as goal

pub returns-in_err-names : goal.returns-in_err-names
returns-in_err-names c =
    let asks = Named c.args.asked in
    handed-match (λ read. IsContent asks (content_of read))
    (FailsFor (HasBadContent asks) (λ fault. ⊥) (IsBrokenContent asks)) c.from_residual.result
    c.in_err-names.field-0.0 c.from_residual.ensures.1 c.in_err-names.ensures

pub returns : goal.returns
returns c = (map (λ (text : Bor (List ℕ)). text.now) c.in_ok-names.names.items, c.in_ok-names.ensures, refl)
