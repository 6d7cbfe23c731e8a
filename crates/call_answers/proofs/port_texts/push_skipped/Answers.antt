use Rattle.std.proofs.Common.{◌++◌, string_bytes, ap, ◌∙◌}
use Rattle.std.proofs.lemmas.Result.{on_ok_weaker}
use Rattle.simplecss.specs.Quotes.{quote}
use Rattle.simplecss.specs.SkipViews.{skip_of, why_of}
use Rattle.simplecss.specs.Words.{why_words}
use Rattle.call_answers.specs.PortTexts.{piece_text}
use Rattle.call_answers.proofs.PortSteps.{piece_written}
use Rattle.call_answers.proofs.port_texts.push_skipped.Goals as goal

pub returns : goal.returns
returns c text within at =
    let part = c.args.part.now in
    let reason = why_words (why_of part.why) in
    let quoted = quote (skip_of part) in
    let out = string_bytes c.args.out.now in
    on_ok_weaker c.write.result
    (λ wrote. piece_written c.args.pos c.quote-quoted.result.now c.words-reason.result.now out
    (string_bytes c.write.new.self) wrote
    ∙ ap (λ words. out ++ piece_text c.args.pos c.quote-quoted.result.now words) c.words-reason.ensures
    ∙ ap (λ t. out ++ piece_text c.args.pos t reason) (c.quote-quoted.ensures text within)
    ∙ ap (λ pos. out ++ piece_text pos quoted reason) at)
    c.write.ensures.bytes
