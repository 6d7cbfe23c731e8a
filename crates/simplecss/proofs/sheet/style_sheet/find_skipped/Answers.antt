use Rattle.std.proofs.Common.{◌∙◌, ◌++◌, map, ap}
use Rattle.simplecss_grammar.specs.Skipped.{skipped}
use Rattle.simplecss_grammar.specs.SkipViews.{skip_of}
use Rattle.css_text.specs.ThisEdition.{this_edition}
use Rattle.simplecss_grammar.proofs.reading.SkipLemmas.{add_each-kept}
use Rattle.simplecss.proofs.sheet.style_sheet.find_skipped.Goals as goal

pub returns : goal.returns
returns c =
    let all = skipped this_edition c.args.text.now in
    c.in_ok-consume_statements.ensures
    ∙ add_each-kept (map skip_of c.new.result.items) all
    ∙ ap (λ l. map skip_of l ++ all) c.new.ensures.items
