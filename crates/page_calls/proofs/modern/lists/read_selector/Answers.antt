use Rattle.std.proofs.Common.{◌≡◌, Some, refl, sym, ap}
use Rattle.css_sheet.specs.RuleSelectors.{if_read, selector_of}
use Rattle.css_selector_text.specs.Names.{no_names}
use Rattle.css_selector_text.specs.reading.Supported.{supported_selector}
use Rattle.page_calls.proofs.ModernLists.{parse-refused}
use Rattle.page_calls.proofs.modern.lists.read_selector.Goals as goal

pub returns-in_err-parse : goal.returns-in_err-parse
returns-in_err-parse c =
    let refusal = c.in_err-parse.field-0.0 in
    parse-refused (λ s. selector_of c.args.text.now ≡ Some s) if_read (λ why rest. refl)
    (supported_selector no_names c.args.text.now) refusal.why refusal.rest.now c.in_err-parse.ensures
    c.from_residual.result c.from_residual.ensures.1

pub returns : goal.returns
returns c = ap if_read (sym c.in_ok-parse.ensures)
