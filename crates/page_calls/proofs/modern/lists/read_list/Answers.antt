use Rattle.std.proofs.Common.{◌≡◌, Some, refl, sym, ap}
use Rattle.css_selector_text.specs.NameViews.{names_of}
use Rattle.css_selector_text.specs.reading.Supported.{supported_list}
use Rattle.page_calls.specs.Readings.{if_read, selectors_of}
use Rattle.page_calls.proofs.ModernLists.{parse-refused}
use Rattle.page_calls.proofs.modern.lists.read_list.Goals as goal

pub returns-in_err-parse_list_in : goal.returns-in_err-parse_list_in
returns-in_err-parse_list_in c =
    let refusal = c.in_err-parse_list_in.field-0.0 in
    parse-refused (λ selectors. selectors_of (names_of c.args.names.now) c.args.text.now ≡ Some selectors.items) if_read
    (λ why rest. refl) (supported_list (names_of c.args.names.now) c.args.text.now) refusal.why refusal.rest.now
    c.in_err-parse_list_in.ensures c.from_residual.result c.from_residual.ensures.1

pub returns : goal.returns
returns c = ap if_read (sym c.in_ok-parse_list_in.ensures)
