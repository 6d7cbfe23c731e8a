use Rattle.std.proofs.Common.{◌≡◌, ◌∙◌, ◌-◌, ℕ, List, sym, ap, length, slice_get, Some}
use Rattle.css_sheet.proofs.OpenLemmas.{innermost-last}
use Rattle.css_sheet.proofs.open_layers.OpenLayers.innermost.Goals as goal

pub returns-in-Some : goal.returns-in-Some
returns-in-Some c =
    let items = c.args.self.now.numbers.items in
    let value : slice_get items (length items - 1) ≡ Some c.in-Some.number.now =
    ap (λ (l : List ℕ). slice_get l (length l - 1)) (sym c.deref.ensures.value)
    ∙ sym c.in-Some.ensures.value in
    sym (innermost-last c.args.self.now.outermost items c.in-Some.number.now value)
