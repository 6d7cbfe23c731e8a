use Rattle.std.proofs.Common.{◌≡◌, ◌+◌, ◌-◌, ◌==◌, false, length, arith}
use Rattle.std.proofs.lemmas.Bool.Decides.{nat_tests}
use Rattle.css_selectors.proofs.KeyLemmas.{last_key}
use Rattle.css_selectors.proofs.key.key_of_selector.Goals as goal

pub returns : goal.returns
returns c =
    let some : false ≡ (length c.as_slice-parts.result.now == 0) = c.if-is_empty.ensures in
    let last : (length c.as_slice-parts.result.now - 1) + 1 ≡ length c.as_slice-parts.result.now =
    grind (arith, nat_tests, some) in
    last_key c.args.selector.now c.as_slice-parts.result.now c.as_slice.result.now
    (length c.as_slice-parts.result.now - 1) c.index-parts-parts.result _
    c.as_slice-parts.ensures.value last c.as_slice.ensures.value c.key_of_compound.ensures
