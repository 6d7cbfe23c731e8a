use Rattle.std.proofs.Common.{◌++◌, ◌/◌, ◌%◌, string_bytes, sym, ap, ◌∙◌, append_assoc}
use Rattle.std.specs.Prelude.{decimal}
use Rattle.std.proofs.lemmas.Result.{on_ok_weaker}
use Rattle.cssq.proofs.DecimalDigits.{decimal_four, pair, added_two}
use Rattle.cssq.proofs.digits.push_long.Goals as goal

pub returns : goal.returns
returns c =
    let number = c.args.number in
    let old = string_bytes c.args.out.now in
    let front = decimal (number / 10000) in
    let middle = pair (number % 10000 / 100) in
    let last = pair (number % 10000 % 100) in
    on_ok_weaker c.push_pair-2.result
    (λ e. added_two old (string_bytes c.push_pair.new.out) (string_bytes c.push_pair-2.new.out)
    (front ++ middle)
    (added_two old (string_bytes c.push_middle.new.out) (string_bytes c.push_pair.new.out) front
    c.in_ok-push_middle.ensures middle c.in_ok-push_pair.ensures) last e
    ∙ ap (λ ds. old ++ ds) (append_assoc front middle last
    ∙ sym (decimal_four number c.requires c.ranges.number.fits)))
    c.push_pair-2.ensures
