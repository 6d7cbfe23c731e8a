use Rattle.std.proofs.Common.{◌++◌, ◌/◌, ◌%◌, string_bytes, sym, ap, ◌∙◌, arith}
use Rattle.std.specs.Prelude.{decimal}
use Rattle.std.proofs.lemmas.Result.{on_ok_weaker}
use Rattle.cssq.proofs.DecimalDigits.{decimal_pair, pair, added_two}
use Rattle.cssq.proofs.digits.push_middle.Goals as goal

pub returns : goal.returns
returns c =
    let number = c.args.number in
    let old = string_bytes c.args.out.now in
    on_ok_weaker c.push_pair.result
    (λ e. added_two old (string_bytes c.push_short-2.new.out) (string_bytes c.push_pair.new.out)
    (decimal (number / 100)) c.in_ok-push_short.ensures (pair (number % 100)) e
    ∙ ap (λ ds. old ++ ds)
    (sym (decimal_pair number c.if-number-lt100.false (omega (arith, c.requires)))))
    c.push_pair.ensures
