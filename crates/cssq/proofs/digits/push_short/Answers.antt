use Rattle.std.proofs.Common.{◌++◌, string_bytes, sym, ap, ◌∙◌}
use Rattle.std.proofs.lemmas.Fmt.{decimal_digit}
use Rattle.std.proofs.lemmas.Result.{on_ok_weaker}
use Rattle.cssq.proofs.DecimalDigits.{decimal_two}
use Rattle.cssq.proofs.digits.push_short.Goals as goal

pub returns-then-number-lt10 : goal.returns-then-number-lt10
returns-then-number-lt10 c =
    on_ok_weaker c.push_digit.result
    (λ e. e ∙ ap (λ ds. string_bytes c.args.out.now ++ ds)
    (sym (decimal_digit c.args.number c.if-number-lt10.true))) c.push_digit.ensures

pub returns : goal.returns
returns c =
    on_ok_weaker c.push_pair.result
    (λ e. e ∙ ap (λ ds. string_bytes c.args.out.now ++ ds)
    (sym (decimal_two c.args.number c.if-number-lt10.false c.requires))) c.push_pair.ensures
