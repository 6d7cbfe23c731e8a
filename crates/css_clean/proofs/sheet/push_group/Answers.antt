use Rattle.std.proofs.Common.{◌≡◌, ◌==◌, true, false, length, string_bytes, rules}
use Rattle.std.proofs.lemmas.Result.{on_ok_weaker}
use Rattle.css_clean.proofs.KeptLemmas.{group-absent, group-written}
use Rattle.css_clean.proofs.sheet.push_group.Goals as goal

pub returns-then-is_empty : goal.returns-then-is_empty
returns-then-is_empty c = λ group all named is.
    let none : (length c.args.rules.now == 0) ≡ true = search rules in
    group-absent (string_bytes c.args.out.now) group c.args.prelude.now c.args.rules.now all none is

pub returns : goal.returns
returns c = λ group all named is.
    let some : (length c.args.rules.now == 0) ≡ false = search rules in
    on_ok_weaker c.writeln.result
    (λ wrote. group-written (string_bytes c.args.out.now) (string_bytes c.writeln.new.self) group
    c.args.name.now c.args.prelude.now c.args.rules.now all some named is wrote)
    c.writeln.ensures.bytes
