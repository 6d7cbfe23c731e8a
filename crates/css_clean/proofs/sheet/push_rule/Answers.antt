use Rattle.std.proofs.Common.{◌≡◌, ◌==◌, true, false, length, string_bytes, rules}
use Rattle.std.proofs.lemmas.Result.{on_ok_weaker}
use Rattle.css_clean.specs.Views.{written_of}
use Rattle.css_clean.proofs.KeptLemmas.{rule-absent, rule-written}
use Rattle.css_clean.proofs.sheet.push_rule.Goals as goal

pub returns-then-is_empty : goal.returns-then-is_empty
returns-then-is_empty c =
    let none : (length c.args.declarations.now == 0) ≡ true = search rules in
    rule-absent written_of (string_bytes c.args.out.now) c.args.selectors.now c.args.declarations.now none

pub returns : goal.returns
returns c =
    let some : (length c.args.declarations.now == 0) ≡ false = search rules in
    on_ok_weaker c.writeln.result
    (λ wrote. rule-written written_of (string_bytes c.args.out.now) (string_bytes c.writeln.new.self)
    c.args.selectors.now (string_bytes c.in_ok-list.list) c.args.declarations.now some
    c.in_ok-list.ensures wrote)
    c.writeln.ensures.bytes
