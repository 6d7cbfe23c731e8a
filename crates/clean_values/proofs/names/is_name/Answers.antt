use Rattle.std.proofs.Common.{◌≡◌, ◌==◌, true, false, not, length, rules, sym}
use Rattle.clean_values.specs.Values.{has_backslash}
use Rattle.clean_values.proofs.ValueLemmas.{plain_word, not_spelled}
use Rattle.clean_values.proofs.names.is_name.Goals as goal

pub returns-then-name-word : goal.returns-then-name-word
returns-then-name-word c =
    let name = c.args.name.now in
    let word = c.args.word.now in
    let plain : not (has_backslash word) ≡ true = search rules in
    let other : (length name == length word) ≡ false = search rules in
    sym (not_spelled name word (plain_word (has_backslash word) plain) other)
