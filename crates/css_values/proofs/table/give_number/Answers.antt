use Rattle.std.proofs.Common.{◌≡◌, ◌∙◌, ℕ, List, Some, ap, rules, bytes_eq, if◌then◌else◌}
use Rattle.std.specs.BTreeMap.{get_by_text}
use Rattle.std.specs.String.{string_bytes}
use Rattle.std.proofs.lemmas.Map.Text.{btree_map_updates_text}
use Rattle.css_syntax.specs.Escapes.{decoded}
use Rattle.css_values.proofs.table.give_number.Goals as goal

pub returns : goal.returns
returns c = λ key.
    let same : string_bytes c.in_ok-key.key ≡ decoded c.args.name.now = search rules in
    btree_map_updates_text (string_bytes c.in_ok-key.key) c.args.numbers.now c.insert.new.self
    (Some c.args.number) c.in_ok-insert.ensures.updates key
    ∙ ap (λ (bs : List ℕ). if bytes_eq bs key then Some c.args.number else get_by_text c.args.numbers.now key)
    same
