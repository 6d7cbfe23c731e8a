use Rattle.std.proofs.Common.{◌≡◌, ◌∙◌, ℕ, List, Some, ap, rules, bytes_eq, if◌then◌else◌}
use Rattle.std.specs.BTreeMap.{get_by_text}
use Rattle.std.specs.Option.{option_map}
use Rattle.std.specs.String.{string_bytes}
use Rattle.std.proofs.lemmas.Map.Text.{btree_map_updates_text}
use Rattle.css_values.proofs.RefusedLemmas.{text_if}
use Rattle.css_values.proofs.refused.add_name.Goals as goal

pub returns : goal.returns
returns c = λ key.
    let same : string_bytes c.in_ok-to_string.field-0 ≡ c.args.name.now = search rules in
    ap (option_map (λ text. text.now))
    (btree_map_updates_text (string_bytes c.in_ok-to_string.field-0) c.args.rows.now c.insert.new.self
    (Some c.args.row) c.in_ok-insert.ensures.updates key)
    ∙ text_if (bytes_eq (string_bytes c.in_ok-to_string.field-0) key) c.args.row (get_by_text c.args.rows.now key)
    ∙ ap (λ (bs : List ℕ). if bytes_eq bs key then Some c.args.row.now
    else option_map (λ text. text.now) (get_by_text c.args.rows.now key)) same
