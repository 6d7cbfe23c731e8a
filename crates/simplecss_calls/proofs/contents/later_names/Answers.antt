use Rattle.std.proofs.Common.{◌-◌, length, map, drop, arith, sym, ap, ◌∙◌}
use Rattle.std.proofs.lemmas.List.{drop-map, length-drop, take_all}
use Rattle.simplecss_calls.proofs.contents.later_names.Goals as goal

-- what is left is all that is left
pub returns-then-count-names : goal.returns-then-count-names
returns-then-count-names c =
    let names = c.args.names.now in
    let count = c.args.count in
    ap (map (λ name. name.now))
    (take_all (length names - count) (drop count names) (omega (arith, length-drop count names)))
    ∙ sym (drop-map (λ name. name.now) count names)
