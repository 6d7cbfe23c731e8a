use Rattle.std.proofs.Common.{◌∙◌, ◌≤◌, ◌-◌, ap, arith, drop, length, map, sym}
use Rattle.std.proofs.lemmas.List.{drop_min, drop-map, length-drop, take_all}
use Rattle.css_values.specs.Views.{stated_of}
use Rattle.sheet_calls.proofs.values.later_properties.Goals as goal

pub returns : goal.returns
returns c =
    let all = c.args.properties.now in
    let whole : length (drop c.min.result all) ≤ length all - c.min.result =
    omega (arith, length-drop c.min.result all) in
    ap (map stated_of) (take_all (length all - c.min.result) (drop c.min.result all) whole)
    ∙ ap (λ n. map stated_of (drop n all)) c.min.ensures
    ∙ ap (map stated_of) (drop_min c.args.count all)
    ∙ sym (drop-map stated_of c.args.count all)
