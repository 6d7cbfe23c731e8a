use Rattle.std.proofs.Common.{◌∙◌, ap, map, take, sym}
use Rattle.std.proofs.lemmas.List.{take_min, take-map}
use Rattle.css_values.specs.Views.{stated_of}
use Rattle.sheet_calls.proofs.values.first_properties.Goals as goal

pub returns : goal.returns
returns c =
    ap (λ n. map stated_of (take n c.args.properties.now)) c.min.ensures
    ∙ ap (map stated_of) (take_min c.args.count c.args.properties.now)
    ∙ sym (take-map stated_of c.args.count c.args.properties.now)
