use Rattle.std.proofs.Common.{◌≡◌, ◌∙◌, ℕ, suc, ◌<◌, ◌-◌, Some, map, drop, length, sym, ap, arith, bytes_eq, if◌then◌else◌}
use Rattle.std.proofs.lemmas.List.{length-map, get_or-map}
use Rattle.std.specs.BTreeMap.{get_by_text}
use Rattle.css_syntax.specs.Escapes.{decoded}
use Rattle.css_values.specs.Resolution.{Property, no_property, number_from}
use Rattle.css_values.specs.Views.{property_of}
use Rattle.css_values.proofs.TableLemmas.{number_from-more}
use Rattle.css_values.proofs.table.numbers_of.Goals as goal

pub properties-preserved : goal.properties-preserved
properties-preserved c =
    let all = map property_of c.args.properties.now in
    let n = c.properties.number - 1 in
    let within : n < length c.args.properties.now = omega arith in (
      omega arith,
      λ name.
          let e : suc n ≡ c.properties.number = omega arith in
          let l : n < length all = omega (arith, length-map c.args.properties.now property_of) in
          number_from-more all n name (get_by_text c.properties.numbers name)
          (get_by_text c.give_number.new.numbers name) l
          (c.properties.invariant.1 name ∙ ap (λ (k : ℕ). number_from k (drop k all) name) (sym e))
          (c.in_ok-give_number.ensures name
          ∙ ap (λ (p : Property). if bytes_eq (decoded p.name) name then Some n else get_by_text c.properties.numbers name)
          (sym (get_or-map property_of c.args.properties.now n _ no_property within))),
    )
