use Rattle.std.proofs.Common.{◌≡◌, ◌∙◌, sym, ap, rules, arith, map, length, List, None}
use Rattle.css_cascade.specs.Layers.{number_in, number_of, place_of}
use Rattle.css_cascade.specs.LayerViews.{part_of, known_layer}
use Rattle.css_cascade.specs.declared.layers.KnownLayer.{KnownLayer}
use Rattle.css_cascade.proofs.LayerLemmas.{mentioned, numbered}
use Rattle.css_cascade.proofs.layers.Layers.mention_part.Goals as goal

pub returns-clause-known : goal.returns-clause-known
returns-clause-known c =
    let items = c.args.self.now.known.items in
    let new : KnownLayer =
    record { number = c.len-number.result; outer = c.args.outer; part = c.args.part } in
    let none : number_in c.args.outer (part_of c.args.part) (map known_layer items) ≡ None =
    search rules in
    let place : c.place_of-at.result ≡ place_of c.args.outer (map known_layer items) = search rules in
    let number : c.len-number.result ≡ length items = omega (arith, c.len-number.ensures, c.args.self.now.known.ok.0) in
    let after : c.insert.new.self.items ≡ _ = c.in_ok-insert.ensures.items in
    ap (map known_layer) after ∙ mentioned items new c.place_of-at.result none number place

pub returns-clause-number : goal.returns-clause-number
returns-clause-number c =
    let items = c.args.self.now.known.items in
    let new : KnownLayer =
    record { number = c.len-number.result; outer = c.args.outer; part = c.args.part } in
    numbered items new c.place_of-at.result (search rules)
    (omega (arith, c.len-number.ensures, c.args.self.now.known.ok.0)) (search rules)
    ∙ ap (λ (ls : List KnownLayer). number_of c.args.outer (part_of c.args.part) (map known_layer ls))
    (sym c.in_ok-insert.ensures.items)
