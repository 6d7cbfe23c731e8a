use Rattle.std.proofs.Common.{◌≡◌, ◌∙◌, ◌||◌, true, false, sym, ap, rules, bytes_eq}
use Rattle.css_text.proofs.reading.EachLemmas.{took}
use Rattle.css_values.specs.Names.{is_named_in, part_before}
use Rattle.css_values.proofs.NameLemmas.{part_before-takes, named-none, named-some}
use Rattle.css_values.proofs.names.is_named_in.Goals as goal

pub names-smaller : goal.names-smaller
names-smaller c =
    took (part_before 32) (part_before-takes 32) c.names.rest.now c.in-Some.part.rest.now
    c.in-Some.part.front.now c.in-Some.ensures

pub returns : goal.returns
returns c = sym (c.names.invariant.1 ∙ named-none c.names.rest.now c.args.name.now c.in_default.ensures)

pub returns-then-eq : goal.returns-then-eq
returns-then-eq c =
    let same : bytes_eq c.in-Some.part.front.now c.args.name.now ≡ true = search rules in
    sym (c.names.invariant.1
    ∙ named-some c.names.rest.now c.in-Some.part.front.now c.in-Some.part.rest.now c.args.name.now c.in-Some.ensures
    ∙ ap (λ t. t || is_named_in c.in-Some.part.rest.now c.args.name.now) same)

pub names-preserved : goal.names-preserved
names-preserved c =
    let other : bytes_eq c.in-Some.part.front.now c.args.name.now ≡ false = search rules in (
      search rules,
      c.names.invariant.1
          ∙ named-some c.names.rest.now c.in-Some.part.front.now c.in-Some.part.rest.now c.args.name.now c.in-Some.ensures
          ∙ ap (λ t. t || is_named_in c.in-Some.part.rest.now c.args.name.now) other,
    )
