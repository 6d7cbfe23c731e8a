use Rattle.std.proofs.Common.{◌∙◌, ap, arith, length}
use Rattle.css_xml.proofs.DecodingLemmas.{part-within, pushed-step, pushed-end}
use Rattle.css_xml.proofs.references.decode.Goals as goal

pub parts-smaller : goal.parts-smaller
parts-smaller c =
    omega (
      arith,
      ap length c.in_ok-rest.ensures.left,
      part-within c.args.kind c.in-Some.byte c.in-Some.after.now,
      ap length c.in-Some.ensures,
    )

pub parts-preserved : goal.parts-preserved
parts-preserved c =
    pushed-step c.args.kind c.in-Some.byte c.in-Some.after.now c.in_ok-rest.rest.now c.parts.rest.now
    c.parts.out.items c.push_part.new.out.items c.in-Some.ensures c.in_ok-rest.ensures.pushed
    c.in_ok-rest.ensures.left
    ∙ c.parts.invariant

pub returns : goal.returns
returns c =
    pushed-end c.args.kind c.parts.rest.now c.parts.out.items _ c.in_default.ensures c.parts.invariant
