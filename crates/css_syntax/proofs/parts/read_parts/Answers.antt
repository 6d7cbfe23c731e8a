use Rattle.css_syntax.proofs.PartTexts.{text-boundary, rest-boundary, rest-within, read-parts, read-slices}
use Rattle.css_syntax.proofs.parts.read_parts.Goals as goal

pub overflow_sub-end : goal.overflow_sub-end
overflow_sub-end c =
    let p = c.read_byte_parts-parts.result in
    rest-within c.args.stops c.args.text.now p.rest.now
    (read-parts c.args.stops c.as_bytes.result.now c.args.text.now p.text.now p.rest.now p.quality
    c.as_bytes.ensures.value c.read_byte_parts-parts.ensures).1

pub range-requires-clause-end_boundary : goal.range-requires-clause-end_boundary
range-requires-clause-end_boundary c =
    let p = c.read_byte_parts-parts.result in
    text-boundary c.args.stops c.args.text.now p.text.now c.utf8.text
    (read-parts c.args.stops c.as_bytes.result.now c.args.text.now p.text.now p.rest.now p.quality
    c.as_bytes.ensures.value c.read_byte_parts-parts.ensures).0

pub range_from-requires : goal.range_from-requires
range_from-requires c = λ some.
    let p = c.read_byte_parts-parts.result in
    rest-boundary c.args.stops c.args.text.now p.rest.now c.utf8.text
    (read-parts c.args.stops c.as_bytes.result.now c.args.text.now p.text.now p.rest.now p.quality
    c.as_bytes.ensures.value c.read_byte_parts-parts.ensures).1

pub returns : goal.returns
returns c =
    let p = c.read_byte_parts-parts.result in
    read-slices c.args.stops c.as_bytes.result.now c.args.text.now p.text.now p.rest.now
    c.range.result.now c.range_from.result.now p.quality c.as_bytes.ensures.value
    c.read_byte_parts-parts.ensures c.range.ensures.value c.range_from.ensures.value
