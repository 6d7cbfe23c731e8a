use Rattle.std.proofs.Common.{refl}
use Rattle.css_text.specs.ThisEdition.{this_edition}
use Rattle.css_text.specs.Cursor.{rest_of}
use Rattle.css_text.proofs.bytes.NameLemmas.{name-got, name-none}
use Rattle.css_text.proofs.readers.take_name.Goals as goal

pub returns-in-Some-clause-reads : goal.returns-in-Some-clause-reads
returns-in-Some-clause-reads c =
    name-got this_edition c.slice_tail-text.result.now (rest_of c.args.s.now) c.range.result.now
    (rest_of c.advance.new.self) c.in-Some.len
    c.slice_tail-text.ensures c.in-Some.ensures.boundary.0 c.in-Some.ensures.some.0
    c.in-Some.ensures.some.1 c.range.ensures.value c.advance.ensures.rest

pub returns-in-None-clause-reads : goal.returns-in-None-clause-reads
returns-in-None-clause-reads c =
    name-none this_edition c.slice_tail-text.result.now (rest_of c.args.s.now)
    (rest_of c.try_consume_byte.new.self)
    c.slice_tail-text.ensures (c.in-None.ensures.none refl) c.try_consume_byte.ensures.rest
