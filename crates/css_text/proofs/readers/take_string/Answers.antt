use Rattle.css_text.specs.Cursor.{rest_of}
use Rattle.css_text.proofs.bytes.StringLemmas.{string-got, string-none}
use Rattle.css_text.proofs.readers.take_string.Goals as goal

pub returns-in-Some-clause-reads : goal.returns-in-Some-clause-reads
returns-in-Some-clause-reads c =
    string-got c.args.quote c.in-Some.closing c.slice_tail-text.result.now
    (rest_of c.args.s.now) c.range.result.now (rest_of c.advance.new.self)
    c.slice_tail-text.ensures c.in-Some.ensures.within c.in-Some.ensures.found c.range.ensures.value
    c.advance.ensures.rest

pub returns-in-None-clause-reads : goal.returns-in-None-clause-reads
returns-in-None-clause-reads c =
    string-none c.args.quote c.slice_tail-text.result.now (rest_of c.args.s.now)
    (rest_of c.jump_to_end.new.self)
    c.slice_tail-text.ensures c.in-None.ensures.found c.jump_to_end.ensures.rest
