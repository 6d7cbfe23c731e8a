use Rattle.std.proofs.Common.{◌≡◌, ◌∙◌, sym, ap, ◌||◌, false}
use Rattle.std.proofs.lemmas.Bool.{or_parts}
use Rattle.std.proofs.lemmas.Str.{IsCharBoundary-start}
use Rattle.css_text.specs.Bytes.{starts_by}
use Rattle.css_text.specs.Characters.{is_space}
use Rattle.css_text.specs.Comments.{opens_comment}
use Rattle.css_text.proofs.bytes.GapSteps.{passed-start, passed-rest, passed-space, blank_part-none}
use Rattle.css_text.proofs.scan.find_gap.Goals as goal

pub returns-else-may_begin_gap-clause-rest : goal.returns-else-may_begin_gap-clause-rest
returns-else-may_begin_gap-clause-rest c =
    let text = c.args.text.now in
    let none : (starts_by is_space text || opens_comment text) ≡ false =
    c.may_begin_gap.ensures c.if-may_begin_gap.false in
    passed-rest text 0 false (passed-start text c.utf8.text) (blank_part-none text none)

pub returns-else-may_begin_gap-clause-spaced : goal.returns-else-may_begin_gap-clause-spaced
returns-else-may_begin_gap-clause-spaced c =
    let text = c.args.text.now in
    let none : (starts_by is_space text || opens_comment text) ≡ false =
    c.may_begin_gap.ensures c.if-may_begin_gap.false in
    passed-space text 0 false (passed-start text c.utf8.text) (blank_part-none text none)

pub returns-else-may_begin_gap-clause-unclosed : goal.returns-else-may_begin_gap-clause-unclosed
returns-else-may_begin_gap-clause-unclosed c =
    let text = c.args.text.now in
    let none : (starts_by is_space text || opens_comment text) ≡ false =
    c.may_begin_gap.ensures c.if-may_begin_gap.false in
    let rest =
    passed-rest text 0 false (passed-start text c.utf8.text) (blank_part-none text none) in
    sym (ap opens_comment rest ∙ (or_parts (starts_by is_space text) (opens_comment text) none).1)

pub returns-else-may_begin_gap-clause-boundary : goal.returns-else-may_begin_gap-clause-boundary
returns-else-may_begin_gap-clause-boundary c = IsCharBoundary-start c.args.text.now c.utf8.text
