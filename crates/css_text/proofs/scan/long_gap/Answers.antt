use Rattle.std.proofs.Common.{◌≡◌, ◌∙◌, nat_lt, sym, ap, drop, false}
use Rattle.css_text.specs.Comments.{opens_comment}
use Rattle.css_text.proofs.bytes.GapSteps.{passed-spaces, passed-rest, passed-space, no_part-after_spaces}
use Rattle.css_text.proofs.scan.long_gap.Goals as goal

pub returns-then-may_open_comment-clause-unclosed :
    goal.returns-then-may_open_comment-clause-unclosed
returns-then-may_open_comment-clause-unclosed c = c.opens_comment.ensures.value ∙ ap opens_comment
    (c.range_from-then-may_open_comment.ensures.value ∙ sym c.closed_part-closed.ensures.rest)

pub returns-else-may_open_comment-clause-rest : goal.returns-else-may_open_comment-clause-rest
returns-else-may_open_comment-clause-rest c =
    let text = c.args.text.now in
    let len = c.spaces_len-len.result in
    let count = c.spaces_len-len.ensures.len in
    let closed : opens_comment (drop len text) ≡ false =
    rw c.range_from.ensures.value at (c.may_open_comment.ensures c.if-may_open_comment.false) in
    passed-rest text len (nat_lt 0 len) (passed-spaces text len c.utf8.text count)
    (no_part-after_spaces text len count closed)

pub returns-else-may_open_comment-clause-spaced : goal.returns-else-may_open_comment-clause-spaced
returns-else-may_open_comment-clause-spaced c =
    let text = c.args.text.now in
    let len = c.spaces_len-len.result in
    let count = c.spaces_len-len.ensures.len in
    let closed : opens_comment (drop len text) ≡ false =
    rw c.range_from.ensures.value at (c.may_open_comment.ensures c.if-may_open_comment.false) in
    passed-space text len (nat_lt 0 len) (passed-spaces text len c.utf8.text count)
    (no_part-after_spaces text len count closed)

pub returns-else-may_open_comment-clause-unclosed :
    goal.returns-else-may_open_comment-clause-unclosed
returns-else-may_open_comment-clause-unclosed c =
    let text = c.args.text.now in
    let len = c.spaces_len-len.result in
    let count = c.spaces_len-len.ensures.len in
    let closed : opens_comment (drop len text) ≡ false =
    rw c.range_from.ensures.value at (c.may_open_comment.ensures c.if-may_open_comment.false) in
    let rest = passed-rest text len (nat_lt 0 len) (passed-spaces text len c.utf8.text count)
    (no_part-after_spaces text len count closed) in
    sym (ap opens_comment rest ∙ closed)
