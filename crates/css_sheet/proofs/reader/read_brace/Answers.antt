use Rattle.css_sheet.proofs.NextParts.{brace-read, no-brace-inside, no-brace-outside}
use Rattle.css_sheet.proofs.reader.read_brace.Goals as goal
use Rattle.css_sheet.proofs.reader.read_brace.Goals.{then-not-in_block-via-then-not-in_block, then-not-in_block-via-else-not-in_block+then-is_empty}

pub returns-then-not-in_block-clause-read : goal.returns-then-not-in_block-clause-read
returns-then-not-in_block-clause-read c =
    elim c.then-not-in_block.branch [
      | then-not-in_block-via-then-not-in_block w ↦
          no-brace-outside c.args.in_block c.args.text.now c.requires w.if-not-in_block.true
      | then-not-in_block-via-else-not-in_block+then-is_empty w ↦
          no-brace-inside c.args.in_block c.args.text.now c.past_gap-from.result.now
          w.if-not-in_block.false c.past_gap-from.ensures w.if-is_empty.ensures
    ]

pub returns-clause-read : goal.returns-clause-read
returns-clause-read c =
    (brace-read c.args.in_block c.if-not-in_block.false c.args.text.now c.front.result.now
    c.past_gap-from.result.now c.past_byte-rest.result.now c.requires c.past_gap-from.ensures
    c.if-is_empty.ensures c.past_byte-rest.ensures c.front.ensures).read

pub returns-clause-from : goal.returns-clause-from
returns-clause-from c =
    (brace-read c.args.in_block c.if-not-in_block.false c.args.text.now c.front.result.now
    c.past_gap-from.result.now c.past_byte-rest.result.now c.requires c.past_gap-from.ensures
    c.if-is_empty.ensures c.past_byte-rest.ensures c.front.ensures).from_is

pub returns-clause-inside : goal.returns-clause-inside
returns-clause-inside c =
    (brace-read c.args.in_block c.if-not-in_block.false c.args.text.now c.front.result.now
    c.past_gap-from.result.now c.past_byte-rest.result.now c.requires c.past_gap-from.ensures
    c.if-is_empty.ensures c.past_byte-rest.ensures c.front.ensures).inside
