use Rattle.std.proofs.Common.{◌≡◌, length, map, None, Some}
use Rattle.std.specs.Prelude.{Err, string_bytes}
use Rattle.std.specs.Str.{IsUtf8}
use Rattle.call_answers.specs.Calls.{passed_of, passed_tree}
use Rattle.page_calls.specs.ModernCalls.{AreReadLines}
use Rattle.call_answers.specs.internal.Attributes.{placed_attribute_of}
use Rattle.page_calls.proofs.ModernCalls.{ReadFails, read-due}
use Rattle.call_answers.proofs.Handing.{handed-match}
use Rattle.page_calls.proofs.ModernPages.{tree-length}
use Rattle.call_answers.proofs.Limits.{fails_within, within_wider}
use Rattle.page_calls.proofs.modern.page_lines.Goals as goal

pub returns-in_err-read : goal.returns-in_err-read
returns-in_err-read c =
    let passed = passed_of c.args.tree in
    let error = c.in_err-read.field-0.0 in
    let longer = AreReadLines c.args.most c.args.content c.args.kind c.args.selectors.items passed
    None in
    handed-match (λ text. AreReadLines c.args.most c.args.content c.args.kind
    c.args.selectors.items passed (Some (string_bytes text))) (ReadFails passed longer)
    c.from_residual.result error c.from_residual.ensures.1
    (within_wider (λ is. absurd is) (λ fault is. is) (λ broken. broken) (λ is. is)
    (λ is. absurd is) error
    (fails_within ⊥ (λ fault. passed_tree passed ≡ Err fault) (¬ (IsUtf8 passed.strings)) ⊥ ⊥ error
    c.in_err-read.ensures))

pub read_lines-requires : goal.read_lines-requires
read_lines-requires c =
    let passed = passed_of c.args.tree in
    tree-length passed.elements passed.strings passed.ends (length passed.attributes) passed.states
    (length passed.prefixes)
    c.in_ok-read.read.rows c.in_ok-read.ensures.1

pub returns : goal.returns
returns c =
    read-due c.args.most c.args.content c.args.kind c.args.selectors.items (passed_of c.args.tree)
    c.in_ok-read.read.rows (map (λ name. name.now) c.in_ok-read.read.states.items)
    (map placed_attribute_of c.in_ok-read.read.attributes.items)
    c.in_ok-read.ensures.0 c.in_ok-read.ensures.1 c.in_ok-read.ensures.2 c.in_ok-read.ensures.4
    c.read_lines.result c.read_lines.ensures
