use Rattle.std.proofs.Common.{◌≡◌, length, inl, inr}
use Rattle.std.specs.Prelude.{Err, ◌⊎◌}
use Rattle.std.specs.Str.{IsUtf8}
use Rattle.call_answers.specs.Calls.{HasBadEnds, IsBrokenUtf8, passed_tree}
use Rattle.call_answers.proofs.Handing.{handed-match}
use Rattle.page_calls.proofs.ModernPages.{tree-length}
use Rattle.simplecss_calls.proofs.WinnerCalls.{content-beside, sheets-beside, tree-beside}
use Rattle.kept_queries.specs.Queries.{IsNoQuery, IsQueryOf}
use Rattle.kept_queries.specs.Sources.{source_of}
use Rattle.kept_queries.proofs.read_query.ReadQuery.new.Goals as goal

pub returns-in_err-rules : goal.returns-in_err-rules
returns-in_err-rules c =
    let s = source_of c.args.passed in
    let error = c.in_err-rules.field-0.0 in
    handed-match (IsQueryOf s) (IsNoQuery s) c.from_residual.result error c.from_residual.ensures.1
    (sheets-beside s.sheets s.limit (HasBadEnds s.own s.own_ends) (λ fault. passed_tree s.passed ≡ Err fault)
    (IsBrokenUtf8 s.own s.own_ends ⊎ (¬ (IsUtf8 s.passed.strings))) ⊥ error c.in_err-rules.ensures)

pub returns-in_err-own : goal.returns-in_err-own
returns-in_err-own c =
    let s = source_of c.args.passed in
    let error = c.in_err-own.field-0.0 in
    handed-match (IsQueryOf s) (IsNoQuery s) c.from_residual-in_err-own.result error
    c.from_residual-in_err-own.ensures.1
    (content-beside s.sheets s.limit (HasBadEnds s.own s.own_ends) (λ fault. passed_tree s.passed ≡ Err fault)
    (IsBrokenUtf8 s.own s.own_ends ⊎ (¬ (IsUtf8 s.passed.strings))) ⊥ (IsBrokenUtf8 s.own s.own_ends)
    (λ broken. inl broken) error c.in_err-own.ensures)

pub returns-in_err-read : goal.returns-in_err-read
returns-in_err-read c =
    let s = source_of c.args.passed in
    let error = c.in_err-read.field-0.0 in
    handed-match (IsQueryOf s) (IsNoQuery s) c.from_residual-in_err-read.result error
    c.from_residual-in_err-read.ensures.1
    (tree-beside s.sheets s.limit (HasBadEnds s.own s.own_ends) (λ fault. passed_tree s.passed ≡ Err fault)
    (IsBrokenUtf8 s.own s.own_ends ⊎ (¬ (IsUtf8 s.passed.strings))) ⊥ (¬ (IsUtf8 s.passed.strings))
    (λ broken. inr broken) error c.in_err-read.ensures)

pub page_of-requires : goal.page_of-requires
page_of-requires c =
    let passed = (source_of c.args.passed).passed in
    tree-length passed.elements passed.strings passed.ends (length passed.attributes) passed.states
    (length passed.prefixes) c.in_ok-read.read.rows c.in_ok-read.ensures.1
