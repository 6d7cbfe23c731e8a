use Rattle.std.proofs.Common.{◌≡◌, ◌+◌, ◌++◌, ◌∷◌, [], length, ap, sym, subst, ◌∙◌}
use Rattle.cssq_tree.specs.TreeText.{fields_of, faults_of_line}
use Rattle.cssq_tree.specs.internal.EntryLines.{AreLinked, IsReportedFor}
use Rattle.cssq_tree.proofs.PageLines.{line_added, passed_on}
use Rattle.cssq_tree.proofs.tree.add_line.Goals as goal

pub link-line-requires : goal.link-line-requires
link-line-requires c = subst AreLinked (sym c.as_slice.ensures.value) c.requires.linked

-- what was wrong with the line
pub returns-in_err-entry-clause-fault : goal.returns-in_err-entry-clause-fault
returns-in_err-entry-clause-fault c =
    let old = c.args.lines.now.items in
    let limit = c.args.limit in
    let text = c.args.text.now in
    let number : c.len-number.result + 1 ≡ length old + 1 =
    ap (λ n. n + 1) (c.len-number.ensures ∙ c.args.lines.now.ok.0) in
    let reported =
    subst (λ n. IsReportedFor n (faults_of_line n limit (fields_of text)) c.in_err-entry.field-0.0)
    number c.in_err-entry.ensures.value in
    passed_on c.from_residual.result c.in_err-entry.field-0.0 (IsReportedFor (length old + 1)
    (faults_of_line (length old + 1) limit (fields_of text))) c.from_residual.ensures.1 reported

-- a growth was refused after the check of the line
pub returns-in-Err-clause-fault : goal.returns-in-Err-clause-fault
returns-in-Err-clause-fault c =
    let number : c.len-number.result + 1 ≡ length c.args.lines.now.items + 1 =
    ap (λ n. n + 1) (c.len-number.ensures ∙ c.args.lines.now.ok.0) in (
      number,
      subst (λ n. faults_of_line n c.args.limit (fields_of c.args.text.now) ≡ []) number
          c.in_ok-entry.ensures.value.0,
    )

pub returns-in-Ok-clause-ok : goal.returns-in-Ok-clause-ok
returns-in-Ok-clause-ok c =
    let old = c.args.lines.now.items in
    let number : c.len-number.result + 1 ≡ length old + 1 =
    ap (λ n. n + 1) (c.len-number.ensures ∙ c.args.lines.now.ok.0) in
    let linked : AreLinked (old ++ c.link-line.result ∷ []) =
    subst (λ lines. AreLinked (lines ++ c.link-line.result ∷ [])) c.as_slice.ensures.value
    c.link-line.ensures.linked in
    let pushed : c.push.new.self.items ≡ old ++ c.link-line.result ∷ [] = c.in-Ok.ensures.items in
    line_added old c.args.limit (c.len-number.result + 1) c.args.text.now c.in_ok-entry.entry
    c.link-line.result c.push.new.self.items number c.in_ok-entry.ensures.value
    c.in_ok-entry.ensures.within c.link-line.ensures.entry linked pushed
