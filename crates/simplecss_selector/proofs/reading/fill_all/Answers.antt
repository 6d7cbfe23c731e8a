use Rattle.std.proofs.Common.{◌≡◌, ◌∷◌, [], List, ℕ, Option, Some, None, drop, sym, ◌∙◌, ap, subst}
use Rattle.css_text.specs.Bytes.{past}
use Rattle.css_text.specs.Characters.{is_space}
use Rattle.simplecss_grammar.specs.Skipped.{Refusal, faulty, unknown_class, class_name, refusal_in, refused, refused_part, add_each}
use Rattle.simplecss_selector.specs.TokenViews.{token_of}
use Rattle.simplecss_selector.specs.SelectorTokenizers.{whole_text, left_of, still_to_come}
use Rattle.simplecss_selector.proofs.Drafting.{token-filled, token-unknown, token-fewer, error-refused, end-finished, refusal-filled, refusal-unknown, refusal-error, refusal-end, refused-reported}
use Rattle.simplecss_selector.proofs.reading.fill_all.Goals as goal

pub returns-in-Err-clause-filled : goal.returns-in-Err-clause-filled
returns-in-Err-clause-filled g c =
    let t = c.loop-item.tokenizer in
    let after = c.next.new.self in
    error-refused (whole_text t) c.loop-item.draft c.in-Err.error (still_to_come t)
    (still_to_come after) (left_of after) (rw c.in-Err.is at c.in-Some.ensures.steps.first)
    ∙ c.loop-item.invariant.whole

pub returns-then-not-branch-clause-filled : goal.returns-then-not-branch-clause-filled
returns-then-not-branch-clause-filled g c =
    let t = c.loop-item.tokenizer in
    let after = c.next.new.self in
    token-unknown (whole_text t) c.loop-item.draft c.in-Ok.token (still_to_come t)
    (still_to_come after) (left_of after) (rw c.in-Ok.is at c.in-Some.ensures.steps.first)
    (sym c.in_ok-fill.ensures.known ∙ c.if-not-branch.true)
    ∙ c.loop-item.invariant.whole

pub loop-item-smaller : goal.loop-item-smaller
loop-item-smaller g c =
    let t = c.loop-item.tokenizer in
    let after = c.next.new.self in
    token-fewer (whole_text t) c.in-Ok.token (still_to_come t) (still_to_come after) (left_of after)
    (rw c.in-Ok.is at c.in-Some.ensures.steps.first)

pub loop-item-preserved : goal.loop-item-preserved
loop-item-preserved g c =
    let t = c.loop-item.tokenizer in
    let after = c.next.new.self in
    record {
      same = c.in-Some.ensures.steps.text ∙ c.loop-item.invariant.same;
      whole = rw c.in_ok-fill.ensures.filled (token-filled (whole_text t) c.loop-item.draft
          c.in-Ok.token (still_to_come t) (still_to_come after) (left_of after) (rw c.in-Ok.is at
          c.in-Some.ensures.steps.first) (sym c.in_ok-fill.ensures.known ∙ c.if-not-branch.false)
          ∙ c.loop-item.invariant.whole);
      why = subst (λ (w : List ℕ). refusal_in w (still_to_come after)
          ≡ refusal_in w (still_to_come t)) (c.loop-item.invariant.same ∙ c.requires)
          (refusal-filled (whole_text t) c.in-Ok.token (still_to_come t) (still_to_come after)
          (left_of after) (rw c.in-Ok.is at c.in-Some.ensures.steps.first)
          (sym c.in_ok-fill.ensures.known ∙ c.if-not-branch.false))
          ∙ c.loop-item.invariant.why;
      state = c.loop-item.invariant.state;
    }

pub returns-clause-filled : goal.returns-clause-filled
returns-clause-filled g c =
    let t = c.loop-item.tokenizer in
    let after = c.next.new.self in
    end-finished (whole_text t) c.loop-item.draft (still_to_come t) (still_to_come after)
    (left_of after) c.in_default.ensures.steps.first
    ∙ c.loop-item.invariant.whole

pub returns-in-Err-clause-reported : goal.returns-in-Err-clause-reported
returns-in-Err-clause-reported g c =
    let add = g.P.Report.add in
    let t = c.loop-item.tokenizer in
    let after = c.next.new.self in
    let text = c.args.text.now in
    let same : whole_text t ≡ text = c.loop-item.invariant.same ∙ c.requires in
    let why : Some (faulty text c.in-Err.error) ≡ refusal_in text (still_to_come t) =
    subst (λ (w : List ℕ). Some (faulty w c.in-Err.error) ≡ refusal_in w (still_to_come t)) same
    (refusal-error (whole_text t) c.in-Err.error (still_to_come t) (still_to_come after)
    (left_of after) (rw c.in-Err.is at c.in-Some.ensures.steps.first)) in
    let left : drop c.pos.result text ≡ left_of after =
    ap (drop c.pos.result) (sym (c.in-Some.ensures.steps.text ∙ same)) ∙ c.pos.ensures.rest in
    c.in_ok-report_refusal-in-Err.ensures
    ∙ ap (λ (s : g.P.Report.State). add_each add s
    (refused text (past is_space (drop c.pos.result text)) (faulty text c.in-Err.error) ∷ []))
    c.loop-item.invariant.state
    ∙ ap (add_each add (g.P.Report.state c.args.report.now))
    (refused-reported text (drop c.pos.result text) (left_of after) (faulty text c.in-Err.error)
    (refusal_in text (still_to_come c.args.tokenizer.now)) (why ∙ c.loop-item.invariant.why) left)

pub returns-then-not-branch-clause-reported : goal.returns-then-not-branch-clause-reported
returns-then-not-branch-clause-reported g c =
    let add = g.P.Report.add in
    let t = c.loop-item.tokenizer in
    let after = c.next.new.self in
    let text = c.args.text.now in
    let same : whole_text t ≡ text = c.loop-item.invariant.same ∙ c.requires in
    let name = class_name (token_of c.in-Ok.token) in
    let why : Some (unknown_class name) ≡ refusal_in text (still_to_come t) =
    subst (λ (w : List ℕ). Some (unknown_class name) ≡ refusal_in w (still_to_come t)) same
    (refusal-unknown (whole_text t) c.in-Ok.token (still_to_come t) (still_to_come after)
    (left_of after) (rw c.in-Ok.is at c.in-Some.ensures.steps.first)
    (sym c.in_ok-fill.ensures.known ∙ c.if-not-branch.true)) in
    let left : drop c.pos-then-not-branch.result text ≡ left_of after =
    ap (drop c.pos-then-not-branch.result) (sym (c.in-Some.ensures.steps.text ∙ same))
    ∙ c.pos-then-not-branch.ensures.rest in
    c.in_ok-report_refusal.ensures
    ∙ ap (λ (n : List ℕ). add_each add (g.P.Report.state c.loop-item.report)
    (refused text (past is_space (drop c.pos-then-not-branch.result text)) (unknown_class n) ∷ []))
    c.class_name.ensures
    ∙ ap (λ (s : g.P.Report.State). add_each add s (refused text
    (past is_space (drop c.pos-then-not-branch.result text)) (unknown_class name) ∷ []))
    c.loop-item.invariant.state
    ∙ ap (add_each add (g.P.Report.state c.args.report.now)) (refused-reported text
    (drop c.pos-then-not-branch.result text) (left_of after) (unknown_class name)
    (refusal_in text (still_to_come c.args.tokenizer.now)) (why ∙ c.loop-item.invariant.why) left)

pub returns-clause-reported : goal.returns-clause-reported
returns-clause-reported g c =
    let t = c.loop-item.tokenizer in
    let after = c.next.new.self in
    let text = c.args.text.now in
    let none : None ≡ refusal_in text (still_to_come t) = subst (λ (w : List ℕ).
    None ≡ refusal_in w (still_to_come t)) (c.loop-item.invariant.same ∙ c.requires)
    (refusal-end (whole_text t) (still_to_come t) (still_to_come after)
    (left_of after) c.in_default.ensures.steps.first) in
    c.loop-item.invariant.state
    ∙ ap (λ (why : Option Refusal). add_each g.P.Report.add (g.P.Report.state c.args.report.now)
    (refused_part text (past is_space (left_of after)) why)) (none ∙ c.loop-item.invariant.why)
