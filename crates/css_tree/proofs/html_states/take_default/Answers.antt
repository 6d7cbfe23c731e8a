use Rattle.std.proofs.Common.{false, not, ◌&&◌, ap, sym, ◌∙◌, arith}
use Rattle.std.specs.Prelude.{nat_lt, slice_index_or}
use Rattle.css_tree.specs.Counts.{any_below}
use Rattle.css_tree.specs.HtmlStates.{form_of, is_submit_of}
use Rattle.css_tree.proofs.HtmlStateLemmas.{form_of-within, submits-more}
use Rattle.css_tree.proofs.html_states.take_default.Goals as goal

pub has_no_submit-is_first-requires : goal.has_no_submit-is_first-requires
has_no_submit-is_first-requires c =
    let form = c.form_of-form.ensures in let count = c.requires.submits.all in
    let most = form_of-within c.args.node.now.0 c.args.node.now.1 c.requires.within in
    omega (arith, form, count, most)

pub bounds-have_submits-form : goal.bounds-have_submits-form
bounds-have_submits-form c =
    let form = c.form_of-form.ensures in let count = c.requires.submits.all in
    let most = form_of-within c.args.node.now.0 c.args.node.now.1 c.requires.within in
    omega (arith, form, count, most)

pub returns-clause-value : goal.returns-clause-value
returns-clause-value c =
    let rows = c.args.node.now.0 in
    let i = c.args.node.now.1 in
    let most = form_of-within rows i c.requires.within in
    c.has_no_submit-is_first.ensures
    ∙ ap (λ f. nat_lt 0 f && not (slice_index_or c.args.have_submits.now f false)) c.form_of-form.ensures
    ∙ ap (λ b. nat_lt 0 (form_of rows i) && not b) (c.requires.submits.each (form_of rows i) most)
    ∙ ap (λ b. b && (nat_lt 0 (form_of rows i) && not (any_below (is_submit_of rows (form_of rows i)) i)))
    (sym (sym c.is_submit.ensures ∙ c.if-not-is_submit.false))

pub returns-clause-submits : goal.returns-clause-submits
returns-clause-submits c =
    submits-more c.args.node.now.0 c.args.have_submits.now c.args.node.now.1 c.form_of-form.result
    (sym c.is_submit.ensures ∙ c.if-not-is_submit.false) c.form_of-form.ensures c.requires.within
    c.requires.submits
