use Rattle.std.proofs.Common.{◌≡◌, ◌∙◌, true, false, string_bytes, sym, ap}
use Rattle.css_clean.specs.Sheets.{is_clean}
use Rattle.css_clean.specs.Views.{sheet_policy_of}
use Rattle.css_clean.proofs.CleanLemmas.{if_ok, not-short, long-is, is-short, short-is}
use Rattle.css_clean.proofs.SheetLemmas.{nil-clean}
use Rattle.css_clean.proofs.KeptLemmas.{clean-nil, clean-kept, clean-refused, text-kept, limit-dropped, whole-dropped}
use Rattle.css_clean.proofs.sheet.clean_sheet.Goals as goal

pub returns-then-text-policy : goal.returns-then-text-policy
returns-then-text-policy c =
    let policy = sheet_policy_of c.args.policy in
    let long = c.if-text-policy.true in
    record {
      text = if_ok c.dropped_whole.result _ _ c.dropped_whole.ensures.text
          (λ out e. clean-nil policy c.args.text.now (string_bytes out.text) e
          (long-is policy.declarations c.args.text.now long));
      clean = if_ok c.dropped_whole.result _ _ c.dropped_whole.ensures.text
          (λ out e. nil-clean policy (string_bytes out.text) e);
      dropped = if_ok c.dropped_whole.result _ _ c.dropped_whole.ensures.dropped
          (λ out e. e ∙ limit-dropped policy c.args.text.now (not-short policy.declarations c.args.text.now long));
    }

pub returns-then-branch : goal.returns-then-branch
returns-then-branch c =
    let policy = sheet_policy_of c.args.policy in
    let whole = string_bytes c.in_ok-kept.kept.text in
    let short = c.if-text-policy.false in
    let is = c.in_ok-kept.ensures.kept
    ∙ text-kept policy c.args.text.now (short-is policy.declarations c.args.text.now short) in
    let holds : is_clean policy whole ≡ true =
    sym (ap (is_clean policy) c.as_str.ensures.value) ∙ sym c.in_ok-is_clean_sheet.ensures ∙ c.if-branch.true in
    record {
      text = clean-kept policy c.args.text.now whole is holds;
      clean = holds;
      dropped = c.in_ok-kept.ensures.dropped
          ∙ whole-dropped policy c.args.text.now whole true (is-short policy.declarations c.args.text.now short)
          is holds;
    }

pub returns : goal.returns
returns c =
    let policy = sheet_policy_of c.args.policy in
    let text = c.args.text.now in
    let kept = string_bytes c.in_ok-kept.kept.text in
    let is = c.in_ok-kept.ensures.kept
    ∙ text-kept policy text (short-is policy.declarations text c.if-text-policy.false) in
    let fails : is_clean policy kept ≡ false =
    sym (ap (is_clean policy) c.as_str.ensures.value) ∙ sym c.in_ok-is_clean_sheet.ensures ∙ c.if-branch.false in
    record {
      text = if_ok c.dropped_whole-2.result _ _ c.dropped_whole-2.ensures.text
          (λ out e. clean-refused policy text kept (string_bytes out.text) e is fails);
      clean = if_ok c.dropped_whole-2.result _ _ c.dropped_whole-2.ensures.text
          (λ out e. nil-clean policy (string_bytes out.text) e);
      dropped = if_ok c.dropped_whole-2.result _ _ c.dropped_whole-2.ensures.dropped
          (λ out e. e ∙ whole-dropped policy text kept false
          (is-short policy.declarations text c.if-text-policy.false) is fails);
    }
