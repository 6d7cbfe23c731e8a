use Rattle.std.proofs.Common.{◌≡◌, ◌∙◌, true, false, map, string_bytes, sym, ap}
use Rattle.css_clean.specs.Selectors.{is_list_scoped}
use Rattle.css_clean.specs.Scoping.{joined}
use Rattle.css_clean.specs.Views.{sheet_policy_of}
use Rattle.css_clean.proofs.KeptLemmas.{joined-map, list-scoped, list-unscoped}
use Rattle.css_clean.proofs.scoping.joined.Goals as goal

pub returns-then-branch : goal.returns-then-branch
returns-then-branch c =
    let policy = sheet_policy_of c.args.policy in
    let list = string_bytes c.in_ok-list.list in
    let made : list ≡ joined (map string_bytes c.args.selectors.now) =
    c.in_ok-list.ensures.ok ∙ joined-map string_bytes c.args.selectors.now in
    let holds : is_list_scoped policy list ≡ true =
    sym (ap (is_list_scoped policy) c.as_str.ensures.value) ∙ sym c.in_ok-is_list_scoped.ensures
    ∙ c.if-branch.true in
    list-scoped policy list (joined (map string_bytes c.args.selectors.now)) made holds

pub returns : goal.returns
returns c =
    let policy = sheet_policy_of c.args.policy in
    let list = string_bytes c.in_ok-list.list in
    let made : list ≡ joined (map string_bytes c.args.selectors.now) =
    c.in_ok-list.ensures.ok ∙ joined-map string_bytes c.args.selectors.now in
    let fails : is_list_scoped policy list ≡ false =
    sym (ap (is_list_scoped policy) c.as_str.ensures.value) ∙ sym c.in_ok-is_list_scoped.ensures
    ∙ c.if-branch.false in
    list-unscoped policy list (joined (map string_bytes c.args.selectors.now)) made fails
