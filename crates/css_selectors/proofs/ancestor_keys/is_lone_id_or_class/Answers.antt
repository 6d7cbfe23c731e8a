use Rattle.std.proofs.Common.{◌≤◌, length, subst}
use Rattle.css_selectors.proofs.AncestorKeyLemmas.{not_lone}
use Rattle.css_selectors.proofs.ancestor_keys.is_lone_id_or_class.Goals as goal

pub returns-in_default-2 : goal.returns-in_default-2
returns-in_default-2 c =
    not_lone c.args.selector.now
    (subst (λ xs. 2 ≤ length xs) c.as_slice.ensures.value c.in_default.len_at_least)
