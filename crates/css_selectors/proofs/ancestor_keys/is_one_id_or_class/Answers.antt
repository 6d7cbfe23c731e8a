use Rattle.css_selectors.proofs.AncestorKeyLemmas.{not_one}
use Rattle.css_selectors.proofs.ancestor_keys.is_one_id_or_class.Goals as goal

pub returns-in_default-2 : goal.returns-in_default-2
returns-in_default-2 c = not_one c.args.conditions.now c.in_default.len_at_least
