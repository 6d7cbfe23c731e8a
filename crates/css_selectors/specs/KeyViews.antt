-- What contracts see of keys.
use Rattle.std.specs.Prelude.{List, [], ◌∷◌, Option, None, Some}
use Rattle.std.specs.Borrow.{Bor}
use Rattle.css_selector_text.specs.declared.components.Condition.{Condition as ConditionOf}
use Rattle.css_selectors.specs.declared.key.Key.{Key as KeyIs}
use Rattle.css_selectors.specs.declared.key.Key.TheVariants.{Id, Class, Name, Attribute, Any}
use Rattle.css_selectors.specs.Keys.{Key, condition_keys}
use Rattle.css_selectors.specs.Keys.Key.{by_id, by_class, by_name, by_attribute, by_nothing}
use Rattle.css_selector_text.specs.Views.{condition_of}

abbrev pub key_of : KeyIs → Key
key_of (Id text) = by_id text.now
key_of (Class word) = by_class word.now
key_of (Name name) = by_name name.now
key_of (Attribute name) = by_attribute name.now
key_of Any = by_nothing

-- the keys of a condition, or no condition
abbrev pub keys_of_best : Option (Bor ConditionOf) → List Key
keys_of_best None = by_nothing ∷ []
keys_of_best (Some condition) = condition_keys (condition_of condition.now)
