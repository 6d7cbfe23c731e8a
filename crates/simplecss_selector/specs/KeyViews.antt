-- What contracts see of a key: its kind and the bytes of its text, wherever that is stored.
use Rattle.simplecss_selector.specs.Keys.{Key as KeyValue}
use Rattle.simplecss_selector.specs.Keys.Key.{by_id, by_class, by_name, by_attribute, by_nothing}
use Rattle.simplecss_selector.specs.declared.key.Key.{Key}
use Rattle.simplecss_selector.specs.declared.key.Key.TheVariants.{Id, Class, Name, Attribute, Any}

-- the key, with the bytes of its text
abbrev pub key_value : Key → KeyValue
key_value (Id text) = by_id text.now
key_value (Class word) = by_class word.now
key_value (Name name) = by_name name.now
key_value (Attribute name) = by_attribute name.now
key_value Any = by_nothing
