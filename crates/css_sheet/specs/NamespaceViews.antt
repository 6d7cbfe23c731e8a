-- What contracts see of the names of namespaces that a sheet declares.
use Rattle.std.specs.Prelude.{ℕ, List, map}
use Rattle.std.specs.Cow.{cow_str_bytes}
use Rattle.css_selector_text.specs.Names.{Names, no_names}
use Rattle.css_selector_text.specs.NameViews.{prefix_of}
use Rattle.css_sheet.specs.declared.namespaces.OwnPrefix.{OwnPrefix}
use Rattle.css_sheet.specs.declared.namespaces.SheetNamespaces.{SheetNamespaces}
use Rattle.css_sheet.specs.declared.namespaces.DeclaredNamespaces.{DeclaredNamespaces}

abbrev pub own_prefix : OwnPrefix → List ℕ × ℕ
own_prefix one = (cow_str_bytes one.name, one.number)

abbrev pub names_owned : SheetNamespaces → Names
names_owned n = record no_names {
  default_namespace = n.default_namespace;
  prefixes = map own_prefix n.prefixes.items;
}

abbrev pub names_declared : DeclaredNamespaces → Names
names_declared n = record no_names {
  default_namespace = n.default_namespace;
  prefixes = map prefix_of n.prefixes.items;
}
