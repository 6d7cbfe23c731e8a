-- The table of pseudo-classes: the name of each, by which it is read, printed and compared.
use Rattle.std.specs.Prelude.{ℕ, if◌then◌else◌, List, [], ◌∷◌, bytes_eq, codes, Option, None, Some}
use Rattle.simplecss_grammar.specs.Components.{KnownPseudoClass}
use Rattle.simplecss_grammar.specs.Components.KnownPseudoClass.{first_child, link, visited, hover, active, focus, lang}

-- the name, without an argument
abbrev pub pseudo_class_name : KnownPseudoClass → List ℕ
pseudo_class_name first_child = codes "first-child"
pseudo_class_name link = codes "link"
pseudo_class_name visited = codes "visited"
pseudo_class_name hover = codes "hover"
pseudo_class_name active = codes "active"
pseudo_class_name focus = codes "focus"
pseudo_class_name (lang language) = codes "lang"

-- the pseudo-classes that have no argument
abbrev pub plain_pseudo_classes : List KnownPseudoClass
plain_pseudo_classes = first_child ∷ link ∷ visited ∷ hover ∷ active ∷ focus ∷ []

-- the argument; none is as an empty one
abbrev pub pseudo_class_argument : KnownPseudoClass → List ℕ
pseudo_class_argument (lang language) = language
pseudo_class_argument class = []

-- the first of some pseudo-classes that has the name, if there is one
abbrev pub named_among : List KnownPseudoClass → List ℕ → Option KnownPseudoClass
named_among [] n = None
named_among (class ∷ classes) n =
    if bytes_eq n (pseudo_class_name class) then Some class else named_among classes n

-- the pseudo-class with the name that has no argument, if there is one
abbrev pub known_pseudo_class : List ℕ → Option KnownPseudoClass
known_pseudo_class n = named_among plain_pseudo_classes n
