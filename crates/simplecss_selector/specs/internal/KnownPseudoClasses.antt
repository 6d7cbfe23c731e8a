-- What contracts see of the pseudo-class with a name.
use Rattle.std.specs.Prelude.{Option, None, Some}
use Rattle.simplecss_grammar.specs.Components.{KnownPseudoClass}
use Rattle.simplecss_selector.specs.declared.pseudo_class.PseudoClass.{PseudoClass}
use Rattle.simplecss_selector.specs.OperatorViews.{pseudo_class_of}

abbrev pub pseudo_class_view : Option PseudoClass → Option KnownPseudoClass
pseudo_class_view None = None
pseudo_class_view (Some class) = Some (pseudo_class_of class)
