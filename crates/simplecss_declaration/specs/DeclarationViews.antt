-- What contracts see of declarations: the bytes of their texts, wherever these are stored.
use Rattle.std.specs.Prelude.{List, map}
use Rattle.simplecss_grammar.specs.Declarations.{StyleDeclaration}
use Rattle.simplecss_declaration.specs.declared.declarations.Declaration.{Declaration}

abbrev pub declaration_of : Declaration → StyleDeclaration
declaration_of d = record { name = d.name.now; value = d.value.now; important = d.important }

-- what contracts see of each declaration of a list, in order
abbrev pub declarations_of : List Declaration → List StyleDeclaration
declarations_of declarations = map declaration_of declarations
