-- What the kind of what follows a gap means to a tokenizer.
use Rattle.simplecss_grammar.specs.declared.next_kind.NextKind.{NextKind}
use Rattle.simplecss_grammar.specs.declared.next_kind.NextKind.TheVariants.{Stop, Slash, Child, Adjacent, Universal, Id, Class, Attribute, Colon, Other}
use Rattle.simplecss_selector.specs.declared.tokenizer.Stage.{Stage}
use Rattle.simplecss_selector.specs.declared.tokenizer.Stage.TheVariants.{Missing, Ended}

-- a name follows, of an id, a class or a type
abbrev pub IsNamed : NextKind → Type 0
IsNamed Id = Unit {0}
IsNamed Class = Unit {0}
IsNamed Other = Unit {0}
IsNamed Stop = ⊥
IsNamed Slash = ⊥
IsNamed Child = ⊥
IsNamed Adjacent = ⊥
IsNamed Universal = ⊥
IsNamed Attribute = ⊥
IsNamed Colon = ⊥

-- the state of a tokenizer after a fault in its place
abbrev pub stage_after_fault : NextKind → Stage
stage_after_fault Other = Missing
stage_after_fault Stop = Ended
stage_after_fault Slash = Ended
stage_after_fault Child = Ended
stage_after_fault Adjacent = Ended
stage_after_fault Universal = Ended
stage_after_fault Id = Ended
stage_after_fault Class = Ended
stage_after_fault Attribute = Ended
stage_after_fault Colon = Ended
