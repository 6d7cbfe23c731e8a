-- Declarations keep the numbers of their properties as more properties are numbered.
-- Serves the functions of `stated` and `gathering`.
use Rattle.std.proofs.Common.{◌≡◌, ℕ, Bool, true, false, if◌then◌else◌, List, [], ◌∷◌, ◌++◌, refl, sym, ap, ◌∙◌, append-nil}
use Rattle.std.specs.List.{All, cons_option}
use Rattle.std.specs.Option.{is_some}
use Rattle.std.proofs.lemmas.List.{append_assoc}
use Rattle.css_syntax.specs.declared.declarations.Declaration.{Declaration}
use Rattle.css_syntax.specs.declared.declarations.Item.{Item}
use Rattle.css_syntax.specs.declared.declarations.Item.TheVariants as item_kinds
use Rattle.css_syntax.specs.declared.declarations.ListPart.{ListPart}
use Rattle.css_syntax.specs.DeclarationLists.{ListText}
use Rattle.css_syntax.specs.Views.{declaration_of, item_of, list_part_of}
use Rattle.css_styles.specs.Contenders.{declared_by, declared_in}
use Rattle.css_styles.specs.declared.contest.Numbered.{Numbered}
use Rattle.css_styles.specs.Properties.{number_in, property_key}
use Rattle.css_styles.specs.internal.Numbered.{HasNumber, IsMore, IsNumbered, with_property}
use Rattle.css_styles.proofs.ContestLemmas.{All-each}
use Rattle.css_styles.proofs.NumberLemmas.{number-more}

pub more-itself : (properties : List (List ℕ)) → IsMore properties properties
more-itself properties = ([], sym (append-nil properties))

pub more-then : (a b c : List (List ℕ)) → IsMore a b → IsMore b c → IsMore a c
more-then a b c p q =
    (p.0 ++ q.0, q.1 ∙ ap (λ ps. ps ++ q.0) p.1 ∙ append_assoc a p.0 q.0)

by-known : (t : Bool) (properties : List (List ℕ)) (key : List ℕ)
    → IsMore properties (if t then properties else properties ++ key ∷ [])
by-known true properties key = more-itself properties
by-known false properties key = (key ∷ [], refl)

pub more-with : (properties now : List (List ℕ)) (key : List ℕ)
    → now ≡ with_property properties key → IsMore properties now
more-with properties now key e =
    let h = by-known (is_some (number_in properties key)) properties key in
    (h.0, e ∙ h.1)

pub has-more : (old new : List (List ℕ)) (name : List ℕ) (n : ℕ) → IsMore old new
    → HasNumber old name n → HasNumber new name n
has-more old new name n more has =
    ap (λ ps. number_in ps (property_key name)) more.1
    ∙ number-more old more.0 (property_key name) n has

pub numbered-more : (old new : List (List ℕ)) (all : List Numbered) → IsMore old new
    → All (IsNumbered old) all → All (IsNumbered new) all
numbered-more old new all more =
    All-each (IsNumbered old) (IsNumbered new)
    (λ n. has-more old new n.contender.winner.declaration.name.now n.property more) all

-- ---- declarations one after another

pub first-declared : (part : ListPart) (one : Declaration) (before after : List ListText)
    → before ≡ list_part_of part ∷ after → part.item ≡ item_kinds.Declaration one
    → declared_in before ≡ declaration_of one ∷ declared_in after
first-declared part one before after e is =
    ap declared_in e
    ∙ ap (λ (item : Item). cons_option (declared_by (item_of item)) (declared_in after)) is
