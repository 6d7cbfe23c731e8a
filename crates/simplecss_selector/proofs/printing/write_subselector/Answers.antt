use Rattle.std.proofs.Common.{◌≡◌, ℕ, List, ◌++◌, true, Bor, refl}
use Rattle.std.specs.Prelude.{codes}
use Rattle.css_text.proofs.round_trip.StyledWrites.{styled_two, styled_four}
use Rattle.simplecss_grammar.specs.Printing.{operator_text, pseudo_class_text, subselector_text}
use Rattle.simplecss_selector.specs.OperatorViews.{operator_of, pseudo_class_of}
use Rattle.simplecss_selector.specs.internal.SelectorViews.{subselector_of}
use Rattle.simplecss_selector.specs.declared.operator.AttributeOperator.{AttributeOperator}
use Rattle.simplecss_selector.specs.declared.pseudo_class.PseudoClass.{PseudoClass as RequiredClass}
use Rattle.simplecss_selector.specs.declared.selector.SubSelector.{SubSelector}
use Rattle.simplecss_selector.specs.declared.selector.SubSelector.TheVariants.{Attribute, PseudoClass}
use Rattle.simplecss_selector.proofs.Refused.{not_done}
use Rattle.simplecss_selector.proofs.printing.write_subselector.Goals as goal

attribute_text : (s : SubSelector) (name : Bor (List ℕ)) (operator : AttributeOperator)
    → s ≡ Attribute name operator
    → codes "[" ++ name.now ++ operator_text (operator_of operator) ++ codes "]"
    ≡ subselector_text (subselector_of s)
attribute_text s name operator e = rw e refl

class_text : (s : SubSelector) (class : RequiredClass) → s ≡ PseudoClass class
    → codes ":" ++ pseudo_class_text (pseudo_class_of class) ≡ subselector_text (subselector_of s)
class_text s class e = rw e refl

pub returns-in_err-write_str-in-Attribute : goal.returns-in_err-write_str-in-Attribute
returns-in_err-write_str-in-Attribute g c =
    λ flush ok. absurd (not_done c.from_residual.result c.from_residual.ensures.0 ok)

pub returns-in_err-write_str-in-Attribute-2 : goal.returns-in_err-write_str-in-Attribute-2
returns-in_err-write_str-in-Attribute-2 g c =
    λ flush ok. absurd (not_done c.from_residual-in_err-write_str-in-Attribute-2.result
    c.from_residual-in_err-write_str-in-Attribute-2.ensures.0 ok)

pub returns-in_err-write_operator-in-Attribute : goal.returns-in_err-write_operator-in-Attribute
returns-in_err-write_operator-in-Attribute g c =
    λ flush ok. absurd (not_done c.from_residual-in_err-write_operator-in-Attribute.result
    c.from_residual-in_err-write_operator-in-Attribute.ensures.0 ok)

pub returns-in_err-write_str-in-PseudoClass : goal.returns-in_err-write_str-in-PseudoClass
returns-in_err-write_str-in-PseudoClass g c =
    λ flush ok. absurd (not_done c.from_residual-in_err-write_str-in-PseudoClass.result
    c.from_residual-in_err-write_str-in-PseudoClass.ensures.0 ok)

pub returns-in_ok-write_operator-in-Attribute : goal.returns-in_ok-write_operator-in-Attribute
returns-in_ok-write_operator-in-Attribute g c = λ flush ok.
    let name = c.in-Attribute.name.now in
    let required = operator_text (operator_of c.in-Attribute.operator) in
    let one = c.in_ok-write_str-in-Attribute.ensures.styled flush (refl {a = true}) in
    let two = c.in_ok-write_str-in-Attribute-2.ensures.styled one.flush (refl {a = true}) in
    let three = c.in_ok-write_operator-in-Attribute.ensures two.flush (refl {a = true}) in
    styled_four g.W.Write.write_str_gives c.args.f.now c.write_str.new.self
    c.write_str-in-Attribute.new.self c.write_operator.new.f c.write_str-in-Attribute-2.new.self
    (codes "[") name required (codes "]") _ one two three
    (c.write_str-in-Attribute-2.ensures.styled three.flush ok)
    (attribute_text c.args.subselector c.in-Attribute.name c.in-Attribute.operator
    c.in-Attribute.is)

pub returns-in_ok-write_str-in-PseudoClass : goal.returns-in_ok-write_str-in-PseudoClass
returns-in_ok-write_str-in-PseudoClass g c = λ flush ok.
    let one = c.in_ok-write_str-in-PseudoClass.ensures.styled flush (refl {a = true}) in
    styled_two g.W.Write.write_str_gives c.args.f.now c.write_str-in-PseudoClass.new.self
    c.write_class.new.f (codes ":") (pseudo_class_text (pseudo_class_of c.in-PseudoClass.class)) _
    one (c.write_class.ensures one.flush ok)
    (class_text c.args.subselector c.in-PseudoClass.class c.in-PseudoClass.is)
