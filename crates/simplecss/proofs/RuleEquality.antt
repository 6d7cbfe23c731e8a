-- Declarations, rules and lists of rules are equal exactly if what they say is.
-- Serves the laws of equality.
use Rattle.std.specs.Prelude.{◌≡◌, List, Bool, ◌&&◌}
use Rattle.std.proofs.Common.{ap, ◌∙◌, subst}
use Rattle.std.specs.Bool.{Decides, beq}
use Rattle.std.specs.Cmp.{booleans_Decides}
use Rattle.std.specs.Cmp.Derive.Mapped.{pointwise-map}
use Rattle.std.specs.Cmp.Lexicographic.{pointwise, pointwise_decides, bytes_decides}
use Rattle.std.proofs.lemmas.Bool.Decides.{Decides-and, Decides-like}
use Rattle.simplecss_grammar.specs.Declarations.{StyleDeclaration}
use Rattle.css_text.specs.Bytes.{text_eq}
use Rattle.simplecss_grammar.specs.Statements.{StyleRule}
use Rattle.simplecss_selector.specs.Equality.{selector_eq}
use Rattle.simplecss_selector.specs.EqualityLaws.{selector_decides}
use Rattle.simplecss_declaration.specs.DeclarationViews.{declaration_of}
use Rattle.simplecss.specs.RuleViews.{rule_of, rules_of}
use Rattle.simplecss.specs.declared.sheet.rules.Rule.{Rule}

-- the same name, the same value, and both important or neither
abbrev pub declaration_eq : StyleDeclaration → StyleDeclaration → Bool
declaration_eq a b =
    text_eq a.name b.name && (text_eq a.value b.value && beq a.important b.important)

declaration_decides : (a b : StyleDeclaration) → Decides (declaration_eq a b) (a ≡ b)
declaration_decides a b =
    Decides-like (declaration_eq a b)
    (λ (p : (a.name ≡ b.name) × ((a.value ≡ b.value) × (a.important ≡ b.important))).
    λ t. record { name = p.0 t; value = p.1.0 t; important = p.1.1 t })
    (λ e. ((λ t. (e t).name), ((λ t. (e t).value), (λ t. (e t).important))))
    (Decides-and (text_eq a.name b.name) (text_eq a.value b.value && beq a.important b.important)
    (bytes_decides a.name b.name)
    (Decides-and (text_eq a.value b.value) (beq a.important b.important)
    (bytes_decides a.value b.value) (booleans_Decides a.important b.important)))

-- the same components, and the same declarations one by one
abbrev pub style_rule_eq : StyleRule → StyleRule → Bool
style_rule_eq a b =
    selector_eq a.components b.components && pointwise declaration_eq a.declarations b.declarations

style_rule_decides : (a b : StyleRule) → Decides (style_rule_eq a b) (a ≡ b)
style_rule_decides a b =
    let selectors = selector_eq a.components b.components in
    let lists = pointwise declaration_eq a.declarations b.declarations in
    Decides-like (style_rule_eq a b)
    (λ (p : (a.components ≡ b.components) × (a.declarations ≡ b.declarations)).
    λ t. record { components = p.0 t; declarations = p.1 t })
    (λ e. ((λ t. (e t).components), (λ t. (e t).declarations)))
    (Decides-and selectors lists (selector_decides a.components b.components)
    (pointwise_decides declaration_decides a.declarations b.declarations))

-- as the code compares rules: their selectors, and their declarations one by one
abbrev pub rule_eq : Rule → Rule → Bool
rule_eq a b = selector_eq a.selector b.selector
    && pointwise (λ x y. declaration_eq (declaration_of x) (declaration_of y)) a.declarations.items
    b.declarations.items

style_rule_eq-rule_of : (a b : Rule) → style_rule_eq (rule_of a) (rule_of b) ≡ rule_eq a b
style_rule_eq-rule_of a b =
    ap (λ lists. selector_eq a.selector b.selector && lists)
    (pointwise-map declaration_of declaration_eq a.declarations.items b.declarations.items)

pub rule_decides : (a b : Rule) → Decides (rule_eq a b) (rule_of a ≡ rule_of b)
rule_decides a b =
    subst (λ t. Decides t (rule_of a ≡ rule_of b)) (style_rule_eq-rule_of a b)
    (style_rule_decides (rule_of a) (rule_of b))

pub rules_decide : (a b : List Rule) → Decides (pointwise rule_eq a b) (rules_of a ≡ rules_of b)
rules_decide a b =
    subst (λ t. Decides t (rules_of a ≡ rules_of b))
    (pointwise-map rule_of style_rule_eq a b
    ∙ (λ t. pointwise (λ x y. style_rule_eq-rule_of x y t) a b))
    (pointwise_decides style_rule_decides (rules_of a) (rules_of b))
