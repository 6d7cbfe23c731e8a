use Rattle.std.proofs.Common.{◌≡◌, ℕ, zero, suc, ◌∙◌, Bool, true, false, List, [], ◌∷◌, length, map, nat_lt, arith, refl, sym}
use Rattle.std.proofs.lemmas.Bool.{lt-ltb, le-ltb, ltb-true, ltb-false}
use Rattle.css_sheet.specs.declared.parts.OpenRule.{OpenRule}
use Rattle.css_sheet.specs.SheetParts.{is_more_open}
use Rattle.css_sheet.specs.internal.PartViews.{open_of}
use Rattle.css_sheet.proofs.parts.is_more_open.Goals as goal

nat_lt-suc : (a b : ℕ) → nat_lt (suc a) (suc b) ≡ nat_lt a b
nat_lt-suc a b = by (nat_lt a b) refl
  where
    by : (t : Bool) → nat_lt a b ≡ t → nat_lt (suc a) (suc b) ≡ nat_lt a b
    by true e = lt-ltb (suc a) (suc b) (omega (arith, ltb-true a b e)) ∙ sym e
    by false e = le-ltb (suc a) (suc b) (omega (arith, ltb-false a b e)) ∙ sym e

more-open : (depth : ℕ) (rules : List OpenRule)
    → nat_lt depth (length rules) ≡ is_more_open depth (map open_of rules)
more-open zero [] = le-ltb 0 0 (omega arith)
more-open zero (rule ∷ rules) = lt-ltb 0 (suc (length rules)) (omega arith)
more-open (suc depth) [] = le-ltb (suc depth) 0 (omega arith)
more-open (suc depth) (rule ∷ rules) = nat_lt-suc depth (length rules) ∙ more-open depth rules

pub returns : goal.returns
returns c = more-open c.args.depth c.args.around.now
