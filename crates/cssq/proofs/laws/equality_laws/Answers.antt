use Rattle.std.proofs.Common.{◌≡◌, Bool, true, false, map, ap, refl, subst}
use Rattle.std.specs.Prelude.{string_bytes, bytes_eq, ◌&&◌}
use Rattle.std.specs.Bool.{Decides}
use Rattle.std.specs.Cmp.Derive.Mapped.{pointwise-map}
use Rattle.std.specs.Cmp.Lexicographic.{pointwise, pointwise_decides, bytes_decides}
use Rattle.std.proofs.lemmas.Bool.{both_ways}
use Rattle.std.proofs.lemmas.Bool.Decides.{Decides-and}
use Rattle.cssq.specs.Command.{Request}
use Rattle.cssq.specs.Command.Request.{input, selector, sheet, match, style}
use Rattle.cssq.specs.declared.command.Command.TheVariants.{Input, Selector, Sheet, Match, Style}
use Rattle.cssq.proofs.laws.equality_laws.Goals as goal

-- ---- a request's kind

abbrev is_input : Request → Bool
is_input input = true
is_input _ = false

abbrev is_selector : Request → Bool
is_selector (selector text) = true
is_selector _ = false

abbrev is_sheet : Request → Bool
is_sheet (sheet files) = true
is_sheet _ = false

abbrev is_match : Request → Bool
is_match (match file tree) = true
is_match _ = false

abbrev is_style : Request → Bool
is_style (style file tree name) = true
is_style _ = false

pub returns-clause-commands : goal.returns-clause-commands
returns-clause-commands c Input Input = (λ h. refl, λ e. refl)
returns-clause-commands c (Selector a) (Selector b) =
    let same = bytes_decides a.now b.now in
    (λ h. ap selector (same.0 h), λ e. let text : a.now ≡ b.now = cc in same.1 text)
returns-clause-commands c (Sheet a) (Sheet b) =
    let same : Decides (pointwise (λ x y. bytes_eq (string_bytes x) (string_bytes y)) a.now b.now)
    (map string_bytes a.now ≡ map string_bytes b.now) =
    subst (λ t. Decides t (map string_bytes a.now ≡ map string_bytes b.now))
    (pointwise-map string_bytes bytes_eq a.now b.now)
    (pointwise_decides bytes_decides (map string_bytes a.now) (map string_bytes b.now)) in (
      λ h. ap sheet (same.0 h),
      λ e. let files : map string_bytes a.now ≡ map string_bytes b.now = cc in same.1 files,
    )
returns-clause-commands c (Match a s) (Match b t) =
    let same = Decides-and (bytes_eq a.now b.now) (bytes_eq s.now t.now) (bytes_decides a.now b.now)
    (bytes_decides s.now t.now) in (
      (λ h. let both = same.0 h in λ i. match (both.0 i) (both.1 i)),
      (λ e.
          let file : a.now ≡ b.now = cc in
          let tree : s.now ≡ t.now = cc in
          same.1 (file, tree)),
    )
returns-clause-commands c (Style a s x) (Style b t y) =
    let later = Decides-and (bytes_eq s.now t.now) (bytes_eq x.now y.now)
    (bytes_decides s.now t.now) (bytes_decides x.now y.now) in
    let same = Decides-and (bytes_eq a.now b.now) (bytes_eq s.now t.now && bytes_eq x.now y.now)
    (bytes_decides a.now b.now) later in (
      (λ h. let all = same.0 h in λ i. style (all.0 i) (all.1.0 i) (all.1.1 i)),
      (λ e.
          let file : a.now ≡ b.now = cc in
          let tree : s.now ≡ t.now = cc in
          let name : x.now ≡ y.now = cc in
          same.1 (file, (tree, name))),
    )
-- of two kinds
returns-clause-commands c Input _ =
    (λ h. absurd (both_ways false refl h), λ e. absurd (both_ways true (ap is_input e) refl))
returns-clause-commands c (Selector a) _ =
    (λ h. absurd (both_ways false refl h), λ e. absurd (both_ways true (ap is_selector e) refl))
returns-clause-commands c (Sheet a) _ =
    (λ h. absurd (both_ways false refl h), λ e. absurd (both_ways true (ap is_sheet e) refl))
returns-clause-commands c (Match a s) _ =
    (λ h. absurd (both_ways false refl h), λ e. absurd (both_ways true (ap is_match e) refl))
returns-clause-commands c (Style a s x) _ =
    (λ h. absurd (both_ways false refl h), λ e. absurd (both_ways true (ap is_style e) refl))
