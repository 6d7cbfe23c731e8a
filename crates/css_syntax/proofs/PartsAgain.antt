-- Component values that were read whole are read again before a closing parenthesis.
use Rattle.std.proofs.Common.{◌≡◌, ℕ, ◌==◌, true, false, List, ◌∷◌, ◌++◌, length, arith, refl, sym, ap, subst, ◌∙◌}
use Rattle.css_text.specs.AsciiBytes.{close_parenthesis, exclamation_mark, hyphen}
use Rattle.css_text.specs.Reading.{before, last_or}
use Rattle.css_text.specs.Bytes.{past, starts_by, starts_two}
use Rattle.css_text.specs.Characters.{is_space}
use Rattle.css_text.specs.Strings.{is_quote}
use Rattle.css_syntax.specs.declared.parts.Stops.{Stops}
use Rattle.css_syntax.specs.declared.quality.Quality.TheVariants.{Whole}
use Rattle.css_syntax.specs.Tokens.{name_part, gap_part, past_gap}
use Rattle.css_syntax.specs.Parts.{Stated, ends_at, parts}
use Rattle.css_syntax.specs.Printing.{ends_lone}
use Rattle.css_syntax.proofs.Shorter.{each-rests}
use Rattle.css_syntax.proofs.PartTexts.{end-well}
use Rattle.css_syntax.proofs.Parting.{Parting}
use Rattle.css_syntax.proofs.PartingUrls.{and-none}
use Rattle.css_syntax.proofs.PartingValues.{Seam}
use Rattle.css_syntax.proofs.PartingParts.{ends_of, flaws_of, last-no_quote, parts-kept}
use Rattle.css_syntax.proofs.PartingNames.{parting-front, before-append}
use Rattle.css_syntax.proofs.PrintedAgain.{quiet-byte, no_letter-byte, second-none, third-none, gap-same}

seam-parenthesis : (t text : List ℕ) → starts_by is_quote (past is_space t) ≡ false
    → Seam t (close_parenthesis ∷ text)
unfolding name_part
seam-parenthesis t text e = record {
  quiet = quiet-byte close_parenthesis text refl refl refl;
  no_letter = no_letter-byte close_parenthesis text refl refl refl;
  no_cdo = record {
    one = λ b. and-none (b == 60) (starts_two hyphen hyphen text);
    two = λ b c. second-none (b == 60) (c == exclamation_mark);
    three = λ b c d. third-none (b == 60) (c == exclamation_mark) (d == hyphen);
  };
  no_name = refl;
  no_slash = refl;
  no_star = refl;
  no_open = refl;
  no_quote = refl;
  first_quote = e;
}

-- values that were read whole from a start without blanks
pub parts-again : (stops : Stops) (start : List ℕ) → past_gap start ≡ start → (v : List ℕ)
    → (parts stops start).0 ≡ record { text = v; quality = Whole } → ends_lone v ≡ false
    → (text : List ℕ) → ends_at stops (close_parenthesis ∷ text) ≡ true
    → (past_gap (v ++ (close_parenthesis ∷ text)) ≡ v ++ (close_parenthesis ∷ text))
    × (parts stops (v ++ (close_parenthesis ∷ text))
    ≡ (record { text = v; quality = Whole }, close_parenthesis ∷ text))
unfolding parts gap_part
parts-again stops start g v read lone text stop =
    let u = close_parenthesis ∷ text in
    let t = last_or start (ends_of stops start) in
    let seam = seam-parenthesis t text (last-no_quote stops start g) in
    let v_is : before start t ≡ v = ap (λ (s : Stated). s.text) read in
    let whole : flaws_of stops start ≡ Whole = ap (λ (s : Stated). s.quality) read in
    let start_is : v ++ t ≡ start =
    ap (λ (x : List ℕ). x ++ t) (sym v_is) ∙ (end-well stops start).0 in
    let alike : Parting t u start (v ++ u) =
    subst (λ (x : List ℕ). Parting t u x (v ++ u)) start_is (parting-front t u v lone) in
    let stays : past_gap u ≡ u = each-rests gap_part u refl in
    let kept = parts-kept stops t u seam stays stop (length start) start (v ++ u) (omega arith)
    alike refl whole in
    let text_is : before (v ++ u) (last_or (v ++ u) (ends_of stops (v ++ u))) ≡ v =
    ap (before (v ++ u)) kept.last ∙ before-append v u in (
      gap-same t u seam.no_slash seam.no_star stays start (v ++ u) alike g,
      rw (text_is, kept.whole, kept.left) refl,
    )
