-- An argument that is kept as it is written is read again before a closing parenthesis.
-- Serves `printing_laws::printing_law`.
use Rattle.std.proofs.Common.{◌≡◌, ℕ, Bool, true, false, not, ◌&&◌, if◌then◌else◌, List, ◌∷◌, ◌++◌, refl, sym, ap, ◌∙◌, subst}
use Rattle.css_text.specs.AsciiBytes.{close_parenthesis, space}
use Rattle.css_syntax.specs.declared.quality.Quality.{Quality}
use Rattle.css_syntax.specs.declared.quality.Quality.TheVariants.{Whole, Open, BadString, BadUrl, StrayBracket, TooDeep}
use Rattle.css_syntax.specs.Parts.{Stated, parts as parts_stated}
use Rattle.css_syntax.specs.Printing.{ends_lone}
use Rattle.css_syntax.specs.Qualities.{is_whole}
use Rattle.css_syntax.specs.Tokens.{gap_part, past_gap}
use Rattle.css_syntax.proofs.Shorter.{each-goes, gap_part-takes}
use Rattle.css_syntax.proofs.PartingParts.{gap-again}
use Rattle.css_syntax.proofs.PartsAgain.{parts-again}
use Rattle.css_selector_text.specs.declared.refusal.Why.TheVariants.{Unexpected}
use Rattle.css_selector_text.specs.reading.Readings.{got, refused, follow, give, ◌>>◌}
use Rattle.css_selector_text.specs.reading.Grammar.{argument, argument_ends, is_argument, is_empty_text, values_read, parenthesis}
use Rattle.css_selector_text.proofs.round_trip.ReadingLemmas.{followed}

-- an argument is whole, and does not end in a lone backslash
record IsWholeText (stated : Stated) : Type 0 where
  pub whole : stated.quality ≡ Whole
  pub some : is_empty_text stated.text ≡ false
  pub closed : ends_lone stated.text ≡ false

whole_text : (stated : Stated) → is_argument stated ≡ true → IsWholeText stated
whole_text stated h =
    by stated.quality (is_empty_text stated.text) (ends_lone stated.text) refl refl refl h
  where
    by : (q : Quality) (e l : Bool) → stated.quality ≡ q → is_empty_text stated.text ≡ e
        → ends_lone stated.text ≡ l → (is_whole q && not e && not l) ≡ true → IsWholeText stated
    by Whole false false eq ee el k = record { whole = eq; some = ee; closed = el }
    by Whole false true eq ee el k = absurd (cc)
    by Whole true l eq ee el k = absurd (cc)
    by Open e l eq ee el k = absurd (cc)
    by BadString e l eq ee el k = absurd (cc)
    by BadUrl e l eq ee el k = absurd (cc)
    by StrayBracket e l eq ee el k = absurd (cc)
    by TooDeep e l eq ee el k = absurd (cc)

stating : List ℕ → Quality → Stated
stating text quality = record { text = text; quality = quality }

pub argument-again : (text a rest : List ℕ) → argument text ≡ got a rest → (more : List ℕ)
    → argument (a ++ (close_parenthesis ∷ more)) ≡ got a more
unfolding argument stating
argument-again text a rest h more = by (is_argument read.0) refl h
  where
    start : List ℕ
    start = past_gap text

    read : Stated × List ℕ
    read = parts_stated argument_ends start

    again : IsWholeText read.0 → read.0.text ≡ a
        → argument (a ++ (close_parenthesis ∷ more)) ≡ got a more
    again w is =
        let stated : read.0 ≡ stating a Whole =
        ap (stating read.0.text) w.whole ∙ ap (λ t. stating t Whole) is in
        let lone : ends_lone a ≡ false = subst (λ (t : List ℕ). ends_lone t ≡ false) is w.closed in
        let some : is_empty_text a ≡ false =
        subst (λ (t : List ℕ). is_empty_text t ≡ false) is w.some in
        let both = parts-again argument_ends start (gap-again text) a stated lone more refl in
        rw (both.0, both.1, some, lone) refl

    by : (t : Bool) → is_argument read.0 ≡ t
        → follow (if t then got read.0.text read.1 else refused Unexpected start)
        (λ b. parenthesis >> give b) ≡ got a rest
        → argument (a ++ (close_parenthesis ∷ more)) ≡ got a more
    by false e k = absurd (cc)
    by true e k =
        let f = followed (parenthesis read.1) (λ u. give read.0.text) a rest k in
        let is : read.0.text ≡ a = (let g = f.second in cc) in again (whole_text read.0 e) is

past_space : (text : List ℕ) → past_gap text ≡ past_gap (space ∷ text)
unfolding gap_part
past_space text = each-goes gap_part gap_part-takes (space ∷ text) text tt refl

-- a blank before an argument is none of it
pub argument_spaced : (text : List ℕ) → argument (space ∷ text) ≡ argument text
unfolding argument
argument_spaced text =
    ap (λ (l : List ℕ). follow (values_read l (parts_stated argument_ends l))
    (λ a. parenthesis >> give a)) (sym (past_space text))
