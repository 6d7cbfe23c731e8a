-- The numbers and the texts of an import that are written piece by piece.
-- Serves `imports::push_import`.
use Rattle.std.proofs.Common.{◌≡◌, ℕ, List, ◌∷◌, ◌++◌, [], refl, ap, ◌∙◌, append_assoc, length, map}
use Rattle.std.specs.Prelude.{decimal}
use Rattle.std.specs.List.{join_with_byte}
use Rattle.std.specs.Option.{is_some}
use Rattle.simplecss.specs.AsciiBytes.{newline, space}
use Rattle.css_sheet.specs.ImportRules.{ImportText}
use Rattle.call_answers.specs.Numbers.{number_if}
use Rattle.call_answers.specs.PortTexts.{line, line_of}
use Rattle.sheet_calls.specs.ImportLines.{is_string, url_text, layer_number, layer_name}
use Rattle.sheet_calls.specs.ImportLines.{condition, import_lines}

-- the first four numbers, the other five, and the texts
parts_joined : (out a b c d e f g h i url name given media : List ℕ)
    → ((out ++ (a ++ (space ∷ (b ++ (space ∷ (c ++ (space ∷ (d ++ space ∷ []))))))))
    ++ (e ++ (space ∷ (f ++ (space ∷ (g ++ (space ∷ (h ++ (space ∷ (i ++ newline ∷ []))))))))))
    ++ (url ++ (name ++ (given ++ (media ++ newline ∷ []))))
    ≡ out ++ (line (join_with_byte space (a ∷ b ∷ c ∷ d ∷ e ∷ f ∷ g ∷ h ∷ i ∷ []))
    ++ line (url ++ name ++ given ++ media))
parts_joined out a b c d e f g h i url name given media = simp append_assoc

lines_are : (one : ImportText) (out : List ℕ) (is layer has : ℕ) (url name given : List ℕ)
    → is ≡ number_if (is_string one.url) → url ≡ url_text one.url
    → layer ≡ layer_number one.layer → name ≡ layer_name one.layer
    → has ≡ number_if (is_some one.supports) → given ≡ condition one
    → out ++ (line_of (map decimal (one.start ∷ one.size ∷ is ∷ length url ∷ layer ∷ length name
    ∷ has ∷ length given ∷ length one.media ∷ [])) ++ line (url ++ name ++ given ++ one.media))
    ≡ out ++ import_lines one
lines_are one out is layer has url name given is_is url_is layer_is name_is has_is given_is =
    rw (is_is, url_is, layer_is, name_is, has_is, given_is) refl

pub import_written : (one : ImportText) (out first second new : List ℕ) (is layer has : ℕ)
    (url name given : List ℕ)
    → is ≡ number_if (is_string one.url) → url ≡ url_text one.url
    → layer ≡ layer_number one.layer → name ≡ layer_name one.layer
    → has ≡ number_if (is_some one.supports) → given ≡ condition one
    → first ≡ out ++ (decimal one.start ++ (space ∷ (decimal one.size ++ (space ∷ (decimal is
    ++ (space ∷ (decimal (length url) ++ space ∷ [])))))))
    → second ≡ first ++ (decimal layer ++ (space ∷ (decimal (length name) ++ (space ∷ (decimal has
    ++ (space ∷ (decimal (length given)
    ++ (space ∷ (decimal (length one.media) ++ newline ∷ [])))))))))
    → new ≡ second ++ (url ++ (name ++ (given ++ (one.media ++ newline ∷ []))))
    → new ≡ out ++ import_lines one
import_written one out first second new is layer has url name given is_is url_is layer_is name_is
    has_is given_is wrote_first wrote_second wrote =
    wrote ∙ ap (λ t. t ++ texts) (wrote_second ∙ ap (λ t. t ++ numbers) wrote_first)
    ∙ parts_joined out (decimal one.start) (decimal one.size) (decimal is) (decimal (length url))
    (decimal layer) (decimal (length name)) (decimal has) (decimal (length given))
    (decimal (length one.media)) url name given one.media
    ∙ lines_are one out is layer has url name given is_is url_is layer_is name_is has_is given_is
  where
    texts : List ℕ
    texts = url ++ (name ++ (given ++ (one.media ++ newline ∷ [])))

    numbers : List ℕ
    numbers =
        decimal layer ++ (space ∷ (decimal (length name) ++ (space ∷ (decimal has
        ++ (space ∷ (decimal (length given)
        ++ (space ∷ (decimal (length one.media) ++ newline ∷ []))))))))
