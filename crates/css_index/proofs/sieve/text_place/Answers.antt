use Rattle.std.proofs.Common.{◌≡◌, ℕ, ◌+◌, ◌-◌, ◌*◌, ◌%◌, ◌<◌, List, [], ◌∷◌, length, map, get_or, eqb-true, sym, ap, ◌∙◌, subst, arith}
use Rattle.std.specs.Char.{to_ascii_lowercase}
use Rattle.std.specs.Prelude.{slice_index}
use Rattle.std.proofs.lemmas.List.{get_or-map, length-map}
use Rattle.css_index.specs.internal.Sieves.{place_of_text}
use Rattle.css_index.proofs.FileLemmas.{some_from}
use Rattle.css_index.proofs.sieve.text_place.Goals as goal

-- the place of no text
place_none : (kind : ℕ) (text : List ℕ) → kind < 4 → length text ≡ 0
    → kind * 251 ≡ place_of_text kind (map to_ascii_lowercase text)
place_none kind [] few none = omega arith
place_none kind (b ∷ text) few none = absurd (omega (arith, none))

-- the place of a text with a byte
place_some : (kind : ℕ) (text : List ℕ) (size first last : ℕ) → size ≡ length text → 0 < length text
    → first ≡ to_ascii_lowercase (get_or text 0 0)
    → last ≡ to_ascii_lowercase (get_or text (length text - 1) 0)
    → (kind * 251 + size % 64 * 37 + first * 5 + last * 101) % 1024
    ≡ place_of_text kind (map to_ascii_lowercase text)
place_some kind text size first last all some first_is last_is =
    let lower = map to_ascii_lowercase text in
    let l : size ≡ length lower = all ∙ sym (length-map text to_ascii_lowercase) in
    let f : first ≡ slice_index lower 0 =
    first_is ∙ sym (get_or-map to_ascii_lowercase text 0 0 0 some) in
    let z : last ≡ slice_index lower (length lower - 1) =
    last_is ∙ sym (ap (λ n. get_or lower (n - 1) 0) (length-map text to_ascii_lowercase)
    ∙ get_or-map to_ascii_lowercase text (length text - 1) 0 0 (omega (arith, some))) in
    λ i. (kind * 251 + l i % 64 * 37 + f i * 5 + z i * 101) % 1024

pub returns-then-is_empty-clause-value : goal.returns-then-is_empty-clause-value
returns-then-is_empty-clause-value c =
    place_none c.args.kind c.args.text.now c.requires (subst (λ t. length t ≡ 0)
    c.as_bytes-bytes.ensures.value (eqb-true (length c.as_bytes-bytes.result.now) 0
    (sym c.is_empty.ensures ∙ c.if-is_empty.true)))

pub returns-clause-value : goal.returns-clause-value
returns-clause-value c =
    let is = c.as_bytes-bytes.ensures.value in
    place_some c.args.kind c.args.text.now (length c.as_bytes-bytes.result.now) c.from-first.result
    c.from-last.result (ap length is)
    (subst (λ t. 0 < length t) is (some_from (length c.as_bytes-bytes.result.now)
    (sym c.is_empty.ensures ∙ c.if-is_empty.false)))
    (c.from-first.ensures ∙ c.to_ascii_lowercase.ensures.value
    ∙ ap (λ t. to_ascii_lowercase (get_or t 0 0)) is)
    (c.from-last.ensures ∙ c.to_ascii_lowercase-2.ensures.value
    ∙ ap (λ t. to_ascii_lowercase (get_or t (length t - 1) 0)) is)
