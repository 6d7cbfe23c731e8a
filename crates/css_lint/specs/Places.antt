-- What contracts see of findings, and which kinds of them are relations of places.
use Rattle.std.specs.Prelude.{ℕ, ◌+◌, min, Bool, true, false, not, List, filter, map, ◌≡◌, ◌++◌}
use Rattle.css_lint.specs.declared.findings.Finding.{Finding}
use Rattle.css_lint.specs.declared.kinds.Kind.{Kind}
use Rattle.css_lint.specs.declared.kinds.Kind.TheVariants as kinds

-- A finding: its kind, the offset of its first byte, and the offset after its last.
pub record PlaceText : Type 0 where
  pub kind : Kind
  pub start : ℕ
  pub end : ℕ

abbrev pub place_of : Finding → PlaceText
place_of found = record { kind = found.kind; start = found.start; end = found.end }

-- a finding from an offset on, of as many bytes; the greatest number stands for one that is greater
abbrev pub sized : Kind → (start size : ℕ) → PlaceText
sized kind start size =
    record { kind = kind; start = start; end = min (start + size) 18446744073709551615 }

-- Whether the findings of a kind are a relation of places, which has a definition. The others are
-- guesses.
abbrev pub is_related : Kind → Bool
is_related kinds.LateCharset = true
is_related kinds.LateImport = true
is_related kinds.LateNamespace = true
is_related kinds.ImportantInKeyframes = true
is_related kinds.RepeatedImport = true
is_related kinds.RepeatedProperty = true
is_related kinds.RepeatedRule = true
is_related kinds.RepeatedSelector = true
is_related _ = false

-- the findings that are guesses
abbrev pub guesses_of : List Finding → List Finding
guesses_of found = filter (λ one. not (is_related one.kind)) found

-- The findings are those at these places, in order, and then guesses: each finding of a related kind
-- is at one of these places.
abbrev pub AreFindings : List PlaceText → List Finding → Type 0
AreFindings related found =
    (others : List Finding) × (map place_of found ≡ related ++ map place_of (guesses_of others))
