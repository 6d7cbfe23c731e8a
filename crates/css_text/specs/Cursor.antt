-- What contracts see of a `Stream`: its text, its offset, and the rest from there.
use Rattle.std.specs.Prelude.{ℕ, List, drop}
use Rattle.css_text.specs.declared.stream.Stream.{Stream}

-- the whole text
abbrev pub text_of : Stream → List ℕ
text_of s = s.text.now

-- the offset, in bytes
abbrev pub offset_of : Stream → ℕ
offset_of s = s.pos

-- the rest: what is left to read
abbrev pub rest_of : Stream → List ℕ
rest_of s = drop s.pos s.text.now
