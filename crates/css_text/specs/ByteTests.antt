-- Tests of a text's bytes, and the run of bytes for which one is true.
use Rattle.std.specs.Prelude.{◌≡◌, ℕ, ◌<◌, ◌≤◌, List, Bool, true, false, length, slice_index}

-- The test, which may return the answers that `post` relates to a byte, may be called on each byte
-- of the text, always returns the same for a byte, and returns the same for all bytes past ASCII.
pub record IsByteTest (pre : ℕ → Type 0) (post : ℕ → Bool → Type 0) (text : List ℕ) : Type 0 where
  pub callable : (k : ℕ) → k < length text → pre (slice_index text k)
  pub steady : (k : ℕ) (x y : Bool) → k < length text → post (slice_index text k) x
      → post (slice_index text k) y → x ≡ y
  pub alike : (j k : ℕ) (x y : Bool) → j < length text → k < length text → 128 ≤ slice_index text j
      → 128 ≤ slice_index text k
      → post (slice_index text j) x → post (slice_index text k) y → x ≡ y

-- The test is true of the bytes from offset `p` to before offset `q`, and false of the byte at `q`
-- if the text has one.
pub record PassesUpTo (post : ℕ → Bool → Type 0) (text : List ℕ) (p q : ℕ) : Type 0 where
  pub from : p ≤ q
  pub within : q ≤ length text
  pub passed : (k : ℕ) → p ≤ k → k < q → post (slice_index text k) true
  pub stopped : q < length text → post (slice_index text q) false
