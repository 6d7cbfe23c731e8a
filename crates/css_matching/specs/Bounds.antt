-- What bounds the tests of the search.
use Rattle.std.specs.Prelude.{ℕ, zero, suc, ◌+◌, Bool, true, false, if◌then◌else◌, max}
use Rattle.std.specs.Option.{option_map_or}
use Rattle.css_matching.specs.declared.Combinator.{Combinator}
use Rattle.css_matching.specs.declared.Combinator.TheVariants.{Descendant, Child, Adjacent, Sibling}
use Rattle.css_matching.specs.Trees.{Tree}

-- the part is on the sibling directly after that of the part before it
abbrev pub is_adjacent : Combinator → Bool
is_adjacent Descendant = false
is_adjacent Child = false
is_adjacent Adjacent = true
is_adjacent Sibling = false

-- the number of parts of a run, which are joined by `+`, up to part `q`
abbrev pub run_length : (ℕ → Combinator) → ℕ → ℕ
run_length combinator zero = 1
run_length combinator (suc q) =
    if is_adjacent (combinator (suc q)) then run_length combinator q + 1 else 1

-- the part is on an earlier sibling than that of the part after it
abbrev pub is_sibling : Combinator → Bool
is_sibling Descendant = false
is_sibling Child = false
is_sibling Adjacent = false
is_sibling Sibling = true

-- the number of parts of the longest run with a `~` after it, in the parts up to `q`
abbrev pub longest_free : (ℕ → Combinator) → ℕ → ℕ
longest_free combinator zero = 0
longest_free combinator (suc q) =
    if is_sibling (combinator (suc q)) then max (run_length combinator q) (longest_free combinator q)
    else longest_free combinator q

-- Of a stretch, up to part `q`, the number of parts that are on given nodes once its last one is:
-- all but those with a `~` after them in their level. `free` tells whether part `q` is one of these.
abbrev pub fixed_by : Combinator → ℕ → ℕ → ℕ → ℕ
fixed_by Descendant none fixed free = none
fixed_by Child none fixed free = none + fixed
fixed_by Adjacent none fixed free = none + fixed
fixed_by Sibling none fixed free = none + free

abbrev pub free_by : Combinator → ℕ → ℕ → ℕ
free_by Descendant fixed free = 0
free_by Child fixed free = fixed
free_by Adjacent fixed free = free
free_by Sibling fixed free = free

-- the numbers where part `q` is not, and is, one of these
abbrev pub fixed_and_free : (ℕ → Combinator) → ℕ → ℕ × ℕ
fixed_and_free combinator zero = (1, 0)
fixed_and_free combinator (suc q) =
    let h = fixed_and_free combinator q in
    (fixed_by (combinator (suc q)) 1 h.0 h.1, free_by (combinator (suc q)) h.0 h.1)

abbrev pub fixed_length : (ℕ → Combinator) → ℕ → ℕ
fixed_length combinator q = (fixed_and_free combinator q).0

abbrev pub above_length : (ℕ → Combinator) → ℕ → ℕ
above_length combinator q = (fixed_and_free combinator q).1

-- the greatest of these numbers of a stretch: where there is no `~`, the number of parts of the
-- longest stretch of `>` and `+`
abbrev pub longest_fixed : (ℕ → Combinator) → ℕ → ℕ
longest_fixed combinator zero = 1
longest_fixed combinator (suc q) =
    max (fixed_length combinator (suc q)) (longest_fixed combinator q)

-- a level, which is runs joined by `~`, follows `n` levels of a stretch, which are joined by `>`
abbrev pub levels_by : Combinator → ℕ → ℕ
levels_by Descendant n = 1
levels_by Child n = n + 1
levels_by Adjacent n = n
levels_by Sibling n = n

-- the number of levels of a stretch up to part `q`
abbrev pub level_count : (ℕ → Combinator) → ℕ → ℕ
level_count combinator zero = 1
level_count combinator (suc q) = levels_by (combinator (suc q)) (level_count combinator q)

-- the number of levels of the stretch with most of them
abbrev pub most_levels : (ℕ → Combinator) → ℕ → ℕ
most_levels combinator zero = 1
most_levels combinator (suc q) = max (level_count combinator (suc q)) (most_levels combinator q)

-- the number of earlier siblings of the node and of the `l - 1` nodes nearest above it
abbrev pub width : {Node : Type 0} → Tree Node → ℕ → Node → ℕ
width tree zero n = 0
width tree (suc l) n = tree.earlier n + option_map_or (width tree l) (tree.parent n) 0
