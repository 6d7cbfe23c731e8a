-- The lines of a text that are read one after the other.
-- Serves `Page::read` (the tree of a text, or its first fault).
use Rattle.std.proofs.Common.{◌≡◌, ℕ, zero, suc, ◌+◌, ◌<◌, ◌≤◌, List, [], ◌∷◌, ◌++◌, length, take, refl, sym, ap, ◌∙◌, subst, arith, Some, Result, Ok, Err, IfErr, map, append_assoc, append-nil}
use Rattle.std.specs.List.{All, flat_map, slice_get}
use Rattle.std.specs.Result.{IsErrAnd}
use Rattle.std.proofs.Math.ListN.{replicate}
use Rattle.std.proofs.lemmas.List.{take-append-le, take_all, map-append, length-append, length-map, length-replicate, replicate_more}
use Rattle.std.proofs.lemmas.List.Elements.{All-replicate}
use Rattle.cssq_tree.specs.declared.tree.entry.Entry.{Entry}
use Rattle.cssq_tree.specs.declared.tree.Line.{Line}
use Rattle.cssq_tree.specs.declared.tree.TreeFault.{TreeFault}
use Rattle.cssq_tree.specs.declared.tree.TreeFault.TheVariants.{BadDepth, EmptyName, NoEquals, RepeatedKey, Memory}
use Rattle.cssq_tree.specs.TreeText.{Row, fields_of, lines_of, lines_in, row_of, depth_in, faults_of_line, line_faults, faults_in, first_or_rows, tree_of, IsSoundTo, IsFaultOf}
use Rattle.cssq_tree.specs.internal.EntryLines.{row, rows, AreLinked, IsReportedFor, Says, IsAdded}

-- the faults of all lines in one list
abbrev all_of : List (List TreeFault) → List TreeFault
all_of faults = flat_map (λ fs. fs) faults

-- lines without a fault add nothing
all_of-sound : (n : ℕ) (faults : List (List TreeFault))
    → all_of (replicate n [] ++ faults) ≡ all_of faults
all_of-sound zero faults = refl
all_of-sound (suc n) faults = all_of-sound n faults

first_is : (faults others : List TreeFault) (fault : TreeFault) (rs : List Row)
    → slice_get faults 0 ≡ Some fault → first_or_rows (faults ++ others) rs ≡ Err fault
first_is [] others fault rs is = absurd (cc)
first_is (f ∷ faults) others fault rs is = let same : f ≡ fault = cc in ap Err same

-- what was read of a text up to its rest: the lines that were read have no fault, and their rows
pub record ReadSoFar (text rest : List ℕ) (lines : List Line) (limit : ℕ) : Type 0 where
  pub faults : faults_in text
      ≡ replicate (length lines) [] ++ line_faults (length lines + 1) limit (lines_in rest)
  pub said : map row_of (lines_in text) ≡ rows lines ++ map row_of (lines_in rest)
  pub linked : AreLinked lines
  pub few : length lines + length rest ≤ length text
  pub low : limit ≤ length lines

module _ {text rest : List ℕ} {lines : List Line} {limit : ℕ}
    (so_far : ReadSoFar text rest lines limit) (line others : List ℕ)
    (first : lines_of rest ≡ line ∷ lines_of others) where
  abbrev here : List TreeFault
  here = faults_of_line (length lines + 1) limit (fields_of line)

  abbrev later : List (List TreeFault)
  later = line_faults (length lines + 1 + 1) (depth_in (fields_of line) + 1) (lines_in others)

  split : lines_in rest ≡ fields_of line ∷ lines_in others
  split = ap (map fields_of) first

  all_faults : faults_in text ≡ replicate (length lines) [] ++ (here ∷ later)
  all_faults = so_far.faults
      ∙ ap (λ ls. replicate (length lines) [] ++ line_faults (length lines + 1) limit ls) split

  all_rows : map row_of (lines_in text)
      ≡ rows lines ++ row_of (fields_of line) ∷ map row_of (lines_in others)
  all_rows = so_far.said ∙ ap (λ ls. rows lines ++ map row_of ls) split

  reported : (fault : TreeFault) → slice_get here 0 ≡ Some fault → tree_of text ≡ Err fault
  reported fault is =
      ap (λ fs. first_or_rows fs (map row_of (lines_in text)))
      (ap all_of all_faults ∙ all_of-sound (length lines) (here ∷ later))
      ∙ first_is here (all_of later) fault (map row_of (lines_in text)) is

  module _ (none : here ≡ []) where
    passed : faults_in text ≡ replicate (length lines + 1) [] ++ later
    passed =
        all_faults ∙ ap (λ fs. replicate (length lines) [] ++ (fs ∷ later)) none
        ∙ sym (append_assoc (replicate (length lines) []) ([] ∷ []) later)
        ∙ ap (λ fs. fs ++ later) (replicate_more (length lines) [])

    front : take (length lines + 1) (faults_in text) ≡ replicate (length lines + 1) []
    front =
        let long : length (replicate (length lines + 1) []) ≡ length lines + 1 =
        length-replicate {A = List TreeFault} (length lines + 1) [] in
        ap (take (length lines + 1)) passed
        ∙ take-append-le (length lines + 1) (replicate (length lines + 1) []) later
        (omega (arith, long))
        ∙ take_all (length lines + 1) (replicate (length lines + 1) []) (omega (arith, long))

    count : length lines + 1 ≤ length (lines_in text)
    count = omega (
      arith,
      length-map (lines_in text) row_of,
      ap length all_rows,
      length-append (rows lines) (row_of (fields_of line) ∷ map row_of (lines_in others)),
      length-map lines (λ l. row l.entry),
    )

    sound : IsSoundTo (length lines + 1) text
    sound = (
      omega arith,
      count,
      subst (All (λ fs. fs ≡ [])) (sym front)
          (All-replicate (λ fs. fs ≡ []) (length lines + 1) [] refl),
    )

    -- the line says what the entry keeps
    pub read_more : (e : Entry) → row_of (fields_of line) ≡ row e → (l : Line) → l.entry ≡ e
        → AreLinked (lines ++ l ∷ []) → length others < length rest → e.depth ≤ limit
        → ReadSoFar text others (lines ++ l ∷ []) (e.depth + 1)
    read_more e says l same linked shorter low =
        let more : rows (lines ++ l ∷ []) ≡ rows lines ++ row e ∷ [] =
        map-append (λ l. row l.entry) lines (l ∷ []) ∙ ap (λ e. rows lines ++ row e ∷ []) same in
        let longer : length lines + 1 ≡ length (lines ++ l ∷ []) =
        sym (length-append lines (l ∷ [])) in
        let next : length lines + 1 + 1 ≡ length (lines ++ l ∷ []) + 1 = ap (λ n. n + 1) longer in
        let depth : depth_in (fields_of line) ≡ e.depth = ap (λ r. r.depth) says in
        record {
          faults = passed ∙ (λ k.
              replicate (longer k) [] ++ line_faults (next k) (depth k + 1) (lines_in others));
          said = all_rows ∙ ap (λ r. rows lines ++ r ∷ map row_of (lines_in others)) says
              ∙ sym (append_assoc (rows lines) (row e ∷ []) (map row_of (lines_in others)))
              ∙ ap (λ rs. rs ++ map row_of (lines_in others)) (sym more);
          linked = linked;
          few = omega (arith, so_far.few, longer, shorter);
          low = omega (arith, so_far.low, longer, low);
        }

  -- what the line's reader reports is the text's fault
  pub fault_found : (fault : TreeFault) → IsReportedFor (length lines + 1) here fault
      → IsFaultOf fault text
  fault_found (Memory n) is = subst (λ n. IsSoundTo n text) (sym is.0) (sound is.1)
  fault_found (BadDepth n) is = reported (BadDepth n) is
  fault_found (EmptyName n) is = reported (EmptyName n) is
  fault_found (NoEquals n) is = reported (NoEquals n) is
  fault_found (RepeatedKey n) is = reported (RepeatedKey n) is

  -- the line was added to the others
  pub read_added : {new : List Line} {next : ℕ} → IsAdded lines limit line new next
      → length others < length rest → ReadSoFar text others new next
  read_added {new} {next} added shorter =
      let more = read_more added.says.0 added.line.entry added.says.1 added.line refl
      (subst AreLinked added.added added.linked) shorter added.within in
      subst (ReadSoFar text others new) (sym added.next_limit)
      (subst (λ ls. ReadSoFar text others ls (added.line.entry.depth + 1)) (sym added.added) more)

length_zero : (xs : List ℕ) → length xs ≡ 0 → xs ≡ []
length_zero [] none = refl
length_zero (x ∷ xs) none = absurd (omega (arith, none))

-- nothing is left
pub read_all : {text rest : List ℕ} {lines : List Line} {limit : ℕ}
    → ReadSoFar text rest lines limit → length rest ≡ 0 → tree_of text ≡ Ok (rows lines)
read_all {text} {rest} {lines} {limit} so_far none =
    let nothing = length_zero rest none in
    let no_fault : all_of (faults_in text) ≡ [] = ap all_of (so_far.faults ∙ ap
    (λ r. replicate (length lines) [] ++ line_faults (length lines + 1) limit (lines_in r)) nothing)
    ∙ all_of-sound (length lines) [] in
    let all : map row_of (lines_in text) ≡ rows lines = so_far.said
    ∙ ap (λ r. rows lines ++ map row_of (lines_in r)) nothing ∙ append-nil (rows lines) in
    (λ k. first_or_rows (no_fault k) (all k))

-- an entry's line after the others
pub line_added : (old : List Line) (limit number : ℕ) (text : List ℕ) (e : Entry) (l : Line)
    (new : List Line) → number ≡ length old + 1 → Says number limit text e → e.depth ≤ limit
    → l.entry ≡ e → AreLinked (old ++ l ∷ []) → new ≡ old ++ l ∷ []
    → IsAdded old limit text new (e.depth + 1)
line_added old limit number text e l new at says within keeps linked added = record {
  line = l;
  added = added;
  says = subst (Says (length old + 1) limit text) (sym keeps)
      (subst (λ n. Says n limit text e) at says);
  within = subst (λ e. e.depth ≤ limit) (sym keeps) within;
  next_limit = ap (λ e. e.depth + 1) (sym keeps);
  linked = subst AreLinked (sym added) linked;
}

-- a fault that `?` hands on
pub passed_on : {A : Type 0} (r : Result A TreeFault) (fault : TreeFault) (P : TreeFault → Type 0)
    → IsErrAnd r (λ reported. reported ≡ fault) → P fault → IfErr r P
passed_on (Ok a) fault P is p = tt
passed_on (Err reported) fault P is p = subst P (sym is) p
