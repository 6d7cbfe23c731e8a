-- What is written of a name or a string, run by run.
-- Serves `spelling` and `printing`.
use Rattle.std.proofs.Common.{◌≡◌, ℕ, suc, ◌<◌, ◌==◌, ◌||◌, ◌&&◌, not, nat_le, nat_lt, Bool, true, false, List, [], ◌∷◌, ◌++◌, Option, None, Some, take, drop, flat_map, map, encode_utf8, append_assoc, arith, refl, sym, ap, ◌∙◌, eqb-true}
use Rattle.std.specs.Prelude.{codes, if◌then◌else◌}
use Rattle.std.specs.Option.{ForSome}
use Rattle.std.specs.List.{prefix_len}
use Rattle.std.proofs.lemmas.Bool.Decides.{nat_tests}
use Rattle.std.proofs.lemmas.Grind.{flat_map-append}
use Rattle.std.proofs.lemmas.List.{take-append-drop}
use Rattle.std.proofs.lemmas.Str.{encode_ascii}
use Rattle.css_text.specs.AsciiBytes.{backslash, hyphen}
use Rattle.css_text.specs.Bytes.{starts_by, is_ascii, is_digit, past}
use Rattle.css_selector_text.specs.Runs.{run}
use Rattle.css_selector_text.specs.declared.components.Condition.{Condition}
use Rattle.css_selector_text.specs.declared.components.Part.{Part}
use Rattle.css_selector_text.specs.Components.{Signed, Progression}
use Rattle.css_selector_text.specs.Views.{condition_of, part_of}
use Rattle.css_selector_text.specs.printing.Printing.{minus_text, signed_text, is_zero, size_text, plus_text, offset_text, progression_text, further_text, list_text, condition_text, part_text, parts_text, is_control, is_kept, code_point_text, escape_text, byte_text, start_text, after_hyphen, identifier_text}
use Rattle.css_selector_text.proofs.TextLemmas.{name_low}
use Rattle.css_syntax.specs.Tokens.{is_name_byte}

-- the escape of a byte that is no control character
pub sign_text : (b c : ℕ) → (b == 0) ≡ false → is_control b ≡ false → b < 128 → c ≡ b
    → codes "\\" ++ encode_utf8 c ≡ escape_text b
sign_text b c some calm low e =
    ap (λ x. backslash ∷ encode_utf8 x) e ∙ ap (λ l. backslash ∷ l) (encode_ascii b low)
    ∙ sym (rw (some, calm) refl)

control_low : (b : ℕ) → is_control b ≡ true → b < 128
control_low b h = by (nat_le 1 b) (nat_le b 31) (b == 127) refl refl h
  where
    by : (l k d : Bool) → nat_le b 31 ≡ k → (b == 127) ≡ d → ((l && k) || d) ≡ true → b < 128
    by true true d ek ed e = grind (arith, nat_tests, ek)
    by true false true ek ed e = omega (arith, eqb-true b 127 ed)
    by true false false ek ed e = absurd (cc)
    by false k true ek ed e = omega (arith, eqb-true b 127 ed)
    by false k false ek ed e = absurd (cc)

-- what is not kept is ASCII
pub kept_low : (quote : Option ℕ) → ForSome quote (λ q. q < 128) → (b : ℕ)
    → is_kept quote b ≡ false → b < 128
kept_low None low b h = by (is_name_byte b) (b == 0) refl refl h
  where
    by : (n z : Bool) → is_name_byte b ≡ n → (b == 0) ≡ z → (n && not z) ≡ false → b < 128
    by true true en ez e = omega (arith, eqb-true b 0 ez)
    by true false en ez e = absurd (cc)
    by false z en ez e = name_low b en
kept_low (Some q) low b h = let small : q < 128 = low q refl in
    by (b == q) (b == backslash) (is_control b) (b == 0) refl refl refl refl small h
  where
    by : (s k c z : Bool) → (b == q) ≡ s → (b == backslash) ≡ k → is_control b ≡ c
        → (b == 0) ≡ z → q < 128 → not (s || k || c || z) ≡ false → b < 128
    by true k c z es ek ec ez small e = omega (arith, eqb-true b q es)
    by false true c z es ek ec ez small e = omega (arith, eqb-true b backslash ek)
    by false false true z es ek ec ez small e = control_low b ec
    by false false false true es ek ec ez small e = omega (arith, eqb-true b 0 ez)
    by false false false false es ek ec ez small e = absurd (cc)

past_step : (test : ℕ → Bool) (b : ℕ) (text : List ℕ) → test b ≡ true
    → past test (b ∷ text) ≡ past test text
past_step test b text e =
    let one : prefix_len test (b ∷ text) ≡ suc (prefix_len test text) = rw e (omega arith) in
    ap (λ n. drop n (b ∷ text)) one

past_stop : (test : ℕ → Bool) (b : ℕ) (text : List ℕ) → test b ≡ false
    → past test (b ∷ text) ≡ b ∷ text
past_stop test b text e =
    let none : prefix_len test (b ∷ text) ≡ 0 = rw e refl in ap (λ n. drop n (b ∷ text)) none

run_step : (test : ℕ → Bool) (b : ℕ) (text : List ℕ) → test b ≡ true
    → run test (b ∷ text) ≡ b ∷ run test text
run_step test b text e =
    let one : prefix_len test (b ∷ text) ≡ suc (prefix_len test text) = rw e (omega arith) in
    ap (λ n. take n (b ∷ text)) one

run_stop : (test : ℕ → Bool) (b : ℕ) (text : List ℕ) → test b ≡ false → run test (b ∷ text) ≡ []
run_stop test b text e =
    let none : prefix_len test (b ∷ text) ≡ 0 = rw e refl in ap (λ n. take n (b ∷ text)) none

-- a run ends where the test fails
rest_stops : (test : ℕ → Bool) (text : List ℕ) → starts_by test (past test text) ≡ false
rest_stops test [] = refl
rest_stops test (b ∷ text) = by (test b) refl (rest_stops test text)
  where
    by : (t : Bool) → test b ≡ t → starts_by test (past test text) ≡ false
        → starts_by test (past test (b ∷ text)) ≡ false
    by true e more = ap (starts_by test) (past_step test b text e) ∙ more
    by false e more = ap (starts_by test) (past_stop test b text e) ∙ e

run_kept : (quote : Option ℕ) (text : List ℕ)
    → flat_map (byte_text quote) (run (is_kept quote) text) ≡ run (is_kept quote) text
run_kept quote [] = refl
run_kept quote (b ∷ text) = by (is_kept quote b) refl (run_kept quote text)
  where
    by : (t : Bool) → is_kept quote b ≡ t
        → flat_map (byte_text quote) (run (is_kept quote) text) ≡ run (is_kept quote) text
        → flat_map (byte_text quote) (run (is_kept quote) (b ∷ text))
        ≡ run (is_kept quote) (b ∷ text)
    by true e more =
        let own : byte_text quote b ≡ b ∷ [] = rw e refl in
        ap (flat_map (byte_text quote)) (run_step (is_kept quote) b text e)
        ∙ ap (λ l. l ++ flat_map (byte_text quote) (run (is_kept quote) text)) own
        ∙ ap (λ l. b ∷ l) more
        ∙ sym (run_step (is_kept quote) b text e)
    by false e more =
        ap (flat_map (byte_text quote)) (run_stop (is_kept quote) b text e)
        ∙ sym (run_stop (is_kept quote) b text e)

module _ (quote : Option ℕ) (text : List ℕ) where
  abbrev pub front : List ℕ
  front = run (is_kept quote) text

  abbrev pub after : List ℕ
  after = past (is_kept quote) text

  -- the text is written as its run is, and then what follows
  by_run : (rest : List ℕ) → after ≡ rest
      → front ++ flat_map (byte_text quote) rest ≡ flat_map (byte_text quote) text
  by_run rest e =
      ap (λ l. front ++ flat_map (byte_text quote) l) (sym e)
      ∙ ap (λ l. l ++ flat_map (byte_text quote) after) (sym (run_kept quote text))
      ∙ sym (flat_map-append (byte_text quote) front after)
      ∙ ap (flat_map (byte_text quote)) (take-append-drop (prefix_len (is_kept quote) text) text)

  -- an escape follows the run
  pub written_escape : (one left : List ℕ) (b : ℕ) (rest : List ℕ) → one ≡ front → left ≡ after
      → left ≡ b ∷ rest
      → (one ++ escape_text b) ++ flat_map (byte_text quote) rest
      ≡ flat_map (byte_text quote) text
  written_escape one left b rest eo el e =
      let stop : is_kept quote b ≡ false =
      ap (starts_by (is_kept quote)) (sym e ∙ el) ∙ rest_stops (is_kept quote) text in
      append_assoc one (escape_text b) (flat_map (byte_text quote) rest)
      ∙ ap (λ l. l ++ (escape_text b ++ flat_map (byte_text quote) rest)) eo
      ∙ ap (λ (t : Bool). front
      ++ ((if t then b ∷ [] else escape_text b) ++ flat_map (byte_text quote) rest)) (sym stop)
      ∙ by_run (b ∷ rest) (sym el ∙ e)

  -- nothing follows the run
  pub nothing_left : ForSome quote (λ q. q < 128) → (left : List ℕ) → left ≡ after
      → starts_by is_ascii left ≡ false → left ≡ []
  nothing_left low [] e wide = refl
  nothing_left low (b ∷ left) e wide =
      let stop : is_kept quote b ≡ false =
      ap (starts_by (is_kept quote)) e ∙ rest_stops (is_kept quote) text in
      let small = kept_low quote low b stop in
      absurd (by (nat_lt b 128) refl wide small)
    where
      by : (t : Bool) → nat_lt b 128 ≡ t → t ≡ false → b < 128 → ⊥
      by true e h small = absurd (cc)
      by false e h small = grind (arith, nat_tests, e)

  pub written_run : (one left : List ℕ) → one ≡ front → left ≡ after
      → one ++ flat_map (byte_text quote) left ≡ flat_map (byte_text quote) text
  written_run one left eo el =
      ap (λ l. l ++ flat_map (byte_text quote) left) eo ∙ by_run left (sym el)

-- a digit at the start
pub start_digit : (name : List ℕ) (b : ℕ) (rest : List ℕ) → name ≡ b ∷ rest → is_digit b ≡ true
    → code_point_text b ++ flat_map (byte_text None) rest ≡ start_text name
start_digit name b rest e digit =
    ap (λ (t : Bool). (if t then code_point_text b else byte_text None b)
    ++ flat_map (byte_text None) rest) (sym digit)
    ∙ ap start_text (sym e)

-- a hyphen at the start
pub hyphen_first : (name rest : List ℕ) (b : ℕ) → name ≡ b ∷ rest → b ≡ hyphen
    → after_hyphen rest ≡ identifier_text name
hyphen_first name rest b e h = ap (λ k. identifier_text (k ∷ rest)) (sym h)
    ∙ ap identifier_text (sym e)

pub hyphen_more : (name : List ℕ) → (name ≡ [] → ⊥) → hyphen ∷ start_text name ≡ after_hyphen name
hyphen_more [] some = absurd (some refl)
hyphen_more (b ∷ name) some = refl

-- ---- texts that are joined

pub both : {a b c d : List ℕ} → a ≡ b → c ≡ d → a ++ c ≡ b ++ d
both {a} {b} {c} {d} e f = ap (λ l. l ++ c) e ∙ ap (λ l. b ++ l) f

pub all_three : {a b c d e f : List ℕ} → a ≡ b → c ≡ d → e ≡ f → a ++ c ++ e ≡ b ++ d ++ f
all_three p q r = both (both p q) r

pub offset_some : (s : Signed) → is_zero s ≡ false
    → plus_text s.is_negative ++ signed_text s ≡ offset_text s
offset_some s e = sym (rw e refl)

pub steps_some : (p : Progression) (m : List ℕ) → m ≡ minus_text p.step.is_negative
    → is_zero p.step ≡ false
    → ((m ++ size_text p.step.size) ++ codes "n") ++ offset_text p.offset ≡ progression_text p
steps_some p m e some =
    ap (λ l. l ++ size_text p.step.size ++ codes "n" ++ offset_text p.offset) e
    ∙ sym (rw some refl)

pub list_first : {X A : Type 0} (text_of : A → List ℕ) (view : X → A) (xs : List X) (x : X)
    (rest : List X) (t : List ℕ) → t ≡ text_of (view x) → xs ≡ x ∷ rest
    → t ++ flat_map (further_text text_of) (map view rest) ≡ list_text text_of (map view xs)
list_first text_of view xs x rest t e split =
    ap (λ l. l ++ flat_map (further_text text_of) (map view rest)) e
    ∙ ap (λ l. list_text text_of (map view l)) (sym split)

pub parts_first : (parts : List Part) (part : Part) (rest : List Part) (items : List Condition)
    → items ≡ part.conditions.items → parts ≡ part ∷ rest
    → flat_map condition_text (map condition_of items) ++ flat_map part_text (map part_of rest)
    ≡ parts_text (map part_of parts)
parts_first parts part rest items e split =
    ap (λ l. flat_map condition_text (map condition_of l)
    ++ flat_map part_text (map part_of rest)) e
    ∙ ap (λ l. parts_text (map part_of l)) (sym split)

pub attribute_joined : (n name c v flag : List ℕ) → n ≡ name
    → ((codes "[" ++ n) ++ (c ++ v ++ flag)) ++ codes "]"
    ≡ codes "[" ++ name ++ c ++ v ++ flag ++ codes "]"
attribute_joined n name c v flag e =
    ap (λ m. (codes "[" ++ m) ++ (c ++ v ++ flag) ++ codes "]") e
    ∙ ap (λ l. l ++ codes "]") (sym (append_assoc (codes "[" ++ name) (c ++ v) flag)
    ∙ ap (λ l. l ++ flag) (sym (append_assoc (codes "[" ++ name) c v)))
