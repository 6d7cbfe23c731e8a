-- The names of the tokens of a text, one token at a time.
-- Serves `names::read_names`.
use Rattle.std.proofs.Common.{◌≡◌, ◌≤◌, ◌+◌, ◌-◌, ℕ, suc, Bool, true, false, ◌&&◌, not, List, [], ◌∷◌, ◌++◌, length, Option, Some, None, append_assoc, refl, sym, ap, ◌∙◌, arith, if◌then◌else◌}
use Rattle.css_text.specs.AsciiBytes.{full_stop, colon, open_parenthesis, close_parenthesis, open_bracket, close_bracket}
use Rattle.css_text.specs.Bytes.{starts}
use Rattle.css_syntax.specs.TokenLists.{PlacedToken, next_token, tokens}
use Rattle.css_syntax.specs.declared.names.Bracket.{Bracket}
use Rattle.css_syntax.specs.declared.names.Bracket.TheVariants as brackets
use Rattle.css_syntax.specs.declared.names.Mark.{Mark}
use Rattle.css_syntax.specs.declared.names.Mark.TheVariants as marks
use Rattle.css_syntax.specs.declared.names.Role.{Role}
use Rattle.css_syntax.specs.declared.names.Role.TheVariants as roles
use Rattle.css_syntax.specs.NameLists.{Scan, PlacedName, name_in, after_token, after_by, after_role, after_sign, after_opened, after_inner, after_word, after_function, colon_after, marked_by, bracketed, unmarked, opened, closed, is_ident, role_of, names_from, with_name, is_bar}
use Rattle.css_syntax.proofs.TokenSteps.{tokens-some, tokens-none}

-- of two that are known
either-depth : (n : ℕ) (t : Bool) (x y : Scan) → x.depth ≤ n → y.depth ≤ n
    → (if t then x else y).depth ≤ n
either-depth n true x y a b = a
either-depth n false x y a b = b

colon-depth : (mark : Mark) (from : List ℕ) (s : Scan) → (colon_after mark from s).depth ≤ suc s.depth
colon-depth marks.Unmarked from s = omega arith
colon-depth marks.Dot from s = omega arith
colon-depth marks.Colon from s = omega arith
colon-depth marks.Colons from s = omega arith

sign-depth : (s : Scan) (from : List ℕ) → (after_sign s from).depth ≤ suc s.depth
sign-depth s from =
    let n = suc s.depth in
    either-depth n (starts full_stop from) _ _ (omega arith)
    (either-depth n (starts colon from) _ _ (colon-depth s.mark from s)
    (either-depth n (starts open_bracket from) _ _ (omega arith)
    (either-depth n (starts open_parenthesis from) _ _ (omega arith)
    (either-depth n (starts close_parenthesis from) _ _ (omega arith) (omega arith)))))

role-depth : (role : Role) (s : Scan) (t : PlacedToken) → (after_role role s t).depth ≤ suc s.depth
role-depth roles.Nothing s t = omega arith
role-depth roles.Ident s t = omega arith
role-depth roles.Function s t = omega arith
role-depth roles.Id s t = omega arith
role-depth roles.Sign s t = sign-depth s t.from
role-depth roles.Other s t = omega arith

inner-depth : (s : Scan) (t : PlacedToken) → (after_inner s t).depth ≤ suc s.depth
inner-depth s t =
    either-depth (suc s.depth) (starts close_bracket t.from) _ _ (omega arith) (omega arith)

-- a token opens one parenthesis at most
pub depth-after : (s : Scan) (t : PlacedToken) → (after_token s t).depth ≤ suc s.depth
unfolding after_token
depth-after s t = by s.bracket
  where
    by : (bracket : Bracket) → (after_by bracket s t).depth ≤ suc s.depth
    by brackets.Outside = role-depth (role_of t.kind) s t
    by brackets.Opened =
        either-depth (suc s.depth) (is_ident (role_of t.kind) && not (is_bar t.rest)) _ _
        (omega arith) (inner-depth s t)
    by brackets.Named = inner-depth s t

pub names-some : (s : Scan) (text rest : List ℕ) (t : PlacedToken)
    → next_token text ≡ Some (t, rest)
    → names_from s (tokens text)
    ≡ with_name (name_in s t) (names_from (after_token s t) (tokens rest))
names-some s text rest t e = ap (names_from s) (tokens-some text rest t e)

pub names-none : (s : Scan) (text : List ℕ) → next_token text ≡ None
    → names_from s (tokens text) ≡ []
names-none s text e = ap (names_from s) (tokens-none text e)

with_name-append : (o : Option PlacedName) (more : List PlacedName)
    → with_name o [] ++ more ≡ with_name o more
with_name-append None more = refl
with_name-append (Some name) more = refl

-- what was found before a token and of it, and then the names of what is left
pub found-then : (so_far found all : List PlacedName) (s after : Scan) (text rest : List ℕ)
    (t : PlacedToken) (o : Option PlacedName) → so_far ++ names_from s (tokens text) ≡ all
    → next_token text ≡ Some (t, rest) → name_in s t ≡ o → after ≡ after_token s t
    → found ≡ so_far ++ with_name o [] → found ++ names_from after (tokens rest) ≡ all
found-then so_far found all s after text rest t o before next is goes more =
    let left = names_from after (tokens rest) in
    ap (λ (l : List PlacedName). l ++ left) more
    ∙ append_assoc so_far (with_name o []) left
    ∙ ap (λ (l : List PlacedName). so_far ++ l) (with_name-append o left
    ∙ ap (λ (x : Option PlacedName). with_name x left) (sym is)
    ∙ ap (λ (a : Scan). with_name (name_in s t) (names_from a (tokens rest))) goes
    ∙ sym (names-some s text rest t next))
    ∙ before
