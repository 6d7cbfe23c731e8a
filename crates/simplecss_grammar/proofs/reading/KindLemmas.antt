-- The kind of what is next, the byte that has it, and the table of neighbours by kinds.
-- Serves `SelectorTokenizer`, `Selector::parse_front` and `laws::{cutting_law, edition_law}`.
use Rattle.std.proofs.Common.{◌≡◌, ℕ, ◌<◌, List, [], ◌∷◌, Bool, true, false, if◌then◌else◌, ◌==◌, refl, sym, ap, subst, arith}
use Rattle.std.proofs.lemmas.Bool.{eqb-true}
use Rattle.css_text.specs.AsciiBytes.{asterisk, colon, comma, full_stop, greater_than_sign, number_sign, open_brace, open_bracket, plus_sign, slash}
use Rattle.css_text.specs.Reading.{Fault}
use Rattle.css_text.specs.Bytes.{past_one, starts}
use Rattle.css_text.specs.Characters.{Edition}
use Rattle.simplecss_grammar.specs.declared.next_kind.NextKind.{NextKind}
use Rattle.simplecss_grammar.specs.declared.next_kind.NextKind.TheVariants.{Stop, Slash, Child, Adjacent, Universal, Id, Class, Attribute, Colon, Other}
use Rattle.simplecss_grammar.specs.Pieces.{kind_of_byte, next_kind, solid_as, solid, Ending, fault_ending}
use Rattle.simplecss_grammar.specs.Pieces.Ending.{at_stop, at_slash, without_head, within_piece}
use Rattle.simplecss_grammar.specs.Neighbours.{Side, Answer, between}
use Rattle.simplecss_grammar.specs.Neighbours.Side.{open_side, closed_side}
use Rattle.simplecss_grammar.specs.Neighbours.Answer.{nothing, descends, refuses}

-- ---- bytes

-- what the byte is that is of this kind
abbrev Reports : NextKind → ℕ → Type 0
Reports Stop b = Unit {0}
Reports Slash b = b ≡ slash
Reports Child b = b ≡ greater_than_sign
Reports Adjacent b = b ≡ plus_sign
Reports Universal b = b ≡ asterisk
Reports Id b = b ≡ number_sign
Reports Class b = b ≡ full_stop
Reports Attribute b = b ≡ open_bracket
Reports Colon b = b ≡ colon
Reports Other b = Unit {0}

reports-if : (b c : ℕ) (one other : NextKind) → (b ≡ c → Reports one b) → Reports other b
    → Reports (if b == c then one else other) b
reports-if b c one other h k = by (b == c) refl
  where
    by : (t : Bool) → (b == c) ≡ t → Reports (if t then one else other) b
    by true e = h (eqb-true b c e)
    by false e = k

kind_of_byte-reports : (b : ℕ) → Reports (kind_of_byte b) b
kind_of_byte-reports b =
    reports-if b comma Stop _ (λ e. tt)
    (reports-if b open_brace Stop _ (λ e. tt) (reports-if b slash Slash _ (λ e. e)
    (reports-if b greater_than_sign Child _ (λ e. e) (reports-if b plus_sign Adjacent _ (λ e. e)
    (reports-if b asterisk Universal _ (λ e. e)
    (reports-if b number_sign Id _ (λ e. e)
    (reports-if b full_stop Class _ (λ e. e) (reports-if b open_bracket Attribute _ (λ e. e)
    (reports-if b colon Colon Other (λ e. e) tt)))))))))

-- only one byte has this kind
abbrev pub HasSign : NextKind → Type 0
HasSign Stop = ⊥
HasSign Other = ⊥
HasSign kind = Unit {0}

sign-ascii : (kind : NextKind) (b : ℕ) → HasSign kind → Reports kind b → b < 128
sign-ascii Stop b s h = absurd s
sign-ascii Slash b s h = omega arith
sign-ascii Child b s h = omega arith
sign-ascii Adjacent b s h = omega arith
sign-ascii Universal b s h = omega arith
sign-ascii Id b s h = omega arith
sign-ascii Class b s h = omega arith
sign-ascii Attribute b s h = omega arith
sign-ascii Colon b s h = omega arith
sign-ascii Other b s h = absurd s

-- an ASCII byte begins the text
pub record BeginsAscii (text : List ℕ) : Type 0 where
  pub byte : ℕ
  pub ascii : byte < 128
  pub is : text ≡ byte ∷ past_one text

-- where a sign is next, it is ASCII
pub sign-begins : (kind : NextKind) (text : List ℕ) → HasSign kind → next_kind text ≡ kind
    → BeginsAscii text
unfolding next_kind
sign-begins kind [] s e = absurd (subst HasSign (sym e) s)
sign-begins kind (b ∷ text) s e = record {
  byte = b;
  ascii = sign-ascii kind b s
      (subst (λ k. Reports k b) e (kind_of_byte-reports b));
  is = refl;
}

-- a slash is where its kind is next
pub slash-starts : (text : List ℕ) → next_kind text ≡ Slash → starts slash text ≡ true
unfolding next_kind
slash-starts [] e = absurd (cc)
slash-starts (b ∷ text) e = rw (subst (λ k. Reports k b) e (kind_of_byte-reports b)) refl

-- a solid piece, where the kind is known
pub solid-kind_known : (edition : Edition) (kind : NextKind) (text : List ℕ) → next_kind text ≡ kind
    → solid edition text ≡ solid_as edition kind text
unfolding solid
solid-kind_known edition kind text k = ap (λ k. solid_as edition k text) k

-- ---- the table of neighbours

-- the table may name the offset where a piece of this kind begins
abbrev pub NamesStart : NextKind → Type 0
NamesStart Id = ⊥
NamesStart Class = ⊥
NamesStart Attribute = ⊥
NamesStart Colon = ⊥
NamesStart Other = ⊥
NamesStart kind = Unit {0}

-- the answer of the table in two texts: nothing, a descendant combinator after a space byte, or a
-- fault at the start of what follows, or after it
pub between-both : (P : Answer → Answer → Type 0) (side : Side) (spaced : Bool) (kind : NextKind)
    (a x b y : List ℕ) → P nothing nothing → (spaced ≡ true → P descends descends)
    → ((f e : Fault) → NamesStart kind → P (refuses f a) (refuses e b))
    → ((f e : Fault) → P (refuses f x) (refuses e y))
    → P (between side spaced kind a x) (between side spaced kind b y)
between-both P open_side spaced Stop a x b y n d s r = s _ _ tt
between-both P open_side spaced Slash a x b y n d s r = s _ _ tt
between-both P open_side spaced Child a x b y n d s r = s _ _ tt
between-both P open_side spaced Adjacent a x b y n d s r = s _ _ tt
between-both P open_side spaced Universal a x b y n d s r = n
between-both P open_side spaced Id a x b y n d s r = n
between-both P open_side spaced Class a x b y n d s r = n
between-both P open_side spaced Attribute a x b y n d s r = n
between-both P open_side spaced Colon a x b y n d s r = n
between-both P open_side spaced Other a x b y n d s r = n
between-both P closed_side spaced Stop a x b y n d s r = n
between-both P closed_side spaced Child a x b y n d s r = n
between-both P closed_side spaced Adjacent a x b y n d s r = n
between-both P closed_side false Slash a x b y n d s r = n
between-both P closed_side false Universal a x b y n d s r = s _ _ tt
between-both P closed_side false Id a x b y n d s r = n
between-both P closed_side false Class a x b y n d s r = n
between-both P closed_side false Attribute a x b y n d s r = n
between-both P closed_side false Colon a x b y n d s r = n
between-both P closed_side false Other a x b y n d s r = r _ _
between-both P closed_side true Slash a x b y n d s r = r _ _
between-both P closed_side true Universal a x b y n d s r = d refl
between-both P closed_side true Id a x b y n d s r = d refl
between-both P closed_side true Class a x b y n d s r = d refl
between-both P closed_side true Attribute a x b y n d s r = d refl
between-both P closed_side true Colon a x b y n d s r = d refl
between-both P closed_side true Other a x b y n d s r = d refl

-- the same in one text
pub between-case : (P : Answer → Type 0) (side : Side) (spaced : Bool) (kind : NextKind)
    (start after : List ℕ) → P nothing → (spaced ≡ true → P descends)
    → ((f : Fault) → NamesStart kind → P (refuses f start)) → ((f : Fault) → P (refuses f after))
    → P (between side spaced kind start after)
between-case P side spaced kind start after n d s r = between-both (λ one other. P one) side spaced
    kind start after start after n d (λ f e k. s f k) (λ f e. r f)

-- what ends the pieces at a fault
pub fault_ending-case : (P : Ending → Type 0) (kind : NextKind) (spaced : Bool) (start : List ℕ)
    (fault : Fault) (after : List ℕ) → (kind ≡ Stop → P (at_stop spaced start))
    → (kind ≡ Slash → P (at_slash spaced start)) → P (without_head spaced start fault after)
    → P (within_piece spaced start fault after) → P (fault_ending kind spaced start fault after)
fault_ending-case P Stop spaced start fault after s l h p = s refl
fault_ending-case P Slash spaced start fault after s l h p = l refl
fault_ending-case P Child spaced start fault after s l h p = p
fault_ending-case P Adjacent spaced start fault after s l h p = p
fault_ending-case P Universal spaced start fault after s l h p = p
fault_ending-case P Id spaced start fault after s l h p = p
fault_ending-case P Class spaced start fault after s l h p = p
fault_ending-case P Attribute spaced start fault after s l h p = p
fault_ending-case P Colon spaced start fault after s l h p = p
fault_ending-case P Other spaced start fault after s l h p = h
