-- How the verdict goes on where a type or an expression is expected.
use Rattle.std.proofs.Common.{◌≡◌, ℕ, zero, suc, ◌+◌, ◌≤◌, List, [], ◌∷◌, ◌++◌, true, false, if◌then◌else◌, Option, Some, None, is_some, arith, refl, sym, ◌∙◌, ap, subst}
use Rattle.std.proofs.lemmas.Bool.{ne_eqb}
use Rattle.el_base.specs.Limits.{max_nesting}
use Rattle.el_base.specs.declared.span.Span.{Span}
use Rattle.el_base.specs.declared.ty.Ty.{Ty}
use Rattle.c_ast.specs.declared.token.Token.{Token}
use Rattle.c_ast.specs.declared.token.Word.{Word}
use Rattle.c_ast.specs.declared.token.Word.TheVariants as word
use Rattle.c_ast.specs.declared.key.Key.{Key}
use Rattle.c_ast.specs.declared.key.Key.TheVariants as key
use Rattle.c_ast.specs.declared.mark.Mark.{Mark}
use Rattle.c_ast.specs.declared.mark.Mark.TheVariants as mark
use Rattle.c_ast.specs.declared.tree.Unary.{Unary}
use Rattle.c_ast.specs.declared.tree.Binary.{Binary}
use Rattle.c_ast.specs.Derives.{marked, IsUnary}
use Rattle.c_parse.specs.declared.refusal.Stop.{Stop}
use Rattle.c_parse.specs.declared.refusal.Stop.TheVariants as stop
use Rattle.c_parse.specs.Tables.{operator_of, sign_of, plain_type, takes_int}
use Rattle.c_parse.specs.Symbols.{Symbol, Reduction, Fixed, Move, move, is_type_word, type_move, maybe_int_move, expression_move, sign_move, inside_move, operator_move, choice_move, indices_move, postfix_move, in_group}
use Rattle.c_parse.specs.Traces.{verdict}
use Rattle.c_parse.specs.Reads.{Operates, Signs, NamesType, MaySkip, mark_of, mark_at, key_of}
use Rattle.c_parse.specs.Stops.{Refuses, opens_operand, is_operand_at, is_type_at, is_type_behind, is_name, is_number, is_name_at, is_number_at, meaning, meaning_at}
use Rattle.c_parse.proofs.Judging.{judge_unfolds, judge_alike}
use Rattle.c_parse.proofs.Levels.{trace_unrolls, expression_stays}
use Rattle.c_parse.proofs.Starting.{type_stays}
use Rattle.c_parse.proofs.Looseness.{binds, operator_taken}
use Rattle.c_parse.proofs.Chains.{Same, Fails, same_then, same_takes, same_passes, passes_unless_mark, passes_unless_key, same_reduces, same_alike, deep_fails, refused_fails, refuses_as, marked_word}

-- ---- types

plain_taken : (n : ℕ) (k : Key) (t : Ty) → plain_type k ≡ Some t → takes_int k ≡ false → move (Symbol.a_type n) (word.Key k) ≡ Move.take n (Symbol.reduce Reduction.plain ∷ [])
plain_taken n key.Signed t e alone = absurd (cc)
plain_taken n key.Unsigned t e alone = absurd (cc)
plain_taken n k t e alone = ap (λ o. if is_some o then Move.take n (Symbol.reduce Reduction.plain ∷ []) else Move.stuck) e

int_taken : (n : ℕ) (k : Key) → takes_int k ≡ true → move (Symbol.a_type n) (word.Key k) ≡ Move.take n (Symbol.reduce Reduction.plain ∷ Symbol.maybe_int n ∷ [])
int_taken n key.Signed may = refl
int_taken n key.Unsigned may = refl
int_taken n k may = absurd (cc)

type_stuck : (n : ℕ) (w : Word) → is_type_word w ≡ false → type_move n w ≡ Move.stuck
type_stuck n (word.Key key.Signed) h = absurd (cc)
type_stuck n (word.Key key.Unsigned) h = absurd (cc)
type_stuck n (word.Key k) h = ap (λ b. if b then Move.take n (Symbol.reduce Reduction.plain ∷ []) else Move.stuck) h
type_stuck n w h = refl

int_passes : (n : ℕ) (w : Word) → (key_of w ≡ Some key.Int → ⊥) → maybe_int_move n w ≡ Move.pass
int_passes n (word.Key key.Int) other = absurd (other refl)
int_passes n w other = refl

same_maybe_int : (n : ℕ) (more : List Symbol) (before after : List Token) → n ≤ max_nesting → MaySkip before after → Same (Symbol.maybe_int n ∷ more) more before after
same_maybe_int n more before after small (MaySkip.none same other) = subst (λ us. Same (Symbol.maybe_int n ∷ more) more before us) same (passes_unless_key key.Int refl (int_passes n) other)
same_maybe_int n more before after small (MaySkip.int s split) = same_then (same_takes split refl small) same_reduces

pub same_type : {n : ℕ} {k : Key} {t : Ty} {more : List Symbol} {before after : List Token} → n ≤ max_nesting → NamesType k t before after → takes_int k ≡ false → Same (Symbol.a_type n ∷ more) more before after
same_type {n} {k} {t} small w alone = same_then (same_takes w.split (plain_taken n k t w.type alone) small) same_reduces

pub same_int_type : {n : ℕ} {k : Key} {t : Ty} {more : List Symbol} {before mid after : List Token} → n ≤ max_nesting → NamesType k t before mid → takes_int k ≡ true → MaySkip mid after → Same (Symbol.a_type n ∷ more) more before after
same_int_type {n} {k} {t} {more} {before} {mid} {after} small w may skip = same_then (same_takes w.split (int_taken n k may) small) (same_then same_reduces (same_maybe_int n more mid after small skip))

pub type_fails : {n : ℕ} {more : List Symbol} {before : List Token} {e : Stop} → Refuses (λ w. is_type_word w ≡ false) before e → Fails (Symbol.a_type n ∷ more) before e
type_fails {n} r = refused_fails refl (type_stuck n) r

-- ---- levels and operators

-- an expression of a level is one of the next with operators of the level behind it
pub same_unrolled : {n l : ℕ} {more : List Symbol} {ts : List Token} → l ≤ 10 → Same (Symbol.expression n l ∷ more) (Symbol.expression n (l + 1) ∷ Symbol.operators n l ∷ more) ts ts
same_unrolled {n} {l} {more} {ts} h =
    let next : suc l ≡ l + 1 = omega arith in
    subst (λ k. Same (Symbol.expression n l ∷ more) (Symbol.expression n k ∷ Symbol.operators n l ∷ more) ts ts) next (record { holds = λ symbols. ap verdict (trace_unrolls n l (more ++ symbols) [] ts h) })

pub same_operator : {op : Binary} {n l : ℕ} {more : List Symbol} {before after : List Token} → n ≤ max_nesting → Operates op l before after
    → Same (Symbol.operators n l ∷ more) (Symbol.expression n (l + 1) ∷ Symbol.reduce Reduction.joined ∷ Symbol.operators n l ∷ more) before after
same_operator {op} {n} {l} {more} {before} {after} small o =
    let next : suc l ≡ l + 1 = omega arith in
    subst (λ k. Same (Symbol.operators n l ∷ more) (Symbol.expression n k ∷ Symbol.reduce Reduction.joined ∷ Symbol.operators n l ∷ more) before after) next
    (same_takes o.split (operator_taken o.mark op l n (binds o.mark op l o.operator)) small)

other_passes : (n l : ℕ) (o : Option (Binary × ℕ)) → ((op : Binary) → o ≡ Some (op, l) → ⊥) → operator_move n l o ≡ Move.pass
other_passes n l None other = refl
other_passes n l (Some (op, k)) other =
    ap (λ b. if b then Move.take n (Symbol.expression n (suc l) ∷ Symbol.reduce Reduction.joined ∷ Symbol.operators n l ∷ []) else Move.pass) (ne_eqb k l (λ same. other op (ap (λ j. Some (op, j)) same)))

level_passes : (n l : ℕ) (w : Word) → 1 ≤ l → ((op : Binary) → meaning operator_of w ≡ Some (op, l) → ⊥) → move (Symbol.operators n l) w ≡ Move.pass
level_passes n zero w some other = absurd (omega arith)
level_passes n (suc k) (word.Mark m) some other = other_passes n (suc k) (operator_of m) other
level_passes n (suc k) w some other = refl

pub same_no_operator : {n l : ℕ} {more : List Symbol} {ts : List Token} → 1 ≤ l → ((op : Binary) → meaning_at operator_of ts ≡ Some (op, l) → ⊥) → Same (Symbol.operators n l ∷ more) more ts ts
same_no_operator {n} {l} some other = same_passes refl (λ t us split. level_passes n l t.word some (λ op is. other op (ap (λ ts. meaning_at operator_of ts) split ∙ is)))

choice_passes : (n : ℕ) (w : Word) → (mark_of w ≡ Some mark.Question → ⊥) → choice_move n w ≡ Move.pass
choice_passes n (word.Mark mark.Question) other = absurd (other refl)
choice_passes n w other = refl

pub same_no_choice : {n : ℕ} {more : List Symbol} {ts : List Token} → (mark_at ts ≡ Some mark.Question → ⊥) → Same (Symbol.operators n 0 ∷ more) more ts ts
same_no_choice {n} other = passes_unless_mark mark.Question refl (choice_passes n) other

pub same_choice : {n : ℕ} {more : List Symbol} {s : Span} {before after : List Token} → suc n ≤ max_nesting → before ≡ marked mark.Question s ∷ after
    → Same (Symbol.operators n 0 ∷ more) (Symbol.expression (suc n) 0 ∷ Symbol.fixed (suc n) Fixed.colon ∷ Symbol.expression (suc n) 0 ∷ Symbol.reduce Reduction.chosen ∷ more) before after
same_choice small split = same_takes split refl small

-- ---- operands

sign_taken : (n : ℕ) (m : Mark) (op : Unary) → IsUnary m op → move (Symbol.expression n 11) (word.Mark m) ≡ Move.take (suc n) (Symbol.expression (suc n) 11 ∷ Symbol.reduce Reduction.signed ∷ [])
sign_taken n m op IsUnary.plus = refl
sign_taken n m op IsUnary.minus = refl
sign_taken n m op IsUnary.flip = refl
sign_taken n m op IsUnary.negate = refl

pub same_signed : {op : Unary} {n : ℕ} {more : List Symbol} {s : Span} {before after : List Token} → suc n ≤ max_nesting → Signs op s before after
    → Same (Symbol.expression n 11 ∷ more) (Symbol.expression (suc n) 11 ∷ Symbol.reduce Reduction.signed ∷ more) before after
same_signed {op} {n} small o = same_takes o.split (sign_taken n o.mark op o.operator) small

pub signed_deep : {op : Unary} {n : ℕ} {more : List Symbol} {s : Span} {before after : List Token} {e : Stop} → Signs op s before after → n ≡ max_nesting → e ≡ stop.TooDeep s → Fails (Symbol.expression n 11 ∷ more) before e
signed_deep {op} {n} o full told = deep_fails o.split (sign_taken n o.mark op o.operator) full told

-- a word that is no sign and by which no operand begins
pub record NoSign (w : Word) : Type 0 where
  pub operand : opens_operand w ≡ false
  pub sign : meaning sign_of w ≡ None

sign_stuck : (n : ℕ) (w : Word) → NoSign w → expression_move n 11 w ≡ Move.stuck
sign_stuck n (word.Name x) h = absurd (let no : opens_operand (word.Name x) ≡ false = h.operand in cc)
sign_stuck n (word.Number v t) h = absurd (let no : opens_operand (word.Number v t) ≡ false = h.operand in cc)
sign_stuck n (word.Mark mark.Open) h = absurd (let no : opens_operand (word.Mark mark.Open) ≡ false = h.operand in cc)
sign_stuck n (word.Mark m) h = ap (sign_move n 11) h.sign
sign_stuck n (word.Key k) h = refl

pub sign_fails : {n : ℕ} {more : List Symbol} {before : List Token} {e : Stop} → is_operand_at before ≡ false → Refuses (λ w. meaning sign_of w ≡ None) before e → Fails (Symbol.expression n 11 ∷ more) before e
sign_fails {n} none r = refused_fails {Misfits = NoSign} refl (sign_stuck n) (refuses_as (λ t us split h. record { operand = ap is_operand_at (sym split) ∙ none; sign = h }) r)

-- a number is taken
pub number_taken : (n v : ℕ) (ty : Ty) (w : Word) → w ≡ word.Number v ty → move (Symbol.a_number n) w ≡ Move.take n []
number_taken n v ty w is = ap (λ x. move (Symbol.a_number n) x) is

pub no_operand : (ts : List Token) → is_name_at ts ≡ false → is_number_at ts ≡ false → (mark_at ts ≡ Some mark.Open → ⊥) → is_operand_at ts ≡ false
no_operand ts x v m = by ts x v m
  where
    by_word : (w : Word) → is_name w ≡ false → is_number w ≡ false → (mark_of w ≡ Some mark.Open → ⊥) → opens_operand w ≡ false
    by_word (word.Name x) x' v m = absurd (cc)
    by_word (word.Number n t) x v m = absurd (cc)
    by_word (word.Mark mark.Open) x v m = absurd (m refl)
    by_word w x v m = refl

    by : (us : List Token) → is_name_at us ≡ false → is_number_at us ≡ false → (mark_at us ≡ Some mark.Open → ⊥) → is_operand_at us ≡ false
    by [] x v m = refl
    by (t ∷ us) x v m = by_word t.word x v m

-- an operand that begins by a number, a name or an opening parenthesis
number_alike : (n : ℕ) (t : Token) (us : List Token) (w : Word) → t.word ≡ w → is_number w ≡ true → Same (Symbol.expression n 11 ∷ []) (Symbol.a_number n ∷ []) (t ∷ us) (t ∷ us)
number_alike n t us (word.Number v ty) is h = same_alike refl (ap (λ w. move (Symbol.expression n 11) w) is) (ap (λ w. move (Symbol.a_number n) w) is) same_reduces
number_alike n t us w is h = absurd (cc)

name_alike : (n : ℕ) (t : Token) (us : List Token) (w : Word) → t.word ≡ w → is_name w ≡ true
    → Same (Symbol.expression n 11 ∷ []) (Symbol.a_name n ∷ Symbol.postfix n ∷ Symbol.reduce Reduction.named ∷ []) (t ∷ us) (t ∷ us)
name_alike n t us (word.Name x) is h = same_alike refl (ap (λ w. move (Symbol.expression n 11) w) is) (ap (λ w. move (Symbol.a_name n) w) is) same_reduces
name_alike n t us w is h = absurd (cc)

pub same_as_number : {n : ℕ} {ts : List Token} → is_number_at ts ≡ true → Same (Symbol.expression n 11 ∷ []) (Symbol.a_number n ∷ []) ts ts
same_as_number {n} {ts} h = by ts h
  where
    by : (us : List Token) → is_number_at us ≡ true → Same (Symbol.expression n 11 ∷ []) (Symbol.a_number n ∷ []) us us
    by [] h = absurd (cc)
    by (t ∷ us) h = number_alike n t us t.word refl h

pub same_as_name : {n : ℕ} {ts : List Token} → is_name_at ts ≡ true → Same (Symbol.expression n 11 ∷ []) (Symbol.a_name n ∷ Symbol.postfix n ∷ Symbol.reduce Reduction.named ∷ []) ts ts
same_as_name {n} {ts} h = by ts h
  where
    by : (us : List Token) → is_name_at us ≡ true → Same (Symbol.expression n 11 ∷ []) (Symbol.a_name n ∷ Symbol.postfix n ∷ Symbol.reduce Reduction.named ∷ []) us us
    by [] h = absurd (cc)
    by (t ∷ us) h = name_alike n t us t.word refl h

-- what stands behind an opening parenthesis: a cast where a type comes next, and else a group
inside_cast : (n : ℕ) (ts : List Token) → is_type_at ts ≡ true
    → Same (Symbol.inside n ∷ []) (Symbol.a_type n ∷ Symbol.fixed n Fixed.closing ∷ Symbol.expression n 11 ∷ Symbol.reduce Reduction.cast ∷ []) ts ts
inside_cast n [] h = absurd (cc)
inside_cast n (t ∷ us) h = record {
  holds = λ symbols. judge_unfolds (Symbol.inside n) (Symbol.a_type n) (Symbol.fixed n Fixed.closing ∷ Symbol.expression n 11 ∷ Symbol.reduce Reduction.cast ∷ []) symbols t us
      (ap (λ b. inside_move n b t.word) h) (type_stays n t.word);
}

inside_group : (n : ℕ) (ts : List Token) → is_type_at ts ≡ false → Same (Symbol.inside n ∷ []) (Symbol.expression n 0 ∷ Symbol.fixed n Fixed.closing ∷ Symbol.reduce Reduction.group ∷ []) ts ts
inside_group n [] h = record { holds = λ symbols. refl }
inside_group n (t ∷ us) h = record {
  holds = λ symbols. judge_unfolds (Symbol.inside n) (Symbol.expression n 0) (Symbol.fixed n Fixed.closing ∷ Symbol.reduce Reduction.group ∷ []) symbols t us
      (ap (λ b. inside_move n b t.word) h) (expression_stays n 0 t.word);
}

same_as_opened : (n : ℕ) (others : List Symbol) (ts : List Token) → mark_at ts ≡ Some mark.Open → ((t : Token) (us : List Token) → ts ≡ t ∷ us → Same (Symbol.inside (suc n) ∷ []) others us us)
    → Same (Symbol.expression n 11 ∷ []) (Symbol.fixed (suc n) Fixed.opening ∷ others) ts ts
same_as_opened n others [] h f = absurd (cc)
same_as_opened n others (t ∷ us) h f =
    let is : t.word ≡ word.Mark mark.Open = marked_word t.word mark.Open h in
    same_alike refl (ap (λ w. move (Symbol.expression n 11) w) is) (ap (λ w. move (Symbol.fixed (suc n) Fixed.opening) w) is) (f t us refl)

pub same_as_cast : {n : ℕ} {ts : List Token} → mark_at ts ≡ Some mark.Open → is_type_behind ts ≡ true
    → Same (Symbol.expression n 11 ∷ []) (Symbol.fixed (suc n) Fixed.opening ∷ Symbol.a_type (suc n) ∷ Symbol.fixed (suc n) Fixed.closing ∷ Symbol.expression (suc n) 11 ∷ Symbol.reduce Reduction.cast ∷ []) ts ts
same_as_cast {n} {ts} h behind = same_as_opened n _ ts h (λ t us split. inside_cast (suc n) us (ap is_type_behind (sym split) ∙ behind))

pub same_as_group : {n : ℕ} {ts : List Token} → mark_at ts ≡ Some mark.Open → is_type_behind ts ≡ false
    → Same (Symbol.expression n 11 ∷ []) (in_group (suc n) (Symbol.reduce Reduction.group ∷ [])) ts ts
same_as_group {n} {ts} h behind = same_as_opened n _ ts h (λ t us split. inside_group (suc n) us (ap is_type_behind (sym split) ∙ behind))

-- ---- indices

indices_pass : (n : ℕ) (w : Word) → (mark_of w ≡ Some mark.OpenBracket → ⊥) → indices_move n w ≡ Move.pass
indices_pass n (word.Mark mark.OpenBracket) other = absurd (other refl)
indices_pass n w other = refl

pub same_no_index : {n : ℕ} {more : List Symbol} {ts : List Token} → (mark_at ts ≡ Some mark.OpenBracket → ⊥) → Same (Symbol.indices n ∷ more) more ts ts
same_no_index {n} other = passes_unless_mark mark.OpenBracket refl (indices_pass n) other

pub same_index : {n : ℕ} {more : List Symbol} {s : Span} {before after : List Token} → suc n ≤ max_nesting → before ≡ marked mark.OpenBracket s ∷ after
    → Same (Symbol.indices n ∷ more) (Symbol.expression (suc n) 0 ∷ Symbol.fixed (suc n) Fixed.closing_bracket ∷ Symbol.reduce Reduction.index ∷ Symbol.indices n ∷ more) before after
same_index small split = same_takes split refl small

-- ---- what follows a name

index_or_none : (n : ℕ) (w : Word) → (mark_of w ≡ Some mark.Open → ⊥) → postfix_move n w ≡ indices_move n w
index_or_none n (word.Mark mark.Open) other = absurd (other refl)
index_or_none n w other = refl

-- where no parenthesis comes next, indices do, or nothing
pub same_as_indices : {n : ℕ} {more : List Symbol} {ts : List Token} → (mark_at ts ≡ Some mark.Open → ⊥) → Same (Symbol.postfix n ∷ more) (Symbol.indices n ∷ more) ts ts
same_as_indices {n} {more} {ts} other = by ts other
  where
    by : (us : List Token) → (mark_at us ≡ Some mark.Open → ⊥) → Same (Symbol.postfix n ∷ more) (Symbol.indices n ∷ more) us us
    by [] other = record { holds = λ symbols. refl }
    by (t ∷ us) other = record { holds = λ symbols. judge_alike (Symbol.postfix n) (Symbol.indices n) (more ++ symbols) t us (index_or_none n t.word other) }

pub same_call : {n : ℕ} {more : List Symbol} {s : Span} {before after : List Token} → suc n ≤ max_nesting → before ≡ marked mark.Open s ∷ after
    → Same (Symbol.postfix n ∷ more) (Symbol.arguments (suc n) ∷ more) before after
same_call small split = same_takes split refl small
