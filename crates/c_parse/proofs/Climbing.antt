-- Operators of several levels that one loop reads.
use Rattle.std.proofs.Common.{◌≡◌, ℕ, zero, suc, ◌+◌, ◌-◌, ◌≤◌, ◌<◌, List, [], ◌∷◌, ◌++◌, Some, inl, inr, arith, refl, sym, ◌∙◌, ap, subst, append_assoc}
use Rattle.std.specs.Prelude.{◌⊎◌}
use Rattle.std.proofs.lemmas.Bool.{cases_lt}
use Rattle.std.proofs.lemmas.Option.{same_Some}
use Rattle.el_base.specs.Limits.{max_nesting}
use Rattle.c_ast.specs.declared.token.Token.{Token}
use Rattle.c_ast.specs.declared.mark.Mark.{Mark}
use Rattle.c_ast.specs.declared.tree.Binary.{Binary}
use Rattle.c_ast.specs.declared.tree.Expr.{Expr}
use Rattle.c_ast.specs.Derives.{DerivesExpr}
use Rattle.c_parse.specs.declared.refusal.Stop.{Stop}
use Rattle.c_parse.specs.Reads.{Reads, Operates}
use Rattle.c_parse.specs.Stops.{IsLooserAt, meaning_at}
use Rattle.c_parse.specs.Symbols.{Symbol, Reduction, looser, tails}
use Rattle.c_parse.specs.Tables.{operator_of}
use Rattle.c_parse.specs.Traces.{judge}
use Rattle.c_parse.specs.Verdicts.{Tells}
use Rattle.c_parse.proofs.Rules.{operator_is}
use Rattle.c_parse.proofs.Looseness.{binds}
use Rattle.c_parse.proofs.Chains.{Same, Fails, same_done, same_then, fails_then, same_part, part_fails, same_reduces}
use Rattle.c_parse.proofs.JudgedExprs.{same_unrolled, same_operator, same_no_operator}

-- ---- what derives at a level derives at each looser one

derives_looser : (d l k : ℕ) (ts : List Token) (e : Expr) → k ≡ l + d → k ≤ 12 → DerivesExpr k ts e → DerivesExpr l ts e
derives_looser zero l k ts e more most x = let same : k ≡ l = omega arith in subst (λ n. DerivesExpr n ts e) same x
derives_looser (suc d) l k ts e more most x =
    let next : k ≡ suc (l + d) = omega arith in
    derives_looser d l (l + d) ts e refl (omega arith) (DerivesExpr.tighter (l + d) ts e (omega arith) (subst (λ n. DerivesExpr n ts e) next x))

pub reads_looser : (l k : ℕ) (e : Expr) (before after : List Token) → l ≤ k → k ≤ 12 → Reads (λ ts. DerivesExpr k ts e) before after → Reads (λ ts. DerivesExpr l ts e) before after
reads_looser l k e before after below most r = record { used = r.used; split = r.split; derived = derives_looser (k - l) l k r.used e (omega arith) most r.derived }

-- ---- the operator that comes next

pub known_level : (m : Mark) (op : Binary) (l : ℕ) → operator_of m ≡ Some (op, l) → l ≤ 10
known_level m op l is = (binds m op l (operator_is m op l is)).most

pub operates_as : {op : Binary} {l : ℕ} {before after : List Token} → Operates op l before after → meaning_at operator_of before ≡ Some (op, l)
operates_as {op} {l} o = ap (λ ts. meaning_at operator_of ts) o.split ∙ (binds o.mark op l o.operator).known

operates_below : {op : Binary} {l : ℕ} {before after : List Token} → Operates op l before after → IsLooserAt (l + 1) before
operates_below {op} {l} o = λ other k is. let same : l ≡ k = ap (λ p. p.1) (same_Some {A = Binary × ℕ} (op, l) (other, k) (sym (operates_as o) ∙ is)) in omega arith

-- ---- levels

unrolled_to : {n : ℕ} (d l : ℕ) {more : List Symbol} {ts : List Token} → l + d ≡ 11 → Same (Symbol.expression n l ∷ more) (Symbol.expression n 11 ∷ (looser n d ++ more)) ts ts
unrolled_to {n} zero l {more} {ts} all = let same : l ≡ 11 = omega arith in subst (λ k. Same (Symbol.expression n l ∷ more) (Symbol.expression n k ∷ more) ts ts) same same_done
unrolled_to {n} (suc d) l {more} {ts} all =
    let at : l ≡ 10 - d = omega arith in
    let joined : looser n d ++ Symbol.operators n l ∷ more ≡ (looser n d ++ Symbol.operators n (10 - d) ∷ []) ++ more =
    ap (λ k. looser n d ++ Symbol.operators n k ∷ more) at ∙ sym (append_assoc (looser n d) (Symbol.operators n (10 - d) ∷ []) more) in
    let first : Same (Symbol.expression n l ∷ more) (Symbol.expression n (l + 1) ∷ Symbol.operators n l ∷ more) ts ts = same_unrolled (omega arith) in
    subst (λ us. Same (Symbol.expression n l ∷ more) (Symbol.expression n 11 ∷ us) ts ts) joined (same_then first (unrolled_to d (l + 1) (omega arith)))

-- an expression of a level is an operand with operators of all levels from 10 down to this behind it
pub same_climbed : {n l : ℕ} {more : List Symbol} {ts : List Token} → l ≤ 11 → Same (Symbol.expression n l ∷ more) (Symbol.expression n 11 ∷ (tails n l ++ more)) ts ts
same_climbed {n} {l} most = unrolled_to (11 - l) l (omega arith)

levels_pass : (n d l : ℕ) {more : List Symbol} {ts : List Token} → 1 ≤ l → l + d ≤ 11 → IsLooserAt l ts → Same (looser n d ++ more) more ts ts
levels_pass n zero l some most loose = same_done
levels_pass n (suc d) l {more} {ts} some most loose =
    let one : Same (Symbol.operators n (10 - d) ∷ more) more ts ts = same_no_operator (omega arith) (λ op is. let below : 10 - d < l = loose op (10 - d) is in omega arith) in
    subst (λ us. Same us more ts ts) (sym (append_assoc (looser n d) (Symbol.operators n (10 - d) ∷ []) more)) (same_then (levels_pass n d l some (omega arith) loose) one)

-- all of them are passed over where no operator of the level or a tighter one comes next
pub same_no_tails : (n l : ℕ) {more : List Symbol} {ts : List Token} → 1 ≤ l → l ≤ 11 → IsLooserAt l ts → Same (tails n l ++ more) more ts ts
same_no_tails n l some most loose = levels_pass n (11 - l) l some (omega arith) loose

back : {p q : List Symbol} {a : List Token} → Same p q a a → Same q p a a
back f = record { holds = λ symbols. sym (f.holds symbols) }

-- the operators from 10 down to a level, taken apart at a level between
record Apart (n d tier : ℕ) : Type 0 where
  lower : List Symbol
  is : looser n d ≡ looser n (10 - tier) ++ Symbol.operators n tier ∷ lower

apart_by : (n d tier : ℕ) → tier ≤ 10 → 11 ≤ tier + suc d → (11 ≤ tier + d → Apart n d tier) → ((tier + d < 11) ⊎ (11 ≤ tier + d)) → Apart n (suc d) tier
apart_by n d tier most least before (inl last) =
    let level : 10 - d ≡ tier = omega arith in
    let above : d ≡ 10 - tier = omega arith in
    record { lower = []; is = ap (λ k. looser n d ++ Symbol.operators n k ∷ []) level ∙ ap (λ k. looser n k ++ Symbol.operators n tier ∷ []) above }
apart_by n d tier most least before (inr more) =
    let r : Apart n d tier = before more in
    let end : List Symbol = Symbol.operators n (10 - d) ∷ [] in
    record { lower = r.lower ++ end; is = ap (λ us. us ++ end) r.is ∙ append_assoc (looser n (10 - tier)) (Symbol.operators n tier ∷ r.lower) end }

apart : (n d tier : ℕ) → tier ≤ 10 → 11 ≤ tier + d → Apart n d tier
apart n zero tier most least = absurd (omega arith)
apart n (suc d) tier most least = apart_by n d tier most least (apart n d tier most) (cases_lt (tier + d) 11)

-- an operator of a level between was read
pub record Climbs (n l tier : ℕ) (more : List Symbol) (before after : List Token) : Type 0 where
  pub behind : List Symbol
  pub taken : Same (tails n l ++ more) (Symbol.expression n (tier + 1) ∷ Symbol.reduce Reduction.joined ∷ behind) before after
  pub again : (ts : List Token) → IsLooserAt (tier + 1) ts → Same behind (tails n l ++ more) ts ts

pub climbs : {op : Binary} {n l tier : ℕ} {more : List Symbol} {before after : List Token} → n ≤ max_nesting → l ≤ tier → tier ≤ 10 → Operates op tier before after → Climbs n l tier more before after
climbs {op} {n} {l} {tier} {more} {before} {after} small above most o =
    let r : Apart n (11 - l) tier = apart n (11 - l) tier most (omega arith) in
    let front : List Symbol = looser n (10 - tier) in
    let behind : List Symbol = Symbol.operators n tier ∷ (r.lower ++ more) in
    let is : tails n l ++ more ≡ front ++ behind = ap (λ us. us ++ more) r.is ∙ append_assoc front (Symbol.operators n tier ∷ r.lower) more in
    let passed : (ts : List Token) → IsLooserAt (tier + 1) ts → Same (front ++ behind) behind ts ts = λ ts loose. levels_pass n (10 - tier) (tier + 1) (omega arith) (omega arith) loose in
    record {
      behind = behind;
      taken = subst (λ us. Same us (Symbol.expression n (tier + 1) ∷ Symbol.reduce Reduction.joined ∷ behind) before after) (sym is) (same_then (passed before (operates_below o)) (same_operator small o));
      again = λ ts loose. subst (λ us. Same behind us ts ts) (sym is) (back (passed ts loose));
    }

-- its right side was read, or refused
pub same_right : {n l tier : ℕ} {more : List Symbol} {a b c : List Token} → Climbs n l tier more a b → ((symbols : List Symbol) → judge (Symbol.expression n (tier + 1) ∷ symbols) b ≡ judge symbols c) → IsLooserAt (tier + 1) c
    → Same (tails n l ++ more) (tails n l ++ more) a c
same_right {n} {l} {tier} {more} {a} {b} {c} k right loose = same_then k.taken (same_then (same_part (Symbol.expression n (tier + 1) ∷ []) right) (same_then same_reduces (k.again c loose)))

pub right_fails : {n l tier : ℕ} {more : List Symbol} {a b : List Token} {e : Stop} → Climbs n l tier more a b → ((symbols : List Symbol) → Tells e (judge (Symbol.expression n (tier + 1) ∷ symbols) b))
    → Fails (tails n l ++ more) a e
right_fails {n} {l} {tier} {more} {a} {b} {e} k right = fails_then k.taken (part_fails (Symbol.expression n (tier + 1) ∷ []) (Symbol.reduce Reduction.joined ∷ k.behind) right)
