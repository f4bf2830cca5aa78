-- What the run of a normal form counts: its jumps and its price. Each part counts when it is evaluated or started; && and || and ?: count all their parts.
use Rattle.std.specs.Prelude.{◌≡◌, ℕ, zero, suc, ◌+◌, List, [], ◌∷◌, map, flat_map, ℤ, Bool, true, false, Option, Some, None}
use mathlib.Core.Former.{Count}
use Rattle.c_ast.specs.declared.tree.Binary.{Binary}
use Rattle.c_ast.specs.declared.tree.Family.{Family}
use Rattle.c_ast.specs.declared.tree.Family.TheVariants.{Arithmetic, Shift, Bits, Comparison, Logical}
use Rattle.c_ast.specs.ResultTypes.{family}
use Rattle.c_ast.specs.declared.typed.TypedTarget.{TypedTarget}
use Rattle.c_ast.specs.declared.typed.TypedExpr.{TypedExpr}
use Rattle.c_ast.specs.declared.typed.TypedExprKind.{TypedExprKind, Row_of-TypedExpr, end_of-TypedExpr, more_of-TypedExpr}
use Rattle.c_ast.specs.declared.typed.TypedExprKind as tree
use Rattle.c_ast.specs.declared.normal.Normal.{Normal}
use Rattle.c_ast.specs.declared.normal.NormalStmt.{NormalStmt}
use Rattle.c_ast.specs.declared.normal.NormalStmtKind.{NormalStmtKind, Row_of-NormalStmt, end_of-NormalStmt, more_of-NormalStmt, Held-NormalStmtKind-If-3}
use Rattle.c_ast.specs.declared.normal.NormalStmtKind as act
use Rattle.c_ast.specs.declared.normal.NormalStmtKind.TheOpen.{NormalStmtKind-F, Block, Declare, Assign, If, While, DoWhile, For, Break, Continue, Return, Empty}
use Rattle.c_meaning.specs.declared.profile.Profile.{Profile}
use Rattle.c_meaning.specs.Operators.{is_zero}
use Rattle.c_meaning.specs.Stores.{Store, Objects, Inputs, opening, unset_vars}
use Rattle.c_meaning.specs.Expressions.{Val, undefined_value, value, Meaning, meaning}
use Rattle.c_meaning.specs.Runs.{How, normally, by_break, by_continue, by_return, undefined, out_of_turns, Run}
use Rattle.c_meaning.specs.Statements.{Act, in_order, nothing, part, condition, meant_if_any}
use Rattle.c_meaning.specs.Normals.{normal_kind_act, normal_act, normal_does, normal_objects, normal_run}
use Rattle.c_meaning.specs.Bounds.{IsOver}

-- ---- the price of expressions

-- what an operator costs besides its node: 1 for a shift, and 2 for each side of && and ||
abbrev pub price_of_family : Family → ℕ
price_of_family Arithmetic = 0
price_of_family Shift = 1
price_of_family Bits = 0
price_of_family Comparison = 0
price_of_family Logical = 4

abbrev pub operator_price : Binary → ℕ
operator_price op = price_of_family (family op)

abbrev mutual
  -- 1 for each node, casts that are implied among them, and 2 more for the first part of ?:
  pub kind_price : TypedExprKind → ℕ
  kind_price (tree.Number n) = 1
  kind_price (tree.Var v) = 1
  kind_price (tree.Element' a n row) = 1 + indices_price row
  kind_price (tree.Unary' op b (more_of-TypedExpr e t at end_of-TypedExpr)) = 1 + kind_price e
  kind_price (tree.Cast' implied b (more_of-TypedExpr e t at end_of-TypedExpr)) = 1 + kind_price e
  kind_price (tree.Binary' op b (more_of-TypedExpr e t at end_of-TypedExpr) b2 (more_of-TypedExpr e2 t2 at2 end_of-TypedExpr)) = 1 + operator_price op + kind_price e + kind_price e2
  kind_price (tree.Choose' b (more_of-TypedExpr e t at end_of-TypedExpr) b2 (more_of-TypedExpr e2 t2 at2 end_of-TypedExpr) b3 (more_of-TypedExpr e3 t3 at3 end_of-TypedExpr)) =
      3 + kind_price e + kind_price e2 + kind_price e3

  -- 4 more for each index
  pub indices_price : {n : Count} → Row_of-TypedExpr n → ℕ
  indices_price end_of-TypedExpr = 0
  indices_price (more_of-TypedExpr e t at row) = 4 + kind_price e + indices_price row

abbrev pub expr_price : TypedExpr → ℕ
expr_price e = kind_price e.kind

abbrev pub option_price : Option TypedExpr → ℕ
option_price None = 0
option_price (Some e) = expr_price e

abbrev pub target_price : List TypedExpr → ℕ
target_price [] = 1
target_price (e ∷ es) = 4 + expr_price e + target_price es

-- an assignment, its target and its value
abbrev pub assignment_price : TypedTarget → TypedExpr → ℕ
assignment_price target e = 1 + target_price target.indices + expr_price e

-- ---- counting along a run

pub record Tally : Type 0 where
  pub jumps : ℕ
  pub price : ℕ

abbrev pub tally : ℕ → ℕ → Tally
tally j p = record { jumps = j; price = p }

abbrev pub both_tallies : Tally → Tally → Tally
both_tallies a b = tally (a.jumps + b.jumps) (a.price + b.price)

-- what is counted from a store with so many turns
abbrev pub Counting : Type 0
Counting = Store → ℕ → Tally

-- so much whatever follows
abbrev pub counting : Tally → Counting → Counting
counting t c s n = both_tallies t (c s n)

abbrev pub only : Tally → Counting
only t s n = t

-- t turns are taken first
abbrev pub counting_after : ℕ → Counting → Counting
counting_after zero c s n = c s n
counting_after (suc t) c s zero = tally 0 0
counting_after (suc t) c s (suc n) = counting_after t c s n

-- a run with what it counts
pub record Counted : Type 0 where
  pub act : Act
  pub counts : Counting

abbrev pub run_of : Counted → Run
run_of a = a.act.run

-- what follows is counted where the run before it ended normally
abbrev pub where_normal : How → Counting → Counting
where_normal normally c s n = c s n
where_normal by_break c s n = tally 0 0
where_normal by_continue c s n = tally 0 0
where_normal (by_return v) c s n = tally 0 0
where_normal (undefined at) c s n = tally 0 0
where_normal out_of_turns c s n = tally 0 0

abbrev pub counts_both : Run → Counting → Counting → Counting
counts_both run c d s n = let e = run s n in both_tallies (c s n) (where_normal e.how d e.store e.left)

-- one after another
abbrev pub counts_in_order : List Counted → Counting
counts_in_order [] s n = tally 0 0
counts_in_order (a ∷ rest) s n = counts_both (run_of a) a.counts (counts_in_order rest) s n

abbrev pub acts_of : List Counted → List Act
acts_of parts = map (λ a. a.act) parts

-- what follows the value of an expression
abbrev pub with_counts : Val → (ℤ → Counting) → Counting
with_counts (undefined_value at) next s n = tally 0 0
with_counts (value x t) next s n = counting_after t (next x) s n

abbrev pub counts_of : Bool → Counting → Counting → Counting
counts_of true a b s n = a s n
counts_of false a b s n = b s n

-- what stands before a condition, the condition with its 2 jumps and its price and 2 more, and one of two; an absent condition has no node
abbrev pub counts_branch : List Counted → ℕ → Meaning → Counting → Counting → Counting
counts_branch before p cond yes_part no_part =
    counts_both (in_order (acts_of before)) (counts_in_order before)
    (counting_after 1 (counting (tally 2 (p + 2)) (λ s n. with_counts (cond s) (λ x. counts_of (is_zero x) no_part yes_part) s n)))

-- after the body of a loop it goes on where the body ended normally or by continue
abbrev pub where_looped : How → Counting → Counting
where_looped normally c s n = c s n
where_looped by_continue c s n = c s n
where_looped by_break c s n = tally 0 0
where_looped (by_return v) c s n = tally 0 0
where_looped (undefined at) c s n = tally 0 0
where_looped out_of_turns c s n = tally 0 0

-- a block, or the scope of a for, unsets the variables declared directly in it
abbrev pub counts_entering : List Counted → Counting → Counting
counts_entering parts c s n = c (unset_vars (flat_map (λ a. a.declares) (acts_of parts)) s) n

-- a part of if, the body of a loop or the step of a for is a block
abbrev pub counts_part : Counted → Counting
counts_part a = counts_entering (a ∷ []) a.counts

abbrev pub counts_looped : Counted → Counting → Counting
counts_looped body c s n = let e = part body.act s n in both_tallies (counts_part body s n) (where_looped e.how c e.store e.left)

-- a step that is started is a jump
abbrev pub step_run : Option Counted → Run
step_run None = nothing
step_run (Some a) = part a.act

abbrev pub step_counts : Option Counted → Counting
step_counts None = only (tally 0 0)
step_counts (Some a) = counting (tally 1 0) (counts_part a)

abbrev pub counts_rounds : ℕ → List Counted → ℕ → Meaning → Counted → Option Counted → Counting
counts_rounds zero before p cond body step s n = tally 0 0
counts_rounds (suc r) before p cond body step s n =
    counts_branch before p cond (counts_looped body (counts_both (step_run step) (step_counts step) (counts_rounds r before p cond body step))) (only (tally 0 0)) s n

abbrev pub counts_loop : List Counted → ℕ → Meaning → Counted → Option Counted → Counting
counts_loop before p cond body step s n = counts_rounds (suc n) before p cond body step s n

abbrev pub counts_if_any : Option Counted → Counting
counts_if_any None = only (tally 0 0)
counts_if_any (Some a) = counts_part a

-- ---- statements: each takes a turn first

abbrev pub counts_step : Objects → NormalStmtKind-F Counted Counted → Counting
counts_step k (Block body) = counting_after 1 (counts_entering body (counts_in_order body))
counts_step k (Declare v init) = counting_after 1 (only (tally 0 (option_price init)))
counts_step k (Assign target e) = counting_after 1 (only (tally 0 (assignment_price target e)))
counts_step k (If before cond yes_part no_part) = counting_after 1 (counts_branch before (expr_price cond) (meaning k cond) (counts_part yes_part) (counts_if_any no_part))
counts_step k (While before cond body) = counting_after 1 (counts_loop before (expr_price cond) (meaning k cond) body None)
counts_step k (DoWhile body before cond) =
    counting_after 1 (counting (tally 1 0) (counts_looped body (counts_loop before (expr_price cond) (meaning k cond) body None)))
counts_step k (For first before cond step body) =
    counting_after 1 (counts_entering first (counts_both (in_order (acts_of first)) (counts_in_order first) (counts_loop before (option_price cond) (condition (meant_if_any k cond)) body step)))
counts_step k Break = counting_after 1 (only (tally 1 0))
counts_step k Continue = counting_after 1 (only (tally 1 0))
counts_step k (Return e) = counting_after 1 (only (tally 1 (option_price e)))
counts_step k Empty = counting_after 1 (only (tally 0 0))

-- ---- whole trees: one layer after another

abbrev mutual
  pub kind_counts : Objects → NormalStmtKind → Counting
  kind_counts k (act.Block' n row) = counts_step k (Block (row_counted k row))
  kind_counts k (act.Declare v init) = counts_step k (Declare v init)
  kind_counts k (act.Assign target e) = counts_step k (Assign target e)
  kind_counts k (act.If' n before cond b (more_of-NormalStmt s at end_of-NormalStmt) no_part) =
      counts_step k (If (row_counted k before) cond (record { act = normal_kind_act k s; counts = kind_counts k s }) (counted_if_any k no_part))
  kind_counts k (act.While' n before cond b (more_of-NormalStmt s at end_of-NormalStmt)) =
      counts_step k (While (row_counted k before) cond (record { act = normal_kind_act k s; counts = kind_counts k s }))
  kind_counts k (act.DoWhile' b (more_of-NormalStmt s at end_of-NormalStmt) n before cond) =
      counts_step k (DoWhile (record { act = normal_kind_act k s; counts = kind_counts k s }) (row_counted k before) cond)
  kind_counts k (act.For' n first m before cond step b (more_of-NormalStmt s at end_of-NormalStmt)) =
      counts_step k (For (row_counted k first) (row_counted k before) cond (counted_if_any k step) (record { act = normal_kind_act k s; counts = kind_counts k s }))
  kind_counts k act.Break = counts_step k Break
  kind_counts k act.Continue = counts_step k Continue
  kind_counts k (act.Return e) = counts_step k (Return e)
  kind_counts k act.Empty = counts_step k Empty

  pub counted_if_any : Objects → Held-NormalStmtKind-If-3 → Option Counted
  counted_if_any k act.None' = None
  counted_if_any k (act.Some' b (more_of-NormalStmt s at end_of-NormalStmt)) = Some (record { act = normal_kind_act k s; counts = kind_counts k s })

  pub row_counted : Objects → {n : Count} → Row_of-NormalStmt n → List Counted
  row_counted k end_of-NormalStmt = []
  row_counted k (more_of-NormalStmt s at row) = record { act = normal_kind_act k s; counts = kind_counts k s } ∷ row_counted k row

abbrev pub counted : Objects → NormalStmt → Counted
counted k s = record { act = normal_act k s; counts = kind_counts k s.kind }

-- what the block of a normal form counts from its opening store, within n turns
abbrev pub normal_tally : Normal → Profile → Inputs → ℕ → Tally
normal_tally k p i n =
    let parts = map (counted (normal_objects p k)) k.body in
    counting_after 1 (counts_entering parts (counts_in_order parts)) (opening (normal_objects p k) i) n

-- a run that is over has so many jumps and this price
pub record NormalCosts (k : Normal) (p : Profile) (i : Inputs) (jumps price : ℕ) : Type 0 where
  pub bound : ℕ
  pub over : IsOver (normal_run k p i bound).how
  pub all_jumps : (normal_tally k p i bound).jumps ≡ jumps
  pub whole_price : (normal_tally k p i bound).price ≡ price

-- the jumps and the price of a run that is over are one pair of numbers, whatever the bound
abbrev pub CostsAreOne : Type 0
CostsAreOne = (k : Normal) (p : Profile) (i : Inputs) (j l c d : ℕ) → NormalCosts k p i j c → NormalCosts k p i l d → (j ≡ l) × (c ≡ d)

-- a statement that is over within some turns counts the same jumps and the same price within more
abbrev pub StatementsKeepCosts : Type 0
StatementsKeepCosts = (k : Objects) (x : NormalStmt) (s : Store) (n m : ℕ) → IsOver (normal_does k x s n).how → (counted k x).counts s (n + m) ≡ (counted k x).counts s n
