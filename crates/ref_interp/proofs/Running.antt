-- Runs on machines, by the combinators of the meaning.
use Rattle.std.proofs.Common.{◌≡◌, ℕ, zero, suc, ◌+◌, ◌<◌, ◌≤◌, List, ◌∷◌, map, drop, length, get_or, Option, refl, sym, ◌∙◌, ap, subst, arith}
use Rattle.std.specs.Prelude.{Bool, true, false, All, pos}
use Rattle.std.proofs.Math.Seq.{drop-cons}
use Rattle.std.proofs.lemmas.List.{drop_all}
use Rattle.std.proofs.lemmas.List.Elements.{All-get_or}
use Rattle.el_base.specs.declared.ty.Ty.{Ty}
use Rattle.el_base.specs.Numbers.{number}
use Rattle.c_ast.specs.declared.typed.TypedStmt.{TypedStmt}
use Rattle.c_ast.specs.declared.typed.TypedStmtKind.{TypedStmtKind, end_of-TypedStmt, more_of-TypedStmt}
use Rattle.c_ast.specs.declared.typed.TypedStmtKind as tree
use Rattle.c_meaning.specs.Operators.{is_zero}
use Rattle.c_meaning.specs.Stores.{Store, Objects}
use Rattle.c_meaning.specs.Expressions.{Val, undefined_value, value, Meaning, always}
use Rattle.c_meaning.specs.Runs.{normally, undefined, out_of_turns, Run, ends, taking, turn, go_on, both_runs, with_val, with_value, run_of, after_body, looped, rounds}
use Rattle.c_meaning.specs.Statements.{Act, act, does, kind_act, in_order, nothing}
use Rattle.c_meaning.specs.PartLaws.{LawfulAt}
use Rattle.ref_interp.specs.declared.machine.Ending.{Ending}
use Rattle.ref_interp.specs.declared.machine.Ending.TheVariants as ending
use Rattle.ref_interp.specs.declared.machine.Test.TheVariants as test
use Rattle.ref_interp.specs.declared.machine.Machine.{Machine}
use Rattle.ref_interp.specs.declared.cells.Cells.{Cells}
use Rattle.ref_interp.specs.declared.cells.Trace.{Trace}
use Rattle.ref_interp.specs.Answers.{Gives, most}
use Rattle.ref_interp.specs.Evaluations.{IsReady}
use Rattle.ref_interp.specs.Cells.{AreCells, store_of}
use Rattle.ref_interp.specs.Machines.{how_of, run_on, CanRun, Given, Ran, Tested, tested_run, goes_on, left_loop, is_normal}
use Rattle.ref_interp.proofs.Values.{zero_number, not_zero_number}

-- ---- turns that are there, and that are not

pub taking_some : (t : ℕ) (run : Run) (s : Store) (n l : ℕ) → l + t ≡ n → taking t run s n ≡ run s l
taking_some zero run s n l e = ap (run s) (omega (arith, e))
taking_some (suc t) run s zero l e = absurd (omega (arith, e))
taking_some (suc t) run s (suc n) l e = taking_some t run s n l (omega (arith, e))

pub taking_all : (t : ℕ) (run : Run) (s : Store) (n : ℕ) → n < t → taking t run s n ≡ ends out_of_turns s 0
taking_all zero run s n e = absurd (omega (arith, e))
taking_all (suc t) run s zero e = refl
taking_all (suc t) run s (suc n) e = taking_all t run s n (omega (arith, e))

-- a machine with the same cells can run where it has no more turns
pub still_can : (k : Objects) (m m2 : Machine) → CanRun k m → m2.cells ≡ m.cells → m2.left ≤ m.left → CanRun k m2
still_can k m m2 c e l = record { laws = c.laws; parts = c.parts; cells = subst (AreCells k) (sym e) c.cells; few = (let h = c.few in omega (arith, h, l)) }

pub then_can : (k : Objects) (r : Option Ty) (run : Run) (m m2 : Machine) (e : Ending) → CanRun k m → Ran k r run m e m2 → CanRun k m2
then_can k r run m m2 e c h = record { laws = c.laws; parts = c.parts; cells = h.cells; few = h.few }

-- a run that begins with a turn
pub turn_goes : (k : Objects) (r : Option Ty) (run : Run) (m m1 m2 : Machine) (e : Ending) → m1.left + 1 ≡ m.left → m1.cells ≡ m.cells → Ran k r run m1 e m2 → Ran k r (turn run) m e m2
turn_goes k r run m m1 m2 e l c h = record {
  is = taking_some 1 run (store_of k m.cells) m.left m1.left l ∙ ap (λ c. run (store_of k c) m1.left) (sym c) ∙ h.is;
  cells = h.cells;
  few = h.few;
  given = h.given;
}

-- a statement of a kind, by its run after the turn
pub kind_goes : (k : Objects) (r : Option Ty) (x y : TypedStmtKind) (a : Act) (run : Run) (m m1 m2 : Machine) (e : Ending) → x ≡ y → kind_act k y ≡ a → a.run ≡ turn run → m1.left + 1 ≡ m.left → m1.cells ≡ m.cells → Ran k r run m1 e m2
    → Ran k r (kind_act k x).run m e m2
kind_goes k r x y a run m m1 m2 e is by t l c h =
    subst (λ (w : Run). Ran k r w m e m2) (sym (ap (λ x. (kind_act k x).run) is ∙ ap (λ (a : Act). a.run) by ∙ t)) (turn_goes k r run m m1 m2 e l c h)

-- what is told of it after its turn, by the same run
pub after_turn : (k : Objects) (r : Option Ty) (x y : TypedStmtKind) (a : Act) (run w : Run) (m m2 : Machine) (e : Ending) → x ≡ y → kind_act k y ≡ a → a.run ≡ turn run → (kind_act k x).run ≡ turn w → Ran k r run m e m2 → Ran k r w m e m2
after_turn k r x y a run w m m2 e is by t u h =
    let same : turn w ≡ turn run = sym u ∙ ap (λ x. (kind_act k x).run) is ∙ ap (λ (a : Act). a.run) by ∙ t in
    record { is = ap (λ (f : Run). f (store_of k m.cells) (suc m.left)) same ∙ h.is; cells = h.cells; few = h.few; given = h.given }

starts_with_turn : (k : Objects) (x : TypedStmtKind) (s : Store) → (kind_act k x).run s 0 ≡ ends out_of_turns s 0
starts_with_turn k (tree.If' cond b (more_of-TypedStmt x at end_of-TypedStmt) o) s = refl
starts_with_turn k (tree.While' cond b (more_of-TypedStmt x at end_of-TypedStmt)) s = refl
starts_with_turn k (tree.DoWhile' b (more_of-TypedStmt x at end_of-TypedStmt) cond) s = refl
starts_with_turn k (tree.For' n first cond step b (more_of-TypedStmt x at end_of-TypedStmt)) s = refl
starts_with_turn k x s = refl

pub kind_starved : (k : Objects) (r : Option Ty) (x : TypedStmtKind) (m m2 : Machine) → CanRun k m → m.left < 1 → m2.cells ≡ m.cells → m2.left ≡ 0 → Ran k r (kind_act k x).run m ending.OutOfTurns m2
kind_starved k r x m m2 c starved same none = record {
  is = ap ((kind_act k x).run (store_of k m.cells)) (omega (arith, starved)) ∙ starts_with_turn k x (store_of k m.cells) ∙ ap (λ n. ends out_of_turns (store_of k m.cells) n) (sym none) ∙ ap (λ x. ends out_of_turns (store_of k x) m2.left) (sym same);
  cells = subst (AreCells k) (sym same) c.cells;
  few = omega (arith, none);
  given = tt;
}

-- what ends at once, with nothing changed
go_on_stops : (r : Option Ty) (e : Ending) (m : Machine) (next : Run) (s : Store) (n : ℕ) → is_normal e ≡ false → go_on (how_of r e m) next s n ≡ ends (how_of r e m) s n
go_on_stops r ending.Normally m next s n x = absurd (cc)
go_on_stops r e m next s n x = refl

go_on_goes : (r : Option Ty) (e : Ending) (m : Machine) (next : Run) (s : Store) (n : ℕ) → is_normal e ≡ true → go_on (how_of r e m) next s n ≡ next s n
go_on_goes r ending.Normally m next s n x = refl
go_on_goes r e m next s n x = absurd (cc)

after_goes : (r : Option Ty) (e : Ending) (m : Machine) (next : Run) (s : Store) (n : ℕ) → goes_on e ≡ true → after_body (how_of r e m) next s n ≡ next s n
after_goes r ending.Normally m next s n x = refl
after_goes r ending.Continue m next s n x = refl
after_goes r e m next s n x = absurd (cc)

after_leaves : (r : Option Ty) (e : Ending) (m : Machine) (next : Run) (s : Store) (n : ℕ) → goes_on e ≡ false → after_body (how_of r e m) next s n ≡ ends (how_of r (left_loop e) m) s n
after_leaves r ending.Normally m next s n x = absurd (cc)
after_leaves r ending.Continue m next s n x = absurd (cc)
after_leaves r e m next s n x = refl

given_left : (r : Option Ty) (e : Ending) (m : Machine) → Given r e m → Given r (left_loop e) m
given_left r ending.Return m h = h
given_left r e m h = tt

-- one run after another
pub both_go : (k : Objects) (r : Option Ty) (first next : Run) (m m2 : Machine) (e : Ending) → Ran k r first m e m2 → is_normal e ≡ true → run_on k (both_runs first next) m ≡ run_on k next m2
both_go k r first next m m2 e h x = ap (λ w. go_on w.how next w.store w.left) h.is ∙ go_on_goes r e m2 next (store_of k m2.cells) m2.left x

pub both_stop : (k : Objects) (r : Option Ty) (first next : Run) (m m2 : Machine) (e : Ending) → Ran k r first m e m2 → is_normal e ≡ false → Ran k r (both_runs first next) m e m2
both_stop k r first next m m2 e h x = record { is = ap (λ w. go_on w.how next w.store w.left) h.is ∙ go_on_stops r e m2 next (store_of k m2.cells) m2.left x; cells = h.cells; few = h.few; given = h.given }

pub both_ran : (k : Objects) (r : Option Ty) (first next : Run) (m m2 m3 : Machine) (e f : Ending) → Ran k r first m e m2 → is_normal e ≡ true → Ran k r next m2 f m3 → Ran k r (both_runs first next) m f m3
both_ran k r first next m m2 m3 e f h x i = record { is = both_go k r first next m m2 e h x ∙ i.is; cells = i.cells; few = i.few; given = i.given }

-- the body of a loop, and what follows it
pub loop_goes : (k : Objects) (r : Option Ty) (body next : Run) (m m2 m3 : Machine) (e f : Ending) → Ran k r body m e m2 → goes_on e ≡ true → Ran k r next m2 f m3 → Ran k r (looped body next) m f m3
loop_goes k r body next m m2 m3 e f h x i = record { is = ap (λ w. after_body w.how next w.store w.left) h.is ∙ after_goes r e m2 next (store_of k m2.cells) m2.left x ∙ i.is; cells = i.cells; few = i.few; given = i.given }

pub loop_leaves : (k : Objects) (r : Option Ty) (body next : Run) (m m2 : Machine) (e : Ending) → Ran k r body m e m2 → goes_on e ≡ false → Ran k r (looped body next) m (left_loop e) m2
loop_leaves k r body next m m2 e h x = record { is = ap (λ w. after_body w.how next w.store w.left) h.is ∙ after_leaves r e m2 next (store_of k m2.cells) m2.left x; cells = h.cells; few = h.few; given = given_left r e m2 h.given }

-- ---- statements in order: so many have run

pub record Gone (k : Objects) (ss : List TypedStmt) (i : ℕ) (m0 m : Machine) : Type 0 where
  pub is : run_on k (in_order (map (act k) ss)) m0 ≡ run_on k (in_order (map (act k) (drop i ss))) m
  pub can : CanRun k m

pub gone_start : (k : Objects) (ss : List TypedStmt) (m : Machine) → CanRun k m → Gone k ss 0 m m
gone_start k ss m c = record { is = refl; can = c }

next_act : (k : Objects) (ss : List TypedStmt) (i : ℕ) (x : TypedStmt) → i < length ss → x ≡ get_or ss i x → map (act k) (drop i ss) ≡ act k x ∷ map (act k) (drop (suc i) ss)
next_act k ss i x lt e = ap (map (act k)) (drop-cons ss i x lt) ∙ ap (λ (y : TypedStmt). act k y ∷ map (act k) (drop (suc i) ss)) (sym e)

pub the_stmt : (k : Objects) (r : Option Ty) (l : Bool) (ss : List TypedStmt) (i : ℕ) (x : TypedStmt) → i < length ss → x ≡ get_or ss i x → All (LawfulAt k r l) ss → LawfulAt k r l x
the_stmt k r l ss i x lt e all = subst (LawfulAt k r l) (sym e) (All-get_or (LawfulAt k r l) ss i x lt all)

pub gone_more : (k : Objects) (r : Option Ty) (ss : List TypedStmt) (i : ℕ) (x : TypedStmt) (m0 m m2 : Machine) (e : Ending) → i < length ss → x ≡ get_or ss i x → Gone k ss i m0 m → Ran k r (does k x) m e m2 → is_normal e ≡ true → Gone k ss (i + 1) m0 m2
gone_more k r ss i x m0 m m2 e lt at g h n = record {
  is = g.is ∙ ap (λ acts. run_on k (in_order acts) m) (next_act k ss i x lt at) ∙ both_go k r (does k x) (in_order (map (act k) (drop (suc i) ss))) m m2 e h n ∙ ap (λ j. run_on k (in_order (map (act k) (drop j ss))) m2) (one_less i);
  can = then_can k r (does k x) m m2 e g.can h;
}
  where
    one_less : (i : ℕ) → suc i ≡ i + 1
    one_less i = omega arith

pub gone_stops : (k : Objects) (r : Option Ty) (ss : List TypedStmt) (i : ℕ) (x : TypedStmt) (m0 m m2 : Machine) (e : Ending) → i < length ss → x ≡ get_or ss i x → Gone k ss i m0 m → Ran k r (does k x) m e m2 → is_normal e ≡ false → Ran k r (in_order (map (act k) ss)) m0 e m2
gone_stops k r ss i x m0 m m2 e lt at g h n =
    let s = both_stop k r (does k x) (in_order (map (act k) (drop (suc i) ss))) m m2 e h n in
    record { is = g.is ∙ ap (λ acts. run_on k (in_order acts) m) (next_act k ss i x lt at) ∙ s.is; cells = s.cells; few = s.few; given = s.given }

pub gone_all : (k : Objects) (r : Option Ty) (ss : List TypedStmt) (i : ℕ) (m0 m : Machine) → length ss ≤ i → Gone k ss i m0 m → Ran k r (in_order (map (act k) ss)) m0 ending.Normally m
gone_all k r ss i m0 m past g = record { is = g.is ∙ ap (λ ss. run_on k (in_order (map (act k) ss)) m) (drop_all i ss past); cells = g.can.cells; few = g.can.few; given = tt }

-- ---- conditions

pub test_starved : (k : Objects) (r : Option Ty) (cond : Meaning) (m m2 : Machine) → m.left < 1 → m2.cells ≡ m.cells → m2.left ≡ 0 → Tested k r cond m test.OutOfTurns m2
test_starved k r cond m m2 starved same none = record {
  is = λ a b. taking_all 1 (with_value cond (λ x. run_of (is_zero x) b a)) (store_of k m.cells) m.left starved ∙ ap (λ n. ends out_of_turns (store_of k m.cells) n) (sym none) ∙ ap (λ c. ends out_of_turns (store_of k c) m2.left) (sym same);
  cells = same;
  fewer = omega (arith, none);
}

-- the turn is taken, and l are left
test_begins : (k : Objects) (cond : Meaning) (a b : Run) (m : Machine) (v : Val) (l : ℕ) → l + 1 ≡ m.left → cond (store_of k m.cells) ≡ v → run_on k (tested_run cond a b) m ≡ with_val v (λ x. run_of (is_zero x) b a) (store_of k m.cells) l
test_begins k cond a b m v l e is = taking_some 1 (with_value cond (λ x. run_of (is_zero x) b a)) (store_of k m.cells) m.left l e ∙ ap (λ v. with_val v (λ x. run_of (is_zero x) b a) (store_of k m.cells) l) is

pub test_undefined : (k : Objects) (r : Option Ty) (cond : Meaning) (m m2 : Machine) → cond (store_of k m.cells) ≡ undefined_value m2.trace.at → m2.cells ≡ m.cells → m2.left + 1 ≡ m.left → Tested k r cond m test.Undefined m2
test_undefined k r cond m m2 is same e = record {
  is = λ a b. test_begins k cond a b m (undefined_value m2.trace.at) m2.left e is ∙ ap (λ c. ends (undefined m2.trace.at) (store_of k c) m2.left) (sym same);
  cells = same;
  fewer = omega (arith, e);
}

pub test_short : (k : Objects) (r : Option Ty) (cond : Meaning) (t : Ty) (m m2 : Machine) (x w l : ℕ) → Gives t x 0 w (cond (store_of k m.cells)) → m.left < most → l + 1 ≡ m.left → l < w → m2.cells ≡ m.cells → m2.left ≡ 0 → Tested k r cond m test.OutOfTurns m2
test_short k r cond t m m2 x w l g few e less same none = record {
  is = λ a b. test_begins k cond a b m (value (number t x) g.turns) l e g.is ∙ taking_all g.turns (run_of (is_zero (number t x)) b a) (store_of k m.cells) l (let h = g.used in omega (arith, h, few, e, less))
      ∙ ap (λ n. ends out_of_turns (store_of k m.cells) n) (sym none) ∙ ap (λ c. ends out_of_turns (store_of k c) m2.left) (sym same);
  cells = same;
  fewer = omega (arith, none);
}

test_told : (k : Objects) (cond : Meaning) (t : Ty) (a b : Run) (m m2 : Machine) (x w l : ℕ) (z : Bool) → Gives t x 0 w (cond (store_of k m.cells)) → m.left < most → l + 1 ≡ m.left → m2.left + w ≡ l → m2.cells ≡ m.cells → is_zero (number t x) ≡ z → run_on k (tested_run cond a b) m ≡ run_on k (run_of z b a) m2
test_told k cond t a b m m2 x w l z g few e le same is =
    test_begins k cond a b m (value (number t x) g.turns) l e g.is ∙ taking_some g.turns (run_of (is_zero (number t x)) b a) (store_of k m.cells) l m2.left (let h = g.used in omega (arith, h, few, e, le))
    ∙ ap (λ z. run_of z b a (store_of k m.cells) m2.left) is ∙ ap (λ c. run_of z b a (store_of k c) m2.left) (sym same)

pub test_fails : (k : Objects) (r : Option Ty) (cond : Meaning) (t : Ty) (m m2 : Machine) (x w l : ℕ) → Gives t x 0 w (cond (store_of k m.cells)) → m.left < most → l + 1 ≡ m.left → m2.left + w ≡ l → m2.cells ≡ m.cells → x ≡ 0 → Tested k r cond m test.Fails m2
test_fails k r cond t m m2 x w l g few e le same z = record { is = λ a b. test_told k cond t a b m m2 x w l true g few e le same (zero_number t x g.below z); cells = same; fewer = omega (arith, e, le) }

pub test_holds : (k : Objects) (r : Option Ty) (cond : Meaning) (t : Ty) (m m2 : Machine) (x w l : ℕ) → Gives t x 0 w (cond (store_of k m.cells)) → m.left < most → l + 1 ≡ m.left → m2.left + w ≡ l → m2.cells ≡ m.cells → (x ≡ 0 → ⊥) → Tested k r cond m test.Holds m2
test_holds k r cond t m m2 x w l g few e le same z = record { is = λ a b. test_told k cond t a b m m2 x w l false g few e le same (not_zero_number t x g.below z); cells = same; fewer = omega (arith, e, le) }

-- an absent condition holds
pub test_absent : (k : Objects) (r : Option Ty) (m m2 : Machine) → m2.left + 1 ≡ m.left → m2.cells ≡ m.cells → Tested k r (always (pos 1)) m test.Holds m2
test_absent k r m m2 e same = record {
  is = λ a b. test_begins k (always (pos 1)) a b m (value (pos 1) 0) m2.left e refl ∙ ap (λ c. a (store_of k c) m2.left) (sym same);
  cells = same;
  fewer = omega (arith, e);
}

-- ---- loops: i rounds have gone

pub record Rounded (k : Objects) (cond : Meaning) (body step : Run) (m0 : Machine) (i : ℕ) (m : Machine) : Type 0 where
  pub is : (n : ℕ) → n + i ≡ m0.left + 1 → run_on k (rounds (m0.left + 1) nothing cond body step) m0 ≡ run_on k (rounds n nothing cond body step) m
  pub can : CanRun k m

pub rounded_start : (k : Objects) (cond : Meaning) (body step : Run) (m : Machine) → CanRun k m → Rounded k cond body step m 0 m
rounded_start k cond body step m c = record { is = λ n e. ap (λ n. run_on k (rounds n nothing cond body step) m) (omega (arith, e)); can = c }

-- what a round runs after its condition
abbrev after_test : Meaning → Run → Run → ℕ → Run
after_test cond body step n = looped body (both_runs step (rounds n nothing cond body step))

-- the condition of the next round decides
told : (k : Objects) (cond : Meaning) (body step : Run) (m0 m : Machine) (i n : ℕ) → Rounded k cond body step m0 i m → n + i ≡ m0.left → run_on k (rounds (m0.left + 1) nothing cond body step) m0 ≡ run_on k (tested_run cond (after_test cond body step n) (ends normally)) m
told k cond body step m0 m i n h e = h.is (suc n) (omega (arith, e))

pub rounded_fails : (k : Objects) (r : Option Ty) (cond : Meaning) (body step : Run) (m0 m m2 : Machine) (i n : ℕ) → Rounded k cond body step m0 i m → n + i ≡ m0.left → Tested k r cond m test.Fails m2 → Ran k r (rounds (m0.left + 1) nothing cond body step) m0 ending.Normally m2
rounded_fails k r cond body step m0 m m2 i n h e t =
    let c = still_can k m m2 h.can t.cells t.fewer in
    record { is = told k cond body step m0 m i n h e ∙ t.is (after_test cond body step n) (ends normally); cells = c.cells; few = c.few; given = tt }

pub rounded_undefined : (k : Objects) (r : Option Ty) (cond : Meaning) (body step : Run) (m0 m m2 : Machine) (i n : ℕ) → Rounded k cond body step m0 i m → n + i ≡ m0.left → Tested k r cond m test.Undefined m2 → Ran k r (rounds (m0.left + 1) nothing cond body step) m0 ending.Undefined m2
rounded_undefined k r cond body step m0 m m2 i n h e t =
    let c = still_can k m m2 h.can t.cells t.fewer in
    record { is = told k cond body step m0 m i n h e ∙ t.is (after_test cond body step n) (ends normally); cells = c.cells; few = c.few; given = tt }

pub rounded_starved : (k : Objects) (r : Option Ty) (cond : Meaning) (body step : Run) (m0 m m2 : Machine) (i n : ℕ) → Rounded k cond body step m0 i m → n + i ≡ m0.left → Tested k r cond m test.OutOfTurns m2 → Ran k r (rounds (m0.left + 1) nothing cond body step) m0 ending.OutOfTurns m2
rounded_starved k r cond body step m0 m m2 i n h e t =
    let c = still_can k m m2 h.can t.cells t.fewer in
    record { is = told k cond body step m0 m i n h e ∙ t.is (after_test cond body step n) (ends normally); cells = c.cells; few = c.few; given = tt }

-- the condition holds, and the body ends the loop
pub rounded_leaves : (k : Objects) (r : Option Ty) (cond : Meaning) (body step : Run) (m0 m m2 m3 : Machine) (i n : ℕ) (e : Ending) → Rounded k cond body step m0 i m → n + i ≡ m0.left → Tested k r cond m test.Holds m2 → Ran k r body m2 e m3 → goes_on e ≡ false
    → Ran k r (rounds (m0.left + 1) nothing cond body step) m0 (left_loop e) m3
rounded_leaves k r cond body step m0 m m2 m3 i n e h s t b g =
    let l = loop_leaves k r body (both_runs step (rounds n nothing cond body step)) m2 m3 e b g in
    record { is = told k cond body step m0 m i n h s ∙ t.is (after_test cond body step n) (ends normally) ∙ l.is; cells = l.cells; few = l.few; given = l.given }

-- the body goes on, and the step ends the loop
pub rounded_stops : (k : Objects) (r : Option Ty) (cond : Meaning) (body step : Run) (m0 m m2 m3 m4 : Machine) (i n : ℕ) (e f : Ending) → Rounded k cond body step m0 i m → n + i ≡ m0.left → Tested k r cond m test.Holds m2 → Ran k r body m2 e m3 → goes_on e ≡ true
    → Ran k r step m3 f m4 → is_normal f ≡ false → Ran k r (rounds (m0.left + 1) nothing cond body step) m0 f m4
rounded_stops k r cond body step m0 m m2 m3 m4 i n e f h s t b g st stops =
    let l = loop_goes k r body (both_runs step (rounds n nothing cond body step)) m2 m3 m4 e f b g (both_stop k r step (rounds n nothing cond body step) m3 m4 f st stops) in
    record { is = told k cond body step m0 m i n h s ∙ t.is (after_test cond body step n) (ends normally) ∙ l.is; cells = l.cells; few = l.few; given = l.given }

-- one round more
pub rounded_more : (k : Objects) (r : Option Ty) (cond : Meaning) (body step : Run) (m0 m m2 m3 m4 : Machine) (i : ℕ) (e f : Ending) → Rounded k cond body step m0 i m → Tested k r cond m test.Holds m2 → Ran k r body m2 e m3 → goes_on e ≡ true
    → Ran k r step m3 f m4 → is_normal f ≡ true → Rounded k cond body step m0 (i + 1) m4
rounded_more k r cond body step m0 m m2 m3 m4 i e f h t b g st goes = record {
  is = λ n s. h.is (suc n) (omega (arith, s)) ∙ t.is (after_test cond body step n) (ends normally) ∙ ap (λ w. after_body w.how (both_runs step (rounds n nothing cond body step)) w.store w.left) b.is
      ∙ after_goes r e m3 (both_runs step (rounds n nothing cond body step)) (store_of k m3.cells) m3.left g ∙ both_go k r step (rounds n nothing cond body step) m3 m4 f st goes;
  can = then_can k r step m3 m4 f (then_can k r body m2 m3 e (still_can k m m2 h.can t.cells t.fewer) b) st;
}

-- a loop without a step
pub no_step : (k : Objects) (r : Option Ty) (m : Machine) → CanRun k m → Ran k r nothing m ending.Normally m
no_step k r m c = record { is = refl; cells = c.cells; few = c.few; given = tt }

pub rounded_over : (k : Objects) (r : Option Ty) (cond : Meaning) (body step : Run) (m0 m : Machine) (i : ℕ) → Rounded k cond body step m0 i m → i ≡ m0.left + 1 → Ran k r (rounds (m0.left + 1) nothing cond body step) m0 ending.OutOfTurns m
rounded_over k r cond body step m0 m i h e = record { is = h.is 0 (omega (arith, e)); cells = h.can.cells; few = h.can.few; given = tt }

-- what an expression is evaluated in, after a start
pub begun : (k : Objects) (m : Machine) (c : Cells) (t : Trace) → CanRun k m → c ≡ m.cells → t.failed ≡ false → t.turns ≡ 0 → IsReady k c t
begun k m c t can same clear none = record { laws = can.laws; cells = subst (AreCells k) (sym same) can.cells; clear = clear; few = omega (arith, none) }
