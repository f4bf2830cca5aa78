-- Declarations, returns, and the entering of blocks, on machines.
use Rattle.std.proofs.Common.{◌≡◌, ℕ, suc, ◌+◌, ◌^◌, ◌<◌, ◌≤◌, List, [], ◌∷◌, ◌++◌, map, take, length, get_or, set, Option, Some, None, refl, sym, ◌∙◌, ap, subst, arith}
use Rattle.std.specs.Prelude.{true, false, flat_map}
use Rattle.std.proofs.lemmas.List.{map-append, take_all}
use Rattle.std.proofs.lemmas.Grind.{flat_map-append}
use Rattle.std.proofs.Math.Seq.{take-suc}
use Rattle.el_base.specs.declared.ty.Ty.{Ty}
use Rattle.el_base.specs.Numbers.{number}
use Rattle.el_base.specs.Widths.{ty_width}
use Rattle.c_ast.specs.declared.typed.Object.TheVariants as object
use Rattle.c_ast.specs.declared.typed.TypedExpr.{TypedExpr}
use Rattle.c_ast.specs.declared.typed.TypedStmt.{TypedStmt}
use Rattle.c_ast.specs.declared.typed.TypedStmtKind.{TypedStmtKind, end_of-TypedStmt, more_of-TypedStmt}
use Rattle.c_ast.specs.declared.typed.TypedStmtKind as tree
use Rattle.c_ast.specs.declared.typed.TypedStmtKind.TheVariants as stmt
use Rattle.c_meaning.specs.Stores.{Store, Objects, unset_var, unset_vars}
use Rattle.c_meaning.specs.Expressions.{meaning}
use Rattle.c_meaning.specs.Runs.{by_return, undefined, out_of_turns, normally, ends, with_val}
use Rattle.c_meaning.specs.Statements.{Act, act, kind_act, of_var, storing, declared_run, returned, meant_if_any}
use Rattle.c_meaning.specs.Lawful.{LawfulExpr, LawfulDeclaration, LawfulReturn, IsVar}
use Rattle.ref_interp.specs.declared.cells.Trace.{Trace}
use Rattle.ref_interp.specs.declared.machine.Ending.{Ending}
use Rattle.ref_interp.specs.declared.machine.Ending.TheVariants as ending
use Rattle.ref_interp.specs.declared.machine.Machine.{Machine}
use Rattle.ref_interp.specs.Answers.{Answered}
use Rattle.ref_interp.specs.Cells.{AreCells, store_of}
use Rattle.ref_interp.specs.Machines.{returned_number, CanRun, IsGiven, Ran}
use Rattle.ref_interp.specs.Statements.{Enters, EnterGives}
use Rattle.ref_interp.proofs.Values.{failed_is, gives_is}
use Rattle.ref_interp.proofs.Aims.{type_is}
use Rattle.ref_interp.proofs.Running.{taking_some, taking_all}
use Rattle.ref_interp.proofs.Written.{var_unset}

-- ---- declarations

pub declared_none : (k : Objects) (r : Option Ty) (v : ℕ) (init : Option TypedExpr) (m m2 : Machine) → init ≡ None → CanRun k m → m2.cells.vars ≡ set m.cells.vars v None → m2.cells.arrays ≡ m.cells.arrays → m2.left ≡ m.left
    → Ran k r (declared_run k v (meant_if_any k init)) m ending.Normally m2
declared_none k r v init m m2 e can vs as_of left =
    let st = var_unset k m.cells m2.cells v can.cells vs as_of in
    record {
      is = ap (λ o. declared_run k v (meant_if_any k o) (store_of k m.cells) m.left) e ∙ ap (λ s. ends normally s m.left) (sym st.is) ∙ ap (λ n. ends normally (store_of k m2.cells) n) (sym left);
      cells = st.cells;
      few = (let c = can.few in omega (arith, c, left));
      given = tt;
    }

pub declared_lawful : (k : Objects) (v : ℕ) (init : Option TypedExpr) (e : TypedExpr) → init ≡ Some e → LawfulDeclaration k (LawfulExpr k) v init → IsVar k v e.ty × LawfulExpr k e
declared_lawful k v init e is h = subst (LawfulDeclaration k (LawfulExpr k) v) is h

pub declared_some : (k : Objects) (r : Option Ty) (v : ℕ) (init : Option TypedExpr) (e : TypedExpr) (m m2 n : Machine) (w : Ending) → init ≡ Some e → IsVar k v e.ty → m2.cells ≡ m.cells → m2.left ≡ m.left
    → Ran k r (with_val (meaning k e (store_of k m.cells)) (storing e.ty (of_var v))) m2 w n → Ran k r (declared_run k v (meant_if_any k init)) m w n
declared_some k r v init e m m2 n w is var same left h = record {
  is = ap (λ o. declared_run k v (meant_if_any k o) (store_of k m.cells) m.left) is ∙ ap (λ t. with_val (meaning k e (store_of k m.cells)) (storing t (of_var v)) (store_of k m.cells) m.left) (type_is k (object.Var v) 0 e.ty (var, refl))
      ∙ ap (λ n. with_val (meaning k e (store_of k m.cells)) (storing e.ty (of_var v)) (store_of k m.cells) n) (sym left) ∙ ap (λ c. with_val (meaning k e (store_of k m.cells)) (storing e.ty (of_var v)) (store_of k c) m2.left) (sym same) ∙ h.is;
  cells = h.cells;
  few = h.few;
  given = h.given;
}

-- ---- returns

void_is : (k : Objects) (r : Option Ty) → LawfulReturn (LawfulExpr k) r None → r ≡ None
void_is k None h = refl
void_is k (Some t) h = absurd h

given_nothing : (k : Objects) (r : Option Ty) (v : Option TypedExpr) → v ≡ None → LawfulReturn (LawfulExpr k) r v → (o : Option ℕ) → o ≡ None → IsGiven r o
given_nothing k r v e h o none = subst (IsGiven r) (sym none) (subst (λ r. IsGiven r None) (sym (void_is k r (subst (LawfulReturn (LawfulExpr k) r) e h))) tt)

given_value : (r : Option Ty) (o : Option ℕ) (t : Ty) (x : ℕ) → r ≡ Some t → o ≡ Some x → x < 2 ^ ty_width t → IsGiven r o
given_value r o t x e f b = subst (IsGiven r) (sym f) (subst (λ r. IsGiven r (Some x)) (sym e) b)

pub given_none : (k : Objects) (r : Option Ty) (v : Option TypedExpr) (m m2 : Machine) → v ≡ None → LawfulReturn (LawfulExpr k) r v → CanRun k m → m2.cells ≡ m.cells → m2.left ≡ m.left → m2.value ≡ None → Ran k r (returned (meant_if_any k v)) m ending.Return m2
given_none k r v m m2 e h can same left none = record {
  is = ap (λ v. returned (meant_if_any k v) (store_of k m.cells) m.left) e ∙ ap (λ x. ends (by_return x) (store_of k m.cells) m.left) (sym (ap (returned_number r) none ∙ nothing_given r))
      ∙ ap (λ n. ends (by_return (returned_number r m2.value)) (store_of k m.cells) n) (sym left) ∙ ap (λ c. ends (by_return (returned_number r m2.value)) (store_of k c) m2.left) (sym same);
  cells = subst (AreCells k) (sym same) can.cells;
  few = (let c = can.few in omega (arith, c, left));
  given = given_nothing k r v e h m2.value none;
}
  where
    nothing_given : (r : Option Ty) → returned_number r None ≡ None
    nothing_given None = refl
    nothing_given (Some t) = refl

pub given_lawful : (k : Objects) (r : Option Ty) (v : Option TypedExpr) (e : TypedExpr) → v ≡ Some e → LawfulReturn (LawfulExpr k) r v → (r ≡ Some e.ty) × LawfulExpr k e
given_lawful k r v e is h = of_result r (subst (LawfulReturn (LawfulExpr k) r) is h)
  where
    of_result : (r : Option Ty) → LawfulReturn (LawfulExpr k) r (Some e) → (r ≡ Some e.ty) × LawfulExpr k e
    of_result None h = absurd h
    of_result (Some t) h = (ap Some (sym h.0), h.1)

pub given_undefined : (k : Objects) (r : Option Ty) (v : Option TypedExpr) (e : TypedExpr) (x u : ℕ) (m m2 : Machine) → v ≡ Some e → CanRun k m → m2.trace.failed ≡ true → Answered m2.trace.failed e.ty (meaning k e (store_of k m.cells)) u m2.trace x → m2.cells ≡ m.cells → m2.left ≡ m.left
    → Ran k r (returned (meant_if_any k v)) m ending.Undefined m2
given_undefined k r v e x u m m2 is can f an same left = record {
  is = ap (λ v. returned (meant_if_any k v) (store_of k m.cells) m.left) is ∙ ap (λ w. with_val w (λ x. ends (by_return (Some x))) (store_of k m.cells) m.left) (failed_is m2.trace.failed e.ty (meaning k e (store_of k m.cells)) u x m2.trace f an)
      ∙ ap (λ n. ends (undefined m2.trace.at) (store_of k m.cells) n) (sym left) ∙ ap (λ c. ends (undefined m2.trace.at) (store_of k c) m2.left) (sym same);
  cells = subst (AreCells k) (sym same) can.cells;
  few = (let c = can.few in omega (arith, c, left));
  given = tt;
}

pub given_starved : (k : Objects) (r : Option Ty) (v : Option TypedExpr) (e : TypedExpr) (x : ℕ) (t : Trace) (m m2 : Machine) → v ≡ Some e → CanRun k m → t.failed ≡ false → Answered t.failed e.ty (meaning k e (store_of k m.cells)) 0 t x → m.left < t.turns → m2.cells ≡ m.cells → m2.left ≡ 0
    → Ran k r (returned (meant_if_any k v)) m ending.OutOfTurns m2
given_starved k r v e x t m m2 is can f an starved same none =
    let g = gives_is t.failed e.ty (meaning k e (store_of k m.cells)) 0 x t f an in
    record {
      is = ap (λ v. returned (meant_if_any k v) (store_of k m.cells) m.left) is ∙ ap (λ w. with_val w (λ x. ends (by_return (Some x))) (store_of k m.cells) m.left) g.is
          ∙ taking_all g.turns (ends (by_return (Some (number e.ty x)))) (store_of k m.cells) m.left (let h = g.used in let c = can.few in omega (arith, h, c, starved))
          ∙ ap (λ n. ends out_of_turns (store_of k m.cells) n) (sym none) ∙ ap (λ c. ends out_of_turns (store_of k c) m2.left) (sym same);
      cells = subst (AreCells k) (sym same) can.cells;
      few = omega (arith, none);
      given = tt;
    }

pub given_some : (k : Objects) (r : Option Ty) (v : Option TypedExpr) (e : TypedExpr) (x : ℕ) (t : Trace) (m m2 : Machine) → v ≡ Some e → r ≡ Some e.ty → CanRun k m → t.failed ≡ false → Answered t.failed e.ty (meaning k e (store_of k m.cells)) 0 t x → m2.left + t.turns ≡ m.left → m2.cells ≡ m.cells → m2.value ≡ Some x
    → Ran k r (returned (meant_if_any k v)) m ending.Return m2
given_some k r v e x t m m2 is rt can f an left same val =
    let g = gives_is t.failed e.ty (meaning k e (store_of k m.cells)) 0 x t f an in
    let number_is : returned_number r m2.value ≡ Some (number e.ty x) = ap (returned_number r) val ∙ ap (λ r. returned_number r (Some x)) rt in
    record {
      is = ap (λ v. returned (meant_if_any k v) (store_of k m.cells) m.left) is ∙ ap (λ w. with_val w (λ x. ends (by_return (Some x))) (store_of k m.cells) m.left) g.is
          ∙ taking_some g.turns (ends (by_return (Some (number e.ty x)))) (store_of k m.cells) m.left m2.left (let h = g.used in let c = can.few in omega (arith, h, c, left))
          ∙ ap (λ z. ends (by_return z) (store_of k m.cells) m2.left) (sym number_is) ∙ ap (λ c. ends (by_return (returned_number r m2.value)) (store_of k c) m2.left) (sym same);
      cells = subst (AreCells k) (sym same) can.cells;
      few = (let c = can.few in omega (arith, c, left));
      given = given_value r m2.value e.ty x rt val g.below;
    }

-- ---- entering

declares_none : (k : Objects) (x : TypedStmtKind) → ((v : ℕ) (e : Option TypedExpr) → x ≡ stmt.Declare v e → ⊥) → (kind_act k x).declares ≡ []
declares_none k (tree.Declare v init) h = absurd (h v init refl)
declares_none k (tree.If' cond b (more_of-TypedStmt x at end_of-TypedStmt) o) h = refl
declares_none k (tree.While' cond b (more_of-TypedStmt x at end_of-TypedStmt)) h = refl
declares_none k (tree.DoWhile' b (more_of-TypedStmt x at end_of-TypedStmt) cond) h = refl
declares_none k (tree.For' n first cond step b (more_of-TypedStmt x at end_of-TypedStmt)) h = refl
declares_none k x h = refl

declares_one : (k : Objects) (x : TypedStmt) (v : ℕ) (e : Option TypedExpr) → x.kind ≡ stmt.Declare v e → (act k x).declares ≡ v ∷ []
declares_one k x v e is = ap (λ x. (kind_act k x).declares) is

pub enters_declared : (k : Objects) (x : TypedStmt) (v : ℕ) (e : Option TypedExpr) (m m2 : Machine) → x.kind ≡ stmt.Declare v e → CanRun k m → m2.cells.vars ≡ set m.cells.vars v None → m2.cells.arrays ≡ m.cells.arrays → m2.left ≡ m.left → Enters k (x ∷ []) m m2
enters_declared k x v e m m2 is can vs as_of left =
    let st = var_unset k m.cells m2.cells v can.cells vs as_of in
    record { store = st.is ∙ ap (λ ds. unset_vars (ds ++ []) (store_of k m.cells)) (sym (declares_one k x v e is)); cells = st.cells; left = left }

pub enters_none : (k : Objects) (x : TypedStmt) (m : Machine) → ((v : ℕ) (e : Option TypedExpr) → x.kind ≡ stmt.Declare v e → ⊥) → CanRun k m → Enters k (x ∷ []) m m
enters_none k x m no_one can = record { store = ap (λ ds. unset_vars (ds ++ []) (store_of k m.cells)) (sym (declares_none k x.kind no_one)); cells = can.cells; left = refl }

-- so many statements were looked at
abbrev pub Entered : Objects → List TypedStmt → ℕ → Machine → Machine → Type 0
Entered k ss i m0 m = Enters k (take i ss) m0 m

pub entered_start : (k : Objects) (ss : List TypedStmt) (m : Machine) → CanRun k m → Entered k ss 0 m m
entered_start k ss m can = record { store = refl; cells = can.cells; left = refl }

unset_append : (xs ys : List ℕ) (s : Store) → unset_vars (xs ++ ys) s ≡ unset_vars ys (unset_vars xs s)
unset_append [] ys s = refl
unset_append (x ∷ xs) ys s = unset_append xs ys (unset_var x s)

pub entered_more : (k : Objects) (ss : List TypedStmt) (i : ℕ) (x : TypedStmt) (m0 m m2 : Machine) → CanRun k m0 → i < length ss → x ≡ get_or ss i x → Entered k ss i m0 m → EnterGives k (x ∷ []) m m2 → Entered k ss (i + 1) m0 m2
entered_more k ss i x m0 m m2 can lt at h f =
    let s = store_of k m0.cells in
    let d : Act → List ℕ = λ a. a.declares in
    let now : CanRun k m = record { laws = can.laws; parts = can.parts; cells = h.cells; few = (let c = can.few in let l = h.left in omega (arith, c, l)) } in
    let g = f now in
    let cut : take (i + 1) ss ≡ take i ss ++ (x ∷ []) = ap (λ j. take j ss) (one_more i) ∙ take-suc ss i x lt ∙ ap (λ (x : TypedStmt). take i ss ++ (x ∷ [])) (sym at) in
    let all : flat_map d (map (act k) (take (i + 1) ss)) ≡ flat_map d (map (act k) (take i ss)) ++ flat_map d (map (act k) (x ∷ [])) =
    ap (λ ss. flat_map d (map (act k) ss)) cut ∙ ap (flat_map d) (map-append (act k) (take i ss) (x ∷ [])) ∙ flat_map-append d (map (act k) (take i ss)) (map (act k) (x ∷ [])) in
    record {
      store = g.store ∙ ap (unset_vars (flat_map d (map (act k) (x ∷ [])))) h.store ∙ sym (unset_append (flat_map d (map (act k) (take i ss))) (flat_map d (map (act k) (x ∷ []))) s) ∙ ap (λ vs. unset_vars vs s) (sym all);
      cells = g.cells;
      left = g.left ∙ h.left;
    }
  where
    one_more : (i : ℕ) → i + 1 ≡ suc i
    one_more i = omega arith

pub entered_all : (k : Objects) (ss : List TypedStmt) (i : ℕ) (m0 m : Machine) → length ss ≤ i → Entered k ss i m0 m → Enters k ss m0 m
entered_all k ss i m0 m past h = subst (λ ss. Enters k ss m0 m) (take_all i ss past) h
