-- What a statement of a program is cast to is lawful and in scope, and declares the numbers that follow.
use Rattle.std.proofs.Common.{◌≡◌, ℕ, zero, suc, ◌+◌, ◌<◌, ◌≤◌, List, [], ◌∷◌, ◌++◌, length, length-append, Option, Some, refl, sym, ◌∙◌, ap, subst, cond, arith, ◌⊎◌, inl, inr}
use Rattle.std.specs.Prelude.{Bool, true, false, ◌==◌, Contains}
use Rattle.std.specs.Cmp.Lexicographic.{pointwise}
use Rattle.el_base.specs.declared.ty.Ty.{Ty}
use Rattle.c_ast.specs.declared.tree.Stmt.{Stmt}
use Rattle.c_ast.specs.declared.tree.StmtKind.TheBlock.{hidden-the_row-Stmt-0}
use Rattle.c_ast.specs.declared.program.ProgStmt.{ProgStmt}
use Rattle.c_ast.specs.declared.program.ProgStmtKind.TheBlock.{hidden-the_row-ProgStmt-0, back-ProgStmtKind-If-2}
use Rattle.c_ast.specs.Casts.{Declared, a_var, Scope, Context, into_innermost, with_var}
use Rattle.c_ast.specs.ProgramCasts.{Known, CastsCallStmt, CastsCallHeld, CastsCallStmts}
use Rattle.c_ast.specs.ProgramCasts as casts
use Rattle.c_ast.specs.Typing.{Sort, Names, a_scalar, sort_of, with_name, names_after, names_after_row}
use Rattle.c_meaning.specs.Stores.{Objects}
use Rattle.c_meaning.specs.Lawful.{IsVar}
use Rattle.c_meaning.proofs.LawfulExpressions.{Extends, extends_refl, extends_more, extends_trans, found_in, opened_valid, into_valid}
use Rattle.c_meaning.proofs.LawfulStatements.{new_var}
use Rattle.c_calls.specs.Lawful.{in_scope_after, in_scope_after_row, numbers_from, declared_of, declared_held, declared_row}
use Rattle.c_calls.proofs.Lists.{here, there, member_cases}
use Rattle.c_calls.proofs.CastExprs.{ToldBy, Scoped, Sees}
use Rattle.c_meaning.proofs.TreeRows.{stmt_rows}
use Rattle.c_calls.proofs.TreeRows.{prog_stmt_rows}

-- ---- the list of variables grows

module _ (hs : List Known) where
  mutual
    pub stmt_grows : {r : Option Ty} {c d : Context} {a : Stmt} {b : ProgStmt} → CastsCallStmt hs r c a b d → Extends c.types d.types
    stmt_grows (casts.block r c d ss ts s p) = stmts_grow p
    stmt_grows (casts.declare r c x t s) = extends_more c.types (t ∷ [])
    stmt_grows (casts.declare_value r c x t e f s p) = extends_more c.types (t ∷ [])
    stmt_grows (casts.assign r c target to t op e f s p q) = extends_refl c.types
    stmt_grows (casts.step r c target to t up s p) = extends_refl c.types
    stmt_grows (casts.choice r c d d2 e f a b o p s x y z) = extends_trans (stmt_grows y) (held_grows z)
    stmt_grows (casts.while_loop r c d e f a b s x y) = stmt_grows y
    stmt_grows (casts.do_loop r c d e f a b s x y) = stmt_grows x
    stmt_grows (casts.for_loop r c d d2 d3 ss ts e f o p a b s x y z w) = extends_trans (stmts_grow x) (extends_trans (held_grows z) (stmt_grows w))
    stmt_grows (casts.leaving r c s) = extends_refl c.types
    stmt_grows (casts.continuing r c s) = extends_refl c.types
    stmt_grows (casts.return_nothing r c s) = extends_refl c.types
    stmt_grows (casts.return_value t c e f s p) = extends_refl c.types
    stmt_grows (casts.empty r c s) = extends_refl c.types

    pub held_grows : {r : Option Ty} {c d : Context} {o : Option Stmt} {p : Option ProgStmt} → CastsCallHeld hs r c o p d → Extends c.types d.types
    held_grows (casts.no_statement r c) = extends_refl c.types
    held_grows (casts.a_statement r c d a b p) = stmt_grows p

    pub stmts_grow : {r : Option Ty} {c d : Context} {ss : List Stmt} {ts : List ProgStmt} → CastsCallStmts hs r c ss ts d → Extends c.types d.types
    stmts_grow (casts.done r c) = extends_refl c.types
    stmts_grow (casts.more r c d d2 a b ss ts p q) = extends_trans (stmt_grows p) (stmts_grow q)

-- a part that is held changes no scope
held_keeps : {hs : List Known} {r : Option Ty} {c d : Context} {o : Option Stmt} {p : Option ProgStmt} → CastsCallHeld hs r c o p d → d.scopes ≡ c.scopes
held_keeps (casts.no_statement r c) = refl
held_keeps (casts.a_statement r c d a b p) = refl

pub grown : (xs ys : List Ty) → Extends xs ys → length xs ≤ length ys
grown xs ys e = let a = ap length e.is in let b = length-append xs e.rest in omega arith

-- ---- the variables that are declared are those that follow, in order

-- the numbers from m on, up to n
pub record Follow (m n : ℕ) (xs : List ℕ) : Type 0 where
  pub count : ℕ
  pub sum : m + count ≡ n
  pub is : xs ≡ numbers_from m count

pub numbers_then : (m i j : ℕ) → numbers_from m i ++ numbers_from (m + i) j ≡ numbers_from m (i + j)
numbers_then m zero j = let e : m + 0 ≡ m = omega arith in let z : 0 + j ≡ j = omega arith in ap (λ v. numbers_from v j) e ∙ ap (numbers_from m) (sym z)
numbers_then m (suc i) j =
    let e : m + suc i ≡ suc m + i = omega arith in
    let z : suc i + j ≡ suc (i + j) = omega arith in
    ap (λ v. m ∷ (numbers_from (suc m) i ++ numbers_from v j)) e ∙ ap (λ xs. m ∷ xs) (numbers_then (suc m) i j) ∙ ap (numbers_from m) (sym z)

follow_none : (m : ℕ) → Follow m m []
follow_none m = record { count = 0; sum = omega arith; is = refl }

follow_then : (m n o : ℕ) (xs ys : List ℕ) → Follow m n xs → Follow n o ys → Follow m o (xs ++ ys)
follow_then m n o xs ys f g = record {
  count = f.count + g.count;
  sum = let a = f.sum in let b = g.sum in omega arith;
  is = ap (λ zs. zs ++ ys) f.is ∙ ap (λ zs. numbers_from m f.count ++ zs) (g.is ∙ ap (λ v. numbers_from v g.count) (sym f.sum)) ∙ numbers_then m f.count g.count;
}

follow_one : (types : List Ty) (t : Ty) → Follow (length types) (length (types ++ t ∷ [])) (length types ∷ [])
follow_one types t = record { count = 1; sum = sym (length-append types (t ∷ [])); is = refl }

module _ (hs : List Known) where
  mutual
    unfolding prog_stmt_rows

    pub stmt_follows : {r : Option Ty} {c d : Context} {a : Stmt} {b : ProgStmt} → CastsCallStmt hs r c a b d → Follow (length c.types) (length d.types) (declared_of b.kind)
    stmt_follows (casts.block r c d ss ts s p) = stmts_follow p
    stmt_follows (casts.declare r c x t s) = follow_one c.types t
    stmt_follows (casts.declare_value r c x t e f s p) = follow_one c.types t
    stmt_follows (casts.assign r c target to t op e f s p q) = follow_none (length c.types)
    stmt_follows (casts.step r c target to t up s p) = follow_none (length c.types)
    stmt_follows (casts.choice r c d d2 e f a b o p s x y z) = follow_then (length c.types) (length d.types) (length d2.types) (declared_of b.kind) (declared_held (back-ProgStmtKind-If-2 p)) (stmt_follows y) (held_follows z)
    stmt_follows (casts.while_loop r c d e f a b s x y) = stmt_follows y
    stmt_follows (casts.do_loop r c d e f a b s x y) = stmt_follows x
    stmt_follows (casts.for_loop r c d d2 d3 ss ts e f o p a b s x y z w) =
        follow_then (length c.types) (length d2.types) (length d3.types) (declared_row (hidden-the_row-ProgStmt-0 ts) ++ declared_held (back-ProgStmtKind-If-2 p)) (declared_of b.kind)
        (follow_then (length c.types) (length d.types) (length d2.types) (declared_row (hidden-the_row-ProgStmt-0 ts)) (declared_held (back-ProgStmtKind-If-2 p)) (stmts_follow x) (held_follows z)) (stmt_follows w)
    stmt_follows (casts.leaving r c s) = follow_none (length c.types)
    stmt_follows (casts.continuing r c s) = follow_none (length c.types)
    stmt_follows (casts.return_nothing r c s) = follow_none (length c.types)
    stmt_follows (casts.return_value t c e f s p) = follow_none (length c.types)
    stmt_follows (casts.empty r c s) = follow_none (length c.types)

    held_follows : {r : Option Ty} {c d : Context} {o : Option Stmt} {p : Option ProgStmt} → CastsCallHeld hs r c o p d → Follow (length c.types) (length d.types) (declared_held (back-ProgStmtKind-If-2 p))
    held_follows (casts.no_statement r c) = follow_none (length c.types)
    held_follows (casts.a_statement r c d a b p) = stmt_follows p

    pub stmts_follow : {r : Option Ty} {c d : Context} {ss : List Stmt} {ts : List ProgStmt} → CastsCallStmts hs r c ss ts d → Follow (length c.types) (length d.types) (declared_row (hidden-the_row-ProgStmt-0 ts))
    stmts_follow (casts.done r c) = follow_none (length c.types)
    stmts_follow (casts.more r c d d2 a b ss ts p q) = follow_then (length c.types) (length d.types) (length d2.types) (declared_of b.kind) (declared_row (hidden-the_row-ProgStmt-0 ts)) (stmt_follows p) (stmts_follow q)

-- ---- names in force

-- scopes in which each name stands for an object and each variable is in a list, of which all are below n
pub record Stands (k : Objects) (names : Names) (ss : List Scope) (n : ℕ) (vs : List ℕ) : Type 0 where
  pub scoped : Scoped k names ss
  pub sees : Sees ss vs
  pub below : (w : ℕ) → Contains vs w → w < n

pub opens : (k : Objects) (names : Names) (ss : List Scope) (n : ℕ) (vs : List ℕ) → Stands k names ss n vs → Stands k ([] ∷ names) ([] ∷ ss) n vs
opens k names ss n vs w = record { scoped = record { valid = opened_valid k ss w.scoped.valid; told = λ x. w.scoped.told x }; sees = λ x v t e. w.sees x v t e; below = w.below }

pub later : (k : Objects) (names : Names) (ss : List Scope) (m n : ℕ) (vs : List ℕ) → m ≤ n → Stands k names ss m vs → Stands k names ss n vs
later k names ss m n vs le w = record { scoped = w.scoped; sees = w.sees; below = λ v c. let b = w.below v c in omega arith }

told_if : (b : Bool) (v : ℕ) (t : Ty) (d : Option Declared) (s : Option Sort) → ToldBy d s → ToldBy (cond b (Some (a_var v t)) d) (cond b (Some a_scalar) s)
told_if true v t d s h = tt
told_if false v t d s h = h

told_with : (names : Names) (ss : List Scope) (x : List ℕ) (v : ℕ) (t : Ty) → ((y : List ℕ) → ToldBy (found_in ss y) (sort_of names y)) → (y : List ℕ) → ToldBy (found_in (into_innermost (x, a_var v t) ss) y) (sort_of (with_name x names) y)
told_with [] [] x v t h y = told_if (pointwise ◌==◌ y x) v t (found_in [] y) (sort_of [] y) (h y)
told_with [] (s ∷ ss) x v t h y = told_if (pointwise ◌==◌ y x) v t (found_in (s ∷ ss) y) (sort_of [] y) (h y)
told_with (n ∷ ns) [] x v t h y = told_if (pointwise ◌==◌ y x) v t (found_in [] y) (sort_of (n ∷ ns) y) (h y)
told_with (n ∷ ns) (s ∷ ss) x v t h y = told_if (pointwise ◌==◌ y x) v t (found_in (s ∷ ss) y) (sort_of (n ∷ ns) y) (h y)

same_var : (v w : ℕ) (t u : Ty) → Some (a_var v t) ≡ Some (a_var w u) → v ≡ w
same_var v w t u e = cc

sees_if : (b : Bool) (v : ℕ) (t : Ty) (d : Option Declared) (w : ℕ) (u : Ty) (vs : List ℕ) → (d ≡ Some (a_var w u) → Contains vs w) → cond b (Some (a_var v t)) d ≡ Some (a_var w u) → Contains (v ∷ vs) w
sees_if true v t d w u vs h e = subst (Contains (v ∷ vs)) (same_var v w t u e) (here v vs)
sees_if false v t d w u vs h e = there v vs w (h e)

sees_with : (ss : List Scope) (x : List ℕ) (v : ℕ) (t : Ty) (vs : List ℕ) → Sees ss vs → Sees (into_innermost (x, a_var v t) ss) (v ∷ vs)
sees_with [] x v t vs h y w u e = sees_if (pointwise ◌==◌ y x) v t (found_in [] y) w u vs (h y w u) e
sees_with (s ∷ ss) x v t vs h y w u e = sees_if (pointwise ◌==◌ y x) v t (found_in (s ∷ ss) y) w u vs (h y w u) e

with_one : (k : Objects) (names : Names) (ss : List Scope) (n m : ℕ) (vs : List ℕ) (x : List ℕ) (t : Ty) → IsVar k n t → m ≡ n + 1 → Stands k names ss n vs → Stands k (with_name x names) (into_innermost (x, a_var n t) ss) m (n ∷ vs)
with_one k names ss n m vs x t var e w = record {
  scoped = record { valid = into_valid k ss x (a_var n t) var w.scoped.valid; told = told_with names ss x n t w.scoped.told };
  sees = sees_with ss x n t vs w.sees;
  below = λ v c. by_cases v (member_cases n vs v c);
}
  where
    by_cases : (v : ℕ) → (v ≡ n) ⊎ Contains vs v → v < m
    by_cases v (inl q) = omega arith
    by_cases v (inr c) = let b = w.below v c in omega arith

-- after a declarator
pub declares_one : (k : Objects) (names : Names) (x : List ℕ) (t : Ty) (c : Context) (vs : List ℕ) → Extends (with_var x t c).types k.vars → Stands k names c.scopes (length c.types) vs → Stands k (with_name x names) (with_var x t c).scopes (length (with_var x t c).types) (length c.types ∷ vs)
declares_one k names x t c vs e w = with_one k names c.scopes (length c.types) (length (with_var x t c).types) vs x t (new_var k x t c e) (length-append c.types (t ∷ [])) w

module _ (k : Objects) (hs : List Known) where
  kept : (names : Names) (c d : Context) (vs : List ℕ) → Extends c.types d.types → Stands k names c.scopes (length c.types) vs → Stands k names c.scopes (length d.types) vs
  kept names c d vs e w = later k names c.scopes (length c.types) (length d.types) vs (grown c.types d.types e) w

  pub held_after : {r : Option Ty} {c d : Context} {o : Option Stmt} {p : Option ProgStmt} (names : Names) (vs : List ℕ) → CastsCallHeld hs r c o p d → Stands k names c.scopes (length c.types) vs → Stands k names d.scopes (length d.types) vs
  held_after {c} {d} names vs p w = subst (λ ss. Stands k names ss (length d.types) vs) (sym (held_keeps p)) (kept names c d vs (held_grows hs p) w)

  mutual
    unfolding stmt_rows prog_stmt_rows

    pub stmt_after : {r : Option Ty} {c d : Context} {a : Stmt} {b : ProgStmt} (names : Names) (vs : List ℕ) → CastsCallStmt hs r c a b d → Extends d.types k.vars → Stands k names c.scopes (length c.types) vs
        → Stands k (names_after names a.kind) d.scopes (length d.types) (in_scope_after vs b.kind)
    stmt_after names vs (casts.block r c d ss ts s p) g w = kept names c d vs (stmts_grow hs p) w
    stmt_after names vs (casts.declare r c x t s) g w = declares_one k names x t c vs g w
    stmt_after names vs (casts.declare_value r c x t e f s p) g w = declares_one k names x t c vs g w
    stmt_after names vs (casts.choice r c d d2 e f a b o p s x y z) g w = held_after names vs z (kept names c d vs (stmt_grows hs y) w)
    stmt_after names vs (casts.while_loop r c d e f a b s x y) g w = kept names c d vs (stmt_grows hs y) w
    stmt_after names vs (casts.do_loop r c d e f a b s x y) g w = kept names c d vs (stmt_grows hs x) w
    stmt_after names vs (casts.for_loop r c d d2 d3 ss ts e f o p a b s x y z v) g w = kept names c d3 vs (extends_trans (stmts_grow hs x) (extends_trans (held_grows hs z) (stmt_grows hs v))) w
    stmt_after names vs _ g w = w

    pub stmts_after : {r : Option Ty} {c d : Context} {ss : List Stmt} {ts : List ProgStmt} (names : Names) (vs : List ℕ) → CastsCallStmts hs r c ss ts d → Extends d.types k.vars → Stands k names c.scopes (length c.types) vs
        → Stands k (names_after_row names (hidden-the_row-Stmt-0 ss)) d.scopes (length d.types) (in_scope_after_row vs (hidden-the_row-ProgStmt-0 ts))
    stmts_after names vs (casts.done r c) g w = w
    stmts_after names vs (casts.more r c d d2 a b ss ts p q) g w = stmts_after (names_after names a.kind) (in_scope_after vs b.kind) q g (stmt_after names vs p (extends_trans (stmts_grow hs q) g) w)
