-- A worked normal form, with statements before the condition of its loop: its end, its jumps and its price.
use Rattle.std.proofs.Common.{◌≡◌, ℕ, zero, suc, ◌<◌, List, [], ◌∷◌, get_or, Some, None, refl, ap, arith, inl, inr, rules}
use Rattle.std.proofs.lemmas.List.Elements.{All-nil, All-cons}
use Rattle.std.specs.Prelude.{true, false, pos, codes, All, Contains, ◌⊎◌}
use denote.Hole.Carrier.{hidden}
use Rattle.el_base.specs.declared.ty.Ty.TheVariants.{I32}
use Rattle.c_ast.specs.declared.tree.Binary.TheVariants as op
use Rattle.c_ast.specs.declared.typed.TypedExpr.{TypedExpr}
use Rattle.c_ast.specs.declared.typed.TypedExprKind.TheBlock.{shape-the_row-TypedExpr-0, hidden-the_row-TypedExpr-0, shape-the_row-TypedExpr-1, hidden-the_row-TypedExpr-1}
use Rattle.c_ast.specs.declared.normal.Normal.{Normal}
use Rattle.c_ast.specs.declared.normal.NormalStmt.{NormalStmt}
use Rattle.c_ast.specs.declared.normal.NormalStmtKind.{NormalStmtKind}
use Rattle.c_ast.specs.declared.normal.NormalStmtKind.TheVariants as normal
use Rattle.c_ast.specs.declared.normal.NormalStmtKind.TheBlock.{shape-the_row-NormalStmt-0, hidden-the_row-NormalStmt-0, shape-the_row-NormalStmt-1, hidden-the_row-NormalStmt-1}
use Rattle.el_base.specs.Numbers.{IsInRange}
use Rattle.c_ast.specs.declared.tree.Param.{Param}
use Rattle.c_meaning.specs.Lawful.{AreDimensions, all_normal_vars, LawfulNormalExpr, LawfulNormalStmt, LawfulNormal}
use Rattle.c_meaning.specs.Quiet.{Quiet}
use Rattle.c_meaning.specs.declared.profile.Profile.{Profile}
use Rattle.c_meaning.specs.declared.profile.Profile.TheVariants.{Plain}
use Rattle.c_meaning.specs.Normals.{normal_objects, NormalEnds}
use Rattle.c_meaning.specs.Counts.{NormalCosts}
use Rattle.c_meaning.proofs.Build.{here, number_of, var_of, element_of, two_of, to_var, array, array_of, scalar, inputs}

abbrev step_of : NormalStmtKind → NormalStmt
step_of k = record { kind = k; at = here }

abbrev v : ℕ → TypedExpr
v n = var_of I32 n

-- int32_t f(int32_t n, int32_t a[8]) { int32_t i = 0; while (i < n && a[i] > 0) i++; return i; } : the side that reads the array is evaluated in an if before the condition, into the variable 2, which is not declared
abbrev clear : NormalStmt
clear = step_of (normal.Declare 1 (Some (number_of I32 0)))

abbrev count_up : NormalStmt
count_up = step_of (normal.While
    (step_of (normal.Assign (to_var 2) (two_of op.Lt I32 (v 1) (v 0)))
    ∷ step_of (normal.If [] (v 2) (step_of (normal.Assign (to_var 2) (two_of op.Gt I32 (element_of I32 0 (v 1 ∷ [])) (number_of I32 0)))) None) ∷ [])
    (v 2)
    (step_of (normal.Assign (to_var 1) (two_of op.Add I32 (v 1) (number_of I32 1)))))

abbrev give : NormalStmt
give = step_of (normal.Return (Some (v 1)))

abbrev positive : Normal
positive = record {
  name = codes "f";
  at = here;
  result = Some I32;
  params = scalar I32 ∷ array I32 (8 ∷ []) ∷ [];
  vars = I32 ∷ I32 ∷ I32 ∷ [];
  arrays = array_of I32 (8 ∷ []) ∷ [];
  body = clear ∷ count_up ∷ give ∷ [];
}

-- 1 for the block, the declaration, the loop and the return each; a round takes 6, and the last one 4
positive_ends : NormalEnds positive Plain (inputs (pos 8 ∷ []) ((pos 1 ∷ pos 1 ∷ pos 1 ∷ pos 1 ∷ pos 1 ∷ pos 1 ∷ pos 1 ∷ pos 1 ∷ []) ∷ [])) ((pos 1 ∷ pos 1 ∷ pos 1 ∷ pos 1 ∷ pos 1 ∷ pos 1 ∷ pos 1 ∷ pos 1 ∷ []) ∷ []) (Some (pos 8)) 56
unfolding shape-the_row-TypedExpr-0 hidden-the_row-TypedExpr-0 shape-the_row-TypedExpr-1 hidden-the_row-TypedExpr-1 shape-the_row-NormalStmt-0 hidden-the_row-NormalStmt-0 shape-the_row-NormalStmt-1 hidden-the_row-NormalStmt-1 hidden
positive_ends = record { bound = 56; all_turns = refl; arrays = refl; result = refl }

-- jumps: 2 for each of 9 conditions of the if and 9 of the loop, and 1 for the return.
-- Price: 1 for the first value; in each round 5 for the first assignment, 3 for either condition; in 8 rounds 10 for the assignment with the element, and 5 for the body; 1 for the result.
positive_costs : NormalCosts positive Plain (inputs (pos 8 ∷ []) ((pos 1 ∷ pos 1 ∷ pos 1 ∷ pos 1 ∷ pos 1 ∷ pos 1 ∷ pos 1 ∷ pos 1 ∷ []) ∷ [])) 37 221
unfolding shape-the_row-TypedExpr-0 hidden-the_row-TypedExpr-0 shape-the_row-TypedExpr-1 hidden-the_row-TypedExpr-1 shape-the_row-NormalStmt-0 hidden-the_row-NormalStmt-0 shape-the_row-NormalStmt-1 hidden-the_row-NormalStmt-1 hidden
positive_costs = record { bound = 56; over = tt; all_jumps = refl; whole_price = refl }

-- ---- it is lawful

zero_fits : IsInRange I32 (pos 0)
zero_fits = record { above = search rules; below = search rules }

one_fits : IsInRange I32 (pos 1)
one_fits = record { above = search rules; below = search rules }

apart : (m n : ℕ) → m ≡ n → m < n → ⊥
apart m n e l = omega arith

other_name : (k : ℕ) → k < 1 → get_or (codes "a" ∷ []) k (codes "x") ≡ codes "x" → ⊥
other_name zero l e = apart 97 120 (ap (λ (x : List ℕ). get_or x 0 0) e) (omega arith)
other_name (suc k) l e = omega arith

positive_used : (i : ℕ) → i < 3 → (i < 1) ⊎ Contains (all_normal_vars positive.body) i
unfolding shape-the_row-NormalStmt-0 hidden-the_row-NormalStmt-0 shape-the_row-NormalStmt-1 hidden-the_row-NormalStmt-1 hidden
positive_used zero l = inl (omega arith)
positive_used (suc zero) l = inr (0, omega arith, refl)
positive_used (suc (suc zero)) l = inr (1, omega arith, refl)
positive_used (suc (suc (suc i))) l = absurd (omega arith)

module _ (p : Profile) where
  abbrev IsLawful : NormalStmt → Type 0
  IsLawful s = LawfulNormalStmt (normal_objects p positive) (Some I32) false s.kind

  no_indices : All (LawfulNormalExpr (normal_objects p positive)) []
  no_indices = All-nil (LawfulNormalExpr (normal_objects p positive))

  statements_lawful : All IsLawful positive.body
  unfolding shape-the_row-TypedExpr-0 hidden-the_row-TypedExpr-0 shape-the_row-TypedExpr-1 hidden-the_row-TypedExpr-1 shape-the_row-NormalStmt-0 hidden-the_row-NormalStmt-0 shape-the_row-NormalStmt-1 hidden-the_row-NormalStmt-1 hidden
  statements_lawful = All-cons IsLawful clear (count_up ∷ give ∷ []) (refl, (zero_fits, tt))
      (All-cons IsLawful count_up (give ∷ []) (
        (
          (I32, ((refl, refl), no_indices), refl, (((refl, refl, refl), refl, refl), (tt, tt, tt))),
          ((tt, (refl, tt), (I32, ((refl, refl), no_indices), refl, (((refl, refl, refl), ((array_of I32 (8 ∷ []), refl, refl, refl), (refl, tt)), zero_fits), (tt, (tt, tt), tt))), tt), tt),
        ),
        (refl, tt),
        (I32, ((refl, refl), no_indices), refl, (((refl, refl, refl), refl, one_fits), (tt, tt, tt))),
      )
      (All-cons IsLawful give [] (refl, (refl, tt)) (All-nil IsLawful)))

abbrev MayReturn : NormalStmt → Type 0
MayReturn s = Quiet true s.kind

positive_quiet : All MayReturn positive.body
unfolding shape-the_row-NormalStmt-0 hidden-the_row-NormalStmt-0 shape-the_row-NormalStmt-1 hidden-the_row-NormalStmt-1 hidden
positive_quiet = All-cons MayReturn clear (count_up ∷ give ∷ []) tt
    (All-cons MayReturn count_up (give ∷ []) ((tt, ((tt, tt, tt), tt)), tt) (All-cons MayReturn give [] refl (All-nil MayReturn)))

positive_lawful : LawfulNormal positive
positive_lawful = record {
  header = λ p. record {
    distinct = ((λ m. other_name m.0 m.1 m.2), ((λ m. absurd (omega (arith, m.1))), tt));
    dimensions = All-cons (λ (q : Param). AreDimensions q.dims) (scalar I32) (array I32 (8 ∷ []) ∷ []) (omega arith, All-nil (λ d. 0 < d))
        (All-cons (λ (q : Param). AreDimensions q.dims) (array I32 (8 ∷ [])) [] (omega arith, All-cons (λ d. 0 < d) 8 [] (omega arith) (All-nil (λ d. 0 < d))) (All-nil (λ (q : Param). AreDimensions q.dims)));
    few_elements = omega arith;
    first_vars = refl;
    arrays_are = refl;
  };
  used = positive_used;
  statements = statements_lawful;
  quiet = positive_quiet;
}
