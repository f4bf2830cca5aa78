-- One more parameter after others.
use Rattle.std.proofs.Common.{◌≡◌, ℕ, ◌+◌, ◌-◌, ◌^◌, min, nat_lt, Bool, not, ◌||◌, List, [], ◌∷◌, ◌++◌, length, Option, refl, sym, ap, ◌∙◌, arith, append-nil, append_assoc}
use Rattle.std.proofs.lemmas.Bool.Decides.{nat_tests}
use Rattle.std.specs.List.{list_any}
use Rattle.std.specs.Prelude.{nat_eq}
use Rattle.el_base.specs.Limits.{max_dimensions, max_elements}
use Rattle.c_ast.specs.declared.tree.Param.{Param}
use Rattle.c_ast.specs.Typing.{elements_of}
use Rattle.c_types.specs.declared.fault.Rule.TheVariants as rule
use Rattle.c_types.specs.declared.fault.Fault.{Fault}
use Rattle.c_types.specs.Places.{earlier, first_of}
use Rattle.c_types.specs.Scopes.{is_new_in, with_entry}
use Rattle.c_types.specs.Faults.{Sorts, unless, sort_of_dims, param_faults, params_faults, sorts_after_params}
use Rattle.c_types.proofs.FirstFaults.{of_two}

abbrev pub all_elements : List Param → ℕ
all_elements [] = 0
all_elements (p ∷ ps) = elements_of p.dims + all_elements ps

pub all_elements-append : (ps : List Param) (p : Param) → all_elements (ps ++ p ∷ []) ≡ all_elements ps + elements_of p.dims
all_elements-append [] p = no_more (elements_of p.dims)
  where
    no_more : (n : ℕ) → n + 0 ≡ 0 + n
    no_more n = omega arith
all_elements-append (q ∷ ps) p = ap (λ n. elements_of q.dims + n) (all_elements-append ps p) ∙ regroup (elements_of q.dims) (all_elements ps) (elements_of p.dims)
  where
    regroup : (a b c : ℕ) → a + (b + c) ≡ (a + b) + c
    regroup a b c = omega arith

pub sorts_after_params-append : (ps : List Param) (p : Param) (v : Sorts) → sorts_after_params v (ps ++ p ∷ []) ≡ with_entry p.name (sort_of_dims p.dims) (sorts_after_params v ps)
sorts_after_params-append [] p v = refl
sorts_after_params-append (q ∷ ps) p v = sorts_after_params-append ps p (with_entry q.name (sort_of_dims q.dims) v)

-- the faults of one more parameter
abbrev last_param : List Param → Param → Sorts → ℕ → List Fault
last_param ps p v n = param_faults p (is_new_in (sorts_after_params v ps) p.name) ((n + all_elements ps) + elements_of p.dims)

params_faults-append : (ps : List Param) (p : Param) (v : Sorts) (n : ℕ) → params_faults (ps ++ p ∷ []) v n ≡ params_faults ps v n ++ last_param ps p v n
params_faults-append [] p v n =
    append-nil (param_faults p (is_new_in v p.name) (n + elements_of p.dims)) ∙ ap (param_faults p (is_new_in v p.name)) (no_more n (elements_of p.dims))
  where
    no_more : (a b : ℕ) → a + b ≡ (a + 0) + b
    no_more a b = omega arith
params_faults-append (q ∷ ps) p v n =
    ap (λ fs. here ++ fs) (params_faults-append ps p next (n + elements_of q.dims))
    ∙ sym (append_assoc here (params_faults ps next (n + elements_of q.dims)) (last_param ps p next (n + elements_of q.dims)))
    ∙ ap (λ k. (here ++ params_faults ps next (n + elements_of q.dims)) ++ param_faults p (is_new_in (sorts_after_params next ps) p.name) k) (regroup n (elements_of q.dims) (all_elements ps) (elements_of p.dims))
  where
    here : List Fault
    here = param_faults q (is_new_in v q.name) (n + elements_of q.dims)

    next : Sorts
    next = with_entry q.name (sort_of_dims q.dims) v

    regroup : (a b c d : ℕ) → ((a + b) + c) + d ≡ (a + (b + c)) + d
    regroup a b c d = omega arith

-- a number of elements above the limit may be cut where it is far above
cut : (p : Param) (new : Bool) (n : ℕ) → param_faults p new (min n (2 ^ 64 - 1)) ≡ param_faults p new n
cut p new n =
    ap (λ b. unless new rule.Redeclared p.at ++ (unless (not (nat_lt max_dimensions (length p.dims))) rule.Dimensions p.at ++ unless (not (list_any (λ d. nat_eq d 0) p.dims || b)) rule.Length p.at)) (same n)
  where
    same : (n : ℕ) → nat_lt max_elements (min n (2 ^ 64 - 1)) ≡ nat_lt max_elements n
    same n = grind (arith, nat_tests)

pub one_more_total : (ps us : List Param) (p : Param) (total next el : ℕ) → us ≡ ps ++ p ∷ [] → total ≡ min (all_elements ps) (2 ^ 64 - 1) → el ≡ min (elements_of p.dims) (2 ^ 64 - 1)
    → next ≡ min (total + el) (2 ^ 64 - 1) → next ≡ min (all_elements us) (2 ^ 64 - 1)
one_more_total ps us p total next el is t_is el_is n_is = joined (all_elements ps) (elements_of p.dims) total next el t_is el_is n_is ∙ sym (ap (λ n. min n (2 ^ 64 - 1)) (ap all_elements is ∙ all_elements-append ps p))
  where
    joined : (a b total next el : ℕ) → total ≡ min a (2 ^ 64 - 1) → el ≡ min b (2 ^ 64 - 1) → next ≡ min (total + el) (2 ^ 64 - 1) → next ≡ min (a + b) (2 ^ 64 - 1)
    joined a b total next el h h2 h3 = omega arith

pub one_more_scope : (ps us : List Param) (p : Param) (v w x : Sorts) → us ≡ ps ++ p ∷ [] → w ≡ sorts_after_params v ps → x ≡ with_entry p.name (sort_of_dims p.dims) w → x ≡ sorts_after_params v us
one_more_scope ps us p v w x is w_is x_is = x_is ∙ ap (with_entry p.name (sort_of_dims p.dims)) w_is ∙ sym (sorts_after_params-append ps p v) ∙ sym (ap (sorts_after_params v) is)

pub one_more_fault : (ps us : List Param) (p : Param) (v w : Sorts) (new : Bool) (total next el : ℕ) (a b o : Option Fault) → us ≡ ps ++ p ∷ [] → a ≡ first_of (params_faults ps v 0)
    → w ≡ sorts_after_params v ps → new ≡ is_new_in w p.name → next ≡ min (all_elements us) (2 ^ 64 - 1) → b ≡ first_of (param_faults p new next) → o ≡ earlier a b
    → o ≡ first_of (params_faults us v 0)
one_more_fault ps us p v w new total next el a b o is p_is w_is new_is n_is b_is h =
    of_two (params_faults ps v 0) (last_param ps p v 0) (params_faults us v 0) a b o (ap (λ us. params_faults us v 0) is ∙ params_faults-append ps p v 0) p_is
    (b_is ∙ ap (λ k. first_of (param_faults p new k)) (n_is ∙ ap (λ us. min (all_elements us) (2 ^ 64 - 1)) is ∙ ap (λ n. min n (2 ^ 64 - 1)) (all_elements-append ps p))
    ∙ ap first_of (cut p new (all_elements ps + elements_of p.dims)) ∙ ap (λ b. first_of (param_faults p b (all_elements ps + elements_of p.dims))) (new_is ∙ ap (λ w. is_new_in w p.name) w_is)
    ∙ ap (λ k. first_of (param_faults p (is_new_in (sorts_after_params v ps) p.name) (k + elements_of p.dims))) (from_zero (all_elements ps)))
    h
  where
    from_zero : (n : ℕ) → n ≡ 0 + n
    from_zero n = omega arith
