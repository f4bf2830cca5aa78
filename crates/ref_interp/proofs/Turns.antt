-- A kernel that is over needs no more turns than it took, and so ends within each bound of at least so many.
use Rattle.std.proofs.Common.{◌≡◌, ℕ, ◌+◌, ◌≤◌, List, Option, sym, ◌∙◌, ap, subst, arith}
use Rattle.std.specs.Prelude.{ℤ}
use Rattle.el_base.specs.declared.ty.Ty.{Ty}
use Rattle.c_meaning.specs.Stores.{opening}
use Rattle.c_meaning.specs.Runs.{Ended}
use Rattle.c_meaning.specs.Bounds.{with_more, KeepsEnd}
use Rattle.c_meaning.specs.Statements.{objects, body_run, with_kernel_end, IsResult, EndsBy}
use Rattle.c_meaning.proofs.Ends.{kernel_end_over, result_over}
use Rattle.ref_interp.specs.Turns.{NeedsNoMore, KernelsNeedNoMore}
use Rattle.ref_interp.proofs.Spare.{body_spare}

pub need_no_more : KernelsNeedNoMore
need_no_more k p i n m o le =
    let ko = objects p k in
    let s = opening ko i in
    let run = body_run ko k.body in
    ap (with_kernel_end k.result k.at) ((body_spare ko k.body (n + 1)).same s n m (omega arith) (kernel_end_over k.result k.at (run s (n + m)).how o) le)

-- ---- what ends within some bound ends within each of at least its turns

-- the same end, with a bound of n turns
pub record EndsAt (t : Option Ty) (run : ℕ → Ended) (out : List (List ℤ)) (r : Option ℤ) (turns n : ℕ) : Type 0 where
  pub all_turns : (run n).left + turns ≡ n
  pub arrays : out ≡ (run n).store.arrays
  pub result : IsResult t (run n).how r

-- with m turns more, or with m fewer, what is told of the end is the same
more_ends : (t : Option Ty) (run : ℕ → Ended) (out : List (List ℤ)) (r : Option ℤ) (turns b m : ℕ) → KeepsEnd run → EndsAt t run out r turns b → EndsAt t run out r turns (b + m)
more_ends t run out r turns b m keeps e =
    let is : run (b + m) ≡ with_more m (run b) = keeps b m (result_over t (run b).how r e.result) in
    let all = e.all_turns in
    record {
      all_turns = ap (λ (x : Ended). x.left + turns) is ∙ omega (arith, all);
      arrays = e.arrays ∙ sym (ap (λ (x : Ended). x.store.arrays) is);
      result = subst (λ h. IsResult t h r) (sym (ap (λ (x : Ended). x.how) is)) e.result;
    }

fewer_ends : (t : Option Ty) (run : ℕ → Ended) (out : List (List ℤ)) (r : Option ℤ) (turns n m : ℕ) → NeedsNoMore run → turns ≤ n → EndsAt t run out r turns (n + m) → EndsAt t run out r turns n
fewer_ends t run out r turns n m needs le e =
    let all = e.all_turns in
    let is : run (n + m) ≡ with_more m (run n) = needs n m (result_over t (run (n + m)).how r e.result) (omega (arith, all, le)) in
    let lefts : (run (n + m)).left ≡ (run n).left + m = ap (λ (x : Ended). x.left) is in
    record {
      all_turns = omega (arith, all, lefts);
      arrays = e.arrays ∙ ap (λ (x : Ended). x.store.arrays) is;
      result = subst (λ h. IsResult t h r) (ap (λ (x : Ended). x.how) is) e.result;
    }

at_bound : (t : Option Ty) (run : ℕ → Ended) (out : List (List ℤ)) (r : Option ℤ) (turns b n : ℕ) → KeepsEnd run → NeedsNoMore run → turns ≤ n → EndsAt t run out r turns b → EndsAt t run out r turns n
at_bound t run out r turns b n keeps needs le e =
    fewer_ends t run out r turns n b needs le (subst (EndsAt t run out r turns) (swap b n) (more_ends t run out r turns b n keeps e))
  where
    swap : (b n : ℕ) → b + n ≡ n + b
    swap b n = omega arith

pub ends_at_bound : (t : Option Ty) (run : ℕ → Ended) (out : List (List ℤ)) (r : Option ℤ) (turns n : ℕ) → KeepsEnd run → NeedsNoMore run → turns ≤ n → EndsBy t run out r turns → EndsAt t run out r turns n
ends_at_bound t run out r turns n keeps needs le e = at_bound t run out r turns e.bound n keeps needs le (record { all_turns = e.all_turns; arrays = e.arrays; result = e.result })
