-- Steps behind others, and strays counted from another number.
use Rattle.std.proofs.Common.{◌≡◌, ℕ, ◌+◌, List, [], ◌∷◌, ◌++◌, refl, ap, ◌∙◌, arith}
use Rattle.ir.specs.declared.instr.Instr.{Instr}
use Rattle.ir.specs.Steps.{Work, after_step, step_strays, through}

pub through_append : (xs ys : List Instr) (w : Work) → through (xs ++ ys) w ≡ through ys (through xs w)
through_append [] ys w = refl
through_append (x ∷ xs) ys w = through_append xs ys (after_step x w)

-- the same work with s more strays
abbrev pub more_strays : ℕ → Work → Work
more_strays s w = record { values = w.values; arrays = w.arrays; strays = s + w.strays }

pub through_more : (is : List Instr) (s : ℕ) (w : Work) → through is (more_strays s w) ≡ more_strays s (through is w)
through_more [] s w = refl
through_more (i ∷ is) s w =
    let k : (s + w.strays) + step_strays i w.values w.arrays ≡ s + (w.strays + step_strays i w.values w.arrays) = omega arith in
    let e : after_step i (more_strays s w) ≡ more_strays s (after_step i w) =
    ap (λ n. record { values = (after_step i w).values; arrays = (after_step i w).arrays; strays = n }) k in
    ap (through is) e ∙ through_more is s (after_step i w)
