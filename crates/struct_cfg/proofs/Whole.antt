-- The graph of a lawful normal form: it is well formed, its runs follow those of the form, and its last visit shows the variables.
use Rattle.std.proofs.Common.{◌≡◌, ℕ, zero, suc, ◌+◌, ◌-◌, ◌<◌, ◌≤◌, List, [], ◌∷◌, ◌++◌, map, length, get_or, take, Option, Some, None, refl, sym, ◌∙◌, ap, subst, arith, length-append}
use Rattle.std.specs.Prelude.{true, false, ℤ, All, replicate}
use Rattle.std.proofs.lemmas.List.{length-map, length-replicate}
use Rattle.std.proofs.lemmas.List.Elements.{All-head, All-tail}
use Rattle.std.proofs.lemmas.Option.{none-some}
use Rattle.el_base.specs.declared.span.Span.{Span}
use Rattle.el_base.specs.declared.ty.Ty.{Ty}
use Rattle.el_base.specs.declared.ty.Ty.TheVariants.{I32}
use Rattle.el_base.specs.Numbers.{pattern}
use Rattle.el_base.specs.Widths.{ty_width}
use Rattle.c_ast.specs.declared.normal.Normal.{Normal}
use Rattle.c_ast.specs.declared.normal.NormalStmt.{NormalStmt}
use Rattle.ir.specs.Steps.{beginning}
use Rattle.ir.specs.Visits.{Finishes}
use Rattle.ir.specs.Variables.{VarGraph, var_passage}
use Rattle.c_meaning.specs.declared.profile.Profile.{Profile}
use Rattle.c_meaning.specs.KernelPatterns.{scalar_patterns, array_patterns, result_pattern}
use Rattle.c_meaning.specs.Ranges.{NormalOpeningFits}
use Rattle.c_meaning.specs.Runs.{How, normally, by_break}
use Rattle.c_meaning.specs.Stores.{Objects, Inputs, AreInRanges, AreFitting, opening, scalar_types}
use Rattle.c_meaning.specs.Statements.{IsResult, kernel_end}
use Rattle.c_meaning.specs.Normals.{normal_objects, normal_body_run, normal_run}
use Rattle.c_meaning.specs.Counts.{NormalCosts, CostsAreOne, normal_tally}
use Rattle.c_meaning.specs.Quiet.{Quiet}
use Rattle.c_meaning.specs.Lawful.{LawfulNormal, LawfulNormalStmt}
use Rattle.c_meaning.proofs.Ends.{result_over}
use Rattle.struct_cfg.specs.Drafts.{own_values}
use Rattle.struct_cfg.specs.Seen.{IsValue, type_of}
use Rattle.struct_cfg.specs.Shares.{AreSmallArrays}
use Rattle.struct_cfg.specs.Kernels.{empty, form_graph}
use Rattle.struct_cfg.specs.Places.{Setting, spot, At}
use Rattle.struct_cfg.specs.Runs.{first_on, RunsFollow, ShowsVariables, variables_after, VariablesFollow}
use Rattle.struct_cfg.proofs.Types.{OpLaws}
use Rattle.struct_cfg.proofs.ExprLaws.{expr_gives, expr_tells}
use Rattle.struct_cfg.proofs.Stores.{store_gives, small_arrays}
use Rattle.struct_cfg.proofs.Blocks.{length_count_from, get_count_from}
use Rattle.struct_cfg.proofs.Trees.{Leaves}
use Rattle.struct_cfg.proofs.Kernels.{AllLawful, Ended, kernel_runs, one_end}

-- ---- the end of a form's body

body_result : (t : Option Ty) (at : Span) (h : How) (r : Option ℤ) → IsResult t (kernel_end t at h) r → IsResult t h r
body_result (Some t) at normally r i = absurd i
body_result None at by_break r i = i
body_result t at h r i = i

pub all_lawful : (k : Objects) (r : Option Ty) (ss : List NormalStmt) → All (λ s. LawfulNormalStmt k r false s.kind) ss → All (λ s. Quiet true s.kind) ss → AllLawful k r ss
all_lawful k r [] h q = tt
all_lawful k r (s ∷ ss) h q =
    (All-head (λ s. LawfulNormalStmt k r false s.kind) s ss h, All-head (λ s. Quiet true s.kind) s ss q, all_lawful k r ss (All-tail (λ s. LawfulNormalStmt k r false s.kind) s ss h) (All-tail (λ s. Quiet true s.kind) s ss q))

-- ---- the opening store

pub record IsScalar (ts us : List Ty) (ps : List ℕ) (x : ℕ) (z : ℤ) : Type 0 where
  pub below : x < length ps
  pub is : get_or ps x 0 ≡ pattern (get_or us x I32) z

abbrev no_number : Option ℤ
no_number = None

none_there : (n x : ℕ) → get_or (replicate n no_number) x None ≡ None
none_there zero x = refl
none_there (suc n) zero = refl
none_there (suc n) (suc x) = none_there n x

-- a variable that is set at first is a scalar, and the first values are the patterns of the scalars
scalar_shown : (ts us : List Ty) (zs : List ℤ) (n m x : ℕ) (z : ℤ) → AreInRanges ts zs → take (length ts) us ≡ ts → get_or (map Some zs ++ replicate n None) x None ≡ Some z → IsScalar ts us (scalar_patterns ts zs ++ replicate m 0) x z
scalar_shown [] us [] n m x z r t e = absurd (none-some z (sym (none_there n x) ∙ e))
scalar_shown [] us (y ∷ zs) n m x z r t e = absurd r
scalar_shown (t ∷ ts) us [] n m x z r e i = absurd r
scalar_shown (t ∷ ts) [] (y ∷ zs) n m x z r e i = absurd (cc)
scalar_shown (t ∷ ts) (u ∷ us) (y ∷ zs) n m zero z r e i =
    let same : u ≡ t = cc in
    let is : y ≡ z = cc in
    record { below = omega arith; is = ap (λ q. pattern q y) (sym same) ∙ ap (pattern u) is }
scalar_shown (t ∷ ts) (u ∷ us) (y ∷ zs) n m (suc x) z r e i =
    let tail : take (length ts) us ≡ ts = cc in
    let q = scalar_shown ts us zs n m x z r.1 tail i in
    record { below = omega (arith, q.below); is = q.is }

pattern_count : (ts : List Ty) (zs : List ℤ) → AreInRanges ts zs → length (scalar_patterns ts zs) ≡ length zs
pattern_count [] [] r = refl
pattern_count (t ∷ ts) (z ∷ zs) r = omega (arith, pattern_count ts zs r.1)
pattern_count ts zs r = absurd r

scalar_count : (ts : List Ty) (zs : List ℤ) → AreInRanges ts zs → length zs ≡ length ts
scalar_count [] [] r = refl
scalar_count (t ∷ ts) (z ∷ zs) r = omega (arith, scalar_count ts zs r.1)
scalar_count ts zs r = absurd r

take_short : {A : Type 0} (n : ℕ) (xs : List A) → length (take n xs) ≤ length xs
take_short zero xs = omega arith
take_short (suc n) [] = omega arith
take_short (suc n) (x ∷ xs) = omega (arith, take_short n xs)

module _ (laws : OpLaws) (opens : NormalOpeningFits) (f : Normal) (lawful : LawfulNormal f) where
  abbrev graph : VarGraph
  graph = form_graph f

  abbrev setting : Profile → Setting
  setting p = record { graph = graph; objects = normal_objects p f; result = f.result }

  small : (p : Profile) → AreSmallArrays f.arrays
  small p = small_arrays f.params (normal_objects p f) (lawful.header p)

  leaves_of : (p : Profile) → Leaves (setting p)
  leaves_of p =
      let k = normal_objects p f in
      record {
        law = λ e h. record { gives = λ env. expr_gives laws k env (small p) e h; tells = λ env. expr_tells laws k env (small p) e h; range = λ s x t fit q. laws.values_fit k s e x t fit h.0 q };
        stores = λ env a is e named hs h. store_gives laws k (small p) env a is e named hs h;
        conv_same = laws.numbers;
      }

  opened : (p : Profile) (z : Inputs) → AreFitting f.params f.arrays z → At (setting p) (spot (empty (length f.vars))) (first_on f graph z) (opening (normal_objects p f) z)
  opened p z fit =
      let k = normal_objects p f in
      let n = length f.vars in
      let ts = scalar_types f.params in
      let ps = scalar_patterns ts z.scalars in
      let head = lawful.header p in
      let c1 = pattern_count ts z.scalars fit.each_scalar in
      let c2 = scalar_count ts z.scalars fit.each_scalar in
      let short : length ts ≤ n = omega (arith, take_short (length ts) f.vars, ap length head.first_vars) in
      let vars = length-map f.vars ty_width in
      let m = length (map ty_width f.vars) - length ps in
      let l : n - length z.scalars + length z.scalars ≡ n = omega arith in
      let given : List ℕ = ps ++ replicate m 0 in
      record {
        block = refl;
        given = length-append ps (replicate m 0) ∙ (omega (arith, length-replicate {A = ℕ} m 0, vars, c1));
        env = length_count_from 0 n;
        vars = length-append (map Some z.scalars) (replicate (n - length z.scalars) None) ∙ (omega (arith, length-map z.scalars Some, length-replicate (n - length z.scalars) no_number));
        sees = record {
          each = λ x y e.
              let q = scalar_shown ts f.vars z.scalars (n - length z.scalars) m x y fit.each_scalar head.first_vars e in
              let within : x < n = omega (arith, q.below, length-append ps (replicate m 0), length-replicate {A = ℕ} m 0, vars, c1) in
              let own : get_or (own_values n) x 0 ≡ x = get_count_from 0 n x within ∙ omega arith in
              subst (λ i. IsValue (beginning given (array_patterns f.arrays z.arrays)) i (pattern (type_of k x) y)) (sym own) (record { below = q.below; is = q.is });
          arrays = refl;
          fitting = opens f p z lawful fit;
          clean = refl;
        };
      }

  -- what the run of the form within a bound is followed by
  ran : (p : Profile) (z : Inputs) (r : Option ℤ) (n : ℕ) → AreFitting f.params f.arrays z → IsResult f.result (normal_run f p z n).how r
      → (let c = normal_tally f p z n in Ended (setting p) (first_on f graph z) r (normal_run f p z n).store c.jumps c.price)
  ran p z r n fit i =
      let k = normal_objects p f in
      let how = (normal_body_run k f.body (opening k z) n).how in
      kernel_runs (setting p) (leaves_of p) f.body (first_on f graph z) (opening k z) n r (all_lawful k f.result f.body (lawful.statements p) lawful.quiet)
      (record { by = λ b x e. e }) (opened p z fit) (body_result f.result f.at how r i)

  pub runs_follow : CostsAreOne → RunsFollow f graph
  runs_follow one p z out r t jumps price fit e q =
      let c = normal_tally f p z e.bound in
      let mine : NormalCosts f p z c.jumps c.price = record { bound = e.bound; over = result_over f.result (normal_run f p z e.bound).how r e.result; all_jumps = refl; whole_price = refl } in
      let same = one f p z c.jumps jumps c.price price mine q in
      let w = ran p z r e.bound fit e.result in
      let d = w.finished in
      let ends : Finishes (var_passage graph) (first_on f graph z) d.rest (result_pattern f.result r) (array_patterns f.arrays out) =
      subst (λ a. Finishes (var_passage graph) (first_on f graph z) d.rest (result_pattern f.result r) (array_patterns f.arrays a)) (sym e.arrays) d.ends in
      record { rest = d.rest; ends = ends; clean = d.clean; few = omega (arith, d.few, same.0); cheap = omega (arith, d.cheap, same.1) }

  pub variables_follow : VariablesFollow f graph
  variables_follow p z out r t fit e rest q arrays ends =
      let w = ran p z r e.bound fit e.result in
      subst (λ v. ShowsVariables f.vars (normal_run f p z e.bound).store (variables_after graph v)) (one_end graph (first_on f graph z) w.finished.rest rest _ q _ arrays w.finished.ends ends) w.shown
