-- Steps in the open block, and how a closed block leads on.
use Rattle.std.proofs.Common.{◌≡◌, ℕ, zero, suc, ◌+◌, ◌<◌, List, [], ◌∷◌, ◌++◌, map, length, get_or, Option, Some, None, refl, sym, ◌∙◌, ap, subst, arith, length-append, append_assoc}
use Rattle.std.specs.Prelude.{true, false, ℤ}
use Rattle.std.proofs.Math.Seq.{set-append_seam}
use Rattle.std.proofs.lemmas.List.{get_or-map, length-map, get_or_past}
use Rattle.std.proofs.lemmas.Option.{none-some}
use Rattle.std.proofs.lemmas.Grind.{same_number_lists}
use Rattle.std.proofs.lemmas.Bool.{cases_lt}
use Rattle.std.proofs.Common.{⊎_elim}
use Rattle.el_base.specs.Numbers.{IsInRange, pattern}
use Rattle.c_ast.specs.declared.typed.TypedExpr.{TypedExpr}
use Rattle.ir.specs.declared.cfg.CfgBlock.{CfgBlock}
use Rattle.ir.specs.declared.cfg.CfgJump.{CfgJump}
use Rattle.ir.specs.declared.cfg.CfgJump.TheVariants.{Go, Return}
use Rattle.ir.specs.Steps.{Work, value_at, through, beginning}
use Rattle.ir.specs.Visits.{Visit, onto, leaves, Passage, next_of}
use Rattle.ir.specs.Graphs.{result_of}
use Rattle.ir.specs.Variables.{VarGraph, var_block_at, read_values, written, var_onward, var_passage, steps_made}
use Rattle.c_meaning.specs.Stores.{Store, Objects, IsFitting}
use Rattle.c_meaning.specs.KernelPatterns.{result_pattern}
use Rattle.c_meaning.specs.Operators.{is_zero}
use Rattle.c_meaning.specs.Expressions.{value, val}
use Rattle.struct_cfg.specs.declared.draft.Draft.{Draft}
use Rattle.struct_cfg.specs.Drafts.{here, next_value, with_steps, closed, count_from, own_values, writes_from}
use Rattle.struct_cfg.specs.Exprs.{expr_laying, condition_laying}
use Rattle.struct_cfg.specs.Layings.{Laid}
use Rattle.struct_cfg.specs.Seen.{IsValue, Sees, Makes, type_of}
use Rattle.struct_cfg.specs.Runs.{ShowsVariables, variables_after}
use Rattle.struct_cfg.specs.Shares.{GivesValue, GivesTruth, IsTruthOf}
use Rattle.struct_cfg.specs.Places.{Setting, spot, entry, count, work, At, Reach, Gone}
use Rattle.struct_cfg.proofs.Works.{through_append, length_through, still_seen}

-- ---- lists

pub length_count_from : (i n : ℕ) → length (count_from i n) ≡ n
length_count_from i zero = refl
length_count_from i (suc n) = omega (arith, length_count_from (suc i) n)

pub get_count_from : (i n x : ℕ) → x < n → get_or (count_from i n) x 0 ≡ i + x
get_count_from i zero x h = absurd (omega arith)
get_count_from i (suc n) zero h = omega arith
get_count_from i (suc n) (suc x) h = let r = get_count_from (suc i) n x (omega arith) in omega (arith, r)

pub own_read : (vs : List ℕ) (n : ℕ) → length vs ≡ n → map (value_at vs) (own_values n) ≡ vs
own_read vs n l =
    let m = length-map (own_values n) (value_at vs) in
    let c = length_count_from 0 n in
    same_number_lists (map (value_at vs) (own_values n)) vs (omega (arith, m, c))
    (λ i h. let within : i < n = omega (arith, m, c, h) in
    get_or-map (value_at vs) (own_values n) i 0 0 (omega (arith, c)) ∙ ap (value_at vs) (get_count_from 0 n i within ∙ omega arith))

set_middle : (vs : List ℕ) (pre env old : List ℕ) → length env ≡ length old → written vs (writes_from (length pre) env) (pre ++ old) ≡ pre ++ map (value_at vs) env
set_middle vs pre [] [] l = refl
set_middle vs pre [] (x ∷ old) l = absurd (omega arith)
set_middle vs pre (v ∷ env) [] l = absurd (omega arith)
set_middle vs pre (v ∷ env) (x ∷ old) l =
    let y = value_at vs v in
    let more = pre ++ y ∷ [] in
    let one : suc (length pre) ≡ length more = omega (arith, length-append pre (y ∷ [])) in
    ap (λ z. written vs (writes_from (suc (length pre)) env) z) (set-append_seam pre x old y ∙ sym (append_assoc pre (y ∷ []) old))
    ∙ ap (λ i. written vs (writes_from i env) (more ++ old)) one
    ∙ set_middle vs more env old (omega arith)
    ∙ append_assoc pre (y ∷ []) (map (value_at vs) env)

pub all_written : (vs env old : List ℕ) → length env ≡ length old → written vs (writes_from 0 env) old ≡ map (value_at vs) env
all_written vs env old l = set_middle vs [] env old l

pub within_some : {A : Type 0} (xs : List (Option A)) (x : ℕ) (z : A) → get_or xs x None ≡ Some z → x < length xs
within_some xs x z e = ⊎_elim (λ lt. lt) (λ le. absurd (none-some z (sym (get_or_past xs x None le) ∙ e))) (cases_lt x (length xs))

-- what is used of an expression: what its steps make, and that its value lies in its type
pub record ExprLaw (k : Objects) (e : TypedExpr) : Type 0 where
  pub gives : (env : List ℕ) → GivesValue k env e
  pub tells : (env : List ℕ) → GivesTruth k env e
  pub range : (s : Store) (x : ℤ) (t : ℕ) → IsFitting k s → val k s e ≡ value x t → IsInRange e.ty x

-- ---- a closed block

pub record Stands (g : VarGraph) (d : Draft) (j : CfgJump) : Type 0 where
  pub by : var_block_at g (here d) ≡ closed j d

abbrev pass_by : CfgBlock → Visit → Passage
pass_by b v =
    let w = through b.steps (beginning (read_values v.given b) v.arrays) in
    record { values = w.values; arrays = w.arrays; strays = w.strays; onward = var_onward b.jump w.values (written w.values b.writes v.given) }

-- what the visit of a block that stands makes
abbrev pub passed : CfgJump → Draft → Visit → Passage
passed j d v =
    let w = work (spot d) v in
    record { values = w.values; arrays = w.arrays; strays = w.strays; onward = var_onward j w.values (map (value_at w.values) d.env) }

module _ (o : Setting) where
  block_is : (d : Draft) (j : CfgJump) (v : Visit) (s : Store) → At o (spot d) v s → Stands o.graph d j → var_block_at o.graph v.block ≡ closed j d
  block_is d j v s at st = ap (λ b. var_block_at o.graph b) at.block ∙ st.by

  pub passage_is : (d : Draft) (j : CfgJump) (v : Visit) (s : Store) → At o (spot d) v s → Stands o.graph d j → var_passage o.graph v ≡ passed j d v
  passage_is d j v s at st =
      let e1 = ap (λ b. pass_by b v) (block_is d j v s at st) in
      let e2 : map (value_at v.given) (own_values (length d.env)) ≡ v.given = own_read v.given (length d.env) (at.given ∙ sym at.env) in
      let w = work (spot d) v in
      let e3 : written w.values (writes_from 0 d.env) v.given ≡ map (value_at w.values) d.env = all_written w.values d.env v.given (at.env ∙ sym at.given) in
      e1
      ∙ ap (λ r. let w = through d.steps (beginning r v.arrays) in record { values = w.values; arrays = w.arrays; strays = w.strays; onward = var_onward j w.values (written w.values (writes_from 0 d.env) v.given) }) e2
      ∙ ap (λ r. record { values = w.values; arrays = w.arrays; strays = w.strays; onward = var_onward j w.values r }) e3

  pub steps_are : (d : Draft) (j : CfgJump) (v : Visit) (s : Store) → At o (spot d) v s → Stands o.graph d j → steps_made o.graph v ≡ length d.steps
  steps_are d j v s at st = ap (λ b. length b.steps) (block_is d j v s at st)

  abbrev onto_visit : Draft → Visit → ℕ → Visit
  onto_visit d v b = let w = work (spot d) v in record { block = b; given = map (value_at w.values) d.env; arrays = w.arrays }

  -- where the variables are handed on, the store is seen at the beginning of the next block
  at_next : (d : Draft) (v : Visit) (s : Store) (b : ℕ) → At o (spot d) v s → At o (entry (count o) b) (onto_visit d v b) s
  at_next d v s b at =
      let n = count o in
      let w = work (spot d) v in
      let given = map (value_at w.values) d.env in
      let l : length given ≡ n = length-map d.env (value_at w.values) ∙ at.env in
      record {
        block = refl;
        given = l;
        env = length_count_from 0 n;
        vars = at.vars;
        sees = record {
          each = λ x z e.
              let h = at.sees.each x z e in
              let within : x < n = omega (arith, within_some s.vars x z e, at.vars) in
              let own : get_or (own_values n) x 0 ≡ x = get_count_from 0 n x within ∙ omega arith in
              let is : value_at given x ≡ value_at w.values (get_or d.env x 0) = get_or-map (value_at w.values) d.env x 0 0 (omega (arith, at.env)) in
              subst (λ i. IsValue (beginning given w.arrays) i (pattern (type_of o.objects x) z)) (sym own) (record { below = omega (arith, l); is = is ∙ h.is });
          arrays = at.sees.arrays;
          fitting = at.sees.fitting;
          clean = refl;
        };
      }

  -- a block that leads to block b
  pub leads : (d : Draft) (j : CfgJump) (v : Visit) (s : Store) (b : ℕ) → At o (spot d) v s → Stands o.graph d j
      → (let vs = (work (spot d) v).values in var_onward j vs (map (value_at vs) d.env) ≡ onto b (map (value_at vs) d.env))
      → Reach o 0 (spot d) v (entry (count o) b) s 1 0
  leads d j v s b at st to =
      let w = work (spot d) v in
      let p = passage_is d j v s at st in
      record {
        path = v ∷ [];
        to = onto_visit d v b;
        walks = (refl, ap (λ q. q.strays) p ∙ at.sees.clean, (onto_visit d v b, ap (λ q. next_of q.onward q.arrays) p ∙ ap (λ q. next_of q w.arrays) to, refl));
        few = omega arith;
        cheap = omega (arith, steps_are d j v s at st);
        at = at_next d v s b at;
      }

  pub goes : (d : Draft) (v : Visit) (s : Store) (b : ℕ) → At o (spot d) v s → Stands o.graph d (Go b) → Reach o 0 (spot d) v (entry (count o) b) s 1 0
  goes d v s b at st = leads d (Go b) v s b at st refl

  -- the variables after the writes of a block that stands
  variables_are : (d : Draft) (j : CfgJump) (v : Visit) (s : Store) → At o (spot d) v s → Stands o.graph d j → variables_after o.graph v ≡ map (value_at (work (spot d) v).values) d.env
  variables_are d j v s at st =
      let after_block : CfgBlock → List ℕ = λ b. written (through b.steps (beginning (read_values v.given b) v.arrays)).values b.writes v.given in
      let e2 : map (value_at v.given) (own_values (length d.env)) ≡ v.given = own_read v.given (length d.env) (at.given ∙ sym at.env) in
      let w = work (spot d) v in
      ap after_block (block_is d j v s at st)
      ∙ ap (λ r. written (through d.steps (beginning r v.arrays)).values (writes_from 0 d.env) v.given) e2
      ∙ all_written w.values d.env v.given (at.env ∙ sym at.given)

  shows : (d : Draft) (j : CfgJump) (v : Visit) (s : Store) → At o (spot d) v s → Stands o.graph d j → ShowsVariables o.objects.vars s (variables_after o.graph v)
  shows d j v s at st = record {
    each = λ x z e.
        let w = work (spot d) v in
        let within : x < length d.env = omega (arith, within_some s.vars x z e, at.vars, at.env) in
        let i = at.sees.each x z e in
        ap (λ vs. value_at vs x) (variables_are d j v s at st) ∙ get_or-map (value_at w.values) d.env x 0 0 within ∙ i.is;
  }

  -- a block that returns
  pub returns : (d : Draft) (v : Visit) (s : Store) (r : Option ℕ) (z : Option ℤ) → At o (spot d) v s → Stands o.graph d (Return r) → result_of (work (spot d) v).values r ≡ result_pattern o.result z → Gone o 0 (spot d) v z s 1 0
  returns d v s r z at st is =
      let p = passage_is d (Return r) v s at st in
      record {
        path = [];
        last = v;
        walks = refl;
        result = ap (λ q. q.onward) p ∙ ap leaves is;
        arrays = ap (λ q. q.arrays) p ∙ at.sees.arrays;
        clean = ap (λ q. q.strays) p ∙ at.sees.clean;
        shown = shows d (Return r) v s at st;
        few = omega arith;
        cheap = omega (arith, steps_are d (Return r) v s at st);
      }

  -- ---- an expression in the open block

  pub next_is : (d : Draft) (v : Visit) (s : Store) → At o (spot d) v s → length (work (spot d) v).values ≡ next_value d
  next_is d v s at = omega (arith, length_through d.steps (beginning v.given v.arrays), at.given, at.env)

  -- what steps that are laid in the open block make
  pub record Evaluated (l : Laid) (d : Draft) (v : Visit) (s : Store) (p : ℕ) : Type 0 where
    pub at : At o (spot (with_steps l.steps d)) v s
    pub is : IsValue (work (spot (with_steps l.steps d)) v) l.value p

  pub laid : (l : Laid) (d : Draft) (v : Visit) (s : Store) (p : ℕ) → At o (spot d) v s → Makes (work (spot d) v) l p → Evaluated l d v s p
  laid l d v s p at m =
      let w = work (spot d) v in
      let run : work (spot (with_steps l.steps d)) v ≡ through l.steps w = through_append d.steps l.steps (beginning v.given v.arrays) in
      record {
        at = record {
          block = at.block;
          given = at.given;
          env = at.env;
          vars = at.vars;
          sees = subst (λ u. Sees o.objects d.env u s) (sym run) (still_seen o.objects d.env w (through l.steps w) s m.adds at.sees);
        };
        is = subst (λ (u : Work). IsValue u l.value p) (sym run) m.is;
      }

  pub evaluated : (e : TypedExpr) (d : Draft) (v : Visit) (s : Store) (x : ℤ) (t : ℕ) → ExprLaw o.objects e → At o (spot d) v s → val o.objects s e ≡ value x t
      → Evaluated (expr_laying o.objects.arrays d.env e (next_value d)) d v s (pattern e.ty x)
  evaluated e d v s x t law at is =
      let w = work (spot d) v in
      let g = law.gives d.env in
      let m : Makes w (expr_laying o.objects.arrays d.env e (next_value d)) (pattern e.ty x) = subst (λ m. Makes w (expr_laying o.objects.arrays d.env e m) (pattern e.ty x)) (next_is d v s at) (g.gives w s x t at.sees is) in
      laid (expr_laying o.objects.arrays d.env e (next_value d)) d v s (pattern e.ty x) at m

  -- the truth of a condition in the open block
  pub record Told (e : TypedExpr) (d : Draft) (v : Visit) (s : Store) (x : ℤ) : Type 0 where
    pub flag : ℕ
    pub evaluated : Evaluated (condition_laying o.objects.arrays d.env e (next_value d)) d v s flag
    pub none : is_zero x ≡ true → flag ≡ 0
    pub some : is_zero x ≡ false → 0 < flag

  pub told : (e : TypedExpr) (d : Draft) (v : Visit) (s : Store) (x : ℤ) (t : ℕ) → ExprLaw o.objects e → At o (spot d) v s → val o.objects s e ≡ value x t → Told e d v s x
  told e d v s x t law at is =
      let w = work (spot d) v in
      let g = law.tells d.env in
      let m : IsTruthOf w (condition_laying o.objects.arrays d.env e (next_value d)) x = subst (λ m. IsTruthOf w (condition_laying o.objects.arrays d.env e m) x) (next_is d v s at) (g.gives w s x t at.sees is) in
      record { flag = m.flag; evaluated = laid (condition_laying o.objects.arrays d.env e (next_value d)) d v s m.flag at m.makes; none = m.none; some = m.some }
