-- Where a normal form ends, the run of its graph returns with the patterns of its arrays and result.
use Rattle.std.proofs.Common.{◌≡◌, ℕ, ◌+◌, ◌≤◌, List, [], ◌∷◌, ◌++◌, map, length, Option, Some, None, refl, sym, ◌∙◌, ap, subst, arith, length-append}
use Rattle.std.proofs.lemmas.Option.{same_Some}
use Rattle.std.specs.Prelude.{true, false, ℤ, flat_map}
use Rattle.el_base.specs.declared.ty.Ty.{Ty}
use Rattle.c_ast.specs.declared.typed.ArrayOf.{ArrayOf}
use Rattle.c_ast.specs.declared.normal.NormalStmt.{NormalStmt}
use Rattle.ir.specs.declared.cfg.CfgJump.TheVariants.{Return}
use Rattle.ir.specs.Visits.{Visit, next_visit, next_of, Returns, Finishes, over_visits, strays_of}
use Rattle.ir.specs.Finished.{Finished}
use Rattle.ir.specs.Variables.{VarGraph, var_passage, steps_made}
use Rattle.c_meaning.specs.Stores.{Store, Objects, unset_vars}
use Rattle.c_meaning.specs.Runs.{How, normally, by_return, turn}
use Rattle.c_meaning.specs.Statements.{Act, entering, in_order, block, IsResult}
use Rattle.c_meaning.specs.Normals.{normal_act, normal_kind_act}
use Rattle.c_meaning.specs.Counts.{counting_after, counts_in_order, counts_entering, acts_of, counted, kind_counts}
use Rattle.c_meaning.specs.Lawful.{LawfulNormalStmt}
use Rattle.struct_cfg.specs.declared.draft.Draft.{Draft}
use Rattle.struct_cfg.specs.Lowering.{lower}
use Rattle.struct_cfg.specs.Lists.{lower_all}
use Rattle.c_meaning.specs.Quiet.{Quiet}
use Rattle.struct_cfg.specs.Kernels.{empty, finish, kernel_draft}
use Rattle.struct_cfg.specs.Runs.{ShowsVariables, variables_after, last_of}
use Rattle.struct_cfg.specs.Places.{Setting, Spot, spot, count, At, Path, Gone, Frame, Follow}
use Rattle.c_meaning.specs.KernelPatterns.{array_patterns, result_pattern}
use Rattle.c_meaning.proofs.CountGrowth.{list_acts}
use Rattle.struct_cfg.proofs.Walks.{Does, ends_do, turn_does, both_do, gone_then, gone_more}
use Rattle.struct_cfg.proofs.Blocks.{returns, length_count_from}
use Rattle.struct_cfg.proofs.Lays.{Holds, before_close, stands_last, grown_kind, grown_all}
use Rattle.struct_cfg.proofs.Leaves.{unset_all}
use Rattle.struct_cfg.proofs.Trees.{Leaves, kind_does}

-- ---- lists of statements

abbrev pub AllLawful : Objects → Option Ty → List NormalStmt → Type 0
AllLawful k r [] = Unit {0}
AllLawful k r (s ∷ ss) = LawfulNormalStmt k r false s.kind × Quiet true s.kind × AllLawful k r ss

-- ---- from walks to runs

next_finishes : (g : VarGraph) (x y : Visit) (zs : List Visit) (w : Visit) (r : Option ℕ) (arrays : List (List ℕ)) → next_visit (var_passage g) x ≡ Some y → Path g y zs w → Returns (var_passage g) w r arrays → Finishes (var_passage g) x (zs ++ w ∷ []) r arrays
next_finishes g x y [] w r arrays e p ret = (e ∙ ap Some p, ret)
next_finishes g x y (z ∷ zs) w r arrays e p ret = (e ∙ ap Some p.0, next_finishes g z p.2.0 zs w r arrays p.2.1 p.2.2 ret)

-- the visits of a walk but the first, the last one included
abbrev behind : List Visit → Visit → List Visit
behind [] w = []
behind (x ∷ xs) w = xs ++ w ∷ []

path_finishes : (g : VarGraph) (v : Visit) (xs : List Visit) (w : Visit) (r : Option ℕ) (arrays : List (List ℕ)) → Path g v xs w → Returns (var_passage g) w r arrays → Finishes (var_passage g) v (behind xs w) r arrays
path_finishes g v [] w r arrays p ret = subst (λ u. Returns (var_passage g) u r arrays) (sym p) ret
path_finishes g v (x ∷ xs) w r arrays p ret = subst (λ u. Finishes (var_passage g) u (xs ++ w ∷ []) r arrays) (sym p.0) (next_finishes g x p.2.0 xs w r arrays p.2.1 p.2.2 ret)

path_list : (g : VarGraph) (v : Visit) (xs : List Visit) (w : Visit) → Path g v xs w → v ∷ behind xs w ≡ xs ++ w ∷ []
path_list g v [] w p = ap (λ u. u ∷ []) p
path_list g v (x ∷ xs) w p = ap (λ u. u ∷ (xs ++ w ∷ [])) p.0

last_append : (x : Visit) (xs : List Visit) (w : Visit) → last_of x (xs ++ w ∷ []) ≡ w
last_append x [] w = refl
last_append x (y ∷ ys) w = last_append y ys w

path_last : (g : VarGraph) (v : Visit) (xs : List Visit) (w : Visit) → Path g v xs w → last_of v (behind xs w) ≡ w
path_last g v [] w p = p
path_last g v (x ∷ xs) w p = last_append v xs w

path_clean : (g : VarGraph) (v : Visit) (xs : List Visit) (w : Visit) → Path g v xs w → (var_passage g w).strays ≡ 0 → strays_of (var_passage g) (xs ++ w ∷ []) ≡ 0
path_clean g v [] w p e = omega (arith, e)
path_clean g v (x ∷ xs) w p e = omega (arith, p.1, path_clean g p.2.0 xs w p.2.2 e)

over_last : (f : Visit → ℕ) (xs : List Visit) (w : Visit) → over_visits f (xs ++ w ∷ []) ≡ over_visits f xs + f w
over_last f [] w = omega arith
over_last f (x ∷ xs) w = omega (arith, over_last f xs w)

behind_long : (xs : List Visit) (w : Visit) → length (behind xs w) ≡ length xs
behind_long [] w = refl
behind_long (x ∷ xs) w = omega (arith, length-append xs (w ∷ []))

no_next : (g : VarGraph) (v w : Visit) (r : Option ℕ) (arrays : List (List ℕ)) → Returns (var_passage g) v r arrays → next_visit (var_passage g) v ≡ Some w → ⊥
no_next g v w r arrays ret e = let n : next_visit (var_passage g) v ≡ None = ap (λ o. next_of o (var_passage g v).arrays) ret.result in absurd (cc)

pub one_end : (g : VarGraph) (v : Visit) (xs ys : List Visit) (r q : Option ℕ) (as_of bs : List (List ℕ)) → Finishes (var_passage g) v xs r as_of → Finishes (var_passage g) v ys q bs → last_of v xs ≡ last_of v ys
one_end g v [] [] r q as_of bs a b = refl
one_end g v [] (y ∷ ys) r q as_of bs a b = absurd (no_next g v y r as_of a b.0)
one_end g v (x ∷ xs) [] r q as_of bs a b = absurd (no_next g v x q bs b a.0)
one_end g v (x ∷ xs) (y ∷ ys) r q as_of bs a b =
    let same : y ≡ x = same_Some y x (sym b.0 ∙ a.0) in
    one_end g x xs ys r q as_of bs a.1 (subst (λ u. Finishes (var_passage g) u ys q bs) same b.1) ∙ ap (λ u. last_of u ys) (sym same)

module _ (o : Setting) where
  -- the run to a return, with the variables that its last visit shows
  pub record Ended (v : Visit) (r : Option ℤ) (s : Store) (j c : ℕ) : Type 0 where
    pub finished : Finished (var_passage o.graph) v (result_pattern o.result r) (array_patterns o.objects.arrays s.arrays) (steps_made o.graph) j c
    pub shown : ShowsVariables o.objects.vars s (variables_after o.graph (last_of v finished.rest))

  ended_by : (p : Spot) (v : Visit) (r : Option ℤ) (s : Store) (j c : ℕ) → Gone o 0 p v r s (1 + j) c → length p.steps ≡ 0 → Ended v r s j c
  ended_by p v r s j c g z =
      let all : v ∷ behind g.path g.last ≡ g.path ++ g.last ∷ [] = path_list o.graph v g.path g.last g.walks in
      let clean : strays_of (var_passage o.graph) (v ∷ behind g.path g.last) ≡ 0 = ap (strays_of (var_passage o.graph)) all ∙ path_clean o.graph v g.path g.last g.walks g.clean in
      let many : over_visits (steps_made o.graph) (v ∷ behind g.path g.last) ≡ over_visits (steps_made o.graph) g.path + steps_made o.graph g.last = ap (over_visits (steps_made o.graph)) all ∙ over_last (steps_made o.graph) g.path g.last in
      record {
        finished = record {
          rest = behind g.path g.last;
          ends = path_finishes o.graph v g.path g.last (result_pattern o.result r) (array_patterns o.objects.arrays s.arrays) g.walks (record { result = g.result; last_arrays = g.arrays });
          clean = clean;
          few = omega (arith, g.few, behind_long g.path g.last);
          cheap = subst (λ n. n ≤ c) (sym many) (omega (arith, g.cheap, z));
        };
        shown = subst (λ u. ShowsVariables o.objects.vars s (variables_after o.graph u)) (sym (path_last o.graph v g.path g.last g.walks)) g.shown;
      }

  module _ (leaves : Leaves o) where
    abbrev arrays : List ArrayOf
    arrays = o.objects.arrays

    abbrev outer : Frame
    outer = record { loop = false; free = true; break_to = 0; continue_to = 0 }

    list_does : (ss : List NormalStmt) (d : Draft) → length d.env ≡ count o → AllLawful o.objects o.result ss → Holds o.graph (lower_all arrays 0 0 ss d).blocks
        → Does o 0 0 outer (spot d) (spot (lower_all arrays 0 0 ss d)) (in_order (acts_of (map (counted o.objects) ss))) (counts_in_order (map (counted o.objects) ss))
    list_does [] d l w h = ends_do o 0 outer (spot d)
    list_does (s ∷ ss) d l w h =
        let d1 = lower arrays 0 0 s.kind d in
        let g = grown_kind arrays 0 0 s.kind d in
        let rest = map (counted o.objects) ss in
        both_do o 0 0 outer (spot d) (spot d1) (spot (lower_all arrays 0 0 ss d1)) (normal_kind_act o.objects s.kind).run (in_order (acts_of rest)) (kind_counts o.objects s.kind) (counts_in_order rest)
        (kind_does o leaves outer s.kind d l w.0 w.1 ((grown_all arrays 0 0 ss d1).kept o.graph h)) (list_does ss d1 (g.env ∙ l) w.2 h)

    -- how the block of a form ends: normally, which is its end where it gives nothing, or by return
    ended : (body : List NormalStmt) (v : Visit) (w : How) (s : Store) (r : Option ℤ) (j c : ℕ) (t : Option Ty) → o.result ≡ t → (let d = lower_all arrays 0 0 body (empty (count o)) in Holds o.graph (finish t d).blocks
        → Follow o 0 0 outer (spot (empty (count o))) v (spot d) w s j c → IsResult t w r → Gone o 0 (spot (empty (count o))) v r s (1 + j) c)
    ended body v normally s r j c None e h f i =
        let d = lower_all arrays 0 0 body (empty (count o)) in
        let p = spot (empty (count o)) in
        let is : None ≡ result_pattern o.result None = ap (λ t. result_pattern t None) (sym e) in
        let g = returns o d f.to s None None f.at (stands_last o.graph d (Return None) h) is in
        let all = gone_then o 0 p (spot d) v None s s j c 1 0 f g in
        subst (λ z. Gone o 0 p v z s (1 + j) c) (sym i) (gone_more o 0 0 p v None s (j + 1) (c + 0) (1 + j) c all (omega arith) (omega arith))
    ended body v (by_return z) s r j c None e h f i = subst (λ u. Gone o 0 (spot (empty (count o))) v u s (1 + j) c) (sym i) (gone_more o 0 0 (spot (empty (count o))) v z s j c (1 + j) c f.1 (omega arith) (omega arith))
    ended body v (by_return z) s r j c t e h f i = subst (λ u. Gone o 0 (spot (empty (count o))) v u s (1 + j) c) (sym i) (gone_more o 0 0 (spot (empty (count o))) v z s j c (1 + j) c f.1 (omega arith) (omega arith))
    ended body v w s r j c None e h f i = absurd i
    ended body v w s r j c t e h f i = absurd i

    before_finish : (t : Option Ty) (d : Draft) → Holds o.graph (finish t d).blocks → Holds o.graph d.blocks
    before_finish None d h = before_close o.graph d (Return None) h
    before_finish (Some t) d h = record { by = λ b x e. (before_close o.graph _ _ h).by b x e }

    -- the whole: the form's run with a bound that is enough, from the opening store, against the graph from a first visit where that store is seen
    pub kernel_runs : (body : List NormalStmt) (v : Visit) (s : Store) (n : ℕ) (r : Option ℤ) → AllLawful o.objects o.result body → Holds o.graph (kernel_draft arrays o.result (count o) body).blocks → At o (spot (empty (count o))) v s
        → (let e = turn (block (map (normal_act o.objects) body)) s n in
        let parts = map (counted o.objects) body in
        let c = counting_after 1 (counts_entering parts (counts_in_order parts)) s n in
        IsResult o.result e.how r → Ended v r e.store c.jumps c.price)
    kernel_runs body v s n r w h at i =
        let d0 = empty (count o) in
        let d = lower_all arrays 0 0 body d0 in
        let parts = map (counted o.objects) body in
        let a = in_order (acts_of parts) in
        let k = counts_in_order parts in
        let inside = list_does body d0 (length_count_from 0 (count o)) w (before_finish o.result d h) in
        let scoped : Does o 0 0 outer (spot d0) (spot d) (entering (acts_of parts) a) (counts_entering parts k) = λ v s m at.
        let xs = flat_map (λ (x : Act). x.declares) (acts_of parts) in inside v (unset_vars xs s) m (unset_all o (spot d0) v xs s at) in
        let listed : Does o 0 0 outer (spot d0) (spot d) (block (map (normal_act o.objects) body)) (counts_entering parts k) = subst (λ (u : List Act). Does o 0 0 outer (spot d0) (spot d) (block u) (counts_entering parts k)) (list_acts o.objects body) scoped in
        let e = turn (block (map (normal_act o.objects) body)) s n in
        let c = counting_after 1 (counts_entering parts k) s n in
        let f = turn_does o 0 0 outer (spot d0) (spot d) (block (map (normal_act o.objects) body)) (counts_entering parts k) listed v s n at in
        ended_by (spot d0) v r e.store c.jumps c.price (ended body v e.how e.store r c.jumps c.price o.result refl h f i) refl
