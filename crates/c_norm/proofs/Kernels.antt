-- The normal form of a lawful kernel ends as the kernel does.
use Rattle.std.proofs.Common.{◌≡◌, ℕ, zero, suc, ◌+◌, ◌-◌, ◌*◌, ◌<◌, ◌≤◌, List, [], ◌∷◌, ◌++◌, map, length, get_or, Option, Some, None, refl, sym, ◌∙◌, ap, subst, arith, length-append, append_assoc}
use Rattle.std.specs.Prelude.{ℤ, replicate}
use Rattle.std.proofs.lemmas.List.{get_or_append_left, length-map, length-replicate}
use Rattle.el_base.specs.declared.span.Span.{Span}
use Rattle.el_base.specs.declared.ty.Ty.{Ty}
use Rattle.el_base.specs.declared.ty.Ty.TheVariants.{I32}
use Rattle.c_ast.specs.Nodes.{typed_nodes}
use Rattle.c_ast.specs.declared.typed.Typed.{Typed}
use Rattle.c_meaning.specs.declared.profile.Profile.{Profile}
use Rattle.c_meaning.specs.declared.profile.Profile.TheVariants.{Plain}
use Rattle.c_meaning.specs.Bounds.{IsOver}
use Rattle.c_meaning.specs.Profiles.{IsDefined}
use Rattle.c_meaning.specs.Stores.{Inputs, AreFitting, opening}
use Rattle.c_meaning.specs.Runs.{How, normally, by_break, by_continue, by_return, undefined, out_of_turns, Ended, turn}
use Rattle.c_meaning.specs.Statements.{Act, act, block, in_order, objects, body_run, kernel_end, with_kernel_end, IsResult}
use Rattle.c_meaning.specs.Normals.{normal_body_run, normal_run}
use Rattle.c_meaning.specs.Counts.{Tally, counts_entering, counts_in_order, acts_of}
use Rattle.c_meaning.specs.Lawful.{Lawful}
use Rattle.c_meaning.specs.Ranges.{ValuesFit, StatementsFit, OpeningFits}
use Rattle.c_norm.specs.Kernels.{body_form, normal_form}
use Rattle.c_norm.specs.Shares.{EndsAlike}
use Rattle.c_norm.proofs.Stores.{Matches, as_many}
use Rattle.c_norm.proofs.Built.{counted_all, acts_are}
use Rattle.c_norm.proofs.Meanings.{wide, TypesAt, Room}
use Rattle.c_norm.proofs.Dimensions.{few_dimensions}
use Rattle.c_norm.proofs.Whole as trees

-- ---- the variables that are made

first_type : (xs : List Ty) (t : Ty) (ts : List Ty) → get_or (xs ++ t ∷ ts) (length xs) I32 ≡ t
first_type [] t ts = refl
first_type (x ∷ xs) t ts = first_type xs t ts

types_at : (xs ts : List Ty) → TypesAt (xs ++ ts) (length xs) ts
types_at xs [] = tt
types_at xs (t ∷ ts) =
    let e : xs ++ t ∷ [] ++ ts ≡ xs ++ t ∷ ts = append_assoc xs (t ∷ []) ts in
    let l : length (xs ++ t ∷ []) ≡ length xs + 1 = length-append xs (t ∷ []) in
    let there : TypesAt (xs ++ t ∷ ts) (length xs + 1) ts = subst (λ n. TypesAt (xs ++ t ∷ ts) n ts) l (subst (λ ws. TypesAt ws (length (xs ++ t ∷ [])) ts) e (types_at (xs ++ t ∷ []) ts)) in
    (first_type xs t ts, there)

pub made_room : (xs ts : List Ty) → Room (xs ++ ts) (length xs) ts
made_room xs ts = record { types = types_at xs ts; within = let l = length-append xs ts in omega arith }

-- ---- the opening store

abbrev none : Option ℤ
none = None

none_at : (m x : ℕ) → get_or (replicate {A = Option ℤ} m None) x None ≡ None
none_at zero x = refl
none_at (suc m) zero = refl
none_at (suc m) (suc x) = none_at m x

-- more unset variables make no difference
padded : (xs : List (Option ℤ)) (m n x : ℕ) → get_or (xs ++ replicate m None) x None ≡ get_or (xs ++ replicate n None) x None
padded [] m n x = none_at m x ∙ sym (none_at n x)
padded (y ∷ xs) m n zero = refl
padded (y ∷ xs) m n (suc x) = padded xs m n x

opening_matches : OpeningFits → (k : Typed) (p : Profile) (z : Inputs) (ws : List Ty) → Lawful k → AreFitting k.params k.arrays z → length k.vars ≤ length ws → Matches (objects p k) (length ws) (opening (objects p k) z) (opening (wide (objects p k) ws) z)
opening_matches opens k p z ws lawful fits le =
    let fit = opens k p z lawful fits in
    let own = as_many k.vars (opening (objects p k) z).vars fit.vars in
    let a = length-append (map Some z.scalars) (replicate {A = Option ℤ} (length k.vars - length z.scalars) None) in
    let b = length-append (map Some z.scalars) (replicate {A = Option ℤ} (length ws - length z.scalars) None) in
    let c = length-map {B = Option ℤ} z.scalars Some in
    let d = length-replicate (length k.vars - length z.scalars) (none) in
    let e = length-replicate (length ws - length z.scalars) (none) in
    record {
      vars = λ x lt. padded (map Some z.scalars) (length k.vars - length z.scalars) (length ws - length z.scalars) x;
      arrays = refl;
      fits = fit;
      long = omega arith;
    }

-- ---- the end of a kernel

ended : (t : Option Ty) (at : Span) (h : How) (r : Option ℤ) → IsResult t (kernel_end t at h) r → IsDefined h × IsOver (kernel_end t at h)
ended None at normally r i = (tt, tt)
ended (Some t) at normally r i = absurd i
ended None at by_break r i = absurd i
ended (Some t) at by_break r i = absurd i
ended None at by_continue r i = absurd i
ended (Some t) at by_continue r i = absurd i
ended None at (by_return v) r i = (tt, tt)
ended (Some t) at (by_return v) r i = (tt, tt)
ended None at (undefined q) r i = absurd i
ended (Some t) at (undefined q) r i = absurd i
ended None at out_of_turns r i = absurd i
ended (Some t) at out_of_turns r i = absurd i

cheap_of : (price cost left bound t : ℕ) → left + t ≡ bound → cost + price * left ≤ price * bound → cost ≤ price * (t + 1)
cheap_of price cost left bound t e h =
    let a : price * bound ≡ price * left + price * t = ap (λ n. price * n) (sym e) ∙ omega arith in
    let b : price * (t + 1) ≡ price * t + price = omega arith in
    omega arith

pub forms_end_alike : ValuesFit → StatementsFit → OpeningFits → (k : Typed) → Lawful k → EndsAlike k (normal_form k)
forms_end_alike fit stay opens k lawful p z out r t fits ends =
    let o = objects p k in
    let types = (body_form k).types in
    let ws = k.vars ++ types in
    let f = normal_form k in
    let long = length-append k.vars types in
    let le : length k.vars ≤ length ws = omega arith in
    let price = 13 * typed_nodes k in
    let own : (v : ℕ) → v < length k.vars → get_or ws v I32 ≡ get_or k.vars v I32 = λ v lt. get_or_append_left k.vars types I32 v lt in
    let flat = few_dimensions k.params o (lawful.header p) in
    let room = made_room k.vars types in
    let row = trees.all_imitated o ws fit stay k.result price le own flat Plain k.body (length k.vars) (omega arith) (lawful.statements p) (omega arith) room in
    let parts = counted_all (wide o ws) f.body in
    let acts = map (act o) k.body in
    let counts = counts_entering parts (counts_in_order parts) in
    let sim = trees.both_turn o ws fit stay k.result price le own flat Plain (block acts) (block (acts_of parts)) counts
    (trees.entered o ws fit stay k.result price le own flat Plain acts parts (in_order acts) (in_order (acts_of parts)) (counts_in_order parts) row.declares row.sim) in
    let s = opening o z in
    let s2 = opening (wide o ws) z in
    let e = body_run o k.body s ends.bound in
    let over = ended k.result k.at e.how r ends.result in
    let q = sim s s2 ends.bound (opening_matches opens k p z ws lawful fits le) over.0 in
    let last : Ended = record { how = e.how; store = q.last; left = 0 } in
    let x = q.takes 0 in
    let body_is : normal_body_run (wide o ws) f.body s2 (q.turns + 0) ≡ last = ap (λ (as_of : List Act). turn (block as_of) s2 (q.turns + 0)) (acts_are (wide o ws) f.body) ∙ x.runs 0 in
    let run_is : normal_run f p z (q.turns + 0) ≡ with_kernel_end k.result k.at last = ap (with_kernel_end k.result k.at) body_is in
    record {
      turns = q.turns;
      jumps = q.jumps;
      price = q.cost;
      ends = record {
        bound = q.turns + 0;
        all_turns = subst (λ (w : Ended). w.left + q.turns ≡ q.turns + 0) (sym run_is) (omega arith);
        arrays = subst (λ (w : Ended). out ≡ w.store.arrays) (sym run_is) (ends.arrays ∙ q.same.arrays);
        result = subst (λ (w : Ended). IsResult k.result w.how r) (sym run_is) ends.result;
      };
      costs = record {
        bound = q.turns + 0;
        over = subst (λ (w : Ended). IsOver w.how) (sym run_is) over.1;
        all_jumps = ap (λ (w : Tally). w.jumps) (x.counted 0);
        whole_price = ap (λ (w : Tally). w.price) (x.counted 0);
      };
      few = let a = q.few in let b = ends.all_turns in omega arith;
      cheap = cheap_of price q.cost e.left ends.bound t ends.all_turns q.cheap;
    }
