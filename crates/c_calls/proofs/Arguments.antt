-- The arguments of a call: the parameters are declared with them one after another, as the store of the call has them.
use Rattle.std.proofs.Common.{◌≡◌, ℕ, ℤ, zero, suc, ◌+◌, ◌<◌, ◌≤◌, List, [], ◌∷◌, ◌++◌, length, map, take, get_or, Option, Some, None, refl, sym, ◌∙◌, ap, subst, arith}
use Rattle.std.specs.Prelude.{slice_get, unwrap_or}
use Rattle.std.proofs.lemmas.List.{length-set}
use Rattle.std.proofs.lemmas.Option.{unwrap_or-slice_get}
use Rattle.el_base.specs.declared.span.Span.{Span}
use Rattle.el_base.specs.declared.ty.Ty.{Ty}
use Rattle.el_base.specs.declared.ty.Ty.TheVariants.{I32}
use Rattle.c_ast.specs.declared.tree.Param.{Param}
use Rattle.c_ast.specs.declared.typed.Object.TheVariants as object
use Rattle.c_ast.specs.declared.typed.TypedExpr.{TypedExpr}
use Rattle.c_ast.specs.declared.typed.TypedStmtKind.TheVariants as stmt
use Rattle.c_meaning.specs.Types.{conv}
use Rattle.c_meaning.specs.Stores.{Store, Objects, read_var}
use Rattle.c_meaning.specs.Expressions.{Meaning, values, value, meaning, all_values, with_first}
use Rattle.c_meaning.specs.Profiles.{IsDefined}
use Rattle.c_meaning.specs.Runs.{normally, Ended, Run, turn, both_runs, with_value}
use Rattle.c_meaning.specs.Statements.{Act, of_var, object_type, storing, in_order, kind_act}
use Rattle.c_meaning.proofs.TreeEquations.{stmt_declare}
use Rattle.c_meaning.proofs.ValueParts.{firsts}
use Rattle.c_meaning.proofs.StoreParts.{Below, below_same, below_then}
use Rattle.c_meaning.proofs.RunParts.{go_end}
use Rattle.c_calls.specs.Meanings.{converted_to}
use Rattle.c_calls.specs.Inlined.{declaring}
use Rattle.c_calls.proofs.Stores.{below_back, put, put_same, put_other, put_below}
use Rattle.c_calls.proofs.Imitates.{ended}
use Rattle.c_calls.proofs.Expands.{acts, go_of, Reaches, reach_both, UsesLeft, left_turn}
use Rattle.c_calls.proofs.Values.{val_gives}
use Rattle.c_calls.proofs.Blocks.{EachDepends}
use Rattle.c_calls.proofs.Own.{value_left}

-- the variables from v on are set to numbers, each converted to its type
abbrev pub sets : Objects → ℕ → List ℤ → Store → Store
sets K v [] r = r
sets K v (z ∷ zs) r = sets K (v + 1) zs (put v (Some (conv (object_type K (object.Var v)) z)) r)

pub sets_below : (K : Objects) (f v : ℕ) (zs : List ℤ) (r : Store) → f ≤ v → Below f r (sets K v zs r)
sets_below K f v [] r le = below_same f r
sets_below K f v (z ∷ zs) r le =
    let r1 = put v (Some (conv (object_type K (object.Var v)) z)) r in
    below_then f f f r r1 (sets K (v + 1) zs r1) (omega arith) (omega arith) (put_below f v (Some (conv (object_type K (object.Var v)) z)) r le) (sets_below K f (v + 1) zs r1 (omega arith))

pub sets_past : (K : Objects) (v x : ℕ) (zs : List ℤ) (r : Store) → v + length zs ≤ x → read_var (sets K v zs r) x ≡ read_var r x
sets_past K v x [] r le = refl
sets_past K v x (z ∷ zs) r le =
    let w = Some (conv (object_type K (object.Var v)) z) in
    sets_past K (v + 1) x zs (put v w r) (omega arith) ∙ put_other v x w r (λ e. omega arith)

-- ---- forth and back

abbrev one_run : Objects → ℕ → TypedExpr → Run
one_run K v e = turn (with_value (meaning K e) (storing (object_type K (object.Var v)) (of_var v)))

one_uses : (K : Objects) (v : ℕ) (e : TypedExpr) → UsesLeft (val_gives (meaning K e)) (one_run K v e) (storing (object_type K (object.Var v)) (of_var v))
one_uses K v e = left_turn (val_gives (meaning K e)) (with_value (meaning K e) (storing (object_type K (object.Var v)) (of_var v))) (storing (object_type K (object.Var v)) (of_var v)) (value_left (meaning K e) (storing (object_type K (object.Var v)) (of_var v)))

one_is : (K : Objects) (v : ℕ) (e : TypedExpr) → (kind_act K (stmt.Declare v (Some e))).run ≡ one_run K v e
one_is K v e = ap (λ (a : Act). a.run) (stmt_declare v (Some e) K)

pub args_reach : (K : Objects) (at : Span) (es : List TypedExpr) (zs : List ℤ) (u v f : ℕ) (t r : Store) → f ≤ v → EachDepends K f es → Below f t r → all_values (map (meaning K) es) t ≡ values zs u → (m : ℕ) × Reaches (in_order (acts K (declaring v es at))) r m (sets K v zs r)
args_reach K at [] [] u v f t r le d near e = (0, λ l. let h : 0 + l ≡ l = omega arith in ap (λ i. ended normally r i) h)
args_reach K at [] (z ∷ zs) u v f t r le d near e = absurd (cc)
args_reach K at (x ∷ es) zs u v f t r le d near e =
    let o = firsts (meaning K x t) (all_values (map (meaning K) es) t) zs u e in
    let here = d.0 t r o.x near (o.t, o.first) in
    let r1 = put v (Some (conv (object_type K (object.Var v)) o.x)) r in
    let k = (one_uses K v x).up r o.x here in
    let near1 = below_then f f f t r r1 (omega arith) (omega arith) near (put_below f v (Some (conv (object_type K (object.Var v)) o.x)) r le) in
    let rest = args_reach K at es o.xs o.r (v + 1) f t r1 (omega arith) d.1 near1 o.rest in
    let first : Reaches (kind_act K (stmt.Declare v (Some x))).run r k.0 r1 = λ l. ap (λ g. g r (k.0 + l)) (one_is K v x) ∙ k.1 l tt in (
      k.0 + rest.0,
      subst (λ ws. Reaches (in_order (acts K (declaring v (x ∷ es) at))) r (k.0 + rest.0) (sets K v ws r)) (sym o.is)
          (reach_both (kind_act K (stmt.Declare v (Some x))).run (in_order (acts K (declaring (v + 1) es at))) r r1 (sets K (v + 1) o.xs r1) k.0 rest.0 first rest.1),
    )

pub record ArgsBack (K : Objects) (es : List TypedExpr) (v : ℕ) (t r : Store) (l : ℕ) (e : Ended) : Type 0 where
  pub normal : e.how ≡ normally
  pub given : List ℤ
  pub turns : ℕ
  pub all : all_values (map (meaning K) es) t ≡ values given turns
  pub last : e.store ≡ sets K v given r
  pub less : e.left ≤ l

pub args_back : (K : Objects) (at : Span) (es : List TypedExpr) (v f : ℕ) (t r : Store) (l : ℕ) → f ≤ v → EachDepends K f es → Below f t r → IsDefined (in_order (acts K (declaring v es at)) r l).how → ArgsBack K es v t r l (in_order (acts K (declaring v es at)) r l)
args_back K at [] v f t r l le d near q = record { normal = refl; given = []; turns = 0; all = refl; last = refl; less = omega arith }
args_back K at (x ∷ es) v f t r l le d near q =
    let a = (kind_act K (stmt.Declare v (Some x))).run in
    let more = in_order (acts K (declaring (v + 1) es at)) in
    let e1 = a r l in
    let d1 = go_end e1.how more e1.store e1.left q in
    let is1 : a r l ≡ one_run K v x r l = ap (λ g. g r l) (one_is K v x) in
    let p = (one_uses K v x).down r l (subst (λ (z : Ended). IsDefined z.how) is1 d1) in
    let r1 = put v (Some (conv (object_type K (object.Var v)) p.given)) r in
    let is : both_runs a more r l ≡ more r1 p.rest = ap (go_of more) (is1 ∙ p.is) in
    let near1 = below_then f f f t r r1 (omega arith) (omega arith) near (put_below f v (Some (conv (object_type K (object.Var v)) p.given)) r le) in
    let k = args_back K at es (v + 1) f t r1 p.rest (omega arith) d.1 near1 (subst (λ (z : Ended). IsDefined z.how) is q) in
    let there = d.0 r t p.given (below_back f t r near) p.first in
    let made : ArgsBack K (x ∷ es) v t r l (more r1 p.rest) = record {
      normal = k.normal;
      given = p.given ∷ k.given;
      turns = there.0 + k.turns;
      all = ap (λ w. with_first w (all_values (map (meaning K) es) t)) there.1 ∙ ap (λ w. with_first (value p.given there.0) w) k.all;
      last = k.last;
      less = let h = k.less in let g = p.less in omega arith;
    } in
    subst (λ (z : Ended). ArgsBack K (x ∷ es) v t r l z) (sym is) made

pub values_count : (ms : List Meaning) (s : Store) (zs : List ℤ) (u : ℕ) → all_values ms s ≡ values zs u → length zs ≡ length ms
values_count [] s [] u e = refl
values_count [] s (z ∷ zs) u e = absurd (cc)
values_count (m ∷ ms) s zs u e = let o = firsts (m s) (all_values ms s) zs u e in ap length o.is ∙ ap suc (values_count ms s o.xs o.r o.rest)

-- ---- as the store of the call has them

abbrev pub TypedFrom : Objects → ℕ → List Param → Type 0
TypedFrom K v [] = Unit {0}
TypedFrom K v (q ∷ qs) = (object_type K (object.Var v) ≡ q.ty) × TypedFrom K (v + 1) qs

pub args_same : (K : Objects) (qs : List Param) (zs : List ℤ) (v j : ℕ) (r : Store) (rest : List (Option ℤ)) → length zs ≡ length qs → TypedFrom K v qs → v + length qs ≤ length r.vars → j < length qs
    → get_or (map Some (converted_to qs zs) ++ rest) j None ≡ read_var (sets K v zs r) (v + j)
args_same K [] zs v j r rest c ty le lt = absurd (omega arith)
args_same K (q ∷ qs) [] v j r rest c ty le lt = absurd (omega arith)
args_same K (q ∷ qs) (z ∷ zs) v zero r rest c ty le lt =
    let w = Some (conv (object_type K (object.Var v)) z) in
    let near = sets_below K (v + 1) (v + 1) zs (put v w r) (omega arith) in
    let at : v + 0 ≡ v = omega arith in
    ap (λ t. Some (conv t z)) (sym ty.0) ∙ sym (put_same v w r (omega arith)) ∙ near.vars v (omega arith) ∙ ap (λ i. read_var (sets K (v + 1) zs (put v w r)) i) (sym at)
args_same K (q ∷ qs) (z ∷ zs) v (suc i) r rest c ty le lt =
    let w = Some (conv (object_type K (object.Var v)) z) in
    let at : v + 1 + i ≡ v + suc i = omega arith in
    let size = length-set r.vars v w in
    args_same K qs zs (v + 1) i (put v w r) rest (omega arith) ty.1 (omega arith) (omega arith) ∙ ap (λ i. read_var (sets K (v + 1) zs (put v w r)) i) at

-- ---- types of parameters

pub slice_right : {A : Type 0} (xs ys : List A) (i : ℕ) → slice_get (xs ++ ys) (length xs + i) ≡ slice_get ys i
slice_right [] ys i = let e : 0 + i ≡ i = omega arith in ap (slice_get ys) e
slice_right (x ∷ xs) ys i = let e : length (x ∷ xs) + i ≡ suc (length xs + i) = omega arith in ap (slice_get (x ∷ (xs ++ ys))) e ∙ slice_right xs ys i

pub slice_left : {A : Type 0} (xs ys : List A) (i : ℕ) → i < length xs → slice_get (xs ++ ys) i ≡ slice_get xs i
slice_left [] ys i lt = absurd (omega arith)
slice_left (x ∷ xs) ys zero lt = refl
slice_left (x ∷ xs) ys (suc i) lt = slice_left xs ys i (omega arith)

pub ty_head : (x y : Ty) (xs ys : List Ty) → x ∷ xs ≡ y ∷ ys → x ≡ y
ty_head x y xs ys e = cc

pub ty_tail : (x y : Ty) (xs ys : List Ty) → x ∷ xs ≡ y ∷ ys → xs ≡ ys
ty_tail x y xs ys e = cc

pub params_fit : (qs : List Param) (vars : List Ty) → take (length qs) vars ≡ map (λ (q : Param). q.ty) qs → length qs ≤ length vars
params_fit [] vars e = omega arith
params_fit (q ∷ qs) [] e = absurd (cc)
params_fit (q ∷ qs) (x ∷ xs) e = let h = params_fit qs xs (ty_tail x q.ty (take (length qs) xs) (map (λ (q : Param). q.ty) qs) e) in omega arith

pub typed_from : (K : Objects) (qs : List Param) (vars : List Ty) (f : ℕ) → take (length qs) vars ≡ map (λ (q : Param). q.ty) qs → ((i : ℕ) → i < length vars → slice_get K.vars (f + i) ≡ slice_get vars i) → TypedFrom K f qs
typed_from K [] vars f e h = tt
typed_from K (q ∷ qs) [] f e h = absurd (cc)
typed_from K (q ∷ qs) (x ∷ xs) f e h =
    let at : f + 0 ≡ f = omega arith in (
      sym (unwrap_or-slice_get K.vars f I32) ∙ ap (λ o. unwrap_or o I32) (ap (slice_get K.vars) (sym at) ∙ h 0 (omega arith)) ∙ ty_head x q.ty (take (length qs) xs) (map (λ (q : Param). q.ty) qs) e,
      typed_from K qs xs (f + 1) (ty_tail x q.ty (take (length qs) xs) (map (λ (q : Param). q.ty) qs) e) (λ i lt. let m : f + 1 + i ≡ f + suc i = omega arith in ap (slice_get K.vars) m ∙ h (suc i) (omega arith)),
    )
