-- The block of a call against the call: both ways; and a call among the expressions that hold it.
use Rattle.std.proofs.Common.{◌≡◌, ℕ, ℤ, ◌+◌, ◌<◌, ◌≤◌, List, [], ◌∷◌, ◌++◌, length, map, Some, refl, sym, ◌∙◌, ap, subst, arith}
use Rattle.std.proofs.lemmas.List.{map-append}
use Rattle.std.proofs.lemmas.Grind.{flat_map-append}
use Rattle.std.proofs.lemmas.Option.{same_Some}
use Rattle.el_base.specs.declared.span.Span.{Span}
use Rattle.el_base.specs.declared.ty.Ty.{Ty}
use Rattle.c_ast.specs.declared.typed.TypedExpr.{TypedExpr}
use Rattle.c_ast.specs.declared.typed.TypedStmt.{TypedStmt}
use Rattle.c_meaning.specs.Stores.{Store, Objects, read_var}
use Rattle.c_meaning.specs.Expressions.{value, Vals, undefined_values, values, Meaning, after_turns, later, all_values, meaning}
use Rattle.c_meaning.specs.Profiles.{IsDefined}
use Rattle.c_meaning.specs.Runs.{How, normally, Ended, Run, both_runs}
use Rattle.c_meaning.specs.Statements.{Act, act, in_order}
use Rattle.c_meaning.proofs.ValueParts.{later_is, after_is}
use Rattle.c_meaning.proofs.StoreParts.{Below, below_then}
use Rattle.c_meaning.proofs.RunParts.{go_end}
use Rattle.c_calls.specs.Meanings.{Called, called}
use Rattle.c_calls.specs.Inlined.{Writing}
use Rattle.c_calls.specs.Lawful.{Signature}
use Rattle.c_calls.proofs.Stores.{below_less}
use Rattle.c_calls.proofs.Imitates.{Rel, ended}
use Rattle.c_calls.proofs.Expands.{acts, acts_append, go_of, Reaches, reach_both, Means, Gives, Done, Undone, declares_of, Expands, Near}
use Rattle.c_calls.proofs.Values.{val_means, val_gives, vals_means, vals_gives}

-- ---- one statement alone

go_normal : (h : How) (b : Run) (s : Store) (n : ℕ) → h ≡ normally → go_of b (ended h s n) ≡ b s n
go_normal h b s n e = ap (λ i. go_of b (ended i s n)) e

pub reach_one : (a : Act) (t last : Store) (n : ℕ) → Reaches a.run t n last → Reaches (in_order (a ∷ [])) t n last
reach_one a t last n x l = ap (go_of (in_order [])) (x l)

stays_normal : (h : How) (s : Store) (n : ℕ) → go_of (in_order []) (ended h s n) ≡ ended h s n
stays_normal normally s n = refl
stays_normal h s n = refl

pub one_alone : (a : Act) (t : Store) (n : ℕ) → in_order (a ∷ []) t n ≡ a.run t n
one_alone a t n = let e = a.run t n in stays_normal e.how e.store e.left

-- ---- the block of a call

pub record Filled (f fresh : ℕ) (run : Run) (t : Store) (y : ℤ) : Type 0 where
  pub turns : ℕ
  pub last : Store
  pub takes : Reaches run t turns last
  pub kept : Below f t last
  pub read : read_var last fresh ≡ Some y

pub record Called_by (f fresh : ℕ) (left : Gives (List ℤ)) (c : ℕ → Called) (t : Store) (l : ℕ) (e : Ended) : Type 0 where
  pub normal : e.how ≡ normally
  pub kept : Below f t e.store
  pub less : e.left ≤ l
  pub given : List ℤ
  pub had : left t given
  pub result : ℤ
  pub least : ℕ
  pub uses : ℕ
  pub is : (i : ℕ) → c (least + i) given ≡ value result uses
  pub read : read_var e.store fresh ≡ Some result

-- in stores of at least n variables: a call that gives y is a block that leaves y in its fresh variable, and a block that ran comes from a call
pub record IsCallBlock (n : ℕ) (K : Objects) (f g : ℕ) (block : TypedStmt) (fresh : ℕ) (left : Gives (List ℤ)) (c : ℕ → Called) : Type 0 where
  pub from : f ≤ fresh
  pub to : fresh < g
  pub quiet : (act K block).declares ≡ []
  pub forth : (m : ℕ) (t : Store) (zs : List ℤ) (y : ℤ) (d : ℕ) → length t.vars ≡ n → left t zs → c m zs ≡ value y d → d ≤ m → Filled f fresh (act K block).run t y
  pub back : (t : Store) (l : ℕ) → length t.vars ≡ n → IsDefined ((act K block).run t l).how → Called_by f fresh left c t l ((act K block).run t l)

-- types stand in a list from a place on
pub record Seg (vars : List Ty) (f : ℕ) (ts : List Ty) : Type 0 where
  pub pre : List Ty
  pub post : List Ty
  pub is : vars ≡ pre ++ (ts ++ post)
  pub at : length pre ≡ f

abbrev pub Depends : {X : Type 0} → ℕ → Gives X → Type 0
Depends {X} f left = (r q : Store) (x : X) → Below f r q → left r x → left q x

-- what is left of each argument reads none from f on
abbrev pub EachDepends : Objects → ℕ → List TypedExpr → Type 0
EachDepends K f [] = Unit {0}
EachDepends K f (e ∷ es) = Depends f (val_gives (meaning K e)) × EachDepends K f es

pub each_less : (K : Objects) (f g : ℕ) (es : List TypedExpr) → f ≤ g → EachDepends K f es → EachDepends K g es
each_less K f g [] le d = tt
each_less K f g (e ∷ es) le d = ((λ r q x w h. d.0 r q x (below_less f g r q le w) h), each_less K f g es le d.1)

-- the calls of a helper are written so that each block is that of a call
abbrev pub Writes : ℕ → Objects → Signature → Writing → (ℕ → Called) → Type 0
Writes n K g w c = (f : ℕ) (es : List TypedExpr) (at : Span) → length es ≡ length g.params → Seg K.vars f (w f es at).types → EachDepends K f es
    → IsCallBlock n K f (f + length (w f es at).types) (w f es at).block (w f es at).fresh (vals_gives (map (meaning K) es)) c

-- ---- a call as an expression

record Call (c : Called) (vs : Vals) (y : ℤ) (u : ℕ) : Type 0 where
  given : List ℤ
  turns : ℕ
  uses : ℕ
  all : vs ≡ values given turns
  is : c given ≡ value y uses
  sum : u ≡ turns + uses

call_is : (c : Called) (vs : Vals) (y : ℤ) (u : ℕ) → called c vs ≡ value y u → Call c vs y u
call_is c (undefined_values p) y u e = absurd (cc)
call_is c (values zs t) y u e = let h = later_is t u (c zs) y e in record { given = zs; turns = t; uses = h.r; all = refl; is = h.is; sum = h.all }

module _ (n : ℕ) (K : Objects) (R : Rel) (f h g : ℕ) (args : ℕ → List Meaning) (left : Gives (List ℤ)) (before : List TypedStmt) (block : TypedStmt) (fresh : ℕ) (c : ℕ → Called) (at : Span) (near : Near R f) (long : (s t : Store) → R s t → length t.vars ≡ n)
    (e : Expands K R f h (vals_means args) before left) (w : IsCallBlock n K h g block fresh left c) where
  abbrev calls : Means ℤ
  calls = val_means (λ n s. called (c n) (all_values (args n) s))

  abbrev fresh_gives : Gives ℤ
  fresh_gives = val_gives (λ r. after_turns at 0 (read_var r fresh))

  all_run : (t : Store) (l : ℕ) → in_order (acts K (before ++ block ∷ [])) t l ≡ both_runs (in_order (acts K before)) (in_order (act K block ∷ [])) t l
  all_run t l = acts_append K before (block ∷ []) t l

  forth_at : (m : ℕ) (s t : Store) (y : ℤ) (u : ℕ) → R s t → calls m s y u → u ≤ m → Done f fresh_gives (in_order (acts K (before ++ block ∷ []))) t y
  forth_at m s t y u r x lt =
      let k = call_is (c m) (all_values (args m) s) y u x in
      let d = e.forth m s t k.given k.turns r k.all (let i = k.sum in omega arith) in
      let z = w.forth m d.last k.given y k.uses (long s d.last (near s t d.last r d.kept)) d.has k.is (let i = k.sum in omega arith) in
      record {
        turns = d.turns + z.turns;
        last = z.last;
        takes = λ l. all_run t (d.turns + z.turns + l) ∙ reach_both (in_order (acts K before)) (in_order (act K block ∷ [])) t d.last z.last d.turns z.turns d.takes (reach_one (act K block) d.last z.last z.turns z.takes) l;
        kept = below_then f f h t d.last z.last (omega arith) e.more d.kept z.kept;
        has = (0, ap (after_turns at 0) z.read);
      }

  back_at : (s t : Store) (l : ℕ) → R s t → IsDefined (in_order (acts K (before ++ block ∷ [])) t l).how → Undone f calls fresh_gives s t l (in_order (acts K (before ++ block ∷ [])) t l)
  back_at s t l r d =
      let z = in_order (acts K before) t l in
      let d0 = subst (λ (e : Ended). IsDefined e.how) (all_run t l) d in
      let u1 = e.back s t l r (go_end z.how (in_order (act K block ∷ [])) z.store z.left d0) in
      let is = all_run t l ∙ go_normal z.how (in_order (act K block ∷ [])) z.store z.left u1.normal ∙ one_alone (act K block) z.store z.left in
      let v = (act K block).run z.store z.left in
      let u2 = w.back z.store z.left (long s z.store (near s t z.store r u1.kept)) (subst (λ (e : Ended). IsDefined e.how) is d) in
      let made : Undone f calls fresh_gives s t l v = record {
        normal = u2.normal;
        kept = below_then f f h t z.store v.store (omega arith) e.more u1.kept u2.kept;
        less = let a = u1.less in let b = u2.less in omega arith;
        gave = λ y x.
            let g1 = u1.gave u2.given u2.had in
            let same : u2.result ≡ y = same_Some u2.result y (sym u2.read ∙ (after_is at 0 x.0 (read_var v.store fresh) y x.1).0) in
            record {
              least = g1.least + u2.least;
              uses = g1.uses + u2.uses;
              is = λ i.
                  let a : g1.least + u2.least + i ≡ g1.least + (u2.least + i) = omega arith in
                  let b : g1.least + u2.least + i ≡ u2.least + (g1.least + i) = omega arith in
                  ap (λ j. called (c (g1.least + u2.least + i)) (all_values (args j) s)) a ∙ ap (called (c (g1.least + u2.least + i))) (g1.is (u2.least + i)) ∙ ap (λ j. later g1.uses (c j u2.given)) b ∙ ap (later g1.uses) (u2.is (g1.least + i)) ∙ ap (λ q. value q (g1.uses + u2.uses)) same;
            };
      } in
      subst (λ (e0 : Ended). Undone f calls fresh_gives s t l e0) (sym is) made

  pub call_expands : Expands K R f g calls (before ++ block ∷ []) fresh_gives
  call_expands = record {
    more = let a = e.more in let b = w.from in let d = w.to in omega arith;
    quiet = ap declares_of (map-append (act K) before (block ∷ [])) ∙ flat_map-append (λ (a : Act). a.declares) (acts K before) (act K block ∷ []) ∙ ap (λ ds. ds ++ declares_of (act K block ∷ [])) e.quiet ∙ ap (λ ds. ds ++ []) w.quiet;
    depends = λ r q y z x. (x.0, ap (after_turns at 0) (sym (z.vars fresh w.to)) ∙ x.1);
    forth = forth_at;
    back = back_at;
  }
