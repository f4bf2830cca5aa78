-- An expression with calls against the blocks of its calls and what is left of it: both ways.
-- With calls it gives a number in so many turns, for each bound on the turns of calls; what is left gives a number in whatever turns.
use Rattle.std.specs.List.{flat_map}
use Rattle.std.proofs.Common.{◌≡◌, ℕ, zero, suc, ◌+◌, ◌≤◌, List, [], ◌∷◌, ◌++◌, map, refl, sym, ◌∙◌, ap, subst, arith}
use Rattle.std.specs.Prelude.{Bool}
use Rattle.std.proofs.lemmas.List.{map-append}
use Rattle.std.proofs.lemmas.Grind.{flat_map-append}
use Rattle.c_ast.specs.declared.typed.TypedStmt.{TypedStmt}
use Rattle.c_meaning.specs.Stores.{Store, Objects}
use Rattle.c_meaning.specs.Profiles.{IsDefined}
use Rattle.c_meaning.specs.Runs.{How, normally, Ended, Run, turn, go_on, both_runs}
use Rattle.c_meaning.specs.Statements.{Act, act, in_order}
use Rattle.c_meaning.proofs.StoreParts.{Below, below_same, below_then}
use Rattle.c_meaning.proofs.RunParts.{go_end, go_assoc}
use Rattle.c_calls.proofs.Stores.{below_back, below_less}
use Rattle.c_calls.proofs.Imitates.{Rel, ended, Imitates, Sims}

abbrev pub acts : Objects → List TypedStmt → List Act
acts K ss = map (act K) ss

-- ---- one after another

pub run_append : (xs ys : List Act) (s : Store) (n : ℕ) → in_order (xs ++ ys) s n ≡ both_runs (in_order xs) (in_order ys) s n
run_append [] ys s n = refl
run_append (x ∷ xs) ys s n = let e = x.run s n in go_assoc e.how (in_order xs) (in_order ys) (in_order (xs ++ ys)) (run_append xs ys) e.store e.left

pub acts_append : (K : Objects) (xs ys : List TypedStmt) (s : Store) (n : ℕ) → in_order (acts K (xs ++ ys)) s n ≡ both_runs (in_order (acts K xs)) (in_order (acts K ys)) s n
acts_append K xs ys s n = ap (λ zs. in_order zs s n) (map-append (act K) xs ys) ∙ run_append (acts K xs) (acts K ys) s n

abbrev pub go_of : Run → Ended → Ended
go_of b z = go_on z.how b z.store z.left

-- a run that ends normally with any turns beyond so many
abbrev pub Reaches : Run → Store → ℕ → Store → Type 0
Reaches run t turns last = (l : ℕ) → run t (turns + l) ≡ ended normally last l

pub reach_both : (a b : Run) (t r q : Store) (m n : ℕ) → Reaches a t m r → Reaches b r n q → Reaches (both_runs a b) t (m + n) q
reach_both a b t r q m n x y l = let e : m + n + l ≡ m + (n + l) = omega arith in ap (λ i. both_runs a b t i) e ∙ ap (go_of b) (x (n + l)) ∙ y l

go_normal : (h : How) (b : Run) (s : Store) (n : ℕ) → h ≡ normally → go_on h b s n ≡ b s n
go_normal h b s n e = ap (λ i. go_on i b s n) e

-- ---- what an expression gives

abbrev pub Means : Type 0 → Type 1
Means X = ℕ → Store → X → ℕ → Type 0

abbrev pub Gives : Type 0 → Type 1
Gives X = Store → X → Type 0

pub record Done {X : Type 0} (f : ℕ) (left : Gives X) (run : Run) (t : Store) (x : X) : Type 0 where
  pub turns : ℕ
  pub last : Store
  pub takes : Reaches run t turns last
  pub kept : Below f t last
  pub has : left last x

-- with each bound on the turns of calls from some on, in the same turns
pub record Gave {X : Type 0} (m : Means X) (s : Store) (x : X) : Type 0 where
  pub least : ℕ
  pub uses : ℕ
  pub is : (i : ℕ) → m (least + i) s x uses

pub record Undone {X : Type 0} (f : ℕ) (m : Means X) (left : Gives X) (s t : Store) (l : ℕ) (e : Ended) : Type 0 where
  pub normal : e.how ≡ normally
  pub kept : Below f t e.store
  pub less : e.left ≤ l
  pub gave : (x : X) → left e.store x → Gave m s x

abbrev pub declares_of : List Act → List ℕ
declares_of xs = flat_map (λ a. a.declares) xs

-- Where the stores are related by R. The blocks change variables from f to g alone, and what is left reads none from g on.
pub record Expands {X : Type 0} (K : Objects) (R : Rel) (f g : ℕ) (m : Means X) (before : List TypedStmt) (left : Gives X) : Type 0 where
  pub more : f ≤ g
  pub quiet : declares_of (acts K before) ≡ []
  pub depends : (r q : Store) (x : X) → Below g r q → left r x → left q x
  pub forth : (n : ℕ) (s t : Store) (x : X) (u : ℕ) → R s t → m n s x u → u ≤ n → Done f left (in_order (acts K before)) t x
  pub back : (s t : Store) (l : ℕ) → R s t → IsDefined (in_order (acts K before) t l).how → Undone f m left s t l (in_order (acts K before) t l)

-- what is changed from f on leaves the stores related
abbrev pub Near : Rel → ℕ → Type 0
Near R f = (s t r : Store) → R s t → Below f t r → R s r

pub whole_expands : {X : Type 0} (K : Objects) (R : Rel) (f g : ℕ) (m : Means X) (left : Gives X) → f ≤ g → ((r q : Store) (x : X) → Below g r q → left r x → left q x) → ((n : ℕ) (s t : Store) (x : X) (u : ℕ) → R s t → m n s x u → left t x)
    → ((s t : Store) (x : X) → R s t → left t x → Gave m s x) → Expands K R f g m [] left
whole_expands K R f g m left le depends there back = record {
  more = le;
  quiet = refl;
  depends = depends;
  forth = λ n s t x u r h lt. record { turns = 0; last = t; takes = λ l. let e : 0 + l ≡ l = omega arith in ap (λ i. ended normally t i) e; kept = below_same f t; has = there n s t x u r h };
  back = λ s t l r d. record { normal = refl; kept = below_same f t; less = omega arith; gave = λ x h. back s t x r h };
}

-- ---- two expressions, the blocks of the first before those of the second

pub record Two {X Y : Type 0} (m1 : Means X) (m2 : Means Y) (n : ℕ) (s : Store) (z : X × Y) (u : ℕ) : Type 0 where
  pub left_turns : ℕ
  pub right_turns : ℕ
  pub left : m1 n s z.0 left_turns
  pub right : m2 n s z.1 right_turns
  pub sum : u ≡ left_turns + right_turns

abbrev pub both_give : {X Y : Type 0} → Gives X → Gives Y → Gives (X × Y)
both_give l1 l2 r z = l1 r z.0 × l2 r z.1

pub pair_expands : {X Y : Type 0} (K : Objects) (R : Rel) (f g h : ℕ) (m1 : Means X) (m2 : Means Y) (b1 b2 : List TypedStmt) (l1 : Gives X) (l2 : Gives Y) → Near R f → Expands K R f g m1 b1 l1 → Expands K R g h m2 b2 l2
    → Expands K R f h (Two m1 m2) (b1 ++ b2) (both_give l1 l2)
pair_expands {X} {Y} K R f g h m1 m2 b1 b2 l1 l2 near e1 e2 = record {
  more = let a = e1.more in let b = e2.more in omega arith;
  quiet = ap declares_of (map-append (act K) b1 b2) ∙ flat_map-append (λ (a : Act). a.declares) (acts K b1) (acts K b2) ∙ ap (λ ds. ds ++ declares_of (acts K b2)) e1.quiet ∙ e2.quiet;
  depends = λ r q z w x. (e1.depends r q z.0 (below_less g h r q e2.more w) x.0, e2.depends r q z.1 w x.1);
  forth = λ n s t z u r x lt.
      let d1 = e1.forth n s t z.0 x.left_turns r x.left (let a = x.sum in omega arith) in
      let d2 = e2.forth n s d1.last z.1 x.right_turns (near s t d1.last r d1.kept) x.right (let a = x.sum in omega arith) in
      record {
        turns = d1.turns + d2.turns;
        last = d2.last;
        takes = λ l. acts_append K b1 b2 t (d1.turns + d2.turns + l) ∙ reach_both (in_order (acts K b1)) (in_order (acts K b2)) t d1.last d2.last d1.turns d2.turns d1.takes d2.takes l;
        kept = below_then f f g t d1.last d2.last (omega arith) e1.more d1.kept d2.kept;
        has = (e1.depends d1.last d2.last z.0 d2.kept d1.has, d2.has);
      };
  back = λ s t l r d. back_at s t l r d;
}
  where
    back_at : (s t : Store) (l : ℕ) → R s t → IsDefined (in_order (acts K (b1 ++ b2)) t l).how → Undone f (Two m1 m2) (both_give l1 l2) s t l (in_order (acts K (b1 ++ b2)) t l)
    back_at s t l r d =
        let z = in_order (acts K b1) t l in
        let whole = acts_append K b1 b2 t l in
        let d0 = subst (λ (e : Ended). IsDefined e.how) whole d in
        let u1 = e1.back s t l r (go_end z.how (in_order (acts K b2)) z.store z.left d0) in
        let is = whole ∙ go_normal z.how (in_order (acts K b2)) z.store z.left u1.normal in
        let u2 = e2.back s z.store z.left (near s t z.store r u1.kept) (subst (λ (e : Ended). IsDefined e.how) is d) in
        let e = in_order (acts K b2) z.store z.left in
        let made : Undone f (Two m1 m2) (both_give l1 l2) s t l e = record {
          normal = u2.normal;
          kept = below_then f f g t z.store e.store (omega arith) e1.more u1.kept u2.kept;
          less = let a = u1.less in let b = u2.less in omega arith;
          gave = λ x h.
              let g1 = u1.gave x.0 (e1.depends e.store z.store x.0 (below_back g z.store e.store u2.kept) h.0) in
              let g2 = u2.gave x.1 h.1 in
              record {
                least = g1.least + g2.least;
                uses = g1.uses + g2.uses;
                is = λ i.
                    let a : g1.least + g2.least + i ≡ g1.least + (g2.least + i) = omega arith in
                    let b : g1.least + g2.least + i ≡ g2.least + (g1.least + i) = omega arith in
                    record { left_turns = g1.uses; right_turns = g2.uses; left = subst (λ j. m1 j s x.0 g1.uses) (sym a) (g1.is (g2.least + i)); right = subst (λ j. m2 j s x.1 g2.uses) (sym b) (g2.is (g1.least + i)); sum = refl };
              };
        } in
        subst (λ (e0 : Ended). Undone f (Two m1 m2) (both_give l1 l2) s t l e0) (sym is) made

-- ---- what is made of an expression: with calls by C, in some turns more, and without by D

pub record Part {X Y : Type 0} (m : Means X) (C : ℕ → Store → X → Y → ℕ → Type 0) (n : ℕ) (s : Store) (y : Y) (u : ℕ) : Type 0 where
  pub from : X
  pub turns : ℕ
  pub extra : ℕ
  pub first : m n s from turns
  pub then : C n s from y extra
  pub sum : u ≡ turns + extra

pub record Makes {X Y : Type 0} (R : Rel) (g : ℕ) (m : Means X) (left : Gives X) (m2 : Means Y) (left2 : Gives Y) (C : ℕ → Store → X → Y → ℕ → Type 0) (D : Store → X → Y → Type 0) : Type 0 where
  pub down : (n : ℕ) (s : Store) (y : Y) (u : ℕ) → m2 n s y u → Part m C n s y u
  pub up : (n : ℕ) (s : Store) (x : X) (y : Y) (u d : ℕ) → m n s x u → C n s x y d → m2 n s y (u + d)
  pub left_down : (r : Store) (y : Y) → left2 r y → (x : X) × left r x × D r x y
  pub left_up : (r : Store) (x : X) (y : Y) → left r x → D r x y → left2 r y
  pub there : (n : ℕ) (s r : Store) (x : X) (y : Y) (d : ℕ) → R s r → C n s x y d → D r x y
  pub again : (s r : Store) (x : X) (y : Y) → R s r → D r x y → (d : ℕ) × ((n : ℕ) → C n s x y d)
  pub keeps : (r q : Store) (x : X) (y : Y) → Below g r q → D r x y → D q x y

pub map_expands : {X Y : Type 0} (K : Objects) (R : Rel) (f g : ℕ) (m : Means X) (left : Gives X) (m2 : Means Y) (left2 : Gives Y) (C : ℕ → Store → X → Y → ℕ → Type 0) (D : Store → X → Y → Type 0) (before : List TypedStmt)
    → Near R f → Makes R g m left m2 left2 C D → Expands K R f g m before left → Expands K R f g m2 before left2
map_expands K R f g m left m2 left2 C D before near k e = record {
  more = e.more;
  quiet = e.quiet;
  depends = λ r q y w h. let x = k.left_down r y h in k.left_up q x.0 y (e.depends r q x.0 w x.1) (k.keeps r q x.0 y w x.2);
  forth = λ n s t y u r h lt.
      let p = k.down n s y u h in
      let d = e.forth n s t p.from p.turns r p.first (let a = p.sum in omega arith) in
      record { turns = d.turns; last = d.last; takes = d.takes; kept = d.kept; has = k.left_up d.last p.from y d.has (k.there n s d.last p.from y p.extra (near s t d.last r d.kept) p.then) };
  back = λ s t l r d.
      let z = in_order (acts K before) t l in
      let q = e.back s t l r d in
      record {
        normal = q.normal;
        kept = q.kept;
        less = q.less;
        gave = λ y h.
            let x = k.left_down z.store y h in
            let v = q.gave x.0 x.1 in
            let a = k.again s z.store x.0 y (near s t z.store r q.kept) x.2 in
            record { least = v.least; uses = v.uses + a.0; is = λ i. k.up (v.least + i) s x.0 y v.uses a.0 (v.is i) (a.1 (v.least + i)) };
      };
}

-- ---- what a statement does with its own expressions

abbrev pub flip : Rel → Rel
flip R s t = R t s

-- runs with calls, by the bound on their turns, and a run without
pub record Both (R S M : Rel) (ret inside : Bool) (a : ℕ → Run) (b : Run) : Type 0 where
  pub forth : (n : ℕ) → Sims n R S M ret inside (a n) (λ i j. b)
  pub back : (n : ℕ) → Sims n (flip R) (flip S) (flip M) ret inside b (λ i j. a i)

pub record Used {X : Type 0} (m : Means X) (a : ℕ → Run) (next : ℕ → X → Run) (n : ℕ) (s : Store) (l : ℕ) : Type 0 where
  pub given : X
  pub turns : ℕ
  pub rest : ℕ
  pub first : m n s given turns
  pub in_turns : turns ≤ l
  pub less : rest ≤ l
  pub is : a n s l ≡ next n given s rest

-- a run with calls evaluates m, and goes on with what m gives
pub record Uses {X : Type 0} (m : Means X) (a : ℕ → Run) (next : ℕ → X → Run) : Type 0 where
  pub cost : ℕ → ℕ
  pub down : (n : ℕ) (s : Store) (l : ℕ) → IsDefined (a n s l).how → Used m a next n s l
  pub up : (n : ℕ) (s : Store) (x : X) (u : ℕ) → m n s x u → (l : ℕ) → IsDefined (next n x s l).how → a n s (cost u + l) ≡ next n x s l

pub record Left {X : Type 0} (left : Gives X) (b : Run) (next : X → Run) (r : Store) (l : ℕ) : Type 0 where
  pub given : X
  pub rest : ℕ
  pub first : left r given
  pub less : rest ≤ l
  pub is : b r l ≡ next given r rest

pub record UsesLeft {X : Type 0} (left : Gives X) (b : Run) (next : X → Run) : Type 0 where
  pub down : (r : Store) (l : ℕ) → IsDefined (b r l).how → Left left b next r l
  pub up : (r : Store) (x : X) → left r x → (cost : ℕ) × ((l : ℕ) → IsDefined (next x r l).how → b r (cost + l) ≡ next x r l)

pub uses_turn : {X : Type 0} (m : Means X) (a : ℕ → Run) (next : ℕ → X → Run) → Uses m a next → Uses m (λ n. turn (a n)) next
uses_turn {X} m a next k = record {
  cost = λ u. suc (k.cost u);
  down = down_at;
  up = λ n s x u h l d. let e : suc (k.cost u) + l ≡ suc (k.cost u + l) = omega arith in ap (λ i. turn (a n) s i) e ∙ k.up n s x u h l d;
}
  where
    down_at : (n : ℕ) (s : Store) (l : ℕ) → IsDefined (turn (a n) s l).how → Used m (λ n. turn (a n)) next n s l
    down_at n s zero d = absurd d
    down_at n s (suc l) d = let q = k.down n s l d in record { given = q.given; turns = q.turns; rest = q.rest; first = q.first; in_turns = let h = q.in_turns in omega arith; less = let h = q.less in omega arith; is = q.is }

pub left_turn : {X : Type 0} (left : Gives X) (b : Run) (next : X → Run) → UsesLeft left b next → UsesLeft left (turn b) next
left_turn {X} left b next k = record {
  down = down_at;
  up = λ r x h. let q = k.up r x h in (suc q.0, λ l d. let e : suc q.0 + l ≡ suc (q.0 + l) = omega arith in ap (λ i. turn b r i) e ∙ q.1 l d);
}
  where
    down_at : (r : Store) (l : ℕ) → IsDefined (turn b r l).how → Left left (turn b) next r l
    down_at r zero d = absurd d
    down_at r (suc l) d = let q = k.down r l d in record { given = q.given; rest = q.rest; first = q.first; less = let h = q.less in omega arith; is = q.is }

module _ {X : Type 0} (K : Objects) (R S M : Rel) (ret inside : Bool) (f g : ℕ) (m : Means X) (before : List TypedStmt) (left : Gives X) (a : ℕ → Run) (b : Run) (next : ℕ → X → Run) (next2 : X → Run) (near : Near R f) (e : Expands K R f g m before left) (uses : Uses m a next) (uses_left : UsesLeft left b next2)
    (after : (x : X) → Both R S M ret inside (λ n. next n x) (next2 x)) where
  own_forth : (n : ℕ) → Sims n R S M ret inside (a n) (λ i j. both_runs (in_order (acts K before)) b)
  own_forth n s t l le r d =
      let p = uses.down n s l d in
      let z = e.forth n s t p.given p.turns r p.first (let h = p.in_turns in omega arith) in
      let w = uses_left.up z.last p.given z.has in
      let d1 = subst (λ (z : Ended). IsDefined z.how) p.is d in
      let q = (after p.given).forth n s z.last p.rest (let h = p.less in omega arith) (near s t z.last r z.kept) d1 in
      let i0 = q.least in
      let made : Imitates S M ret inside (next n p.given s p.rest) l (λ i j. both_runs (in_order (acts K before)) b) t = record {
        least = q.least;
        need = 0;
        turns = z.turns + (w.0 + q.turns);
        last = q.last;
        within = omega arith;
        takes = λ i j l0.
            let e1 : z.turns + (w.0 + q.turns) + l0 ≡ z.turns + (w.0 + (q.turns + l0)) = omega arith in
            let is = q.takes i j l0 in
            ap (λ n0. both_runs (in_order (acts K before)) b t n0) e1 ∙ ap (go_of b) (z.takes (w.0 + (q.turns + l0))) ∙ w.1 (q.turns + l0) (subst (λ (z : Ended). IsDefined z.how) (sym is) d1) ∙ is;
        after = q.after;
        less = let h = q.less in let h2 = p.less in omega arith;
      } in
      subst (λ (z0 : Ended). Imitates S M ret inside z0 l (λ i j. both_runs (in_order (acts K before)) b) t) (sym p.is) made

  own_back : (n : ℕ) → Sims n (flip R) (flip S) (flip M) ret inside (both_runs (in_order (acts K before)) b) (λ i j. a i)
  own_back n t s l le r d =
      let z = in_order (acts K before) t l in
      let u = e.back s t l r (go_end z.how b z.store z.left d) in
      let is = go_normal z.how b z.store z.left u.normal in
      let d0 = subst (λ (z : Ended). IsDefined z.how) is d in
      let p = uses_left.down z.store z.left d0 in
      let v = u.gave p.given p.first in
      let d1 = subst (λ (z : Ended). IsDefined z.how) p.is d0 in
      let q = (after p.given).back n z.store s p.rest (let h = p.less in let h2 = u.less in omega arith) (near s t z.store r u.kept) d1 in
      let made : Imitates (flip S) (flip M) ret inside (next2 p.given z.store p.rest) l (λ i j. a i) s = record {
        least = v.least + q.least;
        need = 0;
        turns = uses.cost v.uses + q.turns;
        last = q.last;
        within = omega arith;
        takes = λ i j l0.
            let e1 : uses.cost v.uses + q.turns + l0 ≡ uses.cost v.uses + (q.turns + l0) = omega arith in
            let e2 : v.least + (q.least + i) ≡ v.least + q.least + i = omega arith in
            let e3 : v.least + q.least + i ≡ q.least + (v.least + i) = omega arith in
            let is1 = ap (λ i1. next i1 p.given s (q.turns + l0)) e3 ∙ q.takes (v.least + i) j l0 in
            ap (λ n0. a (v.least + q.least + i) s n0) e1
            ∙ uses.up (v.least + q.least + i) s p.given v.uses (subst (λ i1. m i1 s p.given v.uses) e2 (v.is (q.least + i))) (q.turns + l0) (subst (λ (z : Ended). IsDefined z.how) (sym is1) d1) ∙ is1;
        after = q.after;
        less = let h = q.less in let h2 = p.less in let h3 = u.less in omega arith;
      } in
      subst (λ (z0 : Ended). Imitates (flip S) (flip M) ret inside z0 l (λ i j. a i) s) (sym (is ∙ p.is)) made

  pub own_both : Both R S M ret inside a (both_runs (in_order (acts K before)) b)
  own_both = record { forth = own_forth; back = own_back }
