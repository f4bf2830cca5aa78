-- The edges and the heads between two blocks: how many edges lead to each target, that each fits the arguments there, and which of them a head has taken.
use Rattle.std.proofs.Common.{◌≡◌, ◌≢◌, ℕ, zero, suc, ◌+◌, ◌<◌, ◌≤◌, ◌^◌, List, [], ◌∷◌, ◌++◌, length, get_or, set, Bool, true, false, Some, None, refl, sym, ap, ◌∙◌, inl, inr, arith, length-append}
use Rattle.std.specs.Prelude.{All, slice_get, cond, ◌==◌}
use Rattle.std.proofs.lemmas.Bool.{cases_eq, ne_eqb, false≢true}
use Rattle.std.proofs.lemmas.Option.{slice_get_within}
use Rattle.std.proofs.lemmas.List.Elements.{All-nil, All-cons, All-append}
use Rattle.ir.specs.Graphs.{Graph}
use Rattle.net_types.specs.declared.net.Net.{Net}
use Rattle.net_types.specs.Tables.{spots}
use Rattle.circuit_build.specs.declared.draft.Draft.{Draft}
use Rattle.circuit_build.specs.declared.draft.Edge.{Edge}
use Rattle.circuit_build.specs.Drafts.{number, plus}
use Rattle.circuit_build.specs.Blocks.{numbered, tail_of}
use Rattle.circuit_build.proofs.CountBooks.{Weight, row}
use Rattle.circuit_build.proofs.CountSteps.{carried, is_zero, edges, hsum}
use Rattle.circuit_build.proofs.CountJumps.{widths, Adds}
pub use Rattle.circuit_build.proofs.Targets.{occurs, occurs_more}
use Rattle.circuit_build.proofs.Remains.{one_if, one_own, one_other, set_cases}

-- the header of a graph, as a net
abbrev pub heading : Graph → Net
heading g = record { name = g.name; scalars = g.scalars; arrays = g.arrays; result = g.result; units = []; chans = [] }

-- ---- heads

pub hsum_more : (K : ℕ → ℕ → ℕ) (hs : List ℕ) (h : ℕ) → hsum K (hs ++ h ∷ []) ≡ hsum K hs + K (length hs) h
hsum_more K [] h = omega arith
hsum_more K (x ∷ hs) h = let i = hsum_more (λ t. K (suc t)) hs h in omega (arith, i)

-- inputs of a head that wait: of its muxes, and of all its units, those of k edges from number j on
abbrev pub muxes_left : Weight → ℕ → List ℕ → ℕ → ℕ → ℕ
muxes_left f m [] j k = 0
muxes_left f m (w ∷ ws) j k = row f m (spots (suc j) w false k) + muxes_left f (plus m 1) ws j k

abbrev pub head_left : Weight → ℕ → List ℕ → ℕ → ℕ → ℕ
head_left f h ws j k = row f h (spots j 32 true k) + muxes_left f (plus h 2) ws j k

-- of a head that has taken its edge nothing waits
abbrev pub waits : Weight → ℕ → List ℕ → ℕ → ℕ → ℕ
waits f zero ws j k = 0
waits f (suc h) ws j k = head_left f (suc h) ws j k

pub push_last : {A : Type 0} (xs : List A) (x : A) → slice_get (xs ++ x ∷ []) (length xs) ≡ Some x
push_last [] x = refl
push_last (y ∷ xs) x = push_last xs x

push_other : {A : Type 0} (xs : List A) (x : A) (u : ℕ) → u ≢ length xs → slice_get (xs ++ x ∷ []) u ≡ slice_get xs u
push_other [] x zero n = absurd (n refl)
push_other [] x (suc u) n = refl
push_other (y ∷ xs) x zero n = refl
push_other (y ∷ xs) x (suc u) n = push_other xs x u (λ e. n (ap suc e))

pub push_within : {A : Type 0} (xs : List A) (x : A) (u : ℕ) (y : A) → slice_get xs u ≡ Some y → slice_get (xs ++ x ∷ []) u ≡ Some y
push_within xs x u y e = push_other xs x u (let l = slice_get_within xs u y e in λ z. absurd (omega (arith, l, z))) ∙ e

past_none : (hs : List ℕ) (u : ℕ) → u ≡ length hs → slice_get hs u ≡ None
past_none [] u e = refl
past_none (h ∷ hs) zero e = absurd (omega (arith, e))
past_none (h ∷ hs) (suc u) e = past_none hs u (omega (arith, e))

pub zero_before : (hs : List ℕ) (h u : ℕ) → is_zero (slice_get (hs ++ suc h ∷ []) u) ≡ is_zero (slice_get hs u)
zero_before hs h u = elim (cases_eq u (length hs)) [
  | inl e ↦ ap (λ n. is_zero (slice_get (hs ++ suc h ∷ []) n)) e ∙ ap is_zero (push_last hs (suc h)) ∙ ap is_zero (sym (past_none hs u e))
  | inr n ↦ ap is_zero (push_other hs (suc h) u n)
]

-- a head with a merge leaves the edges as they were
pub edges_head : (f : Weight) (hs : List ℕ) (h : ℕ) (es : List Edge) → edges f (hs ++ suc h ∷ []) es ≡ edges f hs es
edges_head f hs h [] = refl
edges_head f hs h (e ∷ es) = let a = ap (λ b. cond b 0 (f e.control 32 true + carried f e.with)) (zero_before hs h e.to) in let i = edges_head f hs h es in omega (arith, a, i)

-- ---- the edge that a head takes

edges_none : (f : Weight) (hs : List ℕ) (es : List Edge) → occurs (length hs) es ≡ 0 → edges f hs es ≡ edges f (hs ++ 0 ∷ []) es
edges_none f hs [] o = refl
edges_none f hs (e ∷ es) o = elim (cases_eq (length hs) e.to) [
  | inl z ↦ absurd (let a = ap (λ n. one_if e.to n) z in let b = one_own e.to in omega (arith, a, b, o))
  | inr n ↦ (let a = ap (λ k. cond (is_zero k) 0 (f e.control 32 true + carried f e.with)) (push_other hs 0 e.to (λ z. n (sym z))) in let b = one_other e.to (length hs) n in let i = edges_none f hs es (omega (arith, b, o)) in omega (arith, a, i))
]

pub edges_taken : (f : Weight) (hs : List ℕ) (es : List Edge) (n : ℕ) (x : Edge) → slice_get es n ≡ Some x → x.to ≡ length hs → occurs (length hs) es ≡ 1 → edges f hs es ≡ (f x.control 32 true + carried f x.with) + edges f (hs ++ 0 ∷ []) es
edges_taken f hs [] n x e t o = absurd (cc)
edges_taken f hs (y ∷ es) zero x e t o =
    let z : y ≡ x = cc in
    let s : y.to ≡ length hs = ap (λ (r : Edge). r.to) z ∙ t in
    let a = ap (λ (r : Edge). f r.control 32 true + carried f r.with) z in
    let b = ap (λ k. cond (is_zero k) 0 (f y.control 32 true + carried f y.with)) (past_none hs y.to s) in
    let c = ap (λ k. cond (is_zero k) 0 (f y.control 32 true + carried f y.with)) (ap (λ m. slice_get (hs ++ 0 ∷ []) m) s ∙ push_last hs 0) in
    let p = ap (λ m. one_if m (length hs)) s in
    let q = one_own (length hs) in
    let i = edges_none f hs es (omega (arith, p, q, o)) in
    omega (arith, a, b, c, i)
edges_taken f hs (y ∷ es) (suc n) x e t o = elim (cases_eq (length hs) y.to) [
  | inl z ↦ absurd (let a = ap (λ m. one_if y.to m) z in let b = one_own y.to in let c = some es n e in omega (arith, a, b, c, o))
  | inr d ↦ (let a = ap (λ k. cond (is_zero k) 0 (f y.control 32 true + carried f y.with)) (push_other hs 0 y.to (λ z. d (sym z))) in let b = one_other y.to (length hs) d in let i = edges_taken f hs es n x e t (omega (arith, b, o)) in omega (arith, a, i))
]
  where
    some : (zs : List Edge) (k : ℕ) → slice_get zs k ≡ Some x → 1 ≤ occurs (length hs) zs
    some [] k e = absurd (cc)
    some (z ∷ zs) zero e = let g : z ≡ x = cc in let a = ap (λ m. one_if m (length hs)) (ap (λ (r : Edge). r.to) g ∙ t) in let b = one_own (length hs) in omega (arith, a, b)
    some (z ∷ zs) (suc k) e = let i = some zs k e in omega (arith, i)

pub occurs_some : (t : ℕ) (es : List Edge) (n : ℕ) (x : Edge) → slice_get es n ≡ Some x → x.to ≡ t → 1 ≤ occurs t es
occurs_some t [] n x e s = absurd (cc)
occurs_some t (z ∷ es) zero x e s = let g : z ≡ x = cc in let a = ap (λ m. one_if m t) (ap (λ (r : Edge). r.to) g ∙ s) in let b = one_own t in omega (arith, a, b)
occurs_some t (z ∷ es) (suc k) x e s = let i = occurs_some t es k x e s in omega (arith, i)

-- ---- what is kept

pub record LastEdge (es : List Edge) (t n : ℕ) : Type 0 where
  pub edge : Edge
  pub is : slice_get es n ≡ Some edge
  pub to : edge.to ≡ t

-- tops: the widths of the arguments of each target; T: how many edges lead to it in the end; N: how many edges there are at most
pub record Kept (tops : List (List ℕ)) (T : ℕ → ℕ) (H N : ℕ) (C : ℕ → ℕ) (es : List Edge) (hs ts : List ℕ) : Type 0 where
  pub heads : length hs ≡ H
  pub fit : All (λ (e : Edge). slice_get tops e.to ≡ Some (widths e.with)) es
  pub count : (t : ℕ) → occurs t es ≡ C t
  pub lean : (t : ℕ) → is_zero (slice_get hs t) ≡ true → T t ≤ C t
  pub last : (t n : ℕ) → get_or ts t 0 ≡ suc n → LastEdge es t n
  pub many : length es ≤ N

pub kept_as : {tops : List (List ℕ)} {T : ℕ → ℕ} {H N M : ℕ} {C D : ℕ → ℕ} {es : List Edge} {hs ts : List ℕ} → Kept tops T H N C es hs ts → N ≤ M → ((t : ℕ) → C t ≡ D t) → Kept tops T H M D es hs ts
kept_as k l e = record {
  heads = k.heads;
  fit = k.fit;
  count = λ t. k.count t ∙ e t;
  lean = λ t z. let a = k.lean t z in let b = e t in omega (arith, a, b);
  last = k.last;
  many = let m = k.many in omega (arith, m, l);
}

last_more : (es : List Edge) (ts : List ℕ) (e : Edge) → length es + 2 < 2 ^ 32 → ((t n : ℕ) → get_or ts t 0 ≡ suc n → LastEdge es t n) → (t n : ℕ) → get_or (set ts e.to (number (length (es ++ e ∷ [])))) t 0 ≡ suc n → LastEdge (es ++ e ∷ []) t n
last_more es ts e few h t n z = elim (set_cases ts e.to (number (length (es ++ e ∷ []))) t) [
  | inl o ↦ (let l = h t n (sym o ∙ z) in record { edge = l.edge; is = push_within es e n l.edge l.is; to = l.to })
  | inr o ↦ (let l = length-append es (e ∷ []) in let a = o.0 in let m : n ≡ length es = omega (arith, l, a, z, few) in record { edge = e; is = ap (λ k. slice_get (es ++ e ∷ []) k) m ∙ push_last es e; to = sym o.1 })
]

not_lean : (b : Bool) (C T : ℕ) → (b ≡ true → T ≤ C) → C < T → b ≡ false
not_lean true C T h l = absurd (let a = h refl in omega (arith, a, l))
not_lean false C T h l = refl

pub adds : (tops : List (List ℕ)) (T : ℕ → ℕ) (H N : ℕ) (C : ℕ → ℕ) (to : ℕ) (args : List ℕ) → slice_get tops to ≡ Some args → C to < T to → N + 2 < 2 ^ 32 → Adds (Kept tops T H N C) to args (Kept tops T H (suc N) (λ t. C t + one_if to t))
adds tops T H N C to args here less few = record {
  free = λ es hs ts k. not_lean (is_zero (slice_get hs to)) (C to) (T to) (k.lean to) less;
  more = λ e es hs ts x y k.
      let F : Edge → Type 0 = λ (e : Edge). slice_get tops e.to ≡ Some (widths e.with) in
      let m = k.many in
      record {
        heads = k.heads;
        fit = All-append F es (e ∷ []) k.fit (All-cons F e [] (ap (λ n. slice_get tops n) x ∙ here ∙ ap Some (sym y)) (All-nil F));
        count = λ t. let a = k.count t in let b = occurs_more t es e in let c = ap (λ n. one_if n t) x in omega (arith, a, b, c);
        lean = λ t z. let a = k.lean t z in omega (arith, a);
        last = last_more es ts e (omega (arith, m, few)) k.last;
        many = let l = length-append es (e ∷ []) in omega (arith, l, m);
      };
}

-- a head with a merge
pub kept_merge : {tops : List (List ℕ)} {T : ℕ → ℕ} {H N : ℕ} {C : ℕ → ℕ} {es : List Edge} {hs ts : List ℕ} (h : ℕ) → Kept tops T H N C es hs ts → Kept tops T (suc H) N C es (hs ++ suc h ∷ []) ts
kept_merge {hs = hs} h k = record {
  heads = let l = length-append hs (suc h ∷ []) in let z = k.heads in omega (arith, l, z);
  fit = k.fit;
  count = k.count;
  lean = λ t z. k.lean t (sym (zero_before hs h t) ∙ z);
  last = k.last;
  many = k.many;
}

-- a head that takes the one edge to its target
pub kept_lean : {tops : List (List ℕ)} {T : ℕ → ℕ} {H N : ℕ} {C : ℕ → ℕ} {es : List Edge} {hs ts : List ℕ} → T H ≤ C H → Kept tops T H N C es hs ts → Kept tops T (suc H) N C es (hs ++ 0 ∷ []) ts
kept_lean {T = T} {H = H} {C = C} {hs = hs} full k = record {
  heads = let l = length-append hs (0 ∷ []) in let z = k.heads in omega (arith, l, z);
  fit = k.fit;
  count = k.count;
  lean = λ t z. elim (cases_eq t (length hs)) [
    | inl e ↦ (let x = ap T (e ∙ k.heads) in let y = ap C (e ∙ k.heads) in omega (arith, x, y, full))
    | inr n ↦ k.lean t (ap is_zero (sym (push_other hs 0 t n)) ∙ z)
  ];
  last = k.last;
  many = k.many;
}

-- ---- the edge that a head may take

pub record Tail (ins target : ℕ) (d : Draft) (x : Edge) : Type 0 where
  pub one : ins ≡ 1
  pub number : ℕ
  pub is : slice_get d.edges number ≡ Some x
  pub to : x.to ≡ target

tail_by : (b : Bool) (n : ℕ) (es : List Edge) (x : Edge) → cond b (numbered n es) None ≡ Some x → (b ≡ true) × (m : ℕ) × (n ≡ suc m) × (slice_get es m ≡ Some x)
tail_by true zero es x e = absurd (cc)
tail_by true (suc m) es x e = (refl, m, refl, e)
tail_by false n es x e = absurd (cc)

pub tail_is : {tops : List (List ℕ)} {T : ℕ → ℕ} {H N : ℕ} {C : ℕ → ℕ} (ins target : ℕ) (d : Draft) (x : Edge) → Kept tops T H N C d.edges d.heads d.tails → tail_of ins target d ≡ Some x → Tail ins target d x
tail_is ins target d x k e =
    let t = tail_by (ins == 1) (get_or d.tails target 0) d.edges x e in
    let l = k.last target t.1 t.2 in
    let same : l.edge ≡ x = some (sym l.is ∙ t.3) in
    record { one = eq_of t.0; number = t.1; is = t.3; to = ap (λ (r : Edge). r.to) (sym same) ∙ l.to }
  where
    some : {a b : Edge} → Some a ≡ Some b → a ≡ b
    some e = cc

    eq_of : {n : ℕ} → (n == 1) ≡ true → n ≡ 1
    eq_of {n} e = elim (cases_eq n 1) [
      | inl z ↦ z
      | inr z ↦ absurd (false≢true (sym (ne_eqb n 1 z) ∙ e))
    ]
