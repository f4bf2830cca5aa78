-- Blocks with edges that are held apart from them.
use Rattle.std.proofs.Common.{◌≡◌, ◌≢◌, ℕ, zero, suc, ◌+◌, ◌<◌, ◌≤◌, List, [], ◌∷◌, ◌++◌, map, take, drop, length, get_or, Some, None, refl, sym, ◌∙◌, ap, subst, arith, inl, inr}
use Rattle.std.specs.List.{slice_get}
use Rattle.std.specs.Prelude.{set}
use Rattle.std.proofs.lemmas.Bool.{cases_eq}
use Rattle.std.proofs.lemmas.List.{length-set}
use Rattle.std.proofs.lemmas.Option.{slice_get_read, get_or_from_slice_get}
use Rattle.ir.specs.declared.graph.Block.{Block}
use Rattle.ir.specs.declared.graph.Jump.{Jump}
use Rattle.ir.specs.Graphs.{no_block}
use Rattle.block_merge.specs.declared.edges.OutEdges.{OutEdges}
use Rattle.block_merge.specs.Renamed.{block_of}
use Rattle.block_merge.specs.Threaded.{onward_of_parts, only_onward, threaded_jump, threaded_once}
use Rattle.block_merge.specs.OutEdges.{jump_along, block_along, with_edges}

-- ---- at a place

pub no_edges : (bs : List Block) → with_edges bs [] ≡ []
no_edges [] = refl
no_edges (b ∷ bs) = refl

pub along_at : (bs : List Block) (ess : List OutEdges) (i : ℕ) (b : Block) (es : OutEdges) → slice_get bs i ≡ Some b → slice_get ess i ≡ Some es
    → slice_get (with_edges bs ess) i ≡ Some (block_along es b)
along_at [] ess i b es p q = absurd (cc)
along_at (x ∷ bs) [] i b es p q = absurd (cc)
along_at (x ∷ bs) (y ∷ ess) zero b es p q = cc
along_at (x ∷ bs) (y ∷ ess) (suc i) b es p q = along_at bs ess i b es p q

pub no_block_at : (bs : List Block) (ess : List OutEdges) (i : ℕ) → slice_get bs i ≡ None → block_of (with_edges bs ess) i ≡ no_block
no_block_at [] ess i p = refl
no_block_at (x ∷ bs) [] i p = refl
no_block_at (x ∷ bs) (y ∷ ess) zero p = absurd (cc)
no_block_at (x ∷ bs) (y ∷ ess) (suc i) p = no_block_at bs ess i p

pub no_edges_at : (bs : List Block) (ess : List OutEdges) (i : ℕ) → slice_get ess i ≡ None → block_of (with_edges bs ess) i ≡ no_block
no_edges_at [] ess i p = refl
no_edges_at (x ∷ bs) [] i p = refl
no_edges_at (x ∷ bs) (y ∷ ess) zero p = absurd (cc)
no_edges_at (x ∷ bs) (y ∷ ess) (suc i) p = no_edges_at bs ess i p

-- where a block at a place only leads on to
pub onward_at : (bs : List Block) (ess : List OutEdges) (k : ℕ) (b : Block) (es : OutEdges) → slice_get bs k ≡ Some b → slice_get ess k ≡ Some es
    → only_onward (with_edges bs ess) k ≡ onward_of_parts k (length b.args) b.steps (jump_along es b.jump)
onward_at bs ess k b es p q =
    ap (λ (x : Block). onward_of_parts k (length x.args) x.steps x.jump) (get_or_from_slice_get (with_edges bs ess) k (block_along es b) no_block (along_at bs ess k b es p q))

pub onward_past : (bs : List Block) (ess : List OutEdges) (k : ℕ) → slice_get bs k ≡ None → only_onward (with_edges bs ess) k ≡ None
onward_past bs ess k p = ap (λ (x : Block). onward_of_parts k (length x.args) x.steps x.jump) (no_block_at bs ess k p)

pub onward_without : (bs : List Block) (ess : List OutEdges) (k : ℕ) → slice_get ess k ≡ None → only_onward (with_edges bs ess) k ≡ None
onward_without bs ess k p = ap (λ (x : Block). onward_of_parts k (length x.args) x.steps x.jump) (no_edges_at bs ess k p)

-- ---- one block after the other

drop_along : (bs : List Block) (ess : List OutEdges) (i : ℕ) (b : Block) (es : OutEdges) → slice_get bs i ≡ Some b → slice_get ess i ≡ Some es
    → drop i (with_edges bs ess) ≡ block_along es b ∷ drop (suc i) (with_edges bs ess)
drop_along [] ess i b es p q = absurd (cc)
drop_along (x ∷ bs) [] i b es p q = absurd (cc)
drop_along (x ∷ bs) (y ∷ ess) zero b es p q = cc
drop_along (x ∷ bs) (y ∷ ess) (suc i) b es p q = drop_along bs ess i b es p q

pub next_along : (bs : List Block) (ess : List OutEdges) (i : ℕ) (b : Block) (es : OutEdges) → length ess ≡ length bs → i < length bs → b ≡ get_or bs i b → es ≡ get_or ess i es
    → drop i (with_edges bs ess) ≡ block_along es b ∷ drop (i + 1) (with_edges bs ess)
next_along bs ess i b es l lt p q =
    let e : suc i ≡ i + 1 = omega arith in
    drop_along bs ess i b es (slice_get_read bs (length bs) i b refl lt p) (slice_get_read ess (length bs) i es (sym l) lt q) ∙ ap (λ n. block_along es b ∷ drop n (with_edges bs ess)) e

pub none_left : (bs : List Block) (ess : List OutEdges) (n : ℕ) → length bs ≤ n → drop n (with_edges bs ess) ≡ []
none_left [] ess zero le = refl
none_left [] ess (suc n) le = refl
none_left (x ∷ bs) ess zero le = absurd (omega (arith, le))
none_left (x ∷ bs) [] (suc n) le = refl
none_left (x ∷ bs) (y ∷ ess) (suc n) le = none_left bs ess n (omega (arith, le))

-- ---- edges of the blocks' own jumps

pub record AreAlong (bs : List Block) (ess : List OutEdges) (n : ℕ) : Type 0 where
  pub long : length ess ≡ n
  pub same : with_edges bs ess ≡ take n bs

same_block : (es : OutEdges) (b : Block) → jump_along es b.jump ≡ b.jump → block_along es b ≡ b
same_block es b e = ap (λ (j : Jump). record { args = b.args; steps = b.steps; jump = j }) e

same_more : (bs : List Block) (ess : List OutEdges) (b : Block) (es : OutEdges) → slice_get bs (length ess) ≡ Some b → jump_along es b.jump ≡ b.jump
    → with_edges bs ess ≡ take (length ess) bs → with_edges bs (ess ++ es ∷ []) ≡ take (suc (length ess)) bs
same_more [] ess b es p e h = absurd (cc)
same_more (x ∷ bs) [] b es p e h =
    let s : x ≡ b = cc in
    let k : jump_along es x.jump ≡ x.jump = subst (λ (y : Block). jump_along es y.jump ≡ y.jump) (sym s) e in
    ap (λ l. block_along es x ∷ l) (no_edges bs) ∙ ap (λ (y : Block). y ∷ []) (same_block es x k)
same_more (x ∷ bs) (y ∷ ess) b es p e h =
    let first : block_along y x ≡ x = cc in
    let rest : with_edges bs ess ≡ take (length ess) bs = cc in
    ap (λ (z : Block). z ∷ with_edges bs (ess ++ es ∷ [])) first ∙ ap (λ l. x ∷ l) (same_more bs ess b es p e rest)

pub none_along : (bs : List Block) → AreAlong bs [] 0
none_along bs = record { long = refl; same = no_edges bs }

pub more_along : (bs : List Block) (ess : List OutEdges) (b : Block) (es : OutEdges) (n : ℕ) → n < length bs → b ≡ get_or bs n b → jump_along es b.jump ≡ b.jump
    → AreAlong bs ess n → AreAlong bs (ess ++ es ∷ []) (n + 1)
more_along bs ess b es n lt p e h =
    let at : slice_get bs (length ess) ≡ Some b = ap (slice_get bs) h.long ∙ slice_get_read bs (length bs) n b refl lt p in
    let k : suc (length ess) ≡ n + 1 = (let l = h.long in omega (arith, l)) in
    record {
      long = longer ess es ∙ k;
      same = same_more bs ess b es at e (h.same ∙ ap (λ m. take m bs) (sym h.long)) ∙ ap (λ m. take m bs) k;
    }
  where
    longer : (xs : List OutEdges) (x : OutEdges) → length (xs ++ x ∷ []) ≡ suc (length xs)
    longer [] x = refl
    longer (y ∷ xs) x = ap suc (longer xs x)

take_all : (bs : List Block) (n : ℕ) → n ≡ length bs → take n bs ≡ bs
take_all [] zero e = refl
take_all [] (suc n) e = refl
take_all (b ∷ bs) zero e = absurd (omega (arith, e))
take_all (b ∷ bs) (suc n) e = ap (λ l. b ∷ l) (take_all bs n (omega (arith, e)))

pub all_along : (bs : List Block) (ess : List OutEdges) (n : ℕ) → n ≡ length bs → AreAlong bs ess n → with_edges bs ess ≡ bs
all_along bs ess n e h = h.same ∙ take_all bs n e

-- ---- a round

-- the edges of the first blocks, so many, are one further
pub record AreThreaded (bs : List Block) (ess new : List OutEdges) (n : ℕ) : Type 0 where
  pub long : length new ≡ length bs
  pub each : (i : ℕ) (b : Block) (es more : OutEdges) → i < n → slice_get bs i ≡ Some b → slice_get ess i ≡ Some es → slice_get new i ≡ Some more
      → jump_along more b.jump ≡ threaded_jump (with_edges bs ess) (jump_along es b.jump)

set_here : (xs : List OutEdges) (i : ℕ) (x : OutEdges) → i < length xs → slice_get (set xs i x) i ≡ Some x
set_here [] i x lt = absurd (omega (arith, lt))
set_here (y ∷ xs) zero x lt = refl
set_here (y ∷ xs) (suc i) x lt = set_here xs i x (omega (arith, lt))

set_away : (xs : List OutEdges) (i j : ℕ) (x : OutEdges) → j ≢ i → slice_get (set xs i x) j ≡ slice_get xs j
set_away [] zero j x ne = refl
set_away [] (suc i) j x ne = refl
set_away (y ∷ xs) zero zero x ne = absurd (ne refl)
set_away (y ∷ xs) zero (suc j) x ne = refl
set_away (y ∷ xs) (suc i) zero x ne = refl
set_away (y ∷ xs) (suc i) (suc j) x ne = set_away xs i j x (λ e. ne (ap suc e))

pub none_threaded : (bs : List Block) (ess new : List OutEdges) → length new ≡ length bs → AreThreaded bs ess new 0
none_threaded bs ess new l = record { long = l; each = λ i b es more lt p q r. absurd (omega (arith, lt)) }

pub more_threaded : (bs : List Block) (ess new : List OutEdges) (n : ℕ) (b : Block) (es more : OutEdges) → length ess ≡ length bs → n < length bs → b ≡ get_or bs n b → es ≡ get_or ess n es
    → jump_along more b.jump ≡ threaded_jump (with_edges bs ess) (jump_along es b.jump) → AreThreaded bs ess new n → AreThreaded bs ess (set new n more) (n + 1)
more_threaded bs ess new n b es more l lt p q e h = record { long = length-set new n more ∙ h.long; each = one }
  where
    one : (i : ℕ) (c : Block) (fs last : OutEdges) → i < n + 1 → slice_get bs i ≡ Some c → slice_get ess i ≡ Some fs → slice_get (set new n more) i ≡ Some last
        → jump_along last c.jump ≡ threaded_jump (with_edges bs ess) (jump_along fs c.jump)
    one i c fs last k x y z = elim (cases_eq i n) [
      | inl s ↦
          let lb : slice_get bs i ≡ Some b = ap (slice_get bs) s ∙ slice_get_read bs (length bs) n b refl lt p in
          let le : slice_get ess i ≡ Some es = ap (slice_get ess) s ∙ slice_get_read ess (length bs) n es (sym l) lt q in
          let lm : slice_get (set new n more) i ≡ Some more = ap (slice_get (set new n more)) s ∙ set_here new n more (let m = h.long in omega (arith, m, lt)) in
          let cb : b ≡ c = cc in
          let ce : es ≡ fs = cc in
          let cm : more ≡ last = cc in
          cc
      | inr ne ↦ h.each i c fs last (omega (arith, k, ne)) x y (sym (set_away new n i more ne) ∙ z)
    ]

all_mapped : (f : Jump → Jump) (bs : List Block) (ess new : List OutEdges) → length ess ≡ length bs → length new ≡ length bs
    → ((i : ℕ) (b : Block) (es more : OutEdges) → i < length bs → slice_get bs i ≡ Some b → slice_get ess i ≡ Some es → slice_get new i ≡ Some more
    → jump_along more b.jump ≡ f (jump_along es b.jump))
    → with_edges bs new ≡ map (λ (b : Block). record { args = b.args; steps = b.steps; jump = f b.jump }) (with_edges bs ess)
all_mapped f [] ess new l m h = refl
all_mapped f (b ∷ bs) [] new l m h = absurd (omega (arith, l))
all_mapped f (b ∷ bs) (es ∷ ess) [] l m h = absurd (omega (arith, m))
all_mapped f (b ∷ bs) (es ∷ ess) (more ∷ new) l m h =
    let first = h 0 b es more (omega arith) refl refl refl in
    let rest = all_mapped f bs ess new (omega (arith, l)) (omega (arith, m)) (λ i c fs last lt x y z. h (suc i) c fs last (omega (arith, lt)) x y z) in
    ap (λ (j : Jump). record { args = b.args; steps = b.steps; jump = j } ∷ with_edges bs new) first
    ∙ ap (λ ys. record { args = b.args; steps = b.steps; jump = f (jump_along es b.jump) } ∷ ys) rest

pub all_threaded : (bs : List Block) (ess new : List OutEdges) (n : ℕ) → length bs ≤ n → length ess ≡ length bs → AreThreaded bs ess new n
    → with_edges bs new ≡ threaded_once (with_edges bs ess)
all_threaded bs ess new n le l h =
    all_mapped (threaded_jump (with_edges bs ess)) bs ess new l h.long (λ i b es more lt x y z. h.each i b es more (omega (arith, lt, le)) x y z)
