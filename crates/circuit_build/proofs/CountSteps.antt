-- The allocations and the steps of a block keep the balance.
use Rattle.std.proofs.Common.{◌≡◌, ◌≢◌, ℕ, zero, suc, ◌+◌, ◌*◌, ◌^◌, ◌<◌, ◌≤◌, List, [], ◌∷◌, ◌++◌, length, get_or, Bool, true, false, Option, Some, None, refl, sym, ap, ◌∙◌, subst, inl, inr, arith, length-append}
use Rattle.std.specs.Prelude.{IsTrue, cond, ◌==◌, ◌&&◌, nat_lt, slice_get, set}
use Rattle.std.proofs.lemmas.Bool.{eq-eqb, ne_eqb, lt-ltb}
use Rattle.el_base.specs.declared.operation.Op1.{Op1 as Unary}
use Rattle.el_base.specs.declared.operation.Op1.TheVariants.{Neg32, Neg64, Not32, Not64, Zero32, Zero64, S8to16, S8to32, S8to64, S16to32, S16to64, S32to64, U8to16, U8to32, U8to64, U16to32, U16to64, U32to64, Cut16to8, Cut32to8, Cut32to16, Cut64to8, Cut64to16, Cut64to32}
use Rattle.el_base.specs.declared.operation.Op2.{Op2 as Binary}
use Rattle.el_base.specs.declared.operation.Op2.TheVariants.{Add32, Add64, Sub32, Sub64, Mul32, Mul64, And32, And64, Or32, Or64, Xor32, Xor64, Shl32, Shl64, Shru32, Shru64, Shrs32, Shrs64, Divu32, Divu64, Remu32, Remu64, Divs32, Divs64, Rems32, Rems64, Eq32, Eq64, Ne32, Ne64, Ltu32, Ltu64, Leu32, Leu64, Lts32, Lts64, Les32, Les64}
use Rattle.el_base.specs.declared.ty.Array.{Array}
use Rattle.el_base.specs.declared.ty.Ty.{Ty}
use Rattle.el_base.specs.declared.ty.Ty.TheVariants.{I8, U8, I16, U16, I32, U32, I64, U64}
use Rattle.el_base.specs.Widths.{ty_width, op1_in, op1_out, op2_in, op2_out}
use Rattle.ir.specs.declared.groups.Access.{Access}
use Rattle.ir.specs.declared.instr.Instr.{Instr}
use Rattle.ir.specs.declared.instr.Instr.TheVariants as step
use Rattle.ir.specs.Shapes.{Shape, IsWidth, IsOfWidth, IsArray, StepFits, StepsFit, step_width, shape_after}
use Rattle.ir.specs.Renaming.{operands}
use Rattle.net_types.specs.declared.net.Net.{Net}
use Rattle.net_types.specs.declared.net.Port.{Port}
use Rattle.net_types.specs.declared.net.Port.TheVariants.{Load, Store}
use Rattle.net_types.specs.declared.net.Unit.TheVariants.{Const, Op1, Op2, Select, Read}
use Rattle.net_types.specs.Nets.{at}
use Rattle.net_types.specs.Tables.{array_width}
use Rattle.net_types.specs.Rules.{is_width}
use Rattle.circuit_build.specs.declared.draft.Draft.{Draft}
use Rattle.circuit_build.specs.declared.draft.Edge.{Edge}
use Rattle.circuit_build.specs.declared.draft.End.{End}
use Rattle.circuit_build.specs.declared.draft.Queue.{Queue}
use Rattle.circuit_build.specs.Drafts.{next, with_unit, fed, uses_of_next, undefined, triggered, trigger_of, copied, copy_of}
use Rattle.circuit_build.specs.Steps.{queue_of, next_port, next_group, queue_or, width_at, value_place, addr_place, data_place, group_taken, allocated_by, allocated, load_taken, load_by, store_taken, store_by, step_made, step_laid, steps_laid}
use Rattle.circuit_build.specs.Uses.{is_used, is_laid, constant_of, constants, all_added, step_added, steps_added}
use Rattle.circuit_build.specs.Blocks.{allocations, after_block}
use Rattle.circuit_build.proofs.CountBooks.{Weight, Sum}
use Rattle.circuit_build.proofs.CountItems.{run, ends, WideIf, Open, shifted, leaves, triggered_open, through_open, copy_width, copied_open, fed_books, defined_open, none_more, unit1, unit2, unit3}
use Rattle.circuit_build.proofs.CountQueues.{queues_out, queues_in, queue_out, queue_in, qsum_same, qsum_none, queue_some, group_out, group_in, load_out, load_in, store_out, store_in}
use Rattle.circuit_build.proofs.Fields.{Kept, defined_still, step_kept}
use Rattle.circuit_build.proofs.Remains.{one_if, often, all_added_is, operands_below, operands_few, step_added_past, steps_added_length, steps_added_most, below_as}

-- ---- widths

pub wide_of : (w : ℕ) → IsWidth w → IsTrue (is_width w)
wide_of w (inl e) = rw e refl
wide_of w (inr (inl e)) = rw e refl
wide_of w (inr (inr (inl e))) = rw e refl
wide_of w (inr (inr (inr e))) = rw e refl

pub wide_ty : (t : Ty) → IsTrue (is_width (ty_width t))
wide_ty I8 = refl
wide_ty U8 = refl
wide_ty I16 = refl
wide_ty U16 = refl
wide_ty I32 = refl
wide_ty U32 = refl
wide_ty I64 = refl
wide_ty U64 = refl

wide_op1 : (op : Unary) → IsTrue (is_width (op1_out op))
wide_op1 Neg32 = refl
wide_op1 Neg64 = refl
wide_op1 Not32 = refl
wide_op1 Not64 = refl
wide_op1 Zero32 = refl
wide_op1 Zero64 = refl
wide_op1 S8to16 = refl
wide_op1 S8to32 = refl
wide_op1 S8to64 = refl
wide_op1 S16to32 = refl
wide_op1 S16to64 = refl
wide_op1 S32to64 = refl
wide_op1 U8to16 = refl
wide_op1 U8to32 = refl
wide_op1 U8to64 = refl
wide_op1 U16to32 = refl
wide_op1 U16to64 = refl
wide_op1 U32to64 = refl
wide_op1 Cut16to8 = refl
wide_op1 Cut32to8 = refl
wide_op1 Cut32to16 = refl
wide_op1 Cut64to8 = refl
wide_op1 Cut64to16 = refl
wide_op1 Cut64to32 = refl

wide_op2 : (op : Binary) → IsTrue (is_width (op2_out op))
wide_op2 Add32 = refl
wide_op2 Add64 = refl
wide_op2 Sub32 = refl
wide_op2 Sub64 = refl
wide_op2 Mul32 = refl
wide_op2 Mul64 = refl
wide_op2 And32 = refl
wide_op2 And64 = refl
wide_op2 Or32 = refl
wide_op2 Or64 = refl
wide_op2 Xor32 = refl
wide_op2 Xor64 = refl
wide_op2 Shl32 = refl
wide_op2 Shl64 = refl
wide_op2 Shru32 = refl
wide_op2 Shru64 = refl
wide_op2 Shrs32 = refl
wide_op2 Shrs64 = refl
wide_op2 Divu32 = refl
wide_op2 Divu64 = refl
wide_op2 Remu32 = refl
wide_op2 Remu64 = refl
wide_op2 Divs32 = refl
wide_op2 Divs64 = refl
wide_op2 Rems32 = refl
wide_op2 Rems64 = refl
wide_op2 Eq32 = refl
wide_op2 Eq64 = refl
wide_op2 Ne32 = refl
wide_op2 Ne64 = refl
wide_op2 Ltu32 = refl
wide_op2 Ltu64 = refl
wide_op2 Leu32 = refl
wide_op2 Leu64 = refl
wide_op2 Lts32 = refl
wide_op2 Lts64 = refl
wide_op2 Les32 = refl
wide_op2 Les64 = refl

width_same : (xs : List Array) (a : ℕ) → width_at xs a ≡ array_width xs a
width_same [] a = refl
width_same (x ∷ xs) zero = refl
width_same (x ∷ xs) (suc a) = width_same xs a

-- of an array that stands in the list
pub record Element (xs : List Array) (a w : ℕ) (p : ℕ) : Type 0 where
  pub width : width_at xs a ≡ w
  pub step : step_width xs (step.Load a p) ≡ Some (width_at xs a)
  pub wide : IsTrue (is_width (width_at xs a))

pub element : (xs : List Array) (a w p : ℕ) → IsArray xs a w → Element xs a w p
element [] a w p (x, e, v) = absurd (cc)
element (y ∷ xs) zero w p (x, e, v) = let z : y ≡ x = cc in record { width = ap (λ (r : Array). ty_width r.ty) z ∙ v; step = refl; wide = wide_ty y.ty }
element (y ∷ xs) (suc a) w p (x, e, v) = let i = element xs a w p (x, e, v) in record { width = i.width; step = i.step; wide = i.wide }

-- ---- what is open and what waits of the edges, the heads and the queues

abbrev pub carried : Weight → List End → ℕ
carried f [] = 0
carried f (e ∷ es) = f e.place e.width false + carried f es

-- a head that has taken its edge
abbrev pub is_zero : Option ℕ → Bool
is_zero None = false
is_zero (Some zero) = true
is_zero (Some (suc h)) = false

-- the edges that no head has taken
abbrev pub edges : Weight → List ℕ → List Edge → ℕ
edges f hs [] = 0
edges f hs (e ∷ es) = cond (is_zero (slice_get hs e.to)) 0 (f e.control 32 true + carried f e.with) + edges f hs es

-- a number for each head, by the number of its target
abbrev pub hsum : (ℕ → ℕ → ℕ) → List ℕ → ℕ
hsum K [] = 0
hsum K (h ∷ hs) = K 0 h + hsum (λ t. K (suc t)) hs

-- a group for each access of the array
abbrev pub groups_in : ℕ → List Access → ℕ
groups_in a [] = 0
groups_in a (x ∷ xs) = cond (x.array == a) (suc (groups_in a xs)) (groups_in a xs)

-- a port for each load and store of the array, before others
abbrev pub step_ports : ℕ → Instr → List Port → List Port
step_ports a (step.Const w n) ps = ps
step_ports a (step.One op x) ps = ps
step_ports a (step.Two op x y) ps = ps
step_ports a (step.Select w c x y) ps = ps
step_ports a (step.Load b p) ps = cond (b == a) (Load ∷ ps) ps
step_ports a (step.Store b p v) ps = cond (b == a) (Store ∷ ps) ps

abbrev pub steps_ports : ℕ → List Instr → List Port → List Port
steps_ports a [] ps = ps
steps_ports a (i ∷ is) ps = step_ports a i (steps_ports a is ps)

abbrev pub owe_of : Net → (Weight → ℕ → ℕ → ℕ) → (ℕ → List Port) → (ℕ → ℕ) → Draft → Sum
owe_of net K P G d f = hsum (K f) d.heads + queues_in f (array_width net.arrays) P G d.queues

abbrev pub rest_of : Net → (ℕ → List Port) → (ℕ → ℕ) → Draft → Sum
rest_of net P G d f = edges f d.heads d.edges + queues_out f (array_width net.arrays) P G d.queues

-- what is kept of the edges, the heads and the last edges to the targets
abbrev pub EdgesFact : Type 1
EdgesFact = List Edge → List ℕ → List ℕ → Type 0

-- a block under construction: ports and groups of the queues are left by arrays, and something is kept of the edges and heads
pub record Within (net : Net) (S : ℕ → Type 0) (K : Weight → ℕ → ℕ → ℕ) (J : EdgesFact) (P : ℕ → List Port) (G : ℕ → ℕ) (d : Draft) (ws : Shape) (L : ℕ → ℕ) (k : ℕ) : Type 0 where
  pub open_ends : Open net d (owe_of net K P G d) (rest_of net P G d) ws L k
  pub kept : J d.edges d.heads d.tails
  pub stored : (a : ℕ) → queue_of d a ≡ None → S a → ⊥

-- the arrays that steps store to are among these
abbrev pub StoredIf : (ℕ → Type 0) → Instr → Type 0
StoredIf S (step.Const w n) = Unit {0}
StoredIf S (step.One op a) = Unit {0}
StoredIf S (step.Two op a b) = Unit {0}
StoredIf S (step.Select w c a b) = Unit {0}
StoredIf S (step.Load a p) = Unit {0}
StoredIf S (step.Store a p v) = S a

abbrev pub AllStored : (ℕ → Type 0) → List Instr → Type 0
AllStored S [] = Unit {0}
AllStored S (i ∷ is) = StoredIf S i × AllStored S is

-- an array has no queue after a change where it had none before
kept_none : (qs : List (Option Queue)) (a b : ℕ) (q : Queue) {p : Queue} → slice_get qs a ≡ Some (Some p) → queue_or (slice_get (set qs a (Some q)) b) ≡ None → queue_or (slice_get qs b) ≡ None
kept_none [] a b q h e = e
kept_none (x ∷ qs) zero zero q h e = absurd (cc)
kept_none (x ∷ qs) zero (suc b) q h e = e
kept_none (x ∷ qs) (suc a) zero q h e = e
kept_none (x ∷ qs) (suc a) (suc b) q h e = kept_none qs a b q h e

-- so many triggers, said otherwise
pub open_as : {net : Net} {d : Draft} {o r : Sum} {ws : Shape} {L : ℕ → ℕ} {k j : ℕ} → k ≡ j → Open net d o r ws L k → Open net d o r ws L j
open_as {net} {d} {o} {r} {ws} {L} e h = subst (λ n. Open net d o r ws L n) e h

groups_own : (a : ℕ) (x : Access) (xs : List Access) → x.array ≡ a → groups_in a (x ∷ xs) ≡ suc (groups_in a xs)
groups_own a x xs e = rw (eq-eqb x.array a e) refl

groups_other : (a : ℕ) (x : Access) (xs : List Access) → a ≢ x.array → groups_in a (x ∷ xs) ≡ groups_in a xs
groups_other a x xs n = rw (ne_eqb x.array a (λ e. n (sym e))) refl

-- the trigger of a step, where it takes one
abbrev pub triggers_of : Instr → ℕ
triggers_of (step.Const w n) = 1
triggers_of (step.One op a) = 0
triggers_of (step.Two op a b) = 0
triggers_of (step.Select w c a b) = 0
triggers_of (step.Load a p) = 0
triggers_of (step.Store a p v) = 0

laid_triggers : (i : Instr) (n : ℕ) → is_laid i n ≡ true → constant_of i n ≡ triggers_of i
laid_triggers (step.Const w v) n e = ap (λ b. cond b 1 0) e
laid_triggers (step.One op a) n e = refl
laid_triggers (step.Two op a b) n e = refl
laid_triggers (step.Select w c a b) n e = refl
laid_triggers (step.Load a p) n e = refl
laid_triggers (step.Store a p v) n e = refl

unused : (n : ℕ) → is_used n ≡ false → n ≡ 0
unused zero e = refl
unused (suc n) e = absurd (cc)

-- a step that is not laid has a value that nothing uses
record Idle (arrays : List Array) (i : Instr) (n : ℕ) : Type 0 where
  none : n ≡ 0
  triggers : constant_of i n ≡ 0
  wide : WideIf (step_width arrays i)
  ports : (a : ℕ) (ps : List Port) → step_ports a i ps ≡ ps

idle : (arrays : List Array) (ws : Shape) (i : Instr) (n : ℕ) → StepFits arrays ws i → is_laid i n ≡ false → Idle arrays i n
idle arrays ws (step.Const w v) n h e = record { none = unused n e; triggers = ap (λ b. cond b 1 0) e; wide = wide_of w h.0; ports = λ a ps. refl }
idle arrays ws (step.One op a) n h e = record { none = unused n e; triggers = refl; wide = wide_op1 op; ports = λ a ps. refl }
idle arrays ws (step.Two op a b) n h e = record { none = unused n e; triggers = refl; wide = wide_op2 op; ports = λ a ps. refl }
idle arrays ws (step.Select w c a b) n h e = record { none = unused n e; triggers = refl; wide = wide_of w h.0; ports = λ a ps. refl }
idle arrays ws (step.Load a p) n h e = absurd (cc)
idle arrays ws (step.Store a p v) n h e = absurd (cc)

module _ {net : Net} {S : ℕ → Type 0} {K : Weight → ℕ → ℕ → ℕ} {J : EdgesFact} where
  -- what a part leaves is kept
  pub settled : {P : ℕ → List Port} {G : ℕ → ℕ} {ws : Shape} {L : ℕ → ℕ} {k : ℕ} (d e : Draft) → Kept d e → e.queues ≡ d.queues → J d.edges d.heads d.tails → ((a : ℕ) → queue_of d a ≡ None → S a → ⊥) → Open net e (owe_of net K P G d) (rest_of net P G d) ws L k → Within net S K J P G e ws L k
  settled {P} {G} d e s q j st h =
      let W : ℕ → ℕ = array_width net.arrays in
      record {
        open_ends = shifted (owe_of net K P G e) (rest_of net P G e) h
            (λ f. ap (λ hs. hsum (K f) hs + queues_in f W P G d.queues) (sym s.heads) ∙ ap (λ qs. hsum (K f) e.heads + queues_in f W P G qs) (sym q))
            (λ f. ap (λ hs. edges f hs d.edges + queues_out f W P G d.queues) (sym s.heads) ∙ ap (λ es. edges f e.heads es + queues_out f W P G d.queues) (sym s.edges) ∙ ap (λ qs. edges f e.heads e.edges + queues_out f W P G qs) (sym q));
        kept = subst (λ ts. J e.edges e.heads ts) (sym s.tails) (subst (λ hs. J e.edges hs d.tails) (sym s.heads) (subst (λ es. J es d.heads d.tails) (sym s.edges) j));
        stored = λ a n. st a (ap (λ qs. queue_or (slice_get qs a)) (sym q) ∙ n);
      }

  -- and the queues of a unit
  made : {P Q : ℕ → List Port} {G : ℕ → ℕ} {ws vs : Shape} {L M : ℕ → ℕ} {k j : ℕ} (d e : Draft) → Kept d e → e.queues ≡ d.queues → Within net S K J P G d ws L k → Open net e (owe_of net K Q G d) (rest_of net Q G d) vs M j → Within net S K J Q G e vs M j
  made d e s q h u = settled d e s q h.kept h.stored u

  as_many : {P : ℕ → List Port} {G : ℕ → ℕ} {d : Draft} {ws : Shape} {L : ℕ → ℕ} {k j : ℕ} → k ≡ j → Within net S K J P G d ws L k → Within net S K J P G d ws L j
  as_many {P} {G} {d} {ws} {L} e h = subst (λ n. Within net S K J P G d ws L n) e h

  -- ---- allocations

  allocated_within : {P : ℕ → List Port} {d : Draft} {ws : Shape} {L : ℕ → ℕ} {k : ℕ} (G H : ℕ → ℕ) (a : ℕ) (o : Option Queue) → queue_of d a ≡ o → G a ≡ suc (H a) → ((b : ℕ) → b ≢ a → G b ≡ H b) → Within net S K J P G d ws L k → Within net S K J P H (allocated_by a o d) ws L k
  allocated_within {P} {d} {ws} {L} {k} G H a None e s t h =
      let W : ℕ → ℕ = array_width net.arrays in
      record {
        open_ends = shifted (owe_of net K P H d) (rest_of net P H d) h.open_ends
            (λ f. let x = qsum_none d.queues (λ b y. queue_in f (W b) y (P b) (G b)) (λ b y. queue_in f (W b) y (P b) (H b)) a e (λ b y n. ap (λ m. queue_in f (W b) y (P b) m) (t b n)) in omega (arith, x))
            (λ f. let x = qsum_none d.queues (λ b y. queue_out f (W b) y (P b) (G b)) (λ b y. queue_out f (W b) y (P b) (H b)) a e (λ b y n. ap (λ m. queue_out f (W b) y (P b) m) (t b n)) in omega (arith, x));
        kept = h.kept;
        stored = h.stored;
      }
  allocated_within {P} {d} {ws} {L} {k} G H a (Some q) e s t h =
      let W : ℕ → ℕ = array_width net.arrays in
      let z = queue_some d.queues a q e in
      let o = through_open q q.group (owe_of net K P H (group_taken a q d)) (rest_of net P H (group_taken a q d)) h.open_ends
      (λ f. let x = group_in f W d.queues a q z P G H s t in omega (arith, x))
      (λ f. let x = group_out f W d.queues a q z P G H s t in omega (arith, x)) in
      record { open_ends = record { books = o.books; fits = o.fits; wide = o.wide; ahead = o.ahead; few = o.few }; kept = h.kept; stored = λ b n s. h.stored b (kept_none d.queues a b (next_group q) z n) s }

  allocations_if : {P : ℕ → List Port} {L : ℕ → ℕ} {k : ℕ} (own : Bool) (b : ℕ) (x : Access) (xs : List Access) (d : Draft) (ws : Shape) → Within net S K J P (λ a. groups_in a (x ∷ xs)) d ws L k → Within net S K J P (λ a. groups_in a (after_block b xs)) (allocations b xs (allocated x.array d)) ws L k
      → Within net S K J P (λ a. groups_in a (cond own (after_block b xs) (x ∷ xs))) (cond own (allocations b xs (allocated x.array d)) d) ws L k
  allocations_if true b x xs d ws h i = i
  allocations_if false b x xs d ws h i = h

  pub allocations_within : {P : ℕ → List Port} {L : ℕ → ℕ} {k : ℕ} (b : ℕ) (xs : List Access) (d : Draft) (ws : Shape) → Within net S K J P (λ a. groups_in a xs) d ws L k → Within net S K J P (λ a. groups_in a (after_block b xs)) (allocations b xs d) ws L k
  allocations_within b [] d ws h = h
  allocations_within b (x ∷ xs) d ws h =
      let i = allocated_within (λ a. groups_in a (x ∷ xs)) (λ a. groups_in a xs) x.array (queue_of d x.array) refl (groups_own x.array x xs refl) (λ a n. groups_other a x xs n) h in
      allocations_if (x.block == b) b x xs d ws h (allocations_within b xs (allocated x.array d) ws i)

  -- ---- loads and stores

  load_within : {G : ℕ → ℕ} {d : Draft} {ws : Shape} {L : ℕ → ℕ} {k : ℕ} (P : ℕ → List Port) (M : ℕ → ℕ) (a p w : ℕ) (o : Option Queue) → queue_of d a ≡ o → IsArray net.arrays a w → IsOfWidth ws p 64 → ((u : ℕ) → L u ≡ M u + one_if p u)
      → Within net S K J (λ b. step_ports b (step.Load a p) (P b)) G d ws L k → Within net S K J P G (load_by o a (width_at net.arrays a) p d) (ws ++ Some (width_at net.arrays a) ∷ []) M k
  load_within {G} {d} {ws} {L} {k} P M a p w None e x i m h =
      let W : ℕ → ℕ = array_width net.arrays in
      let Q : ℕ → List Port = λ b. step_ports b (step.Load a p) (P b) in
      let v = width_at net.arrays a in
      let el = element net.arrays a w p x in
      let same : (b : ℕ) → b ≢ a → Q b ≡ P b = λ b n. ap (λ t. cond t (Load ∷ P b) (P b)) (ne_eqb a b (λ z. n (sym z))) in
      let s = shifted (owe_of net K P G d) (rest_of net P G d) h.open_ends
      (λ f. let x = qsum_none d.queues (λ b y. queue_in f (W b) y (Q b) (G b)) (λ b y. queue_in f (W b) y (P b) (G b)) a e (λ b y n. ap (λ m. queue_in f (W b) y m (G b)) (same b n)) in omega (arith, x))
      (λ f. let x = qsum_none d.queues (λ b y. queue_out f (W b) y (Q b) (G b)) (λ b y. queue_out f (W b) y (P b) (G b)) a e (λ b y n. ap (λ m. queue_out f (W b) y m (G b)) (same b n)) in omega (arith, x)) in
      let c = copied_open p 64 M s i m in
      let y = width_same net.arrays a in
      let u = unit1 (Read a) (copy_of p d) 64 v c (copy_width p 64 M s i m) refl el.wide (λ f. omega arith) (λ f. let t = ap (λ n. f (at (next (copied p d)) 0) n false) y in omega (arith, t)) in
      let t = defined_still (at (next (copied p d)) 0) v (fed (copy_of p d) (next (copied p d)) 0 (with_unit (Read a) (copied p d))) in
      settled d (load_by None a v p d) (record { uses = t.kept.uses; edges = t.kept.edges; heads = t.kept.heads; tails = t.kept.tails }) t.queues h.kept h.stored u
  load_within {G} {d} {ws} {L} {k} P M a p w (Some q) e x i m h =
      let W : ℕ → ℕ = array_width net.arrays in
      let Q : ℕ → List Port = λ b. step_ports b (step.Load a p) (P b) in
      let v = width_at net.arrays a in
      let el = element net.arrays a w p x in
      let y = width_same net.arrays a in
      let z = queue_some d.queues a q e in
      let same : (b : ℕ) → b ≢ a → Q b ≡ P b = λ b n. ap (λ t. cond t (Load ∷ P b) (P b)) (ne_eqb a b (λ z. n (sym z))) in
      let own : Q a ≡ Load ∷ P a = ap (λ t. cond t (Load ∷ P a) (P a)) (eq-eqb a a refl) in
      let c = copied_open p 64 M h.open_ends i m in
      let l = copied p d in
      let g = fed (copy_of p d) q.unit (addr_place q) l in
      let after : Draft = record d { queues = set d.queues a (Some (next_port q)) } in
      let o' = owe_of net K P G after in
      let r' = rest_of net P G after in
      let b1 = fed_books (copy_of p d) q.unit (addr_place q) 64 o' (λ f. f d.control 32 true + run f d.trigger 32 k + ends f M l.ends + (f (at q.unit (value_place q)) v false + r' f)) c.books (copy_width p 64 M h.open_ends i m)
      (λ f. let t = load_in f W d.queues a q z Q P G own same in omega (arith, t))
      (λ f. let t = load_out f W d.queues a q z Q P G own same in let n = ap (λ m. f (at q.unit (value_place q)) m false) y in omega (arith, t, n)) in
      let u : Open net g o' (λ f. f (at q.unit (value_place q)) v false + r' f) ws M k = record { books = b1; fits = c.fits; wide = c.wide; ahead = c.ahead; few = c.few } in
      let j = defined_open (at q.unit (value_place q)) v u el.wide in
      let t = defined_still (at q.unit (value_place q)) v g in
      settled after (load_taken q a v p d) (record { uses = t.kept.uses; edges = t.kept.edges; heads = t.kept.heads; tails = t.kept.tails }) (ap (λ qs. set qs a (Some (next_port q))) t.queues) h.kept (λ b n s. h.stored b (kept_none d.queues a b (next_port q) z n) s)
      (record { books = j.books; fits = j.fits; wide = j.wide; ahead = j.ahead; few = j.few })

  store_within : {G : ℕ → ℕ} {d : Draft} {ws : Shape} {L : ℕ → ℕ} {k : ℕ} (P : ℕ → List Port) (M : ℕ → ℕ) (a p v w : ℕ) (o : Option Queue) → queue_of d a ≡ o → S a → IsArray net.arrays a w → IsOfWidth ws p 64 → IsOfWidth ws v w → ((u : ℕ) → L u ≡ M u + one_if v u + one_if p u)
      → Within net S K J (λ b. step_ports b (step.Store a p v) (P b)) G d ws L k → Within net S K J P G (store_by o a p v d) (ws ++ None ∷ []) M k
  store_within {G} {d} {ws} {L} {k} P M a p v w None e s x i j m h = absurd (h.stored a e s)
  store_within {G} {d} {ws} {L} {k} P M a p v w (Some q) e s x i j m h =
      let W : ℕ → ℕ = array_width net.arrays in
      let Q : ℕ → List Port = λ b. step_ports b (step.Store a p v) (P b) in
      let el = element net.arrays a w p x in
      let y : W a ≡ w = sym (width_same net.arrays a) ∙ el.width in
      let z = queue_some d.queues a q e in
      let same : (b : ℕ) → b ≢ a → Q b ≡ P b = λ b n. ap (λ t. cond t (Store ∷ P b) (P b)) (ne_eqb a b (λ z. n (sym z))) in
      let own : Q a ≡ Store ∷ P a = ap (λ t. cond t (Store ∷ P a) (P a)) (eq-eqb a a refl) in
      let t = copied p d in
      let l = copied v t in
      let after : Draft = record d { queues = set d.queues a (Some (next_port q)) } in
      let o' = owe_of net K P G after in
      let r' = rest_of net P G after in
      let N : ℕ → ℕ = λ u. M u + one_if v u in
      let c = copied_open p 64 N h.open_ends i m in
      let n = copied_open v w M c j (λ u. refl) in
      let b1 = fed_books (copy_of p d) q.unit (addr_place q) 64 (λ f. f (at q.unit (data_place q)) w false + o' f) (λ f. f d.control 32 true + run f d.trigger 32 k + ends f M l.ends + (f (copy_of v t).place w false + rest_of net Q G d f)) n.books (copy_width p 64 N h.open_ends i m)
      (λ f. let t = store_in f W d.queues a q z Q P G own same in let n = ap (λ b. f (at q.unit (data_place q)) b false) y in omega (arith, t, n)) (λ f. omega arith) in
      let b2 = fed_books (copy_of v t) q.unit (data_place q) w o' (λ f. f d.control 32 true + run f d.trigger 32 k + ends f M l.ends + r' f) b1 (copy_width v w M c j (λ u. refl)) (λ f. refl)
      (λ f. let t = store_out f W d.queues a q z Q P G own same in omega (arith, t)) in
      let before : Open net (fed (copy_of v t) q.unit (data_place q) (fed (copy_of p d) q.unit (addr_place q) l)) o' r' ws M k = record { books = b2; fits = n.fits; wide = n.wide; ahead = n.ahead; few = n.few } in
      let u = none_more None before tt (λ w e. absurd (cc)) in
      settled after (store_taken q a p v d) (record { uses = refl; edges = refl; heads = refl; tails = refl }) refl h.kept (λ b n s. h.stored b (kept_none d.queues a b (next_port q) z n) s)
      (record { books = u.books; fits = u.fits; wide = u.wide; ahead = u.ahead; few = u.few })

  -- ---- steps

  made_within : {G : ℕ → ℕ} {d : Draft} {ws : Shape} {L : ℕ → ℕ} (P : ℕ → List Port) (M : ℕ → ℕ) (j : ℕ) (i : Instr) → StepFits net.arrays ws i → StoredIf S i → ((u : ℕ) → L u ≡ M u + often u (operands i))
      → Within net S K J (λ a. step_ports a i (P a)) G d ws L (triggers_of i + j) → Within net S K J P G (step_made net.arrays i d) (ws ++ step_width net.arrays i ∷ []) M j
  made_within {G} {d} {ws} {L} P M j (step.Const w n) (i, l) st m h =
      let o = open_as (let z : 1 + j ≡ suc j = omega arith in z) (leaves M h.open_ends (λ u. let x = m u in omega (arith, x))) in
      let t = triggered_open o in
      let fits : IsTrue (is_width w && nat_lt n (2 ^ w)) = rw (wide_of w i, lt-ltb n (2 ^ w) l) refl in
      let u = unit1 (Const w n) (trigger_of d) 32 w t refl fits (wide_of w i) (λ f. omega arith) (λ f. omega arith) in
      let e = triggered d in
      let s = defined_still (at (next e) 0) w (fed (trigger_of d) (next e) 0 (with_unit (Const w n) e)) in
      made d (step_made net.arrays (step.Const w n) d) (record { uses = s.kept.uses; edges = s.kept.edges; heads = s.kept.heads; tails = s.kept.tails }) s.queues h u
  made_within {G} {d} {ws} {L} P M j (step.One op a) i st m h =
      let ha = open_as (let z : 0 + j ≡ j = omega arith in z) h.open_ends in
      let ma : (u : ℕ) → L u ≡ M u + one_if a u = λ u. let x = m u in omega (arith, x) in
      let c = copied_open a (op1_in op) M ha i ma in
      let u = unit1 (Op1 op) (copy_of a d) (op1_in op) (op1_out op) c (copy_width a (op1_in op) M ha i ma) refl (wide_op1 op) (λ f. omega arith) (λ f. omega arith) in
      let e = copied a d in
      let s = defined_still (at (next e) 0) (op1_out op) (fed (copy_of a d) (next e) 0 (with_unit (Op1 op) e)) in
      made d (step_made net.arrays (step.One op a) d) (record { uses = s.kept.uses; edges = s.kept.edges; heads = s.kept.heads; tails = s.kept.tails }) s.queues h u
  made_within {G} {d} {ws} {L} P M j (step.Two op a b) (i, k) st m h =
      let ha = open_as (let z : 0 + j ≡ j = omega arith in z) h.open_ends in
      let N : ℕ → ℕ = λ u. M u + one_if b u in
      let ma : (u : ℕ) → L u ≡ N u + one_if a u = λ u. let x = m u in omega (arith, x) in
      let c = copied_open a (op2_in op) N ha i ma in
      let g = copied_open b (op2_in op) M c k (λ u. refl) in
      let e = copied a d in
      let f = copied b e in
      let u = unit2 (Op2 op) (copy_of a d) (copy_of b e) (op2_in op) (op2_out op) g (copy_width a (op2_in op) N ha i ma) (copy_width b (op2_in op) M c k (λ u. refl)) refl (wide_op2 op) (λ f. omega arith) (λ f. omega arith) in
      let s = defined_still (at (next f) 0) (op2_out op) (fed (copy_of b e) (next f) 1 (fed (copy_of a d) (next f) 0 (with_unit (Op2 op) f))) in
      made d (step_made net.arrays (step.Two op a b) d) (record { uses = s.kept.uses; edges = s.kept.edges; heads = s.kept.heads; tails = s.kept.tails }) s.queues h u
  made_within {G} {d} {ws} {L} P M j (step.Select w c a b) (i, x, y, z) st m h =
      let ha = open_as (let z : 0 + j ≡ j = omega arith in z) h.open_ends in
      let N : ℕ → ℕ = λ u. M u + one_if b u in
      let O : ℕ → ℕ = λ u. M u + one_if b u + one_if a u in
      let mc : (u : ℕ) → L u ≡ O u + one_if c u = λ u. let x = m u in omega (arith, x) in
      let k = copied_open c 32 O ha x mc in
      let l = copied_open a w N k y (λ u. refl) in
      let n = copied_open b w M l z (λ u. refl) in
      let e = copied c d in
      let f = copied a e in
      let g = copied b f in
      let u = unit3 (Select w) (copy_of c d) (copy_of a e) (copy_of b f) 32 w n (copy_width c 32 O ha x mc) (copy_width a w N k y (λ u. refl)) (copy_width b w M l z (λ u. refl)) (wide_of w i) (wide_of w i) (λ f. omega arith) (λ f. omega arith) in
      let s = defined_still (at (next g) 0) w (fed (copy_of b f) (next g) 2 (fed (copy_of a e) (next g) 1 (fed (copy_of c d) (next g) 0 (with_unit (Select w) g)))) in
      made d (step_made net.arrays (step.Select w c a b) d) (record { uses = s.kept.uses; edges = s.kept.edges; heads = s.kept.heads; tails = s.kept.tails }) s.queues h u
  made_within {G} {d} {ws} {L} P M j (step.Load a p) (w, x, i) st m h =
      let u = load_within P M a p w (queue_of d a) refl x i (λ u. let y = m u in omega (arith, y)) (as_many (let z : 0 + j ≡ j = omega arith in z) h) in
      let el = element net.arrays a w p x in
      subst (λ o. Within net S K J P G (step_made net.arrays (step.Load a p) d) (ws ++ o ∷ []) M j) (sym el.step) u
  made_within {G} {d} {ws} {L} P M j (step.Store a p v) (w, x, i, k) st m h = store_within P M a p v w (queue_of d a) refl st x i k (λ u. let y = m u in omega (arith, y)) (as_many (let z : 0 + j ≡ j = omega arith in z) h)

  -- a step takes its uses from what is left, or it is not laid
  step_within : {G : ℕ → ℕ} {d : Draft} {ws : Shape} (P : ℕ → List Port) (t : List ℕ) (j : ℕ) (i : Instr) → StepFits net.arrays ws i → StoredIf S i → length ws ≤ length t → ((u : ℕ) → get_or t u 0 + 4 < 2 ^ 32)
      → Within net S K J (λ a. step_ports a i (P a)) G d ws (λ u. get_or (step_added (length ws) i t) u 0) (constant_of i (uses_of_next d) + j) → Within net S K J P G (step_laid net.arrays i d) (ws ++ step_width net.arrays i ∷ []) (λ u. get_or t u 0) j
  step_within {G} {d} {ws} P t j i fit st long room h =
      let n = get_or t (length ws) 0 in
      let a = h.open_ends.ahead (length ws) (omega arith) in
      let b = step_added_past net.arrays ws (length ws) i (length ws) t fit (omega arith) in
      let c = ap (λ m. get_or d.uses m 0) h.open_ends.fits.long in
      let e : n ≡ uses_of_next d = sym b ∙ a ∙ sym c in
      subst (λ m. Within net S K J P G (cond (is_laid i m) (step_made net.arrays i d) (undefined d)) (ws ++ step_width net.arrays i ∷ []) (λ u. get_or t u 0) j) e
      (by (is_laid i n) refl (as_many (ap (λ m. constant_of i m + j) (sym e)) h))
    where
      by : (b : Bool) → is_laid i (get_or t (length ws) 0) ≡ b → Within net S K J (λ a. step_ports a i (P a)) G d ws (λ u. get_or (step_added (length ws) i t) u 0) (constant_of i (get_or t (length ws) 0) + j)
          → Within net S K J P G (cond b (step_made net.arrays i d) (undefined d)) (ws ++ step_width net.arrays i ∷ []) (λ u. get_or t u 0) j
      by true e h =
          let few = operands_few i in
          made_within P (λ u. get_or t u 0) j i fit st (λ u. ap (λ b. get_or (cond b (all_added (operands i) t) t) u 0) e ∙ all_added_is (operands i) u t (below_as (operands i) (length ws) (length t) long (operands_below net.arrays ws i fit)) (let r = room u in omega (arith, r, few)))
          (as_many (ap (λ m. m + j) (laid_triggers i (get_or t (length ws) 0) e)) h)
      by false e h =
          let x = idle net.arrays ws i (get_or t (length ws) 0) fit e in
          let o = leaves (λ u. get_or t u 0) h.open_ends (λ u. ap (λ b. get_or (cond b (all_added (operands i) t) t) u 0) e) in
          let p = open_as (let y = x.triggers in let z : constant_of i (get_or t (length ws) 0) + j ≡ j = omega (arith, y) in z) o in
          let W : ℕ → ℕ = array_width net.arrays in
          let q = shifted (owe_of net K P G d) (rest_of net P G d) p
          (λ f. let y = qsum_same d.queues (λ b y. queue_in f (W b) y (step_ports b i (P b)) (G b)) (λ b y. queue_in f (W b) y (P b) (G b)) (λ b y. ap (λ ps. queue_in f (W b) y ps (G b)) (x.ports b (P b))) in omega (arith, y))
          (λ f. let y = qsum_same d.queues (λ b y. queue_out f (W b) y (step_ports b i (P b)) (G b)) (λ b y. queue_out f (W b) y (P b) (G b)) (λ b y. ap (λ ps. queue_out f (W b) y ps (G b)) (x.ports b (P b))) in omega (arith, y)) in
          let r = none_more (step_width net.arrays i) q x.wide (λ w e. x.none) in
          record { open_ends = record { books = r.books; fits = r.fits; wide = r.wide; ahead = r.ahead; few = r.few }; kept = h.kept; stored = h.stored }

  pub steps_within : {G : ℕ → ℕ} (P : ℕ → List Port) (t us : List ℕ) (is : List Instr) (d : Draft) (ws : Shape) → StepsFit net.arrays ws is → AllStored S is → d.uses ≡ us → length ws + length is ≤ length t → ((u : ℕ) → get_or t u 0 + 3 * length is + 1 < 2 ^ 32)
      → Within net S K J (λ a. steps_ports a is (P a)) G d ws (λ u. get_or (steps_added (length ws) is t) u 0) (constants (length ws) is us) → Within net S K J P G (steps_laid net.arrays is d) (shape_after net.arrays ws is) (λ u. get_or t u 0) 0
  steps_within P t us [] d ws i st e long room h = h
  steps_within {G} P t us (i ∷ is) d ws (x, y) (st, more) e long room h =
      let n = length ws in
      let vs = ws ++ step_width net.arrays i ∷ [] in
      let l = length-append ws (step_width net.arrays i ∷ []) in
      let z : suc n ≡ length vs = omega (arith, l) in
      let tail = steps_added (suc n) is t in
      let tl = steps_added_length (suc n) is t in
      let c : constant_of i (get_or us n 0) + constants (suc n) is us ≡ constant_of i (uses_of_next d) + constants (length vs) is us =
      ap (λ m. constant_of i (get_or m n 0) + constants (suc n) is us) (sym e) ∙ ap (λ m. constant_of i (get_or d.uses m 0) + constants (suc n) is us) (sym h.open_ends.fits.long) ∙ ap (λ m. constant_of i (uses_of_next d) + constants m is us) z in
      let s : Within net S K J (λ a. steps_ports a is (P a)) G (step_laid net.arrays i d) vs (λ u. get_or tail u 0) (constants (length vs) is us) =
      step_within (λ a. steps_ports a is (P a)) tail (constants (length vs) is us) i x st (omega (arith, tl, long)) (λ u. let m = steps_added_most (suc n) is u t in let r = room u in omega (arith, m, r)) (as_many c h) in
      steps_within P t us is (step_laid net.arrays i d) vs y more ((step_kept net.arrays i d).uses ∙ e) (omega (arith, l, long)) (λ u. let r = room u in omega (arith, r))
      (subst (λ m. Within net S K J (λ a. steps_ports a is (P a)) G (step_laid net.arrays i d) vs (λ u. get_or (steps_added m is t) u 0) (constants (length vs) is us)) z s)
