-- The arrays that have a queue in the net of a kernel's graph, and in its circuit, are those that the kernel assigns to.
use Rattle.std.proofs.Common.{◌≡◌, ℕ, zero, suc, ◌<◌, Bool, true, false, Option, Some, None, List, [], ◌∷◌, ◌++◌, length, map, get_or, refl, sym, ap, subst, ◌∙◌, arith}
use Rattle.std.specs.Prelude.{slice_get}
use Rattle.std.proofs.lemmas.List.{get_or_default}
use Rattle.std.proofs.lemmas.List.Elements.{All-contains}
use Rattle.std.proofs.lemmas.Option.{none-some, slice_get_within, slice_get-get_or, get_or_from_slice_get}
use Rattle.el_base.specs.declared.ty.Array.{Array}
use Rattle.c_ast.specs.declared.typed.Typed.{Typed}
use Rattle.ir.specs.declared.groups.Groups.{Groups}
use Rattle.ir.specs.declared.instr.Instr.{Instr}
use Rattle.ir.specs.declared.instr.Instr.TheVariants.{Store}
use Rattle.ir.specs.Accesses.{IsStoredTo, GroupsShare}
use Rattle.ir.specs.Graphs.{Graph, IsBlock, IsGraph}
use Rattle.ir.specs.Shapes.{Shape, StepFits, StepsFit, step_width}
use Rattle.net_types.specs.declared.net.Net.{Net}
use Rattle.net_types.specs.declared.net.Port.{Port}
use Rattle.net_types.specs.declared.net.Unit.{Unit as Kind}
use Rattle.net_types.specs.declared.net.Unit.TheVariants.{Sink, Lsq}
use Rattle.net_types.specs.Nets.{kind_of}
use Rattle.net_check.specs.Retimed.{SamePlain}
use Rattle.kernel_graph.specs.Shares.{GraphShare}
use Rattle.circuit_build.specs.Counted.{queue_for}
use Rattle.circuit_build.specs.Kept.{BuildShare}
use Rattle.queue_marks.specs.Marked.{with_mark, forwarding, marked}
use Rattle.kernel_compile.specs.Targets.{HasQueue, TargetsHaveQueues}
use Rattle.kernel_compile.proofs.Queues.{queue_stored}
use Rattle.kernel_compile.proofs.Slots.{kinds_same}

-- ---- the net of a graph

-- a store that fits is to an array that there is
fits_within : (arrays : List Array) (ws : Shape) (is : List Instr) (i a p v : ℕ) → StepsFit arrays ws is → slice_get is i ≡ Some (Store a p v) → a < length arrays
fits_within arrays ws [] i a p v h e = absurd (none-some (Store a p v) e)
fits_within arrays ws (s ∷ is) zero a p v h e =
    let same : s ≡ Store a p v = cc in
    let f : StepFits arrays ws (Store a p v) = subst (StepFits arrays ws) same h.0 in
    slice_get_within arrays a f.1.0 f.1.1
fits_within arrays ws (s ∷ is) (suc i) a p v h e = fits_within arrays (ws ++ step_width arrays s ∷ []) is i a p v h.1 e

stored_within : (g : Graph) (a : ℕ) → IsGraph g → IsStoredTo g a → a < length g.arrays
stored_within g a fine s =
    let within = slice_get_within g.blocks s.number s.block s.is_block in
    let block = All-contains (IsBlock g) g.blocks s.block fine.blocks (s.number, within, get_or_from_slice_get g.blocks s.number s.block s.block s.is_block) in
    fits_within g.arrays (map Some s.block.args) s.block.steps s.place a s.addr s.value block.steps s.is_step

module _ (g : Graph) (gs : Groups) (net : Net) (groups : GroupsShare g gs) (laid : BuildShare g gs net) where
  -- what is stored to has a queue
  stored_has : IsGraph g → (a : ℕ) → IsStoredTo g a → HasQueue net a
  stored_has fine a s = by (slice_get gs.read_only a) refl
    where
      by : (o : Option Bool) → slice_get gs.read_only a ≡ o → HasQueue net a
      by None e =
          let within = stored_within g a fine s in
          let many = groups.as_many in
          let some = slice_get-get_or gs.read_only a false (omega arith) in
          absurd (cc)
      by (Some true) e = absurd (groups.read_only a e s)
      by (Some false) e =
          let w = laid.served.queue_is a e in
          let q = queue_for g gs a in
          record { unit = w.0; depth = _; ports = _; groups = _; mark = false; is = get_or_default net.units w.0 (Sink 0) q w.1 ∙ w.2 }

  queue_stores : (a : ℕ) → HasQueue net a → IsStoredTo g a
  queue_stores a q = groups.stored_to a (queue_stored g gs net groups laid q.unit a q.depth q.ports q.groups q.mark q.is)

pub targets_laid : (k : Typed) (g : Graph) (gs : Groups) (net : Net) → GraphShare k g → IsGraph g → GroupsShare g gs → BuildShare g gs net → TargetsHaveQueues k net
targets_laid k g gs net share fine groups laid a =
    (λ q. (share.stored a).0 (queue_stores g gs net groups laid a q), λ t. stored_has g gs net groups laid fine a ((share.stored a).1 t))

-- ---- slots, delays and marks

-- a kind that is a queue with the mark is one without it
record WasQueue (a : ℕ) (k : Kind) : Type 0 where
  depth : ℕ
  ports : List Port
  groups : List (List ℕ)
  mark : Bool
  is : k ≡ Lsq a depth ports groups mark

unmarked : (a depth : ℕ) (ports : List Port) (groups : List (List ℕ)) (mark : Bool) (k : Kind) → with_mark k ≡ Lsq a depth ports groups mark → WasQueue a k
unmarked a depth ports groups mark (Lsq b d ps gs m) e = record { depth = d; ports = ps; groups = gs; mark = m; is = cc }
unmarked a depth ports groups mark _ e = absurd (cc)

kinds_marked : (ks : List Kind) (u : ℕ) → get_or (map with_mark ks) u (Sink 0) ≡ with_mark (get_or ks u (Sink 0))
kinds_marked [] u = refl
kinds_marked (k ∷ ks) zero = refl
kinds_marked (k ∷ ks) (suc u) = kinds_marked ks u

kind_marked : (net : Net) (u : ℕ) → kind_of (forwarding net) u ≡ with_mark (kind_of net u)
kind_marked net u = kinds_marked net.units u

with_marks : (forward : Bool) (net : Net) (a : ℕ) → HasQueue net a → HasQueue (marked forward net) a
with_marks false net a q = q
with_marks true net a q = record { unit = q.unit; depth = q.depth; ports = q.ports; groups = q.groups; mark = true; is = kind_marked net q.unit ∙ ap with_mark q.is }

without_marks : (forward : Bool) (net : Net) (a : ℕ) → HasQueue (marked forward net) a → HasQueue net a
without_marks false net a q = q
without_marks true net a q =
    let w = unmarked a q.depth q.ports q.groups q.mark (kind_of net q.unit) (sym (kind_marked net q.unit) ∙ q.is) in
    record { unit = q.unit; depth = w.depth; ports = w.ports; groups = w.groups; mark = w.mark; is = w.is }

retimed : (net net2 : Net) → SamePlain net net2 → (a : ℕ) → HasQueue net a → HasQueue net2 a
retimed net net2 same a q = record { unit = q.unit; depth = q.depth; ports = q.ports; groups = q.groups; mark = q.mark; is = kinds_same net net2 same q.unit ∙ q.is }

-- none of them makes or takes a queue
pub targets_kept : (forward : Bool) (k : Typed) (net net2 : Net) → SamePlain (marked forward net) net2 → TargetsHaveQueues k net → TargetsHaveQueues k net2
targets_kept forward k net net2 same h a =
    let m = marked forward net in
    (λ q. (h a).0 (without_marks forward net a (retimed net2 m (sym same) a q)), λ t. retimed m net2 same a (with_marks forward net a ((h a).1 t)))
