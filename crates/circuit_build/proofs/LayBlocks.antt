-- Where the blocks of a graph stand in its net: the front, each block with its queues, the sides of its jump, and the return join.
use Rattle.std.specs.Prelude.{◌≡◌, ◌≢◌, ◌⊎◌, ℕ, ◌+◌, ◌*◌, ◌^◌, ◌<◌, ◌≤◌, ◌==◌, cond, List, [], ◌∷◌, ◌++◌, map, length, get_or, slice_get, Option, Some, None}
use Rattle.ir.specs.declared.graph.Block.{Block}
use Rattle.ir.specs.declared.graph.Jump.{Jump}
use Rattle.ir.specs.declared.graph.Jump.TheVariants.{Go, Two, Return}
use Rattle.ir.specs.declared.graph.To.{To}
use Rattle.ir.specs.declared.groups.Access.{Access}
use Rattle.ir.specs.declared.groups.Groups.{Groups}
use Rattle.ir.specs.declared.instr.Instr.{Instr}
use Rattle.ir.specs.declared.instr.Instr.TheVariants as step
use Rattle.ir.specs.Accesses.{is_on, accesses_in}
use Rattle.ir.specs.Graphs.{Graph}
use Rattle.net_types.specs.declared.net.Net.{Net}
use Rattle.net_types.specs.declared.net.Place.{Place}
use Rattle.net_types.specs.declared.net.Port.{Port}
use Rattle.net_types.specs.declared.net.Unit.TheVariants.{Entry, Param, Exit}
use Rattle.net_types.specs.Nets.{at}
use Rattle.circuit_build.specs.declared.draft.Draft.{Draft}
use Rattle.circuit_build.specs.declared.draft.Edge.{Edge}
use Rattle.circuit_build.specs.declared.draft.End.{End}
use Rattle.circuit_build.specs.declared.draft.Queue.{Queue}
use Rattle.circuit_build.specs.Drafts.{number, plus, next, copied}
use Rattle.circuit_build.specs.Steps.{queue_of, allocated}
use Rattle.circuit_build.specs.Uses.{handed_often}
use Rattle.circuit_build.specs.Jumps.{Sides, head_end, all_gone, passed_ends, all_branched, all_sides, yes_ends, no_ends, taken, result_list}
use Rattle.circuit_build.specs.Blocks.{tail_of, head_laid, ins_of, allocations, block_opened, block_worked, block_laid}
use Rattle.circuit_build.specs.Edges.{edge_counts}
use Rattle.circuit_build.specs.Endings.{result_widths, ones, all_ended}
use Rattle.circuit_build.specs.Fronts.{started, param_ends, entered, ports_of, groups_from, depth_from}
use Rattle.circuit_build.specs.Built.{join_of, front_of, with_join, with_feeders}
use Rattle.circuit_build.specs.Counted.{queue_for}
use Rattle.circuit_build.proofs.Targets.{tops_of}
use Rattle.circuit_build.proofs.CountSteps.{steps_ports}
use Rattle.circuit_build.proofs.LaySections.{Within, EdgeAt, AllUsed}
use Rattle.circuit_build.proofs.Stages.{Outside}

-- ---- targets: the unit of the head, 0 where the target has none of its own, how many inputs it has, and the widths of its arguments

abbrev pub head_of : Graph → Groups → ℕ → ℕ
head_of g gs t = get_or (with_join g gs).heads t 0

abbrev pub inputs_of : Graph → ℕ → ℕ
inputs_of g t = ins_of (edge_counts g.blocks) t

abbrev pub args_of : Graph → ℕ → List ℕ
args_of g t = get_or (tops_of g) t []

-- the edge of a target with one edge
abbrev pub lean_edge : Graph → Groups → ℕ → Option Edge
lean_edge g gs t = tail_of (inputs_of g t) t (with_join g gs)

-- ---- edges

abbrev pub edge_places : Edge → List (Option Place)
edge_places e = Some e.control ∷ map (λ (x : End). Some x.place) e.with

-- the edge ends at the merge of its target, at inputs of its own; no end is of a unit of that head
pub record MergedAt (g : Graph) (gs : Groups) (net : Net) (e : Edge) : Type 0 where
  pub some : 0 < head_of g gs e.to
  pub number : ℕ
  pub less : number < inputs_of g e.to
  pub wires : EdgeAt net (head_of g gs e.to) number e
  pub outside : Outside 0 (head_of g gs e.to) (head_end (head_of g gs e.to) (length e.with)) (edge_places e)

-- or it is the only edge of a target without a merge
pub record LeanAt (g : Graph) (gs : Groups) (e : Edge) : Type 0 where
  pub none : head_of g gs e.to ≡ 0
  pub only : lean_edge g gs e.to ≡ Some e

-- with a value for each argument of its target
pub record SideAt (g : Graph) (gs : Groups) (net : Net) (e : Edge) : Type 0 where
  pub many : length e.with ≡ length (args_of g e.to)
  pub ends_at : MergedAt g gs net e ⊎ LeanAt g gs e

-- the edges that a jump lays
abbrev pub gone_edge : ℕ → List ℕ → Draft → Edge
gone_edge to vs d = record { to = to; control = (all_gone to vs d).control; with = passed_ends (get_or d.heads to 0) (number (length vs)) vs d }

abbrev pub parted_all : ℕ → To → To → Draft → Draft
parted_all c yes_part no_part d = all_branched c 0 (handed_often (length d.ends) yes_part) (handed_often (length d.ends) no_part) d

abbrev pub parted_sides : ℕ → To → To → Draft → List Sides
parted_sides c yes_part no_part d = all_sides c 0 (handed_often (length d.ends) yes_part) (handed_often (length d.ends) no_part) d

abbrev pub parting : ℕ → To → To → Draft → ℕ
parting c yes_part no_part d = next (copied c (parted_all c yes_part no_part d))

abbrev pub yes_edge : ℕ → To → To → Draft → Edge
yes_edge c yes_part no_part d = record {
  to = yes_part.block;
  control = at (parting c yes_part no_part d) 0;
  with = taken yes_part.with (yes_ends (parted_sides c yes_part no_part d));
}

abbrev pub no_edge : ℕ → To → To → Draft → Edge
no_edge c yes_part no_part d = record {
  to = no_part.block;
  control = at (parting c yes_part no_part d) 1;
  with = taken no_part.with (no_ends (parted_sides c yes_part no_part d));
}

abbrev pub SidesAt : Graph → Groups → Net → ℕ → Jump → Draft → Type 0
SidesAt g gs net join (Go to) d = SideAt g gs net (gone_edge to.block to.with d)
SidesAt g gs net join (Two c yes_part no_part) d = SideAt g gs net (yes_edge c yes_part no_part d) × SideAt g gs net (no_edge c yes_part no_part d)
SidesAt g gs net join (Return v) d = SideAt g gs net (gone_edge join (result_list v) d)

-- ---- heads: a merge of its own, laid first, or what the one edge of the target hands on

pub record Merged (g : Graph) (gs : Groups) (t : ℕ) (before : Draft) : Type 0 where
  pub tail : tail_of (inputs_of g t) t before ≡ None
  pub unit : head_of g gs t ≡ next before
  pub late : 0 < next before

pub record Lean (g : Graph) (gs : Groups) (t : ℕ) (before : Draft) : Type 0 where
  pub edge : Edge
  pub tail : tail_of (inputs_of g t) t before ≡ Some edge
  pub only : lean_edge g gs t ≡ Some edge
  pub none : head_of g gs t ≡ 0
  -- its ends stand before, and are none of queues that are still to be used
  pub below : (m : ℕ) → Outside 0 (next before) m (edge_places edge)
  pub used : AllUsed (length (front_of g gs).units) before.queues (edge_places edge)

abbrev pub HeadAt : Graph → Groups → ℕ → Draft → Type 0
HeadAt g gs t before = Merged g gs t before ⊎ Lean g gs t before

-- ---- queues

-- the ports from p on of the steps on an array, one for each
abbrev pub left_of : ℕ → ℕ → List Instr → List ℕ
left_of a p [] = []
left_of a p (i ∷ is) = cond (is_on a i) (p ∷ left_of a (plus p 1) is) (left_of a p is)

-- the queue of an array in front of some steps of a block: its ports from the next one on are those of the steps, and then those of later blocks
pub record QueueAt (g : Graph) (gs : Groups) (net : Net) (a : ℕ) (q : Queue) (is : List Instr) : Type 0 where
  pub unit : slice_get net.units q.unit ≡ Some (queue_for g gs a)
  pub early : q.unit < length (front_of g gs).units
  pub many : q.groups ≡ length (groups_from a 0 gs.of)
  pub used : List Port
  pub rest : List Port
  pub ports : ports_of a g.blocks gs.of ≡ used ++ steps_ports a is rest
  pub next : q.port ≡ length used
  pub few : length (groups_from a 0 gs.of) + 2 * length (ports_of a g.blocks gs.of) + 2 < 2 ^ 32

-- no step stores to the array
abbrev pub Unstored : ℕ → List Instr → Type 0
Unstored a [] = Unit {0}
Unstored a (step.Const w n ∷ is) = Unstored a is
Unstored a (step.One op x ∷ is) = Unstored a is
Unstored a (step.Two op x y ∷ is) = Unstored a is
Unstored a (step.Select w c x y ∷ is) = Unstored a is
Unstored a (step.Load b p ∷ is) = Unstored a is
Unstored a (step.Store b p v ∷ is) = (b ≢ a) × Unstored a is

-- each queue, and an array without one is not stored to
pub record BooksAt (g : Graph) (gs : Groups) (net : Net) (is : List Instr) (d : Draft) : Type 0 where
  pub queue : (a : ℕ) (q : Queue) → queue_of d a ≡ Some q → QueueAt g gs net a q is
  pub unstored : (a : ℕ) → queue_of d a ≡ None → Unstored a is

-- the access of a block: the next group of its array's queue has the ports of the block's steps on it, and these find room
pub record GroupAt (g : Graph) (gs : Groups) (net : Net) (is : List Instr) (x : Access) (d : Draft) : Type 0 where
  pub queue : Queue
  pub is_queue : queue_of d x.array ≡ Some queue
  pub less : queue.group < length (groups_from x.array 0 gs.of)
  pub group : get_or (groups_from x.array 0 gs.of) queue.group [] ≡ left_of x.array queue.port is
  pub deep : length (left_of x.array queue.port is) ≤ depth_from x.array 16 gs.of

-- what waits of an array while these accesses are still to come: nothing where one of them is the array's
abbrev pub pending : ℕ → List Access → List ℕ → List ℕ
pending a [] ps = ps
pending a (x ∷ xs) ps = cond (x.array == a) [] (pending a xs ps)

-- an access is the last one of its array
abbrev pub IsLast : ℕ → List Access → Type 0
IsLast a xs = (ps : List ℕ) → pending a xs ps ≡ ps

abbrev pub all_allocated : List Access → Draft → Draft
all_allocated [] d = d
all_allocated (x ∷ xs) d = all_allocated xs (allocated x.array d)

abbrev pub GroupsAt : Graph → Groups → Net → List Instr → List Access → Draft → Type 0
GroupsAt g gs net is [] d = Unit {0}
GroupsAt g gs net is (x ∷ xs) d = GroupAt g gs net is x d × IsLast x.array xs × GroupsAt g gs net is xs (allocated x.array d)

-- ---- blocks

-- the draft before the block, after its head, and in front of its jump
pub record BlockAt (g : Graph) (gs : Groups) (net : Net) (b : ℕ) (k : Block) : Type 0 where
  pub before : Draft
  pub accesses : List Access
  pub laid : Within net (block_laid g.arrays (join_of g) (inputs_of g b) b k accesses before)
  pub head : HeadAt g gs b before
  pub late : length (front_of g gs).units ≤ length before.units
  pub books : BooksAt g gs net k.steps before
  pub own : List Access
  pub comes : (d : Draft) → allocations b accesses d ≡ all_allocated own d
  pub few : length own ≤ accesses_in k.steps
  pub groups : GroupsAt g gs net k.steps own (block_opened (inputs_of g b) b k accesses before)
  pub idle : (a : ℕ) (q : Queue) → queue_of before a ≡ Some q → pending a own (left_of a q.port k.steps) ≡ []
  pub sides : SidesAt g gs net (join_of g) k.jump (block_worked g.arrays (inputs_of g b) b k accesses before)

-- ---- the beginning: the entry is unit 0, and the scalars are the units from 1 on

abbrev pub entry_edge : Graph → Edge
entry_edge g = record { to = 0; control = at 0 0; with = param_ends 0 g.scalars (started (length g.blocks + 1)) }

pub record FrontAt (g : Graph) (gs : Groups) (net : Net) : Type 0 where
  pub laid : Within net (entered g.scalars (started (length g.blocks + 1)))
  pub side : SideAt g gs net (entry_edge g)
  pub few : length g.scalars + 1 < 2 ^ 32
  pub entries : (u : ℕ) → slice_get net.units u ≡ Some Entry → u ≡ 0
  pub params : (u j : ℕ) → slice_get net.units u ≡ Some (Param j) → (u ≡ 1 + j) × (j < length g.scalars)

-- ---- the end

-- each queue that is ended has no steps left
abbrev pub EndsAt : Graph → Groups → Net → ℕ → List (Option Queue) → Type 0
EndsAt g gs net a [] = Unit {0}
EndsAt g gs net a (None ∷ qs) = EndsAt g gs net (1 + a) qs
EndsAt g gs net a (Some q ∷ qs) = QueueAt g gs net a q [] × EndsAt g gs net (1 + a) qs

abbrev pub join_head : Graph → Groups → Draft
join_head g gs = head_laid (inputs_of g (join_of g)) (join_of g) (result_widths g.result) (ones (result_widths g.result)) 0 (with_feeders g gs)

pub record JoinAt (g : Graph) (gs : Groups) (net : Net) : Type 0 where
  pub laid : Within net (with_join g gs)
  pub head : HeadAt g gs (join_of g) (with_feeders g gs)
  pub late : length (front_of g gs).units ≤ length (with_feeders g gs).units
  pub queues : EndsAt g gs net 0 (join_head g gs).queues
  pub exits : (u : ℕ) → slice_get net.units u ≡ Some Exit → u ≡ next (all_ended (join_head g gs).queues (join_head g gs))

-- ---- all of a net

pub record NetAt (g : Graph) (gs : Groups) (net : Net) : Type 0 where
  pub front : FrontAt g gs net
  pub blocks : (b : ℕ) (k : Block) → slice_get g.blocks b ≡ Some k → BlockAt g gs net b k
  pub join : JoinAt g gs net
