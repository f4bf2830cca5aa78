-- Places in a run of a graph, and which store of a kernel is seen there.
use Rattle.std.specs.Prelude.{◌≡◌, ℕ, ◌+◌, ◌≤◌, List, [], ◌∷◌, length, ℤ, Bool, IsTrue, Option, Some}
use Rattle.el_base.specs.declared.ty.Ty.{Ty}
use Rattle.ir.specs.declared.instr.Instr.{Instr}
use Rattle.ir.specs.Steps.{Work, through, beginning}
use Rattle.ir.specs.Visits.{Visit, leaves, next_visit, over_visits}
use Rattle.ir.specs.Variables.{VarGraph, var_passage, steps_made}
use Rattle.c_meaning.specs.Stores.{Store, Objects}
use Rattle.c_meaning.specs.KernelPatterns.{array_patterns, result_pattern}
use Rattle.c_meaning.specs.Runs.{How, normally, by_break, by_continue, by_return, undefined, out_of_turns}
use Rattle.struct_cfg.specs.declared.draft.Draft.{Draft}
use Rattle.struct_cfg.specs.Drafts.{here, own_values}
use Rattle.struct_cfg.specs.Seen.{Sees}
use Rattle.struct_cfg.specs.Runs.{ShowsVariables, variables_after}

-- what a run is about: the graph, the objects of the kernel, and the type of its result
pub record Setting : Type 0 where
  pub graph : VarGraph
  pub objects : Objects
  pub result : Option Ty

-- a place in a block: after these steps, with the value of each variable
pub record Spot : Type 0 where
  pub block : ℕ
  pub steps : List Instr
  pub env : List ℕ

abbrev pub spot : Draft → Spot
spot d = record { block = here d; steps = d.steps; env = d.env }

-- the beginning of a block, with n variables
abbrev pub entry : ℕ → ℕ → Spot
entry n b = record { block = b; steps = []; env = own_values n }

-- what a visit has made at a place
abbrev pub work : Spot → Visit → Work
work p v = through p.steps (beginning v.given v.arrays)

pub record At (o : Setting) (p : Spot) (v : Visit) (s : Store) : Type 0 where
  pub block : v.block ≡ p.block
  pub given : length v.given ≡ length o.objects.vars
  pub env : length p.env ≡ length o.objects.vars
  pub vars : length s.vars ≡ length o.objects.vars
  pub sees : Sees o.objects p.env (work p v) s

-- ---- walks

-- visits are passed one after another, without strays: from a visit to one that is under way
abbrev pub Path : VarGraph → Visit → List Visit → Visit → Type 0
Path g v [] w = v ≡ w
Path g v (x ∷ xs) w = (v ≡ x) × ((var_passage g x).strays ≡ 0) × ((y : Visit) × (next_visit (var_passage g) x ≡ Some y) × Path g y xs w)

-- from a place of a visit to a place where a store is seen, by at most j visits less what is owed, and at most c steps
pub record Reach (o : Setting) (owed : ℕ) (p : Spot) (v : Visit) (q : Spot) (s : Store) (j c : ℕ) : Type 0 where
  pub path : List Visit
  pub to : Visit
  pub walks : Path o.graph v path to
  pub few : owed + length path ≤ j
  pub cheap : over_visits (steps_made o.graph) path + length q.steps ≤ length p.steps + c
  pub at : At o q to s

-- to a return: it is made by a jump and leads to no visit, so one visit less, besides what is owed
pub record Gone (o : Setting) (owed : ℕ) (p : Spot) (v : Visit) (r : Option ℤ) (s : Store) (j c : ℕ) : Type 0 where
  pub path : List Visit
  pub last : Visit
  pub walks : Path o.graph v path last
  pub result : (var_passage o.graph last).onward ≡ leaves (result_pattern o.result r)
  pub arrays : (var_passage o.graph last).arrays ≡ array_patterns o.objects.arrays s.arrays
  pub clean : (var_passage o.graph last).strays ≡ 0
  pub shown : ShowsVariables o.objects.vars s (variables_after o.graph last)
  pub few : owed + 1 + length path ≤ j
  pub cheap : over_visits (steps_made o.graph) path + steps_made o.graph last ≤ length p.steps + c

-- the number of variables
abbrev pub count : Setting → ℕ
count o = length o.objects.vars

-- The graph follows a run from the place p: to the place q where the run ends normally, with n visits owed, to block x where by break, to block y where by continue, out of the graph where by return, with g visits owed.
-- Break and continue come only in a loop, and return only where it is free. Nothing is said where the run is undefined or out of turns.
pub record Frame : Type 0 where
  pub loop : Bool
  pub free : Bool
  pub break_to : ℕ
  pub continue_to : ℕ

abbrev pub Follow : Setting → ℕ → ℕ → Frame → Spot → Visit → Spot → How → Store → ℕ → ℕ → Type 0
Follow o n g f p v q normally s j c = Reach o n p v q s j c
Follow o n g f p v q by_break s j c = IsTrue f.loop × Reach o 0 p v (entry (count o) f.break_to) s j c
Follow o n g f p v q by_continue s j c = IsTrue f.loop × Reach o 0 p v (entry (count o) f.continue_to) s j c
Follow o n g f p v q (by_return r) s j c = IsTrue f.free × Gone o g p v r s j c
Follow o n g f p v q (undefined at) s j c = Unit {0}
Follow o n g f p v q out_of_turns s j c = Unit {0}
