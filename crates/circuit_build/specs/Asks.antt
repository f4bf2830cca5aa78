-- What a graph and its groups have to be for a circuit to be made of them.
use Rattle.std.specs.Prelude.{◌≢◌, ◌≤◌, ◌++◌, map, length, All}
use Rattle.std.specs.List.{AllPairs}
use Rattle.el_base.specs.declared.ty.Scalar.{Scalar}
use Rattle.el_base.specs.declared.ty.Array.{Array}
use Rattle.el_base.specs.Headers.{Header}
use Rattle.ir.specs.declared.groups.Groups.{Groups}
use Rattle.ir.specs.Accesses.{GroupsShare, accesses_in}
use Rattle.ir.specs.Graphs.{Graph, IsGraph, size}
use Rattle.ir.specs.Headers.{graph_header}
use Rattle.net_check.specs.Headers.{AreSized}

-- names that differ, scalars before arrays, and arrays of sizes that a net may have
pub record IsSound (h : Header) : Type 0 where
  pub names : AllPairs (λ x y. x ≢ y) (map (λ (s : Scalar). s.name) h.scalars ++ map (λ (a : Array). a.name) h.arrays)
  pub arrays : AreSized h.arrays

-- so many blocks that a head of all their edges may be laid, accesses that a queue holds, and steps and arguments that a value's fork has an output for each of its uses
pub record IsSmall (g : Graph) : Type 0 where
  pub blocks : length g.blocks ≤ 32768
  pub bounded : size g ≤ 8000000
  pub accesses : All (λ b. accesses_in b.steps ≤ 1024) g.blocks
  pub steps : All (λ b. length b.steps ≤ 14336) g.blocks
  pub args : All (λ b. length b.args ≤ 1024) g.blocks

pub record IsAsked (g : Graph) (gs : Groups) : Type 0 where
  pub graph : IsGraph g
  pub sound : IsSound (graph_header g)
  pub small : IsSmall g
  pub share : GroupsShare g gs
