-- What is asked for a circuit holds of the graph of a lawful kernel.
use Rattle.std.proofs.Common.{◌≡◌, ℕ, ◌+◌, ◌*◌, ◌≤◌, length, map, sym, ap, subst, arith}
use Rattle.el_base.specs.Headers.{Header}
use Rattle.el_base.specs.Limits.{max_nodes, max_sum_of_slots, IsNumbered}
use Rattle.c_ast.specs.declared.typed.Typed.{Typed}
use Rattle.c_ast.specs.Nodes.{typed_nodes}
use Rattle.c_meaning.specs.Headers.{scalars_of, flat}
use Rattle.c_meaning.specs.Lawful.{Lawful}
use Rattle.ir.specs.declared.groups.Groups.{Groups}
use Rattle.ir.specs.Accesses.{GroupsShare}
use Rattle.ir.specs.Graphs.{Graph, IsGraph, size}
use Rattle.kernel_graph.specs.Shares.{GraphShare}
use Rattle.circuit_build.specs.Asks.{IsSound, IsAsked}
use Rattle.kernel_compile.proofs.HeaderLemmas.{header_few}
use Rattle.kernel_compile.proofs.SoundHeaders.{headers_sound}

module _ (k : Typed) (g : Graph) (lawful : Lawful k) (share : GraphShare k g) where
  -- the graph has the scalars and arrays of the kernel, which are fewer than its nodes
  pub parameters_few : 1 + length g.scalars + length g.arrays ≤ typed_nodes k
  parameters_few =
      let ls : length g.scalars ≡ length (scalars_of k.params) = ap (λ (h : Header). length h.scalars) share.header in
      let la : length g.arrays ≡ length (map flat k.arrays) = ap (λ (h : Header). length h.arrays) share.header in
      let h = header_few k lawful in
      omega arith

  pub asked : (gs : Groups) → IsGraph g → GroupsShare g gs → IsAsked g gs
  asked gs graph groups = record {
    graph = graph;
    sound = subst IsSound (sym share.header) (headers_sound k lawful);
    small = record { blocks = share.small.blocks; bounded = share.small.bounded; accesses = share.small.accesses; steps = share.small.steps; args = share.small.args };
    share = groups;
  }

  pub size_numbered : IsNumbered (size g)
  size_numbered = let b = share.small.bounded in omega arith

  pub arrays_numbered : typed_nodes k ≤ max_nodes → IsNumbered (length g.arrays)
  arrays_numbered few = let a = parameters_few in omega arith

-- so many channels have room for a slot each
pub chans_few : (n size few chans : ℕ) → n ≤ max_nodes → size ≤ 8000000 → 1 + few ≤ n → chans ≤ 8 * size + 64 + 8 * few → chans ≤ max_sum_of_slots
chans_few n size few chans a b c d = omega arith
