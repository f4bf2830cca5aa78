-- Private: only contracts of this crate cite it. The rows of a queue of so many groups, with elements of width w.
use Rattle.std.specs.Prelude.{ℕ, suc, ◌+◌, true, List, ◌++◌}
use Rattle.net_types.specs.declared.net.Port.{Port}
use Rattle.net_types.specs.Tables.{Spot, spots, port_ins, port_outs}

abbrev pub queue_ins : ℕ → ℕ → List Port → List Spot
queue_ins groups w ps = spots 0 32 true (suc groups) ++ port_ins (groups + 1) w ps

abbrev pub queue_outs : ℕ → ℕ → List Port → List Spot
queue_outs groups w ps = spots 0 32 true (suc groups) ++ port_outs (groups + 1) w ps
