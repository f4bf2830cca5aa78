-- A graph that has room, so that what is asked of one can be met.
use Rattle.std.proofs.Common.{◌≡◌, ℕ, List, length, refl, arith}
use Rattle.ir.specs.Sample.{sample_graph, sample_groups}
use Rattle.ir.proofs.SampleRuns.{samples_run}
use Rattle.circuit_build.specs.Built.{built}
use Rattle.circuit_build.specs.Ports.{SampleHasRoom}

units_of_sample : (name n a : List ℕ) → length (built (sample_graph name n a) sample_groups).units ≡ 26
units_of_sample name n a = refl

pub sample_has_room : SampleHasRoom
sample_has_room name n a = record {
  graph = (samples_run name n a).formed;
  groups = (samples_run name n a).groups;
  size = let e = (samples_run name n a).size_is in omega (arith, e);
  arrays = omega arith;
  units = let e = units_of_sample name n a in omega (arith, e);
}
