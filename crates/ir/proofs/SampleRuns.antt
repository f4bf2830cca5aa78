-- The worked graph's run, computed.
use Rattle.std.proofs.Common.{◌≡◌, ℕ, zero, suc, List, [], ◌∷◌, Some, refl}
use Rattle.std.specs.Prelude.{slice_get, true, false}
use Rattle.word_ops.specs.Operations.{op1_on, op2_on, op1_result, op2_result}
use Rattle.ir.specs.Visits.{Finishes, over_visits, strays_of}
use Rattle.ir.specs.Graphs.{Graph, passage, weight, size}
use Rattle.ir.specs.Accesses.{IsStoredTo, GroupsShare}
use Rattle.ir.proofs.SampleGraphs.{sample_is_graph}
use Rattle.ir.specs.Sample.{body_block, sample_graph, sample_first, sample_rest, sample_groups, SamplesRun}

module _ (name n a : List ℕ) where
  abbrev g : Graph
  g = sample_graph name n a

  finishes : Finishes (passage g) sample_first sample_rest (Some 3) ((6 ∷ 8 ∷ []) ∷ [])
  unfolding op1_result op2_result op1_on op2_on
  finishes = (refl, (refl, (refl, (refl, (refl, (refl, (refl, (refl, record { result = refl; last_arrays = refl }))))))))

  strays : strays_of (passage g) (sample_first ∷ sample_rest) ≡ 2
  unfolding op1_result op2_result op1_on op2_on
  strays = refl

  weights : over_visits (weight g) (sample_first ∷ sample_rest) ≡ 68
  weights = refl

  sizes : size g ≡ 25
  sizes = refl

  stored : (b : ℕ) → slice_get (false ∷ []) b ≡ Some false → IsStoredTo g b
  stored zero h = record { number = 2; block = body_block; is_block = refl; place = 4; addr = 2; value = 5; is_step = refl }
  stored (suc b) h = absurd (cc)

  not_only_read : (b : ℕ) → slice_get (false ∷ []) b ≡ Some true → ¬ (IsStoredTo g b)
  not_only_read zero h = absurd (cc)
  not_only_read (suc b) h = absurd (cc)

  groups : GroupsShare g sample_groups
  groups = record { as_many = refl; read_only = not_only_read; stored_to = stored; accesses = refl }

pub samples_run : SamplesRun
samples_run name n a =
    record {
      formed = sample_is_graph name n a;
      finishes = finishes name n a;
      strays = strays name n a;
      weight_is = weights name n a;
      size_is = sizes name n a;
      groups = groups name n a;
    }
