-- Every net that is built keeps the rules.
use Rattle.std.proofs.Common.{◌≡◌, ◌≢◌, ℕ, ◌<◌, ◌≤◌, ◌^◌, List, [], ◌∷◌, length, ap, refl, sym, subst, arith}
use Rattle.std.specs.Prelude.{sum_by, All}
use Rattle.std.proofs.lemmas.List.Elements.{All-nil, All-cons}
use Rattle.std.proofs.lemmas.List.Kept.{AllPairs-cons}
use Rattle.ir.specs.declared.groups.Groups.{Groups}
use Rattle.el_base.specs.declared.ty.Array.{Array}
use Rattle.ir.specs.declared.graph.Block.{Block}
use Rattle.ir.specs.Accesses.{accesses_in}
use Rattle.ir.specs.Graphs.{Graph}
use Rattle.ir.specs.Sample.{sample_graph, entry_block, head_block, body_block, end_block}
use Rattle.ir.proofs.SampleRuns.{samples_run}
use Rattle.net_types.specs.declared.net.Net.{Net}
use Rattle.circuit_build.specs.Asks.{IsAsked}
use Rattle.circuit_build.specs.Built.{built}
use Rattle.circuit_build.specs.Fronts.{groups_from}
use Rattle.circuit_build.specs.Ports.{HasRoom}
use Rattle.circuit_build.specs.Kept.{NetsKeepRules, BuildShare, SharesIfAsked, SampleIsAsked}
use Rattle.circuit_build.proofs.Small.{small, scalars_few, arrays_few}
use Rattle.circuit_build.proofs.QueueShapes.{units_shaped}
use Rattle.circuit_build.proofs.Plain.{one_slot}
use Rattle.circuit_build.proofs.Served.{headers_met, arrays_served}
use Rattle.circuit_build.proofs.CountSteps.{groups_in}
use Rattle.circuit_build.proofs.CountAccess.{groups_length, few_groups}
use Rattle.circuit_build.proofs.CountWhole.{closed, ports_of_nets}
use Rattle.circuit_build.proofs.CountC6.{chain_kept}

asked_room : (g : Graph) (gs : Groups) → IsAsked g gs → HasRoom g gs
asked_room g gs h =
    let a = arrays_few g.arrays h.sound.arrays.some in
    let t = h.sound.arrays.together in
    record { graph = h.graph; groups = h.share; size = h.small.bounded; arrays = omega (arith, a, t); units = (small g gs h).units }

few_lists : (g : Graph) (gs : Groups) → IsAsked g gs → (a : ℕ) → length (groups_from a 0 gs.of) < 2 ^ 32
few_lists g gs h a =
    let x = groups_length a 0 gs.of in
    let y = ap (λ xs. groups_in a xs) h.share.accesses in
    let z = few_groups a gs.read_only 0 g.blocks in
    let b = h.small.blocks in
    omega (arith, x, y, z, b)

pub rules_kept : NetsKeepRules
rules_kept g gs h =
    let r = asked_room g gs h in
    let p = ports_of_nets g gs r in
    let s = scalars_few g h.graph in
    let b = h.small.bounded in
    record {
      c1 = p.c1;
      c2 = p.c2;
      c5 = p.c5;
      c6 = chain_kept g gs (omega (arith, s, b)) (few_lists g gs h) r.units (closed g gs h.graph h.share h.small.bounded r.arrays);
      c7 = units_shaped g gs h;
      c8 = headers_met g gs h;
    }

pub shared : (g : Graph) (gs : Groups) (net : Net) → net ≡ built g gs → SharesIfAsked g gs net
shared g gs net e h = subst (BuildShare g gs) (sym e) (record { header = refl; slots = one_slot g gs; rules = rules_kept g gs h; small = small g gs h; served = arrays_served g gs h })

-- ---- the worked graph

pub sample_asked : SampleIsAsked
sample_asked name n a ne =
    let g = sample_graph name n a in
    let R : List ℕ → List ℕ → Type 0 = λ x y. x ≢ y in
    let S : Array → Type 0 = λ (x : Array). 0 < x.len in
    let each : (F : Block → Type 0) → F entry_block → F head_block → F body_block → F end_block → All F g.blocks =
    λ F a b c d. All-cons F entry_block (head_block ∷ body_block ∷ end_block ∷ []) a (All-cons F head_block (body_block ∷ end_block ∷ []) b (All-cons F body_block (end_block ∷ []) c (All-cons F end_block [] d (All-nil F)))) in
    let size = (samples_run name n a).size_is in
    record {
      graph = (samples_run name n a).formed;
      sound = record {
        names = AllPairs-cons R n (a ∷ []) (All-cons (R n) a [] ne (All-nil (R n))) (AllPairs-cons R a [] (All-nil (R a)) (λ i j d l m. absurd (omega (arith, m))));
        arrays = record {
          some = All-cons S _ [] (omega arith) (All-nil S);
          together = let e : sum_by (λ (x : Array). x.len) g.arrays ≡ 2 = refl in omega (arith, e);
        };
      };
      small = record {
        blocks = omega arith;
        bounded = omega (arith, size);
        accesses = each (λ (b : Block). accesses_in b.steps ≤ 1024) (omega arith) (omega arith) (omega arith) (omega arith);
        steps = each (λ (b : Block). length b.steps ≤ 14336) (omega arith) (omega arith) (omega arith) (omega arith);
        args = each (λ (b : Block). length b.args ≤ 1024) (omega arith) (omega arith) (omega arith) (omega arith);
      };
      share = (samples_run name n a).groups;
    }
