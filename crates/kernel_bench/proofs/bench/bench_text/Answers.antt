use Rattle.std.proofs.Common.{subst}
use Rattle.std.proofs.lemmas.Result.{IfOk-weaker}
use Rattle.c_meaning.specs.declared.profile.Profile.TheVariants.{Plain}
use Rattle.kernel_compile.specs.Goods.{Good}
use Rattle.kernel_bench.proofs.bench.bench_text.Goals as goal

pub told-requires : goal.told-requires
told-requires c =
    let compiled = c.in_ok-compiled.compiled in
    subst (λ k. Good compiled.net k Plain) c.in_ok-compiled.ensures.typed (c.in_ok-compiled.ensures.compiled.circuit.good Plain)

pub returns : goal.returns
returns c =
    let compiled = c.in_ok-compiled.compiled in
    IfOk-weaker c.told.result _ _
    (λ text is. record {
      kernel = record { typed = compiled.typed; nodes = compiled.nodes };
      read = c.in_ok-compiled.ensures.compiled.kernel;
      net = compiled.net;
      circuit = c.in_ok-compiled.ensures.compiled.circuit;
      holds = is;
    }) c.told.ensures
