use Rattle.kernel_runs.proofs.compilation.compile_text.Goals as goal

pub returns-clause-ok : goal.returns-clause-ok
returns-clause-ok c =
    let compiled = c.in_ok-compiled.compiled in
    record {
      kernel = record { typed = compiled.typed; nodes = compiled.nodes };
      read = c.in_ok-compiled.ensures.says.kernel;
      net = compiled.net;
      circuit = c.in_ok-compiled.ensures.says.circuit;
      holds = record { whole = rw c.net.ensures.net at c.in_ok-text.ensures.text; read = rw c.net.ensures.net at c.in_ok-text.ensures.reads_back };
    }
