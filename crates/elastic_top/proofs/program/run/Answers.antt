use Rattle.std.specs.Process.{exit_status}
use Rattle.elastic_top.proofs.EndLemmas.{any_code, wordless_code}
use Rattle.elastic_top.proofs.program.run.Goals as goal

pub returns : goal.returns
returns g c =
    let code = exit_status c.process.result in
    any_code c.args-2.result code _ _ (λ all ends. ends.codes) (λ error none. wordless_code code none) c.process.ensures.words c.process.ensures.no_words
