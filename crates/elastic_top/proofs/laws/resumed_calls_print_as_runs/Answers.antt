use Rattle.elastic_top.proofs.ContinuedLemmas.{resumed_calls_print_as_runs}
use Rattle.elastic_top.proofs.laws.resumed_calls_print_as_runs.Goals as goal

pub returns : goal.returns
returns c = resumed_calls_print_as_runs c.a_net_has_one_refusal.ensures.none c.resumes_show_runs.ensures.saved
