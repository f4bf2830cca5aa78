use Rattle.elastic_top.proofs.OneAnswerLemmas.{compiles_print_once, goes_print_once, one_net, status_eight, wrap_changes_nothing}
use Rattle.elastic_top.proofs.CycleLemmas.{goes_tell_one, runs_tell_one}
use Rattle.elastic_top.proofs.OneRunLemmas.{runs_print_once, runs_tell_as_many}
use Rattle.elastic_top.proofs.laws.calls_print_once.Goals as goal

pub returns-clause-compile : goal.returns-clause-compile
returns-clause-compile c = compiles_print_once c.answers_are_one.ensures.compiled

pub returns-clause-go : goal.returns-clause-go
returns-clause-go c =
    goes_print_once (goes_tell_one c.inputs_texts_have_one_reading.ensures c.workers_change_no_answer.ensures.texts c.cycles_are_one.ensures.number c.answers_are_one.ensures.shown c.answers_are_one.ensures.refused)

pub returns-clause-run : goal.returns-clause-run
returns-clause-run c =
    runs_print_once c.a_net_has_one_refusal.ensures.none c.a_net_has_one_refusal.ensures.one
    (runs_tell_one c.inputs_texts_have_one_reading.ensures c.workers_change_no_answer.ensures.texts c.cycles_are_one.ensures.number c.workers_change_no_answer.ensures.refused)

pub returns-clause-log : goal.returns-clause-log
returns-clause-log c = runs_tell_as_many c.inputs_texts_have_one_reading.ensures c.workers_change_no_answer.ensures.texts c.cycles_are_one.ensures.number

pub returns-clause-wrap : goal.returns-clause-wrap
returns-clause-wrap c = wrap_changes_nothing

pub returns-clause-net : goal.returns-clause-net
returns-clause-net c = one_net c.answers_are_one.ensures.printed

pub returns-clause-limit : goal.returns-clause-limit
returns-clause-limit c = status_eight c.answers_are_one.ensures.limit
