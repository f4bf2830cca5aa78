use Rattle.net_replay.proofs.ActLemmas.{no_word, no_number, no_fit}
use Rattle.net_replay.proofs.schedule_reader.read_act.Goals as goal

pub returns-in_default : goal.returns-in_default
returns-in_default c = no_word c.args.text.now c.in_default.ensures

pub returns-in_default-read_number_of : goal.returns-in_default-read_number_of
returns-in_default-read_number_of c = no_number c.args.text.now c.in-Some.word c.in-Some.rest.now c.in-Some.ensures c.in_default-read_number_of.ensures

pub returns-in_default-act : goal.returns-in_default-act
returns-in_default-act c =
    no_fit c.args.text.now c.in-Some.word c.in-Some.rest.now c.in-Some-read_number_of.number c.in-Some-read_number_of.after.now c.in-Some.ensures c.in-Some-read_number_of.ensures c.in_default-act.ensures
