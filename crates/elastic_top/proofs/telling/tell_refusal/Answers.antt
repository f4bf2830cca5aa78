use Rattle.elastic_top.proofs.telling.tell_refusal.Goals as goal

pub returns : goal.returns
returns g c = rw (← c.label.ensures) c.tell_labelled.ensures
