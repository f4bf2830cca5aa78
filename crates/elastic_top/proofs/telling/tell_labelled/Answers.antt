use Rattle.elastic_top.proofs.telling.tell_labelled.Goals as goal

pub returns-in-Kernel : goal.returns-in-Kernel
returns-in-Kernel g c = rw (c.in-Kernel.is, ← c.span.ensures) c.tell_span.ensures

pub returns-in-Net : goal.returns-in-Net
returns-in-Net g c = rw c.in-Net.is c.tell_net.ensures

pub returns-in-Run : goal.returns-in-Run
returns-in-Run g c = rw c.in-Run.is c.tell_run.ensures

pub returns-in-Go : goal.returns-in-Go
returns-in-Go g c = rw c.in-Go.is c.tell_go.ensures

pub returns-in-Interpret : goal.returns-in-Interpret
returns-in-Interpret g c = rw c.in-Interpret.is c.tell_interpret.ensures

pub returns-in-Resume : goal.returns-in-Resume
returns-in-Resume g c = rw c.in-Resume.is c.tell_resume.ensures

pub returns-in-Bench : goal.returns-in-Bench
returns-in-Bench g c = rw c.in-Bench.is c.tell_line.ensures
