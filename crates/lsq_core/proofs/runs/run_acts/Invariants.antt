use Rattle.std.proofs.Common.{◌≡◌, ◌+◌, ◌*◌, ◌++◌, ◌≤◌, take, true}
use Rattle.el_base.specs.Limits.{max_depth}
use Rattle.lsq_core.specs.Runs.{all_allowed, after_acts, puts_of}
use Rattle.lsq_core.proofs.runs.run_acts.Given as goal

abbrev pub invariant-loop-at : goal.invariant-loop-at
invariant-loop-at g l = record {
  allowed : all_allowed (g.Q.Queue.state l.initial.queue) (take l.at l.acts) ≡ true;
  queue : g.Q.Queue.state l.queue ≡ after_acts (g.Q.Queue.state l.initial.queue) (take l.at l.acts);
  puts : l.puts.items ≡ l.initial.puts.items ++ puts_of (g.Q.Queue.state l.initial.queue) (take l.at l.acts);
  room : l.initial.puts.room ≤ l.puts.room + l.at;
  next : (g.Q.Queue.state l.queue).queue.next ≤ (g.Q.Queue.state l.initial.queue).queue.next + max_depth * l.at;
}
