use Rattle.elastic_top.proofs.Cuts.{gathered_spaced, space_cut, last_cut, on_any}
use Rattle.elastic_top.proofs.line.gather_two.Goals as goal

pub returns-in_err-gather-2-clause-cut : goal.returns-in_err-gather-2-clause-cut
returns-in_err-gather-2-clause-cut g c =
    on_any _ _ (space_cut _ _ _ _ _ _ _ (rw c.as_bytes.ensures.value at c.in_ok-gather.ensures.ok) c.in_err-gather-2.ensures.cut)

pub returns-in_err-gather-3-clause-cut : goal.returns-in_err-gather-3-clause-cut
returns-in_err-gather-3-clause-cut g c =
    on_any _ _ (last_cut _ _ _ _ _ _ _ _ _ (rw c.as_bytes.ensures.value at c.in_ok-gather.ensures.ok) c.in_ok-gather-2.ensures.ok
    (rw c.as_bytes-2.ensures.value at c.in_err-gather-3.ensures.cut))

pub returns-clause-ok : goal.returns-clause-ok
returns-clause-ok g c =
    gathered_spaced _ _ _ _ _ _ _ _ _ _ (rw c.as_bytes.ensures.value at c.in_ok-gather.ensures.ok) c.in_ok-gather-2.ensures.ok
    (rw c.as_bytes-2.ensures.value at c.in_ok-gather-3.ensures.ok)
