use Rattle.std.proofs.Common.{◌≡◌, ◌∷◌, ◌++◌, ◌+◌, ◌-◌, [], ap, sym, ◌∙◌, arith, refl}
use Rattle.lsq_core.specs.Acts.{fresh_entry}
use Rattle.snapshot.specs.private.Words.{fresh_run}
use Rattle.snapshot.proofs.Stages3.{run_more}
use Rattle.snapshot.proofs.draft.entries_from.Goals as goal

pub loop-serial-preserved : goal.loop-serial-preserved
loop-serial-preserved c =
    let n = c.args.first.serial + 1 in
    let m = c.loop-serial.serial - n in
    let low = c.loop-serial.auto.serial in
    let at : n + m ≡ c.loop-serial.serial = omega (arith, low) in
    let next : m + 1 ≡ c.loop-serial.serial + 1 - n = omega (arith, low) in
    c.in_ok-push-2.ensures.ok ∙ ap (λ l. l ++ fresh_entry c.loop-serial.serial 0 c.args.store ∷ []) c.loop-serial.invariant
    ∙ ap (λ l. c.args.first ∷ l) (ap (λ k. fresh_run n m c.args.store ++ fresh_entry k 0 c.args.store ∷ []) (sym at) ∙ sym (run_more n m c.args.store) ∙ ap (λ k. fresh_run n k c.args.store) next)
