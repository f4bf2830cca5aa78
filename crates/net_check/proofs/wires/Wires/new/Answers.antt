use Rattle.std.proofs.Common.{◌≡◌, ℕ, ◌<◌, List, length, subst, sym, ◌∙◌}
use Rattle.net_types.specs.declared.net.Unit.{Unit as Kind}
use Rattle.net_check.specs.private.Bounds.{HasRoom}
use Rattle.net_check.specs.private.Wires.{starts_from, Rises}
use Rattle.net_check.proofs.Tables.{rises-starts, starts-some}
use Rattle.net_check.proofs.WiredLemmas.{all_inside}
use Rattle.net_check.proofs.wires.Wires.new.Goals as goal

pub starts-requires : goal.starts-requires
starts-requires c = let P : List Kind → Type 0 = HasRoom c.args.side in subst P (sym c.as_slice.ensures) c.requires.room

pub filled-requires-clause-some : goal.filled-requires-clause-some
filled-requires-clause-some c = let P : List ℕ → Type 0 = λ xs. 0 < length xs in subst P (sym (c.as_slice-2.ensures.value ∙ c.in_ok-starts.ensures)) (starts-some c.args.side 0 c.as_slice.result.now)

pub filled-requires-clause-rising : goal.filled-requires-clause-rising
filled-requires-clause-rising c = subst Rises (sym (c.as_slice-2.ensures.value ∙ c.in_ok-starts.ensures)) (rises-starts c.args.side 0 c.as_slice.result.now)

pub filled-requires-clause-inside : goal.filled-requires-clause-inside
filled-requires-clause-inside c =
    let P : List Kind → Type 0 = λ us. c.as_slice-2.result.now ≡ starts_from c.args.side 0 us in
    all_inside c.args.side c.args.net.now c.as_slice-2.result.now c.as_slice-3.result.now c.requires.ends (subst P c.as_slice.ensures (c.as_slice-2.ensures.value ∙ c.in_ok-starts.ensures)) c.as_slice-3.ensures
