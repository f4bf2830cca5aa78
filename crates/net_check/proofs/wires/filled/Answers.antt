use Rattle.std.proofs.Common.{rules, ◌≡◌, ℕ, List, get_or, length, ◌-◌, replicate, refl, ap, ◌∙◌, arith, subst}
use Rattle.std.proofs.Math.ListN.{length-replicate}
use Rattle.std.proofs.lemmas.List.{get_or-replicate}
use Rattle.net_types.specs.declared.net.Chan.{Chan}
use Rattle.net_check.specs.declared.wires.Side.{Side}
use Rattle.net_check.specs.private.Wires.{Rises}
use Rattle.net_check.proofs.Tables.{Filled, filled_none, filled_all, fits_of, filled_at, inside_at, entry_within}
use Rattle.net_check.proofs.wires.filled.Goals as goal

of_replicate : (side : Side) (starts : List ℕ) (chans : List Chan) (table : List ℕ) (total : ℕ) → total ≡ get_or starts (length starts - 1) 0
    → table ≡ replicate total (length chans) → Rises starts → Filled side starts table (length chans) chans
of_replicate side starts chans table total e f rises =
    filled_none side starts chans table (ap length f ∙ length-replicate total (length chans) ∙ e)
    (λ k l. rw f (get_or-replicate total k (length chans) 0 (let z : length table ≡ total = ap length f ∙ length-replicate total (length chans) in omega arith))) rises

pub loop-at-init : goal.loop-at-init
loop-at-init c = of_replicate _ c.args.starts.now c.args.chans.now c.in_ok-table.table.items _ refl (search rules) c.requires.rising

pub index_mut-requires : goal.index_mut-requires
index_mut-requires c =
    let w = c.loop-at.invariant.within in
    let e = entry_within c.args.starts.now c.loop-at.table.items c.end_of-place.result c.requires.rising c.loop-at.invariant.size
    (inside_at _ c.args.starts.now c.args.chans.now c.loop-at.at _ c.end_of-place.result c.requires.inside c.loop-at-test.true (omega arith) c.end_of-place.ensures) in
    omega arith

pub loop-at-preserved : goal.loop-at-preserved
loop-at-preserved c =
    filled_at _ c.args.starts.now c.loop-at.table.items c.loop-at.at c.args.chans.now _ c.end_of-place.result c.requires.rising c.loop-at.invariant c.loop-at-test.true c.end_of-place.ensures
    (let w = c.loop-at.invariant.within in inside_at _ c.args.starts.now c.args.chans.now c.loop-at.at _ c.end_of-place.result c.requires.inside c.loop-at-test.true (omega arith) c.end_of-place.ensures)

pub returns : goal.returns
returns c =
    let z : c.loop-at.at ≡ 0 = omega arith in
    let f = subst (λ i. Filled c.args.side c.args.starts.now c.loop-at.table.items i c.args.chans.now) z c.loop-at.invariant in
    record { tells = filled_all _ _ _ _ f; fits = fits_of _ _ c.requires.rising c.loop-at.invariant.size }
