use Rattle.std.proofs.Common.{◌≡◌, ◌∙◌, ◌≤◌, ℕ, List, get_or, sym, ap, subst, arith}
use Rattle.net_types.specs.declared.net.Net.{Net}
use Rattle.net_types.specs.declared.net.Chan.{Chan}
use Rattle.net_types.specs.declared.net.Place.{Place}
use Rattle.net_types.specs.Nets.{chan_at, into, nowhere}
use Rattle.net_core.proofs.ApartLemmas.{into-at, is_at-inv}
use Rattle.cycle_engine.proofs.control.input_of.Goals as goal
use Rattle.cycle_engine.proofs.control.input_of.Goals.{else-end-unit-via-then-end-unit+else-end-ins, else-end-unit-via-else-end-unit}

-- the end of the channel is no such place
pub returns-else-end-unit : goal.returns-else-end-unit
returns-else-end-unit c p l within e = elim c.else-end-unit.branch [
  | else-end-unit-via-then-end-unit+else-end-ins w ↦ (let f : c.args.ins ≤ to.place = w.if-end-ins.false in let i : to.place ≡ p = ends.1 in omega arith)
  | else-end-unit-via-else-end-unit w ↦ w.if-end-unit.false ends.0
]
  where
    chans : c.as_slice-chans.result.now ≡ c.args.net.now.chans
    chans = c.as_slice-chans.ensures ∙ ap (λ (n : Net). n.chans) c.net.ensures.net

    to : Place
    to = (get_or c.as_slice-chans.result.now c.args.chan nowhere).to

    ends : (to.unit ≡ c.args.unit) × (to.place ≡ p)
    ends =
        let P : ℕ → Type 0 = λ d. ((chan_at c.args.net.now d).to.unit ≡ c.args.unit) × ((chan_at c.args.net.now d).to.place ≡ p) in
        let Q : List Chan → Type 0 = λ cs. ((get_or cs c.args.chan nowhere).to.unit ≡ c.args.unit) × ((get_or cs c.args.chan nowhere).to.place ≡ p) in
        subst Q (sym chans) (subst P e (is_at-inv (chan_at c.args.net.now (into c.args.unit p c.args.net.now.chans)).to c.args.unit p (into-at c.args.unit p c.args.net.now.chans within)))
