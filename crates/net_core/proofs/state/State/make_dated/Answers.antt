use Rattle.std.proofs.Common.{◌^◌, ◌∙◌, refl, sym, ap, subst, arith}
use Rattle.el_base.specs.Limits.{max_depth}
use Rattle.net_core.specs.declared.plan.Moves.{Moves}
use Rattle.net_core.specs.Held.{AllWithin, laid_on, taken_all}
use Rattle.net_core.specs.Plans.{chans_of}
use Rattle.net_core.specs.private.Moves.{taken_chans}
use Rattle.net_core.specs.States.{state_of, CountsRise}
use Rattle.net_core.proofs.MoveLemmas.{chans_are, distinct_of, laid_room, moves_are}
use Rattle.net_core.proofs.RaiseLemmas.{counts_after}
use Rattle.net_core.proofs.StateLemmas.{plan_within, fired_of, fired_state}
use Rattle.net_core.proofs.state.State.make_dated.Goals as goal

pub make-requires-clause-within : goal.make-requires-clause-within
make-requires-clause-within c =
    subst (AllWithin _) (sym (ap (λ (m : Moves). chans_of m.taken) c.requires.moves ∙ chans_are c.args.net.now c.args.firing.unit c.args.plan.takes))
    (plan_within c.args.net.now c.args.self.now c.args.firing c.args.plan (sym c.requires.effect))

pub make-requires-clause-room : goal.make-requires-clause-room
make-requires-clause-room c = laid_room c.args.net.now (state_of c.args.self.now) c.args.firing.unit c.args.plan.put c.args.moves.laid c.args.self.now.tokens c.requires.of.slots refl (ap (λ (m : Moves). m.laid) c.requires.moves) c.requires.room

pub returns-clause-state : goal.returns-clause-state
returns-clause-state c =
    let w = subst (λ n. AllWithin n (taken_chans c.args.net.now c.args.firing.unit c.args.plan.takes)) c.requires.of.long (plan_within c.args.net.now c.args.self.now c.args.firing c.args.plan (sym c.requires.effect)) in
    let d = distinct_of c.args.net.now c.args.firing.unit c.args.plan.takes c.requires.apart w in
    let t = c.make.ensures.tokens ∙ (ap (λ (m : Moves). laid_on m.laid (taken_all (chans_of m.taken) c.args.self.now.tokens.tokens)) c.requires.moves ∙ moves_are c.args.net.now c.args.firing.unit c.args.plan c.args.self.now.tokens.tokens d) in
    fired_state c.args.net.now c.args.self.now (record { scalars = c.args.self.now.scalars; tokens = c.make.new.self; cells = c.change_cell-stray.new.cells; homes = c.args.self.now.homes; strays = c.count_strays.new.strays; exit = c.args.self.now.exit }) c.args.firing c.args.plan _ c.requires.of (sym c.requires.effect) c.requires.admits refl refl t c.change_cell-stray.ensures.cells c.change_cell-stray.ensures.stray c.count_strays.ensures

pub returns-clause-counts : goal.returns-clause-counts
returns-clause-counts c =
    subst (CountsRise max_depth (state_of c.args.self.now)) (sym (returns-clause-state c))
    (counts_after c.args.net.now (state_of c.args.self.now) c.args.firing _ c.net.ensures.checked (sym c.requires.effect))

pub returns-clause-of : goal.returns-clause-of
returns-clause-of c =
    let w = subst (λ n. AllWithin n (taken_chans c.args.net.now c.args.firing.unit c.args.plan.takes)) c.requires.of.long (plan_within c.args.net.now c.args.self.now c.args.firing c.args.plan (sym c.requires.effect)) in
    let d = distinct_of c.args.net.now c.args.firing.unit c.args.plan.takes c.requires.apart w in
    let t = c.make.ensures.tokens ∙ (ap (λ (m : Moves). laid_on m.laid (taken_all (chans_of m.taken) c.args.self.now.tokens.tokens)) c.requires.moves ∙ moves_are c.args.net.now c.args.firing.unit c.args.plan c.args.self.now.tokens.tokens d) in
    fired_of c.args.net.now c.args.self.now _ _ c.args.firing.unit c.args.plan.change c.requires.of c.make.ensures.slots t refl refl (λ u. (let m = (returns-clause-counts c (2 ^ 62) c.requires.counts).serials u in omega arith)) c.change_cell-stray.ensures.cells
