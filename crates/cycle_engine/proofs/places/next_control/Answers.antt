use Rattle.std.proofs.Common.{rules, ◌≡◌, ◌∙◌, None, sym}
use Rattle.net_core.specs.States.{state_of}
use Rattle.cycle_engine.proofs.ControlLemmas.{control_none}
use Rattle.cycle_engine.proofs.PlaceLemmas.{told_control, told_end}
use Rattle.cycle_engine.proofs.places.next_control.Goals as goal

pub returns-then-is_none : goal.returns-then-is_none
returns-then-is_none c k b r f n =
    let e : c.head.result ≡ None = search rules in
    control_none c.args.net.now (state_of c.args.state.now) c.args.noted c.args.unit c.args.kind b k.control (sym c.head.ensures ∙ e) c.requires.takes r n

pub returns-in-End : goal.returns-in-End
returns-in-End c k = rw c.in-End.is (told_end c.args.net.now (state_of c.args.state.now) c.args.noted c.args.unit k.places c.args.from c.groups_of.result c.next_end.result c.groups_of.ensures c.next_end.ensures)

pub returns-in_default : goal.returns-in_default
returns-in_default c k =
    told_control c.args.net.now (state_of c.args.state.now) c.args.noted c.args.unit k.places c.args.from c.next_control_place.result c.next_control_place.ensures c.args.kind c.requires.takes c.in_default.not-End
