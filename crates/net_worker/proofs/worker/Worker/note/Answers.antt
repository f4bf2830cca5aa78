use Rattle.std.proofs.Common.{◌≡◌, Some, sym, subst, ◌∙◌}
use Rattle.net_types.specs.Nets.{kind_of}
use Rattle.net_core.specs.Plans.{effect_by}
use Rattle.net_core.specs.States.{own_at, array_at}
use Rattle.net_worker.specs.Workers.{IsOutOf}
use Rattle.net_worker.proofs.Turning.{out_end, put_noted}
use Rattle.net_worker.proofs.worker.Worker.note.Goals as goal

pub wait_at-requires : goal.wait_at-requires
wait_at-requires c =
    let a = c.args.self.now in
    let chan = c.out_of_place-chan.result in
    c.requires.made.outs chan (out_end c.args.tables.now a c.requires.made chan (c.has.ensures.end.0 c.if-not-has.false))

pub returns-clause-waiting : goal.returns-clause-waiting
returns-clause-waiting c = λ _ x does.
    (let t = c.args.tables.now in
    let a = c.args.self.now in
    let b = c.wait_at.new.self in
    let f = c.args.firing in
    let p = c.in-Some.plan in
    let chan = c.out_of_place-chan.result in
    let e = effect_by (kind_of t.net.now f.unit) (own_at a.portion.state f.unit) (array_at t.net.now a.portion.state f.unit) p in
    let s = Rattle.std.proofs.Common.ap (λ k. Rattle.net_core.specs.Fire.effect t.net.now (Rattle.net_core.specs.States.state_of k.state) f) (sym c.wait_at.ensures.asked.portion) in
    let same : e ≡ x = (let z : Some e ≡ Some x = c.in-Some.ensures.effect ∙ (s ∙ does) in cc) in
    let out : IsOutOf t b.number chan = subst (λ n. IsOutOf t n chan) (sym c.wait_at.ensures.asked.number) (out_end t a c.requires.made chan (c.has.ensures.end.0 c.if-not-has.false)) in
    put_noted t b f.unit x e c.in-Some-put.put chan same c.in-Some-put.is c.out_of_place-chan.ensures out c.wait_at.ensures.awaited)
