use Rattle.std.proofs.Common.{◌/◌, ◌^◌, ◌+◌, [], ◌∷◌, ◌++◌, sym, subst, arith}
use Rattle.kernel_bench.proofs.Filling.{IsDrawn, drawn_none, drawn_more, places_all}
use Rattle.kernel_bench.proofs.drawn.places.Goals as goal

pub loop-count-init : goal.loop-count-init
loop-count-init c = subst (λ xs. IsDrawn c.args.number 0 xs c.args.number) (sym c.new-list.ensures) (drawn_none c.args.number)

pub loop-count-preserved : goal.loop-count-preserved
loop-count-preserved c =
    let l = c.loop-count in
    subst (λ xs. IsDrawn c.args.number (l._count + 1) xs c.next_state-state.result) (sym c.in_ok-push.ensures.ok)
    (subst (λ s. IsDrawn c.args.number (l._count + 1) (l.list ++ (s / 2 ^ 58) ∷ []) s) (sym c.next_state-state.ensures) (drawn_more c.args.number l._count l.state l.list l.invariant))

pub returns : goal.returns
returns c =
    places_all c.args.number c.loop-count._count c.loop-count.state c.loop-count.list c.loop-count.invariant (omega (arith, c.loop-count-test.false, c.loop-count.auto._count-end))
