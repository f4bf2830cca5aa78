use Rattle.std.proofs.Common.{subst}
use Rattle.ref_interp.specs.Runs.{objects_of}
use Rattle.ref_interp.specs.Evaluations.{Enters}
use Rattle.ref_interp.proofs.Places.{walked_start, walked_more, walked_fails, walked_in, walked_out}
use Rattle.ref_interp.proofs.Exprs.{number_answers, var_answers, unary_answers, cast_answers, binary_fails, strict_answers, both_decided, either_decided, both_answers, either_answers, choice_fails, choice_first, choice_second, element_answers}
use Rattle.ref_interp.proofs.expressions.Interpreter.+eval.Goals as goal

pub eval-returns-in-Number : goal.eval-returns-in-Number
eval-returns-in-Number t c h q =
    let k = objects_of c.args.self.now in
    let e = c.args.e.now in
    number_answers k c.args.cells.now e.kind e.ty e.at c.args.trace.now c.in-Number.n c.in-Number.is h q

pub eval-returns-in-Var : goal.eval-returns-in-Var
eval-returns-in-Var t c h q =
    let k = objects_of c.args.self.now in
    let e = c.args.e.now in
    var_answers k c.args.cells.now e.kind e.ty e.at c.args.trace.now c.read.new.trace c.in-Var.var c.read.result c.in-Var.is h (λ t l. c.read.ensures k t l q)

pub eval-returns-in-Element : goal.eval-returns-in-Element
eval-returns-in-Element t c h q =
    let k = objects_of c.args.self.now in
    let e = c.args.e.now in
    element_answers k c.args.cells.now e.kind e.ty e.at c.in-Element.array c.in-Element.indices c.as_slice-indices.result.now c.args.trace.now c.place_of-place.new.trace c.element.new.trace c.place_of-place.result c.element.result
    c.in-Element.is c.as_slice-indices.ensures h q c.place_of-place.ensures c.element.ensures

pub eval-returns-in-Unary : goal.eval-returns-in-Unary
eval-returns-in-Unary t c h q =
    let k = objects_of c.args.self.now in
    let e = c.args.e.now in
    unary_answers k c.args.cells.now e.kind e.ty e.at c.in-Unary.op c.in-Unary.arg c.get-arg.result.now c.args.trace.now c.eval-x.new.trace c.unary.new.trace c.eval-x.result c.unary.result
    c.in-Unary.is c.get-arg.ensures h q c.eval-x.ensures c.unary.ensures

pub eval-returns-in-Cast : goal.eval-returns-in-Cast
eval-returns-in-Cast t c h q =
    let k = objects_of c.args.self.now in
    let e = c.args.e.now in
    cast_answers k c.args.cells.now e.kind e.ty e.at _ c.in-Cast.arg c.get-arg-in-Cast.result.now c.args.trace.now c.eval-x-in-Cast.new.trace c.eval-x-in-Cast.result c.converted.result
    c.in-Cast.is c.get-arg-in-Cast.ensures h q c.eval-x-in-Cast.ensures c.converted.ensures

pub eval-returns-in-Binary : goal.eval-returns-in-Binary
eval-returns-in-Binary t c h q = c.binary.ensures _ _ _ c.in-Binary.is h q

pub eval-returns-in-Choose : goal.eval-returns-in-Choose
eval-returns-in-Choose t c h q = c.choice.ensures _ _ _ c.in-Choose.is h q

pub binary-returns-then-trace : goal.binary-returns-then-trace
binary-returns-then-trace t c op a b is h q =
    let k = objects_of c.args.self.now in
    let e = c.args.e.now in
    binary_fails k c.args.cells.now e.kind e.ty e.at c.in-Binary.op c.in-Binary.a c.in-Binary.b c.get-a.result.now c.args.trace.now c.eval-x.new.trace c.eval-x.result 0
    c.in-Binary.is c.get-a.ensures h q c.eval-x.ensures c.if-trace.true

pub binary-returns-then-x-eq0 : goal.binary-returns-then-x-eq0
binary-returns-then-x-eq0 t c op a b is h q =
    let k = objects_of c.args.self.now in
    let e = c.args.e.now in
    both_decided k c.args.cells.now e.kind e.ty e.at c.in-Binary.op c.in-Binary.a c.in-Binary.b c.get-a.result.now c.get-b.result.now c.args.trace.now c.eval-x.new.trace c.add_turn.new.self c.eval-x.result
    c.in-Binary.is c.in-Both.is c.get-a.ensures c.get-b.ensures h q c.eval-x.ensures c.if-trace.false c.add_turn.ensures.turns c.add_turn.ensures.same c.if-x-eq0.true

pub binary-returns-else-x-eq0 : goal.binary-returns-else-x-eq0
binary-returns-else-x-eq0 t c op a b is h q =
    let k = objects_of c.args.self.now in
    let e = c.args.e.now in
    both_answers k c.args.cells.now e.kind e.ty e.at c.in-Binary.op c.in-Binary.a c.in-Binary.b c.get-a.result.now c.get-b.result.now c.args.trace.now c.eval-x.new.trace c.add_turn.new.self c.eval.new.trace c.eval-x.result c.eval.result c.truth.result
    c.in-Binary.is c.in-Both.is c.get-a.ensures c.get-b.ensures h q c.eval-x.ensures c.if-trace.false c.add_turn.ensures.turns c.add_turn.ensures.same c.if-x-eq0.false c.eval.ensures c.truth.ensures

pub binary-returns-then-x-ne0 : goal.binary-returns-then-x-ne0
binary-returns-then-x-ne0 t c op a b is h q =
    let k = objects_of c.args.self.now in
    let e = c.args.e.now in
    either_decided k c.args.cells.now e.kind e.ty e.at c.in-Binary.op c.in-Binary.a c.in-Binary.b c.get-a.result.now c.get-b.result.now c.args.trace.now c.eval-x.new.trace c.add_turn-in-Either.new.self c.eval-x.result
    c.in-Binary.is c.in-Either.is c.get-a.ensures c.get-b.ensures h q c.eval-x.ensures c.if-trace.false c.add_turn-in-Either.ensures.turns c.add_turn-in-Either.ensures.same c.if-x-ne0.true

pub binary-returns-else-x-ne0 : goal.binary-returns-else-x-ne0
binary-returns-else-x-ne0 t c op a b is h q =
    let k = objects_of c.args.self.now in
    let e = c.args.e.now in
    either_answers k c.args.cells.now e.kind e.ty e.at c.in-Binary.op c.in-Binary.a c.in-Binary.b c.get-a.result.now c.get-b.result.now c.args.trace.now c.eval-x.new.trace c.add_turn-in-Either.new.self c.eval-in-Either.new.trace c.eval-x.result c.eval-in-Either.result c.truth-in-Either.result
    c.in-Binary.is c.in-Either.is c.get-a.ensures c.get-b.ensures h q c.eval-x.ensures c.if-trace.false c.add_turn-in-Either.ensures.turns c.add_turn-in-Either.ensures.same c.if-x-ne0.false c.eval-in-Either.ensures c.truth-in-Either.ensures

pub binary-returns-in_default-op : goal.binary-returns-in_default-op
binary-returns-in_default-op t c op a b is h q =
    let k = objects_of c.args.self.now in
    let e = c.args.e.now in
    strict_answers k c.args.cells.now e.kind e.ty e.at c.in-Binary.op c.in-Binary.a c.in-Binary.b c.get-a.result.now c.get-b.result.now c.args.trace.now c.eval-x.new.trace c.eval-y.new.trace c.strict.new.trace c.eval-x.result c.eval-y.result c.strict.result
    c.in-Binary.is c.get-a.ensures c.get-b.ensures c.in_default-op.not-Both c.in_default-op.not-Either h q c.eval-x.ensures c.if-trace.false c.eval-y.ensures c.strict.ensures

pub choice-returns-then-trace : goal.choice-returns-then-trace
choice-returns-then-trace t c d a b is h q =
    let k = objects_of c.args.self.now in
    let e = c.args.e.now in
    choice_fails k c.args.cells.now e.kind e.ty e.at c.in-Choose.c c.in-Choose.a c.in-Choose.b c.get.result.now c.args.trace.now c.eval-x.new.trace c.eval-x.result 0
    c.in-Choose.is c.get.ensures h q c.eval-x.ensures c.if-trace.true

pub choice-returns-then-x-eq0 : goal.choice-returns-then-x-eq0
choice-returns-then-x-eq0 t c d a b is h q =
    let k = objects_of c.args.self.now in
    let e = c.args.e.now in
    choice_second k c.args.cells.now e.kind e.ty e.at c.in-Choose.c c.in-Choose.a c.in-Choose.b c.get.result.now c.get-then-x-eq0.result.now c.args.trace.now c.eval-x.new.trace c.add_turn.new.self c.eval.new.trace c.eval-x.result c.eval.result
    c.in-Choose.is c.get.ensures c.get-then-x-eq0.ensures h q c.eval-x.ensures c.if-trace.false c.add_turn.ensures.turns c.add_turn.ensures.same c.if-x-eq0.true c.eval.ensures

pub choice-returns-else-x-eq0 : goal.choice-returns-else-x-eq0
choice-returns-else-x-eq0 t c d a b is h q =
    let k = objects_of c.args.self.now in
    let e = c.args.e.now in
    choice_first k c.args.cells.now e.kind e.ty e.at c.in-Choose.c c.in-Choose.a c.in-Choose.b c.get.result.now c.get-else-x-eq0.result.now c.args.trace.now c.eval-x.new.trace c.add_turn.new.self c.eval-else-x-eq0.new.trace c.eval-x.result c.eval-else-x-eq0.result
    c.in-Choose.is c.get.ensures c.get-else-x-eq0.ensures h q c.eval-x.ensures c.if-trace.false c.add_turn.ensures.turns c.add_turn.ensures.same c.if-x-eq0.false c.eval-else-x-eq0.ensures

pub place_of-loop-i-init : goal.place_of-loop-i-init
place_of-loop-i-init t c = λ ty el all ready. walked_start (objects_of c.args.self.now) c.args.cells.now c.args.indices.now c.args.array c.args.trace.now ready

pub place_of-returns-then-trace : goal.place_of-returns-then-trace
place_of-returns-then-trace t c ty el all ready =
    let k = objects_of c.args.self.now in
    walked_fails k c.args.cells.now c.args.indices.now c.args.array c.loop-i.i c.args.trace.now.turns c.eval-x.result 0 c.args.at c.index-indices-i.result c.loop-i.spot c.loop-i.trace c.eval-x.new.trace all c.loop-i-test.true c.index-indices-i.is
    (c.loop-i.invariant ty el all ready) c.eval-x.ensures c.if-trace.true

pub place_of-loop-i-preserved : goal.place_of-loop-i-preserved
place_of-loop-i-preserved t c = λ ty el all ready.
    let k = objects_of c.args.self.now in
    walked_more k c.args.cells.now c.args.indices.now c.args.array c.loop-i.i c.args.trace.now.turns c.eval-x.result ty c.index-indices-i.result c.loop-i.spot c.enter.new.self c.loop-i.trace c.eval-x.new.trace el all c.loop-i-test.true c.index-indices-i.is
    (c.loop-i.invariant ty el all ready) c.eval-x.ensures c.if-trace.false (subst (λ xs. Enters xs c.args.array c.loop-i.i c.index-indices-i.result.ty c.eval-x.result c.loop-i.spot c.enter.new.self) c.as_slice.ensures c.enter.ensures)

pub place_of-returns-then-not-spot : goal.place_of-returns-then-not-spot
place_of-returns-then-not-spot t c ty el all ready =
    let k = objects_of c.args.self.now in
    walked_out k c.args.cells.now c.args.indices.now c.args.array c.loop-i.i c.args.trace.now.turns c.loop-i.spot.place ty c.args.at c.loop-i.spot c.loop-i.trace c.fail.new.self el c.loop-i-test.false (c.loop-i.auto.i-end)
    (c.loop-i.invariant ty el all ready) c.if-not-spot.true c.fail.ensures.failed c.fail.ensures.place

pub place_of-returns-else-not-spot : goal.place_of-returns-else-not-spot
place_of-returns-else-not-spot t c ty el all ready =
    let k = objects_of c.args.self.now in
    walked_in k c.args.cells.now c.args.indices.now c.args.array c.loop-i.i c.args.trace.now.turns ty c.args.at c.loop-i.spot c.loop-i.trace el c.loop-i-test.false (c.loop-i.auto.i-end)
    (c.loop-i.invariant ty el all ready) c.if-not-spot.false
