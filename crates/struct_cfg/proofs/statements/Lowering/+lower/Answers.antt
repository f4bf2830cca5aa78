use Rattle.std.proofs.Common.{◌≡◌, ◌∙◌, List, OnOk, rules, ap, sym, subst, arith}
use Rattle.c_ast.specs.declared.normal.NormalStmt.{NormalStmt}
use Rattle.c_ast.specs.declared.normal.NormalStmtKind.TheVariants as normal
use Rattle.c_ast.specs.declared.normal.NormalStmtKind.TheViews.{the_lemmas}
use Rattle.c_meaning.specs.PartLaws.{blocks_of, steps_of}
use Rattle.struct_cfg.specs.declared.draft.Draft.{Draft}
use Rattle.struct_cfg.proofs.Grows.{kind_grows}
use Rattle.struct_cfg.proofs.Rows.{closes_block, closes_if, closes_while, closes_do, closes_for, steps_block, steps_if, steps_while, steps_do, steps_for, lower_block, if_is, while_is, do_is, for_is}
use Rattle.struct_cfg.specs.Lists.{lower_for}
use Rattle.struct_cfg.proofs.PartsMade.{if_made, while_made, do_made, for_made, laid_next, blocks_next, steps_next}
use Rattle.struct_cfg.proofs.statements.Lowering.+lower.Goals as goal

pub kind-lower_all-requires : goal.kind-lower_all-requires
kind-lower_all-requires t c =
    let k = c.args.stmt.now.kind in
    (search (rules, the_lemmas), omega (arith, closes_block k _ c.in-Block.is, steps_block k _ c.in-Block.is, ap blocks_of c.as_slice.ensures, ap steps_of c.as_slice.ensures))

pub kind-lower_if-requires : goal.kind-lower_if-requires
kind-lower_if-requires t c =
    let is : c.args.stmt.now.kind ≡ normal.If c.as_slice-in-If.result.now c.in-If.cond c.get.result.now c.in-If.other =
    c.in-If.is ∙ ap (λ (ss : List NormalStmt). normal.If ss c.in-If.cond c.in-If.then c.in-If.other) (sym c.as_slice-in-If.ensures)
    ∙ ap (λ (s : NormalStmt). normal.If c.as_slice-in-If.result.now c.in-If.cond s c.in-If.other) (sym c.get.ensures) in
    (search (rules, the_lemmas), (is, omega (arith, closes_if c.args.stmt.now.kind _ _ _ _ is, steps_if c.args.stmt.now.kind _ _ _ _ is)))

pub kind-lower_while-requires : goal.kind-lower_while-requires
kind-lower_while-requires t c =
    let is : c.args.stmt.now.kind ≡ normal.While c.as_slice-in-While.result.now c.in-While.cond c.get-in-While.result.now =
    c.in-While.is ∙ ap (λ (ss : List NormalStmt). normal.While ss c.in-While.cond c.in-While.body) (sym c.as_slice-in-While.ensures)
    ∙ ap (λ (s : NormalStmt). normal.While c.as_slice-in-While.result.now c.in-While.cond s) (sym c.get-in-While.ensures) in
    (search (rules, the_lemmas), (is, omega (arith, closes_while c.args.stmt.now.kind _ _ _ is, steps_while c.args.stmt.now.kind _ _ _ is)))

pub kind-lower_do-requires : goal.kind-lower_do-requires
kind-lower_do-requires t c =
    let is : c.args.stmt.now.kind ≡ normal.DoWhile c.get-in-DoWhile.result.now c.as_slice-in-DoWhile.result.now c.in-DoWhile.cond =
    c.in-DoWhile.is ∙ ap (λ (s : NormalStmt). normal.DoWhile s c.in-DoWhile.before c.in-DoWhile.cond) (sym c.get-in-DoWhile.ensures)
    ∙ ap (λ (ss : List NormalStmt). normal.DoWhile c.get-in-DoWhile.result.now ss c.in-DoWhile.cond) (sym c.as_slice-in-DoWhile.ensures) in
    (search (rules, the_lemmas), (is, omega (arith, closes_do c.args.stmt.now.kind _ _ _ is, steps_do c.args.stmt.now.kind _ _ _ is)))

pub kind-lower_all-requires-in-For : goal.kind-lower_all-requires-in-For
kind-lower_all-requires-in-For t c =
    let k = c.args.stmt.now.kind in
    (search (rules, the_lemmas), omega (arith, closes_for k _ _ _ _ _ c.in-For.is, steps_for k _ _ _ _ _ c.in-For.is, ap blocks_of c.as_slice-in-For.ensures, ap steps_of c.as_slice-in-For.ensures))

pub kind-lower_for-requires : goal.kind-lower_for-requires
kind-lower_for-requires t c =
    let is : c.args.stmt.now.kind ≡ normal.For c.in-For.first c.as_slice-in-For-2.result.now c.in-For.cond c.in-For.step c.get-in-For.result.now =
    c.in-For.is ∙ ap (λ (ss : List NormalStmt). normal.For c.in-For.first ss c.in-For.cond c.in-For.step c.in-For.body) (sym c.as_slice-in-For-2.ensures)
    ∙ ap (λ (s : NormalStmt). normal.For c.in-For.first c.as_slice-in-For-2.result.now c.in-For.cond c.in-For.step s) (sym c.get-in-For.ensures) in
    let k = c.args.stmt.now.kind in (
      search (rules, the_lemmas),
      (
        record { first = c.in-For.first; is = is },
        omega (arith, closes_for k _ _ _ _ _ is, steps_for k _ _ _ _ _ is, ap blocks_of c.as_slice-in-For.ensures, ap steps_of c.as_slice-in-For.ensures, c.in_ok-lower_all-in-For.ensures.few),
      ),
    )

pub kind-returns-in-Block : goal.kind-returns-in-Block
kind-returns-in-Block t c =
    let is : c.args.stmt.now.kind ≡ normal.Block c.as_slice.result.now = c.in-Block.is ∙ ap normal.Block (sym c.as_slice.ensures) in
    subst (λ (d : Draft). OnOk c.lower_all.result (c.lower_all.new.draft ≡ d)) (sym (lower_block c.args.self.now.arrays.now c.args.self.now.exit c.args.self.now.again c.args.stmt.now.kind _ c.args.draft.now is)) c.lower_all.ensures.made

pub kind-returns-in-If : goal.kind-returns-in-If
kind-returns-in-If t c =
    let is : c.args.stmt.now.kind ≡ normal.If c.as_slice-in-If.result.now c.in-If.cond c.get.result.now c.in-If.other =
    c.in-If.is ∙ ap (λ (ss : List NormalStmt). normal.If ss c.in-If.cond c.in-If.then c.in-If.other) (sym c.as_slice-in-If.ensures)
    ∙ ap (λ (s : NormalStmt). normal.If c.as_slice-in-If.result.now c.in-If.cond s c.in-If.other) (sym c.get.ensures) in
    subst (λ (d : Draft). OnOk c.lower_if.result (c.lower_if.new.draft ≡ d)) (sym (if_is c.args.self.now.arrays.now c.args.self.now.exit c.args.self.now.again c.args.stmt.now.kind _ _ _ _ c.args.draft.now is)) c.lower_if.ensures

pub kind-returns-in-While : goal.kind-returns-in-While
kind-returns-in-While t c =
    let is : c.args.stmt.now.kind ≡ normal.While c.as_slice-in-While.result.now c.in-While.cond c.get-in-While.result.now =
    c.in-While.is ∙ ap (λ (ss : List NormalStmt). normal.While ss c.in-While.cond c.in-While.body) (sym c.as_slice-in-While.ensures)
    ∙ ap (λ (s : NormalStmt). normal.While c.as_slice-in-While.result.now c.in-While.cond s) (sym c.get-in-While.ensures) in
    subst (λ (d : Draft). OnOk c.lower_while.result (c.lower_while.new.draft ≡ d)) (sym (while_is c.args.self.now.arrays.now c.args.self.now.exit c.args.self.now.again c.args.stmt.now.kind _ _ _ c.args.draft.now is)) c.lower_while.ensures

pub kind-returns-in-DoWhile : goal.kind-returns-in-DoWhile
kind-returns-in-DoWhile t c =
    let is : c.args.stmt.now.kind ≡ normal.DoWhile c.get-in-DoWhile.result.now c.as_slice-in-DoWhile.result.now c.in-DoWhile.cond =
    c.in-DoWhile.is ∙ ap (λ (s : NormalStmt). normal.DoWhile s c.in-DoWhile.before c.in-DoWhile.cond) (sym c.get-in-DoWhile.ensures)
    ∙ ap (λ (ss : List NormalStmt). normal.DoWhile c.get-in-DoWhile.result.now ss c.in-DoWhile.cond) (sym c.as_slice-in-DoWhile.ensures) in
    subst (λ (d : Draft). OnOk c.lower_do.result (c.lower_do.new.draft ≡ d)) (sym (do_is c.args.self.now.arrays.now c.args.self.now.exit c.args.self.now.again c.args.stmt.now.kind _ _ _ c.args.draft.now is)) c.lower_do.ensures

pub kind-returns-in_ok-lower_all-in-For : goal.kind-returns-in_ok-lower_all-in-For
kind-returns-in_ok-lower_all-in-For t c =
    let A = c.args.self.now.arrays.now in
    let x = c.args.self.now.exit in
    let y = c.args.self.now.again in
    let is : c.args.stmt.now.kind ≡ normal.For c.as_slice-in-For.result.now c.as_slice-in-For-2.result.now c.in-For.cond c.in-For.step c.get-in-For.result.now =
    c.in-For.is ∙ ap (λ (ss : List NormalStmt). normal.For ss c.in-For.before c.in-For.cond c.in-For.step c.in-For.body) (sym c.as_slice-in-For.ensures)
    ∙ ap (λ (ss : List NormalStmt). normal.For c.as_slice-in-For.result.now ss c.in-For.cond c.in-For.step c.in-For.body) (sym c.as_slice-in-For-2.ensures)
    ∙ ap (λ (s : NormalStmt). normal.For c.as_slice-in-For.result.now c.as_slice-in-For-2.result.now c.in-For.cond c.in-For.step s) (sym c.get-in-For.ensures) in
    subst (λ (d : Draft). OnOk c.lower_for.result (c.lower_for.new.draft ≡ d))
    (ap (lower_for A x y c.as_slice-in-For-2.result.now c.in-For.cond c.in-For.step c.get-in-For.result.now) c.in_ok-lower_all-in-For.ensures.made ∙ sym (for_is A x y c.args.stmt.now.kind _ _ _ _ _ c.args.draft.now is))
    c.lower_for.ensures

pub lower-returns-clause-few : goal.lower-returns-clause-few
lower-returns-clause-few t c = kind_grows c.args.self.now.arrays.now c.args.self.now.exit c.args.self.now.again c.args.stmt.now.kind c.args.draft.now _ c.in_ok-kind.ensures

pub lower_if-returns : goal.lower_if-returns
lower_if-returns t c =
    if_made c.args.self.now.arrays.now c.args.self.now.exit c.args.self.now.again c.args.parts.before.now c.args.parts.cond.now c.args.parts.then.now c.args.parts.other.now c.args.draft.now _ _ _ _ _ _ c.here-yes.result c.closes.result c.blocks_if_any.result
    c.in_ok-lower_all.ensures.made c.here-yes.ensures c.closes.ensures c.blocks_if_any.ensures c.in_ok-branch.ensures.made c.in_ok-lower.ensures.made c.in_ok-close.ensures.made c.in_ok-lower_any.ensures.made c.in_ok-close-2.ensures.made

pub lower_while-returns : goal.lower_while-returns
lower_while-returns t c =
    while_made c.args.self.now.arrays.now c.args.self.now.exit c.args.self.now.again c.args.parts.before.now c.args.parts.cond.now c.args.parts.body.now c.args.draft.now _ _ _ _ _ c.here-head.result c.blocks_of.result c.closes.result c.here-yes.result
    c.here-head.ensures c.blocks_of.ensures c.closes.ensures c.in_ok-close.ensures.made c.in_ok-lower_all.ensures.made c.here-yes.ensures c.in_ok-branch.ensures.made c.in_ok-lower.ensures.made c.in_ok-close-2.ensures.made

pub lower_do-returns : goal.lower_do-returns
lower_do-returns t c =
    do_made c.args.self.now.arrays.now c.args.self.now.exit c.args.self.now.again c.args.parts.body.now c.args.parts.before.now c.args.parts.cond.now c.args.draft.now _ _ _ _ _ c.here-first.result c.closes.result c.blocks_of.result
    c.here-first.ensures c.closes.ensures c.blocks_of.ensures c.in_ok-close.ensures.made c.in_ok-lower.ensures.made c.in_ok-close-2.ensures.made c.in_ok-lower_all.ensures.made c.in_ok-branch.ensures.made

pub lower_for-returns : goal.lower_for-returns
lower_for-returns t c =
    for_made c.args.self.now.arrays.now c.args.self.now.exit c.args.self.now.again c.args.parts.before.now c.args.parts.cond.now c.args.parts.step.now c.args.parts.body.now c.args.draft.now _ _ _ _ _ _ c.here-head.result c.blocks_of.result c.closes.result c.blocks_of_step.result c.again_in-again.result
    c.here-head.ensures c.blocks_of.ensures c.closes.ensures c.blocks_of_step.ensures c.in_ok-close.ensures.made c.in_ok-lower_all.ensures.made c.in_ok-enter.ensures.made c.again_in-again.ensures c.in_ok-lower.ensures.made
    c.in_ok-lower_step.ensures.made c.in_ok-close-2.ensures.made

pub lower_all-loop-stmt-preserved : goal.lower_all-loop-stmt-preserved
lower_all-loop-stmt-preserved t c =
    let ss = c.args.stmts.now in
    let i = c.loop-stmt.stmt-index in
    let s = c.stmt-item.result in
    let blocks = blocks_next ss i s c.loop-stmt-test.true c.stmt-item.is in
    let steps = steps_next ss i s c.loop-stmt-test.true c.stmt-item.is in
    let few = c.in_ok-lower.ensures.few in
    record {
      made = laid_next c.args.self.now.arrays.now c.args.self.now.exit c.args.self.now.again ss i s c.loop-stmt.draft c.lower.new.draft c.loop-stmt-test.true c.stmt-item.is c.in_ok-lower.ensures.made ∙ c.loop-stmt.invariant.made;
      space = omega (arith, blocks, steps, few, c.loop-stmt.invariant.space);
      few = omega (arith, blocks, steps, few, c.loop-stmt.invariant.few);
    }
