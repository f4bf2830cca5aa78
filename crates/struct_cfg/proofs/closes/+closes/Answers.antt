use Rattle.std.proofs.Common.{rules, ap, arith}
use Rattle.c_ast.specs.declared.normal.NormalStmtKind.TheViews.{the_lemmas}
use Rattle.c_ast.specs.declared.normal.NormalStmt.{NormalStmt}
use Rattle.c_meaning.specs.Sizes.{closes}
use Rattle.c_meaning.specs.PartLaws.{blocks_of}
use Rattle.struct_cfg.proofs.Rows.{closes_block, closes_if, closes_while, closes_do, closes_for}
use Rattle.struct_cfg.proofs.closes.+closes.Goals as goal

pub closes-blocks_of-requires : goal.closes-blocks_of-requires
closes-blocks_of-requires t c = (search (rules, the_lemmas), omega (arith, closes_block c.args.stmt.now.kind _ c.in-Block.is, ap blocks_of c.as_slice.ensures))

pub closes-blocks_of-requires-in-If : goal.closes-blocks_of-requires-in-If
closes-blocks_of-requires-in-If t c = (search (rules, the_lemmas), omega (arith, closes_if c.args.stmt.now.kind _ _ _ _ c.in-If.is, ap blocks_of c.as_slice-in-If.ensures))

pub closes-closes-requires : goal.closes-closes-requires
closes-closes-requires t c = (search (rules, the_lemmas), omega (arith, closes_if c.args.stmt.now.kind _ _ _ _ c.in-If.is, ap blocks_of c.as_slice-in-If.ensures, ap (λ (s : NormalStmt). closes s.kind) c.get.ensures))

pub closes-blocks_if_any-requires : goal.closes-blocks_if_any-requires
closes-blocks_if_any-requires t c = (search (rules, the_lemmas), omega (arith, closes_if c.args.stmt.now.kind _ _ _ _ c.in-If.is, ap blocks_of c.as_slice-in-If.ensures, ap (λ (s : NormalStmt). closes s.kind) c.get.ensures))

pub closes-blocks_of-requires-in-While : goal.closes-blocks_of-requires-in-While
closes-blocks_of-requires-in-While t c = (search (rules, the_lemmas), omega (arith, closes_while c.args.stmt.now.kind _ _ _ c.in-While.is, ap blocks_of c.as_slice-in-While.ensures))

pub closes-closes-requires-in-While : goal.closes-closes-requires-in-While
closes-closes-requires-in-While t c = (search (rules, the_lemmas), omega (arith, closes_while c.args.stmt.now.kind _ _ _ c.in-While.is, ap blocks_of c.as_slice-in-While.ensures, ap (λ (s : NormalStmt). closes s.kind) c.get-in-While.ensures))

pub closes-closes-requires-in-DoWhile : goal.closes-closes-requires-in-DoWhile
closes-closes-requires-in-DoWhile t c = (search (rules, the_lemmas), omega (arith, closes_do c.args.stmt.now.kind _ _ _ c.in-DoWhile.is, ap (λ (s : NormalStmt). closes s.kind) c.get-in-DoWhile.ensures))

pub closes-blocks_of-requires-in-DoWhile : goal.closes-blocks_of-requires-in-DoWhile
closes-blocks_of-requires-in-DoWhile t c = (search (rules, the_lemmas), omega (arith, closes_do c.args.stmt.now.kind _ _ _ c.in-DoWhile.is, ap (λ (s : NormalStmt). closes s.kind) c.get-in-DoWhile.ensures, ap blocks_of c.as_slice-in-DoWhile.ensures))

pub closes-blocks_of-requires-in-For : goal.closes-blocks_of-requires-in-For
closes-blocks_of-requires-in-For t c = (search (rules, the_lemmas), omega (arith, closes_for c.args.stmt.now.kind _ _ _ _ _ c.in-For.is, ap blocks_of c.as_slice-in-For.ensures))

pub closes-blocks_of-requires-in-For-2 : goal.closes-blocks_of-requires-in-For-2
closes-blocks_of-requires-in-For-2 t c = (search (rules, the_lemmas), omega (arith, closes_for c.args.stmt.now.kind _ _ _ _ _ c.in-For.is, ap blocks_of c.as_slice-in-For.ensures, ap blocks_of c.as_slice-in-For-2.ensures))

pub closes-overflow_add-outside : goal.closes-overflow_add-outside
closes-overflow_add-outside t c = omega (arith, closes_for c.args.stmt.now.kind _ _ _ _ _ c.in-For.is, ap blocks_of c.as_slice-in-For.ensures, ap blocks_of c.as_slice-in-For-2.ensures)

pub closes-closes-requires-in-For : goal.closes-closes-requires-in-For
closes-closes-requires-in-For t c = (search (rules, the_lemmas), omega (arith, closes_for c.args.stmt.now.kind _ _ _ _ _ c.in-For.is, ap blocks_of c.as_slice-in-For.ensures, ap blocks_of c.as_slice-in-For-2.ensures, ap (λ (s : NormalStmt). closes s.kind) c.get-in-For.ensures))

pub closes-blocks_of_step-requires : goal.closes-blocks_of_step-requires
closes-blocks_of_step-requires t c = (search (rules, the_lemmas), omega (arith, closes_for c.args.stmt.now.kind _ _ _ _ _ c.in-For.is, ap blocks_of c.as_slice-in-For.ensures, ap blocks_of c.as_slice-in-For-2.ensures, ap (λ (s : NormalStmt). closes s.kind) c.get-in-For.ensures))

pub closes-overflow_add-result : goal.closes-overflow_add-result
closes-overflow_add-result t c = omega (arith, closes_if c.args.stmt.now.kind _ _ _ _ c.in-If.is, ap blocks_of c.as_slice-in-If.ensures, ap (λ (s : NormalStmt). closes s.kind) c.get.ensures)

pub closes-overflow_add-result-in-If : goal.closes-overflow_add-result-in-If
closes-overflow_add-result-in-If t c = omega (arith, closes_if c.args.stmt.now.kind _ _ _ _ c.in-If.is, ap blocks_of c.as_slice-in-If.ensures, ap (λ (s : NormalStmt). closes s.kind) c.get.ensures)

pub closes-overflow_add-result-in-If-2 : goal.closes-overflow_add-result-in-If-2
closes-overflow_add-result-in-If-2 t c = omega (arith, closes_if c.args.stmt.now.kind _ _ _ _ c.in-If.is, ap blocks_of c.as_slice-in-If.ensures, ap (λ (s : NormalStmt). closes s.kind) c.get.ensures)

pub closes-overflow_add-result-in-While : goal.closes-overflow_add-result-in-While
closes-overflow_add-result-in-While t c = omega (arith, closes_while c.args.stmt.now.kind _ _ _ c.in-While.is, ap blocks_of c.as_slice-in-While.ensures, ap (λ (s : NormalStmt). closes s.kind) c.get-in-While.ensures)

pub closes-overflow_add-result-in-While-2 : goal.closes-overflow_add-result-in-While-2
closes-overflow_add-result-in-While-2 t c = omega (arith, closes_while c.args.stmt.now.kind _ _ _ c.in-While.is, ap blocks_of c.as_slice-in-While.ensures, ap (λ (s : NormalStmt). closes s.kind) c.get-in-While.ensures)

pub closes-overflow_add-result-in-DoWhile : goal.closes-overflow_add-result-in-DoWhile
closes-overflow_add-result-in-DoWhile t c = omega (arith, closes_do c.args.stmt.now.kind _ _ _ c.in-DoWhile.is, ap (λ (s : NormalStmt). closes s.kind) c.get-in-DoWhile.ensures, ap blocks_of c.as_slice-in-DoWhile.ensures)

pub closes-overflow_add-result-in-DoWhile-2 : goal.closes-overflow_add-result-in-DoWhile-2
closes-overflow_add-result-in-DoWhile-2 t c = omega (arith, closes_do c.args.stmt.now.kind _ _ _ c.in-DoWhile.is, ap (λ (s : NormalStmt). closes s.kind) c.get-in-DoWhile.ensures, ap blocks_of c.as_slice-in-DoWhile.ensures)

pub closes-overflow_add-result-in-For : goal.closes-overflow_add-result-in-For
closes-overflow_add-result-in-For t c = omega (arith, closes_for c.args.stmt.now.kind _ _ _ _ _ c.in-For.is, ap blocks_of c.as_slice-in-For.ensures, ap blocks_of c.as_slice-in-For-2.ensures, ap (λ (s : NormalStmt). closes s.kind) c.get-in-For.ensures)

pub closes-overflow_add-result-in-For-2 : goal.closes-overflow_add-result-in-For-2
closes-overflow_add-result-in-For-2 t c = omega (arith, closes_for c.args.stmt.now.kind _ _ _ _ _ c.in-For.is, ap blocks_of c.as_slice-in-For.ensures, ap blocks_of c.as_slice-in-For-2.ensures, ap (λ (s : NormalStmt). closes s.kind) c.get-in-For.ensures)

pub closes-overflow_add-result-in-For-3 : goal.closes-overflow_add-result-in-For-3
closes-overflow_add-result-in-For-3 t c = omega (arith, closes_for c.args.stmt.now.kind _ _ _ _ _ c.in-For.is, ap blocks_of c.as_slice-in-For.ensures, ap blocks_of c.as_slice-in-For-2.ensures, ap (λ (s : NormalStmt). closes s.kind) c.get-in-For.ensures)

pub closes-returns-in-Block : goal.closes-returns-in-Block
closes-returns-in-Block t c = omega (arith, closes_block c.args.stmt.now.kind _ c.in-Block.is, ap blocks_of c.as_slice.ensures)

pub closes-returns-in-If : goal.closes-returns-in-If
closes-returns-in-If t c = omega (arith, closes_if c.args.stmt.now.kind _ _ _ _ c.in-If.is, ap blocks_of c.as_slice-in-If.ensures, ap (λ (s : NormalStmt). closes s.kind) c.get.ensures)

pub closes-returns-in-While : goal.closes-returns-in-While
closes-returns-in-While t c = omega (arith, closes_while c.args.stmt.now.kind _ _ _ c.in-While.is, ap blocks_of c.as_slice-in-While.ensures, ap (λ (s : NormalStmt). closes s.kind) c.get-in-While.ensures)

pub closes-returns-in-DoWhile : goal.closes-returns-in-DoWhile
closes-returns-in-DoWhile t c = omega (arith, closes_do c.args.stmt.now.kind _ _ _ c.in-DoWhile.is, ap (λ (s : NormalStmt). closes s.kind) c.get-in-DoWhile.ensures, ap blocks_of c.as_slice-in-DoWhile.ensures)

pub closes-returns-in-For : goal.closes-returns-in-For
closes-returns-in-For t c = omega (arith, closes_for c.args.stmt.now.kind _ _ _ _ _ c.in-For.is, ap blocks_of c.as_slice-in-For.ensures, ap blocks_of c.as_slice-in-For-2.ensures, ap (λ (s : NormalStmt). closes s.kind) c.get-in-For.ensures)
