use Rattle.std.proofs.Common.{sym, ap, ◌∙◌, ◌∷◌, [], length, get_or, drop, ◌+◌, replicate, ℕ, arith, length-append}
use Rattle.std.proofs.lemmas.List.{length-replicate, drop_more}
use Rattle.c_ast.specs.Pieces.{comment_len}
use Rattle.c_lex.specs.Refusals.{end_of}
use Rattle.c_lex.proofs.Going.{blanked_byte, blanked_comment, blanked_whole}
use Rattle.c_lex.proofs.comment.without_comments.Goals as goal
use Rattle.el_base.proofs.DigitLemmas.{rest_is}

pub pieces-preserved-in-Some : goal.pieces-preserved-in-Some
pieces-preserved-in-Some c = record {
  at = c.on-cursor.ensures.at;
  same = omega (arith, c.on-cursor.ensures.offset, c.pieces.invariant.same, ap length c.in_ok-push_blanks-in-Some.ensures, length-append c.pieces.text (replicate {A = ℕ} c.in-Some.len 32), length-replicate {A = ℕ} c.in-Some.len 32);
  blanked = blanked_comment c.args.bytes.now c.pieces.text _ c.pieces.cursor.offset _ c.in-Some.len (end_of c.pieces.broken) _ c.pieces.invariant.blanked
      (ap comment_len (sym (rest_is c.args.bytes.now c.pieces.cursor.offset)) ∙ sym c.in-Some.ensures.len) c.in_ok-push_blanks-in-Some.ensures c.or_comment_fault-broken.ensures c.on-cursor.ensures.offset;
}

pub pieces-preserved : goal.pieces-preserved
pieces-preserved c = record {
  at = c.on-cursor-in-None.ensures.at;
  same = omega (arith, c.on-cursor-in-None.ensures.offset, c.pieces.invariant.same, ap length c.in_ok-push-in-None.ensures.ok, length-append c.pieces.text (get_or c.args.bytes.now c.pieces.cursor.offset 0 ∷ []));
  blanked = blanked_byte c.args.bytes.now c.pieces.text _ c.pieces.cursor.offset _ (get_or c.args.bytes.now c.pieces.cursor.offset 0) (drop (c.pieces.cursor.offset + 1) c.args.bytes.now) (end_of c.pieces.broken) c.pieces.invariant.blanked
      (drop_more c.args.bytes.now c.pieces.cursor.offset 0 c.pieces-test.true)
      (ap comment_len (sym (rest_is c.args.bytes.now c.pieces.cursor.offset)) ∙ sym c.in-None.ensures.len) c.in_ok-push-in-None.ensures.ok c.on-cursor-in-None.ensures.offset;
}

pub returns-clause-blanked : goal.returns-clause-blanked
returns-clause-blanked c = blanked_whole c.args.bytes.now c.pieces.text c.pieces.cursor.offset (end_of c.pieces.broken) c.pieces.invariant.blanked c.pieces-test.false
