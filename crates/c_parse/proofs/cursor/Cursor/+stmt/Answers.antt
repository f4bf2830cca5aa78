use Rattle.std.proofs.Common.{suc, [], ◌∷◌, Some, rules, refl, sym, ap, ◌∙◌}
use Rattle.c_ast.specs.declared.key.Key.TheVariants as key
use Rattle.c_parse.specs.Symbols.{Symbol, declarators, in_group}
use Rattle.c_parse.specs.Parts.{braced_symbols, head_symbols}
use Rattle.c_parse.proofs.Rules.{if_ok}
use Rattle.c_parse.proofs.Lengths.{declaration_shorter, stmt_shorter}
use Rattle.c_parse.proofs.StmtRules.{reads_block, reads_no_items, reads_items_after, reads_braces, adds_item, adds_stmt, reads_if, reads_if_else, reads_while, reads_do, reads_for}
use Rattle.c_parse.proofs.Chains.{judges_part, stopped, told, went, same_done, same_then, same_part, same_takes, same_fixed, same_reduces, fails_then, part_fails, fixed_fails, fixed_deep, deep_fails, within, full, inner, room}
use Rattle.c_parse.proofs.Exits.{untrue, key_not_refused}
use Rattle.c_parse.proofs.Openings.{block_opened, body_declares, body_opened, other_end}
use Rattle.c_parse.proofs.JudgedStmts.{keyed_refused, braces_opened, item_read}
use Rattle.c_parse.proofs.cursor.Cursor.+stmt.Goals as goal

pub stmt-returns-then-is_at-clause-judged : goal.stmt-returns-then-is_at-clause-judged
stmt-returns-then-is_at-clause-judged t c = λ n deep. c.block.ensures.judged n deep (c.if-is_at.ensures.0 refl)

pub stmt-returns-then-is_at-2-clause-judged : goal.stmt-returns-then-is_at-2-clause-judged
stmt-returns-then-is_at-2-clause-judged t c = λ n deep. c.empty.ensures.judged n (within _ _ deep) (c.if-is_at-2.ensures.0 refl)

pub stmt-returns-clause-judged : goal.stmt-returns-clause-judged
stmt-returns-clause-judged t c = λ n deep. c.worded.ensures.judged n deep (untrue c.if-is_at.ensures.1) (untrue c.if-is_at-2.ensures.1)

pub worded-returns-in-None-clause-judged : goal.worded-returns-in-None-clause-judged
worded-returns-in-None-clause-judged t c = λ n deep brace semicolon. c.simple_stmt.ensures.judged n deep (sym c.next_key.ensures ∙ c.in-None.is) brace semicolon

pub worded-returns-in-Some-clause-judged : goal.worded-returns-in-Some-clause-judged
worded-returns-in-Some-clause-judged t c = λ n deep brace semicolon. c.keyed.ensures.judged n deep (sym c.next_key.ensures ∙ c.in-Some.is)

pub keyed-returns-in-If-clause-judged : goal.keyed-returns-in-If-clause-judged
keyed-returns-in-If-clause-judged t c = λ n deep next. c.if_stmt.ensures.judged n deep (next ∙ ap Some c.in-If.is)

pub keyed-returns-in-While-clause-judged : goal.keyed-returns-in-While-clause-judged
keyed-returns-in-While-clause-judged t c = λ n deep next. c.while_stmt.ensures.judged n deep (next ∙ ap Some c.in-While.is)

pub keyed-returns-in-Do-clause-judged : goal.keyed-returns-in-Do-clause-judged
keyed-returns-in-Do-clause-judged t c = λ n deep next. c.do_stmt.ensures.judged n deep (next ∙ ap Some c.in-Do.is)

pub keyed-returns-in-For-clause-judged : goal.keyed-returns-in-For-clause-judged
keyed-returns-in-For-clause-judged t c = λ n deep next. c.for_stmt.ensures.judged n deep (next ∙ ap Some c.in-For.is)

pub keyed-returns-in-Return-clause-judged : goal.keyed-returns-in-Return-clause-judged
keyed-returns-in-Return-clause-judged t c = λ n deep next. c.return_stmt.ensures.judged n deep (next ∙ ap Some c.in-Return.is)

pub keyed-returns-in-Break-clause-judged : goal.keyed-returns-in-Break-clause-judged
keyed-returns-in-Break-clause-judged t c = λ n deep next. c.break_stmt.ensures.judged n (within _ _ deep) (next ∙ ap Some c.in-Break.is)

pub keyed-returns-in-Continue-clause-judged : goal.keyed-returns-in-Continue-clause-judged
keyed-returns-in-Continue-clause-judged t c = λ n deep next. c.continue_stmt.ensures.judged n (within _ _ deep) (next ∙ ap Some c.in-Continue.is)

pub keyed-returns-in_default-clause-judged : goal.keyed-returns-in_default-clause-judged
keyed-returns-in_default-clause-judged t c = λ n deep next. (keyed_refused n _ _ _ next (record { not_if = c.in_default.not-If; not_while = c.in_default.not-While; not_do = c.in_default.not-Do; not_for = c.in_default.not-For; not_break = c.in_default.not-Break; not_continue = c.in_default.not-Continue; not_return = c.in_default.not-Return }) c.refusal.ensures).holds

pub block-returns-in_err-body-clause-judged : goal.block-returns-in_err-body-clause-judged
block-returns-in_err-body-clause-judged t c = λ n deep next. rw (stopped _ _ c.from_residual.ensures.1) (told (Symbol.statement n ∷ []) (fails_then (block_opened n _ next) (part_fails (braced_symbols (suc n)) _ (c.in_err-body.ensures.judged n deep))))

pub block-returns : goal.block-returns
block-returns t c = record {
  derived = reads_block _ _ _ _ c.in_ok-body.ensures.derived c.place.ensures;
  judged = λ n deep next. went (Symbol.statement n ∷ []) [] (same_then (block_opened n _ next) (same_then (same_part (braced_symbols (suc n)) (c.in_ok-body.ensures.judged n deep)) same_reduces));
}

pub braced-returns-in_err-open-clause-judged : goal.braced-returns-in_err-open-clause-judged
braced-returns-in_err-open-clause-judged t c = λ n deep. rw (stopped _ _ c.from_residual.ensures.1) (told (braced_symbols (suc n)) (fixed_fails refl c.in_err-open.ensures.refused))

pub braced-returns-in_err-depth-clause-judged : goal.braced-returns-in_err-depth-clause-judged
braced-returns-in_err-depth-clause-judged t c = λ n deep. rw (stopped _ _ c.from_residual-in_err-depth.ensures.1) (told (braced_symbols (suc n)) (fixed_deep refl c.in_ok-open.ensures.read (full _ _ deep c.in_err-depth.ensures.none_left) c.in_err-depth.ensures.place))

pub braced-returns-in_err-item-clause-judged : goal.braced-returns-in_err-item-clause-judged
braced-returns-in_err-item-clause-judged t c = λ n deep. let d = inner _ _ _ deep c.in_ok-depth.ensures.one_less in let r = room _ _ _ deep c.in_ok-depth.ensures.one_less in rw (stopped _ _ c.from_residual-in_err-item.ensures.1) (told (braced_symbols (suc n)) (fails_then (braces_opened _ _ _ _ r c.in_ok-open.ensures.read) (fails_then (c.items.invariant.judged (suc n) d) (record { holds = c.in_err-item.ensures.judged (suc n) d (untrue c.items-test.ensures.1) }))))

pub braced-items-init : goal.braced-items-init
braced-items-init t c = record { read = reads_no_items _ _ c.new-body.ensures; judged = λ n deep. same_done }

pub braced-items-preserved : goal.braced-items-preserved
braced-items-preserved t c = record {
  read = reads_items_after _ _ _ _ _ c.items.invariant.read c.in_ok-item.ensures.added;
  judged = λ n deep. same_then (c.items.invariant.judged n deep) (record { holds = c.in_ok-item.ensures.judged n deep (untrue c.items-test.ensures.1) });
}

pub braced-returns : goal.braced-returns
braced-returns t c = record {
  derived = reads_braces _ _ _ _ _ _ _ c.in_ok-open.ensures.read c.items.invariant.read c.in_ok-mark.ensures.read;
  judged = λ n deep. let d = inner _ _ _ deep c.in_ok-depth.ensures.one_less in let r = room _ _ _ deep c.in_ok-depth.ensures.one_less in went (braced_symbols (suc n)) [] (same_then (braces_opened _ _ _ _ r c.in_ok-open.ensures.read) (same_then (c.items.invariant.judged (suc n) d) (same_takes c.in_ok-mark.ensures.read refl r)));
}

pub item-returns-then-is_at-clause-judged : goal.item-returns-then-is_at-clause-judged
item-returns-then-is_at-clause-judged t c = λ n deep other. c.semicolon.ensures.judged n (within _ _ deep) (c.if-is_at.ensures.0 refl)

pub item-returns-then-is_at_type : goal.item-returns-then-is_at_type
item-returns-then-is_at_type t c = record {
  added = if_ok _ _ _ (λ x a. adds_item _ _ _ _ a) c.declaration.ensures.derived;
  shorter = if_ok _ _ _ (λ x a. declaration_shorter _ _ _ _ a) c.declaration.ensures.derived;
  judged = λ n deep other. judges_part (Symbol.a_type n ∷ declarators n) _ _ _ _ (body_declares n _ (sym c.is_at_type.ensures ∙ c.if-is_at_type.true)) same_reduces (c.declaration.ensures.judged n deep);
}

pub item-returns-in_err-stmt-clause-judged : goal.item-returns-in_err-stmt-clause-judged
item-returns-in_err-stmt-clause-judged t c = λ n deep other. rw (stopped _ _ c.from_residual.ensures.1) (told (Symbol.body n ∷ []) (fails_then (body_opened n _ (sym c.is_at_type.ensures ∙ c.if-is_at_type.false) other) (part_fails (Symbol.statement n ∷ []) _ (c.in_err-stmt.ensures.judged n deep))))

pub item-returns : goal.item-returns
item-returns t c = record {
  added = adds_stmt _ _ _ _ _ c.in_ok-stmt.ensures.derived c.in_ok-push.ensures.ok;
  shorter = stmt_shorter _ _ _ c.in_ok-stmt.ensures.derived;
  judged = λ n deep other. (item_read n _ _ (sym c.is_at_type.ensures ∙ c.if-is_at_type.false) other (c.in_ok-stmt.ensures.judged n deep)).holds;
}

pub if_stmt-returns-in_err-word-clause-judged : goal.if_stmt-returns-in_err-word-clause-judged
if_stmt-returns-in_err-word-clause-judged t c = λ n deep next. rw (stopped _ _ c.from_residual.ensures.1) (told (Symbol.statement n ∷ []) (key_not_refused {part = Symbol.statement n ∷ []} key.If next c.in_err-word.ensures.refused))

pub if_stmt-returns-in_err-depth-clause-judged : goal.if_stmt-returns-in_err-depth-clause-judged
if_stmt-returns-in_err-depth-clause-judged t c = λ n deep next. rw (stopped _ _ c.from_residual-in_err-depth.ensures.1) (told (Symbol.statement n ∷ []) (deep_fails c.in_ok-word.ensures.read refl (full _ _ deep c.in_err-depth.ensures.none_left) c.in_err-depth.ensures.place))

pub if_stmt-returns-in_err-cond-clause-judged : goal.if_stmt-returns-in_err-cond-clause-judged
if_stmt-returns-in_err-cond-clause-judged t c = λ n deep next. let d = inner _ _ _ deep c.in_ok-depth.ensures.one_less in let r = room _ _ _ deep c.in_ok-depth.ensures.one_less in rw (stopped _ _ c.from_residual-in_err-cond.ensures.1) (told (Symbol.statement n ∷ []) (fails_then (same_takes c.in_ok-word.ensures.read refl r) (part_fails (in_group (suc (suc n)) []) _ (c.in_err-cond.ensures.judged (suc n) d))))

pub if_stmt-returns-in_err-then-clause-judged : goal.if_stmt-returns-in_err-then-clause-judged
if_stmt-returns-in_err-then-clause-judged t c = λ n deep next. let d = inner _ _ _ deep c.in_ok-depth.ensures.one_less in let r = room _ _ _ deep c.in_ok-depth.ensures.one_less in rw (stopped _ _ c.from_residual-in_err-then.ensures.1) (told (Symbol.statement n ∷ []) (fails_then (same_takes c.in_ok-word.ensures.read refl r) (fails_then (same_part (in_group (suc (suc n)) []) (c.in_ok-cond.ensures.judged (suc n) d)) (part_fails (Symbol.statement (suc n) ∷ []) _ (c.in_err-then.ensures.judged (suc n) d)))))

pub if_stmt-returns-then-not-is_at_else : goal.if_stmt-returns-then-not-is_at_else
if_stmt-returns-then-not-is_at_else t c = record {
  derived = reads_if _ _ _ _ _ _ _ _ _ c.in_ok-word.ensures.read c.in_ok-cond.ensures.derived c.in_ok-then.ensures.derived c.in_ok-then-2.ensures (search rules) c.place.ensures;
  judged = λ n deep next. let d = inner _ _ _ deep c.in_ok-depth.ensures.one_less in let r = room _ _ _ deep c.in_ok-depth.ensures.one_less in went (Symbol.statement n ∷ []) [] (same_then (same_takes c.in_ok-word.ensures.read refl r) (same_then (same_part (in_group (suc (suc n)) []) (c.in_ok-cond.ensures.judged (suc n) d)) (same_then (same_part (Symbol.statement (suc n) ∷ []) (c.in_ok-then.ensures.judged (suc n) d)) (same_then (same_reduces) (same_then (other_end (suc n) _ (search rules)) same_reduces)))));
}

pub if_stmt-returns-in_err-other-clause-judged : goal.if_stmt-returns-in_err-other-clause-judged
if_stmt-returns-in_err-other-clause-judged t c = λ n deep next. let d = inner _ _ _ deep c.in_ok-depth.ensures.one_less in let r = room _ _ _ deep c.in_ok-depth.ensures.one_less in rw (stopped _ _ c.from_residual-in_err-other.ensures.1) (told (Symbol.statement n ∷ []) (fails_then (same_takes c.in_ok-word.ensures.read refl r) (fails_then (same_part (in_group (suc (suc n)) []) (c.in_ok-cond.ensures.judged (suc n) d)) (fails_then (same_part (Symbol.statement (suc n) ∷ []) (c.in_ok-then.ensures.judged (suc n) d)) (fails_then same_reduces (fails_then (same_takes c.in_ok-key.ensures.read refl r) (part_fails (Symbol.statement (suc n) ∷ []) _ (c.in_err-other.ensures.judged (suc n) d))))))))

pub if_stmt-returns : goal.if_stmt-returns
if_stmt-returns t c = record {
  derived = reads_if_else _ _ _ _ _ _ _ _ _ _ _ _ _ _ c.in_ok-word.ensures.read c.in_ok-cond.ensures.derived c.in_ok-then.ensures.derived c.in_ok-then-2.ensures (search rules) c.in_ok-key.ensures.read c.in_ok-other.ensures.derived c.in_ok-other-2.ensures c.place-2.ensures;
  judged = λ n deep next. let d = inner _ _ _ deep c.in_ok-depth.ensures.one_less in let r = room _ _ _ deep c.in_ok-depth.ensures.one_less in went (Symbol.statement n ∷ []) [] (same_then (same_takes c.in_ok-word.ensures.read refl r) (same_then (same_part (in_group (suc (suc n)) []) (c.in_ok-cond.ensures.judged (suc n) d)) (same_then (same_part (Symbol.statement (suc n) ∷ []) (c.in_ok-then.ensures.judged (suc n) d)) (same_then (same_reduces) (same_then (same_takes c.in_ok-key.ensures.read refl r) (same_then (same_part (Symbol.statement (suc n) ∷ []) (c.in_ok-other.ensures.judged (suc n) d)) (same_then (same_reduces) same_reduces)))))));
}

pub while_stmt-returns-in_err-word-clause-judged : goal.while_stmt-returns-in_err-word-clause-judged
while_stmt-returns-in_err-word-clause-judged t c = λ n deep next. rw (stopped _ _ c.from_residual.ensures.1) (told (Symbol.statement n ∷ []) (key_not_refused {part = Symbol.statement n ∷ []} key.While next c.in_err-word.ensures.refused))

pub while_stmt-returns-in_err-depth-clause-judged : goal.while_stmt-returns-in_err-depth-clause-judged
while_stmt-returns-in_err-depth-clause-judged t c = λ n deep next. rw (stopped _ _ c.from_residual-in_err-depth.ensures.1) (told (Symbol.statement n ∷ []) (deep_fails c.in_ok-word.ensures.read refl (full _ _ deep c.in_err-depth.ensures.none_left) c.in_err-depth.ensures.place))

pub while_stmt-returns-in_err-cond-clause-judged : goal.while_stmt-returns-in_err-cond-clause-judged
while_stmt-returns-in_err-cond-clause-judged t c = λ n deep next. let d = inner _ _ _ deep c.in_ok-depth.ensures.one_less in let r = room _ _ _ deep c.in_ok-depth.ensures.one_less in rw (stopped _ _ c.from_residual-in_err-cond.ensures.1) (told (Symbol.statement n ∷ []) (fails_then (same_takes c.in_ok-word.ensures.read refl r) (part_fails (in_group (suc (suc n)) []) _ (c.in_err-cond.ensures.judged (suc n) d))))

pub while_stmt-returns-in_err-body-clause-judged : goal.while_stmt-returns-in_err-body-clause-judged
while_stmt-returns-in_err-body-clause-judged t c = λ n deep next. let d = inner _ _ _ deep c.in_ok-depth.ensures.one_less in let r = room _ _ _ deep c.in_ok-depth.ensures.one_less in rw (stopped _ _ c.from_residual-in_err-body.ensures.1) (told (Symbol.statement n ∷ []) (fails_then (same_takes c.in_ok-word.ensures.read refl r) (fails_then (same_part (in_group (suc (suc n)) []) (c.in_ok-cond.ensures.judged (suc n) d)) (part_fails (Symbol.statement (suc n) ∷ []) _ (c.in_err-body.ensures.judged (suc n) d)))))

pub while_stmt-returns : goal.while_stmt-returns
while_stmt-returns t c = record {
  derived = reads_while _ _ _ _ _ _ _ _ _ c.in_ok-word.ensures.read c.in_ok-cond.ensures.derived c.in_ok-body.ensures.derived c.in_ok-body-2.ensures c.place.ensures;
  judged = λ n deep next. let d = inner _ _ _ deep c.in_ok-depth.ensures.one_less in let r = room _ _ _ deep c.in_ok-depth.ensures.one_less in went (Symbol.statement n ∷ []) [] (same_then (same_takes c.in_ok-word.ensures.read refl r) (same_then (same_part (in_group (suc (suc n)) []) (c.in_ok-cond.ensures.judged (suc n) d)) (same_then (same_part (Symbol.statement (suc n) ∷ []) (c.in_ok-body.ensures.judged (suc n) d)) same_reduces)));
}

pub do_stmt-returns-in_err-word-clause-judged : goal.do_stmt-returns-in_err-word-clause-judged
do_stmt-returns-in_err-word-clause-judged t c = λ n deep next. rw (stopped _ _ c.from_residual.ensures.1) (told (Symbol.statement n ∷ []) (key_not_refused {part = Symbol.statement n ∷ []} key.Do next c.in_err-word.ensures.refused))

pub do_stmt-returns-in_err-depth-clause-judged : goal.do_stmt-returns-in_err-depth-clause-judged
do_stmt-returns-in_err-depth-clause-judged t c = λ n deep next. rw (stopped _ _ c.from_residual-in_err-depth.ensures.1) (told (Symbol.statement n ∷ []) (deep_fails c.in_ok-word.ensures.read refl (full _ _ deep c.in_err-depth.ensures.none_left) c.in_err-depth.ensures.place))

pub do_stmt-returns-in_err-body-clause-judged : goal.do_stmt-returns-in_err-body-clause-judged
do_stmt-returns-in_err-body-clause-judged t c = λ n deep next. let d = inner _ _ _ deep c.in_ok-depth.ensures.one_less in let r = room _ _ _ deep c.in_ok-depth.ensures.one_less in rw (stopped _ _ c.from_residual-in_err-body.ensures.1) (told (Symbol.statement n ∷ []) (fails_then (same_takes c.in_ok-word.ensures.read refl r) (part_fails (Symbol.statement (suc n) ∷ []) _ (c.in_err-body.ensures.judged (suc n) d))))

pub do_stmt-returns-in_err-key-clause-judged : goal.do_stmt-returns-in_err-key-clause-judged
do_stmt-returns-in_err-key-clause-judged t c = λ n deep next. let d = inner _ _ _ deep c.in_ok-depth.ensures.one_less in let r = room _ _ _ deep c.in_ok-depth.ensures.one_less in rw (stopped _ _ c.from_residual-in_err-key.ensures.1) (told (Symbol.statement n ∷ []) (fails_then (same_takes c.in_ok-word.ensures.read refl r) (fails_then (same_part (Symbol.statement (suc n) ∷ []) (c.in_ok-body.ensures.judged (suc n) d)) (fixed_fails refl c.in_err-key.ensures.refused))))

pub do_stmt-returns-in_err-cond-clause-judged : goal.do_stmt-returns-in_err-cond-clause-judged
do_stmt-returns-in_err-cond-clause-judged t c = λ n deep next. let d = inner _ _ _ deep c.in_ok-depth.ensures.one_less in let r = room _ _ _ deep c.in_ok-depth.ensures.one_less in rw (stopped _ _ c.from_residual-in_err-cond.ensures.1) (told (Symbol.statement n ∷ []) (fails_then (same_takes c.in_ok-word.ensures.read refl r) (fails_then (same_part (Symbol.statement (suc n) ∷ []) (c.in_ok-body.ensures.judged (suc n) d)) (fails_then (same_fixed refl r c.in_ok-key.ensures.read) (part_fails (in_group (suc (suc n)) []) _ (c.in_err-cond.ensures.judged (suc n) d))))))

pub do_stmt-returns-in_err-mark-clause-judged : goal.do_stmt-returns-in_err-mark-clause-judged
do_stmt-returns-in_err-mark-clause-judged t c = λ n deep next. let d = inner _ _ _ deep c.in_ok-depth.ensures.one_less in let r = room _ _ _ deep c.in_ok-depth.ensures.one_less in rw (stopped _ _ c.from_residual-in_err-mark.ensures.1) (told (Symbol.statement n ∷ []) (fails_then (same_takes c.in_ok-word.ensures.read refl r) (fails_then (same_part (Symbol.statement (suc n) ∷ []) (c.in_ok-body.ensures.judged (suc n) d)) (fails_then (same_fixed refl r c.in_ok-key.ensures.read) (fails_then (same_part (in_group (suc (suc n)) []) (c.in_ok-cond.ensures.judged (suc n) d)) (fixed_fails refl c.in_err-mark.ensures.refused))))))

pub do_stmt-returns : goal.do_stmt-returns
do_stmt-returns t c = record {
  derived = reads_do _ _ _ _ _ _ _ _ _ _ _ _ _ c.in_ok-word.ensures.read c.in_ok-body.ensures.derived c.in_ok-body-2.ensures c.in_ok-key.ensures.read c.in_ok-cond.ensures.derived c.place-at.ensures c.in_ok-mark.ensures.read;
  judged = λ n deep next. let d = inner _ _ _ deep c.in_ok-depth.ensures.one_less in let r = room _ _ _ deep c.in_ok-depth.ensures.one_less in went (Symbol.statement n ∷ []) [] (same_then (same_takes c.in_ok-word.ensures.read refl r) (same_then (same_part (Symbol.statement (suc n) ∷ []) (c.in_ok-body.ensures.judged (suc n) d)) (same_then (same_fixed refl r c.in_ok-key.ensures.read) (same_then (same_part (in_group (suc (suc n)) []) (c.in_ok-cond.ensures.judged (suc n) d)) (same_then (same_fixed refl r c.in_ok-mark.ensures.read) same_reduces)))));
}

pub for_stmt-returns-in_err-word-clause-judged : goal.for_stmt-returns-in_err-word-clause-judged
for_stmt-returns-in_err-word-clause-judged t c = λ n deep next. rw (stopped _ _ c.from_residual.ensures.1) (told (Symbol.statement n ∷ []) (key_not_refused {part = Symbol.statement n ∷ []} key.For next c.in_err-word.ensures.refused))

pub for_stmt-returns-in_err-depth-clause-judged : goal.for_stmt-returns-in_err-depth-clause-judged
for_stmt-returns-in_err-depth-clause-judged t c = λ n deep next. rw (stopped _ _ c.from_residual-in_err-depth.ensures.1) (told (Symbol.statement n ∷ []) (deep_fails c.in_ok-word.ensures.read refl (full _ _ deep c.in_err-depth.ensures.none_left) c.in_err-depth.ensures.place))

pub for_stmt-returns-in_err-head-clause-judged : goal.for_stmt-returns-in_err-head-clause-judged
for_stmt-returns-in_err-head-clause-judged t c = λ n deep next. let d = inner _ _ _ deep c.in_ok-depth.ensures.one_less in let r = room _ _ _ deep c.in_ok-depth.ensures.one_less in rw (stopped _ _ c.from_residual-in_err-head.ensures.1) (told (Symbol.statement n ∷ []) (fails_then (same_takes c.in_ok-word.ensures.read refl r) (part_fails (head_symbols (suc (suc n))) _ (c.in_err-head.ensures.judged (suc n) d))))

pub for_stmt-returns-in_err-body-clause-judged : goal.for_stmt-returns-in_err-body-clause-judged
for_stmt-returns-in_err-body-clause-judged t c = λ n deep next. let d = inner _ _ _ deep c.in_ok-depth.ensures.one_less in let r = room _ _ _ deep c.in_ok-depth.ensures.one_less in rw (stopped _ _ c.from_residual-in_err-body.ensures.1) (told (Symbol.statement n ∷ []) (fails_then (same_takes c.in_ok-word.ensures.read refl r) (fails_then (same_part (head_symbols (suc (suc n))) (c.in_ok-head.ensures.judged (suc n) d)) (part_fails (Symbol.statement (suc n) ∷ []) _ (c.in_err-body.ensures.judged (suc n) d)))))

pub for_stmt-returns : goal.for_stmt-returns
for_stmt-returns t c = record {
  derived = reads_for _ _ _ _ _ _ _ _ _ _ _ c.in_ok-word.ensures.read c.in_ok-head.ensures.derived c.in_ok-body.ensures.derived c.in_ok-body-2.ensures c.place.ensures;
  judged = λ n deep next. let d = inner _ _ _ deep c.in_ok-depth.ensures.one_less in let r = room _ _ _ deep c.in_ok-depth.ensures.one_less in went (Symbol.statement n ∷ []) [] (same_then (same_takes c.in_ok-word.ensures.read refl r) (same_then (same_part (head_symbols (suc (suc n))) (c.in_ok-head.ensures.judged (suc n) d)) (same_then (same_part (Symbol.statement (suc n) ∷ []) (c.in_ok-body.ensures.judged (suc n) d)) same_reduces)));
}
