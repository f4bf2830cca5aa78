use Rattle.std.proofs.Common.{rules, suc, [], ◌∷◌, refl, sym, subst, arith}
use Rattle.c_parse.specs.Symbols.{Symbol, Reduction, Fixed, in_group}
use Rattle.c_parse.specs.Stops.{IsLooserAt}
use Rattle.c_parse.specs.Parts.{argument_list_symbols}
use Rattle.c_parse.proofs.Rules.{reads_tighter, reads_choice, reads_joined, reads_name, reads_element, reads_call, reads_unary, reads_cast, reads_parens, reads_group, reads_brackets, reads_no_indices, reads_index_after, reads_same, if_ok, no_items, some_items}
use Rattle.c_parse.proofs.Chains.{same_done, same_takes, same_then, same_to, same_part, same_fixed, same_name, same_reduces, fails_then, part_fails, fixed_fails, fixed_deep, name_fails, deep_fails, known_fails, stopped, told, went, judges_part, within, full, inner, room}
use Rattle.c_parse.proofs.Climbing.{reads_looser, operates_as, same_climbed, same_no_tails, climbs, same_right, right_fails}
use Rattle.c_parse.proofs.JudgedExprs.{same_unrolled, same_choice, same_no_choice, same_signed, signed_deep, sign_fails, same_as_name, same_as_number, same_as_cast, same_as_group, no_operand, same_index, same_no_index, same_as_indices, same_call}
use Rattle.c_parse.proofs.CallRules.{reads_arguments, reads_no_arguments, reads_first_argument, reads_argument_after, reads_argument_list}
use Rattle.c_parse.proofs.Openings.{alike_at, arguments_opened, more_arguments_end}
use Rattle.c_ast.specs.declared.mark.Mark.TheVariants as mark
use Rattle.c_parse.proofs.cursor.Cursor.+expr.Goals as goal

pub expr-returns-in_err-cond-clause-judged : goal.expr-returns-in_err-cond-clause-judged
expr-returns-in_err-cond-clause-judged t c = λ n all. rw (stopped _ _ c.from_residual.ensures.1) (told (Symbol.expression n 0 ∷ []) (fails_then (same_unrolled (omega arith)) (part_fails (Symbol.expression n 1 ∷ []) _ (c.in_err-cond.ensures.judged n all))))

pub expr-returns-in_default-clause-derived : goal.expr-returns-in_default-clause-derived
expr-returns-in_default-clause-derived t c = reads_same _ _ _ _ (reads_tighter 0 1 _ _ _ refl (omega arith) c.in_ok-cond.ensures.derived) c.in_default.ensures.none

pub expr-returns-in_default-clause-judged : goal.expr-returns-in_default-clause-judged
expr-returns-in_default-clause-judged t c = λ n all. went (Symbol.expression n 0 ∷ []) ([]) (same_to (same_then (same_unrolled (omega arith)) (same_then (same_part (Symbol.expression n 1 ∷ []) (c.in_ok-cond.ensures.judged n all)) (same_no_choice c.in_default.ensures.other))) c.in_default.ensures.none)

pub expr-returns-in_err-depth-clause-judged : goal.expr-returns-in_err-depth-clause-judged
expr-returns-in_err-depth-clause-judged t c = λ n all. rw (stopped _ _ c.from_residual-in_err-depth.ensures.1) (told (Symbol.expression n 0 ∷ []) (fails_then (same_unrolled (omega arith)) (fails_then (same_part (Symbol.expression n 1 ∷ []) (c.in_ok-cond.ensures.judged n all)) (deep_fails c.in-Some.ensures.some refl (full _ _ all c.in_err-depth.ensures.none_left) c.in_err-depth.ensures.place))))

pub expr-returns-in_err-yes-clause-judged : goal.expr-returns-in_err-yes-clause-judged
expr-returns-in_err-yes-clause-judged t c = λ n all. rw (stopped _ _ c.from_residual-in_err-yes.ensures.1) (told (Symbol.expression n 0 ∷ []) (fails_then (same_unrolled (omega arith)) (fails_then (same_part (Symbol.expression n 1 ∷ []) (c.in_ok-cond.ensures.judged n all)) (fails_then (same_choice (room _ _ _ all c.in_ok-depth.ensures.one_less) c.in-Some.ensures.some) (part_fails (Symbol.expression (suc n) 0 ∷ []) _ (c.in_err-yes.ensures.judged (suc n) (inner _ _ _ all c.in_ok-depth.ensures.one_less)))))))

pub expr-returns-in_err-mark-clause-judged : goal.expr-returns-in_err-mark-clause-judged
expr-returns-in_err-mark-clause-judged t c = λ n all. rw (stopped _ _ c.from_residual-in_err-mark.ensures.1) (told (Symbol.expression n 0 ∷ []) (fails_then (same_unrolled (omega arith)) (fails_then (same_part (Symbol.expression n 1 ∷ []) (c.in_ok-cond.ensures.judged n all)) (fails_then (same_choice (room _ _ _ all c.in_ok-depth.ensures.one_less) c.in-Some.ensures.some) (fails_then (same_part (Symbol.expression (suc n) 0 ∷ []) (c.in_ok-yes.ensures.judged (suc n) (inner _ _ _ all c.in_ok-depth.ensures.one_less))) (fixed_fails refl c.in_err-mark.ensures.refused))))))

pub expr-returns-in_err-no-clause-judged : goal.expr-returns-in_err-no-clause-judged
expr-returns-in_err-no-clause-judged t c = λ n all. rw (stopped _ _ c.from_residual-in_err-no.ensures.1) (told (Symbol.expression n 0 ∷ []) (fails_then (same_unrolled (omega arith)) (fails_then (same_part (Symbol.expression n 1 ∷ []) (c.in_ok-cond.ensures.judged n all)) (fails_then (same_choice (room _ _ _ all c.in_ok-depth.ensures.one_less) c.in-Some.ensures.some) (fails_then (same_part (Symbol.expression (suc n) 0 ∷ []) (c.in_ok-yes.ensures.judged (suc n) (inner _ _ _ all c.in_ok-depth.ensures.one_less))) (fails_then (same_fixed refl (room _ _ _ all c.in_ok-depth.ensures.one_less) c.in_ok-mark.ensures.read) (part_fails (Symbol.expression (suc n) 0 ∷ []) _ (c.in_err-no.ensures.judged (suc n) (inner _ _ _ all c.in_ok-depth.ensures.one_less)))))))))

pub expr-returns-clause-derived : goal.expr-returns-clause-derived
expr-returns-clause-derived t c = reads_choice _ _ _ _ _ _ _ _ _ _ _ _ _ c.in_ok-cond.ensures.derived c.in-Some.ensures.some c.in_ok-yes.ensures.derived c.in_ok-mark.ensures.read c.in_ok-no.ensures.derived c.in_ok-kind.ensures c.place.ensures

pub expr-returns-clause-judged : goal.expr-returns-clause-judged
expr-returns-clause-judged t c = λ n all. went (Symbol.expression n 0 ∷ []) ([]) (same_then (same_unrolled (omega arith)) (same_then (same_part (Symbol.expression n 1 ∷ []) (c.in_ok-cond.ensures.judged n all)) (same_then (same_choice (room _ _ _ all c.in_ok-depth.ensures.one_less) c.in-Some.ensures.some) (same_then (same_part (Symbol.expression (suc n) 0 ∷ []) (c.in_ok-yes.ensures.judged (suc n) (inner _ _ _ all c.in_ok-depth.ensures.one_less))) (same_then (same_fixed refl (room _ _ _ all c.in_ok-depth.ensures.one_less) c.in_ok-mark.ensures.read) (same_then (same_part (Symbol.expression (suc n) 0 ∷ []) (c.in_ok-no.ensures.judged (suc n) (inner _ _ _ all c.in_ok-depth.ensures.one_less))) same_reduces))))))

pub binary-returns-in_err-left-clause-judged : goal.binary-returns-in_err-left-clause-judged
binary-returns-in_err-left-clause-judged t c = λ n all. rw (stopped _ _ c.from_residual.ensures.1) (told (Symbol.expression n c.args.level ∷ []) (fails_then (same_climbed c.requires.known) (part_fails (Symbol.expression n 11 ∷ []) _ (c.in_err-left.ensures.judged n all))))

pub binary-operators-init : goal.binary-operators-init
binary-operators-init t c = record {
  read = reads_looser c.args.level 11 _ _ _ c.requires.known (omega arith) c.in_ok-left.ensures.derived;
  tight = λ op k is above most. reads_looser k 11 _ _ _ (omega arith) (omega arith) c.in_ok-left.ensures.derived;
  judged = λ n all. same_then (same_climbed c.requires.known) (same_part (Symbol.expression n 11 ∷ []) (c.in_ok-left.ensures.judged n all));
}

pub binary-returns-in_err-right-clause-judged : goal.binary-returns-in_err-right-clause-judged
binary-returns-in_err-right-clause-judged t c = λ n all. rw (stopped _ _ c.from_residual-in_err-right.ensures.1)
    (told (Symbol.expression n c.args.level ∷ []) (fails_then (c.operators.invariant.judged n all) (right_fails (climbs (within _ _ all) c.in-Some.ensures.tight c.in-Some.ensures.known c.in-Some.ensures.some) (c.in_err-right.ensures.judged n all))))

pub binary-operators-preserved : goal.binary-operators-preserved
binary-operators-preserved t c =
    let joined = reads_joined _ _ _ _ _ _ _ _ _ _ _ (c.operators.invariant.tight _ _ (operates_as c.in-Some.ensures.some) c.in-Some.ensures.tight c.in-Some.ensures.known) c.in-Some.ensures.some c.in_ok-right.ensures.derived refl c.in_ok-join.ensures c.place.ensures in
    record {
      read = reads_looser _ _ _ _ _ c.in-Some.ensures.tight (omega (arith, c.in-Some.ensures.known)) joined;
      tight = λ op k is above most. let below = c.in_ok-right.ensures.behind op k is in reads_looser k _ _ _ _ (omega arith) (omega (arith, c.in-Some.ensures.known)) joined;
      judged = λ n all. same_then (c.operators.invariant.judged n all) (same_right (climbs (within _ _ all) c.in-Some.ensures.tight c.in-Some.ensures.known c.in-Some.ensures.some) (c.in_ok-right.ensures.judged n all) c.in_ok-right.ensures.behind);
    }

pub binary-returns-clause-derived : goal.binary-returns-clause-derived
binary-returns-clause-derived t c = reads_same _ _ _ _ c.operators.invariant.read c.in_default.ensures.none

pub binary-returns-clause-judged : goal.binary-returns-clause-judged
binary-returns-clause-judged t c = λ n all. went (Symbol.expression n c.args.level ∷ []) ([]) (same_to (same_then (c.operators.invariant.judged n all) (same_no_tails n c.args.level c.requires.some c.requires.known c.in_default.ensures.other)) c.in_default.ensures.none)

pub binary-returns-clause-behind : goal.binary-returns-clause-behind
binary-returns-clause-behind t c = subst (λ ts. IsLooserAt c.args.level ts) (sym c.in_default.ensures.none) c.in_default.ensures.other

pub cast-returns-in_err-open-clause-judged : goal.cast-returns-in_err-open-clause-judged
cast-returns-in_err-open-clause-judged t c = λ n all. rw (stopped _ _ c.from_residual.ensures.1) (told (Symbol.fixed (suc n) Fixed.opening ∷ Symbol.a_type (suc n) ∷ Symbol.fixed (suc n) Fixed.closing ∷ Symbol.expression (suc n) 11 ∷ []) (fixed_fails refl c.in_err-open.ensures.refused))

pub cast-returns-in_err-depth-clause-judged : goal.cast-returns-in_err-depth-clause-judged
cast-returns-in_err-depth-clause-judged t c = λ n all. rw (stopped _ _ c.from_residual-in_err-depth.ensures.1) (told (Symbol.fixed (suc n) Fixed.opening ∷ Symbol.a_type (suc n) ∷ Symbol.fixed (suc n) Fixed.closing ∷ Symbol.expression (suc n) 11 ∷ []) (fixed_deep refl c.in_ok-open.ensures.read (full _ _ all c.in_err-depth.ensures.none_left) c.in_err-depth.ensures.place))

pub cast-returns-in_err-ty-clause-judged : goal.cast-returns-in_err-ty-clause-judged
cast-returns-in_err-ty-clause-judged t c = λ n all. rw (stopped _ _ c.from_residual-in_err-ty.ensures.1) (told (Symbol.fixed (suc n) Fixed.opening ∷ Symbol.a_type (suc n) ∷ Symbol.fixed (suc n) Fixed.closing ∷ Symbol.expression (suc n) 11 ∷ []) (fails_then (same_fixed refl (room _ _ _ all c.in_ok-depth.ensures.one_less) c.in_ok-open.ensures.read) (part_fails (Symbol.a_type (suc n) ∷ []) _ (c.in_err-ty.ensures.judged (suc n) (room _ _ _ all c.in_ok-depth.ensures.one_less)))))

pub cast-returns-in_err-mark-clause-judged : goal.cast-returns-in_err-mark-clause-judged
cast-returns-in_err-mark-clause-judged t c = λ n all. rw (stopped _ _ c.from_residual-in_err-mark.ensures.1) (told (Symbol.fixed (suc n) Fixed.opening ∷ Symbol.a_type (suc n) ∷ Symbol.fixed (suc n) Fixed.closing ∷ Symbol.expression (suc n) 11 ∷ []) (fails_then (same_fixed refl (room _ _ _ all c.in_ok-depth.ensures.one_less) c.in_ok-open.ensures.read) (fails_then (same_part (Symbol.a_type (suc n) ∷ []) (c.in_ok-ty.ensures.judged (suc n) (room _ _ _ all c.in_ok-depth.ensures.one_less))) (fixed_fails refl c.in_err-mark.ensures.refused))))

pub cast-returns-in_err-arg-clause-judged : goal.cast-returns-in_err-arg-clause-judged
cast-returns-in_err-arg-clause-judged t c = λ n all. rw (stopped _ _ c.from_residual-in_err-arg.ensures.1) (told (Symbol.fixed (suc n) Fixed.opening ∷ Symbol.a_type (suc n) ∷ Symbol.fixed (suc n) Fixed.closing ∷ Symbol.expression (suc n) 11 ∷ []) (fails_then (same_fixed refl (room _ _ _ all c.in_ok-depth.ensures.one_less) c.in_ok-open.ensures.read) (fails_then (same_part (Symbol.a_type (suc n) ∷ []) (c.in_ok-ty.ensures.judged (suc n) (room _ _ _ all c.in_ok-depth.ensures.one_less))) (fails_then (same_fixed refl (room _ _ _ all c.in_ok-depth.ensures.one_less) c.in_ok-mark.ensures.read) (part_fails (Symbol.expression (suc n) 11 ∷ []) _ (c.in_err-arg.ensures.judged (suc n) (inner _ _ _ all c.in_ok-depth.ensures.one_less)))))))

pub cast-returns-clause-derived : goal.cast-returns-clause-derived
cast-returns-clause-derived t c = reads_cast _ _ _ _ _ _ _ _ _ _ _ c.in_ok-open.ensures.read c.in_ok-ty.ensures.derived c.in_ok-mark.ensures.read c.in_ok-arg.ensures.derived c.in_ok-new.ensures c.place.ensures

pub cast-returns-clause-judged : goal.cast-returns-clause-judged
cast-returns-clause-judged t c = λ n all. went (Symbol.fixed (suc n) Fixed.opening ∷ Symbol.a_type (suc n) ∷ Symbol.fixed (suc n) Fixed.closing ∷ Symbol.expression (suc n) 11 ∷ []) ([]) (same_then (same_fixed refl (room _ _ _ all c.in_ok-depth.ensures.one_less) c.in_ok-open.ensures.read) (same_then (same_part (Symbol.a_type (suc n) ∷ []) (c.in_ok-ty.ensures.judged (suc n) (room _ _ _ all c.in_ok-depth.ensures.one_less))) (same_then (same_fixed refl (room _ _ _ all c.in_ok-depth.ensures.one_less) c.in_ok-mark.ensures.read) (same_part (Symbol.expression (suc n) 11 ∷ []) (c.in_ok-arg.ensures.judged (suc n) (inner _ _ _ all c.in_ok-depth.ensures.one_less))))))

pub group-returns-in_err-open-clause-judged : goal.group-returns-in_err-open-clause-judged
group-returns-in_err-open-clause-judged t c = λ n all. rw (stopped _ _ c.from_residual.ensures.1) (told (in_group (suc n) []) (fixed_fails refl c.in_err-open.ensures.refused))

pub group-returns-in_err-depth-clause-judged : goal.group-returns-in_err-depth-clause-judged
group-returns-in_err-depth-clause-judged t c = λ n all. rw (stopped _ _ c.from_residual-in_err-depth.ensures.1) (told (in_group (suc n) []) (fixed_deep refl c.in_ok-open.ensures.read (full _ _ all c.in_err-depth.ensures.none_left) c.in_err-depth.ensures.place))

pub group-returns-in_err-inner-clause-judged : goal.group-returns-in_err-inner-clause-judged
group-returns-in_err-inner-clause-judged t c = λ n all. rw (stopped _ _ c.from_residual-in_err-inner.ensures.1) (told (in_group (suc n) []) (fails_then (same_fixed refl (room _ _ _ all c.in_ok-depth.ensures.one_less) c.in_ok-open.ensures.read) (part_fails (Symbol.expression (suc n) 0 ∷ []) _ (c.in_err-inner.ensures.judged (suc n) (inner _ _ _ all c.in_ok-depth.ensures.one_less)))))

pub group-returns-in_err-mark-clause-judged : goal.group-returns-in_err-mark-clause-judged
group-returns-in_err-mark-clause-judged t c = λ n all. rw (stopped _ _ c.from_residual-in_err-mark.ensures.1) (told (in_group (suc n) []) (fails_then (same_fixed refl (room _ _ _ all c.in_ok-depth.ensures.one_less) c.in_ok-open.ensures.read) (fails_then (same_part (Symbol.expression (suc n) 0 ∷ []) (c.in_ok-inner.ensures.judged (suc n) (inner _ _ _ all c.in_ok-depth.ensures.one_less))) (fixed_fails refl c.in_err-mark.ensures.refused))))

pub group-returns-clause-derived : goal.group-returns-clause-derived
group-returns-clause-derived t c = reads_parens _ _ _ _ _ _ _ c.in_ok-open.ensures.read c.in_ok-inner.ensures.derived c.in_ok-mark.ensures.read

pub group-returns-clause-judged : goal.group-returns-clause-judged
group-returns-clause-judged t c = λ n all. went (in_group (suc n) []) ([]) (same_then (same_fixed refl (room _ _ _ all c.in_ok-depth.ensures.one_less) c.in_ok-open.ensures.read) (same_then (same_part (Symbol.expression (suc n) 0 ∷ []) (c.in_ok-inner.ensures.judged (suc n) (inner _ _ _ all c.in_ok-depth.ensures.one_less))) (same_fixed refl (room _ _ _ all c.in_ok-depth.ensures.one_less) c.in_ok-mark.ensures.read)))

pub index-returns-in_err-open-clause-judged : goal.index-returns-in_err-open-clause-judged
index-returns-in_err-open-clause-judged t c = λ n all known. rw (stopped _ _ c.from_residual.ensures.1) (told (Symbol.indices n ∷ []) (known_fails known c.in_err-open.ensures.refused))

pub index-returns-in_err-depth-clause-judged : goal.index-returns-in_err-depth-clause-judged
index-returns-in_err-depth-clause-judged t c = λ n all known. rw (stopped _ _ c.from_residual-in_err-depth.ensures.1) (told (Symbol.indices n ∷ []) (deep_fails c.in_ok-open.ensures.read refl (full _ _ all c.in_err-depth.ensures.none_left) c.in_err-depth.ensures.place))

pub index-returns-in_err-inner-clause-judged : goal.index-returns-in_err-inner-clause-judged
index-returns-in_err-inner-clause-judged t c = λ n all known. rw (stopped _ _ c.from_residual-in_err-inner.ensures.1) (told (Symbol.indices n ∷ []) (fails_then (same_index (room _ _ _ all c.in_ok-depth.ensures.one_less) c.in_ok-open.ensures.read) (part_fails (Symbol.expression (suc n) 0 ∷ []) _ (c.in_err-inner.ensures.judged (suc n) (inner _ _ _ all c.in_ok-depth.ensures.one_less)))))

pub index-returns-in_err-mark-clause-judged : goal.index-returns-in_err-mark-clause-judged
index-returns-in_err-mark-clause-judged t c = λ n all known. rw (stopped _ _ c.from_residual-in_err-mark.ensures.1) (told (Symbol.indices n ∷ []) (fails_then (same_index (room _ _ _ all c.in_ok-depth.ensures.one_less) c.in_ok-open.ensures.read) (fails_then (same_part (Symbol.expression (suc n) 0 ∷ []) (c.in_ok-inner.ensures.judged (suc n) (inner _ _ _ all c.in_ok-depth.ensures.one_less))) (fixed_fails refl c.in_err-mark.ensures.refused))))

pub index-returns-clause-derived : goal.index-returns-clause-derived
index-returns-clause-derived t c = reads_brackets _ _ _ _ _ _ _ c.in_ok-open.ensures.read c.in_ok-inner.ensures.derived c.in_ok-mark.ensures.read

pub index-returns-clause-judged : goal.index-returns-clause-judged
index-returns-clause-judged t c = λ n all known. went (Symbol.indices n ∷ []) (Symbol.indices n ∷ []) (same_then (same_index (room _ _ _ all c.in_ok-depth.ensures.one_less) c.in_ok-open.ensures.read) (same_then (same_part (Symbol.expression (suc n) 0 ∷ []) (c.in_ok-inner.ensures.judged (suc n) (inner _ _ _ all c.in_ok-depth.ensures.one_less))) (same_then (same_fixed refl (room _ _ _ all c.in_ok-depth.ensures.one_less) c.in_ok-mark.ensures.read) same_reduces)))

pub indices-brackets-init : goal.indices-brackets-init
indices-brackets-init t c = (reads_no_indices _ _ c.new-indices.ensures, λ n all. same_done)

pub indices-returns-in_err-index-clause-judged : goal.indices-returns-in_err-index-clause-judged
indices-returns-in_err-index-clause-judged t c = λ n all. rw (stopped _ _ c.from_residual.ensures.1) (told (Symbol.indices n ∷ []) (fails_then (c.brackets.invariant.1 n all) (part_fails (Symbol.indices n ∷ []) _ (c.in_err-index.ensures.judged n all (search rules)))))

pub indices-brackets-preserved : goal.indices-brackets-preserved
indices-brackets-preserved t c = (reads_index_after _ _ _ _ _ _ c.brackets.invariant.0 c.in_ok-index.ensures.derived c.in_ok-push.ensures.ok, λ n all. (same_then (c.brackets.invariant.1 n all) (record { holds = c.in_ok-index.ensures.judged n all (search rules) })))

pub indices-returns-clause-judged : goal.indices-returns-clause-judged
indices-returns-clause-judged t c = λ n all. went (Symbol.indices n ∷ []) ([]) (same_then (c.brackets.invariant.1 n all) (same_no_index (search rules)))

pub named-returns-in_err-name-clause-judged : goal.named-returns-in_err-name-clause-judged
named-returns-in_err-name-clause-judged t c = λ n all. rw (stopped _ _ c.from_residual.ensures.1) (told (Symbol.a_name n ∷ Symbol.postfix n ∷ []) (name_fails c.in_err-name.ensures.refused))

pub named-returns-in_err-args-clause-judged : goal.named-returns-in_err-args-clause-judged
named-returns-in_err-args-clause-judged t c = λ n all. rw (stopped _ _ c.from_residual-in_err-args.ensures.1) (told (Symbol.a_name n ∷ Symbol.postfix n ∷ []) (fails_then (same_name (within _ _ all) c.in_ok-name.ensures.read) (part_fails (Symbol.postfix n ∷ []) [] (c.in_err-args.ensures.judged n all (search rules)))))

pub named-returns-then-is_at-clause-derived : goal.named-returns-then-is_at-clause-derived
named-returns-then-is_at-clause-derived t c = reads_call _ _ _ _ _ _ _ c.in_ok-name.ensures.read c.in_ok-args.ensures.derived c.place.ensures

pub named-returns-then-is_at-clause-judged : goal.named-returns-then-is_at-clause-judged
named-returns-then-is_at-clause-judged t c = λ n all. went (Symbol.a_name n ∷ Symbol.postfix n ∷ []) ([]) (same_then (same_name (within _ _ all) c.in_ok-name.ensures.read) (same_part (Symbol.postfix n ∷ []) (c.in_ok-args.ensures.judged n all (search rules))))

pub arguments-returns-in_err-open-clause-judged : goal.arguments-returns-in_err-open-clause-judged
arguments-returns-in_err-open-clause-judged t c = λ n all known. rw (stopped _ _ c.from_residual.ensures.1) (told (Symbol.postfix n ∷ []) (known_fails known c.in_err-open.ensures.refused))

pub arguments-returns-in_err-depth-clause-judged : goal.arguments-returns-in_err-depth-clause-judged
arguments-returns-in_err-depth-clause-judged t c = λ n all known. rw (stopped _ _ c.from_residual-in_err-depth.ensures.1) (told (Symbol.postfix n ∷ []) (deep_fails c.in_ok-open.ensures.read refl (full _ _ all c.in_err-depth.ensures.none_left) c.in_err-depth.ensures.place))

pub arguments-returns-in_err-args-clause-judged : goal.arguments-returns-in_err-args-clause-judged
arguments-returns-in_err-args-clause-judged t c = λ n all known. rw (stopped _ _ c.from_residual-in_err-args.ensures.1) (told (Symbol.postfix n ∷ []) (fails_then (same_call (room _ _ _ all c.in_ok-depth.ensures.one_less) c.in_ok-open.ensures.read) (part_fails (Symbol.arguments (suc n) ∷ []) [] (c.in_err-args.ensures.judged (suc n) (inner _ _ _ all c.in_ok-depth.ensures.one_less)))))

pub arguments-returns-in_err-mark-clause-judged : goal.arguments-returns-in_err-mark-clause-judged
arguments-returns-in_err-mark-clause-judged t c = λ n all known. rw (stopped _ _ c.from_residual-in_err-mark.ensures.1) (told (Symbol.postfix n ∷ []) (fails_then (same_call (room _ _ _ all c.in_ok-depth.ensures.one_less) c.in_ok-open.ensures.read) (fails_then (record { holds = c.in_ok-args.ensures.judged (suc n) (inner _ _ _ all c.in_ok-depth.ensures.one_less) }) (fixed_fails {more = []} refl c.in_err-mark.ensures.refused))))

pub arguments-returns-clause-derived : goal.arguments-returns-clause-derived
arguments-returns-clause-derived t c = reads_arguments _ _ _ _ _ _ _ c.in_ok-open.ensures.read c.in_ok-args.ensures.derived c.in_ok-mark.ensures.read

pub arguments-returns-clause-judged : goal.arguments-returns-clause-judged
arguments-returns-clause-judged t c = λ n all known. went (Symbol.postfix n ∷ []) ([]) (same_then (same_call (room _ _ _ all c.in_ok-depth.ensures.one_less) c.in_ok-open.ensures.read) (same_then (record { holds = c.in_ok-args.ensures.judged (suc n) (inner _ _ _ all c.in_ok-depth.ensures.one_less) }) (same_fixed refl (room _ _ _ all c.in_ok-depth.ensures.one_less) c.in_ok-mark.ensures.read)))

pub any_arguments-returns-then-is_at-clause-derived : goal.any_arguments-returns-then-is_at-clause-derived
any_arguments-returns-then-is_at-clause-derived t c = reads_no_arguments _ _ c.new.ensures

pub any_arguments-returns-then-is_at-clause-judged : goal.any_arguments-returns-then-is_at-clause-judged
any_arguments-returns-then-is_at-clause-judged t c = λ n all. went (Symbol.arguments n ∷ []) (Symbol.fixed n Fixed.closing ∷ []) (alike_at (Symbol.arguments n) (Symbol.fixed n Fixed.closing) mark.Close n Reduction.no_arguments _ (search rules) refl refl)

pub any_arguments-returns-clause-judged : goal.any_arguments-returns-clause-judged
any_arguments-returns-clause-judged t c = λ n all. judges_part (argument_list_symbols n) (Symbol.fixed n Fixed.closing ∷ []) (Symbol.fixed n Fixed.closing ∷ []) _ _ (arguments_opened n _ (search rules)) same_done (c.argument_list.ensures.judged n all)

pub argument_list-returns-in_err-first-clause-judged : goal.argument_list-returns-in_err-first-clause-judged
argument_list-returns-in_err-first-clause-judged t c = λ n all. rw (stopped _ _ c.from_residual.ensures.1) (told (argument_list_symbols n) (part_fails (Symbol.expression n 0 ∷ []) _ (c.in_err-first.ensures.judged n all)))

pub argument_list-arguments-init : goal.argument_list-arguments-init
argument_list-arguments-init t c = (reads_first_argument _ _ _ _ _ c.in_ok-first.ensures.derived c.new-args.ensures c.in_ok-push.ensures.ok, λ n all. same_then (same_part (Symbol.expression n 0 ∷ []) (c.in_ok-first.ensures.judged n all)) same_reduces)

pub argument_list-returns-in_err-more-clause-judged : goal.argument_list-returns-in_err-more-clause-judged
argument_list-returns-in_err-more-clause-judged t c = λ n all. rw (stopped _ _ c.from_residual-in_err-more.ensures.1) (told (argument_list_symbols n) (fails_then (c.arguments.invariant.1 n all) (fails_then (same_takes c.in_ok-mark.ensures.read refl (within _ _ all)) (part_fails (Symbol.expression n 0 ∷ []) _ (c.in_err-more.ensures.judged n all)))))

pub argument_list-arguments-preserved : goal.argument_list-arguments-preserved
argument_list-arguments-preserved t c = (reads_argument_after _ _ _ _ _ _ _ _ c.arguments.invariant.0 c.in_ok-mark.ensures.read c.in_ok-more.ensures.derived c.in_ok-push-2.ensures.ok, λ n all. same_then (c.arguments.invariant.1 n all) (same_then (same_takes c.in_ok-mark.ensures.read refl (within _ _ all)) (same_then (same_part (Symbol.expression n 0 ∷ []) (c.in_ok-more.ensures.judged n all)) same_reduces)))

pub argument_list-returns-clause-derived : goal.argument_list-returns-clause-derived
argument_list-returns-clause-derived t c = reads_argument_list _ _ _ c.arguments.invariant.0

pub argument_list-returns-clause-judged : goal.argument_list-returns-clause-judged
argument_list-returns-clause-judged t c = λ n all. went (argument_list_symbols n) [] (same_then (c.arguments.invariant.1 n all) (more_arguments_end n _ (search rules)))

pub named-returns-in_err-indices-clause-judged : goal.named-returns-in_err-indices-clause-judged
named-returns-in_err-indices-clause-judged t c = λ n all. rw (stopped _ _ c.from_residual-in_err-indices.ensures.1) (told (Symbol.a_name n ∷ Symbol.postfix n ∷ []) (fails_then (same_name (within _ _ all) c.in_ok-name.ensures.read) (fails_then (same_as_indices (search rules)) (part_fails (Symbol.indices n ∷ []) _ (c.in_err-indices.ensures.judged n all)))))

pub named-returns-then-is_empty-clause-derived : goal.named-returns-then-is_empty-clause-derived
named-returns-then-is_empty-clause-derived t c = reads_name _ _ _ _ _ _ _ c.in_ok-name.ensures.read c.in_ok-indices.ensures.derived (no_items _ (search rules)) c.place-at.ensures

pub named-returns-then-is_empty-clause-judged : goal.named-returns-then-is_empty-clause-judged
named-returns-then-is_empty-clause-judged t c = λ n all. went (Symbol.a_name n ∷ Symbol.postfix n ∷ []) ([]) (same_then (same_name (within _ _ all) c.in_ok-name.ensures.read) (same_then (same_as_indices (search rules)) (same_part (Symbol.indices n ∷ []) (c.in_ok-indices.ensures.judged n all))))

pub named-returns-clause-derived : goal.named-returns-clause-derived
named-returns-clause-derived t c = reads_element _ _ _ _ _ _ _ c.in_ok-name.ensures.read c.in_ok-indices.ensures.derived (some_items _ (search rules)) c.place-at.ensures

pub named-returns-clause-judged : goal.named-returns-clause-judged
named-returns-clause-judged t c = λ n all. went (Symbol.a_name n ∷ Symbol.postfix n ∷ []) ([]) (same_then (same_name (within _ _ all) c.in_ok-name.ensures.read) (same_then (same_as_indices (search rules)) (same_part (Symbol.indices n ∷ []) (c.in_ok-indices.ensures.judged n all))))

pub signed-returns-in_err-op-clause-judged : goal.signed-returns-in_err-op-clause-judged
signed-returns-in_err-op-clause-judged t c = λ n all plain. rw (stopped _ _ c.from_residual.ensures.1) (told (Symbol.expression n 11 ∷ []) (sign_fails plain c.in_err-op.ensures.refused))

pub signed-returns-in_err-depth-clause-judged : goal.signed-returns-in_err-depth-clause-judged
signed-returns-in_err-depth-clause-judged t c = λ n all plain. rw (stopped _ _ c.from_residual-in_err-depth.ensures.1) (told (Symbol.expression n 11 ∷ []) (signed_deep c.in_ok-op.ensures.read (full _ _ all c.in_err-depth.ensures.none_left) c.in_err-depth.ensures.place))

pub signed-returns-in_err-arg-clause-judged : goal.signed-returns-in_err-arg-clause-judged
signed-returns-in_err-arg-clause-judged t c = λ n all plain. rw (stopped _ _ c.from_residual-in_err-arg.ensures.1) (told (Symbol.expression n 11 ∷ []) (fails_then (same_signed (room _ _ _ all c.in_ok-depth.ensures.one_less) c.in_ok-op.ensures.read) (part_fails (Symbol.expression (suc n) 11 ∷ []) _ (c.in_err-arg.ensures.judged (suc n) (inner _ _ _ all c.in_ok-depth.ensures.one_less)))))

pub signed-returns-clause-derived : goal.signed-returns-clause-derived
signed-returns-clause-derived t c = reads_unary _ _ _ _ _ _ _ _ c.in_ok-op.ensures.read c.in_ok-arg.ensures.derived c.in_ok-new.ensures c.place.ensures

pub signed-returns-clause-judged : goal.signed-returns-clause-judged
signed-returns-clause-judged t c = λ n all plain. went (Symbol.expression n 11 ∷ []) ([]) (same_then (same_signed (room _ _ _ all c.in_ok-depth.ensures.one_less) c.in_ok-op.ensures.read) (same_then (same_part (Symbol.expression (suc n) 11 ∷ []) (c.in_ok-arg.ensures.judged (suc n) (inner _ _ _ all c.in_ok-depth.ensures.one_less))) same_reduces))

pub unary-returns-then-is_at_name-clause-judged : goal.unary-returns-then-is_at_name-clause-judged
unary-returns-then-is_at_name-clause-judged t c = λ n all. judges_part (Symbol.a_name n ∷ Symbol.postfix n ∷ []) (Symbol.reduce Reduction.named ∷ []) [] c.named.new.self.rest.now c.named.result (same_as_name (sym c.if-is_at_name.ensures)) same_reduces (c.named.ensures.judged n all)

pub unary-returns-then-is_at_number-clause-judged : goal.unary-returns-then-is_at_number-clause-judged
unary-returns-then-is_at_number-clause-judged t c = λ n all. judges_part (Symbol.a_number n ∷ []) [] [] c.constant.new.self.rest.now c.constant.result (same_as_number (sym c.if-is_at_number.ensures)) same_done (c.constant.ensures.judged n (within _ _ all))

pub unary-returns-then-not-is_at-clause-judged : goal.unary-returns-then-not-is_at-clause-judged
unary-returns-then-not-is_at-clause-judged t c = λ n all. c.signed.ensures.judged n all (no_operand _ (sym c.if-is_at_name.ensures) (sym c.if-is_at_number.ensures) (search rules))

pub unary-returns-then-is_at_cast-clause-judged : goal.unary-returns-then-is_at_cast-clause-judged
unary-returns-then-is_at_cast-clause-judged t c = λ n all. judges_part (Symbol.fixed (suc n) Fixed.opening ∷ Symbol.a_type (suc n) ∷ Symbol.fixed (suc n) Fixed.closing ∷ Symbol.expression (suc n) 11 ∷ []) (Symbol.reduce Reduction.cast ∷ []) [] c.cast.new.self.rest.now c.cast.result (same_as_cast (search rules) (sym c.if-is_at_cast.ensures)) same_reduces (c.cast.ensures.judged n all)

pub unary-returns-clause-derived : goal.unary-returns-clause-derived
unary-returns-clause-derived t c = if_ok _ _ _ (λ e r. reads_group e _ _ r) c.group.ensures.derived

pub unary-returns-clause-judged : goal.unary-returns-clause-judged
unary-returns-clause-judged t c = λ n all. judges_part (in_group (suc n) []) (Symbol.reduce Reduction.group ∷ []) [] c.group.new.self.rest.now c.group.result (same_as_group (search rules) (sym c.if-is_at_cast.ensures)) same_reduces (c.group.ensures.judged n all)
