use Rattle.std.proofs.Common.{All, sym, subst}
use Rattle.c_ast.specs.Constants.{NumberFits}
use Rattle.kernel_front.specs.declared.refusal.KernelRefusal.TheVariants as refusal
use Rattle.kernel_front.specs.Answers.{Says, SpellsWithin, SpellsTyped}
use Rattle.kernel_front.specs.Refusals.{of_lexer, of_parser, of_types, of_inliner}
use Rattle.kernel_front.proofs.Answering.{lexer_says, parser_says, types_say, inliner_says, within, kernel_says, converted_says}
use Rattle.kernel_front.proofs.reading.read_kernel.Goals as goal

pub inline-requires : goal.inline-requires
inline-requires c =
    c.typed_programs_are_lawful.ensures c.in_ok-program.program c.in_ok-checked.checked c.in_ok-checked.ensures.kept
    (c.in_ok-program.ensures.fits (subst (All NumberFits) (sym c.as_slice.ensures) c.in_ok-tokens.ensures.fits)) c.in_ok-checked.ensures.typed

pub returns-in_err-tokens : goal.returns-in_err-tokens
returns-in_err-tokens c =
    let e = c.in_err-tokens.field-0.0 in
    let said : Says c.args.bytes.now c.from_residual.result
    = converted_says c.args.bytes.now c.from_residual.result (of_lexer e) c.from_residual.ensures.1 (lexer_says c.args.bytes.now e c.in_err-tokens.ensures.says) in
    record { says = said; only = c.one_text_has_one_answer.ensures c.args.bytes.now c.from_residual.result said }

pub returns-in_err-program : goal.returns-in_err-program
returns-in_err-program c =
    let e = c.in_err-program.field-0.0 in
    let said : Says c.args.bytes.now c.from_residual-in_err-program.result
    = converted_says c.args.bytes.now c.from_residual-in_err-program.result (of_parser e) c.from_residual-in_err-program.ensures.1
    (parser_says c.args.bytes.now c.in_ok-tokens.tokens c.as_slice.result.now c.end_of-end.result e c.in_ok-tokens.ensures.says c.as_slice.ensures c.end_of-end.ensures c.in_err-program.ensures.says) in
    record { says = said; only = c.one_text_has_one_answer.ensures c.args.bytes.now c.from_residual-in_err-program.result said }

pub returns-in_err-checked : goal.returns-in_err-checked
returns-in_err-checked c =
    let e = c.in_err-checked.field-0.0 in
    let spelled : SpellsWithin c.args.bytes.now c.in_ok-program.program
    = within c.args.bytes.now c.in_ok-tokens.tokens c.as_slice.result.now c.end_of-end.result c.in_ok-program.program c.in_ok-tokens.ensures.says c.as_slice.ensures c.end_of-end.ensures c.in_ok-program.ensures.says in
    let said : Says c.args.bytes.now c.from_residual-in_err-checked.result
    = converted_says c.args.bytes.now c.from_residual-in_err-checked.result (of_types e) c.from_residual-in_err-checked.ensures.1
    (types_say c.args.bytes.now c.in_ok-program.program e spelled c.in_err-checked.ensures.refused) in
    record { says = said; only = c.one_text_has_one_answer.ensures c.args.bytes.now c.from_residual-in_err-checked.result said }

pub returns-in_err-typed : goal.returns-in_err-typed
returns-in_err-typed c =
    let e = c.in_err-typed.field-0.0 in
    let spelled : SpellsTyped c.args.bytes.now c.in_ok-checked.checked
    = record {
      program = c.in_ok-program.program;
      within = within c.args.bytes.now c.in_ok-tokens.tokens c.as_slice.result.now c.end_of-end.result c.in_ok-program.program c.in_ok-tokens.ensures.says c.as_slice.ensures c.end_of-end.ensures c.in_ok-program.ensures.says;
      typing = c.in_ok-checked.ensures.kept;
      casts = c.in_ok-checked.ensures.typed;
    } in
    let said : Says c.args.bytes.now c.from_residual-in_err-typed.result
    = converted_says c.args.bytes.now c.from_residual-in_err-typed.result (of_inliner e) c.from_residual-in_err-typed.ensures.1
    (inliner_says c.args.bytes.now c.in_ok-checked.checked e spelled c.in_err-typed.ensures.grown) in
    record { says = said; only = c.one_text_has_one_answer.ensures c.args.bytes.now c.from_residual-in_err-typed.result said }

pub returns-in_err-nodes : goal.returns-in_err-nodes
returns-in_err-nodes c =
    let said : Says c.args.bytes.now c.from_residual-in_err-nodes.result
    = converted_says c.args.bytes.now c.from_residual-in_err-nodes.result refusal.Memory c.from_residual-in_err-nodes.ensures.1 tt in
    record { says = said; only = c.one_text_has_one_answer.ensures c.args.bytes.now c.from_residual-in_err-nodes.result said }

pub returns : goal.returns
returns c =
    let spelled : SpellsTyped c.args.bytes.now c.in_ok-checked.checked
    = record {
      program = c.in_ok-program.program;
      within = within c.args.bytes.now c.in_ok-tokens.tokens c.as_slice.result.now c.end_of-end.result c.in_ok-program.program c.in_ok-tokens.ensures.says c.as_slice.ensures c.end_of-end.ensures c.in_ok-program.ensures.says;
      typing = c.in_ok-checked.ensures.kept;
      casts = c.in_ok-checked.ensures.typed;
    } in
    let said
    = kernel_says c.inlined_nodes_are_counted.ensures c.args.bytes.now c.in_ok-checked.checked (record { typed = c.in_ok-typed.typed; nodes = c.in_ok-nodes.nodes }) spelled c.in_ok-typed.ensures.made c.in_ok-typed.ensures.lawful
    c.in_ok-typed.ensures.small c.in_ok-nodes.ensures in
    record { says = said; only = c.one_text_has_one_answer.ensures c.args.bytes.now _ said }
