use Rattle.std.proofs.Common.{◌≡◌, ◌<◌, ◌+◌, ◌∷◌, [], ◌∙◌, ap, length, get_or, length-append, arith}
use Rattle.net_types.specs.declared.net.Net.{Net}
use Rattle.net_core.specs.States.{elements_at, state_of}
use Rattle.net_check.proofs.CountLemmas.{few_arrays}
use Rattle.inputs_text.proofs.ElementLemmas.{one_more}
use Rattle.inputs_text.proofs.state_results.elements_of.Goals as goal

pub overflow_cast-array : goal.overflow_cast-array
overflow_cast-array c =
    let same = ap length (c.as_slice-at-end.ensures ∙ ap (λ (n : Net). n.arrays) c.net.ensures.net) in
    let l : c.loop-at.at < length c.args.net.now.arrays = omega (arith, same) in
    few_arrays c.args.net.now c.loop-at.at c.net.ensures.checked l

pub loop-at-preserved : goal.loop-at-preserved
loop-at-preserved c =
    let item : c.in_ok-list_of.field-0 ≡ elements_at (state_of c.args.state.now) c.loop-at.at = c.in_ok-list_of.ensures ∙ c.arrays.ensures in
    record {
      count = ap length c.in_ok-push.ensures.ok ∙ length-append c.loop-at.values (c.in_ok-list_of.field-0 ∷ []) ∙ ap (λ n. n + 1) c.loop-at.invariant.count;
      each = λ a within. ap (λ xs. get_or xs a []) c.in_ok-push.ensures.ok
          ∙ one_more c.loop-at.values c.in_ok-list_of.field-0 c.loop-at.at (elements_at (state_of c.args.state.now)) c.loop-at.invariant.count c.loop-at.invariant.each item a within;
    }
