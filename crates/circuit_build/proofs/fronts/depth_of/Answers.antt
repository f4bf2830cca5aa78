use Rattle.std.proofs.Common.{◌≡◌, max, Some, None, get_or, slice_get, drop, ◌+◌, sym, ap, ◌∙◌}
use Rattle.std.proofs.lemmas.Option.{slice_get-get_or, slice_get_past}
use Rattle.circuit_build.specs.Drafts.{number}
use Rattle.circuit_build.specs.Sorting.{picked, greatest_depth}
use Rattle.circuit_build.proofs.Sorting.{picked_one, picked_none}
use Rattle.circuit_build.proofs.fronts.depth_of.Goals as goal
use Rattle.circuit_build.proofs.fronts.depth_of.Goals.{in-Some, in_default}

pub loop-place-preserved : goal.loop-place-preserved
loop-place-preserved c =
    let xs = c.args.accesses.now in
    let is = c.args.places.now in
    let k = c.loop-place.place-index in
    let m = c.loop-place.depth in
    let rest = picked xs (drop (k + 1) is) in
    elim c.match-get.branch [
      | in-Some w ↦
          let x = w.in-Some.access.now in
          let l = w.in-Some.ensures.lookup.3 in
          let e : slice_get xs (get_or is k 0) ≡ Some x = slice_get-get_or xs (get_or is k 0) x l.0 ∙ ap Some (sym (l.1 x)) in
          ap (λ n. greatest_depth n rest) (w.depth-is ∙ w.max-depth.ensures ∙ ap (λ n. max m n) (w.number.ensures ∙ ap number w.len.ensures))
          ∙ ap (λ ys. greatest_depth m ys) (sym (picked_one xs is k x c.loop-place-test.true e))
          ∙ c.loop-place.invariant
      | in_default w ↦
          let e : slice_get xs (get_or is k 0) ≡ None = slice_get_past xs (get_or is k 0) w.in_default.ensures.lookup.3 in
          ap (λ n. greatest_depth n rest) w.depth-is
          ∙ ap (λ ys. greatest_depth m ys) (sym (picked_none xs is k c.loop-place-test.true e))
          ∙ c.loop-place.invariant
    ]
