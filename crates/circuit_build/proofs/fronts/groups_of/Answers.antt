use Rattle.std.proofs.Common.{◌≡◌, ◌++◌, ◌∷◌, [], Some, None, get_or, slice_get, drop, ◌+◌, sym, ap, ◌∙◌, append_assoc}
use Rattle.std.proofs.lemmas.Option.{slice_get-get_or, slice_get_past}
use Rattle.circuit_build.specs.Fronts.{numbers_from, number_after}
use Rattle.circuit_build.specs.Sorting.{picked, all_groups}
use Rattle.circuit_build.proofs.Sorting.{picked_one, picked_none}
use Rattle.circuit_build.proofs.fronts.groups_of.Goals as goal
use Rattle.circuit_build.proofs.fronts.groups_of.Goals.{in-Some+in_ok-group+in_ok-push, in_default}

pub loop-place-preserved : goal.loop-place-preserved
loop-place-preserved c =
    let xs = c.args.accesses.now in
    let is = c.args.places.now in
    let k = c.loop-place.place-index in
    let old = c.loop-place.groups in
    let p = c.loop-place.port in
    let rest = picked xs (drop (k + 1) is) in
    elim c.match-get.branch [
      | in-Some+in_ok-group+in_ok-push w ↦
          let x = w.in-Some.access.now in
          let l = w.in-Some.ensures.lookup.3 in
          let e : slice_get xs (get_or is k 0) ≡ Some x = slice_get-get_or xs (get_or is k 0) x l.0 ∙ ap Some (sym (l.1 x)) in
          ap (λ gs. gs ++ all_groups c.match-get.port rest) (w.groups-is ∙ w.in_ok-push.ensures.ok)
          ∙ append_assoc old (w.in_ok-group.group ∷ []) (all_groups c.match-get.port rest)
          ∙ ap (λ g. old ++ g ∷ all_groups c.match-get.port rest) (w.in_ok-group.ensures ∙ ap (numbers_from p) w.as_slice.ensures)
          ∙ ap (λ q. old ++ numbers_from p x.steps ∷ all_groups q rest) (w.port-is ∙ w.port_after-port.ensures ∙ ap (number_after p) w.as_slice-in-Some.ensures)
          ∙ ap (λ ys. old ++ all_groups p ys) (sym (picked_one xs is k x c.loop-place-test.true e))
          ∙ c.loop-place.invariant
      | in_default w ↦
          let e : slice_get xs (get_or is k 0) ≡ None = slice_get_past xs (get_or is k 0) w.in_default.ensures.lookup.3 in
          ap (λ gs. gs ++ all_groups c.match-get.port rest) w.groups-is
          ∙ ap (λ q. old ++ all_groups q rest) w.port-is
          ∙ ap (λ ys. old ++ all_groups p ys) (sym (picked_none xs is k c.loop-place-test.true e))
          ∙ c.loop-place.invariant
    ]
