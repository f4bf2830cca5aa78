use Rattle.std.proofs.Common.{◌≡◌, ◌++◌, Some, None, get_or, slice_get, drop, ◌+◌, sym, ap, ◌∙◌, append_assoc}
use Rattle.std.proofs.lemmas.Option.{slice_get-get_or, slice_get_past}
use Rattle.circuit_build.specs.Sorting.{picked, all_ports, ports_for}
use Rattle.circuit_build.proofs.Sorting.{picked_one, picked_none}
use Rattle.circuit_build.proofs.fronts.ports_of.Goals as goal
use Rattle.circuit_build.proofs.fronts.ports_of.Goals.{in-Some+in_ok-add_access, in_default}

pub loop-place-preserved : goal.loop-place-preserved
loop-place-preserved c =
    let blocks = c.args.blocks.now in
    let xs = c.args.accesses.now in
    let is = c.args.places.now in
    let k = c.loop-place.place-index in
    let old = c.loop-place.ports in
    let rest = picked xs (drop (k + 1) is) in
    elim c.match-get.branch [
      | in-Some+in_ok-add_access w ↦
          let x = w.in-Some.access.now in
          let l = w.in-Some.ensures.lookup.3 in
          let e : slice_get xs (get_or is k 0) ≡ Some x = slice_get-get_or xs (get_or is k 0) x l.0 ∙ ap Some (sym (l.1 x)) in
          ap (λ ps. ps ++ all_ports blocks rest) (w.ports-is ∙ w.in_ok-add_access.ensures)
          ∙ append_assoc old (ports_for blocks x) (all_ports blocks rest)
          ∙ ap (λ ys. old ++ all_ports blocks ys) (sym (picked_one xs is k x c.loop-place-test.true e))
          ∙ c.loop-place.invariant
      | in_default w ↦
          let e : slice_get xs (get_or is k 0) ≡ None = slice_get_past xs (get_or is k 0) w.in_default.ensures.lookup.3 in
          ap (λ ps. ps ++ all_ports blocks rest) w.ports-is
          ∙ ap (λ ys. old ++ all_ports blocks ys) (sym (picked_none xs is k c.loop-place-test.true e))
          ∙ c.loop-place.invariant
    ]
