use Rattle.std.proofs.Common.{arith, ◌≡◌, ◌++◌, Some, [], length, get_or, slice_get, drop, ◌+◌, ℕ, List, ◌∷◌, refl, ap, ◌∙◌}
use Rattle.std.proofs.lemmas.List.{length-set}
use Rattle.std.proofs.lemmas.Option.{slice_get_read}
use Rattle.circuit_build.specs.Sorting.{picked, own, put_at}
use Rattle.circuit_build.proofs.Sorting.{one_put}
use Rattle.circuit_build.proofs.fronts.places_by_array.Goals as goal

pub loop-access-preserved : goal.loop-access-preserved
loop-access-preserved c =
    let xs = c.args.accesses.now in
    let i = c.loop-access.access-index in
    let x = c.access-item.result in
    let old = c.loop-access.table in
    let was = c.loop-access.invariant in
    let e : slice_get xs i ≡ Some x = slice_get_read xs (length xs) i x refl c.loop-access-test.true c.access-item.is in
    let counted : c.put_at.new.table ≡ put_at old x.array i = c.in_ok-put_at.ensures ∙ ap (put_at old x.array) was.counted in
    record {
      counted = ap (λ n. n + 1) was.counted;
      many = ap (λ (t : List (List ℕ)). length t) counted ∙ length-set old x.array (get_or old x.array [] ++ i ∷ []) ∙ was.many;
      each = λ a lt. ap (λ t. picked xs (get_or t a []) ++ own a (drop (i + 1) xs)) counted ∙ one_put old xs i a x e (omega (arith, lt, was.many)) (was.each a lt);
    }
