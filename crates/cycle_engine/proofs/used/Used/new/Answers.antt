use Rattle.std.proofs.Common.{◌≡◌, ◌∙◌, ◌+◌, ◌++◌, ◌∷◌, [], sym, subst, arith, ℕ, List, length, rules}
use Rattle.std.proofs.lemmas.List.{get_or_read}
use Rattle.net_types.specs.declared.net.Unit.{Unit as Kind}
use Rattle.net_types.specs.declared.net.Unit.TheVariants.{Sink}
use Rattle.net_types.specs.Nets.{kind_of}
use Rattle.cycle_engine.specs.private.Used.{AreLaid, AreNumbered, HasNumbersBelow}
use Rattle.cycle_engine.proofs.UsedLemmas.{laid_more, laid_all}
use Rattle.cycle_engine.proofs.used.Used.new.Goals as goal

pub loop-unit-preserved : goal.loop-unit-preserved
loop-unit-preserved c =
    let N = c.args.net.now in
    let base = c.loop-unit.base.items in
    let pushed : c.push.new.self.items ≡ base ++ c.in-Ok.from ∷ [] = c.in_ok-push.ensures.items in
    let from : c.in-Ok.from ≡ c.loop-unit.count = omega (arith, c.in-Ok.ensures) in
    let units : c.as_slice-units.result.now ≡ N.units = search rules in
    let index : c.loop-unit.unit-index ≡ length base = sym c.loop-unit.invariant.long in
    let kind : c.unit-item.result ≡ kind_of N (length base) =
    get_or_read c.as_slice-units.result.now c.loop-unit.unit-index c.unit-item.result c.loop-unit-test.true c.unit-item.is (Sink 0) ∙ cc in
    let L : List ℕ → Type 0 = λ xs. AreLaid N xs (c.loop-unit.count + c.places.result) in
    let M : ℕ → Type 0 = λ n. AreLaid N (base ++ n ∷ []) (c.loop-unit.count + c.places.result) in
    let K : Kind → Type 0 = λ k. HasNumbersBelow k c.places.result in
    record {
      long = search rules;
      laid = subst L (sym pushed) (subst M (sym from) (laid_more N base c.loop-unit.count c.places.result (subst K kind c.places.ensures.below) c.loop-unit.invariant.laid));
    }

pub returns-clause-numbered : goal.returns-clause-numbered
returns-clause-numbered c =
    let N : ℕ → Type 0 = λ n. AreNumbered c.args.net.now c.loop-unit.base.items n in
    let count : c.loop-unit.count ≡ length c.in_ok-vec.field-0.items = search rules in
    let long : length c.loop-unit.base.items ≡ length c.args.net.now.units = search rules in
    subst N count (laid_all c.args.net.now c.loop-unit.base.items c.loop-unit.count long c.loop-unit.invariant.laid)
