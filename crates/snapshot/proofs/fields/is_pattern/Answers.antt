use Rattle.std.proofs.Common.{sym, arith, ◌^◌}
use Rattle.std.proofs.lemmas.Bool.{lt-ltb}
use Rattle.std.proofs.Math.Pow.{pow_mono}
use Rattle.snapshot.proofs.fields.is_pattern.Goals as goal

pub returns-then-width-ge64 : goal.returns-then-width-ge64
returns-then-width-ge64 c = sym (lt-ltb c.args.value (2 ^ c.args.width) (let p = pow_mono {i = 64} {j = c.args.width} (omega (arith, c.if-width-ge64.true)) in omega (arith, c.ranges.value.fits)))
