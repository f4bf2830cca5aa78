use Rattle.std.proofs.Common.{◌∙◌}
use Rattle.c_types.proofs.program_casts.Caster.cast_to.Goals as goal

pub returns : goal.returns
returns c = record { value = _; casts = c.in_ok-value.ensures; converted = c.into_inner.ensures ∙ c.in_ok-converted.ensures }
