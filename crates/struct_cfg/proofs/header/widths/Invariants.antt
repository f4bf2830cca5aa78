use Rattle.std.proofs.Common.{◌≡◌, map, take}
use Rattle.el_base.specs.Widths.{ty_width}
use Rattle.struct_cfg.proofs.header.widths.Given as goal

abbrev pub invariant-loop-ty : goal.invariant-loop-ty
invariant-loop-ty l = l.widths ≡ map ty_width (take l.ty-index l.vars)
