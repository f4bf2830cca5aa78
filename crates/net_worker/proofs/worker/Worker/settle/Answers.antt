use Rattle.std.proofs.Common.{refl, sym, ap, ◌∙◌}
use Rattle.std.specs.Option.{option_copied_mut}
use Rattle.net_worker.proofs.Settling.{mended_put, mended_take}
use Rattle.net_worker.proofs.worker.Worker.settle.Goals as goal

pub settle-requires : goal.settle-requires
settle-requires c =
    c.requires.link c.in-Some.put.now c.in-Some-get_mut.take.now
    (sym c.get_mut.ensures.value ∙ ap option_copied_mut c.in-Some.is)
    (sym c.get_mut-in-Some.ensures.value ∙ ap option_copied_mut c.in-Some-get_mut.is)

pub returns-in-Some-get_mut-clause-this : goal.returns-in-Some-get_mut-clause-this
returns-in-Some-get_mut-clause-this c =
    mended_put c.args.self.now _ c.args.chan c.in-Some.put.now c.settle.new.self c.requires.put
    (sym c.get_mut.ensures.value ∙ ap option_copied_mut c.in-Some.is)
    c.settle.ensures.put refl refl refl refl refl refl refl refl refl refl refl refl

pub returns-in-Some-get_mut-clause-that : goal.returns-in-Some-get_mut-clause-that
returns-in-Some-get_mut-clause-that c =
    mended_take c.args.other.now _ c.args.chan c.in-Some-get_mut.take.now c.settle.new.take c.requires.take
    (sym c.get_mut-in-Some.ensures.value ∙ ap option_copied_mut c.in-Some-get_mut.is)
    c.settle.ensures.take refl refl refl refl refl refl refl refl refl refl refl refl
