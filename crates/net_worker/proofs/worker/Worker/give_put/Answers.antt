use Rattle.std.proofs.Common.{refl, sym, subst}
use Rattle.std.specs.List.{Contains}
use Rattle.net_worker.proofs.NewEnds.{give_put_made}
use Rattle.net_worker.proofs.worker.Worker.give_put.Goals as goal

pub lay-requires : goal.lay-requires
lay-requires c = subst (λ xs. Contains xs c.args.chan) (sym c.args.self.now.put_places) (c.requires.out.1.outs c.args.chan c.requires.out.2)

pub returns-clause-made : goal.returns-clause-made
returns-clause-made c = λ t k. give_put_made c.requires.out.0 t c.args.self.now _ c.args.chan c.args.end c.requires.out.1 c.requires.out.2 c.requires.out.3 c.requires.none k (record { number = refl; share = refl; clock = refl; log = refl; portion = refl; outs = refl; ins = refl; resting = refl; waits = refl }) refl c.lay.ensures.items
