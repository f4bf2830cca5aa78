use Rattle.std.proofs.Common.{None, IsSome, get_or, refl, subst, sym}
use Rattle.std.specs.List.{Contains}
use Rattle.net_worker.proofs.Asking.{puts_asked_self, takes_asked_self}
use Rattle.net_worker.proofs.Waits.{awaited_at, noted_on}
use Rattle.net_worker.proofs.worker.Worker.wait_at.Goals as goal

pub lay_near-requires : goal.lay_near-requires
lay_near-requires c = subst (λ xs. Contains xs c.args.chan) (sym c.args.self.now.wait_places) c.requires

pub returns-clause-asked : goal.returns-clause-asked
returns-clause-asked c =
    record {
      number = refl;
      share = refl;
      log = refl;
      clock = refl;
      portion = refl;
      outs = refl;
      ins = refl;
      closed = refl;
      resting = refl;
      waits = λ d h. subst (λ xs. IsSome (get_or xs d None)) (sym c.lay_near.ensures.items) (noted_on c.args.self.now.waits.items c.args.chan d tt c.lay_near.ensures.within h);
      puts = puts_asked_self c.args.self.now.puts.items;
      takes = takes_asked_self c.args.self.now.takes.items;
    }

pub returns-clause-awaited : goal.returns-clause-awaited
returns-clause-awaited c = subst (λ xs. IsSome (get_or xs c.args.chan None)) (sym c.lay_near.ensures.items) (awaited_at c.args.self.now.waits.items c.args.chan c.lay_near.ensures.within)
