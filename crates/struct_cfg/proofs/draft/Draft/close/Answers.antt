use Rattle.std.proofs.Common.{◌≡◌, rules}
use Rattle.struct_cfg.specs.declared.draft.Draft.{Draft}
use Rattle.struct_cfg.specs.Drafts.{close}
use Rattle.struct_cfg.proofs.Grows.{close_grows}
use Rattle.struct_cfg.proofs.draft.Draft.close.Goals as goal

pub returns-clause-few : goal.returns-clause-few
returns-clause-few c =
    let d : Draft = record { blocks = c.push.new.self; steps = c.replace-steps.new.dest; env = c.in_ok-env.env } in
    let made : d ≡ close c.args.jump c.args.self.now = search rules in
    close_grows c.args.jump c.args.self.now d made
