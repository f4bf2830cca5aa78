use Rattle.std.proofs.Common.{rules, ◌≡◌, ◌<◌, ◌∙◌, refl, sym, length, arith}
use Rattle.std.proofs.lemmas.List.{get_or_read}
use Rattle.cycle_engine.specs.declared.fed.Lead.TheVariants as leads
use Rattle.net_types.specs.declared.firing.Act.TheVariants.{Addr, Data}
use Rattle.cycle_engine.proofs.FedLemmas.{marked_there}
use Rattle.cycle_engine.proofs.fed.Fed.note.Goals as goal

pub returns-in-Addr-clause-marked : goal.returns-in-Addr-clause-marked
returns-in-Addr-clause-marked c a e =
    let within : c.args.chan < length c.args.self.now.leads.items = (let l = c.requires.leads.long in let w = c.requires.within in omega arith) in
    let l : c.index.result.now ≡ leads.Addr c.in-Addr.port = search rules in
    marked_there c.args.net.now c.args.used.now.base.items c.args.chan (Addr c.in-Addr.port) a (leads.Addr c.in-Addr.port) c.mark.new.self
    (sym (c.requires.leads.each c.args.chan c.requires.within) ∙ (sym (get_or_read c.args.self.now.leads.items c.args.chan c.index.result.now within c.index.ensures leads.Other) ∙ l)) e refl c.mark.ensures.marked

pub returns-in-Data-clause-marked : goal.returns-in-Data-clause-marked
returns-in-Data-clause-marked c a e =
    let within : c.args.chan < length c.args.self.now.leads.items = (let l = c.requires.leads.long in let w = c.requires.within in omega arith) in
    let l : c.index.result.now ≡ leads.Data c.in-Data.port = search rules in
    marked_there c.args.net.now c.args.used.now.base.items c.args.chan (Data c.in-Data.port) a (leads.Data c.in-Data.port) c.mark-in-Data.new.self
    (sym (c.requires.leads.each c.args.chan c.requires.within) ∙ (sym (get_or_read c.args.self.now.leads.items c.args.chan c.index.result.now within c.index.ensures leads.Other) ∙ l)) e refl c.mark-in-Data.ensures.marked
