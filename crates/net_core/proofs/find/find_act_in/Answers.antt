use Rattle.std.proofs.Common.{◌≡◌, ap, ◌∙◌, subst, MatchOption}
use Rattle.net_types.specs.Nets.{kind_of}
use Rattle.net_core.specs.declared.find.Family.TheVariants as family
use Rattle.net_core.specs.States.{state_of}
use Rattle.net_core.specs.private.Searches.{NoneIn, IsFirstIn}
use Rattle.net_core.proofs.StateLemmas.{unit_is}
use Rattle.net_core.proofs.FindLemmas.{fork_found, merge_found, go_found}
use Rattle.net_core.proofs.find.find_act_in.Goals as goal

pub returns-in-Fork : goal.returns-in-Fork
returns-in-Fork g c =
    let k : kind_of c.args.net.now c.args.unit ≡ c.index-as_slice-unit.result = unit_is c.args.net.now c.as_slice.result.now c.args.unit c.index-as_slice-unit.result (c.as_slice.ensures ∙ ap (λ n. n.units) c.net.ensures.net) (rw (c.as_slice.ensures ∙ ap (λ n. n.units) c.net.ensures.net) c.requires.within) c.index-as_slice-unit.is in
    fork_found c.args.net.now (state_of (g.S.Searched.stored c.args.state.now)) c.args.unit c.args.from c.in-Fork.width c.in-Fork.outs c.first_in.result (k ∙ c.in-Fork.is)
    (subst (λ n. MatchOption c.first_in.result (NoneIn c.args.net.now (state_of (g.S.Searched.stored c.args.state.now)) c.args.unit family.Send n.start n.end) (λ act. IsFirstIn c.args.net.now (state_of (g.S.Searched.stored c.args.state.now)) c.args.unit family.Send n.start n.end act)) c.numbers-numbers.ensures c.first_in.ensures)

pub returns-in-Cmerge : goal.returns-in-Cmerge
returns-in-Cmerge g c =
    let k : kind_of c.args.net.now c.args.unit ≡ c.index-as_slice-unit.result = unit_is c.args.net.now c.as_slice.result.now c.args.unit c.index-as_slice-unit.result (c.as_slice.ensures ∙ ap (λ n. n.units) c.net.ensures.net) (rw (c.as_slice.ensures ∙ ap (λ n. n.units) c.net.ensures.net) c.requires.within) c.index-as_slice-unit.is in
    merge_found c.args.net.now (state_of (g.S.Searched.stored c.args.state.now)) c.args.unit c.args.from c.in-Cmerge.ins c.first_in-in-Cmerge.result (k ∙ c.in-Cmerge.is)
    (subst (λ n. MatchOption c.first_in-in-Cmerge.result (NoneIn c.args.net.now (state_of (g.S.Searched.stored c.args.state.now)) c.args.unit family.From n.start n.end) (λ act. IsFirstIn c.args.net.now (state_of (g.S.Searched.stored c.args.state.now)) c.args.unit family.From n.start n.end act)) c.numbers-numbers-in-Cmerge.ensures c.first_in-in-Cmerge.ensures)

pub returns-in_default : goal.returns-in_default
returns-in_default g c =
    let k : kind_of c.args.net.now c.args.unit ≡ c.index-as_slice-unit.result = unit_is c.args.net.now c.as_slice.result.now c.args.unit c.index-as_slice-unit.result (c.as_slice.ensures ∙ ap (λ n. n.units) c.net.ensures.net) (rw (c.as_slice.ensures ∙ ap (λ n. n.units) c.net.ensures.net) c.requires.within) c.index-as_slice-unit.is in
    go_found c.args.net.now (state_of (g.S.Searched.stored c.args.state.now)) c.args.unit c.args.from c.index-as_slice-unit.result c.first_in-in_default.result k c.in_default.not-Fork c.in_default.not-Cmerge c.in_default.not-Lsq
    (subst (λ n. MatchOption c.first_in-in_default.result (NoneIn c.args.net.now (state_of (g.S.Searched.stored c.args.state.now)) c.args.unit family.Go n.start n.end) (λ act. IsFirstIn c.args.net.now (state_of (g.S.Searched.stored c.args.state.now)) c.args.unit family.Go n.start n.end act)) c.numbers.ensures c.first_in-in_default.ensures)
