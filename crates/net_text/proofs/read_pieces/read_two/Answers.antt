use Rattle.std.proofs.Common.{◌∙◌}
use Rattle.net_text.specs.Reads.{PairFits, pair_text}
use Rattle.net_text.proofs.ReadLemmas.{none_some, reads_none}
use Rattle.net_text.proofs.Cuts.{pair_cut}
use Rattle.net_text.proofs.read_pieces.read_two.Goals as goal

pub returns-in_err-read_u32 : goal.returns-in_err-read_u32
returns-in_err-read_u32 c = reads_none PairFits (pair_text c.args.separator) c.args.bytes.now _ c.from_residual-in_err-read_u32.ensures (λ p fits e.
    let cut = pair_cut c.args.separator p c.in_ok-first.first.now c.in_ok-first.second.now c.requires fits.0 c.in_ok-first.ensures.1 (e ∙ c.in_ok-first.ensures.0) in
    none_some p.0 (c.in_err-read_u32.ensures.every p.0 fits.0 cut.0))

pub returns-in_err-read_u32-2 : goal.returns-in_err-read_u32-2
returns-in_err-read_u32-2 c = reads_none PairFits (pair_text c.args.separator) c.args.bytes.now _ c.from_residual-in_err-read_u32-2.ensures (λ p fits e.
    let cut = pair_cut c.args.separator p c.in_ok-first.first.now c.in_ok-first.second.now c.requires fits.0 c.in_ok-first.ensures.1 (e ∙ c.in_ok-first.ensures.0) in
    none_some p.1 (c.in_err-read_u32-2.ensures.every p.1 fits.1 cut.1))
