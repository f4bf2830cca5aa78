use Rattle.std.proofs.Common.{◌++◌, ◌∙◌, lit<}
use Rattle.net_text.specs.Reads.{ConstFits, pair_text}
use Rattle.net_text.proofs.ReadLemmas.{none_some, reads_none, after_word}
use Rattle.net_text.proofs.Cuts.{pair_cut, pair_uncut}
use Rattle.net_text.proofs.read_units.const_after.Goals as goal

pub returns-in_err-width : goal.returns-in_err-width
returns-in_err-width c = reads_none ConstFits (λ p. c.args.word.now ++ pair_text 32 p) c.args.text.now _ c.from_residual-in_err-width.ensures (λ p fits e.
    pair_uncut 32 p c.in_ok-after.field-0.now c.in_err-width.ensures (after_word c.args.word.now (pair_text 32 p) c.in_ok-after.field-0.now (e ∙ c.in_ok-after.ensures)))

pub returns-in_err-read_u32 : goal.returns-in_err-read_u32
returns-in_err-read_u32 c = reads_none ConstFits (λ p. c.args.word.now ++ pair_text 32 p) c.args.text.now _ c.from_residual-in_err-read_u32.ensures (λ p fits e.
    let rest = after_word c.args.word.now (pair_text 32 p) c.in_ok-after.field-0.now (e ∙ c.in_ok-after.ensures) in
    let cut = pair_cut 32 p c.in_ok-width.width.now c.in_ok-width.value.now (lit< tt) fits.0 c.in_ok-width.ensures.1 (rest ∙ c.in_ok-width.ensures.0) in
    none_some p.0 (c.in_err-read_u32.ensures.every p.0 fits.0 cut.0))

pub returns-in_err-read_u64 : goal.returns-in_err-read_u64
returns-in_err-read_u64 c = reads_none ConstFits (λ p. c.args.word.now ++ pair_text 32 p) c.args.text.now _ c.from_residual-in_err-read_u64.ensures (λ p fits e.
    let rest = after_word c.args.word.now (pair_text 32 p) c.in_ok-after.field-0.now (e ∙ c.in_ok-after.ensures) in
    let cut = pair_cut 32 p c.in_ok-width.width.now c.in_ok-width.value.now (lit< tt) fits.0 c.in_ok-width.ensures.1 (rest ∙ c.in_ok-width.ensures.0) in
    none_some p.1 (c.in_err-read_u64.ensures.every p.1 fits.1 cut.1))
