use Rattle.std.proofs.Common.{◌<◌, ◌==◌, ◌&&◌, ◌∙◌, List, ℕ, length, get_or, ap, sym, subst}
use Rattle.buffer_place.specs.Timings.{source_delay}
use Rattle.buffer_place.specs.Edges.{sources, targets, is_ahead, staying}
use Rattle.buffer_place.proofs.EdgeLemmas.{sources_within, targets_within}
use Rattle.buffer_place.proofs.levels.source_rows.Goals as goal

pub rows-requires-clause-from : goal.rows-requires-clause-from
rows-requires-clause-from c =
    let net = c.args.net.now in
    let P : List ℕ → Type 0 = λ xs. (e : ℕ) → e < length xs → get_or xs e 0 < length c.as_slice-units.result.now in
    let n = sym (ap length c.as_slice-units.ensures) in
    subst P (sym (c.as_slice.ensures.value ∙ c.in_ok-edges.ensures.to)) (λ e l. subst (λ m. get_or (targets (staying c.args.timing net c.args.marks.now net.chans)) e 0 < m) n (targets_within (length net.units) (λ x. (source_delay c.args.timing net x == 0) && is_ahead c.args.marks.now x) net.chans e c.requires.within.to l))

pub rows-requires-clause-to : goal.rows-requires-clause-to
rows-requires-clause-to c =
    let net = c.args.net.now in
    let P : List ℕ → Type 0 = λ xs. (e : ℕ) → e < length xs → get_or xs e 0 < length c.as_slice-units.result.now in
    let n = sym (ap length c.as_slice-units.ensures) in
    subst P (sym (c.as_slice-2.ensures.value ∙ c.in_ok-edges.ensures.from)) (λ e l. subst (λ m. get_or (sources (staying c.args.timing net c.args.marks.now net.chans)) e 0 < m) n (sources_within (length net.units) (λ x. (source_delay c.args.timing net x == 0) && is_ahead c.args.marks.now x) net.chans e c.requires.within.from l))
