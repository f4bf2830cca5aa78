use Rattle.std.proofs.Common.{◌<◌, ◌∷◌, [], ◌++◌, length, sym, ◌∙◌, ap, arith}
use Rattle.elastic_top.specs.Files.{wanted}
use Rattle.elastic_top.proofs.PlanLemmas.{wanted_more}
use Rattle.elastic_top.proofs.reading.files_of.Goals as goal

pub loop-i-preserved : goal.loop-i-preserved
loop-i-preserved c =
    let within : c.loop-i.i < length c.args.words.now = omega (arith, c.requires) in
    c.in_ok-push_file.ensures ∙ ap (λ files. files ++ wanted (c.kind_at.result ∷ []) (c.word_at.result.now ∷ [])) c.loop-i.invariant
    ∙ sym (wanted_more c.loop-i.i c.args.kinds.now c.args.words.now c.kind_at.result c.word_at.result c.loop-i-test.true within c.kind_at.ensures c.word_at.ensures)
