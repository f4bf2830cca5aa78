use Rattle.std.proofs.Common.{◌%◌, ◌^◌, ◌*◌, ◌-◌, w64, refl, ◌∙◌}
use Rattle.std.proofs.lemmas.Int.{to_z-of_z}
use Rattle.word_ops.proofs.Words.{read_high}
use Rattle.word_ops.proofs.reading.signed.Goals as goal

pub returns-else-a-half : goal.returns-else-a-half
returns-else-a-half c =
    let r = c.cast_signed-else-a-half in
    to_z-of_z w64 r.result (record { sfits = r.type_inv }) ∙ r.ensures
    ∙ read_high c.args.width c.args.a (1 * 2 ^ (c.args.width - 1) % 2 ^ 64) c.requires.some c.requires.within c.requires.pattern refl c.if-a-half.false
