use Rattle.c_meaning.proofs.ProfileEnds.{values_kept, statements_kept, normal_statements_kept, ends_kept, normal_ends_kept}
use Rattle.c_meaning.proofs.profile_laws.wrapping_keeps_ends.Goals as goal

pub returns : goal.returns
returns c =
    let stays = c.numbers_are_those_of_their_patterns.ensures in
    record {
      values = values_kept stays;
      statements = statements_kept stays;
      kernels = ends_kept stays;
      normal_statements = normal_statements_kept stays;
      normal_forms = normal_ends_kept stays;
    }
