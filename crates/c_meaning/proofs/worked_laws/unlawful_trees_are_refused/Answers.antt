use Rattle.std.proofs.Common.{refl, sym, rules}
use Rattle.std.proofs.lemmas.Bool.{false≢true}
use Rattle.std.specs.Prelude.{pos, codes, [], ◌∷◌}
use Rattle.el_base.specs.declared.ty.Ty.TheVariants.{I32}
use Rattle.el_base.specs.Numbers.{IsInRange}
use Rattle.c_ast.specs.declared.typed.ArrayOf.{ArrayOf}
use Rattle.c_meaning.proofs.TreeRows.{all_rows}
use Rattle.c_meaning.proofs.worked_laws.unlawful_trees_are_refused.Goals as goal

pub returns : goal.returns
unfolding all_rows
returns c =
    let zero_fits : IsInRange I32 (pos 0) = record { above = search rules; below = search rules } in
    let one_fits : IsInRange I32 (pos 1) = record { above = search rules; below = search rules } in
    let two_fits : IsInRange I32 (pos 2) = record { above = search rules; below = search rules } in
    let the_array : ArrayOf = record { name = codes "a"; ty = I32; dims = 4 ∷ 4 ∷ [] } in
    record {
      casts = λ p h. false≢true (sym (h.0 refl));
      sides = λ p h. h.1.0.1;
      parts = λ p h. h.1.1;
      third_part = λ p h. h.1.2;
      first_part = λ p. (
        ((refl, refl, refl), ((the_array, refl, refl, refl), (one_fits, (two_fits, tt))), refl, zero_fits),
        ((tt, (tt, tt)), tt, tt),
      );
      absent_condition = λ p h. h.3;
      returning = λ h. false≢true h.0.0;
      returning_in_do = λ h. false≢true h.1.0;
      returning_in_for = λ h. false≢true h.1.0;
      leaving = λ p h. false≢true h;
      normal_leaving = λ p h. false≢true h;
    }
