use Rattle.std.proofs.Common.{rules, ◌≡◌, w64, FitsSigned, ◌∙◌, ap}
use Rattle.std.specs.Prelude.{int_div}
use Rattle.std.specs.Int.{int_wrapping_div}
use Rattle.std.proofs.lemmas.Int.{to_z-of_z}
use Rattle.el_base.specs.Numbers.{residue, signed_number}
use Rattle.word_ops.proofs.Words.{word-quotient}
use Rattle.word_ops.proofs.division.signed_quotient.Goals as goal

pub returns : goal.returns
returns c =
    let w = c.args.width in
    let x = c.signed in
    let y = c.signed-2 in
    let q = c.wrapping_div in
    let fits : FitsSigned w64 x.result = record { sfits = x.type_inv } in
    let exact : q.result ≡ int_wrapping_div w64 x.result y.result = q.ensures ∙ (λ i. int_wrapping_div w64 (to_z-of_z w64 x.result fits i) (to_z-of_z w64 y.result (record { sfits = y.type_inv }) i)) in
    let e : c.pattern_of.result ≡ residue w (int_div (signed_number w c.args.a) (signed_number w c.args.b)) =
    c.pattern_of.ensures ∙ ap (residue w) (to_z-of_z w64 q.result (record { sfits = q.type_inv }) ∙ exact) ∙ word-quotient w x.result y.result c.requires.within fits
    ∙ (λ i. residue w (int_div (x.ensures i) (y.ensures i))) in
    search (rules, e)
