use Rattle.std.proofs.Common.{◌≡◌, ◌<◌, ℕ, List, length, get_or, IsTrue, subst, ap, ◌∙◌}
use Rattle.el_base.specs.Words.{is_identifier}
use Rattle.el_base.specs.declared.ty.Array.{Array}
use Rattle.el_base.specs.declared.ty.Scalar.{Scalar}
use Rattle.net_types.specs.declared.net.Net.{Net}
use Rattle.snapshot.specs.Texts.{no_array, no_scalar}
use Rattle.snapshot.proofs.TextLemmas.{only_of}
use Rattle.snapshot.proofs.reader.read_snapshot.Goals as goal

pub returns : goal.returns
returns c = record {
  says = c.read_text.ensures.says;
  only = only_of c.args.net.now c.net-plain.ensures.checked
      (record {
        scalars = subst (λ (xs : List Scalar). (j : ℕ) → j < length xs → IsTrue (is_identifier (get_or xs j no_scalar).name)) (c.as_slice.ensures ∙ ap (λ (n : Net). n.scalars) c.net-plain.ensures.net) c.scalars_are_named.ensures;
        arrays = subst (λ (xs : List Array). (j : ℕ) → j < length xs → IsTrue (is_identifier (get_or xs j no_array).name)) (c.as_slice-2.ensures ∙ ap (λ (n : Net). n.arrays) c.net-plain.ensures.net) c.arrays_are_named.ensures;
      })
      c.args.bytes.now c.read_text.result c.read_text.ensures.says c.read_text.ensures.one;
}
