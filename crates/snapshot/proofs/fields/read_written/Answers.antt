use Rattle.std.proofs.Common.{◌≡◌, ℕ, false, sym, ap, subst, ◌∙◌, rules, tests, refl}
use Rattle.std.specs.Int.{w128}
use Rattle.std.proofs.lemmas.Bool.{false≢true}
use Rattle.std.proofs.lemmas.Int.{to_z-of_z}
use Rattle.el_base.specs.Numbers.{number, pattern}
use Rattle.net_types.specs.Inputs.{IsPatternOf}
use Rattle.net_text.proofs.ReadLemmas.{reads_none}
use Rattle.inputs_text.specs.Results.{written}
use Rattle.snapshot.proofs.Readers.{no_numeral, other_end, other_form, other_number, own_number}
use Rattle.snapshot.proofs.fields.read_written.Goals as goal
use Rattle.snapshot.proofs.fields.read_written.Goals.{then-number-bytes-via-then-number-bytes, then-number-bytes-via-else-number-bytes+then-not-number}

pub returns-in_err-number : goal.returns-in_err-number
returns-in_err-number c = reads_none (IsPatternOf c.args.ty) (written c.args.ty) c.args.bytes.now _ c.from_residual.ensures (no_numeral c.args.ty c.args.bytes.now (sym c.in_err-number.ensures))

pub returns-then-number-bytes : goal.returns-then-number-bytes
returns-then-number-bytes c =
    elim c.then-number-bytes.branch [
      | then-number-bytes-via-then-number-bytes w ↦ other_end c.args.ty c.args.bytes.now c.in_ok-number.number (sym c.in_ok-number.ensures) (λ e. w.if-number-bytes.true e)
      | then-number-bytes-via-else-number-bytes+then-not-number w ↦ other_form c.args.ty c.args.bytes.now c.in_ok-number.number (sym c.in_ok-number.ensures) (search (rules, tests))
    ]

pub returns-then-is_number : goal.returns-then-is_number
returns-then-is_number c =
    let P : ℕ → Type 0 = λ q. IsPatternOf c.args.ty q × (written c.args.ty q ≡ c.args.bytes.now) in
    let z = to_z-of_z w128 c.in_ok-number.number.value (search (rules, tests)) in
    let p = c.pattern-pattern.ensures ∙ ap (pattern c.args.ty) z in
    subst P (sym p) (own_number c.args.ty c.args.bytes.now c.in_ok-number.number (sym c.in_ok-number.ensures) (search (rules, tests)) (search (rules, tests)) (ap (number c.args.ty) (sym p) ∙ c.if-is_number.ensures.0 refl ∙ z))

pub returns-else-is_number : goal.returns-else-is_number
returns-else-is_number c =
    let z = to_z-of_z w128 c.in_ok-number.number.value (search (rules, tests)) in
    let p = c.pattern-pattern.ensures ∙ ap (pattern c.args.ty) z in
    other_number c.args.ty c.args.bytes.now c.in_ok-number.number (sym c.in_ok-number.ensures) (λ e. false≢true (c.if-is_number.ensures.1 (ap (number c.args.ty) p ∙ e ∙ sym z)))
