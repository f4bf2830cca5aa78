-- Nets that are equal but for slots and delays, the first with one slot a channel.
use Rattle.std.proofs.Common.{◌≡◌, ℕ, zero, suc, ◌<◌, List, [], ◌∷◌, length, get_or, map, ap, subst, arith}
use Rattle.std.specs.Prelude.{All}
use Rattle.std.proofs.lemmas.List.{length-map}
use Rattle.std.proofs.lemmas.List.Elements.{All-head, All-tail, All-weaker}
use Rattle.net_types.specs.declared.net.Chan.{Chan}
use Rattle.net_types.specs.declared.net.Net.{Net}
use Rattle.net_types.specs.declared.firing.Inputs.{Inputs}
use Rattle.net_types.specs.Inputs.{InputsFit}
use Rattle.net_types.specs.Nets.{nowhere, kind_of}
use Rattle.net_check.specs.Retimed.{untimed, plain, SamePlain}
use Rattle.net_core.specs.Laws.{HasSlotsOf}
use Rattle.circuit_build.specs.Laws.{OneSlot}

abbrev IsOne : Chan → Type 0
IsOne c = (c.slots ≡ 1) × (c.delay ≡ 1)

pub one_slots : (net : Net) → OneSlot net → All (λ (c : Chan). c.slots ≡ 1) net.chans
one_slots net h = All-weaker IsOne (λ (c : Chan). c.slots ≡ 1) (λ c one. one.0) net.chans h

one_within : (cs : List Chan) (c : ℕ) → All IsOne cs → c < length cs → 0 < (get_or cs c nowhere).slots
one_within [] c h l = absurd (omega arith)
one_within (x ∷ cs) zero h l = let e = (All-head IsOne x cs h).0 in omega arith
one_within (x ∷ cs) (suc c) h l = one_within cs c (All-tail IsOne x cs h) (omega arith)

slots_within : (cs : List Chan) (c : ℕ) → 0 < (get_or cs c nowhere).slots → c < length cs
slots_within [] c h = absurd (omega arith)
slots_within (x ∷ cs) zero h = omega arith
slots_within (x ∷ cs) (suc c) h = let r = slots_within cs c h in omega arith

module _ (net net2 : Net) (same : SamePlain net net2) where
  pub kinds_same : (u : ℕ) → kind_of net2 u ≡ kind_of net u
  kinds_same u = ap (λ (n : Net). kind_of n u) same

  pub chans_same : length net2.chans ≡ length net.chans
  chans_same =
      let e : length (map untimed net2.chans) ≡ length (map untimed net.chans) = ap (λ (n : Net). length n.chans) same in
      omega (arith, length-map net2.chans untimed, length-map net.chans untimed)

  pub fits_same : (i : Inputs) → InputsFit net2 i → InputsFit net i
  fits_same i h =
      let a : InputsFit (plain net2) i = record { scalars = h.scalars; arrays = h.arrays } in
      let b : InputsFit (plain net) i = subst (λ n. InputsFit n i) same a in
      record { scalars = b.scalars; arrays = b.arrays }

pub has_slots : (net net2 : Net) → OneSlot net → SamePlain net net2 → HasSlotsOf net net2
has_slots net net2 one same c h =
    let a = slots_within net2.chans c h in
    one_within net.chans c one (omega (arith, chans_same net net2 same))
