-- Records of the channels at the first places of units.
use Rattle.std.proofs.Common.{◌≡◌, ℕ, suc, ◌+◌, ◌<◌, ◌≤◌, ◌⊎◌, inl, inr, false, cond, List, [], ◌∷◌, ◌++◌, length, get_or, refl, sym, ap, ◌∙◌, arith, length-append}
use Rattle.std.proofs.lemmas.Bool.{cases_lt}
use Rattle.std.proofs.lemmas.List.{get_or_past}
use Rattle.std.proofs.Math.ListN.{get_or-append}
use Rattle.std.proofs.Math.Seq.{get_or-append_seam}
use Rattle.net_types.specs.declared.net.Chan.{Chan}
use Rattle.net_types.specs.declared.net.Net.{Net}
use Rattle.net_types.specs.Nets.{is_at, nowhere, into, out_of}
use Rattle.net_check.specs.declared.pins.Pins.{Pins}
use Rattle.net_check.specs.declared.wires.Side.{Side}
use Rattle.net_check.specs.declared.wires.Side.TheVariants.{In, Out}
use Rattle.net_check.specs.declared.wires.Wires.{Wires}
use Rattle.net_check.specs.Checks.{IsChecked}
use Rattle.net_check.specs.Pins.{pins_of}
use Rattle.net_check.specs.private.Pinned.{ArePins, AreToldPins, no_pins}
use Rattle.net_check.specs.private.Steers.{IsTableOf}
use Rattle.net_check.specs.private.Wires.{end_of, first_at}
use Rattle.net_check.proofs.Tables.{first-cons, first-nil, not_at}

-- no channel is found past the units where channels end
none_past : (side : Side) (u p n : ℕ) (cs : List Chan) → ((c : ℕ) → c < length cs → (end_of side (get_or cs c nowhere)).unit < n) → n ≤ u → first_at side u p cs ≡ length cs
none_past side u p n [] h l = first-nil side u p
none_past side u p n (c ∷ cs) h l =
    let w : (end_of side c).unit < n = h 0 (omega arith) in
    let b : is_at (end_of side c) u p ≡ false = not_at (end_of side c) u p (λ a d. absurd (omega arith)) in
    first-cons side u p c cs ∙ ap (λ x. cond x 0 (suc (first_at side u p cs))) b ∙ ap (λ m. suc m) (none_past side u p n cs (λ i m. h (suc i) (omega arith)) l)

past_units : (net : Net) (u : ℕ) → IsChecked net → length net.units ≤ u → no_pins (length net.chans) ≡ pins_of u net.chans
past_units net u k l =
    let a : (p : ℕ) → length net.chans ≡ into u p net.chans = λ p. sym (none_past In u p (length net.units) net.chans (λ c m. k.within.to c m) l) in
    let b : (p : ℕ) → length net.chans ≡ out_of u p net.chans = λ p. sym (none_past Out u p (length net.units) net.chans (λ c m. k.within.from c m) l) in
    λ i. record { first = a 0 i; second = a 1 i; third = a 2 i; out = b 0 i }

-- the records of the first n units
pub record ArePinsOf (pins : List Pins) (n : ℕ) (chans : List Chan) : Type 0 where
  pub long : length pins ≡ n
  pub each : (u : ℕ) → u < n → get_or pins u (no_pins (length chans)) ≡ pins_of u chans

told_pins : (net : Net) (i o : Wires) (u : ℕ) (p : Pins) → IsTableOf In net i → IsTableOf Out net o → AreToldPins i o u p → p ≡ pins_of u net.chans
told_pins net i o u p ti to r =
    let a : p.first ≡ into u 0 net.chans = r.first ∙ ti.tells u 0 in
    let b : p.second ≡ into u 1 net.chans = r.second ∙ ti.tells u 1 in
    let c : p.third ≡ into u 2 net.chans = r.third ∙ ti.tells u 2 in
    let d : p.out ≡ out_of u 0 net.chans = r.out ∙ to.tells u 0 in
    λ j. record { first = a j; second = b j; third = c j; out = d j }

pub no_record : (chans : List Chan) → ArePinsOf [] 0 chans
no_record chans = record { long = refl; each = λ u l. absurd (omega arith) }

pub next_record : (net : Net) (i o : Wires) (ps : List Pins) (n : ℕ) (p : Pins) → IsTableOf In net i → IsTableOf Out net o → AreToldPins i o n p → ArePinsOf ps n net.chans
    → ArePinsOf (ps ++ p ∷ []) (n + 1) net.chans
next_record net i o ps n p ti to r k = record { long = length-append ps (p ∷ []) ∙ (let e = k.long in omega arith); each = λ u l. at u l (cases_lt u n) }
  where
    at : (u : ℕ) → u < n + 1 → (u < n) ⊎ (n ≤ u) → get_or (ps ++ p ∷ []) u (no_pins (length net.chans)) ≡ pins_of u net.chans
    at u l (inl m) = get_or-append ps (p ∷ []) (no_pins (length net.chans)) u (let e = k.long in omega arith) ∙ k.each u m
    at u l (inr m) =
        let e : u ≡ length ps = (let e = k.long in omega arith) in
        let f : u ≡ n = omega arith in
        ap (λ x. get_or (ps ++ p ∷ []) x (no_pins (length net.chans))) e ∙ get_or-append_seam ps p [] (no_pins (length net.chans)) ∙ told_pins net i o n p ti to r ∙ ap (λ x. pins_of x net.chans) (sym f)

pub all_records : (net : Net) (ps : List Pins) (n : ℕ) → IsChecked net → length net.units ≤ n → ArePinsOf ps n net.chans → ArePins ps net.chans
all_records net ps n k s t = record { tells = λ u. at u (cases_lt u n) }
  where
    at : (u : ℕ) → (u < n) ⊎ (n ≤ u) → get_or ps u (no_pins (length net.chans)) ≡ pins_of u net.chans
    at u (inl l) = t.each u l
    at u (inr l) = get_or_past ps u (no_pins (length net.chans)) (let e = t.long in omega arith) ∙ past_units net u k (omega arith)
