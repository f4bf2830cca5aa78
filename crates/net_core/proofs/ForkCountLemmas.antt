-- A send of a fork does not raise the count of control tokens.
use Rattle.std.proofs.Common.{◌≡◌, ◌≢◌, ℕ, ◌+◌, ◌-◌, ◌<◌, ◌≤◌, ◌⊎◌, ◌&&◌, ◌==◌, not, Bool, true, false, cond, Some, None, List, [], ◌∷◌, length, map, get_or, set, refl, sym, ap, ◌∙◌, inl, inr, arith, nat_lt, ltb-true, eq-eqb, ne_eqb, get_or-set_other, get_or-set_same}
use Rattle.std.proofs.lemmas.Bool.{cases_eq, and_parts, not-true}
use Rattle.std.specs.List.{list_all}
use Rattle.net_types.specs.declared.net.Unit.{Unit as Kind}
use Rattle.net_types.specs.declared.net.Unit.TheVariants.{Fork}
use Rattle.net_types.specs.declared.net.Net.{Net}
use Rattle.net_types.specs.Nets.{into, chan_at, kind_of}
use Rattle.net_check.specs.Controls.{ctl_in, ctl_out}
use Rattle.net_core.specs.Fire.{Effect, among, State, Own, idle, tokens_at, head_at, takes_from, puts_on, moved, applied, sent_to}
use Rattle.net_core.specs.Control.{total, early, held, to_come, coming, control_tokens}
use Rattle.net_core.proofs.Premises.{Steers, Forked}
use Rattle.net_core.proofs.RowLemmas.{Has, Each, get-changed}
use Rattle.net_core.proofs.ApartLemmas.{into-at, is_at-inv, full, some_first}
use Rattle.net_core.proofs.ForkLemmas.{send_eff}
use Rattle.net_core.proofs.TotalLemmas.{total_step, total_mark, total_zero, total_le}
use Rattle.net_core.proofs.CountLemmas.{count, one_if, length_moved, goes_to, channel_step, early_other, got, got_none, got_mark, coming_step, ctl_within}

bit_some : (xs : List Bool) → get_or xs 0 true ≡ false → (0 < length xs) × (get_or xs 0 false ≡ false)
bit_some [] h = cc
bit_some (x ∷ xs) h = (omega arith, h)

bit_cleared : (xs : List Bool) → get_or (map (λ b. false) xs) 0 false ≡ false
bit_cleared [] = refl
bit_cleared (x ∷ xs) = refl

abbrev bit : List Bool → ℕ
bit xs = cond (get_or xs 0 false) 1 0

bit_le : (b : Bool) → one_if b ≤ 1
bit_le true = omega arith
bit_le false = omega arith

-- the bit of output 0 over a send on j
bits_zero : (b : Bool) (xs : List Bool) (j l l' a : ℕ) → j ≡ 0 → get_or xs j true ≡ false → l' + one_if b ≡ l + a → 1 ≤ l
    → (l' - bit (cond b (map (λ b. false) (set xs j true)) (set xs j true))) + 1 ≤ (l - bit xs) + a
bits_zero b xs j l l' a jz n h g =
    let n0 : get_or xs 0 true ≡ false = rw jz at n in
    let w = bit_some xs n0 in by b w.0 w.1 h
  where
    by : (b : Bool) → 0 < length xs → get_or xs 0 false ≡ false → l' + one_if b ≡ l + a
        → (l' - bit (cond b (map (λ b. false) (set xs j true)) (set xs j true))) + 1 ≤ (l - bit xs) + a
    by true p z h = let y = bit_cleared (set xs j true) in rw (y, z) (omega arith)
    by false p z h =
        let y : get_or (set xs 0 true) 0 false ≡ true = get_or-set_same xs 0 true false p in
        let y' : get_or (set xs j true) 0 false ≡ true = rw jz y in rw (y', z) (omega arith)

bits_other : (b : Bool) (xs : List Bool) (j l l' a : ℕ) → 0 ≢ j → l' + one_if b ≡ l + a → 1 ≤ l
    → (l' - bit (cond b (map (λ b. false) (set xs j true)) (set xs j true))) + 0 ≤ (l - bit xs) + a
bits_other true xs j l l' a n h g =
    let y = bit_cleared (set xs j true) in let m = bit_le (get_or xs 0 false) in rw y (omega arith)
bits_other false xs j l l' a n h g =
    let y : get_or (set xs j true) 0 false ≡ get_or xs 0 false = get_or-set_other xs j 0 true false n in rw y (let m = bit_le (get_or xs 0 false) in omega arith)

module _ (net : Net) (s : State) (u wd outs j v : ℕ) (xs : List ℕ) where
  abbrev fown : Own
  fown = get_or s.own u idle

  abbrev feff : Effect
  feff = send_eff j fown xs v

  abbrev full_bits : Bool
  full_bits = list_all (λ b. b) (set fown.sent j true)

  -- what a send pays at the fork's own channel
  abbrev due : ℕ
  due = one_if ((j == 0) && ctl_in net u 0)

  fork_heads : head_at net s u 0 ≡ Some v → Each (Has (head_at net s u)) feff.takes
  fork_heads h = by full_bits
    where
      by : (b : Bool) → Each (Has (head_at net s u)) (cond b (0 ∷ []) [])
      by true = ((v, h), tt)
      by false = tt

  own_channel : kind_of net u ≡ Fork wd outs → length s.tokens ≡ length net.chans → u < length s.own → (nat_lt j outs && not (get_or fown.sent j true)) ≡ true → head_at net s u 0 ≡ Some v
      → (c : ℕ) → c < length net.chans → c ≡ into u 0 net.chans → (chan_at net c).to.unit ≡ u
      → held net (applied net u feff s) c + due ≤ held net s c + got net u feff c
  own_channel is long lu ok h c l at to = by (chan_at net c).ctl refl
    where
      g_is : takes_from net u feff c ≡ full_bits
      g_is = all full_bits
        where
          all : (b : Bool) → among c (map (λ p. into u p net.chans) (cond b (0 ∷ []) [])) ≡ b
          all true = let k : (c == into u 0 net.chans) ≡ true = eq-eqb c _ at in rw k refl
          all false = refl

      bits_step : (l l' a : ℕ) → l' + one_if full_bits ≡ l + a → 1 ≤ l → (chan_at net c).ctl ≡ true
          → (l' - bit (sent_to j fown.sent)) + due ≤ (l - bit fown.sent) + a
      bits_step l l' a e p n = way (cases_eq j 0)
        where
          unset : get_or fown.sent j true ≡ false
          unset = not-true _ (and_parts (nat_lt j outs) _ ok).1

          way : (j ≡ 0) ⊎ (j ≡ 0 → ⊥) → (l' - bit (sent_to j fown.sent)) + due ≤ (l - bit fown.sent) + a
          way (inl z) =
              let c_in : ctl_in net u 0 ≡ true = rw at at n in
              let k : (j == 0) ≡ true = eq-eqb j 0 z in
              rw (k, c_in) (bits_zero full_bits fown.sent j l l' a z unset e p)
          way (inr z) =
              let k : (j == 0) ≡ false = ne_eqb j 0 z in
              rw k (bits_other full_bits fown.sent j l l' a (λ e. z (sym e)) e p)

      by : (b : Bool) → (chan_at net c).ctl ≡ b → held net (applied net u feff s) c + due ≤ held net s c + got net u feff c
      by false n =
          let c_in : ctl_in net u 0 ≡ false = rw at at n in
          rw (n, c_in) (none (j == 0))
        where
          none : (b : Bool) → 0 + one_if (b && false) ≤ 0 + 0
          none true = omega arith
          none false = omega arith
      by true n =
          let t = applied net u feff s in
          let v' = (chan_at net c).to.unit in
          let tok : tokens_at t c ≡ moved net u feff c (tokens_at s c) = get-changed (moved net u feff) 0 s.tokens c c (omega arith) (omega arith) in
          let e' : early (kind_of net v') (get_or t.own v' idle) ≡ bit (sent_to j fown.sent) =
          ap (λ w. early (kind_of net w) (get_or t.own w idle)) to ∙ (ap (λ k. early k (get_or t.own u idle)) is ∙ ap (early (Fork wd outs)) (get_or-set_same s.own u feff.own idle lu)) in
          let e0 : early (kind_of net v') (get_or s.own v' idle) ≡ bit fown.sent =
          ap (λ w. early (kind_of net w) (get_or s.own w idle)) to ∙ ap (λ k. early k (get_or s.own u idle)) is in
          let some : 1 ≤ length (tokens_at s c) = rw at (some_first (tokens_at s (into u 0 net.chans)) v h) in
          let m = length_moved (takes_from net u feff c) (puts_on net u feff.put c) (tokens_at s c) (full net s u c c feff.takes refl (fork_heads h)) in
          let m' : length (moved net u feff c (tokens_at s c)) + one_if full_bits ≡ length (tokens_at s c) + count (puts_on net u feff.put c) = (let gi : one_if (takes_from net u feff c) ≡ one_if full_bits = ap one_if g_is in omega arith) in
          rw (n, tok, e', e0) (bits_step (length (tokens_at s c)) (length (moved net u feff c (tokens_at s c))) (count (puts_on net u feff.put c)) m' some n)

  fork_channel : Forked net → kind_of net u ≡ Fork wd outs → length s.tokens ≡ length net.chans → u < length s.own → (nat_lt j outs && not (get_or fown.sent j true)) ≡ true → head_at net s u 0 ≡ Some v
      → (c : ℕ) → c < length net.chans
      → held net (applied net u feff s) c + cond (c == into u 0 net.chans) due 0 ≤ held net s c + got net u feff c
  fork_channel forked is long lu ok h c l = by (cases_eq (chan_at net c).to.unit u)
    where
      by : ((chan_at net c).to.unit ≡ u) ⊎ ((chan_at net c).to.unit ≡ u → ⊥)
          → held net (applied net u feff s) c + cond (c == into u 0 net.chans) due 0 ≤ held net s c + got net u feff c
      by (inl to) =
          let at = forked c u wd outs l to is in
          let k : (c == into u 0 net.chans) ≡ true = eq-eqb c _ at in
          let r = own_channel is long lu ok h c l at to in
          rw k r
      by (inr n) =
          let k : (c == into u 0 net.chans) ≡ false = ne_eqb c _ (λ at. n (let z = is_at-inv (chan_at net (into u 0 net.chans)).to u 0 (into-at u 0 net.chans (omega arith)) in rw at z.0)) in
          let r = channel_step net s u feff None c long l (fork_heads h) tt (early_other net s u feff (chan_at net c).to.unit n)
          (λ g. absurd (n (goes_to net s u c feff l (fork_heads h) g))) in
          rw k r

  -- no send of a fork raises the count
  pub fork_count : Forked net → Steers (Fork wd outs) (ctl_in net u) (ctl_out net u) → kind_of net u ≡ Fork wd outs → length s.tokens ≡ length net.chans → length s.own ≡ length net.units → u < length s.own
      → (nat_lt j outs && not (get_or fown.sent j true)) ≡ true → head_at net s u 0 ≡ Some v
      → control_tokens net (applied net u feff s) ≤ control_tokens net s
  fork_count forked steers is long owned lu ok h =
      let a = total_step (held net s) (held net (applied net u feff s)) (λ c. cond (c == into u 0 net.chans) due 0) (got net u feff) (length net.chans)
      (λ c l. fork_channel forked is long lu ok h c l) in
      let b = coming_step net s u 0 feff owned (omega arith) (same (kind_of net u) is) in
      by (j == 0 && ctl_in net u 0) refl a b
    where
      same : (k : Kind) → k ≡ Fork wd outs → 0 + to_come k feff.own ≤ to_come k fown
      same k e = rw e (omega arith)

      by : (d : Bool) → (j == 0 && ctl_in net u 0) ≡ d
          → total (held net (applied net u feff s)) (length net.chans) + total (λ c. cond (c == into u 0 net.chans) due 0) (length net.chans) ≤ total (held net s) (length net.chans) + total (got net u feff) (length net.chans)
          → total (coming net (applied net u feff s)) (length net.units) + 0 ≤ total (coming net s) (length net.units)
          → control_tokens net (applied net u feff s) ≤ control_tokens net s
      by true e a b =
          let w = and_parts (j == 0) (ctl_in net u 0) e in
          let t = total_mark (into u 0 net.chans) due (length net.chans) (ctl_within net.chans (into u 0 net.chans) w.1) in
          let d1 : due ≡ 1 = ap one_if e in
          let z = got_mark net u feff feff.put refl in
          omega arith
      by false e a b =
          let lj : j < outs = ltb-true _ _ (and_parts (nat_lt j outs) _ ok).0 in
          let q : ctl_out net u j ≡ false = steers j lj ∙ e in
          let z = total_le (λ c. 0) (got net u feff) (length net.chans) (λ c. (let k = got_none net u feff (λ w i. (let p : j ≡ w.place = cc in rw (← p) q)) c in omega arith)) in
          let zz = total_zero (length net.chans) in
          omega arith
