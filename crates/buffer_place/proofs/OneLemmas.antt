-- By a timing a net is placed in one way.
use Rattle.std.proofs.Common.{◌≡◌, ◌⊎◌, ℕ, zero, suc, ◌+◌, ◌*◌, ◌<◌, ◌≤◌, ◌==◌, cond, length, inl, inr, sym, ap, subst, ◌∙◌, arith}
use Rattle.std.specs.Prelude.{nat_le, Option, Some, None}
use Rattle.std.proofs.lemmas.Bool.{cases_eq, cases_lt}
use Rattle.std.proofs.lemmas.List.{ext_get_or}
use Rattle.std.proofs.Math.Nat.{mul-le-mul}
use Rattle.el_base.specs.Limits.{max_sum_of_slots}
use Rattle.net_types.specs.declared.net.Chan.{Chan}
use Rattle.net_types.specs.declared.net.Net.{Net}
use Rattle.net_types.specs.Nets.{nowhere, kind_of, chan_at}
use Rattle.net_check.specs.Retimed.{untimed, plain, SamePlain}
use Rattle.buffer_place.specs.declared.timing.Timing.{Timing}
use Rattle.buffer_place.specs.Timings.{source_delay}
use Rattle.buffer_place.specs.Chains.{weight}
use Rattle.buffer_place.specs.Placing.{classed, LiesOnCycle, IsFeedback, MayStay, AreMostSlots, AreUsualDelays, AreDepthDelays, AreDelays, IsPlaced, PlacementsAreOne}
use Rattle.buffer_place.proofs.DepthLemmas.{GoesThrough, weights_same, many_same, ends_same, crosses, is_instant}

-- ---- slots

fewer_slots : (wanted n s u : ℕ) → AreMostSlots wanted n s → AreMostSlots wanted n u → s < u → ⊥
fewer_slots wanted n s u a b l = by a.most
  where
    by : (s ≡ wanted) ⊎ (max_sum_of_slots < n * (s + 1)) → ⊥
    by (inl e) = let f = b.few in omega arith
    by (inr m) =
        let h : n * (s + 1) ≤ n * u = mul-le-mul (omega arith) (omega arith) in
        let t = b.together in
        omega arith

slots_one : (wanted n s u : ℕ) → AreMostSlots wanted n s → AreMostSlots wanted n u → s ≡ u
slots_one wanted n s u a b = elim (cases_lt s u) [
  | inl l ↦ absurd (fewer_slots wanted n s u a b l)
  | inr ge ↦ elim (cases_lt u s) [
    | inl l ↦ absurd (fewer_slots wanted n u s b a l)
    | inr le ↦ omega arith
  ]
]

-- ---- usual delays

usual_one : (t : Timing) (old m n : Net) → AreUsualDelays t old m → AreUsualDelays t old n → (c : ℕ) → c < length old.chans → (chan_at m c).delay ≡ (chan_at n c).delay
usual_one t old m n a b c l = elim (cases_eq (chan_at m c).delay (chan_at n c).delay) [
  | inl e ↦ e
  | inr other ↦ absurd (
      let off : LiesOnCycle (classed t old) c → ⊥ = λ on. other (a.on_cycle c on ∙ sym (b.on_cycle c on)) in
      other (a.off_cycle c l off ∙ sym (b.off_cycle c l off)))
]

-- ---- delays by a depth

module _ (t : Timing) (depth : ℕ) (old : Net) where
  -- where the levels of all units before one are the same, so is its level
  level_le : (m n : Net) → SamePlain old m → SamePlain old n → (a : AreDepthDelays t depth old m) (b : AreDepthDelays t depth old n)
      → (u : ℕ) → ((c : ℕ) → MayStay t old c → (chan_at old c).to.unit ≡ u → a.level (chan_at old c).from.unit ≡ b.level (chan_at old c).from.unit) → a.level u ≤ b.level u
  level_le m n sm sn a b u before = elim (a.levels.least u) [
    | inl e ↦ omega (arith, e, b.levels.own u, weights_same old m sm u, weights_same old n sn u)
    | inr o ↦ (
        let h = crosses t depth a.level old m sm a.delays o.source u o.chan o.instant in
        let x = chan_at old o.chan in
        let e : a.level x.from.unit ≡ b.level x.from.unit = before o.chan (record { within = h.within; class = h.through.class; ahead = h.free }) h.target in
        let g : GoesThrough t depth b.level old x = record { class = h.through.class; few = omega (arith, e, h.through.few) } in
        let i = is_instant t depth b.level old n sn b.delays o.source u o.chan (record { within = h.within; free = h.free; through = g; source = h.source; target = h.target }) in
        let f : a.level o.source ≡ b.level o.source = subst (λ k. a.level k ≡ b.level k) h.source e in
        omega (arith, o.is, f, b.levels.over o.source u o.chan i, weights_same old m sm u, weights_same old n sn u))
  ]

  module _ (m n : Net) (sm : SamePlain old m) (sn : SamePlain old n) (a : AreDepthDelays t depth old m) (b : AreDepthDelays t depth old n) where
    levels_before : (k u : ℕ) → a.order u < k → a.level u ≡ b.level u
    levels_before zero u l = absurd (omega arith)
    levels_before (suc k) u l =
        let before : (c : ℕ) → MayStay t old c → (chan_at old c).to.unit ≡ u → a.level (chan_at old c).from.unit ≡ b.level (chan_at old c).from.unit =
        λ c s e. levels_before k (chan_at old c).from.unit (let r = a.rising c s in omega (arith, ap a.order e)) in
        let p = level_le m n sm sn a b u before in
        let q = level_le n m sn sm b a u (λ c s e. sym (before c s e)) in
        omega arith

    depth_one : (c : ℕ) → c < length old.chans → (chan_at m c).delay ≡ (chan_at n c).delay
    depth_one c l = elim (cases_eq (chan_at m c).delay (chan_at n c).delay) [
      | inl e ↦ e
      | inr other ↦ absurd (
          let x = chan_at old c in
          let ahead : IsFeedback t old c → ⊥ = λ f. other (a.delays.feedback c f ∙ sym (b.delays.feedback c f)) in
          let e : a.level x.from.unit ≡ b.level x.from.unit = levels_before (suc (a.order x.from.unit)) x.from.unit (omega arith) in
          let P : ℕ → ℕ = λ y. cond (source_delay t old x == 0) (cond (nat_le (y + weight (kind_of old x.to.unit)) depth) 0 1) (source_delay t old x) in
          other (a.delays.other c l ahead ∙ ap P e ∙ sym (b.delays.other c l ahead)))
    ]

-- ---- nets

delays_one : (t : Timing) (old m n : Net) → SamePlain old m → SamePlain old n → (d : Option ℕ) → AreDelays t d old m → AreDelays t d old n
    → (c : ℕ) → c < length old.chans → (chan_at m c).delay ≡ (chan_at n c).delay
delays_one t old m n sm sn None a b = usual_one t old m n a b
delays_one t old m n sm sn (Some depth) a b = depth_one t depth old m n sm sn a b

same_chan : (x y : Chan) → untimed x ≡ untimed y → x.slots ≡ y.slots → x.delay ≡ y.delay → x ≡ y
same_chan x y e s d = λ i. record { from = (e i).from; to = (e i).to; width = (e i).width; slots = s i; delay = d i; ctl = (e i).ctl }

module _ (t : Timing) (old m n : Net) (a : IsPlaced t old m) (b : IsPlaced t old n) where
  plain_one : plain m ≡ plain n
  plain_one = a.same ∙ sym b.same

  many : length m.chans ≡ length n.chans
  many = many_same old m a.same ∙ sym (many_same old n b.same)

  chans_one : m.chans ≡ n.chans
  chans_one = ext_get_or nowhere m.chans n.chans many each
    where
      each : (c : ℕ) → c < length m.chans → chan_at m c ≡ chan_at n c
      each c l =
          let l2 : c < length n.chans = subst (λ x. c < x) many l in
          let l3 : c < length old.chans = subst (λ x. c < x) (many_same old m a.same) l in
          let ends : untimed (chan_at m c) ≡ untimed (chan_at n c) = ends_same old m a.same c l3 ∙ sym (ends_same old n b.same c l3) in
          let slots : (chan_at m c).slots ≡ (chan_at n c).slots =
          a.each c nowhere l ∙ slots_one t.slots (length old.chans) a.slots b.slots a.most b.most ∙ sym (b.each c nowhere l2) in
          same_chan (chan_at m c) (chan_at n c) ends slots (delays_one t old m n a.same b.same t.depth a.delays b.delays c l3)

  placed_one : m ≡ n
  placed_one = λ i. record {
    name = (plain_one i).name;
    scalars = (plain_one i).scalars;
    arrays = (plain_one i).arrays;
    result = (plain_one i).result;
    units = (plain_one i).units;
    chans = chans_one i;
  }

pub placements_one : PlacementsAreOne
placements_one = placed_one
