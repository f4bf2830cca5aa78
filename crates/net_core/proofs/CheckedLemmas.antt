-- What the laws use of a net follows from the rules that it keeps.
use Rattle.std.proofs.Common.{◌≡◌, ℕ, zero, suc, ◌+◌, ◌<◌, ◌≤◌, ◌⊎◌, ◌||◌, ◌&&◌, ◌==◌, Bool, true, false, cond, Option, Some, None, List, [], ◌∷◌, ◌++◌, length, get_or, refl, sym, ap, subst, ◌∙◌, inl, inr, arith, eqb-true, eq-eqb, ne_eqb}
use Rattle.std.proofs.lemmas.List.{get_or_past}
use Rattle.std.proofs.lemmas.List.Sums.{sum_by-cons}
use Rattle.std.proofs.lemmas.Bool.{cases_eq, cases_lt}
use Rattle.std.specs.List.{All}
use Rattle.el_base.specs.declared.ty.Ty.{Ty}
use Rattle.net_types.specs.declared.net.Port.{Port}
use Rattle.net_types.specs.declared.net.Port.TheVariants.{Load, Store}
use Rattle.net_types.specs.declared.net.Place.{Place}
use Rattle.net_types.specs.declared.net.Chan.{Chan}
use Rattle.net_types.specs.declared.net.Net.{Net}
use Rattle.net_types.specs.declared.net.Unit.{Unit as Kind}
use Rattle.net_types.specs.declared.net.Unit.TheVariants.{Entry, Param, Const, Op1, Op2, Select, Fork, Mux, Cmerge, Branch, Sink, Read, Lsq, Exit}
use Rattle.net_types.specs.Nets.{into, out_of, nowhere, kind_of, chan_at, uses}
use Rattle.net_types.specs.Tables.{Spot, spot, spots, port_ins, port_outs, array_width, result_in, ins, outs, InSpots}
use Rattle.net_check.specs.Checks.{IsChecked}
use Rattle.net_check.specs.Controls.{ctl_in, ctl_out, passes, passes_control}
use Rattle.net_check.specs.Headers.{IsNamed, is_entry, is_exit}
use Rattle.net_check.specs.Ends.{is_lsq, end_place, IsEnd, IsAtExit, IsQueue, EndsWell, end_target, source_of, WalksBack, stops, meets, times_met}
use Rattle.net_core.specs.Fire.{among}
use Rattle.net_core.proofs.Premises.{Steers, Forked, Premises, QueueLaws, end_at, end_unit, met, takes_end}
use Rattle.net_core.proofs.ApartLemmas.{out_of-at, is_at-inv}

-- ---- rows of the table of places

spots_ctl : (p w n q x : ℕ) (c b : Bool) → InSpots (spots p w c n) q x b → b ≡ c
spots_ctl p w zero q x c b h = absurd h
spots_ctl p w (suc n) q x c b (inl e) = sym (ap (λ (s : Spot). s.ctl) e)
spots_ctl p w (suc n) q x c b (inr h) = spots_ctl (suc p) w n q x c b h

spots_below : (p w n q x : ℕ) (c b : Bool) → InSpots (spots p w c n) q x b → q < p + n
spots_below p w zero q x c b h = absurd h
spots_below p w (suc n) q x c b (inl e) = let k : p ≡ q = ap (λ (s : Spot). s.place) e in omega arith
spots_below p w (suc n) q x c b (inr h) = let r = spots_below (suc p) w n q x c b h in omega arith

in_append : (xs ys : List Spot) (q x : ℕ) (b : Bool) → InSpots (xs ++ ys) q x b → InSpots xs q x b ⊎ InSpots ys q x b
in_append [] ys q x b h = inr h
in_append (s ∷ xs) ys q x b (inl e) = inl (inl e)
in_append (s ∷ xs) ys q x b (inr h) = elim (in_append xs ys q x b h) [ inl a ↦ inl (inr a) | inr c ↦ inr c ]

port_outs_ctl : (p w : ℕ) (ps : List Port) (q x : ℕ) (b : Bool) → InSpots (port_outs p w ps) q x b → b ≡ false
port_outs_ctl p w [] q x b h = absurd h
port_outs_ctl p w (Load ∷ ps) q x b (inl e) = sym (ap (λ (s : Spot). s.ctl) e)
port_outs_ctl p w (Load ∷ ps) q x b (inr h) = port_outs_ctl (p + 1) w ps q x b h
port_outs_ctl p w (Store ∷ ps) q x b h = port_outs_ctl (p + 1) w ps q x b h

port_outs_from : (p w : ℕ) (ps : List Port) (q x : ℕ) (b : Bool) → InSpots (port_outs p w ps) q x b → p ≤ q
port_outs_from p w [] q x b h = absurd h
port_outs_from p w (Load ∷ ps) q x b (inl e) = let k : p ≡ q = ap (λ (s : Spot). s.place) e in omega arith
port_outs_from p w (Load ∷ ps) q x b (inr h) = let r = port_outs_from (p + 1) w ps q x b h in omega arith
port_outs_from p w (Store ∷ ps) q x b h = let r = port_outs_from (p + 1) w ps q x b h in omega arith

-- the place p + k of n places from p on, before others
spot_at : (p w n k : ℕ) (c : Bool) (ss : List Spot) (d : Spot) → k < n → get_or (spots p w c n ++ ss) k d ≡ spot (p + k) w c
spot_at p w zero k c ss d l = absurd (omega arith)
spot_at p w (suc n) zero c ss d l = let e : p ≡ p + 0 = omega arith in ap (λ q. spot q w c) e
spot_at p w (suc n) (suc k) c ss d l =
    let e : suc p + k ≡ p + suc k = omega arith in
    spot_at (suc p) w n k c ss d (omega arith) ∙ ap (λ q. spot q w c) e

spots_long : (p w n : ℕ) (c : Bool) (ss : List Spot) → n ≤ length (spots p w c n ++ ss)
spots_long p w zero c ss = omega arith
spots_long p w (suc n) c ss = let r = spots_long (suc p) w n c ss in omega arith

-- ---- control places

module _ (net : Net) (k : IsChecked net) where
  -- the marks of a unit's places in the table are those of its channels
  marked_in : (u : ℕ) (kind : Kind) → kind_of net u ≡ kind → u < length net.units → All (λ (s : Spot). ctl_in net u s.place ≡ s.ctl) (ins net (passes_control net u) kind)
  marked_in u kind is l = subst (λ x. All (λ (s : Spot). ctl_in net u s.place ≡ s.ctl) (ins net (passes_control net u) x)) is (k.c5.units u l).ins

  marked_out : (u : ℕ) (kind : Kind) → kind_of net u ≡ kind → u < length net.units → All (λ (s : Spot). ctl_out net u s.place ≡ s.ctl) (outs net (passes_control net u) kind)
  marked_out u kind is l = subst (λ x. All (λ (s : Spot). ctl_out net u s.place ≡ s.ctl) (outs net (passes_control net u) x)) is (k.c5.units u l).outs

  first_out : (u : ℕ) (kind : Kind) (w : ℕ) (b : Bool) → kind_of net u ≡ kind → u < length net.units → outs net (passes_control net u) kind ≡ spot 0 w b ∷ [] → ctl_out net u 0 ≡ b
  first_out u kind w b is l e = subst (λ ss. All (λ (s : Spot). ctl_out net u s.place ≡ s.ctl) ss) e (marked_out u kind is l) 0 (spot 0 0 false) (omega arith)

  -- an output that is no control place of the table is none of the net
  plain_out : (u p : ℕ) → ((w : ℕ) (b : Bool) → InSpots (outs net (passes_control net u) (kind_of net u)) p w b → b ≡ false) → ctl_out net u p ≡ false
  plain_out u p all = by (cases_lt (out_of u p net.chans) (length net.chans))
    where
      by : (out_of u p net.chans < length net.chans) ⊎ (length net.chans ≤ out_of u p net.chans) → ctl_out net u p ≡ false
      by (inl l) =
          let c = out_of u p net.chans in
          let i = is_at-inv (chan_at net c).from u p (out_of-at u p net.chans l) in
          let P : ℕ → Type 0 = λ x. InSpots (outs net (passes_control net x) (kind_of net x)) (chan_at net c).from.place (chan_at net c).width (chan_at net c).ctl in
          let Q : ℕ → Type 0 = λ x. InSpots (outs net (passes_control net u) (kind_of net u)) x (chan_at net c).width (chan_at net c).ctl in
          all _ _ (subst Q i.1 (subst P i.0 (k.fit.from c l)))
      by (inr l) = ap (λ (c : Chan). c.ctl) (get_or_past net.chans (out_of u p net.chans) nowhere l)

  run_in : (u w n : ℕ) (kind : Kind) (ss : List Spot) → kind_of net u ≡ kind → u < length net.units → ins net (passes_control net u) kind ≡ spots 0 w true n ++ ss
      → (j : ℕ) → j < n → ctl_in net u j ≡ true
  run_in u w n kind ss is l e j m =
      let P : Spot → Type 0 = λ (s : Spot). ctl_in net u s.place ≡ s.ctl in
      let long = spots_long 0 w n true ss in
      let a : P (get_or (spots 0 w true n ++ ss) j (spot 0 0 false)) = subst (λ xs. All P xs) e (marked_in u kind is l) j (spot 0 0 false) (omega arith) in
      let z : 0 + j ≡ j = omega arith in
      subst (λ i. ctl_in net u i ≡ true) z (subst P (spot_at 0 w n j true ss (spot 0 0 false) m) a)

  steers : (u : ℕ) (kind : Kind) → kind_of net u ≡ kind → u < length net.units → Steers kind (ctl_in net u) (ctl_out net u)
  steers u Entry is l = first_out u Entry 32 true is l refl
  steers u (Param j) is l = first_out u (Param j) _ false is l refl
  steers u (Const w n) is l = first_out u (Const w n) w false is l refl
  steers u (Op1 op) is l = first_out u (Op1 op) _ false is l refl
  steers u (Op2 op) is l = first_out u (Op2 op) _ false is l refl
  steers u (Select w) is l = first_out u (Select w) w false is l refl
  steers u (Fork w zero) is l = λ j m. absurd (omega arith)
  steers u (Fork w (suc n)) is l = out
    where
      passed : passes_control net u ≡ ctl_in net u 0
      passed = ap (λ x. passes (ctl_in net u) x) is

      out : (j : ℕ) → j < suc n → ctl_out net u j ≡ ((j == 0) && ctl_in net u 0)
      out zero m = marked_out u (Fork w (suc n)) is l 0 (spot 0 0 false) (omega arith) ∙ passed
      out (suc j) m =
          let P : Kind → Type 0 = λ x. (y : ℕ) (b : Bool) → InSpots (outs net (passes_control net u) x) (suc j) y b → b ≡ false in
          let z : (suc j == 0) ≡ false = ne_eqb (suc j) 0 (λ e. (omega arith)) in
          rw z (plain_out u (suc j) (subst P (sym is) (more j)))
        where
          more : (j y : ℕ) (b : Bool) → InSpots (spot 0 w (passes_control net u) ∷ spots 1 w false n) (suc j) y b → b ≡ false
          more j y b (inl e) = let q : ◌≡◌ {A = ℕ} 0 (suc j) = ap (λ (s : Spot). s.place) e in absurd (omega arith)
          more j y b (inr h) = spots_ctl 1 w n (suc j) y false b h
  steers u (Mux w n) is l = first_out u (Mux w n) w false is l refl
  steers u (Cmerge n) is l = (run_in u 32 n (Cmerge n) [] is l (sym (append_nil (spots 0 32 true n))), first_out u (Cmerge n) 32 true is l refl)
    where
      append_nil : (xs : List Spot) → xs ++ [] ≡ xs
      append_nil [] = refl
      append_nil (x ∷ xs) = ap (λ r. x ∷ r) (append_nil xs)
  steers u (Branch w) is l =
      let passed : passes_control net u ≡ ctl_in net u 1 = ap (λ x. passes (ctl_in net u) x) is in
      let o = marked_out u (Branch w) is l in
      (marked_in u (Branch w) is l 0 (spot 0 0 false) (omega arith), o 0 (spot 0 0 false) (omega arith) ∙ passed, o 1 (spot 0 0 false) (omega arith) ∙ passed)
  steers u (Sink w) is l = tt
  steers u (Read a) is l = first_out u (Read a) _ false is l refl
  steers u (Lsq a d ps gs fw) is l = (
    λ g m. run_in u 32 (suc (length gs)) (Lsq a d ps gs fw) (port_ins (length gs + 1) (array_width net.arrays a) ps) is l refl g (omega arith),
    λ g m. plain_out u g (let P : Kind → Type 0 = λ x. (y : ℕ) (b : Bool) → InSpots (outs net (passes_control net u) x) g y b → b ≡ false in subst P (sym is) (later g m)),
  )
    where
      later : (g : ℕ) → length gs < g → (y : ℕ) (b : Bool) → InSpots (spots 0 32 true (suc (length gs)) ++ port_outs (length gs + 1) (array_width net.arrays a) ps) g y b → b ≡ false
      later g m y b h = elim (in_append (spots 0 32 true (suc (length gs))) (port_outs (length gs + 1) (array_width net.arrays a) ps) g y b h) [
        | inl e ↦ (let r = spots_below 0 32 (suc (length gs)) g y true b e in absurd (omega arith))
        | inr e ↦ port_outs_ctl (length gs + 1) (array_width net.arrays a) ps g y b e
      ]
  steers u Exit is l = marked_in u Exit is l 0 (spot 0 0 false) (omega arith)

  steered : (u : ℕ) → Steers (kind_of net u) (ctl_in net u) (ctl_out net u)
  steered u = by (cases_lt u (length net.units))
    where
      by : (u < length net.units) ⊎ (length net.units ≤ u) → Steers (kind_of net u) (ctl_in net u) (ctl_out net u)
      by (inl l) = steers u (kind_of net u) refl l
      by (inr l) = rw (get_or_past net.units u (Sink 0) l) tt

  -- a channel into a fork goes to its place 0
  forked : Forked net
  forked c u w outs l to is =
      let kind : kind_of net (chan_at net c).to.unit ≡ Fork w outs = ap (kind_of net) to ∙ is in
      let P : Kind → Type 0 = λ x. InSpots (ins net (passes_control net (chan_at net c).to.unit) x) (chan_at net c).to.place (chan_at net c).width (chan_at net c).ctl in
      let p = place (passes_control net (chan_at net c).to.unit) (chan_at net c).to.place (chan_at net c).width (chan_at net c).ctl (subst P kind (k.fit.to c l)) in
      sym (k.to_own c l) ∙ (ap (λ v. into v (chan_at net c).to.place net.chans) to ∙ ap (λ q. into u q net.chans) p)
    where
      place : (m : Bool) (p x : ℕ) (b : Bool) → InSpots (spot 0 w m ∷ []) p x b → p ≡ 0
      place m p x b (inl e) = sym (ap (λ (s : Spot). s.place) e)
      place m p x b (inr h) = absurd h

-- ---- arrays

-- a unit that uses an array names it
named_at : (net : Net) (kind : Kind) (a : ℕ) → IsNamed net kind → uses kind ≡ Some a → a < length net.arrays
named_at net (Read b) a n e = let i : b ≡ a = cc in subst (λ x. x < length net.arrays) i n
named_at net (Lsq b d ps gs fw) a n e = let i : b ≡ a = cc in subst (λ x. x < length net.arrays) i n
named_at net _ a n e = cc

-- ---- the chain of Ends

abbrev bit : Bool → ℕ
bit b = cond b 1 0

-- the place out of an End
end_inv : (kind : Kind) (p : Place) (u : ℕ) → end_at kind p ≡ Some u → (p.unit ≡ u) × (is_lsq kind ≡ true) × (p.place ≡ end_place kind)
end_inv (Lsq a d ps gs fw) p u e = by (p.place == length gs) refl e
  where
    by : (b : Bool) → (p.place == length gs) ≡ b → cond b (Some p.unit) None ≡ Some u → (p.unit ≡ u) × (true ≡ true) × (p.place ≡ length gs)
    by true q i = let j : p.unit ≡ u = cc in (j, refl, eqb-true p.place (length gs) q)
    by false q i = cc
end_inv _ p u e = cc

end_is : (kind : Kind) (p : Place) → is_lsq kind ≡ true → p.place ≡ end_place kind → end_at kind p ≡ Some p.unit
end_is (Lsq a d ps gs fw) p q e = let z : (p.place == length gs) ≡ true = eq-eqb p.place (length gs) e in rw z refl
end_is _ p q e = cc

end_taken : (kind : Kind) (p : ℕ) → is_lsq kind ≡ true → p ≡ end_place kind → takes_end kind p ≡ true
end_taken (Lsq a d ps gs fw) p q e = eq-eqb p (length gs) e
end_taken _ p q e = cc

-- the channel out of an End is control
end_ctl : (net : Net) (m : Bool) (kind : Kind) (p w : ℕ) (b : Bool) → is_lsq kind ≡ true → p ≡ end_place kind → InSpots (outs net m kind) p w b → b ≡ true
end_ctl net m (Lsq a d ps gs fw) p w b q e h =
    elim (in_append (spots 0 32 true (suc (length gs))) (port_outs (length gs + 1) (array_width net.arrays a) ps) p w b h) [
      | inl i ↦ spots_ctl 0 32 (suc (length gs)) p w true b i
      | inr i ↦ (let r = port_outs_from (length gs + 1) (array_width net.arrays a) ps p w b i in absurd (omega arith))
    ]
end_ctl net m _ p w b q e h = cc

result_ctl : (t : Option Ty) (q x : ℕ) (b : Bool) → InSpots (result_in t) q x b → b ≡ false
result_ctl None q x b h = absurd h
result_ctl (Some t) q x b (inl e) = sym (ap (λ (s : Spot). s.ctl) e)
result_ctl (Some t) q x b (inr h) = absurd h

-- a control channel into an exit goes to its place 0
exit_taken : (net : Net) (m : Bool) (kind : Kind) (p w : ℕ) (b : Bool) → is_exit kind ≡ true → b ≡ true → InSpots (ins net m kind) p w b → takes_end kind p ≡ true
exit_taken net m Exit p w b q e (inl i) = eq-eqb p 0 (sym (ap (λ (s : Spot). s.place) i))
exit_taken net m Exit p w b q e (inr h) = let z : true ≡ false = sym e ∙ result_ctl net.result p w b h in cc
exit_taken net m _ p w b q e h = cc

-- the channel out of an End goes on to an End or to the exit
goes_on : (net : Net) → IsChecked net → (c u : ℕ) → c < length net.chans → end_unit net c ≡ Some u → takes_end (kind_of net (chan_at net c).to.unit) (chan_at net c).to.place ≡ true
goes_on net k c u l e = by (k.c6.targets v (record { within = k.within.from c l; queue = w.1 }))
  where
    v : ℕ
    v = (chan_at net c).from.unit

    w : ((chan_at net c).from.unit ≡ u) × (is_lsq (kind_of net (chan_at net c).from.unit) ≡ true) × ((chan_at net c).from.place ≡ end_place (kind_of net (chan_at net c).from.unit))
    w = end_inv (kind_of net (chan_at net c).from.unit) (chan_at net c).from u e

    same : end_target net v ≡ (chan_at net c).to
    same = ap (λ i. (chan_at net i).to) (ap (λ p. out_of (chan_at net c).from.unit p net.chans) (sym w.2) ∙ k.from_own c l)

    control : (chan_at net c).ctl ≡ true
    control = end_ctl net (passes_control net v) (kind_of net v) (chan_at net c).from.place (chan_at net c).width (chan_at net c).ctl w.1 w.2 (k.fit.from c l)

    by : EndsWell net v → takes_end (kind_of net (chan_at net c).to.unit) (chan_at net c).to.place ≡ true
    by (inl i) = let j : IsEnd net (chan_at net c).to = (let P : Place → Type 0 = IsEnd net in subst P same i) in end_taken (kind_of net (chan_at net c).to.unit) (chan_at net c).to.place j.queue j.place
    by (inr i) =
        let j : IsAtExit net (chan_at net c).to = (let P : Place → Type 0 = IsAtExit net in subst P same i) in
        exit_taken net (passes_control net (chan_at net c).to.unit) (kind_of net (chan_at net c).to.unit) (chan_at net c).to.place (chan_at net c).width (chan_at net c).ctl j.exit control (k.fit.to c l)

-- what the walk back meets is met on the way of as many steps
walk_met : (net : Net) (u p : ℕ) (us : List ℕ) (v : ℕ) → WalksBack net u p us → 1 ≤ times_met us v → among v (met net (length us) (into u p net.chans)) ≡ true
walk_met net u p us v (stops a b n) h = absurd (omega arith)
walk_met net u p us v (meets a b ws i w) h =
    let e : end_unit net (into u p net.chans) ≡ Some (source_of net u p).unit = end_is (kind_of net (source_of net u p).unit) (source_of net u p) i.queue i.place in
    rw e (by (cases_eq v (source_of net u p).unit) (λ t. walk_met net (source_of net u p).unit (end_place (kind_of net (source_of net u p).unit)) ws v w t))
  where
    by : (v ≡ (source_of net u p).unit) ⊎ (v ≡ (source_of net u p).unit → ⊥)
        → (1 ≤ times_met ws v → among v (met net (length ws) (into (source_of net u p).unit (end_place (kind_of net (source_of net u p).unit)) net.chans)) ≡ true)
        → (v == (source_of net u p).unit) || among v (met net (length ws) (into (source_of net u p).unit (end_place (kind_of net (source_of net u p).unit)) net.chans)) ≡ true
    by (inl j) rest = let z : (v == (source_of net u p).unit) ≡ true = eq-eqb _ _ j in rw z refl
    by (inr j) rest =
        let z : (v == (source_of net u p).unit) ≡ false = ne_eqb _ _ j in
        let y : ((source_of net u p).unit == v) ≡ false = ne_eqb _ _ (λ k. j (sym k)) in
        let s = sum_by-cons (λ x. bit (x == v)) (source_of net u p).unit ws in
        let o : bit ((source_of net u p).unit == v) ≡ 0 = ap bit y in
        let t : 1 ≤ times_met ws v = omega arith in
        rw z (rest t)

-- on the way back from the exit each queue is met
covers : (net : Net) → IsChecked net → (x u : ℕ) → kind_of net x ≡ Exit → is_lsq (kind_of net u) ≡ true
    → (n : ℕ) × (among u (met net n (into x 0 net.chans)) ≡ true)
covers net k x u kx ku =
    let c = k.c6.walked in
    let e : c.exit ≡ x = k.one_exit.only c.exit c.is_exit ∙ sym (k.one_exit.only x (ap is_exit kx)) in
    let q : IsQueue net u = record { within = within (cases_lt u (length net.units)); queue = ku } in
    let once : times_met k.c6.chain u ≡ 1 = k.c6.each u q in
    let r = walk_met net c.exit 0 k.c6.chain u c.walk (omega arith) in
    (length k.c6.chain, subst (λ y. among u (met net (length k.c6.chain) (into y 0 net.chans)) ≡ true) e r)
  where
    within : (u < length net.units) ⊎ (length net.units ≤ u) → u < length net.units
    within (inl l) = l
    within (inr l) = let z : true ≡ false = sym ku ∙ ap is_lsq (get_or_past net.units u (Sink 0) l) in cc

pub premises_of : (net : Net) → QueueLaws → IsChecked net → Premises net
premises_of net laws k = record {
  alone = λ u v a differ o q. differ (sym (k.alone u v a o q));
  steered = steered net k;
  forked = forked net k;
  one_entry = λ u v h i. k.one_entry.only u (ap is_entry h) ∙ sym (k.one_entry.only v (ap is_entry i));
  named = λ u a e. named_at net (kind_of net u) a (k.named u) e;
  chained = record { goes_on = goes_on net k; covers = covers net k };
  queues = laws;
}
