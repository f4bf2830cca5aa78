-- What a net that keeps the eight rules has, channel by channel, place by place and unit by unit.
use Rattle.std.proofs.Common.{◌≡◌, ◌⊎◌, inl, inr, ℕ, zero, suc, ◌+◌, ◌<◌, ◌≤◌, Bool, true, false, Some, List, [], ◌∷◌, length, get_or, take, subst, sym, ap, refl, ◌∙◌, arith, eq-eqb}
use Rattle.std.specs.List.{All, count_by}
use Rattle.std.proofs.lemmas.Bool.{cases_lt}
use Rattle.std.proofs.lemmas.List.Elements.{All-head, All-tail}
use Rattle.net_types.specs.declared.net.Place.{Place}
use Rattle.net_types.specs.declared.net.Net.{Net}
use Rattle.net_types.specs.declared.net.Unit.{Unit as Kind}
use Rattle.net_types.specs.declared.net.Unit.TheVariants.{Fork, Sink, Read, Lsq, Exit}
use Rattle.net_types.specs.Nets.{kind_of, chan_at, nowhere, into, out_of, uses, owns}
use Rattle.net_types.specs.Tables.{Spot, spot, ins, outs, InSpots}
use Rattle.net_types.specs.Rules.{KeepsC1, KeepsC2, HasWidth}
use Rattle.net_check.specs.Headers.{KeepsC8, IsNamed, is_entry, is_exit, is_param, is_queue, is_read}
use Rattle.net_check.specs.Shapes.{KeepsC7, HasShape}
use Rattle.net_check.specs.Sizes.{KeepsC3}
use Rattle.net_check.specs.Cycles.{KeepsC4}
use Rattle.net_check.specs.Controls.{KeepsC5, ctl_in, ctl_out, passes_control}
use Rattle.net_check.specs.Ends.{KeepsC6}
use Rattle.net_types.specs.Numbered.{AreNumbered}
use Rattle.net_check.specs.private.Steers.{HasMark, Marked}
use Rattle.net_check.specs.private.Bases.{KeepsBase}
use Rattle.net_check.proofs.BoundLemmas.{all_numbered}
use Rattle.net_check.specs.Checks.{EndsFit, EndsWithin, EachOnce, HasOne, IsChecked}
use Rattle.net_check.proofs.WiredLemmas.{from_within, to_within, to_own, from_own, into_each, out_of_each}
use Rattle.net_check.proofs.TallyLemmas.{one_if, count_more, count_some, whole}
use Rattle.net_check.proofs.Breaks.{two}

-- rows of the table: widths do not turn on what a unit passes

width_passed_in : (net : Net) (m n : Bool) (k : Kind) (p w : ℕ) → HasWidth (ins net m k) p w → HasWidth (ins net n k) p w
width_passed_in net m n Exit p w h = h
width_passed_in net m n _ p w h = h

width_passed_out : (net : Net) (m n : Bool) (k : Kind) (p w : ℕ) → HasWidth (outs net m k) p w → HasWidth (outs net n k) p w
width_passed_out net m n (Fork v zero) p w h = h
width_passed_out net m n (Fork v (suc c)) p w h = h
width_passed_out net m n _ p w h = h

-- a place of some width has that width and a mark, and the other way round

record HasSpot (ss : List Spot) (p w : ℕ) : Type 0 where
  mark : Bool
  here : InSpots ss p w mark

spot_of : (ss : List Spot) (p w : ℕ) → HasWidth ss p w → HasSpot ss p w
spot_of [] p w h = absurd h
spot_of (s ∷ ss) p w (inl h) = record { mark = s.ctl; here = inl (whole_spot s p w h.0 h.1) }
  where
    whole_spot : (s : Spot) (p w : ℕ) → s.place ≡ p → s.width ≡ w → s ≡ spot p w s.ctl
    whole_spot s p w e f = ap (λ x. spot x s.width s.ctl) e ∙ ap (λ x. spot p x s.ctl) f
spot_of (s ∷ ss) p w (inr h) = let r = spot_of ss p w h in record { mark = r.mark; here = inr r.here }

width_of : (ss : List Spot) (p w : ℕ) (b : Bool) → InSpots ss p w b → HasWidth ss p w
width_of [] p w b h = absurd h
width_of (s ∷ ss) p w b (inl h) = inl (ap (λ (x : Spot). x.place) h, ap (λ (x : Spot). x.width) h)
width_of (s ∷ ss) p w b (inr h) = inr (width_of ss p w b h)

mark_of : (f : ℕ → Bool) (ss : List Spot) (p w : ℕ) (b : Bool) → Marked f ss → InSpots ss p w b → f p ≡ b
mark_of f [] p w b a h = absurd h
mark_of f (s ∷ ss) p w b a (inl h) = subst (HasMark f) h (All-head (HasMark f) s ss a)
mark_of f (s ∷ ss) p w b a (inr h) = mark_of f ss p w b (All-tail (HasMark f) s ss a) h

-- a place with this mark and width, where the mark is known
spot_marked : (f : ℕ → Bool) (ss : List Spot) (p w : ℕ) (b : Bool) → Marked f ss → HasWidth ss p w → f p ≡ b → InSpots ss p w b
spot_marked f ss p w b a h e =
    let r = spot_of ss p w h in
    let P : Bool → Type 0 = InSpots ss p w in
    subst P (sym (mark_of f ss p w r.mark a r.here) ∙ e) r.here

-- what rule C1 says of channels and places
record IsWired (net : Net) : Type 0 where
  within : EndsWithin net
  to_own : (c : ℕ) → c < length net.chans → into (chan_at net c).to.unit (chan_at net c).to.place net.chans ≡ c
  from_own : (c : ℕ) → c < length net.chans → out_of (chan_at net c).from.unit (chan_at net c).from.place net.chans ≡ c
  into_each : (u p w : ℕ) → u < length net.units → HasWidth (ins net false (kind_of net u)) p w → into u p net.chans < length net.chans
  out_of_each : (u p w : ℕ) → u < length net.units → HasWidth (outs net false (kind_of net u)) p w → out_of u p net.chans < length net.chans

wired : (net : Net) → KeepsC1 net → IsWired net
wired net k = record {
  within = record { from = λ c l. from_within net c k l; to = λ c l. to_within net c k l };
  to_own = λ c l. to_own net c k l;
  from_own = λ c l. from_own net c k l;
  into_each = λ u p w l h. into_each net u p w k l h;
  out_of_each = λ u p w l h. out_of_each net u p w k l h;
}

ends_fit : (net : Net) → IsWired net → KeepsC2 net → KeepsC5 net → EndsFit net (passes_control net)
ends_fit net a w s = record {
  from = λ c l. (let x : Place = (chan_at net c).from in
      let u = s.units x.unit (a.within.from c l) in
      let h = width_passed_out net false (passes_control net x.unit) (kind_of net x.unit) x.place (chan_at net c).width (w.chans c nowhere l).source in
      spot_marked (ctl_out net x.unit) _ x.place (chan_at net c).width (chan_at net c).ctl u.outs h (ap (λ d. (chan_at net d).ctl) (a.from_own c l)));
  to = λ c l. (let x : Place = (chan_at net c).to in
      let u = s.units x.unit (a.within.to c l) in
      let h = width_passed_in net false (passes_control net x.unit) (kind_of net x.unit) x.place (chan_at net c).width (w.chans c nowhere l).target in
      spot_marked (ctl_in net x.unit) _ x.place (chan_at net c).width (chan_at net c).ctl u.ins h (ap (λ d. (chan_at net d).ctl) (a.to_own c l)));
}

each_once : (net : Net) (m : ℕ → Bool) → IsWired net → EachOnce net m
each_once net m a = record {
  into_each = λ u p w b l h. a.into_each u p w l (width_passed_in net (m u) false (kind_of net u) p w (width_of _ p w b h));
  out_of_each = λ u p w b l h. a.out_of_each u p w l (width_passed_out net (m u) false (kind_of net u) p w (width_of _ p w b h));
  one_in = λ c d l k e. sym (a.to_own c l) ∙ ap (λ (x : Place). into x.unit x.place net.chans) e ∙ a.to_own d k;
  one_out = λ c d l k e. sym (a.from_own c l) ∙ ap (λ (x : Place). out_of x.unit x.place net.chans) e ∙ a.from_own d k;
}

-- units by their numbers, and past the last

past : (ks : List Kind) (u : ℕ) → length ks ≤ u → get_or ks u (Sink 0) ≡ Sink 0
past [] u l = refl
past (k ∷ ks) zero l = absurd (omega arith)
past (k ∷ ks) (suc u) l = past ks u (omega arith)

every_unit : (net : Net) (P : Kind → Type 0) → All P net.units → P (Sink 0) → (u : ℕ) → P (kind_of net u)
every_unit net P a d u = elim (cases_lt u (length net.units)) [ inl l ↦ a u (Sink 0) l | inr l ↦ subst P (sym (past net.units u l)) d ]

-- a test that counts one unit

record Passes (q : Kind → Bool) (units : List Kind) : Type 0 where
  at : ℕ
  within : at < length units
  here : q (get_or units at (Sink 0)) ≡ true

some_passes : (q : Kind → Bool) (units : List Kind) (n : ℕ) → n ≤ length units → 0 < count_by q (take n units) → Passes q units
some_passes q units zero l p = absurd (omega arith)
some_passes q units (suc n) l p = by (q (get_or units n (Sink 0))) refl (λ (z : 0 < count_by q (take n units)). some_passes q units n (omega arith) z)
  where
    more : count_by q (take (suc n) units) ≡ count_by q (take n units) + one_if (q (get_or units n (Sink 0)))
    more = let e : suc n ≡ n + 1 = omega arith in ap (λ m. count_by q (take m units)) e ∙ count_more q units n (omega arith)

    by : (b : Bool) → q (get_or units n (Sink 0)) ≡ b → (0 < count_by q (take n units) → Passes q units) → Passes q units
    by true t r = record { at = n; within = omega arith; here = t }
    by false t r = let z = more ∙ ap (λ b. count_by q (take n units) + one_if b) t in r (omega arith)

-- no two units pass a test that counts one at most
same_unit : (q : Kind → Bool) (net : Net) → q (Sink 0) ≡ false → count_by q net.units ≤ 1 → (u v : ℕ) → q (kind_of net u) ≡ true → q (kind_of net v) ≡ true → u ≡ v
same_unit q net d m u v t s = by (cases_lt u v) (cases_lt v u)
  where
    inside : (w : ℕ) → q (kind_of net w) ≡ true → w < length net.units
    inside w h = elim (cases_lt w (length net.units)) [ inl l ↦ l | inr l ↦ (let e : q (kind_of net w) ≡ q (Sink 0) = ap q (past net.units w l) in let z : true ≡ false = sym h ∙ e ∙ d in cc) ]

    below : (x y : ℕ) → x < y → q (kind_of net x) ≡ true → q (kind_of net y) ≡ true → 2 ≤ count_by q net.units
    below x y l g h = let i = inside y h in two q net.units y i h (count_some q net.units y x (omega arith) l g)

    by : (u < v) ⊎ (v ≤ u) → (v < u) ⊎ (u ≤ v) → u ≡ v
    by (inl l) x = let z = below u v l t s in absurd (omega arith)
    by (inr l) (inl k) = let z = below v u k s t in absurd (omega arith)
    by (inr l) (inr k) = omega arith

has_one : (q : Kind → Bool) (net : Net) → q (Sink 0) ≡ false → count_by q net.units ≡ 1 → HasOne q net
has_one q net d e =
    let w = whole q net.units in
    let p = some_passes q net.units (length net.units) (omega arith) (omega arith) in
    record { unit = p.at; within = p.within; here = p.here; only = λ u t. same_unit q net d (omega arith) u p.at t p.here }

-- the arrays of queues

queue_owns : (k : Kind) (a : ℕ) → owns k ≡ Some a → is_queue a k ≡ true
queue_owns (Lsq b d ps gs f) a e = let z : b ≡ a = cc in eq-eqb b a z
queue_owns _ a e = cc

queue_uses : (k : Kind) (a : ℕ) → uses k ≡ Some a → (is_queue a k ≡ true) ⊎ (is_read a k ≡ true)
queue_uses (Lsq b d ps gs f) a e = let z : b ≡ a = cc in inl (eq-eqb b a z)
queue_uses (Read b) a e = let z : b ≡ a = cc in inr (eq-eqb b a z)
queue_uses _ a e = cc

passing : (q : Kind → Bool) (net : Net) → q (Sink 0) ≡ false → (u : ℕ) → q (kind_of net u) ≡ true → 0 < count_by q net.units
passing q net d u t = elim (cases_lt u (length net.units)) [
  | inl l ↦ (let c = count_some q net.units (length net.units) u (omega arith) l t in let w = whole q net.units in omega arith)
  | inr l ↦ (let e : q (kind_of net u) ≡ q (Sink 0) = ap q (past net.units u l) in let z : true ≡ false = sym t ∙ e ∙ d in cc)
]

alone : (net : Net) → KeepsC8 net → (u v a : ℕ) → owns (kind_of net u) ≡ Some a → uses (kind_of net v) ≡ Some a → v ≡ u
alone net k u v a e f =
    let o = queue_owns (kind_of net u) a e in
    elim (queue_uses (kind_of net v) a f) [
      | inl t ↦ same_unit (is_queue a) net refl (k.one_queue a) v u t o
      | inr t ↦ (let z = k.unread a (passing (is_queue a) net refl u o) in let y = passing (is_read a) net refl v t in absurd (omega arith))
    ]

pub checked_of : (net : Net) → AreNumbered net → KeepsC1 net → KeepsC2 net → KeepsC3 net → KeepsC4 net → KeepsC5 net → KeepsC6 net → KeepsC7 net → KeepsC8 net → IsChecked net
checked_of net n c1 c2 c3 c4 c5 c6 c7 c8 = record {
  c1 = c1;
  c2 = c2;
  c3 = c3;
  c4 = c4;
  c5 = c5;
  c6 = c6;
  c7 = c7;
  c8 = c8;
  numbered = all_numbered net c1 n;
  fit = ends_fit net (wired net c1) c2 c5;
  within = (wired net c1).within;
  once = each_once net (passes_control net) (wired net c1);
  to_own = (wired net c1).to_own;
  from_own = (wired net c1).from_own;
  sized = λ c l. c3.chans c nowhere l;
  delayed = λ c l. c4.queues c nowhere l;
  shapes = every_unit net HasShape c7.units tt;
  named = every_unit net (IsNamed net) c8.named tt;
  widths = λ u l. c2.units u (Sink 0) l;
  one_entry = has_one is_entry net refl c8.one_entry;
  one_exit = has_one is_exit net refl c8.one_exit;
  one_param = λ j l. has_one (is_param j) net refl (c8.one_param j l);
  alone = alone net c8;
}

pub checked_base : (net : Net) → KeepsBase net → KeepsC4 net → KeepsC5 net → KeepsC6 net → IsChecked net
checked_base net b c4 c5 c6 = checked_of net b.numbered b.c1 b.c2 b.c3 c4 c5 c6 b.c7 b.c8
