-- Rule C4: what follows from rule C1, and from a culprit.
use Rattle.std.proofs.Common.{◌≡◌, ℕ, ◌+◌, ◌<◌, true, Option, None, List, [], ◌∷◌, length, map, refl, sym, ap, subst, ◌∙◌, arith}
use Rattle.std.specs.List.{count_by}
use Rattle.std.proofs.lemmas.Bool.{eq-eqb, and_from}
use Rattle.std.proofs.lemmas.List.Sums.{sum_by-cons, get_or-le-sum_by}
use Rattle.net_types.specs.declared.net.Chan.{Chan}
use Rattle.net_types.specs.declared.net.Net.{Net}
use Rattle.net_types.specs.declared.net.Place.{Place}
use Rattle.net_types.specs.Nets.{is_at, nowhere, chan_at}
use Rattle.net_types.specs.Rules.{KeepsC1, times_in}
use Rattle.net_check.specs.declared.refusal.At.{At}
use Rattle.net_check.specs.declared.refusal.At.TheVariants as «at»
use Rattle.net_check.specs.declared.wires.Side.TheVariants.{In, Out}
use Rattle.std.specs.Prelude.{MatchOption}
use Rattle.net_check.specs.Cycles.{IsEndless, KeepsC4, CulpritC4}
use Rattle.net_check.specs.Lowest.{IsLowest}
use Rattle.net_check.specs.private.Joins.{placed}
use Rattle.net_check.specs.private.Peels.{HasUnits, IsLinked}
use Rattle.net_check.specs.private.Peels.{AreDelayed, NoneEndless}
use Rattle.net_check.proofs.ClosedWalks.{none_endless, no_cycle}
use Rattle.net_check.proofs.FirstLemmas.{all_chans}
use Rattle.net_check.proofs.PeelLemmas.{bit}
use Rattle.net_check.proofs.PlaceCounts.{placed_within}

times_ends : (end : Chan → Place) (u p : ℕ) (cs : List Chan) → times_in (map end cs) u p ≡ count_by (λ (c : Chan). is_at (end c) u p) cs
times_ends end u p [] = refl
times_ends end u p (c ∷ cs) =
    let a = sum_by-cons (λ (q : Place). bit (is_at q u p)) (end c) (map end cs) in
    let b = sum_by-cons (λ (y : Chan). bit (is_at (end y) u p)) c cs in
    a ∙ ap (λ n. bit (is_at (end c) u p) + n) (times_ends end u p cs) ∙ sym b

some_end : (end : Chan → Place) (net : Net) (d : ℕ) → d < length net.chans → 0 < times_in (map end net.chans) (end (chan_at net d)).unit (end (chan_at net d)).place
some_end end net d l =
    let q : Place = end (chan_at net d) in
    let t : is_at q q.unit q.place ≡ true = and_from _ _ (eq-eqb q.unit q.unit refl) (eq-eqb q.place q.place refl) in
    let o : bit (is_at q q.unit q.place) ≡ 1 = ap bit t in
    let g = get_or-le-sum_by (λ (y : Chan). bit (is_at (end y) q.unit q.place)) net.chans d nowhere l in
    let e = times_ends end q.unit q.place net.chans in
    omega arith

-- with C1 both units of each channel exist
pub linked : (net : Net) → KeepsC1 net → IsLinked net
linked net k = record { chans = all_chans net (HasUnits net) at_chan }
  where
    at_chan : (d : ℕ) → d < length net.chans → HasUnits net (chan_at net d)
    at_chan d l = record {
      from = (let c : Chan = chan_at net d in
          let s = some_end (λ (y : Chan). y.from) net d l in
          let e = k.out_of_each c.from.unit c.from.place in
          let h : 0 < placed Out net c.from.unit c.from.place = omega arith in
          placed_within Out net c.from.unit c.from.place h);
      to = (let c : Chan = chan_at net d in
          let s = some_end (λ (y : Chan). y.to) net d l in
          let e = k.into_each c.to.unit c.to.place in
          let h : 0 < placed In net c.to.unit c.to.place = omega arith in
          placed_within In net c.to.unit c.to.place h);
    }

-- a net with a culprit breaks the rule
pub breaks_cycles : (net : Net) (x : At) → CulpritC4 net x → KeepsC4 net → ⊥
breaks_cycles net (at.Unit u) c k = none_endless net k.cycles u c.1.here
breaks_cycles net (at.Chan d) c k = c.here.lacks (k.queues d nowhere c.here.within)
breaks_cycles net at.Net c k = c

-- the rule from its two halves
keeps_of : (net : Net) → AreDelayed net → NoneEndless net → KeepsC4 net
keeps_of net d n = record { queues = d; cycles = no_cycle net n }

pub keeps_by : (net : Net) (o : Option ℕ) → AreDelayed net → MatchOption o (NoneEndless net) (IsLowest (IsEndless net)) → o ≡ None → KeepsC4 net
keeps_by net o d m e = let P : Option ℕ → Type 0 = λ x. MatchOption x (NoneEndless net) (IsLowest (IsEndless net)) in keeps_of net d (subst P e m)
