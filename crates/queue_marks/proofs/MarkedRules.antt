-- The net with the marks keeps the rules that the net keeps: none of them reads the mark.
use Rattle.std.proofs.Common.{◌≡◌, ℕ, zero, suc, ◌⊎◌, Bool, false, cond, List, [], ◌∷◌, ◌++◌, length, map, refl, sym, ap, subst, ◌∙◌, inl, inr, arith, IsTrue}
use Rattle.std.specs.Prelude.{count_by}
use Rattle.std.specs.List.{All}
use Rattle.std.proofs.lemmas.List.Elements.{All-map, All-weaker}
use Rattle.std.proofs.lemmas.List.Sums.{sum_by-cons}
use Rattle.el_base.specs.Limits.{IsNumbered}
use Rattle.net_types.specs.declared.net.Chan.{Chan}
use Rattle.net_types.specs.declared.net.Net.{Net}
use Rattle.net_types.specs.declared.net.Place.{Place}
use Rattle.net_types.specs.declared.net.Unit.{Unit as Kind}
use Rattle.net_types.specs.declared.net.Unit.TheVariants.{Fork, Exit}
use Rattle.net_types.specs.Nets.{kind_of, chan_at, out_of}
use Rattle.net_types.specs.Rules.{KeepsC1, KeepsC2, HasWidth, IsOfWidth, width_fits, places_at, in_places_from, out_places_from, times_in}
use Rattle.net_types.specs.Tables.{Spot, ins, outs}
use Rattle.net_check.specs.Controls.{KeepsC5, ctl_in, ctl_out, passes, passes_control}
use Rattle.net_check.specs.Cycles.{KeepsC4, IsDelayed, WaitsAfter, Leads}
use Rattle.net_check.specs.Ends.{KeepsC6, IsEnd, IsAtExit, IsQueue, WalksBack, stops, meets, EndsWell, end_place, end_target, source_of, is_lsq}
use Rattle.net_check.specs.Headers.{KeepsC8, IsNamed, is_entry, is_exit, is_param, is_read, is_queue}
use Rattle.net_check.specs.Keeps.{Keeps, keeps_c1, keeps_c2, keeps_c3, keeps_c4, keeps_c5, keeps_c6, keeps_c7, keeps_c8, rules_in_order}
use Rattle.net_check.specs.Laws.{AllRulesCheck, CheckedKeepsAll}
use Rattle.net_check.specs.Shapes.{KeepsC7, HasShape}
use Rattle.net_check.specs.Sizes.{KeepsC3}
use Rattle.queue_marks.specs.Marked.{with_mark, forwarding}
use Rattle.queue_marks.specs.Laws.{MarksKeepRules, MarksKeepUntimed, MarksKeepChecked}
use Rattle.queue_marks.proofs.MarkedRuns.{kind_marked}

as_many : (ks : List Kind) → length (map with_mark ks) ≡ length ks
as_many [] = refl
as_many (k ∷ ks) = ap suc (as_many ks)

-- ---- tables

ins_marked : (net : Net) (m : Bool) (k : Kind) → ins (forwarding net) m (with_mark k) ≡ ins net m k
ins_marked net m Exit = refl
ins_marked net m _ = refl

outs_marked : (net : Net) (m : Bool) (k : Kind) → outs (forwarding net) m (with_mark k) ≡ outs net m k
outs_marked net m (Fork w zero) = refl
outs_marked net m (Fork w (suc n)) = refl
outs_marked net m _ = refl

ins_at : (net : Net) (m : Bool) (u : ℕ) → ins (forwarding net) m (kind_of (forwarding net) u) ≡ ins net m (kind_of net u)
ins_at net m u = ap (ins (forwarding net) m) (kind_marked net u) ∙ ins_marked net m (kind_of net u)

outs_at : (net : Net) (m : Bool) (u : ℕ) → outs (forwarding net) m (kind_of (forwarding net) u) ≡ outs net m (kind_of net u)
outs_at net m u = ap (outs (forwarding net) m) (kind_marked net u) ∙ outs_marked net m (kind_of net u)

-- ---- C1 and C2

in_places_marked : (net : Net) (u : ℕ) (ks : List Kind) → in_places_from (forwarding net) u (map with_mark ks) ≡ in_places_from net u ks
in_places_marked net u [] = refl
in_places_marked net u (k ∷ ks) = let a = ins_marked net false k in let b = in_places_marked net (suc u) ks in λ j. places_at u (a j) ++ b j

out_places_marked : (net : Net) (u : ℕ) (ks : List Kind) → out_places_from (forwarding net) u (map with_mark ks) ≡ out_places_from net u ks
out_places_marked net u [] = refl
out_places_marked net u (k ∷ ks) = let a = outs_marked net false k in let b = out_places_marked net (suc u) ks in λ j. places_at u (a j) ++ b j

c1_marked : (net : Net) → KeepsC1 net → KeepsC1 (forwarding net)
c1_marked net h = record {
  into_each = λ u p. h.into_each u p ∙ sym (ap (λ ps. times_in ps u p) (in_places_marked net 0 net.units));
  out_of_each = λ u p. h.out_of_each u p ∙ sym (ap (λ ps. times_in ps u p) (out_places_marked net 0 net.units));
}

fits_marked : (k : Kind) → IsTrue (width_fits k) → IsTrue (width_fits (with_mark k))
fits_marked Exit h = h
fits_marked _ h = h

c2_marked : (net : Net) → KeepsC2 net → KeepsC2 (forwarding net)
c2_marked net h = record {
  units = All-map (λ k. IsTrue (width_fits k)) with_mark net.units (All-weaker (λ k. IsTrue (width_fits k)) (λ k. IsTrue (width_fits (with_mark k))) fits_marked net.units h.units);
  chans = All-weaker (IsOfWidth net) (IsOfWidth (forwarding net)) of_width net.chans h.chans;
}
  where
    of_width : (c : Chan) → IsOfWidth net c → IsOfWidth (forwarding net) c
    of_width c w = record {
      source = subst (λ (ss : List Spot). HasWidth ss c.from.place c.width) (sym (outs_at net false c.from.unit)) w.source;
      target = subst (λ (ss : List Spot). HasWidth ss c.to.place c.width) (sym (ins_at net false c.to.unit)) w.target;
    }

-- ---- C3 and C4

c3_marked : (net : Net) → KeepsC3 net → KeepsC3 (forwarding net)
c3_marked net h = record { chans = h.chans; together = h.together }

waits_marked : (k : Kind) (delay : ℕ) → WaitsAfter k delay → WaitsAfter (with_mark k) delay
waits_marked Exit delay h = h
waits_marked _ delay h = h

leads_unmarked : (net : Net) (v : ℕ) (cs : List ℕ) (u : ℕ) → Leads (forwarding net) v cs u → Leads net v cs u
leads_unmarked net v [] u h = h
leads_unmarked net v (c ∷ cs) u h = (record { within = h.0.within; delay = h.0.delay; source = h.0.source; target = h.0.target }, leads_unmarked net (chan_at net c).to.unit cs u h.1)

c4_marked : (net : Net) → KeepsC4 net → KeepsC4 (forwarding net)
c4_marked net h = record {
  queues = All-weaker (IsDelayed net) (IsDelayed (forwarding net)) (λ c w. subst (λ k. WaitsAfter k c.delay) (sym (kind_marked net c.from.unit)) (waits_marked (kind_of net c.from.unit) c.delay w)) net.chans h.queues;
  cycles = λ cs w. h.cycles cs (record { unit = w.unit; some = w.some; leads = leads_unmarked net w.unit cs w.unit w.leads });
}

-- ---- C5

passes_marked : (f : ℕ → Bool) (k : Kind) → passes f (with_mark k) ≡ passes f k
passes_marked f Exit = refl
passes_marked f _ = refl

c5_marked : (net : Net) → KeepsC5 net → KeepsC5 (forwarding net)
c5_marked net h = record {
  units = λ u l. (let w = h.units u (let e = as_many net.units in omega (arith, e, l)) in record {
    ins = subst (All (λ (s : Spot). ctl_in net u s.place ≡ s.ctl)) (sym (ap (λ m. ins (forwarding net) m (kind_of (forwarding net) u)) (same u) ∙ ins_at net (passes_control net u) u)) w.ins;
    outs = subst (All (λ (s : Spot). ctl_out net u s.place ≡ s.ctl)) (sym (ap (λ m. outs (forwarding net) m (kind_of (forwarding net) u)) (same u) ∙ outs_at net (passes_control net u) u)) w.outs;
  });
}
  where
    same : (u : ℕ) → passes_control (forwarding net) u ≡ passes_control net u
    same u = ap (passes (ctl_in net u)) (kind_marked net u) ∙ passes_marked (ctl_in net u) (kind_of net u)

-- ---- C6

lsq_marked : (k : Kind) → is_lsq (with_mark k) ≡ is_lsq k
lsq_marked Exit = refl
lsq_marked _ = refl

end_marked : (k : Kind) → end_place (with_mark k) ≡ end_place k
end_marked Exit = refl
end_marked _ = refl

exit_marked : (k : Kind) → is_exit (with_mark k) ≡ is_exit k
exit_marked Exit = refl
exit_marked _ = refl

module _ (net : Net) where
  lsq_at : (u : ℕ) → is_lsq (kind_of (forwarding net) u) ≡ is_lsq (kind_of net u)
  lsq_at u = ap is_lsq (kind_marked net u) ∙ lsq_marked (kind_of net u)

  end_at : (u : ℕ) → end_place (kind_of (forwarding net) u) ≡ end_place (kind_of net u)
  end_at u = ap end_place (kind_marked net u) ∙ end_marked (kind_of net u)

  exit_at : (u : ℕ) → is_exit (kind_of (forwarding net) u) ≡ is_exit (kind_of net u)
  exit_at u = ap is_exit (kind_marked net u) ∙ exit_marked (kind_of net u)

  many : length (forwarding net).units ≡ length net.units
  many = as_many net.units

  is_end : (p : Place) → IsEnd net p → IsEnd (forwarding net) p
  is_end p h = record { within = (let e = many in let l = h.within in omega (arith, e, l)); queue = lsq_at p.unit ∙ h.queue; place = h.place ∙ sym (end_at p.unit) }

  no_end : (p : Place) → IsEnd (forwarding net) p → IsEnd net p
  no_end p h = record { within = (let e = many in let l = h.within in omega (arith, e, l)); queue = sym (lsq_at p.unit) ∙ h.queue; place = h.place ∙ end_at p.unit }

  at_exit : (p : Place) → IsAtExit net p → IsAtExit (forwarding net) p
  at_exit p h = record { within = (let e = many in let l = h.within in omega (arith, e, l)); exit = exit_at p.unit ∙ h.exit }

  queue_of_net : (u : ℕ) → IsQueue (forwarding net) u → IsQueue net u
  queue_of_net u h = record { within = (let e = many in let l = h.within in omega (arith, e, l)); queue = sym (lsq_at u) ∙ h.queue }

  walks : (u p : ℕ) (us : List ℕ) → WalksBack net u p us → WalksBack (forwarding net) u p us
  walks u p us (stops _ _ n) = stops u p (λ e. n (no_end (source_of net u p) e))
  walks u p us (meets _ _ vs e w) =
      let v = (source_of net u p).unit in
      meets u p vs (is_end (source_of net u p) e) (subst (λ q. WalksBack (forwarding net) v q vs) (sym (end_at v)) (walks v (end_place (kind_of net v)) vs w))

  ends_well : (u : ℕ) → EndsWell net u → EndsWell (forwarding net) u
  ends_well u h = subst (λ p. IsEnd (forwarding net) p ⊎ IsAtExit (forwarding net) p) (sym same) (by h)
    where
      same : end_target (forwarding net) u ≡ end_target net u
      same = ap (λ q. (chan_at net (out_of u q net.chans)).to) (end_at u)

      by : EndsWell net u → IsEnd (forwarding net) (end_target net u) ⊎ IsAtExit (forwarding net) (end_target net u)
      by (inl e) = inl (is_end (end_target net u) e)
      by (inr e) = inr (at_exit (end_target net u) e)

  c6_marked : KeepsC6 net → KeepsC6 (forwarding net)
  c6_marked h = record {
    targets = λ u q. ends_well u (h.targets u (queue_of_net u q));
    chain = h.chain;
    walked = record {
      exit = h.walked.exit;
      within = (let e = many in let l = h.walked.within in omega (arith, e, l));
      is_exit = exit_at h.walked.exit ∙ h.walked.is_exit;
      walk = walks h.walked.exit 0 h.chain h.walked.walk;
    };
    each = λ u q. h.each u (queue_of_net u q);
  }

-- ---- C7 and C8

shape_marked : (k : Kind) → HasShape k → HasShape (with_mark k)
shape_marked Exit h = h
shape_marked _ h = h

c7_marked : (net : Net) → KeepsC7 net → KeepsC7 (forwarding net)
c7_marked net h = record { units = All-map HasShape with_mark net.units (All-weaker HasShape (λ k. HasShape (with_mark k)) shape_marked net.units h.units) }

named_marked : (net : Net) (k : Kind) → IsNamed net k → IsNamed (forwarding net) (with_mark k)
named_marked net Exit h = h
named_marked net _ h = h

entry_marked : (k : Kind) → is_entry (with_mark k) ≡ is_entry k
entry_marked Exit = refl
entry_marked _ = refl

param_marked : (i : ℕ) (k : Kind) → is_param i (with_mark k) ≡ is_param i k
param_marked i Exit = refl
param_marked i _ = refl

read_marked : (i : ℕ) (k : Kind) → is_read i (with_mark k) ≡ is_read i k
read_marked i Exit = refl
read_marked i _ = refl

queue_marked : (i : ℕ) (k : Kind) → is_queue i (with_mark k) ≡ is_queue i k
queue_marked i Exit = refl
queue_marked i _ = refl

count_marked : (q : Kind → Bool) → ((k : Kind) → q (with_mark k) ≡ q k) → (ks : List Kind) → count_by q (map with_mark ks) ≡ count_by q ks
count_marked q h [] = refl
count_marked q h (k ∷ ks) =
    let a = sum_by-cons (λ x. cond (q x) 1 0) (with_mark k) (map with_mark ks) in
    let b = sum_by-cons (λ x. cond (q x) 1 0) k ks in
    let i = count_marked q h ks in
    let e : cond (q (with_mark k)) 1 0 ≡ cond (q k) 1 0 = ap {B = ℕ} (λ t. cond t 1 0) (h k) in
    omega (arith, a, b, i, e)

c8_marked : (net : Net) → KeepsC8 net → KeepsC8 (forwarding net)
c8_marked net h = record {
  header = record { names = h.header.names; arrays = h.header.arrays };
  one_entry = count_marked is_entry entry_marked net.units ∙ h.one_entry;
  one_exit = count_marked is_exit exit_marked net.units ∙ h.one_exit;
  one_param = λ j l. count_marked (is_param j) (param_marked j) net.units ∙ h.one_param j l;
  named = All-map (IsNamed (forwarding net)) with_mark net.units (All-weaker (IsNamed net) (λ k. IsNamed (forwarding net) (with_mark k)) (named_marked net) net.units h.named);
  one_queue = λ a. (let e = count_marked (is_queue a) (queue_marked a) net.units in let l = h.one_queue a in omega (arith, e, l));
  unread = λ a l. count_marked (is_read a) (read_marked a) net.units ∙ h.unread a (let e = count_marked (is_queue a) (queue_marked a) net.units in omega (arith, e, l));
}

-- ---- all rules

pub rules_marked : MarksKeepRules
rules_marked net n (keeps_c1 h) = keeps_c1 (c1_marked net h)
rules_marked net n (keeps_c2 h) = keeps_c2 (c2_marked net h)
rules_marked net n (keeps_c3 h) = keeps_c3 (c3_marked net h)
rules_marked net n (keeps_c4 h) = keeps_c4 (c4_marked net h)
rules_marked net n (keeps_c5 h) = keeps_c5 (c5_marked net h)
rules_marked net n (keeps_c6 h) = keeps_c6 (c6_marked net h)
rules_marked net n (keeps_c7 h) = keeps_c7 (c7_marked net h)
rules_marked net n (keeps_c8 h) = keeps_c8 (c8_marked net h)

pub untimed_marked : MarksKeepUntimed
untimed_marked net = record { c1 = c1_marked net; c2 = c2_marked net; c5 = c5_marked net; c6 = c6_marked net; c7 = c7_marked net; c8 = c8_marked net }

pub checked_marked : AllRulesCheck → CheckedKeepsAll → MarksKeepChecked
checked_marked all kept net h =
    let e = as_many net.units in
    all (forwarding net) (record { units = subst IsNumbered (sym e) h.numbered.units; chans = h.numbered.chans })
    (All-weaker (Keeps net) (Keeps (forwarding net)) (λ n k. rules_marked net n k) rules_in_order (kept net h))
