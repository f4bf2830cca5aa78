-- The rules that do not speak of slots and delays.
use Rattle.std.proofs.Common.{◌≡◌, ℕ, zero, suc, ◌<◌, cond, Bool, false, List, [], ◌∷◌, ◌++◌, get_or, length, map, refl, sym, ap, subst, ◌∙◌, inl, inr, arith}
use Rattle.std.specs.List.{All}
use Rattle.std.proofs.lemmas.List.{length-map}
use Rattle.std.proofs.lemmas.List.Elements.{All-nil, All-cons, All-head, All-tail}
use Rattle.el_base.specs.Limits.{IsNumbered}
use Rattle.net_types.specs.declared.net.Place.{Place}
use Rattle.net_types.specs.declared.net.Chan.{Chan}
use Rattle.net_types.specs.declared.net.Net.{Net}
use Rattle.net_types.specs.declared.net.Unit.{Unit as Kind}
use Rattle.net_types.specs.declared.net.Unit.TheVariants.{Fork, Exit}
use Rattle.net_types.specs.Nets.{is_at, into, out_of, nowhere, kind_of, chan_at}
use Rattle.net_types.specs.Numbered.{AreNumbered}
use Rattle.net_types.specs.Tables.{Spot, ins, outs}
use Rattle.net_types.specs.Rules.{KeepsC1, KeepsC2, IsOfWidth, HasWidth, places_at, in_places_from, out_places_from, times_in}
use Rattle.net_check.specs.Headers.{KeepsC8, IsNamed}
use Rattle.net_check.specs.Shapes.{KeepsC7}
use Rattle.net_check.specs.Controls.{KeepsC5, PlacesMarked, ctl_in, ctl_out, passes, passes_control}
use Rattle.net_check.specs.Ends.{KeepsC6, IsEnd, IsAtExit, EndsWell, WalksBack, stops, meets, source_of, end_target, end_place}
use Rattle.net_check.specs.Checks.{IsChecked}
use Rattle.net_check.specs.Retimed.{untimed, plain, SamePlain}
use Rattle.net_check.specs.Laws.{TimesBreakTwoRules, TwoRulesCheckAgain}
use Rattle.net_check.proofs.CheckLemmas.{checked_of}

into_plain : (u p : ℕ) (cs : List Chan) → into u p (map untimed cs) ≡ into u p cs
into_plain u p [] = refl
into_plain u p (c ∷ cs) = ap (λ n. cond (is_at c.to u p) 0 (suc n)) (into_plain u p cs)

out_plain : (u p : ℕ) (cs : List Chan) → out_of u p (map untimed cs) ≡ out_of u p cs
out_plain u p [] = refl
out_plain u p (c ∷ cs) = ap (λ n. cond (is_at c.from u p) 0 (suc n)) (out_plain u p cs)

ins_plain : (net : Net) (m : Bool) (k : Kind) → ins (plain net) m k ≡ ins net m k
ins_plain net m Exit = refl
ins_plain net m _ = refl

outs_plain : (net : Net) (m : Bool) (k : Kind) → outs (plain net) m k ≡ outs net m k
outs_plain net m (Fork w zero) = refl
outs_plain net m (Fork w (suc n)) = refl
outs_plain net m _ = refl

ins_from : (net : Net) (u : ℕ) (ks : List Kind) → in_places_from (plain net) u ks ≡ in_places_from net u ks
ins_from net u [] = refl
ins_from net u (k ∷ ks) = let a = ins_plain net false k in let b = ins_from net (suc u) ks in λ i. places_at u (a i) ++ b i

outs_from : (net : Net) (u : ℕ) (ks : List Kind) → out_places_from (plain net) u ks ≡ out_places_from net u ks
outs_from net u [] = refl
outs_from net u (k ∷ ks) = let a = outs_plain net false k in let b = outs_from net (suc u) ks in λ i. places_at u (a i) ++ b i

tos_plain : (cs : List Chan) → map (λ (c : Chan). c.to) (map untimed cs) ≡ map (λ (c : Chan). c.to) cs
tos_plain [] = refl
tos_plain (c ∷ cs) = ap (λ r. c.to ∷ r) (tos_plain cs)

froms_plain : (cs : List Chan) → map (λ (c : Chan). c.from) (map untimed cs) ≡ map (λ (c : Chan). c.from) cs
froms_plain [] = refl
froms_plain (c ∷ cs) = ap (λ r. c.from ∷ r) (froms_plain cs)

at_plain : (cs : List Chan) (c : ℕ) → get_or (map untimed cs) c nowhere ≡ untimed (get_or cs c nowhere)
at_plain [] c = refl
at_plain (x ∷ cs) zero = refl
at_plain (x ∷ cs) (suc c) = at_plain cs c

-- ---- C1

c1_plain : (net : Net) → KeepsC1 net → KeepsC1 (plain net)
c1_plain net h = record {
  into_each = λ u p. ap (λ xs. times_in xs u p) (tos_plain net.chans) ∙ h.into_each u p ∙ ap (λ xs. times_in xs u p) (sym (ins_from net 0 net.units));
  out_of_each = λ u p. ap (λ xs. times_in xs u p) (froms_plain net.chans) ∙ h.out_of_each u p ∙ ap (λ xs. times_in xs u p) (sym (outs_from net 0 net.units));
}

c1_back : (net : Net) → KeepsC1 (plain net) → KeepsC1 net
c1_back net h = record {
  into_each = λ u p. ap (λ xs. times_in xs u p) (sym (tos_plain net.chans)) ∙ h.into_each u p ∙ ap (λ xs. times_in xs u p) (ins_from net 0 net.units);
  out_of_each = λ u p. ap (λ xs. times_in xs u p) (sym (froms_plain net.chans)) ∙ h.out_of_each u p ∙ ap (λ xs. times_in xs u p) (outs_from net 0 net.units);
}

-- ---- C2

width_plain : (net : Net) (c : Chan) → IsOfWidth net c → IsOfWidth (plain net) (untimed c)
width_plain net c h = record {
  source = subst (λ ss. HasWidth ss c.from.place c.width) (sym (outs_plain net false (kind_of net c.from.unit))) h.source;
  target = subst (λ ss. HasWidth ss c.to.place c.width) (sym (ins_plain net false (kind_of net c.to.unit))) h.target;
}

width_back : (net : Net) (c : Chan) → IsOfWidth (plain net) (untimed c) → IsOfWidth net c
width_back net c h = record {
  source = subst (λ ss. HasWidth ss c.from.place c.width) (outs_plain net false (kind_of net c.from.unit)) h.source;
  target = subst (λ ss. HasWidth ss c.to.place c.width) (ins_plain net false (kind_of net c.to.unit)) h.target;
}

widths_plain : (net : Net) (cs : List Chan) → All (IsOfWidth net) cs → All (IsOfWidth (plain net)) (map untimed cs)
widths_plain net [] h = All-nil (IsOfWidth (plain net))
widths_plain net (c ∷ cs) h = All-cons (IsOfWidth (plain net)) (untimed c) (map untimed cs) (width_plain net c (All-head (IsOfWidth net) c cs h)) (widths_plain net cs (All-tail (IsOfWidth net) c cs h))

widths_back : (net : Net) (cs : List Chan) → All (IsOfWidth (plain net)) (map untimed cs) → All (IsOfWidth net) cs
widths_back net [] h = All-nil (IsOfWidth net)
widths_back net (c ∷ cs) h = All-cons (IsOfWidth net) c cs (width_back net c (All-head (IsOfWidth (plain net)) (untimed c) (map untimed cs) h)) (widths_back net cs (All-tail (IsOfWidth (plain net)) (untimed c) (map untimed cs) h))

-- ---- C5

in_ctl : (net : Net) (u p : ℕ) → ctl_in (plain net) u p ≡ ctl_in net u p
in_ctl net u p =
    ap (λ c. (get_or (map untimed net.chans) c nowhere).ctl) (into_plain u p net.chans) ∙ ap (λ (c : Chan). c.ctl) (at_plain net.chans (into u p net.chans))

out_ctl : (net : Net) (u p : ℕ) → ctl_out (plain net) u p ≡ ctl_out net u p
out_ctl net u p =
    ap (λ c. (get_or (map untimed net.chans) c nowhere).ctl) (out_plain u p net.chans) ∙ ap (λ (c : Chan). c.ctl) (at_plain net.chans (out_of u p net.chans))

ins_ctl : (net : Net) (u : ℕ) → ◌≡◌ {A = ℕ → Bool} (ctl_in (plain net) u) (ctl_in net u)
ins_ctl net u = λ i p. in_ctl net u p i

outs_ctl : (net : Net) (u : ℕ) → ◌≡◌ {A = ℕ → Bool} (ctl_out (plain net) u) (ctl_out net u)
outs_ctl net u = λ i p. out_ctl net u p i

passes_plain : (net : Net) (u : ℕ) → passes_control (plain net) u ≡ passes_control net u
passes_plain net u = ap (λ q. passes q (kind_of net u)) (ins_ctl net u)

-- the spots of a unit's row, which reads no slots and no delays
ins_row : (net : Net) (u : ℕ) → ins (plain net) (passes_control (plain net) u) (kind_of net u) ≡ ins net (passes_control net u) (kind_of net u)
ins_row net u = ins_plain net (passes_control (plain net) u) (kind_of net u) ∙ ap (λ m. ins net m (kind_of net u)) (passes_plain net u)

outs_row : (net : Net) (u : ℕ) → outs (plain net) (passes_control (plain net) u) (kind_of net u) ≡ outs net (passes_control net u) (kind_of net u)
outs_row net u = outs_plain net (passes_control (plain net) u) (kind_of net u) ∙ ap (λ m. outs net m (kind_of net u)) (passes_plain net u)

-- the control of the places of spots, by which channel is control
abbrev Marked : (ℕ → Bool) → List Spot → Type 0
Marked q ss = All (λ (s : Spot). q s.place ≡ s.ctl) ss

marked_plain : (net : Net) (u : ℕ) → PlacesMarked net u → PlacesMarked (plain net) u
marked_plain net u h = record {
  ins = subst (λ ss. Marked (ctl_in (plain net) u) ss) (sym (ins_row net u)) (subst (λ q. Marked q (ins net (passes_control net u) (kind_of net u))) (sym (ins_ctl net u)) h.ins);
  outs = subst (λ ss. Marked (ctl_out (plain net) u) ss) (sym (outs_row net u)) (subst (λ q. Marked q (outs net (passes_control net u) (kind_of net u))) (sym (outs_ctl net u)) h.outs);
}

marked_back : (net : Net) (u : ℕ) → PlacesMarked (plain net) u → PlacesMarked net u
marked_back net u h = record {
  ins = subst (λ q. Marked q (ins net (passes_control net u) (kind_of net u))) (ins_ctl net u) (subst (λ ss. Marked (ctl_in (plain net) u) ss) (ins_row net u) h.ins);
  outs = subst (λ q. Marked q (outs net (passes_control net u) (kind_of net u))) (outs_ctl net u) (subst (λ ss. Marked (ctl_out (plain net) u) ss) (outs_row net u) h.outs);
}

-- ---- C6

source_plain : (net : Net) (u p : ℕ) → source_of (plain net) u p ≡ source_of net u p
source_plain net u p =
    ap (λ c. (get_or (map untimed net.chans) c nowhere).from) (into_plain u p net.chans) ∙ ap (λ (c : Chan). c.from) (at_plain net.chans (into u p net.chans))

target_plain : (net : Net) (u : ℕ) → end_target (plain net) u ≡ end_target net u
target_plain net u =
    let p = end_place (kind_of net u) in
    ap (λ c. (get_or (map untimed net.chans) c nowhere).to) (out_plain u p net.chans) ∙ ap (λ (c : Chan). c.to) (at_plain net.chans (out_of u p net.chans))

end_plain : (net : Net) (p : Place) → IsEnd net p → IsEnd (plain net) p
end_plain net p h = record { within = h.within; queue = h.queue; place = h.place }

end_back : (net : Net) (p : Place) → IsEnd (plain net) p → IsEnd net p
end_back net p h = record { within = h.within; queue = h.queue; place = h.place }

exit_plain : (net : Net) (p : Place) → IsAtExit net p → IsAtExit (plain net) p
exit_plain net p h = record { within = h.within; exit = h.exit }

exit_back : (net : Net) (p : Place) → IsAtExit (plain net) p → IsAtExit net p
exit_back net p h = record { within = h.within; exit = h.exit }

-- the walk over any two nets that have the same units and the same sources
walk_same : (a b : Net) → ((u p : ℕ) → source_of b u p ≡ source_of a u p) → ((u : ℕ) → kind_of b u ≡ kind_of a u) → ((p : Place) → IsEnd a p → IsEnd b p) → ((p : Place) → IsEnd b p → IsEnd a p)
    → (u p : ℕ) (us : List ℕ) → WalksBack a u p us → WalksBack b u p us
walk_same a b src kinds to back u p us (stops _ _ away) =
    let no2 : IsEnd b (source_of b u p) → ⊥ = λ e. away (back (source_of a u p) (subst (IsEnd b) (src u p) e)) in
    stops u p no2
walk_same a b src kinds to back u p us (meets _ _ vs e w) =
    let s = source_of a u p in
    let r = walk_same a b src kinds to back s.unit (end_place (kind_of a s.unit)) vs w in
    let r2 : WalksBack b s.unit (end_place (kind_of b s.unit)) vs = subst (λ k. WalksBack b s.unit (end_place k) vs) (sym (kinds s.unit)) r in
    let e2 : IsEnd b (source_of b u p) = subst (IsEnd b) (sym (src u p)) (to s e) in
    let r3 : WalksBack b (source_of b u p).unit (end_place (kind_of b (source_of b u p).unit)) vs =
    subst (λ (q : Place). WalksBack b q.unit (end_place (kind_of b q.unit)) vs) (sym (src u p)) r2 in
    subst (λ (q : Place). WalksBack b u p (q.unit ∷ vs)) (src u p) (meets u p vs e2 r3)

well_plain : (net : Net) (u : ℕ) → EndsWell net u → EndsWell (plain net) u
well_plain net u (inl h) = inl (subst (IsEnd (plain net)) (sym (target_plain net u)) (end_plain net (end_target net u) h))
well_plain net u (inr h) = inr (subst (IsAtExit (plain net)) (sym (target_plain net u)) (exit_plain net (end_target net u) h))

well_back : (net : Net) (u : ℕ) → EndsWell (plain net) u → EndsWell net u
well_back net u (inl h) = inl (end_back net (end_target net u) (subst (IsEnd (plain net)) (target_plain net u) h))
well_back net u (inr h) = inr (exit_back net (end_target net u) (subst (IsAtExit (plain net)) (target_plain net u) h))

c6_plain : (net : Net) → KeepsC6 net → KeepsC6 (plain net)
c6_plain net h = record {
  targets = λ u q. well_plain net u (h.targets u (record { within = q.within; queue = q.queue }));
  chain = h.chain;
  walked = record {
    exit = h.walked.exit;
    within = h.walked.within;
    is_exit = h.walked.is_exit;
    walk = walk_same net (plain net) (source_plain net) (λ u. refl) (end_plain net) (end_back net) h.walked.exit 0 h.chain h.walked.walk;
  };
  each = λ u q. h.each u (record { within = q.within; queue = q.queue });
}

c6_back : (net : Net) → KeepsC6 (plain net) → KeepsC6 net
c6_back net h = record {
  targets = λ u q. well_back net u (h.targets u (record { within = q.within; queue = q.queue }));
  chain = h.chain;
  walked = record {
    exit = h.walked.exit;
    within = h.walked.within;
    is_exit = h.walked.is_exit;
    walk = walk_same (plain net) net (λ u p. sym (source_plain net u p)) (λ u. refl) (end_back net) (end_plain net) h.walked.exit 0 h.chain h.walked.walk;
  };
  each = λ u q. h.each u (record { within = q.within; queue = q.queue });
}

-- ---- C8

named_plain : (net : Net) (k : Kind) → IsNamed net k → IsNamed (plain net) k
named_plain net Exit x = x
named_plain net _ x = x

named_back : (net : Net) (k : Kind) → IsNamed (plain net) k → IsNamed net k
named_back net Exit x = x
named_back net _ x = x

all_plain : (net : Net) (ks : List Kind) → All (IsNamed net) ks → All (IsNamed (plain net)) ks
all_plain net ks x = λ j d l. named_plain net (get_or ks j d) (x j d l)

all_back : (net : Net) (ks : List Kind) → All (IsNamed (plain net)) ks → All (IsNamed net) ks
all_back net ks x = λ j d l. named_back net (get_or ks j d) (x j d l)

c8_plain : (net : Net) → KeepsC8 net → KeepsC8 (plain net)
c8_plain net h = record {
  header = record { names = h.header.names; arrays = h.header.arrays };
  one_entry = h.one_entry;
  one_exit = h.one_exit;
  one_param = h.one_param;
  named = all_plain net net.units h.named;
  one_queue = h.one_queue;
  unread = h.unread;
}

c8_back : (net : Net) → KeepsC8 (plain net) → KeepsC8 net
c8_back net h = record {
  header = record { names = h.header.names; arrays = h.header.arrays };
  one_entry = h.one_entry;
  one_exit = h.one_exit;
  one_param = h.one_param;
  named = all_back net net.units h.named;
  one_queue = h.one_queue;
  unread = h.unread;
}

-- ---- all

pub times_break_two_rules : TimesBreakTwoRules
times_break_two_rules net net2 same = record {
  c1 = λ h. c1_back net2 (subst KeepsC1 (sym same) (c1_plain net h));
  c2 = λ h. let a : KeepsC2 (plain net) = record { units = h.units; chans = widths_plain net net.chans h.chans } in
      let b : KeepsC2 (plain net2) = subst KeepsC2 (sym same) a in
      record { units = b.units; chans = widths_back net2 net2.chans b.chans };
  c5 = λ h. let a : KeepsC5 (plain net) = record { units = λ u l. marked_plain net u (h.units u l) } in
      let b : KeepsC5 (plain net2) = subst KeepsC5 (sym same) a in
      record { units = λ u l. marked_back net2 u (b.units u l) };
  c6 = λ h. c6_back net2 (subst KeepsC6 (sym same) (c6_plain net h));
  c7 = λ h. let a : KeepsC7 (plain net) = record { units = h.units } in
      let b : KeepsC7 (plain net2) = subst KeepsC7 (sym same) a in
      record { units = b.units };
  c8 = λ h. c8_back net2 (subst KeepsC8 (sym same) (c8_plain net h));
}

pub numbered_same : (net net2 : Net) → SamePlain net net2 → AreNumbered net → AreNumbered net2
numbered_same net net2 same h = record {
  units = subst (λ (n : Net). IsNumbered (length n.units)) (sym same) h.units;
  chans = (
      let e : length (map untimed net2.chans) ≡ length (map untimed net.chans) = ap (λ (n : Net). length n.chans) same in
      let d : length net2.chans ≡ length net.chans = omega (arith, length-map net2.chans untimed, length-map net.chans untimed) in
      subst IsNumbered (sym d) h.chans);
}

pub two_rules_check_again : TwoRulesCheckAgain
two_rules_check_again net net2 h same h3 h4 =
    let r = times_break_two_rules net net2 same in
    checked_of net2 (numbered_same net net2 same (record { units = h.numbered.units; chans = h.numbered.chans })) (r.c1 h.c1) (r.c2 h.c2) h3 h4 (r.c5 h.c5) (r.c6 h.c6) (r.c7 h.c7) (r.c8 h.c8)
