-- The first broken rule, from what each rule's check found.
use Rattle.std.proofs.Common.{◌≡◌, Option, Some, None, [], ◌∷◌, sym, refl, subst}
use Rattle.std.specs.Prelude.{MatchOption, Result, IfErr, IsErrAnd}
use Rattle.std.proofs.lemmas.Result.{err_from_is_err_and, IfErr-weaker}
use Rattle.std.proofs.lemmas.List.Elements.{All-nil, All-cons}
use Rattle.net_types.specs.declared.net.Net.{Net}
use Rattle.net_types.specs.Rules.{KeepsC1, KeepsC2}
use Rattle.net_check.specs.declared.refusal.At.{At}
use Rattle.net_check.specs.declared.refusal.At.TheVariants as «at»
use Rattle.net_check.specs.declared.refusal.NetRefusal.{NetRefusal}
use Rattle.net_check.specs.Headers.{KeepsC8, CulpritC8}
use Rattle.net_check.specs.Shapes.{KeepsC7, CulpritC7}
use Rattle.net_check.specs.Places.{CulpritC1, CulpritC2}
use Rattle.net_check.specs.Sizes.{CulpritC3}
use Rattle.net_check.specs.Cycles.{KeepsC4, CulpritC4}
use Rattle.net_check.specs.Controls.{KeepsC5, CulpritC5}
use Rattle.net_check.specs.Ends.{CulpritC6}
use Rattle.net_check.specs.Keeps.{Keeps, keeps_c1, keeps_c2, keeps_c3, keeps_c4, keeps_c5, keeps_c7, keeps_c8, culprit_c1, culprit_c2, culprit_c3, culprit_c4, culprit_c5, culprit_c6, culprit_c7, culprit_c8}
use Rattle.net_check.specs.declared.refusal.Rule.{Rule as RuleName}
use Rattle.net_check.specs.private.Bases.{KeepsBase}
use Rattle.net_check.specs.private.Broken.{IsRefusalBy}
use Rattle.net_check.specs.private.Rules.{rule_number}
use Rattle.net_check.specs.Refusals.{IsFirstBroken, RefusalHolds}
use Rattle.net_check.proofs.Breaks.{breaks_header, breaks_shapes, breaks_widths, breaks_sizes}
use Rattle.net_check.proofs.JoinLemmas.{breaks_places}
use Rattle.net_check.proofs.CycleLemmas.{breaks_cycles}
use Rattle.net_check.proofs.EndLemmas.{breaks_ends}
use Rattle.net_check.proofs.KeepLemmas.{kept_1, kept_2, kept_3, kept_4, kept_5, kept_6, kept_7, kept_8}

breaks_controls : (net : Net) (x : At) → CulpritC5 net x → KeepsC5 net → ⊥
breaks_controls net (at.Unit u) h k = h.here.lacks (k.units u h.here.within)
breaks_controls net (at.Chan c) h k = h
breaks_controls net at.Net h k = h

pub first_8 : (net : Net) (x : At) → CulpritC8 net x → IsFirstBroken net 8 x
first_8 net x c = record {
  earlier = [];
  later = 7 ∷ 1 ∷ 2 ∷ 3 ∷ 4 ∷ 5 ∷ 6 ∷ [];
  tried = refl;
  kept = All-nil (Keeps net);
  broken = λ k. breaks_header net x c (kept_8 net k);
  culprit = culprit_c8 c;
}

pub first_7 : (net : Net) (x : At) → KeepsC8 net → CulpritC7 net x → IsFirstBroken net 7 x
first_7 net x k8 c = record {
  earlier = 8 ∷ [];
  later = 1 ∷ 2 ∷ 3 ∷ 4 ∷ 5 ∷ 6 ∷ [];
  tried = refl;
  kept = All-cons (Keeps net) 8 ([]) (keeps_c8 k8) (All-nil (Keeps net));
  broken = λ k. breaks_shapes net x c (kept_7 net k);
  culprit = culprit_c7 c;
}

pub first_1 : (net : Net) (x : At) → KeepsC8 net → KeepsC7 net → CulpritC1 net x → IsFirstBroken net 1 x
first_1 net x k8 k7 c = record {
  earlier = 8 ∷ 7 ∷ [];
  later = 2 ∷ 3 ∷ 4 ∷ 5 ∷ 6 ∷ [];
  tried = refl;
  kept = All-cons (Keeps net) 8 (7 ∷ []) (keeps_c8 k8) (All-cons (Keeps net) 7 ([]) (keeps_c7 k7) (All-nil (Keeps net)));
  broken = λ k. breaks_places net x c (kept_1 net k);
  culprit = culprit_c1 c;
}

pub first_2 : (net : Net) (x : At) → KeepsC8 net → KeepsC7 net → KeepsC1 net → CulpritC2 net x → IsFirstBroken net 2 x
first_2 net x k8 k7 k1 c = record {
  earlier = 8 ∷ 7 ∷ 1 ∷ [];
  later = 3 ∷ 4 ∷ 5 ∷ 6 ∷ [];
  tried = refl;
  kept = All-cons (Keeps net) 8 (7 ∷ 1 ∷ []) (keeps_c8 k8) (All-cons (Keeps net) 7 (1 ∷ []) (keeps_c7 k7) (All-cons (Keeps net) 1 ([]) (keeps_c1 k1) (All-nil (Keeps net))));
  broken = λ k. breaks_widths net x c (kept_2 net k);
  culprit = culprit_c2 c;
}

pub first_3 : (net : Net) (x : At) → KeepsC8 net → KeepsC7 net → KeepsC1 net → KeepsC2 net → CulpritC3 net x → IsFirstBroken net 3 x
first_3 net x k8 k7 k1 k2 c = record {
  earlier = 8 ∷ 7 ∷ 1 ∷ 2 ∷ [];
  later = 4 ∷ 5 ∷ 6 ∷ [];
  tried = refl;
  kept = All-cons (Keeps net) 8 (7 ∷ 1 ∷ 2 ∷ []) (keeps_c8 k8) (All-cons (Keeps net) 7 (1 ∷ 2 ∷ []) (keeps_c7 k7) (All-cons (Keeps net) 1 (2 ∷ []) (keeps_c1 k1) (All-cons (Keeps net) 2 ([]) (keeps_c2 k2) (All-nil (Keeps net)))));
  broken = λ k. breaks_sizes net x c (kept_3 net k);
  culprit = culprit_c3 c;
}

pub first_4 : (net : Net) (x : At) → KeepsBase net → CulpritC4 net x → IsFirstBroken net 4 x
first_4 net x b c = record {
  earlier = 8 ∷ 7 ∷ 1 ∷ 2 ∷ 3 ∷ [];
  later = 5 ∷ 6 ∷ [];
  tried = refl;
  kept = All-cons (Keeps net) 8 (7 ∷ 1 ∷ 2 ∷ 3 ∷ []) (keeps_c8 b.c8) (All-cons (Keeps net) 7 (1 ∷ 2 ∷ 3 ∷ []) (keeps_c7 b.c7) (All-cons (Keeps net) 1 (2 ∷ 3 ∷ []) (keeps_c1 b.c1) (All-cons (Keeps net) 2 (3 ∷ []) (keeps_c2 b.c2) (All-cons (Keeps net) 3 ([]) (keeps_c3 b.c3) (All-nil (Keeps net))))));
  broken = λ k. breaks_cycles net x c (kept_4 net k);
  culprit = culprit_c4 c;
}

pub first_5 : (net : Net) (x : At) → KeepsBase net → KeepsC4 net → CulpritC5 net x → IsFirstBroken net 5 x
first_5 net x b k4 c = record {
  earlier = 8 ∷ 7 ∷ 1 ∷ 2 ∷ 3 ∷ 4 ∷ [];
  later = 6 ∷ [];
  tried = refl;
  kept = All-cons (Keeps net) 8 (7 ∷ 1 ∷ 2 ∷ 3 ∷ 4 ∷ []) (keeps_c8 b.c8) (All-cons (Keeps net) 7 (1 ∷ 2 ∷ 3 ∷ 4 ∷ []) (keeps_c7 b.c7) (All-cons (Keeps net) 1 (2 ∷ 3 ∷ 4 ∷ []) (keeps_c1 b.c1) (All-cons (Keeps net) 2 (3 ∷ 4 ∷ []) (keeps_c2 b.c2) (All-cons (Keeps net) 3 (4 ∷ []) (keeps_c3 b.c3) (All-cons (Keeps net) 4 ([]) (keeps_c4 k4) (All-nil (Keeps net)))))));
  broken = λ k. breaks_controls net x c (kept_5 net k);
  culprit = culprit_c5 c;
}

pub first_6 : (net : Net) (x : At) → KeepsBase net → KeepsC4 net → KeepsC5 net → CulpritC6 net x → IsFirstBroken net 6 x
first_6 net x b k4 k5 c = record {
  earlier = 8 ∷ 7 ∷ 1 ∷ 2 ∷ 3 ∷ 4 ∷ 5 ∷ [];
  later = [];
  tried = refl;
  kept = All-cons (Keeps net) 8 (7 ∷ 1 ∷ 2 ∷ 3 ∷ 4 ∷ 5 ∷ []) (keeps_c8 b.c8) (All-cons (Keeps net) 7 (1 ∷ 2 ∷ 3 ∷ 4 ∷ 5 ∷ []) (keeps_c7 b.c7) (All-cons (Keeps net) 1 (2 ∷ 3 ∷ 4 ∷ 5 ∷ []) (keeps_c1 b.c1) (All-cons (Keeps net) 2 (3 ∷ 4 ∷ 5 ∷ []) (keeps_c2 b.c2) (All-cons (Keeps net) 3 (4 ∷ 5 ∷ []) (keeps_c3 b.c3) (All-cons (Keeps net) 4 (5 ∷ []) (keeps_c4 k4) (All-cons (Keeps net) 5 ([]) (keeps_c5 k5) (All-nil (Keeps net))))))));
  broken = λ k. breaks_ends net x b.c8.one_exit c (kept_6 net k);
  culprit = culprit_c6 c;
}

-- from what a rule's check found to the refusal, or to the rule
pub refused_by : (net : Net) (rule : RuleName) (K : Type 0) (C : At → Type 0) (found : Option At) (e : NetRefusal) → ((x : At) → C x → IsFirstBroken net (rule_number rule) x)
    → MatchOption found K C → IsRefusalBy rule found e → RefusalHolds net e
refused_by net rule K C None e f m h = absurd h
refused_by net rule K C (Some x) e f m h = subst (RefusalHolds net) (sym h) (record { rule = rule_number rule; numbered = refl; first = f x m })

pub kept_by : (K : Type 0) (C : At → Type 0) (found : Option At) → MatchOption found K C → found ≡ None → K
kept_by K C found m e = let P : Option At → Type 0 = λ o. MatchOption o K C in subst P e m

-- what the exit of a `?` hands on
pub refused_exit : {T : Type 0} (net : Net) (r : Result T NetRefusal) (e : NetRefusal) → IsErrAnd r (λ d. d ≡ e) → RefusalHolds net e → IfErr r (RefusalHolds net)
refused_exit {T} net r e x h =
    let p = err_from_is_err_and r x in
    let P : Result T NetRefusal → Type 0 = λ q. IfErr q (RefusalHolds net) in
    subst P (sym p.1) (subst (RefusalHolds net) (sym p.2) h)

-- what the last call hands on
pub refused_last : {T : Type 0} (net : Net) (rule : RuleName) (K : Type 0) (C : At → Type 0) (found : Option At) (r : Result T NetRefusal) → ((x : At) → C x → IsFirstBroken net (rule_number rule) x)
    → MatchOption found K C → IfErr r (λ e. IsRefusalBy rule found e) → IfErr r (RefusalHolds net)
refused_last net rule K C found r f m h = IfErr-weaker r _ _ (λ e b. refused_by net rule K C found e f m b) h
