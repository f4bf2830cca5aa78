-- Two enabled firings are one, or go in either order.
use Rattle.std.proofs.Common.{◌≡◌, ℕ, ◌<◌, ◌⊎◌, Bool, true, false, length, refl, sym, ap, subst, ◌∙◌, inl, inr, arith}
use Rattle.std.proofs.lemmas.Bool.{cases_eq}
use Rattle.net_types.specs.declared.net.Unit.{Unit as Kind}
use Rattle.net_types.specs.declared.net.Unit.TheVariants.{Fork, Cmerge, Sink, Lsq}
use Rattle.net_types.specs.declared.firing.Act.{Act}
use Rattle.net_types.specs.declared.firing.Act.TheVariants.{Send, Alloc, End}
use Rattle.net_types.specs.declared.firing.Firing.{Firing}
use Rattle.net_types.specs.declared.net.Net.{Net}
use Rattle.net_types.specs.Nets.{firing, kind_of}
use Rattle.lsq_core.specs.Acts.{is_control}
use Rattle.net_core.specs.Machine.{Commute}
use Rattle.net_core.specs.Fire.{State, enabled, after, row}
use Rattle.net_core.specs.Laws.{takes_control}
use Rattle.net_core.proofs.Premises.{Premises}
use Rattle.net_core.proofs.PathLemmas.{Diamond}
use Rattle.net_core.proofs.GoesLemmas.{goes, apart}
use Rattle.net_core.proofs.ForkLemmas.{fork_pair}
use Rattle.net_core.proofs.QueuePairLemmas.{queue_pair}
use Rattle.net_core.proofs.ActLemmas.{kind_within, fork_act, plain_act, merge_inv}
use Rattle.net_core.proofs.RegularLemmas.{IsRegular}
use Rattle.net_core.proofs.TakerLemmas.{one_taker}

abbrev Either : (net : Net) (s : State) (u : ℕ) (a b : Act) → Type 0
Either net s u a b = (firing u a ≡ firing u b) ⊎ Commute State Firing (enabled net) (after net) s (firing u a) (firing u b)

control_takes : (a : Act) → is_control a ≡ true → takes_control a ≡ true
control_takes (Alloc g) h = refl
control_takes End h = refl
control_takes _ h = cc

-- two firings of one unit
together : (net : Net) (s : State) (u : ℕ) (a b : Act) (k : Kind) → kind_of net u ≡ k → Premises net → IsRegular net s
    → enabled net s (firing u a) → enabled net s (firing u b) → Either net s u a b
unfolding row
together net s u a b (Fork w outs) is checked good h g =
    let x = goes net s (firing u a) h in
    let y = goes net s (firing u b) g in
    let i = fork_act net s u w outs a is x.0 x.1.is in
    let j = fork_act net s u w outs b is y.0 y.1.is in
    let l : u < length net.units = kind_within net u (λ z. (let m : Fork w outs ≡ Sink 0 = sym is ∙ z in cc)) in
    let lu : u < length s.own = (let o = good.owned in omega arith) in
    let P : Act → Type 0 = λ z. Either net s u z b in
    let Q : Act → Type 0 = λ z. Either net s u (Send i.0) z in
    let R : Act → Type 0 = λ z. enabled net s (firing u z) in
    subst P (sym i.1) (subst Q (sym j.1) (fork_pair net s u w outs is good.long lu i.0 j.0 (subst R i.1 h) (subst R j.1 g)))
together net s u a b (Cmerge ins) is checked good h g = inl (one_taker net s (firing u a) (firing u b) checked good h g (merges a h) (merges b g))
  where
    merges : (a : Act) → enabled net s (firing u a) → takes_control a ≡ true
    merges a h = let x = goes net s (firing u a) h in ap takes_control (merge_inv net s u ins a is x.0 x.1.is).1
together net s u a b (Lsq n d ps gs fw) is checked good h g = by (is_control a) refl (is_control b) refl
  where
    lu : u < length s.own
    lu = let l : u < length net.units = kind_within net u (λ z. (let m : Lsq n d ps gs fw ≡ Sink 0 = sym is ∙ z in cc)) in let o = good.owned in omega arith

    pair : (is_control a ≡ true → is_control b ≡ true → ⊥) → Either net s u a b
    pair c = queue_pair net s u n d ps gs fw checked.queues.join is good.long lu (good.queues u) a b c h g

    by : (x : Bool) → is_control a ≡ x → (y : Bool) → is_control b ≡ y → Either net s u a b
    by true ca true cb = inl (one_taker net s (firing u a) (firing u b) checked good h g (control_takes a ca) (control_takes b cb))
    by true ca false cb = pair (λ x y. cc)
    by false ca y cb = pair (λ x y. cc)
together net s u a b k is checked good h g =
    let x = goes net s (firing u a) h in
    let y = goes net s (firing u b) g in
    inl (ap (firing u) (plain_act net s u a k refl is x.0 x.1.is ∙ sym (plain_act net s u b k refl is y.0 y.1.is)))

pub diamond : (net : Net) → Premises net → Diamond State Firing (enabled net) (after net) (IsRegular net)
diamond net checked s f g good h1 h2 = by (cases_eq f.unit g.unit)
  where
    by : (f.unit ≡ g.unit) ⊎ (f.unit ≡ g.unit → ⊥) → (f ≡ g) ⊎ Commute State Firing (enabled net) (after net) s f g
    by (inr n) = inr (apart net s f g checked.alone good.long n h1 h2)
    by (inl e) =
        let P : ℕ → Type 0 = λ v. enabled net s (firing v g.act) → (f ≡ firing v g.act) ⊎ Commute State Firing (enabled net) (after net) s f (firing v g.act) in
        subst P e (λ h. together net s f.unit f.act g.act (kind_of net f.unit) refl checked good h1 h) h2
