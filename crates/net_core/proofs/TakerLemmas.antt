-- Firings that take a control token at a place of a unit that is no fork: at most one of them is enabled.
use Rattle.std.proofs.Common.{◌≡◌, ℕ, ◌<◌, ◌≤◌, Bool, true, false, Some, List, [], length, get_or, refl, sym, ap, ◌∙◌, inl, inr, arith}
use Rattle.std.proofs.lemmas.Bool.{cases_eq}
use Rattle.net_types.specs.declared.net.Port.{Port}
use Rattle.net_types.specs.declared.net.Unit.TheVariants.{Cmerge, Lsq}
use Rattle.net_types.specs.declared.firing.Act.{Act}
use Rattle.net_types.specs.declared.firing.Act.TheVariants.{From, Alloc, End}
use Rattle.net_types.specs.declared.firing.Firing.{Firing}
use Rattle.net_types.specs.declared.net.Net.{Net}
use Rattle.net_types.specs.Nets.{into, chan_at, firing, kind_of, uses}
use Rattle.net_check.specs.Controls.{ctl_in, ctl_out}
use Rattle.lsq_core.specs.Acts.{can, in_place, is_control}
use Rattle.net_core.specs.Fire.{setting, Effect, State, idle, tokens_at, head_at, at_array, enabled}
use Rattle.net_core.specs.Control.{held}
use Rattle.net_core.specs.Laws.{takes_control}
use Rattle.net_core.proofs.Premises.{Steers, Premises}
use Rattle.net_core.proofs.ApartLemmas.{into-at, is_at-inv, same_in, first_within, some_first}
use Rattle.net_core.proofs.GoesLemmas.{Goes, goes}
use Rattle.net_core.proofs.QueueActLemmas.{queue_inv, queue_effect, Given, one_in, lsq_is, group_within}
use Rattle.net_core.proofs.AccountLemmas.{is_fork}
use Rattle.net_core.proofs.ActLemmas.{merge_inv, from_kind, alloc_kind, end_kind, IsLsq}
use Rattle.net_core.proofs.TotalLemmas.{total_two}
use Rattle.net_core.proofs.CountLemmas.{early_none}
use Rattle.net_core.proofs.RegularLemmas.{IsRegular}

-- the channel has a counted token
pub record IsHeld (net : Net) (s : State) (c : ℕ) : Type 0 where
  pub within : c < length net.chans
  pub counts : 1 ≤ held net s c

-- a head at a control place of a unit that is no fork counts
pub counted_head : (net : Net) (s : State) (u p v : ℕ) → IsRegular net s → is_fork (kind_of net u) ≡ false → ctl_in net u p ≡ true → head_at net s u p ≡ Some v
    → IsHeld net s (into u p net.chans)
counted_head net s u p v good nf c h =
    let l : into u p net.chans < length net.chans = (let a = first_within s.tokens (into u p net.chans) v h in let b = good.long in omega arith) in
    let to : (chan_at net (into u p net.chans)).to.unit ≡ u = (is_at-inv (chan_at net (into u p net.chans)).to u p (into-at u p net.chans l)).0 in
    let z = early_none (kind_of net (chan_at net (into u p net.chans)).to.unit) (get_or s.own (chan_at net (into u p net.chans)).to.unit idle) (rw to nf) in
    let n = some_first (tokens_at s (into u p net.chans)) v h in
    record { within = l; counts = rw (c, z) (omega arith) }

-- two channels with a counted token are one
pub one_held : (net : Net) (s : State) (c d : ℕ) → IsRegular net s → IsHeld net s c → IsHeld net s d → c ≡ d
one_held net s c d good hc hd =
    elim (cases_eq c d) [
      | inl e ↦ e
      | inr n ↦ (let t = total_two (held net s) c d (length net.chans) n hc.within hd.within hc.counts hd.counts in let g = good.control in absurd (omega arith))
    ]

-- the act takes its control token at the place p of its unit
pub data TakesAt (net : Net) (s : State) (u : ℕ) (act : Act) (p : ℕ) : Type 0 where
  merges : (ins : ℕ) → kind_of net u ≡ Cmerge ins → act ≡ From p → TakesAt net s u act p
  passes : (a d : ℕ) (ps : List Port) (gs : List (List ℕ)) (fw : Bool) → kind_of net u ≡ Lsq a d ps gs fw → can d gs (get_or s.own u idle).queue act ≡ true
      → in_place gs act ≡ Some p → TakesAt net s u act p

-- where an enabled act takes a control token
pub record Taker (net : Net) (s : State) (u : ℕ) (act : Act) : Type 0 where
  pub place : ℕ
  pub takes : TakesAt net s u act place
  pub held : IsHeld net s (into u place net.chans)

-- an act of a queue that passes control
queue_taker : (net : Net) (s : State) (u : ℕ) (act : Act) (e : Effect) → Premises net → IsRegular net s → Goes net s (firing u act) e → IsLsq (kind_of net u) → is_control act ≡ true → Taker net s u act
queue_taker net s u act e checked good g k ca = at k.array k.depth k.ports k.groups k.mark k.is
  where
    at : (a d : ℕ) (ps : List Port) (gs : List (List ℕ)) (fw : Bool) → kind_of net u ≡ Lsq a d ps gs fw → Taker net s u act
    at a d ps gs fw is = by act refl (queue_inv d ps gs act (get_or s.own u idle) (get_or s.arrays a []) (head_at net s u) e (sym (lsq_is net u a d ps gs fw is s act) ∙ g.is))
      where
        st : Steers (Lsq a d ps gs fw) (ctl_in net u) (ctl_out net u)
        st = rw is at (checked.steered u)

        to : (p v : ℕ) (b : Act) → act ≡ b → can d gs (get_or s.own u idle).queue act ≡ true → in_place gs b ≡ Some p → p ≤ length gs → head_at net s u p ≡ Some v → Taker net s u act
        to p v b i c at l h = record {
          place = p;
          takes = passes a d ps gs fw is c (ap (in_place gs) i ∙ at);
          held = counted_head net s u p v good (rw is refl) (st.0 p l) h;
        }

        by : (b : Act) → act ≡ b → (v : ℕ) × (can d gs (get_or s.own u idle).queue act ≡ true) × Given (in_place gs act) (head_at net s u) v
            × (queue_effect ps gs act (get_or s.own u idle) (get_or s.arrays a []) v ≡ e) → Taker net s u act
        by (Alloc g) i w =
            let c : can d gs (get_or s.own u idle).queue (Alloc g) ≡ true = rw i at w.1 in
            let h : head_at net s u g ≡ Some w.0 = rw i at w.2 in
            to g w.0 (Alloc g) i w.1 refl (let l = group_within d gs (get_or s.own u idle).queue g c in omega arith) h
        by End i w =
            let h : head_at net s u (length gs) ≡ Some w.0 = rw i at w.2 in
            to (length gs) w.0 End i w.1 refl (omega arith) h
        by b i w = let z : is_control b ≡ true = rw i at ca in cc

pub taker : (net : Net) (s : State) (u : ℕ) (act : Act) (e : Effect) → Premises net → IsRegular net s → Goes net s (firing u act) e → takes_control act ≡ true → Taker net s u act
taker net s u (From j) e checked good g t =
    let k = from_kind (kind_of net u) j (get_or s.own u idle) (at_array s.arrays (uses (kind_of net u))) (setting net s) (head_at net s u) e g.is in
    at k.0 k.1
  where
    at : (ins : ℕ) → kind_of net u ≡ Cmerge ins → Taker net s u (From j)
    at ins is =
        let st : Steers (Cmerge ins) (ctl_in net u) (ctl_out net u) = rw is at (checked.steered u) in
        let m = merge_inv net s u ins (From j) is e g.is in
        let same : m.0 ≡ j = (let q : From j ≡ From m.0 = m.1 in cc) in
        let below : j < ins = (let l = m.2 in omega arith) in
        let head : head_at net s u j ≡ Some m.3 = rw same at m.4 in
        record { place = j; takes = merges ins is refl; held = counted_head net s u j m.3 good (rw is refl) (st.0 j below) head }
taker net s u (Alloc k) e checked good g t =
    queue_taker net s u (Alloc k) e checked good g
    (alloc_kind (kind_of net u) k (get_or s.own u idle) (at_array s.arrays (uses (kind_of net u))) (setting net s) (head_at net s u) e g.is) refl
taker net s u End e checked good g t =
    queue_taker net s u End e checked good g
    (end_kind (kind_of net u) (get_or s.own u idle) (at_array s.arrays (uses (kind_of net u))) (setting net s) (head_at net s u) e g.is) refl
taker net s u _ e checked good g t = cc

-- two acts that take at one place are one
same_act : (net : Net) (s : State) (u p : ℕ) (a b : Act) → TakesAt net s u a p → TakesAt net s u b p → a ≡ b
same_act net s u p a b (merges i k x) (merges j l y) = x ∙ sym y
same_act net s u p a b (merges i k x) (passes n d ps gs fw l c y) = let z : Cmerge i ≡ Lsq n d ps gs fw = sym k ∙ l in cc
same_act net s u p a b (passes n d ps gs fw l c y) (merges i k x) = let z : Cmerge i ≡ Lsq n d ps gs fw = sym k ∙ l in cc
same_act net s u p a b (passes n d ps gs fw k c x) (passes n' d' ps' gs' fw' l c' y) =
    let z : Lsq n d ps gs fw ≡ Lsq n' d' ps' gs' fw' = sym k ∙ l in
    let dd : d' ≡ d = cc in
    let gg : gs' ≡ gs = cc in
    one_in d gs (get_or s.own u idle).queue a b p c (rw (dd, gg) at c') x (rw gg at y)

pub one_taker : (net : Net) (s : State) (f g : Firing) → Premises net → IsRegular net s → enabled net s f → enabled net s g
    → takes_control f.act ≡ true → takes_control g.act ≡ true → f ≡ g
one_taker net s f g checked good hf hg tf tg =
    let w = goes net s f hf in
    let x = goes net s g hg in
    let a = taker net s f.unit f.act w.0 checked good w.1 tf in
    let b = taker net s g.unit g.act x.0 checked good x.1 tg in
    let c = one_held net s (into f.unit a.place net.chans) (into g.unit b.place net.chans) good a.held b.held in
    let i = same_in f.unit g.unit a.place b.place net.chans a.held.within c in
    at a.place b.place a.takes b.takes i.0 i.1
  where
    at : (p q : ℕ) → TakesAt net s f.unit f.act p → TakesAt net s g.unit g.act q → f.unit ≡ g.unit → p ≡ q → f ≡ g
    at p q a b u e =
        let b' : TakesAt net s f.unit g.act p = rw (u, e) b in
        let acts = same_act net s f.unit p f.act g.act a b' in
        λ i. record { unit = u i; act = acts i }
