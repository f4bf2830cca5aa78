-- What an enabled firing does, and two firings of two units.
use Rattle.std.proofs.Common.{◌≡◌, ◌≢◌, Option, Some, None, length, get_or, refl, sym, ap, subst, ◌∙◌, IsSomeAnd}
use Rattle.net_types.specs.declared.firing.Firing.{Firing}
use Rattle.net_types.specs.declared.net.Net.{Net}
use Rattle.net_types.specs.Nets.{kind_of, uses}
use Rattle.net_core.specs.Fire.{setting, Effect, State, idle, head_at, at_array, effect, enabled, after, after_effect, has_room, applied, row}
use Rattle.net_core.specs.Machine.{Commute}
use Rattle.net_core.proofs.Premises.{Alone}
use Rattle.net_core.proofs.RowLemmas.{Has, Each, took}
use Rattle.net_core.proofs.ApartLemmas.{roomy, not_put, states_comm, effect_past}

-- what an enabled firing does
pub record Goes (net : Net) (s : State) (f : Firing) (e : Effect) : Type 0 where
  pub is : effect net s f ≡ Some e
  pub room : has_room net s f.unit e.put

pub goes : (net : Net) (s : State) (f : Firing) → enabled net s f → (e : Effect) × Goes net s f e
goes net s f h = at (effect net s f) refl h
  where
    at : (o : Option Effect) → effect net s f ≡ o → IsSomeAnd o (λ e. has_room net s f.unit e.put) → (e : Effect) × Goes net s f e
    at None is h = absurd h
    at (Some e) is h = (e, record { is = is; room = h })

pub heads : (net : Net) (s : State) (f : Firing) (e : Effect) → effect net s f ≡ Some e → Each (Has (head_at net s f.unit)) e.takes
heads net s f e is = took (row (kind_of net f.unit) f.act (get_or s.own f.unit idle) (at_array s.arrays (uses (kind_of net f.unit))) (setting net s)) (head_at net s f.unit) e is

pub can_go : (net : Net) (s : State) (f : Firing) (e : Effect) → Goes net s f e → enabled net s f
can_go net s f e g = rw g.is g.room

-- four firings that close a diamond
pub closes : (net : Net) (s : State) (f g : Firing) (e1 e2 e1' e2' : Effect) → Goes net s f e1 → Goes net s g e2
    → Goes net (applied net g.unit e2 s) f e1' → Goes net (applied net f.unit e1 s) g e2'
    → applied net g.unit e2' (applied net f.unit e1 s) ≡ applied net f.unit e1' (applied net g.unit e2 s)
    → Commute State Firing (enabled net) (after net) s f g
closes net s f g e1 e2 e1' e2' g1 g2 g1' g2' meet =
    let a1 : after net s f ≡ applied net f.unit e1 s = ap (after_effect net s f.unit) g1.is in
    let a2 : after net s g ≡ applied net g.unit e2 s = ap (after_effect net s g.unit) g2.is in
    let b1 : after net (applied net g.unit e2 s) f ≡ applied net f.unit e1' (applied net g.unit e2 s) = ap (after_effect net (applied net g.unit e2 s) f.unit) g1'.is in
    let b2 : after net (applied net f.unit e1 s) g ≡ applied net g.unit e2' (applied net f.unit e1 s) = ap (after_effect net (applied net f.unit e1 s) g.unit) g2'.is in
    record {
      g_then = (let P : State → Type 0 = λ t. enabled net t g in subst P (sym a1) (can_go net (applied net f.unit e1 s) g e2' g2'));
      f_then = (let P : State → Type 0 = λ t. enabled net t f in subst P (sym a2) (can_go net (applied net g.unit e2 s) f e1' g1'));
      meet = ap (λ t. after net t g) a1 ∙ (b2 ∙ (meet ∙ (sym b1 ∙ ap (λ t. after net t f) (sym a2))));
    }

-- firings of two units
pub apart : (net : Net) (s : State) (f g : Firing) → Alone net → length s.tokens ≡ length net.chans → f.unit ≢ g.unit
    → enabled net s f → enabled net s g → Commute State Firing (enabled net) (after net) s f g
apart net s f g alone long ne h1 h2 =
    let w1 = goes net s f h1 in
    let w2 = goes net s g h2 in
    at w1.0 w2.0 w1.1 w2.1
  where
    at : (e1 e2 : Effect) → Goes net s f e1 → Goes net s g e2 → Commute State Firing (enabled net) (after net) s f g
    at e1 e2 g1 g2 =
        closes net s f g e1 e2 e1 e2 g1 g2
        (record {
          is = effect_past net s f g.unit e1 e2 alone ne long g1.is;
          room = roomy net s f.unit g.unit e2 e1.put long (λ w o l. not_put net f.unit g.unit w.place e2.put ne l) g1.room;
        })
        (record {
          is = effect_past net s g f.unit e2 e1 alone (λ x. ne (sym x)) long g2.is;
          room = roomy net s g.unit f.unit e1 e2.put long (λ w o l. not_put net g.unit f.unit w.place e1.put (λ x. ne (sym x)) l) g2.room;
        })
        (states_comm net s f.unit g.unit e1 e2 alone ne long (heads net s f e1 g1.is) (heads net s g e2 g2.is))
