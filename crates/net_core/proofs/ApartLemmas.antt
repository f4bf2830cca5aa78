-- Firings of two different units.
use Rattle.std.proofs.Common.{◌≡◌, ◌≢◌, ℕ, suc, zero, ◌+◌, ◌<◌, ◌≤◌, ◌||◌, ◌==◌, Bool, true, false, cond, Option, Some, None, List, [], ◌∷◌, length, map, get_or, set, refl, sym, ap, arith, eqb-true, ne_eqb, get_or-set_other, set-set}
use Rattle.std.proofs.lemmas.Bool.{and_parts}
use Rattle.std.proofs.Math.Seq.{set_comm}
use Rattle.net_types.specs.declared.net.Place.{Place}
use Rattle.net_types.specs.declared.net.Chan.{Chan}
use Rattle.net_types.specs.declared.net.Net.{Net}
use Rattle.net_types.specs.declared.net.Unit.{Unit as Kind}
use Rattle.net_types.specs.declared.net.Unit.TheVariants.{Lsq}
use Rattle.net_types.specs.declared.firing.Firing.{Firing}
use Rattle.net_types.specs.Nets.{into, out_of, is_at, nowhere, kind_of, uses, owns}
use Rattle.net_core.specs.Fire.{setting, Effect, among, taken, added, changed_from, Put, State, idle, tokens_at, first, head_at, at_array, effect, has_room, takes_from, puts_on, moved, written, raised, counted, applied, row}
use Rattle.net_core.proofs.Premises.{Alone}
use Rattle.net_core.proofs.RowLemmas.{steady, Has, Each, swap, get-changed, changed-meet}

pub is_at-inv : (x : Place) (u p : ℕ) → is_at x u p ≡ true → (x.unit ≡ u) × (x.place ≡ p)
is_at-inv x u p e =
    let w = and_parts (x.unit == u) (x.place == p) e in
    (eqb-true _ _ w.0, eqb-true _ _ w.1)

at : (f : Chan → Place) (c : Chan) (cs : List Chan) (u p n : ℕ) (b : Bool) → is_at (f c) u p ≡ b → cond b 0 (suc n) < suc (length cs)
    → (n < length cs → is_at (f (get_or cs n nowhere)) u p ≡ true) → is_at (f (get_or (c ∷ cs) (cond b 0 (suc n)) nowhere)) u p ≡ true
at f c cs u p n true is l rest = is
at f c cs u p n false is l rest = rest (omega arith)

pub into-at : (u p : ℕ) (cs : List Chan) → into u p cs < length cs → is_at (get_or cs (into u p cs) nowhere).to u p ≡ true
into-at u p [] l = absurd (omega arith)
into-at u p (c ∷ cs) l = at (λ x. x.to) c cs u p (into u p cs) (is_at c.to u p) refl l (into-at u p cs)

pub out_of-at : (u p : ℕ) (cs : List Chan) → out_of u p cs < length cs → is_at (get_or cs (out_of u p cs) nowhere).from u p ≡ true
out_of-at u p [] l = absurd (omega arith)
out_of-at u p (c ∷ cs) l = at (λ x. x.from) c cs u p (out_of u p cs) (is_at c.from u p) refl l (out_of-at u p cs)

pub same_in : (u v p q : ℕ) (cs : List Chan) → into u p cs < length cs → into u p cs ≡ into v q cs → (u ≡ v) × (p ≡ q)
same_in u v p q cs l e =
    let a = is_at-inv (get_or cs (into u p cs) nowhere).to u p (into-at u p cs l) in
    let b = is_at-inv (get_or cs (into u p cs) nowhere).to v q (rw e (into-at v q cs (omega arith))) in
    (omega (arith, a, b), omega (arith, a, b))

pub same_out : (u v p q : ℕ) (cs : List Chan) → out_of u p cs < length cs → out_of u p cs ≡ out_of v q cs → (u ≡ v) × (p ≡ q)
same_out u v p q cs l e =
    let a = is_at-inv (get_or cs (out_of u p cs) nowhere).from u p (out_of-at u p cs l) in
    let b = is_at-inv (get_or cs (out_of u p cs) nowhere).from v q (rw e (out_of-at v q cs (omega arith))) in
    (omega (arith, a, b), omega (arith, a, b))

pub among_none : (c : ℕ) (ds : List ℕ) → Each (λ d. c ≢ d) ds → among c ds ≡ false
among_none c [] h = refl
among_none c (d ∷ ds) h = rw (ne_eqb c d h.0) (among_none c ds h.1)

pub among_some : (P : ℕ → Type 0) (c : ℕ) (f : ℕ → ℕ) (ds : List ℕ) → among c (map f ds) ≡ true → Each P ds → (d : ℕ) × (c ≡ f d) × P d
among_some P c f [] e h = cc
among_some P c f (d ∷ ds) e h = by (c == f d) refl e (λ x. among_some P c f ds x h.1)
  where
    by : (b : Bool) → (c == f d) ≡ b → (b || among c (map f ds)) ≡ true → (among c (map f ds) ≡ true → (d' : ℕ) × (c ≡ f d') × P d') → (d' : ℕ) × (c ≡ f d') × P d'
    by true is q rest = (d, eqb-true _ _ is, h.0)
    by false is q rest = rest q

pub first_within : (xss : List (List ℕ)) (k x : ℕ) → first (get_or xss k []) ≡ Some x → k < length xss
first_within [] k x e = cc
first_within (y ∷ xss) zero x e = omega arith
first_within (y ∷ xss) (suc k) x e = let h = first_within xss k x e in omega arith

pub some_first : (xs : List ℕ) (x : ℕ) → first xs ≡ Some x → 1 ≤ length xs
some_first [] x h = cc
some_first (y ∷ xs) x h = omega arith

slots_within : (cs : List Chan) (k n : ℕ) → n < (get_or cs k nowhere).slots → k < length cs
slots_within [] k n h = absurd (omega arith)
slots_within (c ∷ cs) zero n h = omega arith
slots_within (c ∷ cs) (suc k) n h = let r = slots_within cs k n h in omega arith

first-added : (a : Option ℕ) (xs : List ℕ) (x : ℕ) → first xs ≡ Some x → first (added a xs) ≡ Some x
first-added None xs x e = e
first-added (Some v) [] x e = cc
first-added (Some v) (y ∷ xs) x e = e

pub length-taken : (g : Bool) (xs : List ℕ) → length (taken g xs) ≤ length xs
length-taken true [] = omega arith
length-taken true (x ∷ xs) = omega arith
length-taken false xs = omega arith

raised_comm : (n m : ℕ) (xs : List ℕ) (a b : ℕ) → raised n (raised m xs b) a ≡ raised m (raised n xs a) b
raised_comm n m [] a b = refl
raised_comm n m (x ∷ xs) zero zero = let e : (x + m) + n ≡ (x + n) + m = omega arith in ap (λ y. y ∷ xs) e
raised_comm n m (x ∷ xs) zero (suc b) = refl
raised_comm n m (x ∷ xs) (suc a) zero = refl
raised_comm n m (x ∷ xs) (suc a) (suc b) = ap (λ r. x ∷ r) (raised_comm n m xs a b)

pub counted_comm : (o p : Option ℕ) (n m : ℕ) (xs : List ℕ) → counted o n (counted p m xs) ≡ counted p m (counted o n xs)
counted_comm None p n m xs = refl
counted_comm (Some a) None n m xs = refl
counted_comm (Some a) (Some b) n m xs = raised_comm n m xs a b

pub written_comm : (o p : Option ℕ) (xs ys : List ℕ) (arrays : List (List ℕ)) → ((a : ℕ) → o ≡ Some a → p ≡ Some a → ⊥)
    → written o xs (written p ys arrays) ≡ written p ys (written o xs arrays)
written_comm None p xs ys arrays h = refl
written_comm (Some a) None xs ys arrays h = refl
written_comm (Some a) (Some b) xs ys arrays h = set_comm arrays b a ys xs (λ e. h a refl (ap Some e))

pub read_past : (o p : Option ℕ) (xs : List ℕ) (arrays : List (List ℕ)) → ((a : ℕ) → o ≡ Some a → p ≡ Some a → ⊥)
    → at_array (written o xs arrays) p ≡ at_array arrays p
read_past None p xs arrays h = refl
read_past (Some a) None xs arrays h = refl
read_past (Some a) (Some b) xs arrays h = get_or-set_other arrays a b xs [] (λ e. h a refl (ap Some e))

pub owns-uses : (k : Kind) (a : ℕ) → owns k ≡ Some a → uses k ≡ Some a
owns-uses (Lsq n d ps gs fw) a e = e
owns-uses _ a e = cc

-- u's channels are not v's
pub not_taken : (net : Net) (u v p : ℕ) (e : Effect) → u ≢ v → into u p net.chans < length net.chans → takes_from net v e (into u p net.chans) ≡ false
not_taken net u v p e ne l = among_none (into u p net.chans) (map (λ q. into v q net.chans) e.takes) (all e.takes)
  where
    all : (ps : List ℕ) → Each (λ d. into u p net.chans ≢ d) (map (λ q. into v q net.chans) ps)
    all [] = tt
    all (q ∷ ps) = ((λ x. ne (same_in u v p q net.chans l x).0), all ps)

pub not_put : (net : Net) (u v p : ℕ) (o : Option Put) → u ≢ v → out_of u p net.chans < length net.chans → puts_on net v o (out_of u p net.chans) ≡ None
not_put net u v p None ne l = refl
not_put net u v p (Some w) ne l =
    let e : (out_of u p net.chans == out_of v w.place net.chans) ≡ false =
    ne_eqb (out_of u p net.chans) (out_of v w.place net.chans) (λ x. ne (same_out u v p w.place net.chans l x).0) in
    rw e refl

-- a head that a firing does not take stays
pub seen : (net : Net) (s : State) (u v p x : ℕ) (e : Effect) → length s.tokens ≡ length net.chans → (into u p net.chans < length net.chans → takes_from net v e (into u p net.chans) ≡ false)
    → head_at net s u p ≡ Some x → head_at net (applied net v e s) u p ≡ Some x
seen net s u v p x e long free h =
    let c = into u p net.chans in
    let l : c < length s.tokens = first_within s.tokens c x h in
    let t : tokens_at (applied net v e s) c ≡ moved net v e c (tokens_at s c) = get-changed (moved net v e) 0 s.tokens c c (omega arith) l in
    let g : takes_from net v e c ≡ false = free (omega arith) in
    rw (t, g) (first-added (puts_on net v e.put c) (tokens_at s c) x h)

-- room at a place on whose channel a firing does not put stays
pub roomy : (net : Net) (s : State) (u v : ℕ) (e : Effect) (o : Option Put) → length s.tokens ≡ length net.chans
    → ((w : Put) → o ≡ Some w → out_of u w.place net.chans < length net.chans → puts_on net v e.put (out_of u w.place net.chans) ≡ None)
    → has_room net s u o → has_room net (applied net v e s) u o
roomy net s u v e None long free h = tt
roomy net s u v e (Some w) long free h =
    let c = out_of u w.place net.chans in
    let l : c < length net.chans = slots_within net.chans c (length (tokens_at s c)) h in
    let t : tokens_at (applied net v e s) c ≡ moved net v e c (tokens_at s c) = get-changed (moved net v e) 0 s.tokens c c (omega arith) (omega arith) in
    let n : puts_on net v e.put c ≡ None = free w refl l in
    rw (t, n) (let m = length-taken (takes_from net v e c) (tokens_at s c) in omega arith)

pub puts-inv : (net : Net) (u c : ℕ) (o : Option Put) → puts_on net u o c ≢ None → (w : Put) × (o ≡ Some w) × (c ≡ out_of u w.place net.chans)
puts-inv net u c None h = absurd (h refl)
puts-inv net u c (Some w) h = (w, refl, by (c == out_of u w.place net.chans) refl h)
  where
    by : (b : Bool) → (c == out_of u w.place net.chans) ≡ b → cond b (Some w.value) None ≢ None → c ≡ out_of u w.place net.chans
    by true is n = eqb-true _ _ is
    by false is n = absurd (n refl)

-- the effect of an enabled firing: what it is, with room
pub record Can (net : Net) (s : State) (u : ℕ) (h : ℕ → Option ℕ) (e : Effect) : Type 0 where
  pub heads : Each (Has h) e.takes
  pub room : has_room net s u e.put

-- no channel is taken from, or put on, by both
pub record Clear (net : Net) (u v : ℕ) (e1 e2 : Effect) : Type 0 where
  pub takes : (c : ℕ) → c < length net.chans → takes_from net u e1 c ≡ true → takes_from net v e2 c ≡ true → ⊥
  pub puts : (c : ℕ) → c < length net.chans → puts_on net u e1.put c ≢ None → puts_on net v e2.put c ≢ None → ⊥

pub full : (net : Net) (s : State) (w c k : ℕ) (ps : List ℕ) → k ≡ c → Each (Has (head_at net s w)) ps → among c (map (λ p. into w p net.chans) ps) ≡ true → get_or s.tokens k [] ≢ []
full net s w c k ps at h g none =
    let a = among_some (Has (head_at net s w)) c (λ p. into w p net.chans) ps g h in
    let z : first (tokens_at s (into w a.0 net.chans)) ≡ Some a.2.0 = a.2.1 in
    let y : into w a.0 net.chans ≡ k = omega (arith, a.1) in
    let x : first (get_or s.tokens k []) ≡ Some a.2.0 = rw y at z in
    cc

-- on one channel, in either order
pub one_channel : (net : Net) (s : State) (u v : ℕ) (e1 e2 : Effect) → Clear net u v e1 e2
    → Each (Has (head_at net s u)) e1.takes → Each (Has (head_at net s v)) e2.takes → (c k : ℕ) → k ≡ c → c < length net.chans
    → moved net v e2 c (moved net u e1 c (get_or s.tokens k [])) ≡ moved net u e1 c (moved net v e2 c (get_or s.tokens k []))
one_channel net s u v e1 e2 clear h1 h2 c k at l =
    swap (takes_from net u e1 c) (takes_from net v e2 c) (puts_on net u e1.put c) (puts_on net v e2.put c) (get_or s.tokens k [])
    (full net s u c k e1.takes at h1) (full net s v c k e2.takes at h2) (clear.takes c l) (clear.puts c l)

-- the tokens do not tell in which order two firings were made
pub tokens_comm : (net : Net) (s : State) (u v : ℕ) (e1 e2 : Effect) → Clear net u v e1 e2 → length s.tokens ≡ length net.chans
    → Each (Has (head_at net s u)) e1.takes → Each (Has (head_at net s v)) e2.takes
    → changed_from (moved net v e2) 0 (changed_from (moved net u e1) 0 s.tokens) ≡ changed_from (moved net u e1) 0 (changed_from (moved net v e2) 0 s.tokens)
tokens_comm net s u v e1 e2 clear long h1 h2 =
    changed-meet (moved net v e2) (moved net u e1) (moved net v e2) (moved net u e1) 0 s.tokens
    (λ c k at l. let e : k ≡ c = omega arith in one_channel net s u v e1 e2 clear h1 h2 c k e (omega arith))

pub written_twice : (o : Option ℕ) (xs ys : List ℕ) (arrays : List (List ℕ)) → written o ys (written o xs arrays) ≡ written o ys arrays
written_twice None xs ys arrays = refl
written_twice (Some a) xs ys arrays = set-set arrays a xs ys

-- two units have no channel in common at one end
pub clear : (net : Net) (s : State) (u v : ℕ) (e1 e2 : Effect) → u ≢ v → Each (Has (head_at net s u)) e1.takes → Clear net u v e1 e2
clear net s u v e1 e2 ne heads = record {
  takes = λ c l g1 g2.
      let a = among_some (Has (head_at net s u)) c (λ p. into u p net.chans) e1.takes g1 heads in
      let m : into u a.0 net.chans < length net.chans = omega (arith, a.1) in
      let n : takes_from net v e2 (into u a.0 net.chans) ≡ false = not_taken net u v a.0 e2 ne m in
      let i : c ≡ into u a.0 net.chans = a.1 in
      let g2' : takes_from net v e2 (into u a.0 net.chans) ≡ true = rw (← i) g2 in
      cc;
  puts = λ c l a1 a2.
      let w = puts-inv net u c e1.put a1 in
      let m : out_of u w.0.place net.chans < length net.chans = omega (arith, w.2) in
      let n : puts_on net v e2.put (out_of u w.0.place net.chans) ≡ None = not_put net u v w.0.place e2.put ne m in
      let i : c ≡ out_of u w.0.place net.chans = w.2 in
      a2 (rw i n);
}

pub states_comm : (net : Net) (s : State) (u v : ℕ) (e1 e2 : Effect) → Alone net → u ≢ v → length s.tokens ≡ length net.chans
    → Each (Has (head_at net s u)) e1.takes → Each (Has (head_at net s v)) e2.takes
    → applied net v e2 (applied net u e1 s) ≡ applied net u e1 (applied net v e2 s)
states_comm net s u v e1 e2 alone ne long h1 h2 =
    let t = tokens_comm net s u v e1 e2 (clear net s u v e1 e2 ne h1) long h1 h2 in
    let o : set (set s.own u e1.own) v e2.own ≡ set (set s.own v e2.own) u e1.own = set_comm s.own u v e1.own e2.own ne in
    let a = written_comm (owns (kind_of net v)) (owns (kind_of net u)) e2.array e1.array s.arrays
    (λ a x y. alone v u a (λ z. ne (sym z)) x (owns-uses (kind_of net u) a y)) in
    let c = counted_comm (uses (kind_of net v)) (uses (kind_of net u)) e2.strays e1.strays s.strays in
    λ i. record { scalars = s.scalars; tokens = t i; own = o i; arrays = a i; strays = c i }

-- the effect of a firing is the same after one of another unit
pub effect_past : (net : Net) (s : State) (f : Firing) (v : ℕ) (e1 e2 : Effect) → Alone net → f.unit ≢ v → length s.tokens ≡ length net.chans
    → effect net s f ≡ Some e1 → effect net (applied net v e2 s) f ≡ Some e1
effect_past net s f v e1 e2 alone ne long is =
    let k = kind_of net f.unit in
    let own : get_or (set s.own v e2.own) f.unit idle ≡ get_or s.own f.unit idle = get_or-set_other s.own v f.unit e2.own idle ne in
    let array : at_array (written (owns (kind_of net v)) e2.array s.arrays) (uses k) ≡ at_array s.arrays (uses k) =
    read_past (owns (kind_of net v)) (uses k) e2.array s.arrays (λ a x y. alone v f.unit a (λ z. ne (sym z)) x y) in
    let r : row k f.act (get_or (set s.own v e2.own) f.unit idle) (at_array (written (owns (kind_of net v)) e2.array s.arrays) (uses k)) (setting net s)
    ≡ row k f.act (get_or s.own f.unit idle) (at_array s.arrays (uses k)) (setting net s) = cc in
    rw r (steady (row k f.act (get_or s.own f.unit idle) (at_array s.arrays (uses k)) (setting net s))
    (head_at net s f.unit) (head_at net (applied net v e2 s) f.unit) e1 is (λ p x h. seen net s f.unit v p x e2 long (not_taken net f.unit v p e2 ne) h))
