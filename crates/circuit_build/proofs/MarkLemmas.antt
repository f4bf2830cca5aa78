-- What a firing does to tokens seen by the places where their channels begin.
use Rattle.std.proofs.Common.{◌≡◌, ℕ, zero, suc, ◌+◌, ◌<◌, ◌≤◌, ◌⊎◌, ◌==◌, ◌&&◌, ◌||◌, Bool, true, false, cond, Option, Some, None, List, [], ◌∷◌, ◌++◌, length, get_or, set, map, refl, sym, ap, subst, ◌∙◌, inl, inr, arith, eq-eqb, eqb-true, ne_eqb, IsSomeAnd, length-set, get_or-set_same, get_or-set_other, slice_get}
use Rattle.std.proofs.lemmas.Bool.{cases_eq}
use Rattle.net_types.specs.declared.net.Chan.{Chan}
use Rattle.net_types.specs.declared.net.Net.{Net}
use Rattle.net_types.specs.declared.net.Place.{Place}
use Rattle.net_types.specs.declared.net.Unit.{Unit as Kind}
use Rattle.net_types.specs.declared.net.Unit.TheVariants.{Sink}
use Rattle.net_types.specs.declared.firing.Act.{Act}
use Rattle.net_types.specs.declared.firing.Firing.{Firing}
use Rattle.net_types.specs.Nets.{is_at, into, out_of, nowhere, kind_of, uses, owns, at, firing}
use Rattle.net_core.specs.declared.plan.Put.{Put}
use Rattle.net_core.specs.Fire.{State, Own, idle, Effect, effect, effect_of, has_room, after, after_effect, applied, head_at, first, tokens_at, among, taken, added, puts_on, changed_from, moved, written, raised, counted, row, at_array, setting}
use Rattle.net_core.specs.Runs.{Leads}
use Rattle.circuit_build.proofs.Marks.{Marks, Wired, popped, popped_all, put_mark, Aside, own_set, Shows, Goes, Fed, Free}

-- ---- places and their channels

both_true : (a b : Bool) → a && b ≡ true → (a ≡ true) × (b ≡ true)
both_true true true e = (refl, refl)
both_true true false e = cc
both_true false b e = cc

pub is_at_inv : (r p : Place) → is_at r p.unit p.place ≡ true → r ≡ p
is_at_inv r p e =
    let w = both_true (r.unit == p.unit) (r.place == p.place) e in
    ap (λ u. at u r.place) (eqb-true _ _ w.0) ∙ ap (λ q. at p.unit q) (eqb-true _ _ w.1)

starts_there : (p : Place) (cs : List Chan) → out_of p.unit p.place cs < length cs → is_at (get_or cs (out_of p.unit p.place cs) nowhere).from p.unit p.place ≡ true
starts_there p [] l = absurd (omega arith)
starts_there p (c ∷ cs) l = by (is_at c.from p.unit p.place) refl l (starts_there p cs)
  where
    by : (b : Bool) → is_at c.from p.unit p.place ≡ b → cond b 0 (suc (out_of p.unit p.place cs)) < suc (length cs)
        → (out_of p.unit p.place cs < length cs → is_at (get_or cs (out_of p.unit p.place cs) nowhere).from p.unit p.place ≡ true)
        → is_at (get_or (c ∷ cs) (cond b 0 (suc (out_of p.unit p.place cs))) nowhere).from p.unit p.place ≡ true
    by true e l rest = e
    by false e l rest = rest (omega arith)

-- whether the channel of one place is that of another
same_chan : (net : Net) (p q r : Place) → Wired net p q → (out_of r.unit r.place net.chans == out_of p.unit p.place net.chans) ≡ is_at r p.unit p.place
same_chan net p q r w = by (is_at r p.unit p.place) refl
  where
    by : (b : Bool) → is_at r p.unit p.place ≡ b → (out_of r.unit r.place net.chans == out_of p.unit p.place net.chans) ≡ b
    by true e = eq-eqb _ _ (ap (λ (x : Place). out_of x.unit x.place net.chans) (is_at_inv r p e))
    by false e = ne_eqb _ _ (λ k.
        let there : Place = (get_or net.chans (out_of p.unit p.place net.chans) nowhere).from in
        let a : there ≡ p = is_at_inv there p (starts_there p net.chans w.within) in
        let l : out_of r.unit r.place net.chans < length net.chans = (let i = w.within in omega (arith, k, i)) in
        let b : there ≡ r = is_at_inv there r (subst (λ n. is_at (get_or net.chans n nowhere).from r.unit r.place ≡ true) k (starts_there r net.chans l)) in
        let c : is_at r p.unit p.place ≡ true = subst (λ (x : Place). is_at x p.unit p.place ≡ true) (sym a ∙ b) (let x : (p.unit == p.unit) ≡ true = eq-eqb _ _ refl in let y : (p.place == p.place) ≡ true = eq-eqb _ _ refl in rw (x, y) refl) in
        cc)

-- ---- the tokens of one channel

abbrev member : Place → List Place → Bool
member r [] = false
member r (p ∷ ps) = is_at r p.unit p.place || member r ps

-- what is taken again and again is taken
drained : (ps : List Place) (m : Marks) (r : Place) → (member r ps ≡ true → taken true (m r) ≡ []) → popped_all ps m r ≡ taken (member r ps) (m r)
drained [] m r h = refl
drained (p ∷ ps) m r h = by (is_at r p.unit p.place) refl h (drained ps (popped p m) r)
  where
    none : (b : Bool) → taken b [] ≡ []
    none true = refl
    none false = refl

    by : (b : Bool) → is_at r p.unit p.place ≡ b → ((b || member r ps) ≡ true → taken true (m r) ≡ [])
        → ((member r ps ≡ true → taken true (popped p m r) ≡ []) → popped_all ps (popped p m) r ≡ taken (member r ps) (popped p m r)) → popped_all ps (popped p m) r ≡ taken (b || member r ps) (m r)
    by true e h rest =
        let e0 : popped p m r ≡ [] = rw e (h refl) in
        rest (λ x. ap (taken true) e0) ∙ (ap (taken (member r ps)) e0 ∙ (none (member r ps) ∙ sym (h refl)))
    by false e h rest =
        let e0 : popped p m r ≡ m r = rw e refl in
        rest (λ x. ap (taken true) e0 ∙ h x) ∙ ap (taken (member r ps)) e0

one_token : (net : Net) (u : ℕ) (m : Marks) (qs : List ℕ) (ps : List Place) → Fed net u m qs ps → (r : Place) → member r ps ≡ true → taken true (m r) ≡ []
one_token net u m [] [] f r e = cc
one_token net u m [] (p ∷ ps) f r e = absurd f
one_token net u m (q ∷ qs) [] f r e = absurd f
one_token net u m (q ∷ qs) (p ∷ ps) f r e = by (is_at r p.unit p.place) refl e (one_token net u m qs ps f.2 r)
  where
    by : (b : Bool) → is_at r p.unit p.place ≡ b → (b || member r ps) ≡ true → (member r ps ≡ true → taken true (m r) ≡ []) → taken true (m r) ≡ []
    by true i e rest = ap (taken true) (ap m (is_at_inv r p i) ∙ f.1.1)
    by false i e rest = rest e

from_member : (net : Net) (u : ℕ) (m : Marks) (qs : List ℕ) (ps : List Place) → Fed net u m qs ps → (r : Place) → among (out_of r.unit r.place net.chans) (map (λ q. into u q net.chans) qs) ≡ member r ps
from_member net u m [] [] f r = refl
from_member net u m [] (p ∷ ps) f r = absurd f
from_member net u m (q ∷ qs) [] f r = absurd f
from_member net u m (q ∷ qs) (p ∷ ps) f r =
    let a : (out_of r.unit r.place net.chans == into u q net.chans) ≡ is_at r p.unit p.place = ap (λ n. out_of r.unit r.place net.chans == n) f.0.joined ∙ same_chan net p (at u q) r f.0 in
    let b = from_member net u m qs ps f.2 r in
    rw (a, b) refl

put_there : (net : Net) (u : ℕ) (o : Option Put) (m m' : Marks) (r : Place) → Free net u m o → added (puts_on net u o (out_of r.unit r.place net.chans)) (m' r) ≡ put_mark u o m' r
put_there net u None m m' r f = refl
put_there net u (Some w) m m' r f = let e = same_chan net (at u w.place) f.0.0 r f.0.1 in rw e (by (is_at r u w.place))
  where
    by : (b : Bool) → added (cond b (Some w.value) None) (m' r) ≡ cond b (m' r ++ w.value ∷ []) (m' r)
    by true = refl
    by false = refl

-- a firing on the channel of a place
moved_there : (net : Net) (u : ℕ) (e : Effect) (srcs : List Place) (m : Marks) → Fed net u m e.takes srcs → Free net u m e.put → (r : Place)
    → moved net u e (out_of r.unit r.place net.chans) (m r) ≡ put_mark u e.put (popped_all srcs m) r
moved_there net u e srcs m fed free r =
    ap (λ b. added (puts_on net u e.put (out_of r.unit r.place net.chans)) (taken b (m r))) (from_member net u m e.takes srcs fed r)
    ∙ (ap (added (puts_on net u e.put (out_of r.unit r.place net.chans))) (sym (drained srcs m r (one_token net u m e.takes srcs fed r)))
    ∙ put_there net u e.put m (popped_all srcs m) r free)

-- ---- all channels

length_changed : (f : ℕ → List ℕ → List ℕ) (i : ℕ) (xss : List (List ℕ)) → length (changed_from f i xss) ≡ length xss
length_changed f i [] = refl
length_changed f i (x ∷ xss) = ap suc (length_changed f (suc i) xss)

-- past the channels nothing is put
get_changed : (f : ℕ → List ℕ → List ℕ) (i : ℕ) (xss : List (List ℕ)) (k c : ℕ) → c ≡ i + k → (length xss ≤ k → f c [] ≡ []) → get_or (changed_from f i xss) k [] ≡ f c (get_or xss k [])
get_changed f i [] k c e h = sym (h (omega arith))
get_changed f i (x ∷ xss) zero c e h = let z : i ≡ c = omega (arith, e) in ap (λ n. f n x) z
get_changed f i (x ∷ xss) (suc k) c e h = get_changed f (suc i) xss k c (omega (arith, e)) (λ l. h (omega (arith, l)))

none_past : (net : Net) (u : ℕ) (m : Marks) (o : Option Put) (c : ℕ) → Free net u m o → length net.chans ≤ c → puts_on net u o c ≡ None
none_past net u m None c f l = refl
none_past net u m (Some w) c f l =
    let i = f.0.1.within in
    let n : (c == out_of u w.place net.chans) ≡ false = ne_eqb _ _ (λ k. absurd (omega (arith, k, i, l))) in
    rw n refl

tokens_after : (net : Net) (u : ℕ) (e : Effect) (srcs : List Place) (ts : List (List ℕ)) (m : Marks) → length ts ≡ length net.chans → ((r : Place) → get_or ts (out_of r.unit r.place net.chans) [] ≡ m r)
    → Fed net u m e.takes srcs → Free net u m e.put → (r : Place) → get_or (changed_from (moved net u e) 0 ts) (out_of r.unit r.place net.chans) [] ≡ put_mark u e.put (popped_all srcs m) r
tokens_after net u e srcs ts m long sees fed free r =
    get_changed (moved net u e) 0 ts (out_of r.unit r.place net.chans) (out_of r.unit r.place net.chans) (omega arith)
    (λ l. (let n = none_past net u m e.put (out_of r.unit r.place net.chans) free (omega (arith, l, long)) in ap (λ o. added o (taken (among (out_of r.unit r.place net.chans) (map (λ q. into u q net.chans) e.takes)) [])) n ∙ none (among (out_of r.unit r.place net.chans) (map (λ q. into u q net.chans) e.takes))))
    ∙ (ap (moved net u e (out_of r.unit r.place net.chans)) (sees r) ∙ moved_there net u e srcs m fed free r)
  where
    none : (b : Bool) → taken b [] ≡ []
    none true = refl
    none false = refl

own_after : (os : List Own) (qs : ℕ → Own) (u : ℕ) (o : Own) → u < length os → ((v : ℕ) → get_or os v idle ≡ qs v) → (v : ℕ) → get_or (set os u o) v idle ≡ own_set u o qs v
own_after os qs u o l h v = by (cases_eq v u)
  where
    by : (v ≡ u) ⊎ (v ≡ u → ⊥) → get_or (set os u o) v idle ≡ cond (v == u) o (qs v)
    by (inl e) = let b : (v == u) ≡ true = eq-eqb v u e in let g : get_or (set os u o) u idle ≡ o = get_or-set_same os u o idle l in rw (b, e) g
    by (inr n) = let b : (v == u) ≡ false = ne_eqb v u n in rw b (get_or-set_other os u v o idle n ∙ h v)

raised_few : (n : ℕ) (xs : List ℕ) (a b : ℕ) → get_or (raised n xs a) b 0 ≤ get_or xs b 0 + n
raised_few n [] a b = omega arith
raised_few n (x ∷ xs) zero zero = omega arith
raised_few n (x ∷ xs) zero (suc b) = omega arith
raised_few n (x ∷ xs) (suc a) zero = omega arith
raised_few n (x ∷ xs) (suc a) (suc b) = raised_few n xs a b

counted_few : (o : Option ℕ) (n : ℕ) (xs : List ℕ) (b : ℕ) → get_or (counted o n xs) b 0 ≤ get_or xs b 0 + n
counted_few None n xs b = omega arith
counted_few (Some a) n xs b = raised_few n xs a b

-- ---- one firing

-- beside the tokens, after an effect
abbrev pub aside_after : ℕ → Effect → List (List ℕ) → Aside → Aside
aside_after u e arrays a = record { own = own_set u e.own a.own; arrays = arrays; strays = a.strays + e.strays }

-- what is taken is popped, and what is put is pushed
pub moves : (net : Net) (scalars : List ℕ) (s : State) (m : Marks) (a : Aside) → Shows net scalars s m a
    → (u : ℕ) (act : Act) (e : Effect) (srcs : List Place) → u < length net.units → effect net s (firing u act) ≡ Some e → Fed net u m e.takes srcs → Free net u m e.put
    → Goes net scalars s (firing u act ∷ []) (put_mark u e.put (popped_all srcs m)) (aside_after u e (written (owns (kind_of net u)) e.array s.arrays) a)
moves net scalars s m a h u act e srcs lu is fed free = record {
  to = applied net u e s;
  run = (subst (λ x. IsSomeAnd x (λ y. has_room net s u y.put)) (sym is) (room e.put free), ap (after_effect net s u) is);
  shows = record {
    given = h.given;
    sees = tokens_after net u e srcs s.tokens m h.long h.sees fed free;
    own = own_after s.own a.own u e.own (let k = h.owned in omega (arith, k, lu)) h.own;
    same = refl;
    few = λ b. (let k = counted_few (uses (kind_of net u)) e.strays s.strays b in let l = h.few b in omega (arith, k, l));
    long = length_changed (moved net u e) 0 s.tokens ∙ h.long;
    owned = length-set s.own u e.own ∙ h.owned;
  };
}
  where
    room : (w : Option Put) → Free net u m w → has_room net s u w
    room None f = tt
    room (Some w) f = let k : tokens_at s (out_of u w.place net.chans) ≡ [] = h.sees (at u w.place) ∙ f.1 in let l = f.0.1.slot in rw k l

-- ---- lists of firings

-- the same under other words
pub goes_as : (net : Net) (scalars : List ℕ) (s : State) (fs : List Firing) (m m' : Marks) (a a' : Aside) → Goes net scalars s fs m a
    → ((r : Place) → m r ≡ m' r) → ((v : ℕ) → a.own v ≡ a'.own v) → a.arrays ≡ a'.arrays → a.strays ≤ a'.strays → Goes net scalars s fs m' a'
goes_as net scalars s fs m m' a a' g em eo ea es = record {
  to = g.to;
  run = g.run;
  shows = record {
    given = g.shows.given;
    sees = λ r. g.shows.sees r ∙ em r;
    own = λ v. g.shows.own v ∙ eo v;
    same = g.shows.same ∙ ea;
    few = λ b. (let k = g.shows.few b in omega (arith, k, es));
    long = g.shows.long;
    owned = g.shows.owned;
  };
}

pub leads_on : (net : Net) (s : State) (fs gs : List Firing) (t u : State) → Leads net s fs t → Leads net t gs u → Leads net s (fs ++ gs) u
leads_on net s [] gs t u r q = subst (λ x. Leads net x gs u) (sym r) q
leads_on net s (f ∷ fs) gs t u r q = (r.0, leads_on net (after net s f) fs gs t u r.1 q)

pub goes_on : (net : Net) (scalars : List ℕ) (s : State) (fs gs : List Firing) (m m' : Marks) (a a' : Aside) → (g : Goes net scalars s fs m a) → Goes net scalars g.to gs m' a' → Goes net scalars s (fs ++ gs) m' a'
goes_on net scalars s fs gs m m' a a' g k = record {
  to = k.to;
  run = leads_on net s fs gs g.to k.to g.run k.run;
  shows = k.shows;
}

-- ---- what the lemmas of kinds need

pub unit_at : (ks : List Kind) (u : ℕ) (k : Kind) → slice_get ks u ≡ Some k → (get_or ks u (Sink 0) ≡ k) × (u < length ks)
unit_at [] u k e = cc
unit_at (x ∷ ks) zero k e = (cc, omega arith)
unit_at (x ∷ ks) (suc u) k e = let w = unit_at ks u k e in (w.0, (let l = w.1 in omega arith))

pub own_same : (u : ℕ) (os : ℕ → Own) (v : ℕ) → own_set u (os u) os v ≡ os v
own_same u os v = by (cases_eq v u)
  where
    by : (v ≡ u) ⊎ (v ≡ u → ⊥) → cond (v == u) (os u) (os v) ≡ os v
    by (inl e) = let b : (v == u) ≡ true = eq-eqb v u e in rw b (ap os (sym e))
    by (inr n) = let b : (v == u) ≡ false = ne_eqb v u n in rw b refl

pub own_here : (os : ℕ → Own) (u : ℕ) (o : Own) → own_set u o os u ≡ o
own_here os u o = let b : (u == u) ≡ true = eq-eqb u u refl in rw b refl

pub own_twice : (os : ℕ → Own) (u : ℕ) (o p : Own) (v : ℕ) → own_set u p (own_set u o os) v ≡ own_set u p os v
own_twice os u o p v = by (v == u)
  where
    by : (b : Bool) → cond b p (cond b o (os v)) ≡ cond b p (os v)
    by true = refl
    by false = refl

pub head_is : (net : Net) (scalars : List ℕ) (s : State) (m : Marks) (a : Aside) → Shows net scalars s m a → (u q v : ℕ) (p : Place) → Wired net p (at u q) → m p ≡ v ∷ [] → head_at net s u q ≡ Some v
head_is net scalars s m a h u q v p w e = ap first (ap (tokens_at s) w.joined ∙ (h.sees p ∙ e))

-- a firing of a unit that writes no array, given what its kind's row does
pub of_kind : (net : Net) (scalars : List ℕ) (s : State) (m : Marks) (a : Aside) → Shows net scalars s m a
    → (u : ℕ) (k : Kind) (act : Act) (e : Effect) (srcs : List Place) → slice_get net.units u ≡ Some k → owns k ≡ None
    → effect_of (row k act (get_or s.own u idle) (at_array s.arrays (uses k)) (setting net s)) (head_at net s u) ≡ Some e → Fed net u m e.takes srcs → Free net u m e.put
    → Goes net scalars s (firing u act ∷ []) (put_mark u e.put (popped_all srcs m)) (aside_after u e a.arrays a)
of_kind net scalars s m a h u k act e srcs is none eff fed free =
    let w = unit_at net.units u k is in
    let z : effect net s (firing u act) ≡ Some e = ap (λ x. effect_of (row x act (get_or s.own u idle) (at_array s.arrays (uses x)) (setting net s)) (head_at net s u)) w.0 ∙ eff in
    let same : written (owns (kind_of net u)) e.array s.arrays ≡ a.arrays = ap (λ o. written o e.array s.arrays) (ap owns w.0 ∙ none) ∙ h.same in
    goes_as net scalars s (firing u act ∷ []) _ _ _ (aside_after u e a.arrays a) (moves net scalars s m a h u act e srcs w.1 z fed free) (λ r. refl) (λ v. refl) same (omega arith)
