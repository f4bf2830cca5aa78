-- What may be made after a firing of another unit could be made before it.
use Rattle.std.proofs.Common.{◌≡◌, ◌≢◌, ℕ, suc, zero, ◌+◌, ◌<◌, ◌≤◌, ◌==◌, Bool, true, false, cond, Option, Some, None, List, [], ◌∷◌, length, get_or, refl, sym, ap, subst, ◌∙◌, arith, IsSomeAnd, get_or-set_other}
use Rattle.net_types.specs.declared.net.Net.{Net}
use Rattle.net_types.specs.declared.firing.Firing.{Firing}
use Rattle.net_types.specs.Nets.{into, out_of, kind_of, uses, owns, chan_at}
use Rattle.net_core.specs.Fire.{State, Row, Stop, Look, Take, Fires, Effect, effect_of, idle, row, setting, at_array, head_at, tokens_at, first, effect, has_room, moved, applied, changed_from, puts_on, takes_from, added, taken, written}
use Rattle.net_core.specs.declared.plan.Put.{Put}
use Rattle.net_core.specs.Uses.{used_by, then_used, AllSame, used}
use Rattle.net_core.proofs.Premises.{Alone}
use Rattle.net_core.proofs.RowLemmas.{length-changed, get-changed}
use Rattle.net_core.proofs.ApartLemmas.{not_taken, read_past}
use Rattle.net_core.proofs.UsesLemmas.{rows_use_only}
use Rattle.cycle_engine.specs.Rousing.{Could}
use Rattle.std.specs.List.{AllByRecursion}
use Rattle.cycle_engine.specs.Cycles.{Dated, dated, IsRipe, May, AreDated}

-- the state after an effect of the unit v in the cycle c
abbrev pub after_of : Net → ℕ → Dated → ℕ → Effect → Dated
after_of net c s v e = record { state = applied net v e s.state; dates = changed_from (moved net v (record e { put = dated c e.put })) 0 s.dates }

pub some_within : (xss : List (List ℕ)) (k : ℕ) (Q : ℕ → Type 0) → IsSomeAnd (first (get_or xss k [])) Q → k < length xss
some_within [] k Q i = absurd i
some_within (y ∷ xss) zero Q i = omega arith
some_within (y ∷ xss) (suc k) Q i = let h = some_within xss k Q i in omega arith

pub dated_put : (net : Net) (v c d x : ℕ) (o : Option Put) → puts_on net v (dated c o) d ≡ Some x → (x ≡ c) × (puts_on net v o d ≢ None)
dated_put net v c d x None e = cc
dated_put net v c d x (Some w) e = by (d == out_of v w.place net.chans) refl e
  where
    by : (b : Bool) → (d == out_of v w.place net.chans) ≡ b → cond b (Some c) None ≡ Some x → (x ≡ c) × (cond b (Some w.value) None ≢ None)
    by true is q = (cc, λ z. cc)
    by false is q = cc

-- a head that is ripe after another unit's firing is the head before it
heads_kept : (o p : Option ℕ) (xs ds : List ℕ) (c delay : ℕ) → length ds ≡ length xs → ((x : ℕ) → p ≡ Some x → (x ≡ c) × (0 < delay))
    → IsSomeAnd (first (added p ds)) (λ date. date + delay ≤ c) → (first (added o xs) ≡ first xs) × (first (added p ds) ≡ first ds)
heads_kept None None (x ∷ xs) (y ∷ ds) c delay l h r = (refl, refl)
heads_kept None (Some b) (x ∷ xs) (y ∷ ds) c delay l h r = (refl, refl)
heads_kept (Some a) None (x ∷ xs) (y ∷ ds) c delay l h r = (refl, refl)
heads_kept (Some a) (Some b) (x ∷ xs) (y ∷ ds) c delay l h r = (refl, refl)
heads_kept o None [] [] c delay l h r = absurd r
heads_kept o (Some b) [] [] c delay l h r = let k = h b refl in let e : b ≡ c = k.0 in let z : 0 < delay = k.1 in let q : b + delay ≤ c = r in absurd (omega arith)
heads_kept o p [] (y ∷ ds) c delay l h r = absurd (omega arith)
heads_kept o p (x ∷ xs) [] c delay l h r = absurd (omega arith)

next_used : (h g : ℕ → Option ℕ) (o : Option ℕ) (next : ℕ → Row) → AllSame h g (then_used o (λ v. used_by (next v) h))
    → ((v : ℕ) → AllSame h g (used_by (next v) h) → used_by (next v) g ≡ used_by (next v) h)
    → then_used o (λ v. used_by (next v) g) ≡ then_used o (λ v. used_by (next v) h)
next_used h g None next s f = refl
next_used h g (Some v) next s f = f v s

pub used_same : (r : Row) (h g : ℕ → Option ℕ) → AllSame h g (used_by r h) → used_by r g ≡ used_by r h
used_same Stop h g s = refl
used_same (Look p next) h g s = ap (λ ps. p ∷ ps) (ap (λ o. then_used o (λ v. used_by (next v) g)) s.0 ∙ next_used h g (h p) next s.1 (λ v t. used_same (next v) h g t))
used_same (Take p next) h g s = ap (λ ps. p ∷ ps) (ap (λ o. then_used o (λ v. used_by (next v) g)) s.0 ∙ next_used h g (h p) next s.1 (λ v t. used_same (next v) h g t))
used_same (Fires put own array strays) h g s = refl

-- v's effect puts no token that is ripe at once into u
abbrev pub IsLate : Net → ℕ → ℕ → Effect → Type 0
IsLate net v u e = (p : ℕ) → into u p net.chans < length net.chans → puts_on net v e.put (into u p net.chans) ≢ None → 0 < (chan_at net (into u p net.chans)).delay

pub kept_free : (net : Net) (c : ℕ) (s : Dated) (v u p : ℕ) (e : Effect) → (into u p net.chans < length net.chans → takes_from net v e (into u p net.chans) ≡ false) → AreDated net s → IsLate net v u e
    → IsRipe net c (after_of net c s v e) (into u p net.chans)
    → (head_at net (after_of net c s v e).state u p ≡ head_at net s.state u p)
    × (first (get_or (after_of net c s v e).dates (into u p net.chans) []) ≡ first (get_or s.dates (into u p net.chans) []))
kept_free net c s v u p e free ok late r =
    let d : ℕ = into u p net.chans in
    let w : d < length (after_of net c s v e).dates = some_within (after_of net c s v e).dates d (λ date. date + (chan_at net d).delay ≤ c) r in
    let n : length (after_of net c s v e).dates ≡ length s.dates = length-changed (moved net v (record e { put = dated c e.put })) 0 s.dates in
    let a : length s.dates ≡ length net.chans = ok.lists in
    let b : length s.state.tokens ≡ length net.chans = ok.chans in
    let l : d < length net.chans = omega arith in
    let g : takes_from net v e d ≡ false = free l in
    let et : tokens_at (after_of net c s v e).state d ≡ added (puts_on net v e.put d) (tokens_at s.state d)
    = get-changed (moved net v e) 0 s.state.tokens d d (omega arith) (omega arith) ∙ ap (λ z. added (puts_on net v e.put d) (taken z (tokens_at s.state d))) g in
    let ed : get_or (after_of net c s v e).dates d [] ≡ added (puts_on net v (dated c e.put) d) (get_or s.dates d [])
    = get-changed (moved net v (record e { put = dated c e.put })) 0 s.dates d d (omega arith) (omega arith)
    ∙ ap (λ z. added (puts_on net v (dated c e.put) d) (taken z (get_or s.dates d []))) g in
    let P : List ℕ → Type 0 = λ ys. IsSomeAnd (first ys) (λ date. date + (chan_at net d).delay ≤ c) in
    let k = heads_kept (puts_on net v e.put d) (puts_on net v (dated c e.put) d) (tokens_at s.state d) (get_or s.dates d []) c (chan_at net d).delay
    (ok.each d) (λ x q. let z = dated_put net v c d x e.put q in (z.0, late p l z.1)) (subst P ed r) in
    (ap first et ∙ k.0, ap first ed ∙ k.1)

kept : (net : Net) (c : ℕ) (s : Dated) (v u p : ℕ) (e : Effect) → u ≢ v → AreDated net s → IsLate net v u e
    → IsRipe net c (after_of net c s v e) (into u p net.chans)
    → (head_at net (after_of net c s v e).state u p ≡ head_at net s.state u p)
    × (first (get_or (after_of net c s v e).dates (into u p net.chans) []) ≡ first (get_or s.dates (into u p net.chans) []))
kept net c s v u p e ne ok late r = kept_free net c s v u p e (not_taken net u v p e ne) ok late r

each_kept : (net : Net) (c : ℕ) (s : Dated) (v u : ℕ) (e : Effect) → u ≢ v → AreDated net s → IsLate net v u e → (ps : List ℕ)
    → AllByRecursion (λ p. IsRipe net c (after_of net c s v e) (into u p net.chans)) ps
    → AllSame (head_at net (after_of net c s v e).state u) (head_at net s.state u) ps × AllByRecursion (λ p. IsRipe net c s (into u p net.chans)) ps
each_kept net c s v u e ne ok late [] r = (tt, tt)
each_kept net c s v u e ne ok late (p ∷ ps) r =
    let k = kept net c s v u p e ne ok late r.0 in
    let w = each_kept net c s v u e ne ok late ps r.1 in
    let P : Option ℕ → Type 0 = λ o. IsSomeAnd o (λ date. date + (chan_at net (into u p net.chans)).delay ≤ c) in
    ((sym k.0, w.0), (subst P k.1 r.0, w.1))

-- the row of a firing is the same after a firing of another unit
pub row_past : (net : Net) (s : State) (g : Firing) (v : ℕ) (e : Effect) → Alone net → g.unit ≢ v
    → row (kind_of net g.unit) g.act (get_or (applied net v e s).own g.unit idle) (at_array (applied net v e s).arrays (uses (kind_of net g.unit))) (setting net (applied net v e s))
    ≡ row (kind_of net g.unit) g.act (get_or s.own g.unit idle) (at_array s.arrays (uses (kind_of net g.unit))) (setting net s)
row_past net s g v e alone ne =
    let own : get_or (applied net v e s).own g.unit idle ≡ get_or s.own g.unit idle = get_or-set_other s.own v g.unit e.own idle ne in
    let array : at_array (written (owns (kind_of net v)) e.array s.arrays) (uses (kind_of net g.unit)) ≡ at_array s.arrays (uses (kind_of net g.unit)) =
    read_past (owns (kind_of net v)) (uses (kind_of net g.unit)) e.array s.arrays (λ a x y. alone v g.unit a (λ z. ne (sym z)) x y) in
    ap (λ o. row (kind_of net g.unit) g.act o (at_array (applied net v e s).arrays (uses (kind_of net g.unit))) (setting net s)) own
    ∙ ap (λ xs. row (kind_of net g.unit) g.act (get_or s.own g.unit idle) xs (setting net s)) array

pub before : (net : Net) (c : ℕ) (start s : Dated) (v : ℕ) (g : Firing) (e : Effect) → Alone net → g.unit ≢ v → AreDated net s → IsLate net v g.unit e
    → Could net c start (after_of net c s v e) g → Could net c start s g × (effect net (after_of net c s v e).state g ≡ effect net s.state g)
before net c start s v g e alone ne ok late m = (
  record {
    acts = (let P : Option Effect → Type 0 = λ o. IsSomeAnd o (λ x. has_room net start.state g.unit x.put) in subst P same m.acts);
    ripe = (let P : List ℕ → Type 0 = AllByRecursion (λ p. IsRipe net c s (into g.unit p net.chans)) in subst P (sym uses_same) both.1);
    depth = m.depth;
  },
  same,
)
  where
    -- the places used after it, by the row before it
    used_is : used net (after_of net c s v e).state g ≡ used_by (row (kind_of net g.unit) g.act (get_or s.state.own g.unit idle) (at_array s.state.arrays (uses (kind_of net g.unit))) (setting net s.state)) (head_at net (after_of net c s v e).state g.unit)
    used_is = ap (λ x. used_by x (head_at net (after_of net c s v e).state g.unit)) (row_past net s.state g v e alone ne)

    both : AllSame (head_at net (after_of net c s v e).state g.unit) (head_at net s.state g.unit) (used_by (row (kind_of net g.unit) g.act (get_or s.state.own g.unit idle) (at_array s.state.arrays (uses (kind_of net g.unit))) (setting net s.state)) (head_at net (after_of net c s v e).state g.unit))
        × AllByRecursion (λ p. IsRipe net c s (into g.unit p net.chans)) (used_by (row (kind_of net g.unit) g.act (get_or s.state.own g.unit idle) (at_array s.state.arrays (uses (kind_of net g.unit))) (setting net s.state)) (head_at net (after_of net c s v e).state g.unit))
    both =
        let P : List ℕ → Type 0 = AllByRecursion (λ p. IsRipe net c (after_of net c s v e) (into g.unit p net.chans)) in
        each_kept net c s v g.unit e ne ok late (used_by (row (kind_of net g.unit) g.act (get_or s.state.own g.unit idle) (at_array s.state.arrays (uses (kind_of net g.unit))) (setting net s.state)) (head_at net (after_of net c s v e).state g.unit)) (subst P used_is m.ripe)

    uses_same : used net s.state g ≡ used_by (row (kind_of net g.unit) g.act (get_or s.state.own g.unit idle) (at_array s.state.arrays (uses (kind_of net g.unit))) (setting net s.state)) (head_at net (after_of net c s v e).state g.unit)
    uses_same = used_same (row (kind_of net g.unit) g.act (get_or s.state.own g.unit idle) (at_array s.state.arrays (uses (kind_of net g.unit))) (setting net s.state)) (head_at net (after_of net c s v e).state g.unit) (head_at net s.state g.unit) both.0

    same : effect net (after_of net c s v e).state g ≡ effect net s.state g
    same = ap (λ x. effect_of x (head_at net (after_of net c s v e).state g.unit)) (row_past net s.state g v e alone ne)
        ∙ sym (rows_use_only (row (kind_of net g.unit) g.act (get_or s.state.own g.unit idle) (at_array s.state.arrays (uses (kind_of net g.unit))) (setting net s.state)) (head_at net (after_of net c s v e).state g.unit) (head_at net s.state g.unit) both.0)

pub may_could : (net : Net) (c : ℕ) (start s : Dated) (f : Firing) → May net c start s f → Could net c start s f
may_could net c start s f m = record { acts = m.room; ripe = m.ripe; depth = m.depth }
