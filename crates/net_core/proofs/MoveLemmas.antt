-- The steps of the code on the tokens, one by one, are what a firing does.
use Rattle.std.proofs.Common.{◌≡◌, ℕ, suc, zero, ◌<◌, ◌≤◌, ◌⊎◌, ◌&&◌, ◌||◌, ◌==◌, not, Bool, true, false, cond, Option, Some, None, List, [], ◌∷◌, ◌++◌, length, get_or, map, refl, sym, ap, subst, IfSome, ◌∙◌, inl, inr, arith, eq-eqb, ne_eqb, length-set, get_or-set_same, get_or-set_other}
use Rattle.std.proofs.lemmas.List.{set_past}
use Rattle.std.proofs.lemmas.Bool.{cases_lt, cases_eq}
use Rattle.net_types.specs.declared.net.Net.{Net}
use Rattle.net_types.specs.declared.net.Chan.{Chan}
use Rattle.net_types.specs.declared.net.Unit.TheVariants.{Sink}
use Rattle.net_types.specs.declared.firing.Firing.{Firing}
use Rattle.net_types.specs.Nets.{into, out_of, nowhere, chan_at}
use Rattle.net_core.specs.declared.plan.Put.{Put}
use Rattle.net_core.specs.declared.plan.Plan.{Plan}
use Rattle.net_core.specs.declared.plan.Laid.{Laid}
use Rattle.net_core.specs.declared.plan.Takes.{Takes}
use Rattle.net_core.specs.declared.plan.Takes.TheVariants as takes
use Rattle.net_core.specs.Fire.{State, has_room, idle, Effect, effect, among, taken, added, changed_from, moved, head_at}
use Rattle.net_core.specs.Plans.{effect_by, places_of, apart, taken_of, laid_of, chans_of}
use Rattle.net_core.specs.Held.{AllWithin, Held, HasRoom, laid_on, take_at, taken_all, put_at_end}
use Rattle.net_core.specs.private.Moves.{taken_chans}
use Rattle.net_core.proofs.RowLemmas.{Has, Each, changed-set, changed-fuse}
use Rattle.std.proofs.lemmas.Bool.{and_parts}
use Rattle.net_core.proofs.ApartLemmas.{same_in, first_within, length-taken}
use Rattle.net_core.proofs.GoesLemmas.{heads}

pub within_of : (net : Net) (s : State) (f : Firing) (e : Effect) → effect net s f ≡ Some e → AllWithin (length s.tokens) (map (λ p. into f.unit p net.chans) e.takes)
within_of net s f e is = all e.takes (heads net s f e is)
  where
    all : (ps : List ℕ) → Each (Has (head_at net s f.unit)) ps → AllWithin (length s.tokens) (map (λ p. into f.unit p net.chans) ps)
    all [] h = tt
    all (p ∷ ps) h = (first_within s.tokens (into f.unit p net.chans) h.0.0 h.0.1, all ps h.1)

abbrev pub Distinct : List ℕ → Type 0
Distinct [] = Unit {0}
Distinct (d ∷ ds) = (among d ds ≡ false) × Distinct ds

changed-ext : (m n : ℕ → List ℕ → List ℕ) (i : ℕ) (xss : List (List ℕ)) → ((c : ℕ) (xs : List ℕ) → m c xs ≡ n c xs) → changed_from m i xss ≡ changed_from n i xss
changed-ext m n i [] h = refl
changed-ext m n i (x ∷ xss) h = let a = h i x in let r = changed-ext m n (suc i) xss h in cc

changed-same : (i : ℕ) (xss : List (List ℕ)) → changed_from (λ c xs. xs) i xss ≡ xss
changed-same i [] = refl
changed-same i (x ∷ xss) = ap (λ r. x ∷ r) (changed-same (suc i) xss)

pub taken_fold : (cs : List ℕ) (xss : List (List ℕ)) → Distinct cs → taken_all cs xss ≡ changed_from (λ c xs. taken (among c cs) xs) 0 xss
taken_fold [] xss h = sym (changed-same 0 xss)
taken_fold (d ∷ cs) xss h =
    taken_fold cs (take_at d xss) h.1
    ∙ (ap (changed_from (λ c xs. taken (among c cs) xs) 0) (sym (changed-set (taken true) 0 d d xss (omega arith)))
    ∙ (changed-fuse (λ c xs. taken (among c cs) xs) (λ c xs. cond (c == d) (taken true xs) xs) 0 xss
    ∙ changed-ext (λ c xs. taken (among c cs) (cond (c == d) (taken true xs) xs)) (λ c xs. taken (among c (d ∷ cs)) xs) 0 xss (λ c xs. one c xs (cases_eq c d))))
  where
    one : (c : ℕ) (xs : List ℕ) → (c ≡ d) ⊎ (c ≡ d → ⊥) → taken (among c cs) (cond (c == d) (taken true xs) xs) ≡ taken ((c == d) || among c cs) xs
    one c xs (inl e) =
        let b : (c == d) ≡ true = eq-eqb c d e in
        let n : among c cs ≡ false = ap (λ x. among x cs) e ∙ h.0 in
        rw (b, n) refl
    one c xs (inr n) = let b : (c == d) ≡ false = ne_eqb c d n in rw b refl

-- the channels of distinct places
in_apart : (net : Net) (u p q : ℕ) → into u p net.chans < length net.chans → not (p == q) ≡ true → (into u p net.chans == into u q net.chans) ≡ false
in_apart net u p q l n = by (cases_eq (into u p net.chans) (into u q net.chans))
  where
    off : (b : Bool) → (p == q) ≡ b → not b ≡ true → p ≡ q → ⊥
    off true e k z = cc
    off false e k z = let y = eq-eqb p q z in cc

    by : (into u p net.chans ≡ into u q net.chans) ⊎ (into u p net.chans ≡ into u q net.chans → ⊥) → (into u p net.chans == into u q net.chans) ≡ false
    by (inl e) = absurd (off (p == q) refl n (same_in u u p q net.chans l e).1)
    by (inr m) = ne_eqb _ _ m

pub distinct_of : (net : Net) (u : ℕ) (t : Takes) → apart t ≡ true → AllWithin (length net.chans) (map (λ p. into u p net.chans) (places_of t)) → Distinct (map (λ p. into u p net.chans) (places_of t))
distinct_of net u takes.None a w = tt
distinct_of net u (takes.One p) a w = (refl, tt)
distinct_of net u (takes.Two p q) a w = (rw (in_apart net u p q w.0 a) refl, (refl, tt))
distinct_of net u (takes.Three p q r) a w =
    let x = and_parts (not (p == q)) (not (p == r) && not (q == r)) a in
    let y = and_parts (not (p == r)) (not (q == r)) x.1 in
    (rw (in_apart net u p q w.0 x.0, in_apart net u p r w.0 y.0) refl, (rw (in_apart net u q r w.1.0 y.1) refl, (refl, tt)))

pub moved_none : (net : Net) (u : ℕ) (p : Plan) (xss : List (List ℕ)) → p.put ≡ None → Distinct (taken_chans net u p.takes)
    → taken_all (taken_chans net u p.takes) xss ≡ changed_from (moved net u (effect_by (Sink 0) idle [] p)) 0 xss
moved_none net u p xss none d =
    taken_fold (taken_chans net u p.takes) xss d
    ∙ changed-ext (λ c xs. taken (among c (taken_chans net u p.takes)) xs) (moved net u (effect_by (Sink 0) idle [] p)) 0 xss (λ c xs. (rw none refl))

pub moved_some : (net : Net) (u : ℕ) (p : Plan) (w : Put) (xss : List (List ℕ)) → p.put ≡ Some w → Distinct (taken_chans net u p.takes)
    → put_at_end (out_of u w.place net.chans) w.value (taken_all (taken_chans net u p.takes) xss) ≡ changed_from (moved net u (effect_by (Sink 0) idle [] p)) 0 xss
moved_some net u p w xss some d =
    sym (changed-set (λ xs. xs ++ w.value ∷ []) 0 o o (taken_all (taken_chans net u p.takes) xss) (omega arith))
    ∙ (ap (changed_from (λ c xs. cond (c == o) (xs ++ w.value ∷ []) xs) 0) (taken_fold (taken_chans net u p.takes) xss d)
    ∙ (changed-fuse (λ c xs. cond (c == o) (xs ++ w.value ∷ []) xs) (λ c xs. taken (among c (taken_chans net u p.takes)) xs) 0 xss
    ∙ changed-ext (λ c xs. cond (c == o) (taken (among c (taken_chans net u p.takes)) xs ++ w.value ∷ []) (taken (among c (taken_chans net u p.takes)) xs))
    (moved net u (effect_by (Sink 0) idle [] p)) 0 xss (λ c xs. (rw some (one (c == o) (taken (among c (taken_chans net u p.takes)) xs))))))
  where
    o : ℕ
    o = out_of u w.place net.chans

    one : (b : Bool) (ys : List ℕ) → cond b (ys ++ w.value ∷ []) ys ≡ added (cond b (Some w.value) None) ys
    one true ys = refl
    one false ys = refl

pub chans_are : (net : Net) (u : ℕ) (t : Takes) → chans_of (taken_of net u t) ≡ taken_chans net u t
chans_are net u takes.None = refl
chans_are net u (takes.One p) = refl
chans_are net u (takes.Two p q) = refl
chans_are net u (takes.Three p q r) = refl

-- so a firing moves tokens
pub moves_are : (net : Net) (u : ℕ) (p : Plan) (xss : List (List ℕ)) → Distinct (taken_chans net u p.takes)
    → laid_on (laid_of net u p.put) (taken_all (chans_of (taken_of net u p.takes)) xss) ≡ changed_from (moved net u (effect_by (Sink 0) idle [] p)) 0 xss
moves_are net u p xss d =
    ap (λ cs. laid_on (laid_of net u p.put) (taken_all cs xss)) (chans_are net u p.takes)
    ∙ by p.put refl
  where
    by : (o : Option Put) → p.put ≡ o → laid_on (laid_of net u p.put) (taken_all (taken_chans net u p.takes) xss) ≡ changed_from (moved net u (effect_by (Sink 0) idle [] p)) 0 xss
    by None e = ap (λ o. laid_on (laid_of net u o) (taken_all (taken_chans net u p.takes) xss)) e ∙ moved_none net u p xss e d
    by (Some w) e = ap (λ o. laid_on (laid_of net u o) (taken_all (taken_chans net u p.takes) xss)) e ∙ moved_some net u p w xss e d

pub slots_at : (cs : List Chan) (d : ℕ) → get_or (map (λ (c : Chan). c.slots) cs) d 0 ≡ (get_or cs d nowhere).slots
slots_at [] d = refl
slots_at (c ∷ cs) zero = refl
slots_at (c ∷ cs) (suc d) = slots_at cs d

-- what a firing puts has room among the tokens of a state, held with the slots of the channels
pub laid_room : (net : Net) (s : State) (u : ℕ) (o : Option Put) (laid : Option Laid) (held : Held) → held.slots ≡ map (λ (c : Chan). c.slots) net.chans → held.tokens ≡ s.tokens
    → laid ≡ laid_of net u o → has_room net s u o → IfSome laid (λ w. HasRoom held w.chan)
laid_room net s u o laid held slots tokens is h =
    let P : Option Laid → Type 0 = λ l. IfSome l (λ w. HasRoom held w.chan) in
    subst P (sym is) (by o h)
  where
    by : (o : Option Put) → has_room net s u o → IfSome (laid_of net u o) (λ w. HasRoom held w.chan)
    by None h = tt
    by (Some w) h =
        let e : get_or held.slots (out_of u w.place net.chans) 0 ≡ (chan_at net (out_of u w.place net.chans)).slots = ap (λ xs. get_or xs (out_of u w.place net.chans) 0) slots ∙ slots_at net.chans (out_of u w.place net.chans) in
        let t : length (get_or held.tokens (out_of u w.place net.chans) []) ≡ length (get_or s.tokens (out_of u w.place net.chans) []) = ap (λ xs. length (get_or xs (out_of u w.place net.chans) [])) tokens in
        omega arith

-- taking only makes room
pub shorter : (cs : List ℕ) (xss : List (List ℕ)) (k : ℕ) → length (get_or (taken_all cs xss) k []) ≤ length (get_or xss k [])
shorter [] xss k = omega arith
shorter (c ∷ cs) xss k = let a = shorter cs (take_at c xss) k in let b = one (cases_eq k c) in omega arith
  where
    one : (k ≡ c) ⊎ (k ≡ c → ⊥) → length (get_or (take_at c xss) k []) ≤ length (get_or xss k [])
    one (inl e) = at (cases_lt c (length xss))
      where
        at : (c < length xss) ⊎ (length xss ≤ c) → length (get_or (take_at c xss) k []) ≤ length (get_or xss k [])
        at (inl l) = let g : get_or (take_at c xss) c [] ≡ taken true (get_or xss c []) = get_or-set_same xss c (taken true (get_or xss c [])) [] l in
            rw (e, g) (length-taken true (get_or xss c []))
        at (inr l) = rw (set_past xss c (taken true (get_or xss c [])) l) (omega arith)
    one (inr n) = let g : get_or (take_at c xss) k [] ≡ get_or xss k [] = get_or-set_other xss c k (taken true (get_or xss c [])) [] n in rw g (omega arith)

pub length-taken_all : (cs : List ℕ) (xss : List (List ℕ)) → length (taken_all cs xss) ≡ length xss
length-taken_all [] xss = refl
length-taken_all (c ∷ cs) xss = length-taken_all cs (take_at c xss) ∙ length-set xss c (taken true (get_or xss c []))
