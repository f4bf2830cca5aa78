-- How what holds of a worker goes on.
use Rattle.std.proofs.Common.{◌≡◌, ◌≢◌, ◌⊎◌, inl, inr, ℕ, zero, suc, ◌+◌, ◌-◌, ◌<◌, ◌≤◌, Bool, true, false, cond, List, [], ◌∷◌, ◌++◌, length, get_or, map, drop, Option, Some, None, is_some, IsSomeAnd, refl, ap, ◌∙◌, sym, subst, arith, append_assoc, append-nil}
use Rattle.std.specs.List.{AllByRecursion}
use Rattle.std.proofs.lemmas.Bool.{cases_lt, cases_eq}
use Rattle.std.proofs.lemmas.List.{length-append, length-drop, get_or_append_left, get_or_at, drop-append-le}
use Rattle.elastic_link.specs.Credits.{one_more}
use Rattle.net_types.specs.declared.net.Net.{Net}
use Rattle.net_types.specs.declared.firing.Firing.{Firing}
use Rattle.net_types.specs.Nets.{into, out_of, chan_at, kind_of, uses, owns}
use Rattle.net_core.specs.declared.plan.Put.{Put}
use Rattle.net_core.specs.Fire.{State, Effect, Row, Stop, Look, Take, Fires, effect, effect_of, first, tokens_at, head_at, takes_from, puts_on, taken, added, counted, applied, moved, row, at_array, setting, idle, changed_from}
use Rattle.net_core.specs.Uses.{used_by, then_used, AllSame, used}
use Rattle.net_core.proofs.UsesLemmas.{rows_use_only}
use Rattle.net_core.proofs.RowLemmas.{Has, length-changed}
use Rattle.net_core.proofs.ApartLemmas.{is_at-inv, out_of-at, among_some, some_first}
use Rattle.net_core.proofs.GoesLemmas.{heads}
use Rattle.net_worker.specs.Stamped.{Stamped, stamps_at, stamped, after_by, after_at}
use Rattle.net_worker.specs.Plays.{putter, HasRoomIn, MayIn, takes_by, take_stamps}
use Rattle.net_worker.specs.Local.{StandFor}
use Rattle.net_worker.specs.Steps.{OneEntryMore, OneTakeMore, OneCreditMore, IsFuller, FromOthers, MoreHandedOut}
use Rattle.net_worker.proofs.Moves.{tokens_after, stamps_after, not_put_there, changed_past}
use Rattle.net_worker.proofs.Steps.{effect_in, after_is, stamps_long, paired_after}
use Rattle.net_worker.proofs.Merging.{some_of, token_of}

-- ---- an entry more

pub one_entry_more : OneEntryMore
one_entry_more net owner j clock s [] t e p l m =
    (l, subst (λ x. MayIn net owner j e.stamp x e.firing) (sym p) m, ap (λ x. after_at net e.stamp x e.firing) p)
one_entry_more net owner j clock s (f ∷ es) t e p l m = (p.0, p.1, one_entry_more net owner j f.stamp (after_at net f.stamp s f.firing) es t e p.2 l m)

pub one_take_more : OneTakeMore
one_take_more net owner j c clock s [] t e p = subst (λ (x : Stamped). take_stamps net c s (e ∷ []) ≡ cond (takes_by net e.firing.unit (effect net x.state e.firing) c) (e.stamp ∷ []) []) p refl
one_take_more net owner j c clock s (f ∷ es) t e p =
    by (takes_by net f.firing.unit (effect net s.state f.firing) c) (one_take_more net owner j c f.stamp (after_at net f.stamp s f.firing) es t e p.2)
  where
    by : (b : Bool) → take_stamps net c (after_at net f.stamp s f.firing) (es ++ e ∷ []) ≡ take_stamps net c (after_at net f.stamp s f.firing) es ++ cond (takes_by net e.firing.unit (effect net t.state e.firing) c) (e.stamp ∷ []) []
        → cond b (f.stamp ∷ take_stamps net c (after_at net f.stamp s f.firing) (es ++ e ∷ [])) (take_stamps net c (after_at net f.stamp s f.firing) (es ++ e ∷ []))
        ≡ cond b (f.stamp ∷ take_stamps net c (after_at net f.stamp s f.firing) es) (take_stamps net c (after_at net f.stamp s f.firing) es) ++ cond (takes_by net e.firing.unit (effect net t.state e.firing) c) (e.stamp ∷ []) []
    by true h = ap (λ l. f.stamp ∷ l) h
    by false h = h

-- ---- a credit more

dropped : (ns : List ℕ) (k : ℕ) → drop k ns ≡ [] → length ns ≤ k
dropped ns k h = omega (arith, ap length h, length-drop k ns)

drop_all : (ns : List ℕ) (k : ℕ) → length ns ≤ k → drop k ns ≡ []
drop_all [] zero h = refl
drop_all [] (suc k) h = refl
drop_all (n ∷ ns) zero h = absurd (omega arith)
drop_all (n ∷ ns) (suc k) h = drop_all ns k (omega arith)

pub one_credit_more : OneCreditMore
one_credit_more [] zero last now ns h = subst (λ l. StandFor (one_more 0 now ∷ []) (l ++ now ∷ [])) (sym h) (omega arith, omega arith, refl, refl)
one_credit_more [] (suc owed) last now ns h =
    let long : length ns ≤ suc owed = dropped ns (suc owed) h.3 in
    let exact : length ns ≡ suc owed = omega (arith, h.1) in
    let sum = length-append ns (now ∷ []) in
    let here : get_or (ns ++ now ∷ []) (length ns) 0 ≡ now = get_or_at ns now [] 0 (length ns) refl in
    let place : (suc owed + 1) - 1 ≡ length ns = omega arith in
    (omega arith, omega arith, ap (λ k. get_or (ns ++ now ∷ []) k 0) place ∙ here, drop_all (ns ++ now ∷ []) (suc owed + 1) (omega arith))
one_credit_more (m ∷ sent) owed last now ns h =
    let rest = one_credit_more sent owed last now (drop m.count ns) h.3 in
    let moved : drop m.count (ns ++ now ∷ []) ≡ drop m.count ns ++ now ∷ [] = drop-append-le m.count ns (now ∷ []) h.1 in
    (h.0, omega (arith, h.1, length-append ns (now ∷ [])), get_or_append_left ns (now ∷ []) 0 (m.count - 1) (omega (arith, h.0, h.1)) ∙ h.2, subst (StandFor (sent ++ one_more owed now ∷ [])) (sym moved) rest)

-- ---- more tokens handed out

all_equal : (h g : ℕ → Option ℕ) (P : ℕ → Type 0) (ps : List ℕ) → AllByRecursion P ps → ((p : ℕ) → P p → g p ≡ h p) → AllSame h g ps
all_equal h g P [] a f = tt
all_equal h g P (p ∷ ps) a f = (f p a.0, all_equal h g P ps a.1 f)

-- the used places rest on the heads that are used
next_used : (h g : ℕ → Option ℕ) (o q : Option ℕ) (k l : ℕ → List ℕ) → q ≡ o → AllSame h g (then_used o k) → ((v : ℕ) → AllSame h g (k v) → l v ≡ k v) → then_used q l ≡ then_used o k
next_used h g None q k l is s f = ap (λ x. then_used x l) is
next_used h g (Some v) q k l is s f = ap (λ x. then_used x l) is ∙ f v s

used_same : (r : Row) (h g : ℕ → Option ℕ) → AllSame h g (used_by r h) → used_by r g ≡ used_by r h
used_same Stop h g s = refl
used_same (Look p rest) h g s = ap (λ l. p ∷ l) (next_used h g (h p) (g p) (λ v. used_by (rest v) h) (λ v. used_by (rest v) g) s.0 s.1 (λ v t. used_same (rest v) h g t))
used_same (Take p rest) h g s = ap (λ l. p ∷ l) (next_used h g (h p) (g p) (λ v. used_by (rest v) h) (λ v. used_by (rest v) g) s.0 s.1 (λ v t. used_same (rest v) h g t))
used_same (Fires put own array strays) h g s = refl

pub first_more : (xs ys : List ℕ) (x : ℕ) → first xs ≡ Some x → first (xs ++ ys) ≡ Some x
first_more [] ys x h = cc
first_more (y ∷ xs) ys x h = h

pub all_mapped : (P Q : ℕ → Type 0) (ps : List ℕ) → ((p : ℕ) → P p → Q p) → AllByRecursion P ps → AllByRecursion Q ps
all_mapped P Q [] f a = tt
all_mapped P Q (p ∷ ps) f a = (f p a.0, all_mapped P Q ps f a.1)

some_and : (o : Option ℕ) (m n : ℕ) → o ≡ Some m → m < n → IsSomeAnd o (λ k. k < n)
some_and o m n is l = subst (λ x. IsSomeAnd x (λ k. k < n)) (sym is) l

-- taking and putting leave what is more where it is, where a token is taken only if one was there, and nothing is put where more is
moved_more : (p : Option ℕ) (g : Bool) (xs ys : List ℕ) → (g ≡ true → 1 ≤ length xs) → (p ≡ None) ⊎ (ys ≡ []) → added p (taken g (xs ++ ys)) ≡ added p (taken g xs) ++ ys
moved_more p g xs ys some (inr none) = subst (λ l. added p (taken g (xs ++ l)) ≡ added p (taken g xs) ++ l) (sym none) (ap (λ l. added p (taken g l)) (append-nil xs) ∙ sym (append-nil (added p (taken g xs))))
moved_more p g xs ys some (inl none) = subst (λ q. added q (taken g (xs ++ ys)) ≡ added q (taken g xs) ++ ys) (sym none) (by g xs some)
  where
    by : (g : Bool) (xs : List ℕ) → (g ≡ true → 1 ≤ length xs) → taken g (xs ++ ys) ≡ taken g xs ++ ys
    by true [] some = absurd (omega (arith, some refl))
    by true (x ∷ xs) some = refl
    by false xs some = refl

module _ (net : Net) (owner : ℕ → ℕ) (j : ℕ) (xs ns : ℕ → List ℕ) (from : FromOthers net owner j xs ns) (n : ℕ) (s t : Stamped) (f : Firing) (m : MayIn net owner j n s f) (w : IsFuller net owner j xs ns s t) where
  pub does : (e : Effect) × (effect net s.state f ≡ Some e) × HasRoomIn net owner j s.state f.unit e.put
  does = effect_in net owner j n s f m

  abbrev pub Early : ℕ → Type 0
  Early p = IsSomeAnd (first (stamps_at s (into f.unit p net.chans))) (λ k. k < n)

  pub head_more : (p : ℕ) → Early p → head_at net t.state f.unit p ≡ head_at net s.state f.unit p
  head_more p early =
      let c = into f.unit p net.chans in
      let k = some_of (first (stamps_at s c)) n early in
      let x = token_of (tokens_at s.state c) (stamps_at s c) k.0 (w.paired c) k.1 in
      ap first (w.tokens c) ∙ (first_more (tokens_at s.state c) (xs c) x.0 x.1 ∙ sym x.1)

  row_same : row (kind_of net f.unit) f.act (get_or t.state.own f.unit idle) (at_array t.state.arrays (uses (kind_of net f.unit))) (setting net t.state)
      ≡ row (kind_of net f.unit) f.act (get_or s.state.own f.unit idle) (at_array s.state.arrays (uses (kind_of net f.unit))) (setting net s.state)
  row_same =
      let o : get_or t.state.own f.unit idle ≡ get_or s.state.own f.unit idle = ap (λ l. get_or l f.unit idle) w.own in
      let a : at_array t.state.arrays (uses (kind_of net f.unit)) ≡ at_array s.state.arrays (uses (kind_of net f.unit)) = ap (λ l. at_array l (uses (kind_of net f.unit))) w.arrays in
      let g : setting net t.state ≡ setting net s.state = ap (λ l. record { scalars = l; valued = is_some net.result }) w.scalars in
      cc

  heads_same : AllSame (head_at net s.state f.unit) (head_at net t.state f.unit) (used net s.state f)
  heads_same = all_equal (head_at net s.state f.unit) (head_at net t.state f.unit) Early (used net s.state f) m.above head_more

  pub does_too : effect net t.state f ≡ Some does.0
  does_too =
      ap (λ r. effect_of r (head_at net t.state f.unit)) row_same
      ∙ (rows_use_only (row (kind_of net f.unit) f.act (get_or s.state.own f.unit idle) (at_array s.state.arrays (uses (kind_of net f.unit))) (setting net s.state)) (head_at net s.state f.unit) (head_at net t.state f.unit) heads_same ∙ does.1)

  pub uses_same : used net t.state f ≡ used net s.state f
  uses_same =
      ap (λ r. used_by r (head_at net t.state f.unit)) row_same
      ∙ used_same (row (kind_of net f.unit) f.act (get_or s.state.own f.unit idle) (at_array s.state.arrays (uses (kind_of net f.unit))) (setting net s.state)) (head_at net s.state f.unit) (head_at net t.state f.unit) heads_same

  from_me : (p : ℕ) → out_of f.unit p net.chans < length net.chans → putter net owner (out_of f.unit p net.chans) ≡ j
  from_me p l = ap owner (is_at-inv (chan_at net (out_of f.unit p net.chans)).from f.unit p (out_of-at f.unit p net.chans l)).0 ∙ m.mine

  room_too : (o : Option Put) → HasRoomIn net owner j s.state f.unit o → HasRoomIn net owner j t.state f.unit o
  room_too None h = tt
  room_too (Some p) h =
      let c = out_of f.unit p.place net.chans in
      let same : tokens_at t.state c ≡ tokens_at s.state c = w.tokens c ∙ (ap (λ l. tokens_at s.state c ++ l) (from.tokens c (from_me p.place h.0)) ∙ append-nil (tokens_at s.state c)) in
      (h.0, λ q. (let k = h.1 q in let z = ap length same in omega arith))

  pub may_too : MayIn net owner j n t f
  may_too = record {
    mine = m.mine;
    turn = subst (λ o. IsSomeAnd o (λ e. HasRoomIn net owner j t.state f.unit e.put)) (sym does_too) (room_too does.0.put does.2);
    above = subst (AllByRecursion (λ p. IsSomeAnd (first (stamps_at t (into f.unit p net.chans))) (λ k. k < n))) (sym uses_same)
        (all_mapped Early (λ p. IsSomeAnd (first (stamps_at t (into f.unit p net.chans))) (λ k. k < n)) (used net s.state f) early_too m.above);
  }
    where
      early_too : (p : ℕ) → Early p → IsSomeAnd (first (stamps_at t (into f.unit p net.chans))) (λ k. k < n)
      early_too p early =
          let c = into f.unit p net.chans in
          let k = some_of (first (stamps_at s c)) n early in
          some_and (first (stamps_at t c)) k.0 n (ap first (w.stamps c) ∙ first_more (stamps_at s c) (ns c) k.0 k.1) k.2

  some_there : (c : ℕ) → takes_from net f.unit does.0 c ≡ true → 1 ≤ length (tokens_at s.state c)
  some_there c g =
      let a = among_some (Has (head_at net s.state f.unit)) c (λ p. into f.unit p net.chans) does.0.takes g (heads net s.state f does.0 does.1) in
      let h : first (tokens_at s.state c) ≡ Some a.2.0 = ap (λ d. first (tokens_at s.state d)) a.1 ∙ a.2.1 in
      some_first (tokens_at s.state c) a.2.0 h

  no_put_or_more : (ys : ℕ → List ℕ) → ((c : ℕ) → putter net owner c ≡ j → ys c ≡ []) → (c : ℕ) → c < length net.chans → (puts_on net f.unit does.0.put c ≡ None) ⊎ (ys c ≡ [])
  no_put_or_more ys none c l =
      elim (cases_eq (putter net owner c) j) [
        | inl q ↦ inr (none c q)
        | inr q ↦ inl (not_put_there net f.unit c does.0.put l (λ z. q (ap owner z ∙ m.mine)))
      ]

  no_stamp : (c : ℕ) (zs : List ℕ) → (puts_on net f.unit does.0.put c ≡ None) ⊎ (zs ≡ []) → (cond (is_some (puts_on net f.unit does.0.put c)) (Some n) None ≡ None) ⊎ (zs ≡ [])
  no_stamp c zs (inl q) = inl (ap (λ o. cond (is_some o) (Some n) None) q)
  no_stamp c zs (inr q) = inr q

  pub fuller_after : IsFuller net owner j xs ns (after_at net n s f) (after_at net n t f)
  fuller_after = subst (λ x. IsFuller net owner j xs ns x (after_at net n t f)) (sym (after_is net n s f does.0 does.1)) (subst (λ x. IsFuller net owner j xs ns (after_by net n s f.unit (Some does.0)) x) (sym (after_is net n t f does.0 does_too)) (record {
    scalars = w.scalars;
    own = ap (λ l. Rattle.std.proofs.Common.set l f.unit does.0.own) w.own;
    arrays = ap (λ l. Rattle.net_core.specs.Fire.written (owns (kind_of net f.unit)) does.0.array l) w.arrays;
    strays = ap (counted (uses (kind_of net f.unit)) does.0.strays) w.strays;
    tokens = λ c. tokens c (cases_lt c (length net.chans));
    stamps = λ c. stamps c (cases_lt c (length net.chans));
    long = length-changed (moved net f.unit does.0) 0 s.state.tokens ∙ w.long;
    long_too = length-changed (moved net f.unit does.0) 0 t.state.tokens ∙ w.long_too;
    longs = stamps_long net n f.unit does.0 s ∙ w.longs;
    longs_too = stamps_long net n f.unit does.0 t ∙ w.longs_too;
    paired = paired_after net n f.unit does.0 s w.long w.longs w.paired;
  }))
    where
      tokens : (c : ℕ) → (c < length net.chans) ⊎ (length net.chans ≤ c) → tokens_at (applied net f.unit does.0 t.state) c ≡ tokens_at (applied net f.unit does.0 s.state) c ++ xs c
      tokens c (inl l) =
          let lt : c < length t.state.tokens = omega (arith, w.long_too) in
          let ls : c < length s.state.tokens = omega (arith, w.long) in
          tokens_after net f.unit does.0 t.state c lt
          ∙ (ap (λ l. added (puts_on net f.unit does.0.put c) (taken (takes_from net f.unit does.0 c) l)) (w.tokens c)
          ∙ (moved_more (puts_on net f.unit does.0.put c) (takes_from net f.unit does.0 c) (tokens_at s.state c) (xs c) (some_there c) (no_put_or_more xs from.tokens c l)
          ∙ ap (λ l. l ++ xs c) (sym (tokens_after net f.unit does.0 s.state c ls))))
      tokens c (inr l) =
          let lt : length t.state.tokens ≤ c = omega (arith, w.long_too) in
          let ls : length s.state.tokens ≤ c = omega (arith, w.long) in
          changed_past (moved net f.unit does.0) t.state.tokens c lt ∙ (w.tokens c ∙ ap (λ l. l ++ xs c) (sym (changed_past (moved net f.unit does.0) s.state.tokens c ls)))

      stamps : (c : ℕ) → (c < length net.chans) ⊎ (length net.chans ≤ c) → stamps_at (after_by net n t f.unit (Some does.0)) c ≡ stamps_at (after_by net n s f.unit (Some does.0)) c ++ ns c
      stamps c (inl l) =
          let lt : c < length t.stamps = omega (arith, w.longs_too) in
          let ls : c < length s.stamps = omega (arith, w.longs) in
          let p = cond (is_some (puts_on net f.unit does.0.put c)) (Some n) None in
          stamps_after net n f.unit does.0 t c lt
          ∙ (ap (λ l. added p (taken (takes_from net f.unit does.0 c) l)) (w.stamps c)
          ∙ (moved_more p (takes_from net f.unit does.0 c) (stamps_at s c) (ns c) (λ g. (let k = some_there c g in let z = w.paired c in omega arith)) (no_stamp c (ns c) (no_put_or_more ns from.stamps c l))
          ∙ ap (λ l. l ++ ns c) (sym (stamps_after net n f.unit does.0 s c ls))))
      stamps c (inr l) =
          let lt : length t.stamps ≤ c = omega (arith, w.longs_too) in
          let ls : length s.stamps ≤ c = omega (arith, w.longs) in
          changed_past (moved net f.unit (record does.0 { put = stamped n does.0.put })) t.stamps c lt ∙ (w.stamps c ∙ ap (λ l. l ++ ns c) (sym (changed_past (moved net f.unit (record does.0 { put = stamped n does.0.put })) s.stamps c ls)))

pub more_handed_out : MoreHandedOut
more_handed_out net owner j clock xs ns s s' [] t from w p = record {
  to = s';
  plays = refl;
  fuller = subst (λ x. IsFuller net owner j xs ns x s') p w;
  takes = λ c. refl;
}
more_handed_out net owner j clock xs ns s s' (e ∷ es) t from w p =
    let rest = more_handed_out net owner j e.stamp xs ns (after_at net e.stamp s e.firing) (after_at net e.stamp s' e.firing) es t from (fuller_after net owner j xs ns from e.stamp s s' e.firing p.1 w) p.2 in
    let does_now = does net owner j xs ns from e.stamp s s' e.firing p.1 w in
    let too = does_too net owner j xs ns from e.stamp s s' e.firing p.1 w in
    record {
      to = rest.to;
      plays = (p.0, may_too net owner j xs ns from e.stamp s s' e.firing p.1 w, rest.plays);
      fuller = rest.fuller;
      takes = λ c.
          ap (λ o. cond (takes_by net e.firing.unit o c) (e.stamp ∷ take_stamps net c (after_at net e.stamp s' e.firing) es) (take_stamps net c (after_at net e.stamp s' e.firing) es)) (too ∙ sym does_now.1)
          ∙ ap (λ l. cond (takes_by net e.firing.unit (effect net s.state e.firing) c) (e.stamp ∷ l) l) (rest.takes c);
    }
