-- Rule C6: the walk back from the exit, which meets no queue twice.
use Rattle.std.proofs.Common.{◌≡◌, ◌⊎◌, inl, inr, ℕ, zero, suc, ◌+◌, ◌<◌, ◌≤◌, ◌==◌, not, Bool, true, false, cond, Option, Some, None, List, [], ◌∷◌, ◌++◌, length, get_or, set, map, replicate, refl, sym, ap, subst, ◌∙◌, arith, length-set, get_or-set_same, get_or-set_other, append_assoc}
use Rattle.std.specs.Prelude.{MatchOption}
use Rattle.std.specs.List.{count_by}
use Rattle.std.proofs.lemmas.Bool.{cases_eq, cases_lt, eq-eqb, ne_eqb, eqb-true, and_parts, and_from, both_ways, false≢true}
use Rattle.std.proofs.lemmas.List.{get_or-replicate, get_or_past, append-nil}
use Rattle.std.proofs.lemmas.List.Sums.{sum_by-cons}
use Rattle.std.proofs.Math.ListN.{length-replicate}
use Rattle.net_types.specs.declared.net.Chan.{Chan}
use Rattle.net_types.specs.declared.net.Net.{Net}
use Rattle.net_types.specs.declared.net.Place.{Place}
use Rattle.net_types.specs.declared.net.Unit.{Unit as Kind}
use Rattle.net_types.specs.declared.net.Unit.TheVariants.{Lsq, Sink}
use Rattle.net_types.specs.Nets.{is_at, into, out_of, nowhere, kind_of, chan_at}
use Rattle.net_types.specs.Rules.{KeepsC1, out_places, times_in}
use Rattle.net_check.specs.declared.refusal.At.{At}
use Rattle.net_check.specs.declared.refusal.At.TheVariants as «at»
use Rattle.net_check.specs.declared.wires.Side.TheVariants.{Out}
use Rattle.net_check.specs.Ends.{is_lsq, end_place, IsEnd, IsQueue, end_target, EndsWell, source_of, WalksBack, stops, meets, IsChain, times_met, KeepsC6, IsAstray, IsUnmet, CulpritC6}
use Rattle.net_check.specs.private.Firsts.{IsFirst}
use Rattle.net_check.specs.Headers.{is_exit}
use Rattle.net_check.specs.Lowest.{IsLowest}
use Rattle.net_check.specs.private.Marks.{times}
use Rattle.net_check.specs.Shapes.{HasShape, KeepsC7}
use Rattle.net_check.specs.private.Walks.{IsMet, AreMet, IsFirstUnmet, AreAllMet}
use Rattle.net_check.proofs.PeelLemmas.{bit, counted, uncounted, times_push, fewer}
use Rattle.net_check.proofs.PlaceCounts.{placed_most}

-- into and out_of
into_at : (u p : ℕ) (cs : List Chan) → into u p cs < length cs → is_at (get_or cs (into u p cs) nowhere).to u p ≡ true
into_at u p [] l = absurd (omega arith)
into_at u p (c ∷ cs) l = by (is_at c.to u p) refl l (into_at u p cs)
  where
    by : (b : Bool) → is_at c.to u p ≡ b → cond b 0 (suc (into u p cs)) < length (c ∷ cs) → (into u p cs < length cs → is_at (get_or cs (into u p cs) nowhere).to u p ≡ true)
        → is_at (get_or (c ∷ cs) (cond b 0 (suc (into u p cs))) nowhere).to u p ≡ true
    by true e l' h = e
    by false e l' h = h (omega arith)

-- where one channel at most comes out of a place, out_of is its number
out_of_only : (u p i : ℕ) (cs : List Chan) → count_by (λ (c : Chan). is_at c.from u p) cs ≤ 1 → i < length cs → is_at (get_or cs i nowhere).from u p ≡ true → out_of u p cs ≡ i
out_of_only u p i [] k l t = absurd (omega arith)
out_of_only u p zero (c ∷ cs) k l t = ap (λ (b : Bool). cond b 0 (suc (out_of u p cs))) t
out_of_only u p (suc i) (c ∷ cs) k l t = by (is_at c.from u p) refl (out_of_only u p i cs)
  where
    by : (b : Bool) → is_at c.from u p ≡ b → (count_by (λ (y : Chan). is_at y.from u p) cs ≤ 1 → i < length cs → is_at (get_or cs i nowhere).from u p ≡ true → out_of u p cs ≡ i)
        → cond b 0 (suc (out_of u p cs)) ≡ suc i
    by true e h =
        let s = sum_by-cons (λ (y : Chan). bit (is_at y.from u p)) c cs in
        let o : bit (is_at c.from u p) ≡ 1 = ap bit e in
        let z : count_by (λ (y : Chan). is_at y.from u p) cs ≡ 0 = omega arith in
        absurd (both_ways _ (uncounted (λ (y : Chan). is_at y.from u p) cs i nowhere (omega arith) z) t)
    by false e h =
        let s = sum_by-cons (λ (y : Chan). bit (is_at y.from u p)) c cs in
        let q : count_by (λ (y : Chan). is_at y.from u p) cs ≤ 1 = omega arith in
        ap suc (h q (omega arith) t)

count_from : (u p : ℕ) (cs : List Chan) → times_in (map (λ (c : Chan). c.from) cs) u p ≡ count_by (λ (c : Chan). is_at c.from u p) cs
count_from u p [] = refl
count_from u p (c ∷ cs) =
    let a = sum_by-cons (λ (q : Place). bit (is_at q u p)) c.from (map (λ (y : Chan). y.from) cs) in
    let b = sum_by-cons (λ (y : Chan). bit (is_at y.from u p)) c cs in
    a ∙ ap (λ n. bit (is_at c.from u p) + n) (count_from u p cs) ∙ sym b

one_out : (net : Net) (u p : ℕ) → KeepsC1 net → count_by (λ (c : Chan). is_at c.from u p) net.chans ≤ 1
one_out net u p k =
    let a = count_from u p net.chans in
    let b = k.out_of_each u p in
    let c : times_in (out_places net) u p ≤ 1 = placed_most Out net u p in
    omega arith

-- a queue has groups, so that the number of its End's places is not 0
end_some : (k : Kind) → HasShape k → is_lsq k ≡ true → 0 < end_place k
end_some (Lsq a d ps gs f) h t = h.some_group
end_some _ h t = absurd (false≢true t)

not_both : (k : Kind) → is_lsq k ≡ true → is_exit k ≡ true → ⊥
not_both (Lsq a d ps gs f) t x = false≢true x
not_both _ t x = false≢true t

-- the channel out of an End goes to the place from which the walk back came to it
target_back : (net : Net) (u p : ℕ) → KeepsC1 net → KeepsC7 net → IsEnd net (source_of net u p) → (end_target net (source_of net u p).unit).unit ≡ u
target_back net u p k k7 e = by (cases_lt (into u p net.chans) (length net.chans))
  where
    c : ℕ
    c = into u p net.chans

    q : ℕ
    q = (source_of net u p).unit

    some : 0 < end_place (kind_of net q)
    some = end_some (kind_of net q) (k7.units q (Sink 0) e.within) e.queue

    by : (into u p net.chans < length net.chans) ⊎ (length net.chans ≤ into u p net.chans) → (end_target net q).unit ≡ u
    by (inl l) =
        let t : is_at (chan_at net c).to u p ≡ true = into_at u p net.chans l in
        let f : is_at (chan_at net c).from q (end_place (kind_of net q)) ≡ true = and_from _ _ (eq-eqb q q refl) (eq-eqb _ _ e.place) in
        let o : out_of q (end_place (kind_of net q)) net.chans ≡ c = out_of_only q (end_place (kind_of net q)) c net.chans (one_out net q (end_place (kind_of net q)) k) l f in
        ap (λ x. (chan_at net x).to.unit) o ∙ eqb-true _ _ (and_parts _ _ t).0
    by (inr l) =
        let n : chan_at net c ≡ nowhere = get_or_past net.chans c nowhere l in
        let z : (source_of net u p).place ≡ 0 = ap (λ (x : Chan). x.from.place) n in
        let s = some in let y = e.place in absurd (omega arith)

-- the place that the walk is at, after the queues that it met, the last one first
abbrev pub last_unit : ℕ → List ℕ → ℕ
last_unit exit [] = exit
last_unit exit (w ∷ ws) = w

abbrev pub last_place : Net → List ℕ → ℕ
last_place net [] = 0
last_place net (w ∷ ws) = end_place (kind_of net w)

-- they are queues, and the End of each goes to the unit that was met before it, of the first to the exit
abbrev pub Linked : Net → ℕ → List ℕ → Type 0
Linked net exit [] = Unit {0}
Linked net exit (w ∷ ws) = IsQueue net w × (((end_target net w).unit ≡ last_unit exit ws) × Linked net exit ws)

-- the state of the walk: it has met the queues with a mark, each once, and the channel that it stands at comes from a place
pub record Walking (net : Net) (exit : ℕ) (from : Place) (met : List Bool) : Type 0 where
  pub size : length met ≡ length net.units
  pub us : List ℕ
  pub ws : List ℕ
  pub from_is : from ≡ source_of net (last_unit exit ws) (last_place net ws)
  pub on : (rest : List ℕ) → WalksBack net (last_unit exit ws) (last_place net ws) rest → WalksBack net exit 0 (us ++ rest)
  pub linked : Linked net exit ws
  pub us_times : (u : ℕ) → u < length net.units → times us u ≡ bit (get_or met u false)
  pub ws_times : (u : ℕ) → u < length net.units → times ws u ≡ bit (get_or met u false)

times-cons : (x : ℕ) (xs : List ℕ) (u : ℕ) → times (x ∷ xs) u ≡ bit (x == u) + times xs u
times-cons x xs u = sum_by-cons (λ y. bit (y == u)) x xs

times_head : (x : ℕ) (xs : List ℕ) (u : ℕ) → x ≡ u → times (x ∷ xs) u ≡ 1 + times xs u
times_head x xs u e = times-cons x xs u ∙ ap (λ b. bit b + times xs u) (eq-eqb x u e)

abbrev rest_of : List ℕ → List ℕ
rest_of [] = []
rest_of (w ∷ ws) = ws

rest_le : (ws : List ℕ) (u : ℕ) → times (rest_of ws) u ≤ times ws u
rest_le [] u = omega arith
rest_le (w ∷ ws) u = let a = times-cons w ws u in omega arith

at_last : (exit t : ℕ) (ws : List ℕ) → t ≡ last_unit exit ws → (t ≡ exit) ⊎ (0 < times ws t)
at_last exit t [] e = inl e
at_last exit t (w ∷ ws) e = inr (let a = times_head w ws t (sym e) in omega arith)

-- the End of a queue that was met goes to the exit, or to one that was met before the last
target_met : (net : Net) (exit q : ℕ) (ws : List ℕ) → Linked net exit ws → 0 < times ws q → ((end_target net q).unit ≡ exit) ⊎ (0 < times (rest_of ws) (end_target net q).unit)
target_met net exit q [] k l = absurd (omega arith)
target_met net exit q (w ∷ ws) k l = by (cases_eq w q) (target_met net exit q ws k.1.1)
  where
    by : (w ≡ q) ⊎ (w ≡ q → ⊥) → (0 < times ws q → ((end_target net q).unit ≡ exit) ⊎ (0 < times (rest_of ws) (end_target net q).unit))
        → ((end_target net q).unit ≡ exit) ⊎ (0 < times ws (end_target net q).unit)
    by (inl e) h = at_last exit (end_target net q).unit ws (ap (λ x. (end_target net x).unit) (sym e) ∙ k.1.0)
    by (inr e) h =
        let a : times (w ∷ ws) q ≡ times ws q = times-cons w ws q ∙ ap (λ b. bit b + times ws q) (ne_eqb w q e) ∙ (omega arith) in
        elim (h (omega arith)) [
          | inl x ↦ inl x
          | inr x ↦ inr (let b = rest_le ws (end_target net q).unit in let x' : 0 < times (rest_of ws) (end_target net q).unit = x in omega arith)
        ]

bit_most : (b : Bool) → bit b ≤ 1
bit_most true = omega arith
bit_most false = omega arith

-- a queue whose End goes to the unit that the walk is at was not met
not_met : (net : Net) (exit q : ℕ) (ws : List ℕ) → is_exit (kind_of net exit) ≡ true → Linked net exit ws → ((u : ℕ) → u < length net.units → times ws u ≤ 1) → (end_target net q).unit ≡ last_unit exit ws → 0 < times ws q → ⊥
not_met net exit q [] x k m e l = absurd (omega arith)
not_met net exit q (w ∷ ws) x k m e l = by (target_met net exit q (w ∷ ws) k l)
  where
    by : ((end_target net q).unit ≡ exit) ⊎ (0 < times ws (end_target net q).unit) → ⊥
    by (inl h) = not_both (kind_of net w) k.0.queue (ap (λ y. is_exit (kind_of net y)) (sym e ∙ h) ∙ x)
    by (inr h) =
        let a = times_head w ws w refl in
        let b = m w k.0.within in
        let c : times ws (end_target net q).unit ≡ times ws w = ap (λ y. times ws y) e in
        let h' : 0 < times ws (end_target net q).unit = h in
        omega arith

unmet_at : (net : Net) (exit : ℕ) (from : Place) (met : List Bool) → KeepsC1 net → KeepsC7 net → is_exit (kind_of net exit) ≡ true → (w : Walking net exit from met)
    → IsEnd net (source_of net (last_unit exit w.ws) (last_place net w.ws)) → get_or met (source_of net (last_unit exit w.ws) (last_place net w.ws)).unit false ≡ false
unmet_at net exit from met k k7 x w e = by (get_or met q false) refl
  where
    q : ℕ
    q = (source_of net (last_unit exit w.ws) (last_place net w.ws)).unit

    by : (b : Bool) → get_or met q false ≡ b → get_or met q false ≡ false
    by false f = f
    by true f =
        let t = w.ws_times q e.within in
        let o : bit (get_or met q false) ≡ 1 = ap bit f in
        absurd (not_met net exit q w.ws x w.linked (λ u l. (let a = w.ws_times u l in let b = bit_most (get_or met u false) in omega arith)) (target_back net (last_unit exit w.ws) (last_place net w.ws) k k7 e) (omega arith))

pub unmet : (net : Net) (exit : ℕ) (from : Place) (met : List Bool) → KeepsC1 net → KeepsC7 net → is_exit (kind_of net exit) ≡ true → Walking net exit from met → IsEnd net from → get_or met from.unit false ≡ false
unmet net exit from met k k7 x w e =
    let P : Place → Type 0 = IsEnd net in
    ap (λ (y : Place). get_or met y.unit false) w.from_is ∙ unmet_at net exit from met k k7 x w (subst P w.from_is e)

pub walking_none : (net : Net) (exit n : ℕ) (from : Place) (met : List Bool) → n ≡ length net.units → met ≡ replicate n false → from ≡ source_of net exit 0 → Walking net exit from met
walking_none net exit n from met l e f = record {
  size = ap length e ∙ length-replicate n false ∙ l;
  us = [];
  ws = [];
  from_is = f;
  on = λ rest k. k;
  linked = tt;
  us_times = λ u h. sym (ap bit (unset u h));
  ws_times = λ u h. sym (ap bit (unset u h));
}
  where
    unset : (u : ℕ) → u < length net.units → get_or met u false ≡ false
    unset u h = ap (λ m. get_or m u false) e ∙ get_or-replicate n u false false (omega arith)

marked : (met : List Bool) (q u : ℕ) → q < length met → get_or met q false ≡ false → bit (get_or (set met q true) u false) ≡ bit (q == u) + bit (get_or met u false)
marked met q u l f = by (cases_eq q u)
  where
    by : (q ≡ u) ⊎ (q ≡ u → ⊥) → bit (get_or (set met q true) u false) ≡ bit (q == u) + bit (get_or met u false)
    by (inl e) =
        let g : bit (get_or (set met q true) u false) ≡ 1 = ap (λ y. bit (get_or (set met q true) y false)) (sym e) ∙ ap bit (get_or-set_same met q true false l) in
        let h : bit (get_or met u false) ≡ 0 = ap (λ y. bit (get_or met y false)) (sym e) ∙ ap bit f in
        let o : bit (q == u) ≡ 1 = ap bit (eq-eqb q u e) in
        omega arith
    by (inr e) =
        let g : bit (get_or (set met q true) u false) ≡ bit (get_or met u false) = ap bit (get_or-set_other met q u true false (λ y. e (sym y))) in
        let o : bit (q == u) ≡ 0 = ap bit (ne_eqb q u e) in
        omega arith

walking_at : (net : Net) (exit : ℕ) (from : Place) (met : List Bool) → KeepsC1 net → KeepsC7 net → is_exit (kind_of net exit) ≡ true → (w : Walking net exit from met)
    → (s : Place) → s ≡ source_of net (last_unit exit w.ws) (last_place net w.ws) → IsEnd net (source_of net (last_unit exit w.ws) (last_place net w.ws))
    → Walking net exit (source_of net (source_of net (last_unit exit w.ws) (last_place net w.ws)).unit (source_of net (last_unit exit w.ws) (last_place net w.ws)).place)
    (set met (source_of net (last_unit exit w.ws) (last_place net w.ws)).unit true)
walking_at net exit from met k k7 x w s s_is e = record {
  size = length-set met q true ∙ w.size;
  us = w.us ++ q ∷ [];
  ws = q ∷ w.ws;
  from_is = ap (λ y. source_of net q y) e.place;
  on = λ rest h. (let P : List ℕ → Type 0 = λ xs. WalksBack net exit 0 xs in
      subst P (sym (append_assoc w.us (q ∷ []) rest)) (w.on (q ∷ rest) (meets (last_unit exit w.ws) (last_place net w.ws) rest e h)));
  linked = (record { within = e.within; queue = e.queue }, (target_back net (last_unit exit w.ws) (last_place net w.ws) k k7 e, w.linked));
  us_times = λ u h. (let a = times_push w.us q u in let b = w.us_times u h in let c = marked met q u inside off in omega arith);
  ws_times = λ u h. (let a = times-cons q w.ws u in let b = w.ws_times u h in let c = marked met q u inside off in omega arith);
}
  where
    q : ℕ
    q = (source_of net (last_unit exit w.ws) (last_place net w.ws)).unit

    off : get_or met q false ≡ false
    off = unmet_at net exit from met k k7 x w e

    inside : q < length met
    inside = let a = e.within in let b = w.size in omega arith

pub walking_more : (net : Net) (exit : ℕ) (from next : Place) (met : List Bool) → KeepsC1 net → KeepsC7 net → is_exit (kind_of net exit) ≡ true → Walking net exit from met → IsEnd net from
    → next ≡ source_of net from.unit from.place → Walking net exit next (set met from.unit true)
walking_more net exit from next met k k7 x w e n =
    let P : Place → Type 0 = IsEnd net in
    let Q : Place → Type 0 = λ y. Walking net exit (source_of net y.unit y.place) (set met y.unit true) in
    let R : Place → Type 0 = λ y. Walking net exit y (set met from.unit true) in
    subst R (sym n) (subst Q (sym w.from_is) (walking_at net exit from met k k7 x w from w.from_is (subst P w.from_is e)))

pub walking_fewer : (net : Net) (exit : ℕ) (from : Place) (met : List Bool) → KeepsC1 net → KeepsC7 net → is_exit (kind_of net exit) ≡ true → Walking net exit from met → IsEnd net from
    → count_by not (set met from.unit true) < count_by not met
walking_fewer net exit from met k k7 x w e = fewer met from.unit (let a = e.within in let b = w.size in omega arith) (unmet net exit from met k k7 x w e)

pub walking_done : (net : Net) (exit : ℕ) (from : Place) (met : List Bool) → Walking net exit from met → (IsEnd net from → ⊥) → IsMet net exit met
walking_done net exit from met w h = record {
  size = w.size;
  chain = w.us ++ [];
  walk = w.on [] (stops (last_unit exit w.ws) (last_place net w.ws) (λ e. (let P : Place → Type 0 = IsEnd net in h (subst P (sym w.from_is) e))));
  marked = λ u l. ap (λ xs. times xs u) (append-nil w.us) ∙ w.us_times u l;
}

-- one walk back from a place
walks_same : (net : Net) (u p : ℕ) (us vs : List ℕ) → WalksBack net u p us → WalksBack net u p vs → us ≡ vs
walks_same net u p us vs (stops a b n) (stops c d m) = refl
walks_same net u p us vs (stops a b n) (meets c d ws i w) = absurd (n i)
walks_same net u p us vs (meets a b ws i w) (stops c d m) = absurd (m i)
walks_same net u p us vs (meets a b ws i w) (meets c d ys j y) = ap (λ zs. (source_of net u p).unit ∷ zs) (walks_same net (source_of net u p).unit (end_place (kind_of net (source_of net u p).unit)) ws ys w y)

-- one place passes where the count is 1 at most
one_place : {A : Type 0} (q : A → Bool) (xs : List A) (i j : ℕ) (d : A) → count_by q xs ≤ 1 → i < length xs → j < length xs → q (get_or xs i d) ≡ true → q (get_or xs j d) ≡ true → i ≡ j
one_place q [] i j d k l m s t = absurd (omega arith)
one_place q (x ∷ xs) zero zero d k l m s t = refl
one_place {A} q (x ∷ xs) zero (suc j) d k l m s t =
    let a = sum_by-cons (λ (y : A). bit (q y)) x xs in
    let o : bit (q x) ≡ 1 = ap bit s in
    let z : count_by q xs ≡ 0 = omega arith in
    absurd (both_ways _ (uncounted q xs j d (omega arith) z) t)
one_place {A} q (x ∷ xs) (suc i) zero d k l m s t =
    let a = sum_by-cons (λ (y : A). bit (q y)) x xs in
    let o : bit (q x) ≡ 1 = ap bit t in
    let z : count_by q xs ≡ 0 = omega arith in
    absurd (both_ways _ (uncounted q xs i d (omega arith) z) s)
one_place {A} q (x ∷ xs) (suc i) (suc j) d k l m s t =
    let a = sum_by-cons (λ (y : A). bit (q y)) x xs in
    let z : count_by q xs ≤ 1 = omega arith in
    ap suc (one_place q xs i j d z (omega arith) (omega arith) s t)

-- one chain, where there is one exit
pub chains_same : (net : Net) (us vs : List ℕ) → count_by is_exit net.units ≡ 1 → IsChain net us → IsChain net vs → us ≡ vs
chains_same net us vs k a b =
    let e : b.exit ≡ a.exit = one_place is_exit net.units b.exit a.exit (Sink 0) (omega arith) b.within a.within b.is_exit a.is_exit in
    let P : ℕ → Type 0 = λ x. WalksBack net x 0 vs in
    walks_same net a.exit 0 us vs a.walk (subst P e b.walk)

some_exit : (net : Net) → count_by is_exit net.units ≡ 1 → IsFirst is_exit net.units (length net.units) None → ⊥
some_exit net k f =
    let r = counted is_exit net.units (Sink 0) (omega arith) in
    both_ways _ (f r.0 r.1.0) r.1.1

chain_of : (net : Net) (exit : ℕ) (met : List Bool) → exit < length net.units → is_exit (kind_of net exit) ≡ true → (m : IsMet net exit met) → IsChain net m.chain
chain_of net exit met l x m = record { exit = exit; within = l; is_exit = x; walk = m.walk }

all_met : (net : Net) (exit : ℕ) (met : List Bool) → exit < length net.units → is_exit (kind_of net exit) ≡ true → IsMet net exit met → AreMet net.units met → AreAllMet net
all_met net exit met l x m a = record {
  chain = m.chain;
  walked = chain_of net exit met l x m;
  each = λ u q. m.marked u q.within ∙ ap bit (a.each u q.within q.queue);
}

first_unmet_is : (net : Net) (exit u : ℕ) (met : List Bool) → count_by is_exit net.units ≡ 1 → exit < length net.units → is_exit (kind_of net exit) ≡ true → IsMet net exit met → IsFirstUnmet net.units met u → IsLowest (IsUnmet net) u
first_unmet_is net exit u met k l x m f = record {
  here = record {
    queue = record { within = f.within; queue = f.queue };
    chain = m.chain;
    walked = chain_of net exit met l x m;
    unmet = m.marked u f.within ∙ ap bit f.unmet;
  };
  below = λ v h n. (let e : n.chain ≡ m.chain = chains_same net n.chain m.chain k n.walked (chain_of net exit met l x m) in
      let z : times_met m.chain v ≡ 0 = ap (λ xs. times_met xs v) (sym e) ∙ n.unmet in
      let o : times_met m.chain v ≡ 1 = m.marked v n.queue.within ∙ ap bit (f.before v h n.queue.queue) in
      omega arith);
}

no_astray : (net : Net) → ((u : ℕ) → IsQueue net u → EndsWell net u) → (v : ℕ) → IsAstray net v → ⊥
no_astray net t v a = a.astray (t v a.queue)

pub left_decided : (net : Net) (vs us : List Kind) (exit : ℕ) (met marks : List Bool) (found o : Option ℕ) → vs ≡ net.units → us ≡ net.units → marks ≡ met → count_by is_exit net.units ≡ 1
    → found ≡ Some exit → IsFirst is_exit vs (length vs) found → IsMet net exit met → MatchOption o (AreMet us marks) (IsFirstUnmet us marks) → MatchOption o (AreAllMet net) (IsLowest (IsUnmet net))
left_decided net vs us exit met marks found o v e f k g x m d =
    let P : List Kind → Type 0 = λ y. MatchOption o (AreMet y marks) (IsFirstUnmet y marks) in
    let Q : List Bool → Type 0 = λ y. MatchOption o (AreMet net.units y) (IsFirstUnmet net.units y) in
    let R : List Kind → Type 0 = λ y. IsFirst is_exit y (length y) (Some exit) in
    let S : Option ℕ → Type 0 = λ y. IsFirst is_exit vs (length vs) y in
    by o (subst R v (subst S g x)) (subst Q f (subst P e d))
  where
    by : (y : Option ℕ) → IsFirst is_exit net.units (length net.units) (Some exit) → MatchOption y (AreMet net.units met) (IsFirstUnmet net.units met) → MatchOption y (AreAllMet net) (IsLowest (IsUnmet net))
    by None z a = all_met net exit met z.0 z.1 m a
    by (Some u) z a = first_unmet_is net exit u met k z.0 z.1 m a

pub some_exit_at : (net : Net) (us : List Kind) (found : Option ℕ) → us ≡ net.units → count_by is_exit net.units ≡ 1 → found ≡ None → IsFirst is_exit us (length us) found → ⊥
some_exit_at net us found e k g f =
    let P : List Kind → Type 0 = λ y. IsFirst is_exit y (length y) None in
    let S : Option ℕ → Type 0 = λ y. IsFirst is_exit us (length us) y in
    some_exit net k (subst P e (subst S g f))

pub ends_kept : (net : Net) → ((u : ℕ) → IsQueue net u → EndsWell net u) → AreAllMet net → KeepsC6 net
ends_kept net t a = record { targets = t; chain = a.chain; walked = a.walked; each = a.each }

pub left_culprit : (net : Net) (u : ℕ) (x : At) → ((v : ℕ) → IsQueue net v → EndsWell net v) → IsLowest (IsUnmet net) u → x ≡ at.Unit u → CulpritC6 net x
left_culprit net u x t l e = let P : At → Type 0 = CulpritC6 net in subst P (sym e) (inr (no_astray net t, l))

-- a net with a culprit breaks the rule
pub breaks_ends : (net : Net) (x : At) → count_by is_exit net.units ≡ 1 → CulpritC6 net x → KeepsC6 net → ⊥
breaks_ends net (at.Unit u) e (inl c) k = c.here.astray (k.targets u c.here.queue)
breaks_ends net (at.Unit u) e (inr c) k =
    let n = c.1.here in
    let s : n.chain ≡ k.chain = chains_same net n.chain k.chain e n.walked k.walked in
    let z : times_met k.chain u ≡ 0 = ap (λ xs. times_met xs u) (sym s) ∙ n.unmet in
    let o = k.each u n.queue in
    omega arith
breaks_ends net (at.Chan d) e c k = c
breaks_ends net at.Net e c k = c
