-- Tokens with the places that hold them, in any order: a stage of a list of tokens is one of each list that exchanges lead to.
use Rattle.std.proofs.Common.{◌≡◌, ◌≢◌, ℕ, zero, suc, ◌+◌, ◌<◌, ◌≤◌, Option, Some, None, List, [], ◌∷◌, ◌++◌, length, set, refl, sym, ap, ◌∙◌, subst, ⊎_elim, arith, slice_get, append_assoc, length-append}
use Rattle.ir.specs.Steps.{value_at}
use Rattle.net_types.specs.declared.net.Place.{Place}
use Rattle.net_types.specs.declared.net.Net.{Net}
use Rattle.net_types.specs.Nets.{at}
use Rattle.net_core.specs.Fire.{State}
use Rattle.circuit_build.specs.declared.draft.End.{End}
use Rattle.circuit_build.specs.declared.draft.Queue.{Queue}
use Rattle.circuit_build.specs.Drafts.{end_of, after_place, used}
use Rattle.circuit_build.proofs.Marks.{Aside}
use Rattle.circuit_build.proofs.Stages.{is_place, spread, NotIn, Apart, Outside, Stage}
use Rattle.circuit_build.proofs.SpreadLemmas.{place_tells, is_not}
use Rattle.circuit_build.proofs.StageParts.{shows_as}
use Rattle.circuit_build.proofs.LaySections.{AllUsed}

pub record Token : Type 0 where
  pub place : Place
  pub value : ℕ

abbrev pub token : Place → ℕ → Token
token p v = record { place = p; value = v }

abbrev pub places : List Token → List (Option Place)
places [] = []
places (t ∷ ts) = Some t.place ∷ places ts

abbrev pub values : List Token → List ℕ
values [] = []
values (t ∷ ts) = t.value ∷ values ts

pub as_many : (ts : List Token) → length (places ts) ≡ length (values ts)
as_many [] = refl
as_many (t ∷ ts) = ap suc (as_many ts)

pub places_long : (ts : List Token) → length (places ts) ≡ length ts
places_long [] = refl
places_long (t ∷ ts) = ap suc (places_long ts)

-- ---- exchanges

pub data Swaps : List Token → List Token → Type 0 where
  same : {ts : List Token} → Swaps ts ts
  keep : {t : Token} {ts us : List Token} → Swaps ts us → Swaps (t ∷ ts) (t ∷ us)
  swap : {t u : Token} {ts : List Token} → Swaps (t ∷ u ∷ ts) (u ∷ t ∷ ts)
  follow : {ts us vs : List Token} → Swaps ts us → Swaps us vs → Swaps ts vs

pub swaps_as : {ts us vs : List Token} → us ≡ vs → Swaps ts us → Swaps ts vs
swaps_as {ts = ts} e s = subst (λ l. Swaps ts l) e s

pub swaps_of : {ts us : List Token} → ts ≡ us → Swaps ts us
swaps_of {ts = ts} e = subst (λ l. Swaps ts l) e same

pub swaps_back : {ts us : List Token} → Swaps ts us → Swaps us ts
swaps_back same = same
swaps_back (keep s) = keep (swaps_back s)
swaps_back swap = swap
swaps_back (follow s t) = follow (swaps_back t) (swaps_back s)

-- behind the same tokens
pub swaps_behind : (xs : List Token) {ts us : List Token} → Swaps ts us → Swaps (xs ++ ts) (xs ++ us)
swaps_behind [] s = s
swaps_behind (x ∷ xs) s = keep (swaps_behind xs s)

-- in front of the same tokens
pub swaps_before : (zs : List Token) {ts us : List Token} → Swaps ts us → Swaps (ts ++ zs) (us ++ zs)
swaps_before zs same = same
swaps_before zs (keep s) = keep (swaps_before zs s)
swaps_before zs swap = swap
swaps_before zs (follow s t) = follow (swaps_before zs s) (swaps_before zs t)

-- a token of the middle comes to the front
pub to_first : (xs : List Token) (t : Token) (ts : List Token) → Swaps (xs ++ t ∷ ts) (t ∷ xs ++ ts)
to_first [] t ts = same
to_first (x ∷ xs) t ts = follow (keep (to_first xs t ts)) swap

-- tokens of the middle come to the front
pub block_first : (xs ys zs : List Token) → Swaps (xs ++ (ys ++ zs)) (ys ++ (xs ++ zs))
block_first xs [] zs = same
block_first xs (y ∷ ys) zs = follow (to_first xs y (ys ++ zs)) (keep (block_first xs ys zs))

pub swaps_long : {ts us : List Token} → Swaps ts us → length ts ≡ length us
swaps_long same = refl
swaps_long (keep s) = ap suc (swaps_long s)
swaps_long swap = refl
swaps_long (follow s t) = swaps_long s ∙ swaps_long t

-- ---- what exchanges keep

pub not_in_kept : {ts us : List Token} → Swaps ts us → (p : Place) → NotIn p (places ts) → NotIn p (places us)
not_in_kept same p h = h
not_in_kept (keep s) p h = (h.0, not_in_kept s p h.1)
not_in_kept swap p h = (h.1.0, (h.0, h.1.1))
not_in_kept (follow s t) p h = not_in_kept t p (not_in_kept s p h)

pub apart_kept : {ts us : List Token} → Swaps ts us → Apart (places ts) → Apart (places us)
apart_kept same h = h
apart_kept (keep {t = t} s) h = (not_in_kept s t.place h.0, apart_kept s h.1)
apart_kept swap h = ((λ e. h.0.0 (sym e), h.1.0), (h.0.1, h.1.1))
apart_kept (follow s t) h = apart_kept t (apart_kept s h)

pub outside_kept : {ts us : List Token} → Swaps ts us → (low n m : ℕ) → Outside low n m (places ts) → Outside low n m (places us)
outside_kept same low n m h = h
outside_kept (keep s) low n m h = (h.0, h.1, outside_kept s low n m h.2)
outside_kept swap low n m h = (h.2.0, h.2.1, (h.0, h.1, h.2.2))
outside_kept (follow s t) low n m h = outside_kept t low n m (outside_kept s low n m h)

pub used_kept : {ts us : List Token} → Swaps ts us → (low : ℕ) (qs : List (Option Queue)) → AllUsed low qs (places ts) → AllUsed low qs (places us)
used_kept same low qs h = h
used_kept (keep s) low qs h = (h.0, used_kept s low qs h.1)
used_kept swap low qs h = (h.1.0, (h.0, h.1.1))
used_kept (follow s t) low qs h = used_kept t low qs (used_kept s low qs h)

pub marks_kept : {ts us : List Token} → Swaps ts us → Apart (places ts) → (r : Place) → spread (places ts) (values ts) r ≡ spread (places us) (values us) r
marks_kept same h r = refl
marks_kept (keep {t = t} s) h r = let i = marks_kept s h.1 r in ⊎_elim (λ (a, x). rw a refl) (λ (a, x). rw a i) (place_tells r t.place)
marks_kept (swap {t = t} {u = u} {ts = ts}) h r =
    ⊎_elim
    (λ (a, x). let b = is_not r u.place (λ e. h.0.0 (sym x ∙ e)) in rw (a, b) refl)
    (λ (a, x). rw a refl)
    (place_tells r t.place)
marks_kept (follow s t) h r = marks_kept s h r ∙ marks_kept t (apart_kept s h) r

pub swapped : {net : Net} {scalars : List ℕ} {s : State} {a : Aside} {low n m : ℕ} {ts us : List Token} → Swaps ts us → Stage net scalars s a low n m (places ts) (values ts) → Stage net scalars s a low n m (places us) (values us)
swapped {low = low} {n = n} {m = m} {us = us} x st = record {
  shows = shows_as (spread (places us) (values us)) (marks_kept x st.apart) st.shows;
  apart = apart_kept x st.apart;
  outside = outside_kept x low n m st.outside;
  same = as_many us;
}

-- ---- rows of tokens of one value, at a place and the ones after it

abbrev pub row : Place → ℕ → ℕ → List Token
row p zero v = []
row p (suc k) v = token p v ∷ row (after_place p) k v

abbrev pub end_place : Option End → Place
end_place None = at 0 0
end_place (Some e) = e.place

-- so many tokens of each value, from its end on
abbrev pub kept : (ℕ → ℕ) → List (Option End) → List ℕ → List Token
kept T [] vs = []
kept T (e ∷ es) [] = []
kept T (e ∷ es) (v ∷ vs) = row (end_place e) (T 0) v ++ kept (λ w. T (suc w)) es vs

-- one more of the value v
abbrev pub more : ℕ → (ℕ → ℕ) → ℕ → ℕ
more zero T zero = suc (T zero)
more zero T (suc w) = T (suc w)
more (suc v) T zero = T zero
more (suc v) T (suc w) = more v (λ x. T (suc x)) w

abbrev pub more_all : List ℕ → (ℕ → ℕ) → ℕ → ℕ
more_all [] T = T
more_all (v ∷ vs) T = more v (more_all vs T)

pub row_long : (p : Place) (k v : ℕ) → length (row p k v) ≡ k
row_long p zero v = refl
row_long p (suc k) v = ap suc (row_long (after_place p) k v)

pub kept_as : (T S : ℕ → ℕ) (es : List (Option End)) (vs : List ℕ) → ((w : ℕ) → T w ≡ S w) → kept T es vs ≡ kept S es vs
kept_as T S [] vs h = refl
kept_as T S (e ∷ es) [] h = refl
kept_as T S (e ∷ es) (v ∷ vs) h =
    let i = kept_as (λ w. T (suc w)) (λ w. S (suc w)) es vs (λ w. h (suc w)) in
    ap (λ k. row (end_place e) k v ++ kept (λ w. T (suc w)) es vs) (h 0) ∙ ap (λ l. row (end_place e) (S 0) v ++ l) i

pub none_kept : (T : ℕ → ℕ) (es : List (Option End)) (vs : List ℕ) → ((w : ℕ) → T w ≡ 0) → kept T es vs ≡ []
none_kept T [] vs h = refl
none_kept T (e ∷ es) [] h = refl
none_kept T (e ∷ es) (v ∷ vs) h = ap (λ k. row (end_place e) k v ++ kept (λ w. T (suc w)) es vs) (h 0) ∙ none_kept (λ w. T (suc w)) es vs (λ w. h (suc w))

-- the next value
pub kept_next : (T : ℕ → ℕ) (es : List (Option End)) (e : Option End) (vs : List ℕ) (v : ℕ) → length es ≡ length vs → kept T (es ++ e ∷ []) (vs ++ v ∷ []) ≡ kept T es vs ++ row (end_place e) (T (length es)) v
kept_next T [] e [] v l = nothing_more (row (end_place e) (T 0) v)
  where
    nothing_more : (ts : List Token) → ts ++ [] ≡ ts
    nothing_more [] = refl
    nothing_more (t ∷ ts) = ap (λ l. t ∷ l) (nothing_more ts)
kept_next T [] e (x ∷ vs) v l = absurd (omega arith)
kept_next T (d ∷ es) e [] v l = absurd (omega arith)
kept_next T (d ∷ es) e (x ∷ vs) v l =
    ap (λ l. row (end_place d) (T 0) x ++ l) (kept_next (λ w. T (suc w)) es e vs v (omega arith)) ∙ sym (append_assoc (row (end_place d) (T 0) x) (kept (λ w. T (suc w)) es vs) (row (end_place e) (T (suc (length es))) v))

-- a use of a value takes the first of its tokens
pub take_kept : (v : ℕ) (T : ℕ → ℕ) (es : List (Option End)) (vs : List ℕ) → v < length es → length es ≡ length vs
    → Swaps (kept (more v T) es vs) (token (end_of es v).place (value_at vs v) ∷ kept T (used v es) vs)
take_kept v T [] vs lt l = absurd (omega arith)
take_kept v T (e ∷ es) [] lt l = absurd (omega arith)
take_kept zero T (None ∷ es) (x ∷ vs) lt l = same
take_kept zero T (Some e ∷ es) (x ∷ vs) lt l = same
take_kept (suc v) T (e ∷ es) (x ∷ vs) lt l =
    let i = take_kept v (λ w. T (suc w)) es vs (omega arith) (omega arith) in
    follow (swaps_behind (row (end_place e) (T 0) x) i)
    (to_first (row (end_place e) (T 0) x) (token (end_of es v).place (value_at vs v)) (kept (λ w. T (suc w)) (used v es) vs))
