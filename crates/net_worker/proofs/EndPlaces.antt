-- Ends in their places.
use Rattle.std.proofs.Common.{◌≡◌, ℕ, zero, suc, ◌+◌, ◌<◌, ◌≤◌, Bool, true, false, cond, Option, Some, None, List, [], ◌∷◌, ◌++◌, length, get_or, set, replicate, Ok, Err, refl, sym, ap, subst, arith, inl, inr, ◌∙◌}
use Rattle.std.specs.Ordering.{nat_cmp}
use Rattle.std.specs.List.{Contains}
use Rattle.std.specs.List.Sorted.{IsBinarySearchResult}
use Rattle.std.proofs.lemmas.List.Sorted.{searched}
use Rattle.std.proofs.lemmas.Bool.{cases_lt}
use Rattle.std.proofs.lemmas.List.{get_or_default, set-get_or, length-set, length-replicate, length-append, get_or_append_left, get_or_at}
use Rattle.net_worker.specs.ChannelEnds.{spread, length-put_over, AreChannels, ArePlaces, StandsAt, IsNotAmong}
use Rattle.net_worker.proofs.PutOver.{put_over_none, put_over_some, put_over_set}

pub length-spread : {A : Type 0} (n : ℕ) (cs : List ℕ) (es : List (Option A)) → length (spread n cs es) ≡ n
length-spread n cs es = length-put_over cs es (replicate n None) ∙ length-replicate n None

-- nothing among places that have nothing
pub nothing_there : {A : Type 0} (n c : ℕ) → get_or (replicate {A = Option A} n None) c None ≡ None
nothing_there zero c = refl
nothing_there (suc n) zero = refl
nothing_there (suc n) (suc c) = nothing_there n c

-- nothing at another channel
pub spread_none : {A : Type 0} (n : ℕ) (cs : List ℕ) (es : List (Option A)) (c : ℕ) → IsNotAmong cs c → get_or (spread n cs es) c None ≡ None
spread_none n cs es c other = put_over_none cs es (replicate n None) c None other ∙ nothing_there n c

-- at a channel its own end
pub some_at : {A : Type 0} (n : ℕ) (cs : List ℕ) (es : List (Option A)) (c i : ℕ) → ArePlaces n cs es → StandsAt cs c i → get_or (spread n cs es) c None ≡ get_or es i None
some_at n cs es c i h s = put_over_some cs es (replicate n None) c i None (subst (λ m. AreChannels m cs) (sym (length-replicate n None)) h.channels) h.long s

-- another end there, and all others as they were
pub set_at : {A : Type 0} (n : ℕ) (cs : List ℕ) (es : List (Option A)) (c i : ℕ) (x : Option A) → ArePlaces n cs es → StandsAt cs c i → spread n cs (set es i x) ≡ set (spread n cs es) c x
set_at n cs es c i x h s = put_over_set n cs es (replicate n None) c i x h.channels h.long s

-- a channel that stands in a list is in it
pub contains_at : (cs : List ℕ) (c i : ℕ) → StandsAt cs c i → Contains cs c
contains_at cs c i s = (i, s.0, sym (get_or_default cs i 0 c s.0) ∙ s.1)

-- a channel with a place is within the list
pub within_places : {A : Type 0} (n : ℕ) (cs : List ℕ) (es : List (Option A)) (c i : ℕ) → ArePlaces n cs es → StandsAt cs c i → c < length (spread n cs es)
within_places n cs es c i h s = subst (λ m. c < m) (sym (length-spread n cs es)) (subst (λ d. d < n) s.1 (h.channels.within i s.0))

-- nothing is taken away where nothing is
pub nothing_cleared : {A : Type 0} (n : ℕ) (cs : List ℕ) (es : List (Option A)) (c : ℕ) → IsNotAmong cs c → set (spread n cs es) c None ≡ spread n cs es
nothing_cleared n cs es c other = subst (λ x. set (spread n cs es) c x ≡ spread n cs es) (spread_none n cs es c other) (set-get_or (spread n cs es) c None)

-- places with another end at one of them
pub places_set : {A : Type 0} (n : ℕ) (cs : List ℕ) (es : List (Option A)) (i : ℕ) (x : Option A) → ArePlaces n cs es → ArePlaces n cs (set es i x)
places_set n cs es i x h = record { channels = h.channels; long = length-set es i x ∙ h.long }

-- places without ends
pub spread_new : {A : Type 0} (n : ℕ) (cs : List ℕ) (m : ℕ) → spread {A = A} n cs (replicate m None) ≡ replicate n None
spread_new n [] m = refl
spread_new n (c ∷ cs) zero = refl
spread_new n (c ∷ cs) (suc m) = ap (λ y. set y c None) (spread_new n cs m) ∙ set_nothing n c
  where
    set_nothing : {A : Type 0} (n c : ℕ) → set (replicate {A = Option A} n None) c None ≡ replicate n None
    set_nothing zero c = refl
    set_nothing (suc n) zero = refl
    set_nothing (suc n) (suc c) = ap (λ y. None ∷ y) (set_nothing n c)

-- ascending channels do not fall
never_fall : (n : ℕ) (cs : List ℕ) → AreChannels n cs → (i j : ℕ) → i ≤ j → j < length cs → get_or cs i 0 ≤ get_or cs j 0
never_fall n cs h i j le l = elim (cases_lt i j) [
  | inl less ↦ let r = h.rise i j less l in omega (arith, r)
  | inr past ↦ let same : i ≡ j = omega (arith, le, past) in subst (λ k. get_or cs i 0 ≤ get_or cs k 0) same (omega arith)
]

-- what a search for a channel finds
pub found_at : (n : ℕ) (cs : List ℕ) (c i : ℕ) → AreChannels n cs → IsBinarySearchResult (λ y. nat_cmp y c) cs (Ok i) → StandsAt cs c i
found_at n cs c i h r = searched cs c (Ok i) r (never_fall n cs h)

pub found_not : (n : ℕ) (cs : List ℕ) (c i : ℕ) → AreChannels n cs → IsBinarySearchResult (λ y. nat_cmp y c) cs (Err i) → IsNotAmong cs c
found_not n cs c i h r j l q =
    let s = searched cs c (Err i) r (never_fall n cs h) in
    elim (cases_lt j i) [
      | inl less ↦ let b = s.1 j less in omega (arith, b, q)
      | inr past ↦ let b = s.2 j past l in omega (arith, b, q)
    ]

-- ---- a list of channels, one more looked at

channels_wider : (n : ℕ) (cs : List ℕ) → AreChannels n cs → AreChannels (n + 1) cs
channels_wider n cs h = record { rise = h.rise; within = λ i l. let w = h.within i l in omega (arith, w) }

channels_push : (n : ℕ) (cs : List ℕ) → AreChannels n cs → AreChannels (n + 1) (cs ++ n ∷ [])
channels_push n cs h = record { rise = rise; within = within }
  where
    long : length (cs ++ n ∷ []) ≡ length cs + 1
    long = length-append cs (n ∷ [])

    before : (i : ℕ) → i < length cs → get_or (cs ++ n ∷ []) i 0 ≡ get_or cs i 0
    before i l = get_or_append_left cs (n ∷ []) 0 i l

    at_end : (i : ℕ) → length cs ≡ i → get_or (cs ++ n ∷ []) i 0 ≡ n
    at_end i q = get_or_at cs n [] 0 i q

    rise : (i j : ℕ) → i < j → j < length (cs ++ n ∷ []) → get_or (cs ++ n ∷ []) i 0 < get_or (cs ++ n ∷ []) j 0
    rise i j l m = elim (cases_lt j (length cs)) [
      | inl k ↦ let r = h.rise i j l k in let a = before i (omega (arith, l, k)) in let b = before j k in omega (arith, r, a, b)
      | inr k ↦ let i_in : i < length cs = omega (arith, l, m, long) in let r = h.within i i_in in let a = before i i_in in let b = at_end j (omega (arith, k, m, long)) in omega (arith, r, a, b)
    ]

    within : (i : ℕ) → i < length (cs ++ n ∷ []) → get_or (cs ++ n ∷ []) i 0 < n + 1
    within i m = elim (cases_lt i (length cs)) [
      | inl k ↦ let r = h.within i k in let a = before i k in omega (arith, r, a)
      | inr k ↦ let a = at_end i (omega (arith, k, m, long)) in omega (arith, a)
    ]

pub channels_if : (n : ℕ) (cs ds : List ℕ) (b : Bool) → ds ≡ cond b (cs ++ n ∷ []) cs → AreChannels n cs → AreChannels (n + 1) ds
channels_if n cs ds true e h = subst (AreChannels (n + 1)) (sym e) (channels_push n cs h)
channels_if n cs ds false e h = subst (AreChannels (n + 1)) (sym e) (channels_wider n cs h)
