-- Ends that are given to a worker, and channels that it knows.
use Rattle.std.proofs.Common.{◌≡◌, ◌≢◌, ◌⊎◌, inl, inr, ℕ, ◌+◌, ◌<◌, ◌≤◌, Bool, true, cond, Option, Some, None, IsSome, List, [], ◌∷◌, ◌++◌, length, get_or, refl, ap, ◌∙◌, sym, subst, arith}
use Rattle.std.specs.List.{All, Contains}
use Rattle.std.proofs.lemmas.Bool.{cases_lt}
use Rattle.std.proofs.lemmas.List.{get_or_default, length-append}
use Rattle.std.proofs.lemmas.List.Elements.{All-push}
use Rattle.net_worker.specs.Given.{HasPuts, HasTakes}
use Rattle.net_worker.specs.Workers.{IsMadeOf, put_end, take_end}
use Rattle.net_worker.specs.declared.tables.Tables.{Tables}
use Rattle.net_worker.specs.declared.worker.Worker.{Worker}

-- each channel known has its end
pub puts_all : (t : Tables) (w : Worker) → IsMadeOf t w → ((k : ℕ) → k < length w.outs.items → IsSome (put_end w (get_or w.outs.items k 0))) → HasPuts t w
puts_all t w m f c o =
    let h = m.outs c o in
    subst (λ n. IsSome (put_end w n)) (get_or_default w.outs.items h.0 0 c h.1 ∙ h.2) (f h.0 h.1)

pub takes_all : (t : Tables) (w : Worker) → IsMadeOf t w → ((k : ℕ) → k < length w.ins.items → IsSome (take_end w (get_or w.ins.items k 0))) → HasTakes t w
takes_all t w m f c o =
    let h = m.ins c o in
    subst (λ n. IsSome (take_end w n)) (get_or_default w.ins.items h.0 0 c h.1 ∙ h.2) (f h.0 h.1)

pub puts_lack : (t : Tables) (w : Worker) → IsMadeOf t w → (k : ℕ) → k < length w.outs.items → (IsSome (put_end w (get_or w.outs.items k 0)) → ⊥) → HasPuts t w → ⊥
puts_lack t w m k l n f = n (f (get_or w.outs.items k 0) (m.outs_only k 0 l))

pub takes_lack : (t : Tables) (w : Worker) → IsMadeOf t w → (k : ℕ) → k < length w.ins.items → (IsSome (take_end w (get_or w.ins.items k 0)) → ⊥) → HasTakes t w → ⊥
takes_lack t w m k l n f = n (f (get_or w.ins.items k 0) (m.ins_only k 0 l))

-- ---- a list of channels that pass a test, one more looked at

contains_more : (xs : List ℕ) (y c : ℕ) → Contains xs c → Contains (xs ++ y ∷ []) c
contains_more xs y c (k, l, e) = (k, omega (arith, length-append xs (y ∷ [])), Rattle.std.proofs.lemmas.List.get_or_append_left xs (y ∷ []) c k l ∙ e)

contains_last : (xs : List ℕ) (y c : ℕ) → c ≡ y → Contains (xs ++ y ∷ []) c
contains_last xs y c e = (length xs, omega (arith, length-append xs (y ∷ [])), Rattle.std.proofs.lemmas.List.get_or_at xs y [] c (length xs) refl ∙ sym e)

pub listed_on : (P : ℕ → Type 0) (i : ℕ) (xs : List ℕ) → ((c : ℕ) → c < i → P c → Contains xs c) → (c : ℕ) → c < i + 1 → P c → Contains (xs ++ i ∷ []) c
listed_on P i xs f c l p =
    elim (cases_lt c i) [
      | inl k ↦ contains_more xs i c (f c k p)
      | inr k ↦ contains_last xs i c (omega arith)
    ]

pub passed_over : (P : ℕ → Type 0) (i : ℕ) (xs : List ℕ) → ((c : ℕ) → c < i → P c → Contains xs c) → (P i → ⊥) → (c : ℕ) → c < i + 1 → P c → Contains xs c
passed_over P i xs f n c l p =
    elim (cases_lt c i) [
      | inl k ↦ f c k p
      | inr k ↦ absurd (n (let q : c ≡ i = omega arith in subst P q p))
    ]

pub listed_if : (P : ℕ → Type 0) (i : ℕ) (xs ys : List ℕ) (b : Bool) → (b ≡ true → P i) → (P i → b ≡ true) → ys ≡ cond b (xs ++ i ∷ []) xs → ((c : ℕ) → c < i → P c → Contains xs c) → (c : ℕ) → c < i + 1 → P c → Contains ys c
listed_if P i xs ys true f g e h c l p = subst (λ zs. Contains zs c) (sym e) (listed_on P i xs h c l p)
listed_if P i xs ys Rattle.std.proofs.Common.false f g e h c l p = subst (λ zs. Contains zs c) (sym e) (passed_over P i xs h (λ q. (let z : Rattle.std.proofs.Common.false ≡ true = g q in cc)) c l p)

pub only_if : (P : ℕ → Type 0) (i : ℕ) (xs ys : List ℕ) (b : Bool) → (b ≡ true → P i) → ys ≡ cond b (xs ++ i ∷ []) xs → All P xs → All P ys
only_if P i xs ys true f e a = subst (All P) (sym e) (All-push P xs i a (f refl))
only_if P i xs ys Rattle.std.proofs.Common.false f e a = subst (All P) (sym e) a

pub nothing_more : {X : Type 0} (n : ℕ) (x : X) (xs : List X) → xs ≡ Rattle.std.proofs.Common.replicate n x → xs ++ x ∷ [] ≡ Rattle.std.proofs.Common.replicate (n + 1) x
nothing_more n x xs h = ap (λ l. l ++ x ∷ []) h ∙ Rattle.std.proofs.lemmas.List.replicate-append-replicate n 1 x
