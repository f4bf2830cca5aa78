-- The writes whose places stand at their variables are the last ones.
use Rattle.std.proofs.Common.{◌≡◌, ℕ, ◌+◌, ◌<◌, ◌≤◌, List, [], ◌∷◌, length, get_or, refl, sym, ◌∙◌, ap, subst, arith, inl, inr}
use Rattle.std.specs.Prelude.{Bool, true, false, ◌==◌, ◌&&◌, not, cond, set, filter, if◌then◌else◌}
use Rattle.std.specs.List.{AllByRecursion}
use Rattle.std.proofs.lemmas.Bool.{eqb-true, eq-eqb, eqb-false, ne_eqb, or_cases, or_parts}
use Rattle.std.proofs.lemmas.List.{get_or-set_same, get_or-set_other, length-set}
use Rattle.std.proofs.lemmas.List.Elements.{recursion_from_All}
use Rattle.ir.specs.declared.cfg.Write.{Write}
use Rattle.block_trim.specs.Trimming.{is_written_by, last_writes, is_unchanged, kept_writes}
use Rattle.block_trim.specs.Code.{NameVariables, noted, kept_by}

-- a variable that is not written keeps its place
noted_other : (i : ℕ) (xs : List Write) (t : List ℕ) (v : ℕ) → is_written_by xs v ≡ false → get_or (noted i xs t) v 0 ≡ get_or t v 0
noted_other i [] t v h = refl
noted_other i (x ∷ xs) t v h =
    let p = or_parts (x.var == v) (is_written_by xs v) h in
    noted_other (i + 1) xs (set t x.var i) v p.1 ∙ get_or-set_other t x.var v i 0 (λ e. eqb-false x.var v p.0 (sym e))

-- one that is written has the place of a write
noted_later : (i : ℕ) (xs : List Write) (t : List ℕ) (v : ℕ) → v < length t → is_written_by xs v ≡ true → i ≤ get_or (noted i xs t) v 0
noted_later i [] t v lt h = absurd (cc)
noted_later i (x ∷ xs) t v lt h =
    by (is_written_by xs v) refl (λ w. noted_later (i + 1) xs (set t x.var i) v (omega (arith, length-set t x.var i, lt)) w)
  where
    by : (c : Bool) → is_written_by xs v ≡ c → (is_written_by xs v ≡ true → i + 1 ≤ get_or (noted (i + 1) xs (set t x.var i)) v 0) → i ≤ get_or (noted (i + 1) xs (set t x.var i)) v 0
    by true e rest = let r = rest e in omega arith
    by false e rest =
        let is : x.var ≡ v = elim (or_cases (x.var == v) (is_written_by xs v) h) [ inl k ↦ eqb-true x.var v k | inr k ↦ absurd (cc) ] in
        let same : get_or (set t x.var i) v 0 ≡ i = ap (λ (k : ℕ). get_or (set t k i) v 0) is ∙ get_or-set_same t v i 0 lt in
        let s = noted_other (i + 1) xs (set t x.var i) v e in
        omega (arith, s, same)

same_by : (reads : List ℕ) (i : ℕ) (xs : List Write) (t : List ℕ) → AllByRecursion (λ x. x.var < length t) xs → kept_by reads (noted i xs t) i xs ≡ kept_writes reads xs
same_by reads i [] t h = refl
same_by reads i (x ∷ xs) t h =
    by (noted (i + 1) xs (set t x.var i)) refl (is_written_by xs x.var) refl (same_by reads (i + 1) xs (set t x.var i) (longer xs h.1))
  where
    longer : (ys : List Write) → AllByRecursion (λ y. y.var < length t) ys → AllByRecursion (λ y. y.var < length (set t x.var i)) ys
    longer [] k = tt
    longer (y ∷ ys) k = (let lt = k.0 in omega (arith, length-set t x.var i), longer ys k.1)

    kept : (places : List ℕ) (u : Bool) → kept_by reads places (i + 1) xs ≡ kept_writes reads xs
        → (if not u then (x ∷ kept_by reads places (i + 1) xs) else kept_by reads places (i + 1) xs) ≡ cond (not u) (x ∷ kept_writes reads xs) (kept_writes reads xs)
    kept places true rest = rest
    kept places false rest = ap (λ l. x ∷ l) rest

    by : (places : List ℕ) → noted (i + 1) xs (set t x.var i) ≡ places → (c : Bool) → is_written_by xs x.var ≡ c → kept_by reads places (i + 1) xs ≡ kept_writes reads xs
        → (if (get_or places x.var 0 == i) && not (is_unchanged reads x) then (x ∷ kept_by reads places (i + 1) xs) else kept_by reads places (i + 1) xs)
        ≡ filter (λ y. not (is_unchanged reads y)) (if c then last_writes xs else (x ∷ last_writes xs))
    by places p true e rest =
        let later : i + 1 ≤ get_or places x.var 0 = subst (λ (q : List ℕ). i + 1 ≤ get_or q x.var 0) p (noted_later (i + 1) xs (set t x.var i) x.var (let lt = h.0 in omega (arith, length-set t x.var i)) e) in
        let no : (get_or places x.var 0 == i) ≡ false = ne_eqb (get_or places x.var 0) i (λ k. omega arith) in
        ap (λ (c : Bool). if c && not (is_unchanged reads x) then (x ∷ kept_by reads places (i + 1) xs) else kept_by reads places (i + 1) xs) no ∙ rest
    by places p false e rest =
        let here : get_or places x.var 0 ≡ i = ap (λ (q : List ℕ). get_or q x.var 0) (sym p) ∙ noted_other (i + 1) xs (set t x.var i) x.var e ∙ get_or-set_same t x.var i 0 h.0 in
        let yes : (get_or places x.var 0 == i) ≡ true = eq-eqb (get_or places x.var 0) i here in
        ap (λ (c : Bool). if c && not (is_unchanged reads x) then (x ∷ kept_by reads places (i + 1) xs) else kept_by reads places (i + 1) xs) yes ∙ kept places (is_unchanged reads x) rest

pub kept_same : (reads : List ℕ) (xs : List Write) (t : List ℕ) → NameVariables (length t) xs → kept_by reads (noted 0 xs t) 0 xs ≡ kept_writes reads xs
kept_same reads xs t h = same_by reads 0 xs t (recursion_from_All (λ x. x.var < length t) xs h)
