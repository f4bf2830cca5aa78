-- The writes that are kept make what all writes make.
use Rattle.std.proofs.Common.{◌≡◌, ℕ, ◌⊎◌, List, [], ◌∷◌, Some, None, refl, sym, ◌∙◌, ap, inl, inr}
use Rattle.std.specs.Prelude.{Bool, true, false, ◌==◌, not, cond, set, filter, slice_get, Option, if◌then◌else◌}
use Rattle.std.specs.List.{AllByRecursion}
use Rattle.std.proofs.lemmas.Bool.{eqb-true, eq-eqb, or_cases, or_parts, cases_eq}
use Rattle.std.proofs.lemmas.List.{set-set, set_comm, set-get_or, get_or-set_other}
use Rattle.ir.specs.declared.cfg.Write.{Write}
use Rattle.ir.specs.Steps.{value_at}
use Rattle.ir.specs.Variables.{written}
use Rattle.block_trim.specs.Trimming.{is_written_by, last_writes, is_variable, is_unchanged, kept_writes}

-- what a later write sets makes no difference
overwritten : (vs : List ℕ) (xs : List Write) (now : List ℕ) (v z : ℕ) → is_written_by xs v ≡ true → written vs xs (set now v z) ≡ written vs xs now
overwritten vs [] now v z h = absurd (cc)
overwritten vs (x ∷ xs) now v z h = by (cases_eq x.var v) (λ next later. overwritten vs xs next v z later)
  where
    by : (x.var ≡ v) ⊎ (x.var ≡ v → ⊥) → ((next : List ℕ) → is_written_by xs v ≡ true → written vs xs (set next v z) ≡ written vs xs next)
        → written vs xs (set (set now v z) x.var (value_at vs x.value)) ≡ written vs xs (set now x.var (value_at vs x.value))
    by (inl e) rest =
        let w = value_at vs x.value in
        ap (λ (i : ℕ). written vs xs (set (set now i z) x.var w)) (sym e) ∙ ap (written vs xs) (set-set now x.var z w)
    by (inr ne) rest =
        let w = value_at vs x.value in
        let later : is_written_by xs v ≡ true = elim (or_cases (x.var == v) (is_written_by xs v) h) [ inl e ↦ absurd (ne (eqb-true x.var v e)) | inr e ↦ e ] in
        ap (written vs xs) (set_comm now v x.var z w (λ e. ne (sym e))) ∙ rest (set now x.var w) later

-- the value of each write that changes nothing stands in its variable
abbrev pub Restores : List ℕ → List ℕ → List ℕ → List Write → Type 0
Restores reads vs now xs = AllByRecursion (λ y. is_unchanged reads y ≡ true → value_at vs y.value ≡ value_at now y.var) xs

still_restores : (reads vs now : List ℕ) (xs : List Write) (v z : ℕ) → is_written_by xs v ≡ false → Restores reads vs now xs → Restores reads vs (set now v z) xs
still_restores reads vs now [] v z h r = tt
still_restores reads vs now (x ∷ xs) v z h r =
    let p = or_parts (x.var == v) (is_written_by xs v) h in
    let ne : (x.var ≡ v → ⊥) = λ e. let t : (x.var == v) ≡ true = eq-eqb x.var v e in let f = p.0 in absurd (cc) in
    ((λ u. r.0 u ∙ sym (get_or-set_other now v x.var z 0 ne)), still_restores reads vs now xs v z p.1 r.1)

pub kept_written : (reads vs : List ℕ) (xs : List Write) (now : List ℕ) → Restores reads vs now xs → written vs (kept_writes reads xs) now ≡ written vs xs now
kept_written reads vs [] now r = refl
kept_written reads vs (x ∷ xs) now r = by (is_written_by xs x.var) refl (λ next h. kept_written reads vs xs next h)
  where
    kept : (c : Bool) → is_unchanged reads x ≡ c → is_written_by xs x.var ≡ false → ((next : List ℕ) → Restores reads vs next xs → written vs (kept_writes reads xs) next ≡ written vs xs next)
        → written vs (cond (not c) (x ∷ kept_writes reads xs) (kept_writes reads xs)) now ≡ written vs xs (set now x.var (value_at vs x.value))
    kept true e last rest =
        let same : set now x.var (value_at vs x.value) ≡ now = ap (set now x.var) (r.0 e) ∙ set-get_or now x.var 0 in
        rest now r.1 ∙ ap (written vs xs) (sym same)
    kept false e last rest = rest (set now x.var (value_at vs x.value)) (still_restores reads vs now xs x.var (value_at vs x.value) last r.1)

    by : (c : Bool) → is_written_by xs x.var ≡ c → ((next : List ℕ) → Restores reads vs next xs → written vs (kept_writes reads xs) next ≡ written vs xs next)
        → written vs (filter (λ y. not (is_unchanged reads y)) (if c then last_writes xs else (x ∷ last_writes xs))) now ≡ written vs xs (set now x.var (value_at vs x.value))
    by true e rest = rest now r.1 ∙ sym (overwritten vs xs now x.var (value_at vs x.value) e)
    by false e rest = kept (is_unchanged reads x) refl e rest

-- ---- writes that are kept are some of the writes

pub all_last : (P : Write → Type 0) (xs : List Write) → AllByRecursion P xs → AllByRecursion P (last_writes xs)
all_last P [] h = tt
all_last P (x ∷ xs) h = by (is_written_by xs x.var) (all_last P xs h.1)
  where
    by : (c : Bool) → AllByRecursion P (last_writes xs) → AllByRecursion P (if c then last_writes xs else (x ∷ last_writes xs))
    by true rest = rest
    by false rest = (h.0, rest)

pub all_filtered : (p : Write → Bool) (P : Write → Type 0) (xs : List Write) → AllByRecursion P xs → AllByRecursion P (filter p xs)
all_filtered p P [] h = tt
all_filtered p P (x ∷ xs) h = by (p x) (all_filtered p P xs h.1)
  where
    by : (c : Bool) → AllByRecursion P (filter p xs) → AllByRecursion P (cond c (x ∷ filter p xs) (filter p xs))
    by true rest = (h.0, rest)
    by false rest = rest

pub all_kept : (P : Write → Type 0) (reads : List ℕ) (xs : List Write) → AllByRecursion P xs → AllByRecursion P (kept_writes reads xs)
all_kept P reads xs h = all_filtered (λ x. not (is_unchanged reads x)) P (last_writes xs) (all_last P xs h)

-- ---- what is unchanged

-- a write that changes nothing names a read of its variable
pub unchanged_read : (reads : List ℕ) (x : Write) → is_unchanged reads x ≡ true → slice_get reads x.value ≡ Some x.var
unchanged_read reads x h = by (slice_get reads x.value) refl h
  where
    by : (o : Option ℕ) → slice_get reads x.value ≡ o → is_variable x.var o ≡ true → slice_get reads x.value ≡ Some x.var
    by None e k = absurd (cc)
    by (Some r) e k = e ∙ ap (λ (i : ℕ). Some i) (eqb-true r x.var k)

pub read_unchanged : (reads : List ℕ) (x : Write) → slice_get reads x.value ≡ Some x.var → is_unchanged reads x ≡ true
read_unchanged reads x h = ap (is_variable x.var) h ∙ eq-eqb x.var x.var refl

changed : (reads : List ℕ) (ys : List Write) → AllByRecursion (λ x. ¬ (slice_get reads x.value ≡ Some x.var)) (filter (λ x. not (is_unchanged reads x)) ys)
changed reads [] = tt
changed reads (y ∷ ys) = by (is_unchanged reads y) refl (changed reads ys)
  where
    by : (c : Bool) → is_unchanged reads y ≡ c → AllByRecursion (λ x. ¬ (slice_get reads x.value ≡ Some x.var)) (filter (λ x. not (is_unchanged reads x)) ys)
        → AllByRecursion (λ x. ¬ (slice_get reads x.value ≡ Some x.var)) (cond (not c) (y ∷ filter (λ x. not (is_unchanged reads x)) ys) (filter (λ x. not (is_unchanged reads x)) ys))
    by true e rest = rest
    by false e rest = ((λ h. let t = read_unchanged reads y h in absurd (cc)), rest)

pub all_changed : (reads : List ℕ) (xs : List Write) → AllByRecursion (λ x. ¬ (slice_get reads x.value ≡ Some x.var)) (kept_writes reads xs)
all_changed reads xs = changed reads (last_writes xs)
