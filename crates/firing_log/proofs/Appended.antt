-- One firing more at the end of a log.
use Rattle.std.proofs.Common.{◌≡◌, ℕ, suc, ◌+◌, ◌≤◌, Bool, true, false, cond, IsFalse, List, [], ◌∷◌, ◌++◌, length, get_or, refl, ap, ◌∙◌, sym, arith}
use Rattle.net_types.specs.declared.firing.Act.{Act}
use Rattle.net_types.specs.declared.firing.Act.TheVariants as acts
use Rattle.firing_log.specs.declared.entry.Entry.{Entry}
use Rattle.firing_log.specs.declared.family.Family.{Family}
use Rattle.firing_log.specs.declared.family.Family.TheVariants as families
use Rattle.firing_log.specs.declared.firing_log.Made.{Made}
use Rattle.firing_log.specs.Families.{act_of, family_of, has_number, has_serial, numbers_of, serials_of}
use Rattle.firing_log.specs.Kept.{count_of}
use Rattle.firing_log.specs.Made.{entries_of, entry_after, last_stamp, past_if, stamp_after}

-- ---- one list

abbrev pub one_if : Bool → ℕ
one_if b = cond b 1 0

past_more : (b : Bool) (xs ys : List ℕ) → one_if b ≤ length xs → past_if b (xs ++ ys) ≡ past_if b xs ++ ys
past_more false xs ys l = refl
past_more true [] ys l = absurd (omega (arith, l))
past_more true (x ∷ xs) ys l = refl

pub past_long : {T : Type 0} (b : Bool) (xs : List T) → one_if b ≤ length xs → length (past_if b xs) + one_if b ≡ length xs
past_long false xs l = omega arith
past_long true [] l = absurd (omega (arith, l))
past_long true (x ∷ xs) l = omega arith

first_more : (xs ys : List ℕ) → 1 ≤ length xs → get_or (xs ++ ys) 0 0 ≡ get_or xs 0 0
first_more [] ys l = absurd (omega (arith, l))
first_more (x ∷ xs) ys l = refl

none_of : (xs : List ℕ) → length xs ≡ 0 → [] ≡ xs
none_of [] l = refl
none_of (x ∷ xs) l = absurd (omega (arith, l))

-- ---- one act

act_same : (f : Family) (ns ys ss zs : List ℕ) → one_if (has_number f) ≤ length ns → one_if (has_serial f) ≤ length ss
    → act_of f (get_or (ns ++ ys) 0 0) (get_or (ss ++ zs) 0 0) ≡ act_of f (get_or ns 0 0) (get_or ss 0 0)
act_same families.From ns ys ss zs p q = ap (λ (n : ℕ). acts.From n) (first_more ns ys p)
act_same families.Send ns ys ss zs p q = ap (λ (n : ℕ). acts.Send n) (first_more ns ys p)
act_same families.Alloc ns ys ss zs p q = ap (λ (n : ℕ). acts.Alloc n) (first_more ns ys p)
act_same families.Addr ns ys ss zs p q = ap (λ (n : ℕ). acts.Addr n) (first_more ns ys p)
act_same families.Data ns ys ss zs p q = ap (λ (n : ℕ). acts.Data n) (first_more ns ys p)
act_same families.Exec ns ys ss zs p q = ap (λ (n : ℕ). acts.Exec n) (first_more ss zs q)
act_same families.Reply ns ys ss zs p q = ap (λ (n : ℕ). acts.Reply n) (first_more ns ys p)
act_same _ ns ys ss zs p q = refl

act_back : (a : Act) → act_of (family_of a) (get_or (numbers_of a) 0 0) (get_or (serials_of a) 0 0) ≡ a
act_back acts.Go = refl
act_back _ = refl

pub numbers_long : (a : Act) → length (numbers_of a) ≡ one_if (has_number (family_of a))
numbers_long acts.Go = refl
numbers_long _ = refl

pub serials_long : (a : Act) → length (serials_of a) ≡ one_if (has_serial (family_of a))
serials_long acts.Go = refl
serials_long _ = refl

-- ---- the stamps

stamp_same : (n : ℕ) (m : Made) (ts ys : List ℕ) (b : Bool) → b ≡ m.jumps → one_if b ≤ length ts → cond b (get_or (ts ++ ys) 0 0) (suc n) ≡ cond b (get_or ts 0 0) (suc n)
stamp_same n m ts ys false is l = refl
stamp_same n m ts ys true is l = first_more ts ys l

stamp_more : (n : ℕ) (m : Made) (ts ys : List ℕ) → one_if m.jumps ≤ length ts → stamp_after n m (ts ++ ys) ≡ stamp_after n m ts
stamp_more n m ts ys l = stamp_same n m ts ys m.jumps refl l

stamp_one : (n s : ℕ) (b : Bool) → (IsFalse b → s ≡ suc n) → cond b (get_or (cond b (s ∷ []) []) 0 0) (suc n) ≡ s
stamp_one n s true is = refl
stamp_one n s false is = sym (is refl)

-- ---- the whole log

-- the lists of numbers, serial numbers and stamps are as long as the firings need
pub record IsLong (ms : List Made) (ns ss ts : List ℕ) : Type 0 where
  pub numbers : length ns ≡ count_of (λ m. has_number m.family) ms
  pub serials : length ss ≡ count_of (λ m. has_serial m.family) ms
  pub stamps : length ts ≡ count_of (λ m. m.jumps) ms

needed : (m : Made) (ms : List Made) (p : Made → Bool) (xs : List ℕ) → length xs ≡ count_of p (m ∷ ms) → one_if (p m) ≤ length xs
needed m ms p xs l = omega (arith, l)

left_long : (m : Made) (ms : List Made) (p : Made → Bool) (xs : List ℕ) → length xs ≡ count_of p (m ∷ ms) → length (past_if (p m) xs) ≡ count_of p ms
left_long m ms p xs l = omega (arith, l, past_long (p m) xs (needed m ms p xs l))

pub rest_long : (m : Made) (ms : List Made) (ns ss ts : List ℕ) → IsLong (m ∷ ms) ns ss ts
    → IsLong ms (past_if (has_number m.family) ns) (past_if (has_serial m.family) ss) (past_if m.jumps ts)
rest_long m ms ns ss ts l = record {
  numbers = left_long m ms (λ m. has_number m.family) ns l.numbers;
  serials = left_long m ms (λ m. has_serial m.family) ss l.serials;
  stamps = left_long m ms (λ m. m.jumps) ts l.stamps;
}

abbrev made_of : ℕ → Act → Bool → Made
made_of u a b = record { unit = u; family = family_of a; jumps = b }

abbrev one_entry : ℕ → ℕ → Act → Entry
one_entry s u a = record { stamp = s; firing = record { unit = u; act = a } }

abbrev stamps_if : Bool → ℕ → List ℕ
stamps_if b s = cond b (s ∷ []) []

first_one : (n u s : ℕ) (a : Act) (b : Bool) → (IsFalse b → s ≡ suc n)
    → entries_of n (made_of u a b ∷ []) (numbers_of a) (serials_of a) (stamps_if b s) ≡ one_entry s u a ∷ []
first_one n u s a b is =
    ap (λ (t : ℕ). one_entry t u (act_of (family_of a) (get_or (numbers_of a) 0 0) (get_or (serials_of a) 0 0)) ∷ []) (stamp_one n s b is)
    ∙ ap (λ (c : Act). one_entry s u c ∷ []) (act_back a)

entry_same : (n : ℕ) (m : Made) (ms : List Made) (ns ss ts ys zs xs : List ℕ) → IsLong (m ∷ ms) ns ss ts
    → entry_after n m (ns ++ ys) (ss ++ zs) (ts ++ xs) ≡ entry_after n m ns ss ts
entry_same n m ms ns ss ts ys zs xs l =
    ap (λ (t : ℕ). one_entry t m.unit (act_of m.family (get_or (ns ++ ys) 0 0) (get_or (ss ++ zs) 0 0))) (stamp_more n m ts xs (needed m ms (λ m. m.jumps) ts l.stamps))
    ∙ ap (λ (c : Act). one_entry (stamp_after n m ts) m.unit c)
    (act_same m.family ns ys ss zs (needed m ms (λ m. has_number m.family) ns l.numbers) (needed m ms (λ m. has_serial m.family) ss l.serials))

rest_same : (n : ℕ) (m : Made) (ms ks : List Made) (ns ss ts ys zs xs : List ℕ) → IsLong (m ∷ ms) ns ss ts
    → entries_of (stamp_after n m (ts ++ xs)) ks (past_if (has_number m.family) (ns ++ ys)) (past_if (has_serial m.family) (ss ++ zs)) (past_if m.jumps (ts ++ xs))
    ≡ entries_of (stamp_after n m ts) ks (past_if (has_number m.family) ns ++ ys) (past_if (has_serial m.family) ss ++ zs) (past_if m.jumps ts ++ xs)
rest_same n m ms ks ns ss ts ys zs xs l =
    ap (λ (t : ℕ). entries_of t ks (past_if (has_number m.family) (ns ++ ys)) (past_if (has_serial m.family) (ss ++ zs)) (past_if m.jumps (ts ++ xs)))
    (stamp_more n m ts xs (needed m ms (λ m. m.jumps) ts l.stamps))
    ∙ (ap (λ (v : List ℕ). entries_of (stamp_after n m ts) ks v (past_if (has_serial m.family) (ss ++ zs)) (past_if m.jumps (ts ++ xs)))
    (past_more (has_number m.family) ns ys (needed m ms (λ m. has_number m.family) ns l.numbers))
    ∙ (ap (λ (v : List ℕ). entries_of (stamp_after n m ts) ks (past_if (has_number m.family) ns ++ ys) v (past_if m.jumps (ts ++ xs)))
    (past_more (has_serial m.family) ss zs (needed m ms (λ m. has_serial m.family) ss l.serials))
    ∙ ap (λ (v : List ℕ). entries_of (stamp_after n m ts) ks (past_if (has_number m.family) ns ++ ys) (past_if (has_serial m.family) ss ++ zs) v)
    (past_more m.jumps ts xs (needed m ms (λ m. m.jumps) ts l.stamps))))

none_first : (n u s : ℕ) (a : Act) (b : Bool) (ns ss ts : List ℕ) → [] ≡ ns → [] ≡ ss → [] ≡ ts → (IsFalse b → s ≡ suc n)
    → entries_of n (made_of u a b ∷ []) (ns ++ numbers_of a) (ss ++ serials_of a) (ts ++ stamps_if b s) ≡ one_entry s u a ∷ []
none_first n u s a b [] [] [] p q r is = first_one n u s a b is
none_first n u s a b (x ∷ ns) ss ts p q r is = absurd (omega (arith, ap length p))
none_first n u s a b [] (x ∷ ss) ts p q r is = absurd (omega (arith, ap length q))
none_first n u s a b [] [] (x ∷ ts) p q r is = absurd (omega (arith, ap length r))

pub appended : (n u s : ℕ) (a : Act) (b : Bool) (ms : List Made) (ns ss ts : List ℕ) → IsLong ms ns ss ts → (IsFalse b → s ≡ suc (last_stamp n ms ts))
    → entries_of n (ms ++ made_of u a b ∷ []) (ns ++ numbers_of a) (ss ++ serials_of a) (ts ++ stamps_if b s) ≡ entries_of n ms ns ss ts ++ one_entry s u a ∷ []
appended n u s a b [] ns ss ts l is = none_first n u s a b ns ss ts (none_of ns l.numbers) (none_of ss l.serials) (none_of ts l.stamps) is
appended n u s a b (m ∷ ms) ns ss ts l is =
    let more = entries_of (stamp_after n m (ts ++ stamps_if b s)) (ms ++ made_of u a b ∷ []) (past_if (has_number m.family) (ns ++ numbers_of a)) (past_if (has_serial m.family) (ss ++ serials_of a)) (past_if m.jumps (ts ++ stamps_if b s)) in
    ap (λ (e : Entry). e ∷ more) (entry_same n m ms ns ss ts (numbers_of a) (serials_of a) (stamps_if b s) l)
    ∙ ap (λ (es : List Entry). entry_after n m ns ss ts ∷ es)
    (rest_same n m ms (ms ++ made_of u a b ∷ []) ns ss ts (numbers_of a) (serials_of a) (stamps_if b s) l
    ∙ appended (stamp_after n m ts) u s a b ms (past_if (has_number m.family) ns) (past_if (has_serial m.family) ss) (past_if m.jumps ts) (rest_long m ms ns ss ts l) is)

none_last : (n u s : ℕ) (a : Act) (b : Bool) (ts : List ℕ) → [] ≡ ts → (IsFalse b → s ≡ suc n) → last_stamp n (made_of u a b ∷ []) (ts ++ stamps_if b s) ≡ s
none_last n u s a b [] r is = stamp_one n s b is
none_last n u s a b (x ∷ ts) r is = absurd (omega (arith, ap length r))

pub last_appended : (n u s : ℕ) (a : Act) (b : Bool) (ms : List Made) (ts : List ℕ) → length ts ≡ count_of (λ m. m.jumps) ms → (IsFalse b → s ≡ suc (last_stamp n ms ts))
    → last_stamp n (ms ++ made_of u a b ∷ []) (ts ++ stamps_if b s) ≡ s
last_appended n u s a b [] ts l is = none_last n u s a b ts (none_of ts l) is
last_appended n u s a b (m ∷ ms) ts l is =
    ap (λ (t : ℕ). last_stamp t (ms ++ made_of u a b ∷ []) (past_if m.jumps (ts ++ stamps_if b s))) (stamp_more n m ts (stamps_if b s) (needed m ms (λ m. m.jumps) ts l))
    ∙ (ap (λ (v : List ℕ). last_stamp (stamp_after n m ts) (ms ++ made_of u a b ∷ []) v) (past_more m.jumps ts (stamps_if b s) (needed m ms (λ m. m.jumps) ts l))
    ∙ last_appended (stamp_after n m ts) u s a b ms (past_if m.jumps ts) (left_long m ms (λ m. m.jumps) ts l) is)

pub count_appended : (p : Made → Bool) (ms : List Made) (k : Made) → count_of p (ms ++ k ∷ []) ≡ count_of p ms + one_if (p k)
count_appended p [] k = omega arith
count_appended p (m ∷ ms) k = omega (arith, count_appended p ms k)

pub entries_long : (n : ℕ) (ms : List Made) (ns ss ts : List ℕ) → length (entries_of n ms ns ss ts) ≡ length ms
entries_long n [] ns ss ts = refl
entries_long n (m ∷ ms) ns ss ts =
    ap suc (entries_long (stamp_after n m ts) ms (past_if (has_number m.family) ns) (past_if (has_serial m.family) ss) (past_if m.jumps ts))
