-- Rows, and the tokens of channels.
use Rattle.std.proofs.Common.{◌≡◌, ◌≢◌, ℕ, suc, zero, ◌+◌, ◌<◌, ◌≤◌, ◌==◌, Bool, true, false, cond, Option, Some, None, List, [], ◌∷◌, length, get_or, set, refl, sym, ap, subst, arith, eq-eqb, ne_eqb, IsSomeAnd}
use Rattle.net_core.specs.Fire.{Row, Stop, Look, Take, Fires, Effect, effect_of, with_head, taking, taken, added, changed_from}

found : {o : Option ℕ} (o' : Option ℕ) (k k' : ℕ → Option Effect) (e : Effect) → with_head o k ≡ Some e
    → ((v : ℕ) → o ≡ Some v → o' ≡ Some v) → ((v : ℕ) → k v ≡ Some e → k' v ≡ Some e) → with_head o' k' ≡ Some e
found {o = None} o' k k' e q more next = cc
found {o = Some v} o' k k' e q more next = rw (more v refl) (next v q)

taking_inv : (p : ℕ) (o : Option Effect) (e : Effect) → taking p o ≡ Some e → (e' : Effect) × (o ≡ Some e') × (e ≡ record e' { takes = p ∷ e'.takes })
taking_inv p None e q = cc
taking_inv p (Some x) e q = (x, refl, cc)

-- a row that fires does the same where more heads are there
pub steady : (r : Row) (h h' : ℕ → Option ℕ) (e : Effect) → effect_of r h ≡ Some e
    → ((p v : ℕ) → h p ≡ Some v → h' p ≡ Some v) → effect_of r h' ≡ Some e
steady Stop h h' e q more = cc
steady (Look p next) h h' e q more =
    found (h' p) (λ v. effect_of (next v) h) (λ v. effect_of (next v) h') e q (more p) (λ v x. steady (next v) h h' e x more)
steady (Take p next) h h' e q more =
    found (h' p) (λ v. taking p (effect_of (next v) h)) (λ v. taking p (effect_of (next v) h')) e q (more p)
    (λ v x. let w = taking_inv p (effect_of (next v) h) e x in rw (steady (next v) h h' w.0 w.1 more) (sym (ap Some w.2)))
steady (Fires put own array strays) h h' e q more = q

-- a taken place has a head
abbrev pub Has : (ℕ → Option ℕ) → ℕ → Type 0
Has h p = (v : ℕ) × (h p ≡ Some v)

abbrev pub Each : (ℕ → Type 0) → List ℕ → Type 0
Each P [] = Unit {0}
Each P (x ∷ xs) = P x × Each P xs

head_inv : (o : Option ℕ) (k : ℕ → Option Effect) (e : Effect) → with_head o k ≡ Some e → (v : ℕ) × (o ≡ Some v) × (k v ≡ Some e)
head_inv None k e q = cc
head_inv (Some v) k e q = (v, refl, q)

pub took : (r : Row) (h : ℕ → Option ℕ) (e : Effect) → effect_of r h ≡ Some e → Each (Has h) e.takes
took Stop h e q = cc
took (Look p next) h e q = let w = head_inv (h p) (λ v. effect_of (next v) h) e q in took (next w.0) h e w.2
took (Take p next) h e q =
    let w = head_inv (h p) (λ v. taking p (effect_of (next v) h)) e q in
    let x = taking_inv p (effect_of (next w.0) h) e w.2 in
    let P : Effect → Type 0 = λ y. Each (Has h) y.takes in
    subst P (sym x.2) ((w.0, w.1), took (next w.0) h x.0 x.1)
took (Fires put own array strays) h e q =
    let P : Option Effect → Type 0 = λ y. IsSomeAnd y (λ z. Each (Has h) z.takes) in
    subst P q tt

-- two steps on one channel, of which not both take and not both put, in either order
pub swap : (g1 g2 : Bool) (a1 a2 : Option ℕ) (xs : List ℕ) → (g1 ≡ true → xs ≢ []) → (g2 ≡ true → xs ≢ [])
    → (g1 ≡ true → g2 ≡ true → ⊥) → (a1 ≢ None → a2 ≢ None → ⊥)
    → added a2 (taken g2 (added a1 (taken g1 xs))) ≡ added a1 (taken g1 (added a2 (taken g2 xs)))
swap true true a1 a2 xs n1 n2 g a = absurd (g refl refl)
swap g1 g2 (Some v) (Some w) xs n1 n2 g a = absurd (a (λ e. cc) (λ e. cc))
swap true false a1 a2 [] n1 n2 g a = absurd (n1 refl refl)
swap false true a1 a2 [] n1 n2 g a = absurd (n2 refl refl)
swap true false None None (x ∷ xs) n1 n2 g a = refl
swap true false None (Some w) (x ∷ xs) n1 n2 g a = refl
swap true false (Some v) None (x ∷ xs) n1 n2 g a = refl
swap false true None None (x ∷ xs) n1 n2 g a = refl
swap false true None (Some w) (x ∷ xs) n1 n2 g a = refl
swap false true (Some v) None (x ∷ xs) n1 n2 g a = refl
swap false false None None xs n1 n2 g a = refl
swap false false None (Some w) xs n1 n2 g a = refl
swap false false (Some v) None xs n1 n2 g a = refl

-- lists of channels
pub length-changed : (m : ℕ → List ℕ → List ℕ) (i : ℕ) (xss : List (List ℕ)) → length (changed_from m i xss) ≡ length xss
length-changed m i [] = refl
length-changed m i (x ∷ xss) = ap suc (length-changed m (suc i) xss)

pub get-changed : (m : ℕ → List ℕ → List ℕ) (i : ℕ) (xss : List (List ℕ)) (k c : ℕ) → c ≡ i + k → k < length xss
    → get_or (changed_from m i xss) k [] ≡ m c (get_or xss k [])
get-changed m i [] k c at l = absurd (omega arith)
get-changed m i (x ∷ xss) zero c at l = let e : i ≡ c = omega arith in ap (λ n. m n x) e
get-changed m i (x ∷ xss) (suc k) c at l = get-changed m (suc i) xss k c (omega arith) (omega arith)

pub changed-meet : (m n m' n' : ℕ → List ℕ → List ℕ) (i : ℕ) (xss : List (List ℕ))
    → ((c k : ℕ) → c ≡ i + k → k < length xss → m c (n c (get_or xss k [])) ≡ n' c (m' c (get_or xss k [])))
    → changed_from m i (changed_from n i xss) ≡ changed_from n' i (changed_from m' i xss)
changed-meet m n m' n' i [] h = refl
changed-meet m n m' n' i (x ∷ xss) h =
    let e = h i zero (omega arith) (omega arith) in
    let r = changed-meet m n m' n' (suc i) xss (λ c k at l. h c (suc k) (omega arith) (omega arith)) in
    cc

-- the same where the second step takes, in whichever order
pub swap_late : (g : Bool) (a1 a2 : Option ℕ) (xs : List ℕ) → (g ≡ true → xs ≢ []) → (a1 ≢ None → a2 ≢ None → ⊥)
    → added a2 (taken g (added a1 xs)) ≡ added a1 (taken g (added a2 xs))
swap_late g (Some v) (Some w) xs n a = absurd (a (λ e. cc) (λ e. cc))
swap_late false None None xs n a = refl
swap_late false None (Some w) xs n a = refl
swap_late false (Some v) None xs n a = refl
swap_late true a1 a2 [] n a = absurd (n refl refl)
swap_late true None None (x ∷ xs) n a = refl
swap_late true None (Some w) (x ∷ xs) n a = refl
swap_late true (Some v) None (x ∷ xs) n a = refl

-- for the code: the steps of a firing on the list of channels, one by one

pub changed-fuse : (m n : ℕ → List ℕ → List ℕ) (i : ℕ) (xss : List (List ℕ)) → changed_from m i (changed_from n i xss) ≡ changed_from (λ c xs. m c (n c xs)) i xss
changed-fuse m n i [] = refl
changed-fuse m n i (x ∷ xss) = ap (λ r. m i (n i x) ∷ r) (changed-fuse m n (suc i) xss)

changed-id : (m : ℕ → List ℕ → List ℕ) (i : ℕ) (xss : List (List ℕ)) → ((c : ℕ) (xs : List ℕ) → i ≤ c → m c xs ≡ xs) → changed_from m i xss ≡ xss
changed-id m i [] h = refl
changed-id m i (x ∷ xss) h = let a = h i x (omega arith) in let r = changed-id m (suc i) xss (λ c xs l. h c xs (omega arith)) in cc

-- a change of one channel is a write
pub changed-set : (f : List ℕ → List ℕ) (i j k : ℕ) (xss : List (List ℕ)) → j ≡ i + k
    → changed_from (λ c xs. cond (c == j) (f xs) xs) i xss ≡ set xss k (f (get_or xss k []))
changed-set f i j k [] e = refl
changed-set f i j zero (x ∷ xss) e =
    let a : (i == j) ≡ true = eq-eqb i j (omega arith) in
    let b : cond (i == j) (f x) x ≡ f x = rw a refl in
    let r = changed-id (λ c xs. cond (c == j) (f xs) xs) (suc i) xss (λ c xs l. let n : (c == j) ≡ false = ne_eqb c j (λ z. (omega arith)) in rw n refl) in
    cc
changed-set f i j (suc k) (x ∷ xss) e =
    let a : (i == j) ≡ false = ne_eqb i j (λ z. (omega arith)) in
    let b : cond (i == j) (f x) x ≡ x = rw a refl in
    let r = changed-set f (suc i) j k xss (omega arith) in
    cc
