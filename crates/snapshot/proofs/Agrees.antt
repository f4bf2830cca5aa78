-- Lists that agree below a place, and the lines of their items.
use Rattle.std.proofs.Common.{◌≡◌, ℕ, zero, suc, ◌+◌, ◌-◌, ◌<◌, ◌≤◌, ◌⊎◌, List, [], ◌∷◌, ◌++◌, length, drop, get_or, set, refl, sym, ap, subst, ◌∙◌, inl, inr, arith, get_or-set_same, get_or-set_other}
use Rattle.std.proofs.lemmas.Bool.{cases_lt}
use Rattle.snapshot.specs.Texts.{each}
use Rattle.snapshot.specs.private.Drafts.{AgreeBelow, BlankFrom}

pub agree_less : {V : Type 0} (v : V) (m n : ℕ) (xs ys : List V) → m ≤ n → AgreeBelow v n xs ys → AgreeBelow v m xs ys
agree_less v m n xs ys le h j l = h j (omega arith)

-- one item more
pub agree_set : {V : Type 0} (v : V) (n : ℕ) (xs ys : List V) (x : V) → n < length ys → get_or xs n v ≡ x → AgreeBelow v n xs ys → AgreeBelow v (n + 1) xs (set ys n x)
agree_set {V} v n xs ys x l e h j below = by (cases_lt j n)
  where
    by : (j < n) ⊎ (n ≤ j) → get_or xs j v ≡ get_or (set ys n x) j v
    by (inl a) = h j a ∙ sym (get_or-set_other ys n j x v (λ z. omega arith))
    by (inr a) = let z : j ≡ n = omega arith in ap (λ i. get_or xs i v) z ∙ e ∙ sym (get_or-set_same ys n x v l) ∙ ap (λ i. get_or (set ys n x) i v) (sym z)

pub agree_unset : {V : Type 0} (v : V) (n : ℕ) (xs ys : List V) (x : V) → n < length ys → AgreeBelow v (n + 1) xs (set ys n x) → AgreeBelow v n xs ys × (get_or xs n v ≡ x)
agree_unset v n xs ys x l h = (λ j below. h j (omega arith) ∙ get_or-set_other ys n j x v (λ z. omega arith), h n (omega arith) ∙ get_or-set_same ys n x v l)

-- the items from a place on are the item there and those after it
pub each_unroll : (f : ℕ → List (List ℕ)) (j n : ℕ) → j < n → each f j (n - j) ≡ f j ++ each f (j + 1) (n - (j + 1))
each_unroll f j n l =
    let e : n - j ≡ suc (n - (j + 1)) = omega arith in
    let z : suc j ≡ j + 1 = omega arith in
    ap (each f j) e ∙ ap (λ k. f j ++ each f k (n - (j + 1))) z

-- what holds at a place and after it
pub from_here : {P : ℕ → Type 0} (i n : ℕ) → P i → ((j : ℕ) → suc i ≤ j → j < n → P j) → (j : ℕ) → i ≤ j → j < n → P j
from_here {P} i n here later j low high = by (cases_lt i j)
  where
    by : (i < j) ⊎ (j ≤ i) → P j
    by (inl l) = later j (omega arith) high
    by (inr l) = let z : i ≡ j = omega arith in subst P z here

-- past the last place there are none
pub each_none : (f : ℕ → List (List ℕ)) (j n : ℕ) → n ≤ j → each f j (n - j) ≡ []
each_none f j n l = let e : n - j ≡ 0 = omega arith in ap (each f j) e

module _ {V : Type 0} (v : V) (g : ℕ → V → List (List ℕ)) (empty : (i : ℕ) → g i v ≡ []) (told : (i : ℕ) (x : V) → g i x ≡ [] → x ≡ v) where
  abbrev lines : List V → ℕ → List (List ℕ)
  lines xs i = g i (get_or xs i v)

  skip_by : (xs : List V) (i d m : ℕ) → ((j : ℕ) → i ≤ j → j < i + d → get_or xs j v ≡ v) → each (lines xs) i (d + m) ≡ each (lines xs) (i + d) m
  skip_by xs i zero m h = let e : 0 + m ≡ m = omega arith in let z : i ≡ i + 0 = omega arith in ap (each (lines xs) i) e ∙ ap (λ k. each (lines xs) k m) z
  skip_by xs i (suc d) m h =
      let e : suc d + m ≡ suc (d + m) = omega arith in
      let z : suc i + d ≡ i + suc d = omega arith in
      ap (each (lines xs) i) e ∙ ap (λ l. l ++ each (lines xs) (suc i) (d + m)) (ap (g i) (h i (omega arith) (omega arith)) ∙ empty i)
      ∙ skip_by xs (suc i) d m (λ j a b. h j (omega arith) (omega arith)) ∙ ap (λ k. each (lines xs) k m) z

  -- items that are blank have no lines
  pub skip : (xs : List V) (i k n : ℕ) → i ≤ k → k ≤ n → ((j : ℕ) → i ≤ j → j < k → get_or xs j v ≡ v) → each (lines xs) i (n - i) ≡ each (lines xs) k (n - k)
  skip xs i k n a b h =
      let e : n - i ≡ (k - i) + (n - k) = omega arith in
      let z : i + (k - i) ≡ k = omega arith in
      ap (each (lines xs) i) e ∙ skip_by xs i (k - i) (n - k) (λ j c d. h j c (omega arith)) ∙ ap (λ x. each (lines xs) x (n - k)) z

  -- the first item that has a line
  record Head (xs : List V) (i n : ℕ) (l : List ℕ) : Type 0 where
    place : ℕ
    low : i ≤ place
    high : place < n
    before : (j : ℕ) → i ≤ j → j < place → get_or xs j v ≡ v
    rest : List (List ℕ)
    is : g place (get_or xs place v) ≡ l ∷ rest

  abbrev NoHead : List V → ℕ → ℕ → List (List ℕ) → List ℕ → List (List ℕ) → Type 0
  NoHead xs i n rest l more = ((j : ℕ) → i ≤ j → j < n → get_or xs j v ≡ v) × (rest ≡ l ∷ more)

  head_later : (xs : List V) (i n : ℕ) (l : List ℕ) (rest more : List (List ℕ)) → get_or xs i v ≡ v → Head xs (suc i) n l ⊎ NoHead xs (suc i) n rest l more → Head xs i n l ⊎ NoHead xs i n rest l more
  head_later xs i n l rest more e (inl h) = inl (record { place = h.place; low = (let a = h.low in omega arith); high = h.high; before = λ j a b. before_at j a b (cases_lt i j); rest = h.rest; is = h.is })
    where
      before_at : (j : ℕ) → i ≤ j → j < h.place → (i < j) ⊎ (j ≤ i) → get_or xs j v ≡ v
      before_at j a b (inl c) = h.before j (omega arith) b
      before_at j a b (inr c) = let z : j ≡ i = omega arith in ap (λ k. get_or xs k v) z ∙ e
  head_later xs i n l rest more e (inr h) = inr (λ j a b. all_at j a b (cases_lt i j), h.1)
    where
      all_at : (j : ℕ) → i ≤ j → j < n → (i < j) ⊎ (j ≤ i) → get_or xs j v ≡ v
      all_at j a b (inl c) = h.0 j (omega arith) b
      all_at j a b (inr c) = let z : j ≡ i = omega arith in ap (λ k. get_or xs k v) z ∙ e

  head_by : (xs : List V) (i m n : ℕ) (l : List ℕ) (rest more : List (List ℕ)) → i + m ≡ n → each (lines xs) i m ++ rest ≡ l ∷ more → Head xs i n l ⊎ NoHead xs i n rest l more
  head_by xs i zero n l rest more z e = inr (λ j a b. absurd (omega arith), e)
  head_by xs i (suc m) n l rest more z e = by (lines xs i) refl e (λ c. head_by xs (suc i) m n l rest more (omega arith) c)
    where
      by : (ls : List (List ℕ)) → lines xs i ≡ ls → (ls ++ each (lines xs) (suc i) m) ++ rest ≡ l ∷ more → (each (lines xs) (suc i) m ++ rest ≡ l ∷ more → Head xs (suc i) n l ⊎ NoHead xs (suc i) n rest l more)
          → Head xs i n l ⊎ NoHead xs i n rest l more
      by [] is e later = head_later xs i n l rest more (told i (get_or xs i v) is) (later e)
      by (y ∷ ys) is e later = inl (record { place = i; low = omega arith; high = omega arith; before = λ j a b. absurd (omega arith); rest = ys; is = is ∙ ap (λ x. x ∷ ys) (ap (λ x. get_or x 0 []) e) })

  head : (xs : List V) (i n : ℕ) (l : List ℕ) (rest more : List (List ℕ)) → i ≤ n → each (lines xs) i (n - i) ++ rest ≡ l ∷ more → Head xs i n l ⊎ NoHead xs i n rest l more
  head xs i n l rest more a e = head_by xs i (n - i) n l rest more (omega arith) e

  -- a line of an item is taken
  pub take_forth : (xs ys : List V) (i k n : ℕ) (x : V) (l : List ℕ) (rest more : List (List ℕ)) → i ≤ k → k < n → k < length ys → AgreeBelow v i xs ys → BlankFrom v i ys
      → ((j : ℕ) (t : List (List ℕ)) → i ≤ j → j < n → g j (get_or xs j v) ≡ l ∷ t → (j ≡ k) × (get_or xs j v ≡ x)) → (rest ≡ l ∷ more → ⊥)
      → each (lines xs) i (n - i) ++ rest ≡ l ∷ more → AgreeBelow v (k + 1) xs (set ys k x)
  take_forth xs ys i k n x l rest more a b c agree blank one none e = by (head xs i n l rest more (omega arith) e)
    where
      by : Head xs i n l ⊎ NoHead xs i n rest l more → AgreeBelow v (k + 1) xs (set ys k x)
      by (inr h) = absurd (none h.1)
      by (inl h) =
          let p = one h.place h.rest h.low h.high h.is in
          let q = p.0 in
          agree_set v k xs ys x c (ap (λ j. get_or xs j v) (sym q) ∙ p.1) (λ j d. at j d (cases_lt j i))
        where
          at : (j : ℕ) → j < k → (j < i) ⊎ (i ≤ j) → get_or xs j v ≡ get_or ys j v
          at j d (inl f) = agree j f
          at j d (inr f) = (let q = (one h.place h.rest h.low h.high h.is).0 in h.before j f (omega arith)) ∙ sym (blank j f)

  pub take_back : (xs ys : List V) (i k n : ℕ) (x : V) (l : List ℕ) (rest : List (List ℕ)) → i ≤ k → k < n → k < length ys → BlankFrom v i ys → g k x ≡ l ∷ [] → AgreeBelow v (k + 1) xs (set ys k x)
      → AgreeBelow v i xs ys × (each (lines xs) i (n - i) ++ rest ≡ l ∷ (each (lines xs) (k + 1) (n - (k + 1)) ++ rest))
  take_back xs ys i k n x l rest a b c blank is h =
      let u = agree_unset v k xs ys x c h in (
        λ j d. u.0 j (omega arith),
        ap (λ ls. ls ++ rest) (
            skip xs i k n a (omega arith) (λ j d f. u.0 j f ∙ blank j d) ∙ each_unroll (lines xs) k n b ∙ ap (λ ls. ls ++ each (lines xs) (k + 1) (n - (k + 1))) (ap (g k) u.1 ∙ is)
            ),
      )

  -- no item has the line
  pub pass_forth : (xs ys : List V) (i n : ℕ) (l : List ℕ) (rest more : List (List ℕ)) → i ≤ n → AgreeBelow v i xs ys → BlankFrom v i ys
      → ((j : ℕ) (t : List (List ℕ)) → i ≤ j → j < n → g j (get_or xs j v) ≡ l ∷ t → ⊥) → each (lines xs) i (n - i) ++ rest ≡ l ∷ more → AgreeBelow v n xs ys
  pass_forth xs ys i n l rest more a agree blank none e = by (head xs i n l rest more a e)
    where
      by : Head xs i n l ⊎ NoHead xs i n rest l more → AgreeBelow v n xs ys
      by (inl h) = absurd (none h.place h.rest h.low h.high h.is)
      by (inr h) = λ j d. at j d (cases_lt j i)
        where
          at : (j : ℕ) → j < n → (j < i) ⊎ (i ≤ j) → get_or xs j v ≡ get_or ys j v
          at j d (inl f) = agree j f
          at j d (inr f) = h.0 j f d ∙ sym (blank j f)

  pub pass_back : (xs ys : List V) (i n : ℕ) (rest : List (List ℕ)) → i ≤ n → BlankFrom v i ys → AgreeBelow v n xs ys → AgreeBelow v i xs ys × (each (lines xs) i (n - i) ++ rest ≡ rest)
  pass_back xs ys i n rest a blank h = (
    λ j d. h j (omega arith),
    ap (λ ls. ls ++ rest) (skip xs i n n a (omega arith) (λ j d f. h j f ∙ blank j d) ∙ each_none (lines xs) n n (omega arith)),
  )

  -- no two lines of different items are the same, and none is the first of what follows
  pub record Apart (xs ys : List V) (n : ℕ) (r q : List (List ℕ)) : Type 0 where
    pub one : (j : ℕ) (x : V) (l : List ℕ) (t : List (List ℕ)) → g j x ≡ l ∷ t → t ≡ []
    pub same : (i j : ℕ) (l : List ℕ) (t u : List (List ℕ)) → i < n → j < n → lines xs i ≡ l ∷ t → lines ys j ≡ l ∷ u → (i ≡ j) × (get_or xs i v ≡ get_or ys j v)
    pub no_left : (i : ℕ) (l : List ℕ) (t more : List (List ℕ)) → lines xs i ≡ l ∷ t → q ≡ l ∷ more → ⊥
    pub no_right : (j : ℕ) (l : List ℕ) (t more : List (List ℕ)) → lines ys j ≡ l ∷ t → r ≡ l ∷ more → ⊥

  abbrev Same : List V → List V → ℕ → ℕ → List (List ℕ) → List (List ℕ) → Type 0
  Same xs ys i n r q = ((j : ℕ) → i ≤ j → j < n → get_or xs j v ≡ get_or ys j v) × (r ≡ q)

  abbrev Next : List V → List V → ℕ → ℕ → ℕ → List (List ℕ) → List (List ℕ) → Type 0
  Next xs ys i m n r q = each (lines xs) (suc i) m ++ r ≡ each (lines ys) (suc i) m ++ q → Same xs ys (suc i) n r q

  -- lists that have the same lines are the same
  pub same_items : (xs ys : List V) (i m n : ℕ) (r q : List (List ℕ)) → i + m ≡ n → Apart xs ys n r q → each (lines xs) i m ++ r ≡ each (lines ys) i m ++ q → Same xs ys i n r q
  same_items xs ys i zero n r q z a e = (λ j low high. absurd (omega arith), e)
  same_items xs ys i (suc m) n r q z a e = by (λ c. same_items xs ys (suc i) m n r q (omega arith) a c) (lines xs i) (lines ys i) refl refl e
    where
      later : Next xs ys i m n r q → each (lines xs) (suc i) m ++ r ≡ each (lines ys) (suc i) m ++ q → get_or xs i v ≡ get_or ys i v → Same xs ys i n r q
      later next f here = let rest = next f in (from_here i n here rest.0, rest.1)

      only_right : (l : List ℕ) (u more : List (List ℕ)) → lines ys i ≡ l ∷ u → Head xs (suc i) n l ⊎ NoHead xs (suc i) n r l more → ⊥
      only_right l u more h (inl w) = let p = (a.same w.place i l w.rest u w.high (omega arith) w.is h).0 in let o = w.low in omega arith
      only_right l u more h (inr w) = a.no_right i l u more h w.1

      only_left : (l : List ℕ) (t more : List (List ℕ)) → lines xs i ≡ l ∷ t → Head ys (suc i) n l ⊎ NoHead ys (suc i) n q l more → ⊥
      only_left l t more f (inl w) = let p = (a.same i w.place l t w.rest (omega arith) w.high f w.is).0 in let o = w.low in omega arith
      only_left l t more f (inr w) = a.no_left i l t more f w.1

      by : Next xs ys i m n r q → (ls ks : List (List ℕ)) → lines xs i ≡ ls → lines ys i ≡ ks → (ls ++ each (lines xs) (suc i) m) ++ r ≡ (ks ++ each (lines ys) (suc i) m) ++ q → Same xs ys i n r q
      by next [] [] f h c = later next c (told i (get_or xs i v) f ∙ sym (told i (get_or ys i v) h))
      by next [] (l ∷ u) f h c = absurd (only_right l u _ h (head_by xs (suc i) m n l r ((u ++ each (lines ys) (suc i) m) ++ q) (omega arith) c))
      by next (l ∷ t) [] f h c = absurd (only_left l t _ f (head_by ys (suc i) m n l q ((t ++ each (lines xs) (suc i) m) ++ r) (omega arith) (sym c)))
      by next (l ∷ t) (k ∷ u) f h c =
          let first : k ≡ l = ap (λ ls. get_or ls 0 []) (sym c) in
          let none : t ≡ [] = a.one i (get_or xs i v) l t f in
          let nor : u ≡ [] = a.one i (get_or ys i v) k u h in
          later next (ap (λ ls. (ls ++ each (lines xs) (suc i) m) ++ r) (sym none) ∙ ap (drop 1) c ∙ ap (λ ls. (ls ++ each (lines ys) (suc i) m) ++ q) nor)
          (a.same i i l t u (omega arith) (omega arith) f (h ∙ ap (λ x. x ∷ u) first)).1
